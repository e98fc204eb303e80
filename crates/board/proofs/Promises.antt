-- The board does the meaning's step, stays within the limits, and its contracts leave no choice. Assumes nothing.
use Prim.Native.Nat.{ℕ, ◌≤◌}
use native.Mathlib.Omega.{arith}
use native.Mathlib.Decide.{ℕ_discrete}
use mathlib.Core.Path.{◌≡◌, refl, sym, ap, ◌∙◌}
use mathlib.Core.Bool.{Bool, true, false}
use mathlib.Core.List.{List, []}
use borrow.Author.Tests.{le-leb, eq-eqb, le-ltb, eqb-true}
use lib.Dec.{eqb, leb}
use lib.ListN.{length, take, drop, length-take, length-replicate}
use Rattle.meaning.specs.Bytes.{pick, put, both, zeros}
use Rattle.meaning.specs.State as meaning
use Rattle.meaning.specs.State.{Plate, Line, state_ok, fresh, plate_ok}
use Rattle.meaning.specs.Fields.{memory_length}
use Rattle.meaning.specs.Characters.{remaining}
use Rattle.meaning.specs.Run as run
use Rattle.meaning.specs.Run.{Call, Held, step, untouched, called, refused_by, lends}
use Rattle.meaning.proofs.Puts.{length-put}
use Rattle.meaning.proofs.Limits.{keeps_limits, fresh-within}
use Rattle.meaning.proofs.Sizes.{keeps_size}
use Rattle.line.specs.declared.characters.OpenFrame.{OpenFrame}
use Rattle.line.specs.Line.{line_of, remaining_of}
use Rattle.line.proofs.Tight.{same-line-same-frame, put-long, same-remaining}
use Rattle.state.specs.declared.state.State.{State}
use Rattle.state.proofs.Same.{same-state}
use Rattle.board.specs.declared.limits.Board.{Board}
use Rattle.board.specs.declared.calls.Refusal.{Refusal}
use Rattle.board.specs.declared.calls.Stepped.{Stepped}
use Rattle.board.specs.Board.{state_of, fits_in, refusal_on, refused_as, called_on, outcome_of, told_of, carried_by, carried_of, board_after, unheard, ReadsOldest, Steps}
use Rattle.std.proofs.Common.{Option, None, Some, Result, Ok, Err, IsOk}
use Rattle.board.specs.Promises.{DoesStep, Within, SinceFresh, start, next}
use Rattle.meaning.proofs.Choices.{told-true, true-told, pick_same}
use Rattle.board.proofs.Bounding.{lends-poll}
use Rattle.state.specs.declared.faults.Oldest.{Oldest}
use Rattle.board.specs.Quick.{TakesIn}
use Rattle.board.proofs.Stepping.{held_on, same_len, told-ok, unchanged}
use Rattle.board.proofs.Quickening.{fits_told}

-- where nothing is refused, the call does the meaning's step
module _ (p : Plate) (b : Board) (k m w : List ℕ) {r : Result Stepped Refusal} {k' m' w' : List ℕ} where
  pub does_step : (g : Call) → refusal_on p b k m (length w) g ≡ 0 → Steps p b k m w g r k' m' w' → DoesStep p b k m w g r k' m' w'
  unfolding outcome_of refused_as
  does_step g e s =
      let h = held_on p b k m w g e in
      record { state = rw h at s.state; memory = rw h at s.memory; room = rw h at s.room; outcome = rw h at s.outcome; sleep = rw h at s.sleep }

  pub character_steps : (t v : ℕ) (bad : Bool) → refusal_on p b k m (length w) (run.character t v bad) ≡ 0
      → Steps p b k m w (run.character t v bad) r k' m' w' → DoesStep p b k m w (run.character t v bad) r k' m' w'
  character_steps t v bad = does_step (run.character t v bad)

  pub poll_steps : (t : ℕ) → refusal_on p b k m (length w) (run.poll t) ≡ 0 → Steps p b k m w (run.poll t) r k' m' w' → DoesStep p b k m w (run.poll t) r k' m' w'
  poll_steps t = does_step (run.poll t)

  pub measured_steps : (x : ℕ) → refusal_on p b k m (length w) (run.measured x) ≡ 0 → Steps p b k m w (run.measured x) r k' m' w'
      → DoesStep p b k m w (run.measured x) r k' m' w'
  measured_steps x = does_step (run.measured x)

  pub fault_steps : (c : ℕ) → refusal_on p b k m (length w) (run.fault c) ≡ 0 → Steps p b k m w (run.fault c) r k' m' w' → DoesStep p b k m w (run.fault c) r k' m' w'
  fault_steps c = does_step (run.fault c)

  pub power_on_steps : refusal_on p b k m (length w) run.power_on ≡ 0 → Steps p b k m w run.power_on r k' m' w' → DoesStep p b k m w run.power_on r k' m' w'
  power_on_steps = does_step run.power_on

-- .. and answers it
pub is_answered : (p : Plate) (b : Board) (k m w : List ℕ) (g : Call) {r : Result Stepped Refusal} {k' m' w' : List ℕ} → refusal_on p b k m (length w) g ≡ 0 → Steps p b k m w g r k' m' w' → IsOk r
is_answered p b k m w g {r} e s = told-ok r (does_step p b k m w g e s).outcome

-- within the limits and with room enough nothing is refused
pub unrefused : (p : Plate) (b : Board) (k m : List ℕ) (n : ℕ) (g : Call) → Within p b k m → 134 ≤ n → refusal_on p b k m n g ≡ 0
unfolding refusal_on refused_by fits_in
unrefused p b k m n g h wide =
    rw (le-leb b.frame.len 135 h.few, eq-eqb (length k) 135 h.places, h.plate, h.state, eq-eqb (length m) (memory_length p.total) h.size, le-ltb n 134 wide)
    (pick_same (lends g) 0)

-- and an unrefused call stays within
pub stays_within : (p : Plate) (b : Board) (k m w : List ℕ) (g : Call) {r : Result Stepped Refusal} {k' m' w' : List ℕ} → Within p b k m → 134 ≤ length w
    → Steps p b k m w g r k' m' w' → Within p (board_after b r) k' m'
stays_within p b k m w g {r} {k'} h wide s =
    let e = unrefused p b k m (length w) g h wide in
    let d = does_step p b k m w g e s in
    let q = ap (λ (x : Held). x.refusal) (held_on p b k m w g e) in
    let ln : Line = (step p (state_of b k) m g).state.line in
    let kk : k' ≡ put k 0 ln.kept = rw (held_on p b k m w g e) at s.bytes in
    let same : take (board_after b r).frame.len k' ≡ ln.kept = ap (λ (x : meaning.State). x.line.kept) d.state in
    let low : length ln.kept ≤ 135 = rw (← same) (omega (arith, length-take (board_after b r).frame.len k', s.few q)) in
    record {
      plate = h.plate;
      state = rw d.state (told-true (state_ok p (step p (state_of b k) m g).state) (keeps_limits p (state_of b k) m g (true-told (state_ok p (state_of b k)) h.state)));
      few = s.few q;
      places = rw kk (length-put k 0 ln.kept (omega (arith, h.places)) ∙ h.places);
      size = rw d.memory (keeps_size p (state_of b k) m g h.size);
    }

-- so a host that only calls, from fresh, never meets a refusal
pub since-fresh-within : (p : Plate) {b : Board} {k m : List ℕ} → SinceFresh p b k m → Within p b k m
since-fresh-within p (start b k m i j l n e) =
    record { plate = i; state = rw e (told-true (state_ok p (fresh p)) (fresh-within p (true-told (plate_ok p) i))); few = n; places = j; size = l }
since-fresh-within p (next b k m w g r k' m' w' h wide s) = stays_within p b k m w g (since-fresh-within p h) wide s

pub never-refused : (p : Plate) (b : Board) (k m : List ℕ) (n : ℕ) (g : Call) → SinceFresh p b k m → 134 ≤ n → refusal_on p b k m n g ≡ 0
never-refused p b k m n g h wide = unrefused p b k m n g (since-fresh-within p h) wide

boards : {s t : State} {f g : OpenFrame} → s ≡ t → f ≡ g → ◌≡◌ {A = Board} (record { state = s; frame = f }) (record { state = t; frame = g })
boards i j = rw (i, j)

-- the meaning's state says which board it is
pub same-state-same-board : (a b : Board) (k : List ℕ) → a.frame.len ≤ 135 → b.frame.len ≤ 135 → 135 ≤ length k → state_of a k ≡ state_of b k → a ≡ b
same-state-same-board a b k h i j e =
    let l : line_of a.frame k ≡ line_of b.frame k = ap (λ (x : meaning.State). x.line) e in
    boards (same-state a.state b.state (line_of a.frame k) (line_of b.frame k) e) (same-line-same-frame a.frame b.frame k h i j l)

-- what a contract's outcome is made of
pub record Alike (r t : Result Stepped Refusal) (k' k'' m' m'' w' w'' : List ℕ) : Type 0 where
  pub stepped : r ≡ t
  pub kept : k' ≡ k''
  pub memory : m' ≡ m''
  pub room : w' ≡ w''

-- a call that is not refused has its 135 places
has_places : (p : Plate) (b : Board) (k m w : List ℕ) (g : Call) → (called_on p b k m w g).refusal ≡ 0 → length k ≡ 135
unfolding called_on fits_in
has_places p b k m w g e = go (leb b.frame.len 135) (eqb (length k) 135) refl e
  where
    go : (x y : Bool) → eqb (length k) 135 ≡ y
        → (pick (both x y) (called p (state_of b k) m w g) (untouched 1 (state_of b k) m w)).refusal ≡ 0 → length k ≡ 135
    go x true q e = eqb-true (length k) 135 q
    go true false q e = absurd (omega arith)
    go false false q e = absurd (omega arith)

-- the meaning's case says what is carried in the code
same-carried : (lent : Bool) (x y : Option ℕ) → carried_by lent x ≡ carried_by lent y → x ≡ y
same-carried lent (Some n) (Some l) e = cc
same-carried true (Some n) None e = cc
same-carried false (Some n) None e = cc
same-carried true None (Some n) e = cc
same-carried false None (Some n) e = cc
same-carried lent None None e = refl

answers : {a b : Board} {x y u v : Option ℕ} → a ≡ b → x ≡ y → u ≡ v
    → ◌≡◌ {A = Stepped} (record { board = a; reply = x; remaining = u }) (record { board = b; reply = y; remaining = v })
answers i j n = rw (i, j, n)

-- no two differing answers tell the same, carry the same and leave the same board
same-answer : (b : Board) (g : Call) (r t : Result Stepped Refusal) → told_of r ≡ told_of t → carried_of g r ≡ carried_of g t → board_after b r ≡ board_after b t → r ≡ t
same-answer b g (Ok x) (Ok y) h i j = ap Ok (answers j (cc) (same-carried (lends g) x.remaining y.remaining i))
same-answer b g (Ok x) (Err e) h i j = cc
same-answer b g (Err e) (Ok y) h i j = cc
same-answer b g (Err e) (Err f) h i j = cc

-- no two differing outcomes satisfy the contract of a call
pub calls_tight : (p : Plate) (b : Board) (k m w : List ℕ) (g : Call) {r t : Result Stepped Refusal} {k' k'' m' m'' w' w'' : List ℕ} → Steps p b k m w g r k' m' w'
    → Steps p b k m w g t k'' m'' w'' → Alike r t k' k'' m' m'' w' w''
calls_tight p b k m w g {r} {t} {k'} {k''} x y =
    record {
      stepped = same-answer b g r t (x.outcome ∙ sym y.outcome) (x.sleep ∙ sym y.sleep) (go (ℕ_discrete (called_on p b k m w g).refusal 0));
      kept = x.bytes ∙ sym y.bytes;
      memory = x.memory ∙ sym y.memory;
      room = x.room ∙ sym y.room;
    }
  where
    go : Dec ((called_on p b k m w g).refusal ≡ 0) → board_after b r ≡ board_after b t
    go (yes e) =
        let kk : k' ≡ k'' = x.bytes ∙ sym y.bytes in
        let long : 135 ≤ length k' = rw x.bytes (omega (arith, put-long k (called_on p b k m w g).state.line.kept, has_places p b k m w g e)) in
        same-state-same-board (board_after b r) (board_after b t) k' (x.few e) (y.few e) long (x.state ∙ sym (ap (state_of (board_after b t)) kk ∙ y.state))
    go (no h) = unchanged p b k m w g h x ∙ sym (unchanged p b k m w g h y)

pub refusal_tight : (p : Plate) (b : Board) (k m n : ℕ) (x y : Result Unit Refusal)
    → ((kept mem : List ℕ) (g : Call) → length kept ≡ k → length mem ≡ m → lends g ≡ true → x ≡ refused_as (refusal_on p b kept mem n g) (tt {0}))
    → ((kept mem : List ℕ) (g : Call) → length kept ≡ k → length mem ≡ m → lends g ≡ true → y ≡ refused_as (refusal_on p b kept mem n g) (tt {0})) → x ≡ y
refusal_tight p b k m n x y h i =
    h (zeros k) (zeros m) (run.poll 0) (length-replicate {A = ℕ} k 0) (length-replicate {A = ℕ} m 0) (lends-poll 0)
    ∙ sym (i (zeros k) (zeros m) (run.poll 0) (length-replicate {A = ℕ} k 0) (length-replicate {A = ℕ} m 0) (lends-poll 0))

same-unheard : (r t : Result Board Refusal) → unheard r ≡ unheard t → r ≡ t
same-unheard (Ok x) (Ok y) h = ap Ok (ap (board_after x) h)
same-unheard (Ok x) (Err e) h = cc
same-unheard (Err e) (Ok y) h = cc
same-unheard (Err e) (Err f) h = cc

-- the calls that lend nothing, whatever the host holds
pub alone_tight : (p : Plate) (b : Board) (g : Call) (r t : Result Board Refusal) → ((kept m w : List ℕ) → length kept ≡ 135 → Steps p b kept m w g (unheard r) kept m w)
    → ((kept m w : List ℕ) → length kept ≡ 135 → Steps p b kept m w g (unheard t) kept m w) → r ≡ t
alone_tight p b g r t h i =
    same-unheard r t (calls_tight p b (zeros 135) [] [] g (h (zeros 135) [] [] (length-replicate {A = ℕ} 135 0)) (i (zeros 135) [] [] (length-replicate {A = ℕ} 135 0))).stepped

-- ---- what a board says of any places, it says of itself

frames : {b c : Bool} {l l' n n' x x' : ℕ} {o o' q q' : Bool} → b ≡ c → l ≡ l' → n ≡ n' → x ≡ x' → o ≡ o' → q ≡ q'
    → ◌≡◌ {A = OpenFrame} (record { begun = b; last = l; len = n; sum = x; longer = o; parity = q }) (record { begun = c; last = l'; len = n'; sum = x'; longer = o'; parity = q' })
frames e f g h i j = rw (e, f, g, h, i, j)

pub board_tight : (a b : Board) (x : List ℕ → meaning.State) → ((kept : List ℕ) → state_of a kept ≡ x kept) → ((kept : List ℕ) → state_of b kept ≡ x kept) → a ≡ b
board_tight a b x h i =
    let e : (kept : List ℕ) → state_of a kept ≡ state_of b kept = λ kept. h kept ∙ sym (i kept) in
    let l : line_of a.frame [] ≡ line_of b.frame [] = ap (λ (s : meaning.State). s.line) (e []) in
    boards (same-state a.state b.state (line_of a.frame []) (line_of b.frame []) (e []))
    (frames (ap (λ (y : Line). y.begun) l) (ap (λ (y : Line). y.last) l) (same_len a b (λ kept. ap (λ (s : meaning.State). s.line.kept) (e kept)))
    (ap (λ (y : Line). y.sum) l) (ap (λ (y : Line). y.longer) l) (ap (λ (y : Line). y.parity) l))

pub fresh_tight : (p : Plate) (a b : Board) → ((kept : List ℕ) → state_of a kept ≡ fresh p) → ((kept : List ℕ) → state_of b kept ≡ fresh p) → a ≡ b
fresh_tight p a b = board_tight a b (λ kept. fresh p)

pub note_tight : (b : Board) (c : ℕ) (x y : Board) → ((kept : List ℕ) → state_of x kept ≡ meaning.noted (state_of b kept) c)
    → ((kept : List ℕ) → state_of y kept ≡ meaning.noted (state_of b kept) c) → x ≡ y
note_tight b c x y = board_tight x y (λ kept. meaning.noted (state_of b kept) c)

pub power_on_tight : (b x y : Board) → ((kept : List ℕ) → state_of x kept ≡ meaning.powered_on (state_of b kept))
    → ((kept : List ℕ) → state_of y kept ≡ meaning.powered_on (state_of b kept)) → x ≡ y
power_on_tight b x y = board_tight x y (λ kept. meaning.powered_on (state_of b kept))

oldests : {c e : ℕ} {a b : Board} → c ≡ e → a ≡ b → ◌≡◌ {A = Oldest Board} (record { code = c; rest = a }) (record { code = e; rest = b })
oldests i j = rw (i, j)

pub read_tight : (b : Board) (x y : Oldest Board) → ReadsOldest b x → ReadsOldest b y → x ≡ y
read_tight b x y h i =
    oldests (h.code [] ∙ sym (i.code []))
    (board_tight x.rest y.rest (λ kept. meaning.with_queue (state_of b kept) (drop 1 (state_of b kept).queue)) h.board i.board)

pub is_open_tight : (b : Board) (x y : Bool) → ((kept : List ℕ) → x ≡ (state_of b kept).line.begun) → ((kept : List ℕ) → y ≡ (state_of b kept).line.begun) → x ≡ y
is_open_tight b x y h i = h [] ∙ sym (i [])

-- ---- the quick way

pub remaining_tight : (p : Plate) (b : Board) (t : ℕ) (x y : Option ℕ) → ((kept : List ℕ) → remaining_of x ≡ remaining p (state_of b kept) t)
    → ((kept : List ℕ) → remaining_of y ≡ remaining p (state_of b kept) t) → x ≡ y
remaining_tight p b t x y h i = same-remaining x y (h [] ∙ sym (i []))

pub with_character_tight : (b : Board) (kept : List ℕ) (t v : ℕ) (bad : Bool) (x y : Board) (k l : List ℕ) → TakesIn b kept t v bad x k → TakesIn b kept t v bad y l → (x ≡ y) × (k ≡ l)
with_character_tight b kept t v bad x y k l h i =
    let same : k ≡ l = h.bytes ∙ sym i.bytes in
    let f = fits_told x k h.fits in
    (same-state-same-board x y k f.few (fits_told y l i.fits).few (omega (arith, f.all)) (h.state ∙ sym i.state ∙ ap (state_of y) (sym same)), same)
