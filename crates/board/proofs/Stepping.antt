-- What a call leaves, by what it meets: a refusal; an open frame that is not over, or none; one that is. Assumes nothing.
use Prim.Native.Nat.{ℕ, ◌+◌, ◌≤◌}
use native.Mathlib.Omega.{arith}
use native.Mathlib.Nat.{zero-add}
use native.Mathlib.Decide.{ℕ_discrete}
use mathlib.Core.Path.{◌≡◌, refl, sym, ap, ◌∙◌}
use mathlib.Core.Bool.{Bool, true, false}
use mathlib.Core.List.{List, [], ◌++◌, append-nil}
use borrow.Author.Tests.{eq-eqb, ne_eqb, eqb-true, eqb-false}
use lib.Dec.{eqb}
use lib.ListN.{length, take, drop, take-append-drop, length-take, length-replicate, drop_of_length-le}
use lib.Seq.{take_all}
use Rattle.meaning.specs.Bytes.{pick, put, zeros}
use Rattle.meaning.specs.State as meaning
use Rattle.meaning.specs.State.{Plate, none, with_line}
use Rattle.meaning.specs.Characters.{full_pause, ticks_left, remaining, over, more, taken, closed}
use Rattle.meaning.specs.Frames.{Outcome, work, resting, still, up_to}
use Rattle.meaning.specs.Frames as frames
use Rattle.meaning.specs.Run as run
use Rattle.meaning.specs.Run.{Call, Held, step, carried, untouched, left_by, called, closes, lends, refused_by}
use Rattle.line.specs.declared.characters.OpenFrame.{OpenFrame}
use Rattle.line.specs.Line.{line_of, remaining_of, no_frame, Fits, Extends}
use Rattle.state.specs.declared.state.State.{State}
use Rattle.state.specs.State.{state_with}
use Rattle.meaning.proofs.Choices.{true-told}
use Rattle.meaning.proofs.Lines.{noted-line}
use Rattle.meaning.proofs.Rests.{work_rests}
use Rattle.meaning.proofs.Sleeping.{none-carried, none-after-close, full-after-character}
use Rattle.meaning.proofs.Puts.{put-nothing}
use Rattle.board.specs.declared.limits.Board.{Board}
use Rattle.board.specs.declared.calls.Refusal.{Refusal}
use Rattle.board.specs.declared.calls.Stepped.{Stepped}
use Rattle.board.specs.declared.closing.Closed.{Closed}
use Rattle.board.specs.Board.{state_of, fits_in, within, taken_if, refusal_on, refused_as, called_on, outcome_of, told_of, carried_by, board_after, unheard, Steps}
use Rattle.board.specs.Work.{Closes}
use Rattle.board.proofs.Bounding.{lends-poll, alone_by, told_r1, none-told, few-kept, facts, refused-alike, none-refused, some-refused}
use Rattle.std.proofs.Common.{Option, Some, None, Result, Ok, Err, IsOk}

-- bytes put where they stand already
pub put-own : (kept : List ℕ) (n : ℕ) → kept ≡ put kept 0 (take n kept)
unfolding put
put-own kept n = go (ℕ_discrete (length (take n kept)) n)
  where
    go : Dec (length (take n kept) ≡ n) → kept ≡ take n kept ++ drop (0 + length (take n kept)) kept
    go (yes e) = rw (zero-add, e) (sym (take-append-drop n kept))
    go (no h) =
        let low : length kept ≤ n = omega (arith, h, length-take n kept) in
        rw (take_all n kept low, zero-add, drop_of_length-le kept {i = length kept} (omega arith)) (sym (append-nil kept))

module _ (p : Plate) (b : Board) (k m w : List ℕ) (g : Call) where
  abbrev told : Outcome
  told = step p (state_of b k) m g

  held-refused : {n : ℕ} → n ≡ refusal_on p b k m (length w) g → (n ≡ 0 → ⊥) → called_on p b k m w g ≡ untouched n (state_of b k) m w
  unfolding refusal_on called_on called
  held-refused {n} e h = go (fits_in b k) e
    where
      go : (t : Bool) → n ≡ pick t (refused_by p (state_of b k) m (length w) g) 1
          → pick t (called p (state_of b k) m w g) (untouched 1 (state_of b k) m w) ≡ untouched n (state_of b k) m w
      go true e = let z : eqb (refused_by p (state_of b k) m (length w) g) 0 ≡ false = ne_eqb _ 0 (λ y. h (e ∙ y)) in rw (z, e)
      go false e = rw e

  pub held_on : refusal_on p b k m (length w) g ≡ 0 → called_on p b k m w g ≡ left_by p g w told
  unfolding refusal_on called_on called
  held_on e = go (fits_in b k) e
    where
      go : (t : Bool) → pick t (refused_by p (state_of b k) m (length w) g) 1 ≡ 0
          → pick t (called p (state_of b k) m w g) (untouched 1 (state_of b k) m w) ≡ left_by p g w told
      go true e = let z : eqb (refused_by p (state_of b k) m (length w) g) 0 ≡ true = eq-eqb _ 0 e in rw z
      go false e = absurd (omega arith)

  told-refusal : (called_on p b k m w g).refusal ≡ refusal_on p b k m (length w) g
  told-refusal = go (eqb (refusal_on p b k m (length w) g) 0) refl
    where
      go : (t : Bool) → eqb (refusal_on p b k m (length w) g) 0 ≡ t → (called_on p b k m w g).refusal ≡ refusal_on p b k m (length w) g
      go true z = let e = eqb-true (refusal_on p b k m (length w) g) 0 z in ap (λ (h : Held). h.refusal) (held_on e) ∙ sym e
      go false z = ap (λ (h : Held). h.refusal) (held-refused refl (eqb-false (refusal_on p b k m (length w) g) 0 z))

  pub refused : {A : Type 0} (x : A) {r : Result Stepped Refusal} {e : Refusal} → r ≡ Err e → Err e ≡ refused_as (refusal_on p b k m (length w) g) x → Steps p b k m w g r k m w
  unfolding outcome_of
  refused x q i =
      let n : ℕ = refusal_on p b k m (length w) g in
      let h : n ≡ 0 → ⊥ = some-refused n x i in
      let held = held-refused refl h in
      record {
        outcome = rw (q, held) (refused-alike n x _ h i);
        sleep = rw (q, held);
        state = rw (q, held);
        bytes = rw held (put-own k b.frame.len);
        memory = rw held;
        room = rw held;
        few = λ y. absurd (h (ap (λ (x : Held). x.refusal) (sym held) ∙ y));
      }

  pub stepped : {r : Result Stepped Refusal} {s : Stepped} {k' m' w' : List ℕ} → refusal_on p b k m (length w) g ≡ 0 → r ≡ Ok s
      → s.reply ≡ pick (closes p (state_of b k) g) (Some (length told.reply)) None → carried_by (lends g) s.remaining ≡ carried p told.state g → state_of s.board k' ≡ told.state
      → k' ≡ put k 0 told.state.line.kept → m' ≡ told.memory → w' ≡ put w 0 told.reply → s.board.frame.len ≤ 135
      → Steps p b k m w g r k' m' w'
  unfolding outcome_of refused_as
  stepped e q o z s kk mm ww few =
      record {
        outcome = rw (q, held_on e) (ap Ok o);
        sleep = rw (q, held_on e) z;
        state = rw (q, held_on e) s;
        bytes = rw (held_on e) kk;
        memory = rw (held_on e) mm;
        room = rw (held_on e) ww;
        few = λ y. rw q few;
      }

-- the calls that lend nothing, by the test of their limits
module _ (p : Plate) (b : Board) (k m w : List ℕ) (g : Call) (all : length k ≡ 135) (l : lends g ≡ false) where
  pub alone_refused : {r : Result Board Refusal} {e : Refusal} → r ≡ Err e → Err e ≡ taken_if (within p b k) (tt {0}) → Steps p b k m w g (unheard r) k m w
  alone_refused q h = refused p b k m w g (tt {0}) (rw q) (told_r1 p b k m (length w) g all (tt {0}) h)

  pub alone : (next : Board) → Ok (tt {0}) ≡ taken_if (within p b k) (tt {0}) → closes p (state_of b k) g ≡ false
      → state_of next k ≡ (step p (state_of b k) m g).state → still (step p (state_of b k) m g).state m ≡ step p (state_of b k) m g → (b.frame.len ≤ 135 → next.frame.len ≤ 135)
      → Steps p b k m w g (unheard (Ok next)) k m w
  unfolding still
  alone next fine c h i few =
      let t = none-told (tt {0}) (within p b k) fine in
      stepped p b k m w g (alone_by p b k m (length w) g all l ∙ rw t) refl (rw c) (rw l (sym (none-carried p (step p (state_of b k) m g).state g l))) h
      (put-own k next.frame.len ∙ ap (λ (x : meaning.State). put k 0 x.line.kept) h) (ap (λ (x : Outcome). x.memory) i)
      (rw (← i) (put-nothing w 0)) (few (few-kept p b k t))

-- what a call that lends carries
carries_left : (left : Option ℕ) → carried_by true left ≡ run.carries (remaining_of left)
carries_left None = refl
carries_left (Some n) = refl

-- the calls that may close a frame
module _ (p : Plate) (b : Board) (k m w : List ℕ) (t : ℕ) where
  -- nothing is over: nothing comes, and the state is as it was
  still_there_lem : over p (state_of b k) t ≡ false → up_to p (state_of b k) m t ≡ still (state_of b k) m
  unfolding up_to
  still_there_lem o = rw o

  -- the open frame is over: it is worked by a board with no frame open
  closed-now : over p (state_of b k) t ≡ true → up_to p (state_of b k) m t ≡ work p (state_with b.state none) m (closed (line_of b.frame k))
  unfolding up_to frames.close resting with_line
  closed-now o = rw o

  pub poll-still : {left : Option ℕ} → refusal_on p b k m (length w) (run.poll t) ≡ 0 → remaining_of left ≡ remaining p (state_of b k) t
      → over p (state_of b k) t ≡ false → b.frame.len ≤ 135 → Steps p b k m w (run.poll t) (Ok (record { board = b; reply = None; remaining = left })) k m w
  unfolding step still closes carried lends
  poll-still {left} e z o few =
      stepped p b k m w (run.poll t) e refl (rw o) (rw (still_there_lem o) (carries_left left ∙ ap run.carries z)) (rw (still_there_lem o)) (rw (still_there_lem o) (put-own k b.frame.len)) (rw (still_there_lem o))
      (rw (still_there_lem o) (put-nothing w 0)) few

  pub poll-over : {c : Closed} {f : OpenFrame} {n : ℕ} {m' w' : List ℕ} → refusal_on p b k m (length w) (run.poll t) ≡ 0 → f ≡ no_frame → n ≡ c.sent → over p (state_of b k) t ≡ true
      → Closes p b.state b.frame k m w c m' w'
      → Steps p b k m w (run.poll t) (Ok (record { board = record { state = c.state; frame = f }; reply = Some n; remaining = None })) k m' w'
  unfolding step closes none lends
  poll-over {c} e i j o h =
      stepped p b k m w (run.poll t) e refl (rw (o, closed-now o, j, h.sent)) (sym (none-after-close p (state_of b k) m t (true-told (over p (state_of b k) t) o))) (rw (i, closed-now o) h.state)
      (rw (closed-now o, ← h.state) (put-nothing k 0)) (rw (closed-now o) h.memory) (rw (closed-now o) h.room) (rw i (omega arith))

-- what is answered, by its case: refused or not
told-none : (h : Held) (c : Bool) {r : Result Stepped Refusal} {s : Stepped} → r ≡ Ok s → told_of r ≡ outcome_of h c → h.refusal ≡ 0
unfolding outcome_of
told-none h c {r} {s} q e = none-refused h.refusal (pick c (Some h.count) None) {y = s.reply} (rw q at e)

told-some : {r : Result Stepped Refusal} {x : Refusal} (h : Held) (c : Bool) → r ≡ Err x → told_of r ≡ outcome_of h c → Err x ≡ refused_as h.refusal (tt {0})
unfolding outcome_of
told-some h c q e = let i = rw q at e in refused-alike h.refusal _ (tt {0}) (some-refused h.refusal _ i) i

-- .., and what was not refused has an answer
pub told-ok : (r : Result Stepped Refusal) {x : Option ℕ} → told_of r ≡ Ok x → IsOk r
told-ok (Ok s) e = refl
told-ok (Err x) e = cc

-- a refused call leaves the board
pub unchanged : (p : Plate) (b : Board) (k m w : List ℕ) (g : Call) {r : Result Stepped Refusal} {k' m' w' : List ℕ} → ((called_on p b k m w g).refusal ≡ 0 → ⊥)
    → Steps p b k m w g r k' m' w' → board_after b r ≡ b
unchanged p b k m w g {r} h s = go r s.outcome
  where
    go : (r : Result Stepped Refusal) → told_of r ≡ outcome_of (called_on p b k m w g) (closes p (state_of b k) g) → board_after b r ≡ b
    go (Ok a) e = absurd (h (told-none (called_on p b k m w g) (closes p (state_of b k) g) {s = a} refl e))
    go (Err x) e = refl

-- a character, by the poll before it
module _ (p : Plate) (b : Board) (k m w : List ℕ) (t : ℕ) {r : Result Stepped Refusal} {k' m' w' : List ℕ} (s : Steps p b k m w (run.poll t) r k' m' w') where
  -- it lends the same, so it is refused alike
  same-refusal : (v : ℕ) (bad : Bool) → refusal_on p b k m (length w) (run.poll t) ≡ refusal_on p b k m (length w) (run.character t v bad)
  unfolding refusal_on refused_by lends
  same-refusal v bad = refl

  -- a refused poll leaves all as it was
  module _ {x : Refusal} (q : r ≡ Err x) where
    poll_told : Err x ≡ refused_as (refusal_on p b k m (length w) (run.poll t)) (tt {0})
    poll_told = rw (← told-refusal p b k m w (run.poll t)) (told-some (called_on p b k m w (run.poll t)) _ q s.outcome)

    untouched-by : called_on p b k m w (run.poll t) ≡ untouched (refusal_on p b k m (length w) (run.poll t)) (state_of b k) m w
    untouched-by = held-refused p b k m w (run.poll t) refl (some-refused _ (tt {0}) poll_told)

    pub character-refused : (v : ℕ) (bad : Bool) {y : Result Stepped Refusal} → y ≡ Err x → Steps p b k m w (run.character t v bad) y k' m' w'
    character-refused v bad {y} e =
        let kk : k' ≡ k = s.bytes ∙ ap (λ (h : Held). put k 0 h.state.line.kept) untouched-by ∙ sym (put-own k b.frame.len) in
        let mm : m' ≡ m = s.memory ∙ ap (λ (h : Held). h.memory) untouched-by in
        let ww : w' ≡ w = s.room ∙ ap (λ (h : Held). h.room) untouched-by in
        rw (kk, mm, ww) (refused p b k m w (run.character t v bad) (tt {0}) e (rw (← same-refusal v bad) poll_told))

  -- the frame that a poll leaves takes it in
  module _ {a : Stepped} (q : r ≡ Ok a) where
    abbrev after : Outcome
    after = step p (state_of b k) m (run.poll t)

    willing : refusal_on p b k m (length w) (run.poll t) ≡ 0
    willing = sym (told-refusal p b k m w (run.poll t)) ∙ told-none (called_on p b k m w (run.poll t)) _ q s.outcome

    on : called_on p b k m w (run.poll t) ≡ left_by p (run.poll t) w after
    on = held_on p b k m w (run.poll t) willing

    rests : put k 0 after.state.line.kept ≡ k
    unfolding step still resting with_line none
    rests = go (over p (state_of b k) t) refl
      where
        go : (x : Bool) → over p (state_of b k) t ≡ x → put k 0 after.state.line.kept ≡ k
        go true o = rw (closed-now p b k m w t o, work_rests p (state_with b.state none) m (closed (line_of b.frame k))) (sym (put-nothing k 0))
        go false o = rw (still_there_lem p b k m w t o) (sym (put-own k b.frame.len))

    kept-still : k' ≡ k
    kept-still = s.bytes ∙ ap (λ (h : Held). put k 0 h.state.line.kept) on ∙ rests

    few-then : a.board.frame.len ≤ 135
    few-then = rw q at (s.few (ap (λ (h : Held). h.refusal) on))

    pub character-fits : Fits a.board.frame k'
    character-fits =
        record {
          few = few-then;
          all = ap length kept-still ∙ eqb-true (length k) 135 (facts p b k m (length w) (run.poll t) (lends-poll t) willing).all;
        }

    pub character-taken : {v : ℕ} {bad : Bool} {f : OpenFrame} {n : ℕ} {k'' : List ℕ} → n ≡ full_pause p
        → Extends (more (pick a.board.frame.begun (line_of a.board.frame k') none) t v bad) k' f k''
        → Steps p b k m w (run.character t v bad) (Ok (record { board = record { state = a.board.state; frame = f }; reply = a.reply; remaining = Some n })) k'' m' w'
    unfolding step closes taken with_line outcome_of refused_as
    character-taken {v} {bad} full x =
        let u : state_of a.board k' ≡ after.state = (rw q at s.state) ∙ ap (λ (h : Held). h.state) on in
        let o : ◌≡◌ {A = Result (Option ℕ) Refusal} (Ok a.reply) (Ok (pick (over p (state_of b k) t) (Some (length after.reply)) None)) = (rw q at s.outcome) ∙ ap (λ (h : Held). outcome_of h (closes p (state_of b k) (run.poll t))) on in
        stepped p b k m w (run.character t v bad) (sym (same-refusal v bad) ∙ willing) refl (cc)
        (ap (λ (i : ℕ). run.carries (ticks_left i)) full ∙ sym (full-after-character p (state_of b k) m t v bad)) (rw (← u) (ap (state_with a.board.state) x.line))
        (rw (← u, ← kept-still) x.bytes) (s.memory ∙ ap (λ (h : Held). h.memory) on) (s.room ∙ ap (λ (h : Held). h.room) on) x.few

-- no frame is open
pub no_line : (k : List ℕ) (s : State) {f : OpenFrame} {x : meaning.State} → state_with s none ≡ x → f ≡ no_frame → state_with s (line_of f k) ≡ x
unfolding none
no_line k s e h = rw h e

-- ---- the fault queue's methods

-- boards that keep the same bytes of any places keep as many
pub same_len : (a b : Board) → ((kept : List ℕ) → (state_of a kept).line.kept ≡ (state_of b kept).line.kept) → a.frame.len ≡ b.frame.len
same_len a b h =
    let n : ℕ = a.frame.len + b.frame.len in
    omega (arith, ap length (h (zeros n)), length-take a.frame.len (zeros n), length-take b.frame.len (zeros n), length-replicate {A = ℕ} n 0)

-- a noted code leaves the open frame
pub noted-few : (b next : Board) (c : ℕ) → ((kept : List ℕ) → state_of next kept ≡ meaning.noted (state_of b kept) c) → b.frame.len ≤ 135 → next.frame.len ≤ 135
noted-few b next c e h =
    rw (same_len next b (λ kept. ap (λ (s : meaning.State). s.line.kept) (e kept) ∙ ap (λ (l : meaning.Line). l.kept) (noted-line (state_of b kept) c))) h

-- power-on leaves none
pub dropped_few : (b next : Board) → ((kept : List ℕ) → state_of next kept ≡ meaning.powered_on (state_of b kept)) → next.frame.len ≤ 135
unfolding meaning.powered_on with_line none
dropped_few b next e =
    let kept : List ℕ = zeros next.frame.len in
    let z : take next.frame.len kept ≡ [] = ap (λ (s : meaning.State). s.line.kept) (e kept) in
    omega (arith, ap length z, length-take next.frame.len kept, length-replicate {A = ℕ} next.frame.len 0)
