-- One part of a state written where it stands in a core: the rest of the state is as it was. Assumes nothing.
use Prim.Native.Nat.{ℕ, zero, suc, ◌+◌, ◌<◌, ◌≤◌, ◌^◌}
use native.Mathlib.Omega.{arith}
use native.Mathlib.Nat.{zero-add}
use mathlib.Core.Path.{◌≡◌, refl, sym, ap, ◌∙◌}
use mathlib.Core.Bool.{Bool, true, false}
use mathlib.Core.List.{List, [], ◌∷◌, ◌++◌, append_assoc}
use lib.ListN.{length, take, drop, set, take-append-drop}
use lib.Seq.{take-take, drop-append-le, drop_at, length-take-le}
use Rattle.meaning.specs.Bytes.{arg, part, put}
use Rattle.meaning.specs.State.{Line, last_count, none, queued, noted, with_codes, with_counter, with_address, with_offset, with_queue, with_lock}
use Rattle.meaning.proofs.Puts.{length-put, put-after, drop-put-low, put_one}
use Rattle.wire.specs.Numbers.{low3, low4}
use Rattle.wire.proofs.Numbers.{little-at}
use Rattle.state.specs.declared.faults.Faults.{Faults}
use Rattle.state.specs.declared.faults.Oldest.{Oldest}
use Rattle.state.specs.declared.faults.Noting.{Noting}
use Rattle.state.specs.declared.faults.Noting.TheVariants.{Ignored, Locks, First, Second, Third, Fourth}
use Rattle.state.specs.declared.state.State.{State}
use Rattle.state.specs.declared.effects.Effect.{Effect}
use Rattle.state.specs.declared.effects.Effect.TheVariants.{Nothing, Code, Counter, Address, Offset, Overflow, OldestRead, Emptied}
use Rattle.state.specs.Queue.{queue_of, holding, Queues, Reads}
use Rattle.state.specs.Effects.{noting_of, noted_as, effect_on}
use Rattle.state.specs.State.{state_with}
use Rattle.state.proofs.Places.{notes_so}
use Rattle.state.proofs.States.{notes}
use Rattle.image.specs.Image.{flag_byte, number_at, count_at, state_in, frame_in, kept_in, state_bytes}
use Rattle.image.specs.Writes.{frame_bytes, HoldsState, measured_set, faults_set, code_set, counter_set, address_set, offset_set, PutsState, NotesIn, PutsEffect, PutsBoard}
use Rattle.image.proofs.Numbers.{there-fits, few-counted}
use Rattle.image.proofs.Standing.{places, Typed, puts_state, part_filled, line_row}
use Rattle.image.proofs.Parts.{state_as_it_was, frame_as_it_was, parts_joined, front_length, kept-length, state-length}
use Rattle.image.proofs.Round.{Good}

-- bytes put inside the front of a list
front-put : (core : List ℕ) (i : ℕ) (ys : List ℕ) → 21 ≤ length core → i + length ys ≤ 21 → put core 0 (put (take 21 core) i ys) ≡ put core i ys
unfolding put
front-put core i ys h k =
    let f : List ℕ = take 21 core in
    let n : ℕ = i + length ys in
    let a : length f ≡ 21 = length-take-le 21 core h in
    let z : length (take i f ++ (ys ++ drop n f)) ≡ 21 = length-put f i ys (omega arith) ∙ a in
    let t : take i f ≡ take i core = take-take i 21 core (omega arith) in
    let d : drop n core ≡ drop n f ++ drop 21 core = ap (drop n) (sym (take-append-drop 21 core)) ∙ drop-append-le n f (drop 21 core) (omega arith) in
    rw (z, zero-add, d, ← t) (append_assoc (take i f) (ys ++ drop n f) (drop 21 core) ∙ ap (λ (x : List ℕ). take i f ++ x) (append_assoc ys (drop n f) (drop 21 core)))

-- a state t that is the core's but for the bytes ys at place i
module _ (core : List ℕ) (h : HoldsState core) (small : (i : ℕ) → arg core i < 256) where
  placed : (t : State) (i : ℕ) (ys : List ℕ) {core' : List ℕ} → Typed t → i + length ys ≤ 21
      → ((l : Line) → put (state_bytes (state_with (state_in core) l)) i ys ≡ state_bytes (state_with t l)) → core' ≡ put core i ys → PutsState t core core'
  placed t i ys g k q e =
      puts_state t core g (λ l. ap (λ (x : List ℕ). put x i ys) (sym (state_as_it_was core h.all small h.lock l)) ∙ q l) (e ∙ sym (front-put core i ys (omega (arith, h.all)) k))

  abbrev s : State
  s = state_in core

  one_byte : (t : State) (i v : ℕ) → Typed t → i < 21 → ((l : Line) → put (state_bytes (state_with s l)) i (v ∷ []) ≡ state_bytes (state_with t l)) → PutsState t core (set core i v)
  one_byte t i v g k q = placed t i (v ∷ []) g (omega arith) q (put_one core i v (omega (arith, h.all)))

  in_24 : count_at core ≤ last_count
  in_24 = few-counted core small

  in_32 : (i : ℕ) → number_at core i < 2 ^ 32
  in_32 i = there-fits core small i 4

  -- whatever its address and its waiting codes
  typed_as : (n : ℕ) (f : Faults) → Typed (faults_set (address_set s n) f)
  unfolding state_in
  typed_as n f = record { codes = refl; counter = in_24; offset = in_32 8; measured = in_32 12 }

  pub with_measured_lem : (n : ℕ) {place : List ℕ} → n < 2 ^ 32 → place ≡ put (take 4 (drop 12 core)) 0 (low4 n [])
      → PutsState (measured_set s n) core (take 12 core ++ (place ++ drop 4 (drop 12 core)))
  unfolding state_bytes state_in put
  with_measured_lem n low e =
      placed (measured_set s n) 12 (low4 n []) (record { codes = refl; counter = in_24; offset = in_32 8; measured = low }) (omega arith) (λ l. refl)
      (part_filled core 12 4 (low4 n []) (omega (arith, h.all)) refl e)

  pub with_counter_lem : (n : ℕ) {place : List ℕ} → n ≤ last_count → place ≡ put (take 3 (drop 4 core)) 0 (low3 n [])
      → PutsState (counter_set s n) core (take 4 core ++ (place ++ drop 3 (drop 4 core)))
  unfolding state_bytes state_in put
  with_counter_lem n low e =
      placed (counter_set s n) 4 (low3 n []) (record { codes = refl; counter = low; offset = in_32 8; measured = in_32 12 }) (omega arith) (λ l. refl)
      (part_filled core 4 3 (low3 n []) (omega (arith, h.all)) refl e)

  pub with_offset_lem : (n : ℕ) {place : List ℕ} → n < 2 ^ 32 → place ≡ put (take 4 (drop 8 core)) 0 (low4 n [])
      → PutsState (offset_set s n) core (take 8 core ++ (place ++ drop 4 (drop 8 core)))
  unfolding state_bytes state_in put
  with_offset_lem n low e =
      placed (offset_set s n) 8 (low4 n []) (record { codes = refl; counter = in_24; offset = low; measured = in_32 12 }) (omega arith) (λ l. refl)
      (part_filled core 8 4 (low4 n []) (omega (arith, h.all)) refl e)

  pub with_faults : (f : Faults) {b : ℕ} {place : List ℕ} → b ≡ flag_byte f.locked
      → place ≡ put (take 5 (drop 16 core)) 0 (f.first ∷ f.second ∷ f.third ∷ f.fourth ∷ b ∷ [])
      → PutsState (faults_set s f) core (take 16 core ++ (place ++ drop 5 (drop 16 core)))
  unfolding state_bytes state_in put
  with_faults f {b} x e =
      let row : List ℕ = f.first ∷ f.second ∷ f.third ∷ f.fourth ∷ b ∷ [] in
      let q = places f in
      placed (faults_set s f) 16 row (typed_as s.address f) (omega arith)
      (λ l. rw (q.first, q.second, q.third, q.fourth, x)) (part_filled core 16 5 row (omega (arith, h.all)) refl e)

  pub with_code : (n c : ℕ) → n < 4 → PutsState (code_set s n c) core (set core n c)
  unfolding state_bytes state_in put
  with_code n c k =
      one_byte (code_set s n c) n c (typed n) (omega arith) (λ l. go l n k)
    where
      typed : (n : ℕ) → Typed (code_set s n c)
      typed n = record { codes = four n; counter = in_24; offset = in_32 8; measured = in_32 12 }
        where
          four : (n : ℕ) → length (set (state_in core).codes n c) ≡ 4
          four zero = refl
          four (suc zero) = refl
          four (suc (suc zero)) = refl
          four (suc (suc (suc zero))) = refl
          four (suc (suc (suc (suc n)))) = refl

      go : (l : Line) (n : ℕ) → n < 4 → put (state_bytes (state_with (state_in core) l)) n (c ∷ []) ≡ state_bytes (state_with (code_set (state_in core) n c) l)
      go l zero k = refl
      go l (suc zero) k = refl
      go l (suc (suc zero)) k = refl
      go l (suc (suc (suc zero))) k = refl
      go l (suc (suc (suc (suc n)))) k = absurd (omega arith)

  pub with_address_lem : (n : ℕ) → PutsState (address_set s n) core (set core 7 n)
  unfolding state_bytes state_in put
  with_address_lem n = one_byte (address_set s n) 7 n (typed_as n s.faults) (omega arith) (λ l. refl)

  -- the state's bytes as they are
  pub state-there : PutsState s core core
  unfolding put
  state-there =
      record {
        bytes = λ l. rw (state_as_it_was core h.all small h.lock l, length-take-le 21 core (omega (arith, h.all))) (sym (take-append-drop 21 core));
        holds = refl;
      }

  -- a noted code c: nothing, the lock, or a place
  abbrev Noted : ℕ → Noting → List ℕ → Type 0
  Noted c x core' = PutsState (faults_set s (noted_as s.faults c x)) core core'

  module _ (c : ℕ) {x : Noting} where
    noted-at : (i v : ℕ) (n : Noting) → x ≡ n → i < 21
        → ((l : Line) → put (state_bytes (state_with s l)) i (v ∷ []) ≡ state_bytes (state_with (faults_set s (noted_as s.faults c n)) l)) → Noted c x (set core i v)
    noted-at i v n e k q = rw e (one_byte (faults_set s (noted_as s.faults c n)) i v (typed_as s.address (noted_as s.faults c n)) k q)

    pub noting_none : x ≡ Ignored → Noted c x core
    noting_none e = rw e state-there

    pub noting_lock : x ≡ Locks → Noted c x (set core 20 1)
    unfolding state_bytes put flag_byte
    noting_lock e =
        let q = places s.faults in
        let r = places (noted_as s.faults c Locks) in
        noted-at 20 1 Locks e (omega arith) (λ l. rw (q.first, q.second, q.third, q.fourth, r.first, r.second, r.third, r.fourth))

    pub noting_1 : x ≡ First → Noted c x (set core 16 c)
    unfolding state_bytes put
    noting_1 e =
        let q = places s.faults in
        let r = places (noted_as s.faults c First) in
        noted-at 16 c First e (omega arith) (λ l. rw (q.second, q.third, q.fourth, r.first, r.second, r.third, r.fourth))

    pub noting_2 : x ≡ Second → Noted c x (set core 17 c)
    unfolding state_bytes put
    noting_2 e =
        let q = places s.faults in
        let r = places (noted_as s.faults c Second) in
        noted-at 17 c Second e (omega arith) (λ l. rw (q.first, q.third, q.fourth, r.first, r.second, r.third, r.fourth))

    pub noting_3 : x ≡ Third → Noted c x (set core 18 c)
    unfolding state_bytes put
    noting_3 e =
        let q = places s.faults in
        let r = places (noted_as s.faults c Third) in
        noted-at 18 c Third e (omega arith) (λ l. rw (q.first, q.second, q.fourth, r.first, r.second, r.third, r.fourth))

    pub noting_4 : x ≡ Fourth → Noted c x (set core 19 c)
    unfolding state_bytes put
    noting_4 e =
        let q = places s.faults in
        let r = places (noted_as s.faults c Fourth) in
        noted-at 19 c Fourth e (omega arith) (λ l. rw (q.first, q.second, q.third, r.first, r.second, r.third, r.fourth))

-- one part after the other
few-kept : {core : List ℕ} → Good core → (frame_in core).len ≤ 135
unfolding frame_in
few-kept g = g.few

flag_low : (b : Bool) → flag_byte b ≤ 1
unfolding flag_byte
flag_low true = omega arith
flag_low false = omega arith

pub still-holds : (t : State) {core core' : List ℕ} → HoldsState core → PutsState t core core' → HoldsState core'
unfolding state_bytes put
still-holds t {core} {core'} h p =
    record {
      all = ap length (p.bytes none) ∙ length-put core 0 (state_bytes (state_with t none)) (omega (arith, h.all, state-length t none)) ∙ h.all;
      lock = rw (p.bytes none) (flag_low t.faults.locked);
    }

pub one_then_other : (t u : State) {core mid core' : List ℕ} → PutsState t core mid → PutsState u mid core' → PutsState u core core'
unfolding state_bytes put
one_then_other t u p q = record { bytes = λ l. q.bytes l ∙ rw (p.bytes l); holds = q.holds }

-- the bytes past the state's are as they were
module _ (s : State) (core : List ℕ) {core' : List ℕ} (g : Good core) (p : PutsState s core core') where
  fits : 0 + length (state_bytes (state_with s none)) ≤ length core
  fits = omega (arith, g.all, state-length s none)

  same_at : (j : ℕ) → 21 ≤ j → arg core' j ≡ arg core j
  same_at j k = ap (λ (x : List ℕ). arg x j) (p.bytes none) ∙ put-after core 0 (state_bytes (state_with s none)) fits j (omega (arith, state-length s none))

  same-frame : frame_in core' ≡ frame_in core
  unfolding frame_in
  same-frame =
      rw (
        little-at core' 24,
        little-at core 24,
        same_at 21 (omega arith),
        same_at 22 (omega arith),
        same_at 23 (omega arith),
        same_at 24 (omega arith),
        same_at 25 (omega arith),
        same_at 26 (omega arith),
        same_at 27 (omega arith),
        same_at 28 (omega arith),
        same_at 29 (omega arith),
      )

  pub only_state : ((i : ℕ) → arg core i < 256) → PutsBoard s (frame_in core) core core'
  unfolding put
  only_state small =
      let k : length (kept_in core) ≡ 135 = kept-length core g.all in
      let few : (frame_in core).len ≤ 135 = few-kept g in
      let f : frame_bytes (frame_in core) ≡ part core 21 9 =
      sym (line_row (frame_in core) (kept_in core) (record { few = few; all = k })) ∙ frame_as_it_was core g.all small g.begun g.longer g.parity (kept_in core) k g.few in
      let d : drop 21 core ≡ part core 21 9 ++ kept_in core = ap (drop 21) (sym (parts_joined core g.all)) ∙ drop_at (take 21 core) (part core 21 9 ++ kept_in core) 21 (front_length core g.all) in
      record {
        bytes = λ l. p.bytes l ∙ rw (state-length s l, d, f);
        state = p.holds;
        frame = same-frame;
        kept = ap (take 135) (ap (drop 30) (p.bytes none) ∙ drop-put-low core 0 (state_bytes (state_with s none)) fits 30 (omega (arith, state-length s none)));
      }

-- ---- a noted code: f are the core's waiting codes, n what the code comes to
pub notes_in : (c : ℕ) {core core' : List ℕ} {f : Faults} {n : Noting} → f ≡ (state_in core).faults → n ≡ noting_of f c
    → PutsState (faults_set (state_in core) (noted_as (state_in core).faults c n)) core core' → NotesIn c core core'
unfolding holding with_queue with_lock
notes_in c {core} {core'} {f} {n} e k p =
    let s : State = state_in core in
    let g : Faults = noted_as s.faults c n in
    let h : (l : Line) → state_with (faults_set s g) l ≡ noted (state_with s l) c = λ l. notes s c l g (faults_set s g) refl (rw (k, e) (notes_so s.faults c (state_with s l))) in
    record { notes = λ l. ap (λ (x : State). state_with x l) p.holds ∙ h l; state = rw p.holds p }

-- ---- what a command changes
module _ {x : Effect} {core core' : List ℕ} where
  puts_effect : (t : State) → PutsState t core core' → ((l : Line) → state_with t l ≡ effect_on x (state_with (state_in core) l)) → PutsEffect x core core'
  puts_effect t p e = record { holds = λ l. ap (λ (z : State). state_with z l) p.holds ∙ e l; bytes = rw p.holds p }

  pub put-code : {n c : ℕ} → x ≡ Code n c → PutsState (code_set (state_in core) n c) core core' → PutsEffect x core core'
  unfolding effect_on with_codes
  put-code {n} {c} e p = puts_effect (code_set (state_in core) n c) p (λ l. rw e)

  pub put-counter : {n : ℕ} → x ≡ Counter n → PutsState (counter_set (state_in core) n) core core' → PutsEffect x core core'
  unfolding effect_on with_counter
  put-counter {n} e p = puts_effect (counter_set (state_in core) n) p (λ l. rw e)

  pub put-address : {n : ℕ} → x ≡ Address n → PutsState (address_set (state_in core) n) core core' → PutsEffect x core core'
  unfolding effect_on with_address
  put-address {n} e p = puts_effect (address_set (state_in core) n) p (λ l. rw e)

  pub put-offset : {n : ℕ} → x ≡ Offset n → PutsState (offset_set (state_in core) n) core core' → PutsEffect x core core'
  unfolding effect_on with_offset
  put-offset {n} e p = puts_effect (offset_set (state_in core) n) p (λ l. rw e)

  module _ {f : Faults} (same : f ≡ (state_in core).faults) where
    pub put-oldest : {o : Oldest Faults} → x ≡ OldestRead → Reads f o → PutsState (faults_set (state_in core) o.rest) core core' → PutsEffect x core core'
    unfolding effect_on with_queue
    put-oldest {o} e r p =
        let k = rw same at r in
        puts_effect (faults_set (state_in core) o.rest) p (λ l. rw (e, k.rest.queue, k.rest.lock))

    pub put_emptied : {g : Faults} → x ≡ Emptied → Queues f [] g → PutsState (faults_set (state_in core) g) core core' → PutsEffect x core core'
    unfolding effect_on with_queue
    put_emptied {g} e r p =
        let k = rw same at r in
        puts_effect (faults_set (state_in core) g) p (λ l. rw (e, k.queue, k.lock))

    pub put_overflow : {g : Faults} {mid : List ℕ} → x ≡ Overflow → Queues f (queued (queue_of f) 0x08) g → PutsState (counter_set (state_in core) 0) core mid
        → PutsState (faults_set (state_in mid) g) mid core' → PutsEffect x core core'
    unfolding effect_on with_queue with_counter
    put_overflow {g} e r p q =
        let k = rw same at r in
        let u : State = counter_set (state_in core) 0 in
        let t : State = faults_set u g in
        puts_effect t (one_then_other u t p (rw p.holds at q)) (λ l. rw (e, k.queue, k.lock))

-- nothing is written
pub put-nothing : {x : Effect} (core : List ℕ) → x ≡ Nothing → HoldsState core → ((i : ℕ) → arg core i < 256) → PutsEffect x core core
unfolding effect_on
put-nothing core e h small = record { holds = λ l. rw e; bytes = state-there core h small }
