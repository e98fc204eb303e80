-- R1 to R3 by the tests of an entry, one by one, and what passes them. Assumes nothing.
use Prim.Native.Nat.{ℕ, ◌+◌, ◌*◌, ◌<◌, ◌≤◌, ◌^◌}
use native.Mathlib.Omega.{arith}
use native.Mathlib.Decide.{ℕ_discrete}
use mathlib.Core.Path.{◌≡◌, refl, sym, ap, ◌∙◌}
use mathlib.Core.Bool.{Bool, true, false, not, false≢true}
use mathlib.Core.List.{List, [], ◌∷◌}
use borrow.Author.Tests.{eq-eqb, ne_eqb, le-ltb, eqb-true, ltb-false}
use lib.Dec.{eqb, leb, ltb}
use lib.ListN.{length, take, length-take}
use Rattle.meaning.specs.Bytes.{arg, among, pick, both, either}
use Rattle.meaning.specs.State.{Plate, plate_ok, state_ok, apart, locks, queueable}
use Rattle.meaning.specs.Demands.{waits}
use Rattle.meaning.specs.Fields.{memory_length}
use Rattle.meaning.specs.Run.{Call, character, poll, measured, fault, power_on, lends, Held, untouched, called, refused_by}
use Rattle.meaning.proofs.Choices.{both_left, both_right, both_true}
use Rattle.wire.proofs.Numbers.{low_first, little-at}
use Rattle.line.specs.Line.{line_of}
use Rattle.state.specs.Queue.{waiting, queue_of}
use Rattle.state.proofs.Places.{no_codes, sound-some}
use Rattle.state.proofs.States.{within}
use Rattle.image.specs.Image.{number_at, count_at, is_core, state_in, frame_in, kept_in, held_in}
use Rattle.image.proofs.Standing.{places}
use Rattle.image.proofs.Parts.{kept-length}
use Rattle.image.proofs.Round.{good}
use Rattle.quicksetter.specs.Calls.{call_number}
use Rattle.quicksetter.specs.Cores.{possible, refusal_in, core_called, core_after, CoreCalled, Unrefused}
use Rattle.quicksetter.proofs.Leaving.{no_core}

empty_queue : (core : List ℕ) → number_at core 16 ≡ 0 → queue_of (state_in core).faults ≡ []
unfolding queue_of waiting state_in
empty_queue core e =
    let k : arg core 16 + 0x100 * arg core 17 + 0x10000 * arg core 18 + 0x1000000 * arg core 19 ≡ 0 =
    sym (low_first (arg core 16) (arg core 17) (arg core 18) (arg core 19)) ∙ sym (little-at core 16) ∙ e in
    let a : arg core 16 ≡ 0 = omega arith in
    let b : arg core 17 ≡ 0 = omega arith in
    let c : arg core 18 ≡ 0 = omega arith in
    let d : arg core 19 ≡ 0 = omega arith in
    rw (d, c, b, a)

filled_queue : (core : List ℕ) → (number_at core 16 ≡ 0 → ⊥) → waits (queue_of (state_in core).faults) ≡ true
unfolding state_in
filled_queue core n = go (waits (queue_of (state_in core).faults)) refl
  where
    go : (t : Bool) → waits (queue_of (state_in core).faults) ≡ t → t ≡ true
    go true e = refl
    go false e =
        let q = places (state_in core).faults in
        let z : queue_of (state_in core).faults ≡ [] = no_codes (queue_of (state_in core).faults) e in
        let a : arg core 16 ≡ 0 = sym q.first ∙ ap (λ (x : List ℕ). arg x 0) z in
        let b : arg core 17 ≡ 0 = sym q.second ∙ ap (λ (x : List ℕ). arg x 1) z in
        let c : arg core 18 ≡ 0 = sym q.third ∙ ap (λ (x : List ℕ). arg x 2) z in
        let d : arg core 19 ≡ 0 = sym q.fourth ∙ ap (λ (x : List ℕ). arg x 3) z in
        absurd (n (little-at core 16 ∙ low_first (arg core 16) (arg core 17) (arg core 18) (arg core 19) ∙ rw (a, b, c, d)))

pub none_wait : (core : List ℕ) → number_at core 16 ≡ 0 → true ≡ apart (queue_of (state_in core).faults)
unfolding apart
none_wait core e = rw (empty_queue core e)

-- one code waits: the first place holds it
one_apart : (c : ℕ) → eqb c 0 ≡ false → apart (c ∷ []) ≡ not (locks c)
unfolding apart among queueable
one_apart c z = rw z (both_true (not (locks c)))

one_code : (core : List ℕ) → arg core 17 ≡ 0 → arg core 18 ≡ 0 → arg core 19 ≡ 0 → eqb (arg core 16) 0 ≡ false → queue_of (state_in core).faults ≡ arg core 16 ∷ []
unfolding queue_of waiting state_in
one_code core b c d z = rw (d, c, b, z)

pub one_waits : (core : List ℕ) {t : Bool} → (number_at core 16 ≡ 0 → ⊥) → number_at core 16 < 256 → t ≡ locks (number_at core 16) → not t ≡ apart (queue_of (state_in core).faults)
one_waits core n h e =
    let k : number_at core 16 ≡ arg core 16 + 0x100 * arg core 17 + 0x10000 * arg core 18 + 0x1000000 * arg core 19 =
    little-at core 16 ∙ low_first (arg core 16) (arg core 17) (arg core 18) (arg core 19) in
    let a : number_at core 16 ≡ arg core 16 = omega (arith, k) in
    let z : eqb (arg core 16) 0 ≡ false = ne_eqb (arg core 16) 0 (λ y. n (a ∙ y)) in
    let q : queue_of (state_in core).faults ≡ arg core 16 ∷ [] = one_code core (omega (arith, k)) (omega (arith, k)) (omega (arith, k)) z in
    ap not (e ∙ ap locks a) ∙ sym (one_apart (arg core 16) z) ∙ ap apart (sym q)

-- where codes wait, by the test of those
pub more_wait : (core : List ℕ) {t : Bool} → (number_at core 16 ≡ 0 → ⊥) → t ≡ both (waits (queue_of (state_in core).faults)) (apart (queue_of (state_in core).faults)) → t ≡ apart (queue_of (state_in core).faults)
more_wait core n e = sym (sound-some (queue_of (state_in core).faults) (filled_queue core n) e)

-- the four places as one word
pub word_waits : (core : List ℕ) → not (eqb (number_at core 16) 0) ≡ waits (queue_of (state_in core).faults)
unfolding waits
word_waits core = go (ℕ_discrete (number_at core 16) 0)
  where
    go : Dec (number_at core 16 ≡ 0) → not (eqb (number_at core 16) 0) ≡ waits (queue_of (state_in core).faults)
    go (yes e) = rw (eq-eqb (number_at core 16) 0 e, empty_queue core e)
    go (no n) = rw (ne_eqb (number_at core 16) 0 n) (sym (filled_queue core n))

pub lends-poll : (t : ℕ) → lends (poll t) ≡ true
unfolding lends
lends-poll t = refl

pub lends-character : (t v : ℕ) (bad : Bool) → lends (character t v bad) ≡ true
unfolding lends
lends-character t v bad = refl

pub lends-measured : (n : ℕ) → lends (measured n) ≡ false
unfolding lends
lends-measured n = refl

pub lends-fault : (c : ℕ) → lends (fault c) ≡ false
unfolding lends
lends-fault c = refl

pub lends-power_on : lends power_on ≡ false
unfolding lends
lends-power_on = refl

-- counter, address, plate, offset, waiting codes
lost : (c b q o a : Bool) → both c (both b (both q o)) ≡ false → either (not q) (not (both c (both b (both o a)))) ≡ true
lost c b false o a e = refl
lost false b true o a e = refl
lost true false true o a e = refl
lost true true true false a e = refl
lost true true true true a e = absurd (false≢true (sym e))

mixed : (c b q o : Bool) → either (not q) (not (both c (both b (both o false)))) ≡ true
mixed c b false o = refl
mixed false b true o = refl
mixed true false true o = refl
mixed true true true false = refl
mixed true true true true = refl

-- what is told of the state's numbers
abbrev counter_fits : List ℕ → Bool
counter_fits core = leb (count_at core) 0xFFFFFF

abbrev address_fits : List ℕ → Bool
address_fits core = leb (arg core 7) 31

abbrev offset_fits : Plate → List ℕ → Bool
offset_fits p core = ltb (number_at core 8) (2 ^ p.bits)

state-told : (p : Plate) (core : List ℕ) → is_core core ≡ true
    → both (counter_fits core) (both (address_fits core) (both (offset_fits p core) (apart (queue_of (state_in core).faults)))) ≡ state_ok p (held_in core)
unfolding state_in frame_in
state-told p core e =
    let few : length (take (arg core 29) (kept_in core)) ≤ 135 = rw length-take (omega (arith, kept-length core (good core e).all)) in
    within (state_in core) p (line_of (frame_in core) (kept_in core)) refl few refl

-- the tests one by one; m and w are the lengths of memory and room
module _ (p : Plate) (core : List ℕ) (m w : ℕ) where
  lost_state : is_core core ≡ true → either (not (plate_ok p)) (not (state_ok p (held_in core))) ≡ true → 1 ≡ refusal_in p core m w
  unfolding refusal_in
  lost_state e h = rw (e, h)

  pub impossible : possible p core ≡ false → 1 ≡ refusal_in p core m w
  unfolding possible refusal_in
  impossible h = go (is_core core) refl h
    where
      go : (t : Bool) → is_core core ≡ t → both t (both (counter_fits core) (both (address_fits core) (both (plate_ok p) (offset_fits p core)))) ≡ false
          → 1 ≡ refusal_in p core m w
      go false e k = rw e
      go true e k = lost_state e (rw (← state-told p core e) (lost (counter_fits core) (address_fits core) (plate_ok p) (offset_fits p core) (apart (queue_of (state_in core).faults)) k))

  module _ (h : possible p core ≡ true) where
    pub a-core : is_core core ≡ true
    unfolding possible
    a-core = both_left (is_core core) _ h

    numbers : both (counter_fits core) (both (address_fits core) (both (plate_ok p) (offset_fits p core))) ≡ true
    unfolding possible
    numbers = both_right (is_core core) _ h

    pub unsound : apart (queue_of (state_in core).faults) ≡ false → 1 ≡ refusal_in p core m w
    unsound a = lost_state a-core (rw (← state-told p core a-core, a) (mixed (counter_fits core) (address_fits core) (plate_ok p) (offset_fits p core)))

    module _ (a : apart (queue_of (state_in core).faults) ≡ true) where
      rest : both (plate_ok p) (offset_fits p core) ≡ true
      rest = both_right (address_fits core) _ (both_right (counter_fits core) _ numbers)

      good-plate : plate_ok p ≡ true
      good-plate = both_left (plate_ok p) _ rest

      good-state : state_ok p (held_in core) ≡ true
      good-state =
          let c : counter_fits core ≡ true = both_left (counter_fits core) _ numbers in
          let b : address_fits core ≡ true = both_left (address_fits core) _ (both_right (counter_fits core) _ numbers) in
          let o : offset_fits p core ≡ true = both_right (plate_ok p) _ rest in
          sym (state-told p core a-core) ∙ rw (c, b, o, a)

      pub none_applies : m ≡ memory_length p.total → 134 ≤ w → 0 ≡ refusal_in p core m w
      unfolding refusal_in
      none_applies size n = let z : eqb m (memory_length p.total) ≡ true = eq-eqb _ _ size in rw (a-core, good-plate, good-state, z, le-ltb w 134 n)

-- a call that is refused by its number does nothing
module _ (p : Plate) (core m w : List ℕ) (g : Call) where
  refused-call : (n : ℕ) → eqb n 0 ≡ false → is_core core ≡ true → refused_by p (held_in core) m (length w) g ≡ n → CoreCalled p core m w g (256 + n) core m w
  unfolding core_called called call_number core_after
  refused-call n z e r =
      let k : core_called p core m w g ≡ untouched n (held_in core) m w = rw (e, r, z) in
      record {
        answer = sym (ap call_number k ∙ rw z);
        state = sym (ap (λ (h : Held). h.state) k);
        bytes = sym (ap (core_after core) k ∙ rw z);
        memory = sym (ap (λ (h : Held). h.memory) k);
        room = sym (ap (λ (h : Held). h.room) k);
      }

  -- x and y are the lengths that the tests met
  refused_by_lem : {n : ℕ} (x y : ℕ) → (is_core core ≡ true → refused_by p (held_in core) m (length w) g ≡ refusal_in p core x y) → n ≡ refusal_in p core x y → (n ≡ 0 → ⊥)
      → CoreCalled p core m w g (256 + n) core m w
  unfolding refusal_in
  refused_by_lem {n} x y told e some = go (is_core core) refl
    where
      go : (t : Bool) → is_core core ≡ t → CoreCalled p core m w g (256 + n) core m w
      go true c = refused-call n (ne_eqb n 0 some) c (told c ∙ sym e)
      go false c = let k : n ≡ 1 = e ∙ rw c in rw k (no_core p core m w g c)

  pub refused_as_lem : {n : ℕ} → lends g ≡ true → n ≡ refusal_in p core (length m) (length w) → (n ≡ 0 → ⊥) → CoreCalled p core m w g (256 + n) core m w
  unfolding refused_by refusal_in
  refused_as_lem l e some = refused_by_lem (length m) (length w) (λ c. rw (l, c)) e some

  -- what lends nothing meets R1 alone, as if memory and room were of the right length
  pub refused-alone : {n : ℕ} → lends g ≡ false → n ≡ refusal_in p core (memory_length p.total) 134 → (n ≡ 0 → ⊥) → CoreCalled p core m w g (256 + n) core m w
  unfolding refused_by refusal_in
  refused-alone l e some = refused_by_lem (memory_length p.total) 134 (λ c. rw (l, c, eq-eqb (memory_length p.total) (memory_length p.total) refl)) e some

pub unrefused : (p : Plate) (core : List ℕ) (m w : ℕ) → 0 ≡ refusal_in p core m w → Unrefused p core m w
unfolding refusal_in
unrefused p core m w e = go (is_core core) (plate_ok p) (state_ok p (held_in core)) (eqb m (memory_length p.total)) (ltb w 134) refl refl refl refl refl e
  where
    go : (a b c d f : Bool) → is_core core ≡ a → plate_ok p ≡ b → state_ok p (held_in core) ≡ c → eqb m (memory_length p.total) ≡ d → ltb w 134 ≡ f
        → ◌≡◌ {A = ℕ} 0 (pick (not a) 1 (pick (either (not b) (not c)) 1 (pick (not d) 2 (pick f 3 0)))) → Unrefused p core m w
    go true true true true false i j k l n z = record { bytes = i; plate = j; state = k; size = eqb-true m (memory_length p.total) l; wide = omega (arith, ltb-false w 134 n) }
    go true true true true true i j k l n z = absurd (omega (arith, z))
    go true true true false f i j k l n z = absurd (omega (arith, z))
    go true true false d f i j k l n z = absurd (omega (arith, z))
    go true false c d f i j k l n z = absurd (omega (arith, z))
    go false b c d f i j k l n z = absurd (omega (arith, z))
