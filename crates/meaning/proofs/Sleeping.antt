-- What an answer's remaining ticks promise: a poll then closes the frame, an earlier one does not (02, Req 03). Assumes nothing.
use Prim.Native.Nat.{ℕ, ◌+◌, ◌-◌, ◌^◌, ◌≤◌, ◌<◌}
use mathlib.Core.Path.{◌≡◌, refl, sym, ap, ◌∙◌}
use mathlib.Core.Bool.{Bool, true, false, not, false≢true}
use mathlib.Core.List.{List, [], ◌∷◌, ◌++◌}
use native.Mathlib.Omega.{arith}
use native.Mathlib.Decide.{dec_lt}
use native.Mathlib.Nat.{mod-eq_of_lt}
use lib.Dec.{T, eqb, leb}
use lib.ListN.{length, length-append}
use borrow.Author.Tests.{eqb-false, le-leb, lt-leb, eq-eqb, ne_eqb}
use Rattle.meaning.specs.Bytes.{pick, both}
use Rattle.meaning.specs.State.{Plate, State, none, plate_ok, with_line, with_measured, powered_on}
use Rattle.meaning.specs.Characters.{gap, full_pause, Remaining, no_frame_open, ticks_left, remaining, ran_out, over, more, taken, closed}
use Rattle.meaning.specs.Frames.{Outcome, still, resting, close, up_to}
use Rattle.meaning.specs.Run.{Call, character, poll, measured, fault, power_on, step, lends, run_from, closes, Carried, nothing, carries, carried}
use Rattle.meaning.specs.Demands.{spoken, calm, unbroken}
use Rattle.meaning.specs.Sleeping.{later, tick_of, Stamped, ClosesOnTime, CarriesSome, FullAfterCharacter, NoneAfterClose}
use Rattle.meaning.proofs.Choices.{pick_true, told-true}
use Rattle.meaning.proofs.Steps.{both_0, both_1}
use Rattle.meaning.proofs.Plates.{some-pause, longest_pause}
use Rattle.meaning.proofs.Lines.{waits_on, noted-line}
use Rattle.meaning.proofs.Rests.{work_rests}
use Rattle.meaning.proofs.Gaps.{gap_self, gap-later, over-told, over-is}

-- what remains is told by the line alone
by_line : (p : Plate) (s t : State) (now : ℕ) → s.line ≡ t.line → remaining p s now ≡ remaining p t now
unfolding remaining
by_line p s t now e = rw e

-- ---- a poll
-- one that closes the frame puts it away
shut_line : (p : Plate) (s : State) (m : List ℕ) (now : ℕ) → T (over p s now) → (up_to p s m now).state.line ≡ none
unfolding up_to close resting with_line
shut_line p s m now o = ap (λ (x : Outcome). x.state.line) (pick_true (over p s now) (close p s m now) (still s m) o) ∙ work_rests p (resting s) m (closed s.line)

-- any other leaves it
open_line : (p : Plate) (s : State) (m : List ℕ) (now : ℕ) → T (not (over p s now)) → (up_to p s m now).state.line ≡ s.line
unfolding still
open_line p s m now n = ap (λ (x : Outcome). x.state.line) (waits_on p s m now n)

shut_left : (p : Plate) (s : State) (m : List ℕ) (now t : ℕ) → T (over p s now) → remaining p (up_to p s m now).state t ≡ no_frame_open
unfolding remaining none
shut_left p s m now t o = rw (shut_line p s m now o)

pub none-after-close : NoneAfterClose
unfolding carried step closes
none-after-close p s m now o = ap carries (shut_left p s m now _ o)

-- ---- a character
taken-left : (p : Plate) (s : State) (now v : ℕ) (bad : Bool) → remaining p (taken s now v bad) now ≡ ticks_left (full_pause p)
unfolding remaining taken with_line more
taken-left p s now v bad = rw (gap_self now) (ap ticks_left (omega arith))

pub full-after-character : FullAfterCharacter
unfolding carried step
full-after-character p s m now v bad = ap carries (taken-left p (up_to p s m now).state now v bad)

-- ---- what a carried number says
abbrev is_carried : Carried → Bool
is_carried nothing = false
is_carried (carries r) = true

abbrev carried_in : Carried → Remaining
carried_in nothing = no_frame_open
carried_in (carries r) = r

-- only a character and a poll carry, each at its tick
at_its_tick : (p : Plate) (s : State) (g : Call) (r : Remaining) → carried p s g ≡ carries r → remaining p s (tick_of g) ≡ r
unfolding carried tick_of
at_its_tick p s (character now v bad) r e = ap carried_in e
at_its_tick p s (poll now) r e = ap carried_in e
at_its_tick p s (measured n) r e = absurd (false≢true (ap is_carried e))
at_its_tick p s (fault c) r e = absurd (false≢true (ap is_carried e))
at_its_tick p s power_on r e = absurd (false≢true (ap is_carried e))

-- what lends nothing carries nothing
pub none-carried : (p : Plate) (s : State) (g : Call) → lends g ≡ false → carried p s g ≡ nothing
unfolding carried lends
none-carried p s (character now v bad) l = absurd (false≢true (sym l))
none-carried p s (poll now) l = absurd (false≢true (sym l))
none-carried p s (measured n) l = refl
none-carried p s (fault c) l = refl
none-carried p s power_on l = refl

-- and what lends carries
pub carries_then : (p : Plate) (s : State) (g : Call) → lends g ≡ true → carried p s g ≡ nothing → ⊥
unfolding carried lends
carries_then p s (character now v bad) l e = false≢true (sym (ap is_carried e))
carries_then p s (poll now) l e = false≢true (sym (ap is_carried e))
carries_then p s (measured n) l e = false≢true l
carries_then p s (fault c) l e = false≢true l
carries_then p s power_on l e = false≢true l

abbrev is_open : Remaining → Bool
is_open no_frame_open = false
is_open (ticks_left n) = true

abbrev left_in : Remaining → ℕ
left_in no_frame_open = 0
left_in (ticks_left n) = n

-- a frame is open, and n is the pause less the gap
record Left (p : Plate) (s : State) (now n : ℕ) : Type 0 where
  open_frame : s.line.begun ≡ true
  number : n ≡ full_pause p - gap s.line.last now

left_so : (p : Plate) (s : State) (now n : ℕ) → remaining p s now ≡ ticks_left n → Left p s now n
unfolding remaining
left_so p s now n = go s.line.begun refl
  where
    go : (b : Bool) → s.line.begun ≡ b → pick b (ticks_left (full_pause p - gap s.line.last now)) no_frame_open ≡ ticks_left n → Left p s now n
    go true b e = record { open_frame = b; number = sym (ap left_in e) }
    go false b e = absurd (false≢true (ap is_open e))

-- ---- 1 up to the full pause
some_left : (p : Plate) (s : State) (m : List ℕ) (g : Call) (n : ℕ) → T (plate_ok p) → carried p (step p s m g).state g ≡ carries (ticks_left n) → 1 ≤ n
unfolding step carried
some_left p s m (character now v bad) n ok e =
    omega (arith, some-pause p (told-true (plate_ok p) ok), ap left_in (sym (taken-left p (up_to p s m now).state now v bad) ∙ ap carried_in e))
some_left p s m (poll now) n ok e = go (over p s now) refl
  where
    left : remaining p (up_to p s m now).state now ≡ ticks_left n
    left = ap carried_in e

    go : (b : Bool) → over p s now ≡ b → 1 ≤ n
    go true o = absurd (false≢true (ap is_open (sym (shut_left p s m now now (rw o tt)) ∙ left)))
    go false o =
        let still-left : remaining p s now ≡ ticks_left n = sym (by_line p (up_to p s m now).state s now (open_line p s m now (rw o tt))) ∙ left in
        let more-than-0 : eqb n 0 ≡ false = sym (over-told p s now (sym still-left)) ∙ o in
        omega (arith, eqb-false n 0 more-than-0)
some_left p s m (measured k) n ok e = absurd (false≢true (ap is_carried e))
some_left p s m (fault c) n ok e = absurd (false≢true (ap is_carried e))
some_left p s m power_on n ok e = absurd (false≢true (ap is_carried e))

pub carries-some : CarriesSome
carries-some p s m g n ok e =
    let l = left_so p (step p s m g).state (tick_of g) n (at_its_tick p (step p s m g).state g (ticks_left n) e) in
    (some_left p s m g n ok e, omega (arith, l.number))

-- ---- in between
-- a stamp stays a 32-bit number
stamp_low : (p : Plate) (s : State) (m : List ℕ) (g : Call) → Stamped s g → (step p s m g).state.line.last < 2 ^ 32
unfolding step tick_of still none
stamp_low p s m (character now v bad) h = unfold taken with_line more in h.tick
stamp_low p s m (poll now) h = go (over p s now) refl
  where
    go : (b : Bool) → over p s now ≡ b → (up_to p s m now).state.line.last < 2 ^ 32
    go true o = rw (shut_line p s m now (rw o tt)) (omega arith)
    go false o = rw (open_line p s m now (rw o tt)) h.last
stamp_low p s m (measured n) h = unfold with_measured in h.last
stamp_low p s m (fault c) h = rw (noted-line s c) h.last
stamp_low p s m power_on h = unfold powered_on with_line none in omega arith

not_empty : (l : List ℕ) (v : ℕ) → l ++ (v ∷ []) ≡ [] → ⊥
not_empty l v e = omega (arith, length-append l (v ∷ []), ap length e)

step-between : (p : Plate) (o : Outcome) (g : Call) (gs : List Call) → spoken (g ∷ gs) ≡ [] → T (calm g) → T (not (closes p o.state g))
    → (step p o.state o.memory g).state.line ≡ o.state.line
unfolding spoken calm closes step still
step-between p o (character now v bad) gs e c n = absurd (not_empty (spoken gs) v e)
step-between p o (poll now) gs e c n = open_line p o.state o.memory now n
step-between p o (measured k) gs e c n = unfold with_measured in refl
step-between p o (fault x) gs e c n = noted-line o.state x
step-between p o power_on gs e c n = absurd c

silent-before : (g : Call) (gs : List Call) → spoken (g ∷ gs) ≡ [] → spoken gs ≡ []
unfolding spoken
silent-before (character now v bad) gs e = absurd (not_empty (spoken gs) v e)
silent-before (poll now) gs e = e
silent-before (measured n) gs e = e
silent-before (fault c) gs e = e
silent-before power_on gs e = e

-- the frame stays as it was
line-between : (p : Plate) (s : State) (m : List ℕ) (gs : List Call) → spoken gs ≡ [] → T (unbroken p s m gs) → (run_from p s m gs).state.line ≡ s.line
unfolding unbroken run_from
line-between p s m [] e u = unfold still in refl
line-between p s m (g ∷ gs) e u =
    let x = both (calm g) (not (closes p (run_from p s m gs).state g)) in
    let y = both_0 x (unbroken p s m gs) u in
    step-between p (run_from p s m gs) g gs e (both_0 (calm g) _ y) (both_1 (calm g) _ y)
    ∙ line-between p s m gs (silent-before g gs e) (both_1 x (unbroken p s m gs) u)

-- ---- on time
-- of a pause of which n ticks remain, k more are all exactly if k is n
full_then : (pause since n k : ℕ) → n ≡ pause - since → 1 ≤ n → k ≤ n → leb pause (since + k) ≡ eqb k n
full_then pause since n k e some few = go (dec_lt k n)
  where
    go : Dec (k < n) → leb pause (since + k) ≡ eqb k n
    go (yes h) = rw (ne_eqb k n (λ x. omega (arith, x))) (lt-leb pause (since + k) (omega arith))
    go (no h) = rw (eq-eqb k n (omega arith)) (le-leb pause (since + k) (omega arith))

pub closes_on_time : ClosesOnTime
unfolding closes
closes_on_time p s m g n gs k ok stamped e w few =
    let s₁ = (step p s m g).state in
    let s₂ = (run_from p s₁ (step p s m g).memory gs).state in
    let t = later (tick_of g) k in
    let l = left_so p s₁ (tick_of g) n (at_its_tick p s₁ g (ticks_left n) e) in
    let since = gap s₁.line.last (tick_of g) in
    let some : 1 ≤ n = some_left p s m g n ok e in
    let small : since + k < 2 ^ 32 = omega (arith, l.number, longest_pause p (told-true (plate_ok p) ok)) in
    let same : over p s₂ t ≡ over p s₁ t = unfold over in ap ran_out (by_line p s₂ s₁ t (line-between p s₁ (step p s m g).memory gs w.silent w.unclosed)) in
    let then : gap s₁.line.last t ≡ since + k = gap-later s₁.line.last (tick_of g) k (stamp_low p s m g stamped) ∙ mod-eq_of_lt small in
    same ∙ over-is p s₁ t ∙ rw (l.open_frame, then) (full_then (full_pause p) since n k l.number some few)
