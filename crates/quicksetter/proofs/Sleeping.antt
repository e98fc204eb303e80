-- A C host that sleeps as long as the call's number says, and then polls, closes the frame on time (02, Req 03). Assumes nothing.
use Prim.Native.Nat.{ℕ, ◌+◌, ◌-◌, ◌/◌, ◌%◌, ◌^◌, ◌≤◌, ◌<◌}
use native.Mathlib.Omega.{arith}
use mathlib.Core.Path.{◌≡◌, refl, sym, ap, ap₂, subst, ◌∙◌}
use mathlib.Core.Bool.{Bool, true, false, not}
use mathlib.Core.List.{List, [], ◌∷◌}
use borrow.Author.Tests.{le-leb}
use lib.Dec.{T, eqb}
use lib.ListN.{length}
use Rattle.meaning.specs.Bytes.{both, either, arg}
use Rattle.meaning.specs.State as meaning
use Rattle.meaning.specs.State.{Plate, plate_ok, between}
use Rattle.meaning.specs.Characters.{no_frame_open, ticks_left}
use Rattle.meaning.specs.Frames.{Outcome, still}
use Rattle.meaning.specs.Run.{Call, character, poll, measured, fault, power_on, step, run_from, lends, closes, Carried, nothing, carries, carried, Held}
use Rattle.meaning.specs.Demands.{spoken, calm, unbroken}
use Rattle.meaning.specs.Sleeping.{later, tick_of, Between}
use Rattle.meaning.proofs.Choices.{true-told, both_intro}
use Rattle.meaning.proofs.Plates.{longest_pause}
use Rattle.meaning.proofs.Sleeping.{carries-some, carries_then, closes_on_time}
use Rattle.image.specs.Image.{core_in, frame_in}
use Rattle.image.proofs.Numbers.{there-fits}
use Rattle.quicksetter.specs.Calls.{state_held, called_by, call_number, sleep_number, answer_number, Called, CalledWithSleep, reply_in, sleep_in}
use Rattle.quicksetter.specs.Sleeping.{QsHalves, QsRefusedSleep, QsSleepWithin, CalledBetween, at_once, and_then, QsClosesOnTime}
use Rattle.quicksetter.proofs.Heads.{core-small}
use Rattle.quicksetter.proofs.Numbers.{number-low, carries-none}
use Rattle.quicksetter.proofs.Staying.{Holds, steps_so, goes_on, reached}

-- ---- the halves
pub qs_halves : QsHalves
unfolding reply_in sleep_in answer_number
qs_halves img m w g r img' m' w' c =
    let h : Held = called_by img m w g in
    let low = number-low img m w g in
    let reply : r % 0x100000000 ≡ call_number h = omega (arith, c.number, low) in
    let sleep : r / 0x100000000 ≡ sleep_number h.sleep = omega (arith, c.number, low) in
    record { reply = subst (λ (n : ℕ). Called img m w g n img' m' w') (sym reply) c.called; sleep = sleep }

pub qs_refused-sleep : QsRefusedSleep
unfolding sleep_number
qs_refused-sleep img m w g r img' m' w' c big =
    let h = qs_halves img m w g r img' m' w' c in
    let n : ℕ = reply_in r - 256 in
    let e : 256 + n ≡ call_number (called_by img m w g) = omega (arith, h.reply.answer) in
    h.sleep ∙ ap sleep_number (carries-none img m w g n e)

-- what a call of a host that is never refused carries
carried_so : (p : Plate) (img m w : List ℕ) (g : Call) (r : ℕ) (img' m' w' : List ℕ) → Holds p img m → 134 ≤ length w → CalledWithSleep img m w g r img' m' w'
    → sleep_in r ≡ sleep_number (carried p (step p (state_held img) m g).state g)
carried_so p img m w g r img' m' w' k wide c =
    let h = qs_halves img m w g r img' m' w' c in
    h.sleep ∙ ap sleep_number (steps_so p img m w g (reply_in r) img' m' w' k wide h.reply).sleep_told

told-within : (n : ℕ) → 1 ≤ n → n ≤ 3520 → T (either (eqb n 0xFFFFFFFF) (between 1 3520 n))
told-within n some few = rw (le-leb 1 n some, le-leb n 3520 few) (go (eqb n 0xFFFFFFFF))
  where
    go : (b : Bool) → T (either b true)
    go true = tt
    go false = tt

-- a character and a poll carry, and not 0
within_so : (p : Plate) (s : meaning.State) (m : List ℕ) (g : Call) → plate_ok p ≡ true → lends g ≡ true
    → T (either (eqb (sleep_number (carried p (step p s m g).state g)) 0xFFFFFFFF) (between 1 3520 (sleep_number (carried p (step p s m g).state g))))
unfolding sleep_number
within_so p s m g ok l = go (carried p (step p s m g).state g) refl
  where
    go : (x : Carried) → carried p (step p s m g).state g ≡ x → T (either (eqb (sleep_number x) 0xFFFFFFFF) (between 1 3520 (sleep_number x)))
    go nothing e = absurd (carries_then p (step p s m g).state g l e)
    go (carries no_frame_open) e = tt
    go (carries (ticks_left n)) e =
        let h = carries-some p s m g n (true-told (plate_ok p) ok) e in
        told-within n h.0 (omega (arith, h.1, longest_pause p ok))

pub qs_sleep-within : QsSleepWithin
qs_sleep-within p img m w g r img' m' w' h wide l c =
    let k = reached p img m h in
    rw (carried_so p img m w g r img' m' w' k wide c) (within_so p (state_held img) m g k.plate l)

-- ---- on time
-- a sleep that is a number of ticks
ticks_then : (x : Carried) (n : ℕ) → n ≡ sleep_number x → n ≤ 3520 → x ≡ carries (ticks_left n)
unfolding sleep_number
ticks_then nothing n e h = absurd (omega (arith, e))
ticks_then (carries no_frame_open) n e h = absurd (omega (arith, e))
ticks_then (carries (ticks_left j)) n e h = ap (λ (i : ℕ). carries (ticks_left i)) (sym e)

-- the calls in between, as the meaning's
record Past (p : Plate) (img m img'' m'' : List ℕ) : Type 0 where
  calls : List Call
  state : state_held img'' ≡ (run_from p (state_held img) m calls).state
  memory : m'' ≡ (run_from p (state_held img) m calls).memory
  between : Between p (state_held img) m calls
  holds : Holds p img'' m''

silent-more : (g : Call) (gs : List Call) → spoken (g ∷ []) ≡ [] → spoken gs ≡ [] → spoken (g ∷ gs) ≡ []
unfolding spoken
silent-more (character now v bad) gs e h = rw h e
silent-more (poll now) gs e h = h
silent-more (measured n) gs e h = h
silent-more (fault c) gs e h = h
silent-more power_on gs e h = h

past : (p : Plate) (img m img'' m'' : List ℕ) → Holds p img m → CalledBetween p img m img'' m'' → Past p img m img'' m''
unfolding run_from unbroken still
past p img m _ _ k (at_once _ _) = record { calls = []; state = refl; memory = refl; between = record { silent = unfold spoken in refl; unclosed = tt }; holds = k }
past p img m _ _ k (and_then _ _ img₁ m₁ w g r img₂ m₂ w₂ before wide quiet steady unclosed c) =
    let q = past p img m img₁ m₁ k before in
    let s = steps_so p img₁ m₁ w g r img₂ m₂ w₂ q.holds wide c in
    let same : step p (state_held img₁) m₁ g ≡ step p (run_from p (state_held img) m q.calls).state (run_from p (state_held img) m q.calls).memory g
    = ap₂ (λ (x : meaning.State) (y : List ℕ). step p x y g) q.state q.memory in
    let none = not (closes p (run_from p (state_held img) m q.calls).state g) in
    let shut : T none = rw (← q.state, unclosed) tt in
    record {
      calls = g ∷ q.calls;
      state = s.after ∙ ap (λ (o : Outcome). o.state) same;
      memory = s.kept ∙ ap (λ (o : Outcome). o.memory) same;
      between = record {
        silent = silent-more g q.calls quiet q.between.silent;
        unclosed = both_intro (both (calm g) none) (unbroken p (state_held img) m q.calls) (both_intro (calm g) none steady shut) q.between.unclosed;
      };
      holds = goes_on p img₁ m₁ w g r img₂ m₂ w₂ q.holds wide c;
    }

-- the last stamp of an image of bytes is a 32-bit number
stamp_low : (img : List ℕ) → ((i : ℕ) → arg img i < 256) → (state_held img).line.last < 2 ^ 32
unfolding frame_in
stamp_low img small = there-fits (core_in img) (core-small img small) 24 4

pub qs_closes_on_time : QsClosesOnTime
qs_closes_on_time p img m w g r img' m' w' img'' m'' k h small low wide c few meanwhile early =
    let held = reached p img m h in
    let parts = qs_halves img m w g r img' m' w' c in
    let s = steps_so p img m w g (reply_in r) img' m' w' held wide parts.reply in
    let n = sleep_in r in
    let x = carried p (step p (state_held img) m g).state g in
    let e : x ≡ carries (ticks_left n) = ticks_then x n (carried_so p img m w g r img' m' w' held wide c) few in
    let q = past p img' m' img'' m'' (goes_on p img m w g (reply_in r) img' m' w' held wide parts.reply) meanwhile in
    let after : Between p (step p (state_held img) m g).state (step p (state_held img) m g).memory q.calls = rw (← s.after, ← s.kept) q.between in
    let then = closes_on_time p (state_held img) m g n q.calls k (true-told (plate_ok p) held.plate) (record { last = stamp_low img small; tick = low }) e after early in
    let same : state_held img'' ≡ (run_from p (step p (state_held img) m g).state (step p (state_held img) m g).memory q.calls).state
    = q.state ∙ ap₂ (λ (x : meaning.State) (y : List ℕ). (run_from p x y q.calls).state) s.after s.kept in
    ap (λ (x : meaning.State). closes p x (poll (later (tick_of g) k))) same ∙ then
