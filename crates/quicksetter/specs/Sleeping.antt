-- How long a C host may sleep: what the two numbers that a character and a poll return promise (02, Req 03). Assumes nothing.
use Rattle.std.specs.Prelude.{ℕ, ◌^◌, ◌≤◌, ◌<◌, ◌≡◌, true, false, List, [], ◌∷◌, T, eqb, length}
use Rattle.meaning.specs.Bytes.{either, longest_reply, arg}
use Rattle.meaning.specs.State.{Plate, between}
use Rattle.meaning.specs.Run.{Call, poll, lends, closes}
use Rattle.meaning.specs.Demands.{spoken, calm}
use Rattle.meaning.specs.Sleeping.{later, tick_of}
use Rattle.quicksetter.specs.Calls.{state_held, called_by, sleep_number, Called, CalledWithSleep, reply_in, sleep_in}
use Rattle.quicksetter.specs.Promises.{Reached}

-- QS_REPLY is the number of which all other promises speak, QS_SLEEP the sleep that the call's answer carries
pub record Halves (img m w : List ℕ) (g : Call) (r : ℕ) (img' m' w' : List ℕ) : Type 0 where
  pub reply : Called img m w g (reply_in r) img' m' w'
  pub sleep : sleep_in r ≡ sleep_number (called_by img m w g).sleep

abbrev pub QsHalves : Type 0
QsHalves = (img m w : List ℕ) (g : Call) (r : ℕ) (img' m' w' : List ℕ) → CalledWithSleep img m w g r img' m' w' → Halves img m w g r img' m' w'

-- a refused call tells QS_SLEEP_REFUSED; of a host that is never refused, a character and a poll tell QS_NO_FRAME_OPEN or 1 to 3520 ticks, so never 0
abbrev pub QsRefusedSleep : Type 0
QsRefusedSleep = (img m w : List ℕ) (g : Call) (r : ℕ) (img' m' w' : List ℕ) → CalledWithSleep img m w g r img' m' w' → 256 ≤ reply_in r → sleep_in r ≡ 0xFFFFFFFE

abbrev pub QsSleepWithin : Type 0
QsSleepWithin = (p : Plate) (img m w : List ℕ) (g : Call) (r : ℕ) (img' m' w' : List ℕ) → Reached p img m → longest_reply ≤ length w → lends g ≡ true
    → CalledWithSleep img m w g r img' m' w' → T (either (eqb (sleep_in r) 0xFFFFFFFF) (between 1 3520 (sleep_in r)))

-- what a host calls in between: measured positions, faults and polls that close nothing; image and memory before and after
pub data CalledBetween (p : Plate) : List ℕ → List ℕ → List ℕ → List ℕ → Type 0 where
  at_once : (img m : List ℕ) → CalledBetween p img m img m
  and_then : (img m img₁ m₁ w : List ℕ) (g : Call) (r : ℕ) (img₂ m₂ w₂ : List ℕ) → CalledBetween p img m img₁ m₁ → longest_reply ≤ length w → spoken (g ∷ []) ≡ [] → T (calm g)
      → closes p (state_held img₁) g ≡ false → Called img₁ m₁ w g r img₂ m₂ w₂ → CalledBetween p img m img₂ m₂

-- 02, Req 03, "Polling exactly that many ticks later .. closes the frame; polling earlier does not": of an image of bytes, the ticks being 32-bit numbers
abbrev pub QsClosesOnTime : Type 0
QsClosesOnTime = (p : Plate) (img m w : List ℕ) (g : Call) (r : ℕ) (img' m' w' img'' m'' : List ℕ) (k : ℕ) → Reached p img m → ((i : ℕ) → arg img i < 256) → tick_of g < 2 ^ 32
    → longest_reply ≤ length w → CalledWithSleep img m w g r img' m' w' → sleep_in r ≤ 3520 → CalledBetween p img' m' img'' m'' → k ≤ sleep_in r
    → closes p (state_held img'') (poll (later (tick_of g) k)) ≡ eqb k (sleep_in r)
