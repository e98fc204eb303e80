-- How long the firmware may sleep: what an answer's remaining ticks promise (02, Req 03). Assumes nothing.
use Rattle.std.specs.Prelude.{ℕ, ◌+◌, ◌%◌, ◌^◌, ◌≤◌, ◌<◌, ◌≡◌, Bool, List, [], eqb, T}
use Rattle.meaning.specs.State.{Plate, State, plate_ok}
use Rattle.meaning.specs.Characters.{no_frame_open, ticks_left, full_pause}
use Rattle.meaning.specs.Run.{Call, character, poll, measured, fault, power_on, step, run_from, closes, carries, carried}
use Rattle.meaning.specs.Demands.{spoken, unbroken}

-- 02, Req 03, "that many ticks later": by the tick count, a 32-bit number that wraps around (01)
unfoldable pub later : ℕ → ℕ → ℕ
later now k = (now + k) % 2 ^ 32

unfoldable pub tick_of : Call → ℕ  -- 01, "a character with its tick", "a poll at a tick"; 0 where the call has none
tick_of (character now v bad) = now
tick_of (poll now) = now
tick_of (measured n) = 0
tick_of (fault c) = 0
tick_of power_on = 0

-- 01, "a 32-bit number": the last character's stamp and the call's tick are such numbers
pub record Stamped (s : State) (g : Call) : Type 0 where
  pub last : s.line.last < 2 ^ 32
  pub tick : tick_of g < 2 ^ 32

-- 02, Req 03, "with no character, closing poll or power-on between": so measured positions, faults and polls that close nothing
pub record Between (p : Plate) (s : State) (m : List ℕ) (gs : List Call) : Type 0 where
  pub silent : spoken gs ≡ []
  pub unclosed : T (unbroken p s m gs)

-- 02, Req 03, "Polling exactly that many ticks later .. closes the frame; polling earlier does not": of the polls from the answer's own tick up to n ticks later, which
-- the answer carried, the last one closes and no other does
abbrev pub ClosesOnTime : Type 0
ClosesOnTime = (p : Plate) (s : State) (m : List ℕ) (g : Call) (n : ℕ) (gs : List Call) (k : ℕ) → T (plate_ok p) → Stamped s g
    → carried p (step p s m g).state g ≡ carries (ticks_left n)
    → Between p (step p s m g).state (step p s m g).memory gs → k ≤ n
    → closes p (run_from p (step p s m g).state (step p s m g).memory gs).state (poll (later (tick_of g) k)) ≡ eqb k n

-- 02, Req 03, "0 when over": an answer never carries 0, nor more than the full pause
abbrev pub CarriesSome : Type 0
CarriesSome = (p : Plate) (s : State) (m : List ℕ) (g : Call) (n : ℕ) → T (plate_ok p) → carried p (step p s m g).state g ≡ carries (ticks_left n)
    → (1 ≤ n) × (n ≤ full_pause p)

-- 02, Req 03, "as it stands after the call": after a character, whether it opened a frame, joined one or closed one and opened the next, the full pause
abbrev pub FullAfterCharacter : Type 0
FullAfterCharacter = (p : Plate) (s : State) (m : List ℕ) (now v : ℕ) (bad : Bool)
    → carried p (step p s m (character now v bad)).state (character now v bad) ≡ carries (ticks_left (full_pause p))

-- 02, Req 03, "a named 'no frame open'": after a poll that closes the frame
abbrev pub NoneAfterClose : Type 0
NoneAfterClose = (p : Plate) (s : State) (m : List ℕ) (now : ℕ) → T (closes p s (poll now)) → carried p (step p s m (poll now)).state (poll now) ≡ carries no_frame_open
