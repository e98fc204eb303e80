-- A character or a poll that closes no frame (01, "Characters become frames"). Assumes nothing.
use Rattle.std.specs.Prelude.{ℕ, ◌≡◌, Bool, true, false, List}
use Rattle.meaning.specs.Bytes.{put}
use Rattle.meaning.specs.State.{Plate}
use Rattle.meaning.specs.Characters.{taken}
use Rattle.meaning.specs.Run.{Call, step, closes}
use Rattle.board.specs.declared.limits.Board.{Board}
use Rattle.board.specs.Board.{state_of, fits_in}

-- a character is taken in as the meaning takes it. Places past the kept bytes are untouched
pub record TakesIn (b : Board) (kept : List ℕ) (t v : ℕ) (bad : Bool) (b' : Board) (kept' : List ℕ) : Type 0 where
  pub state : state_of b' kept' ≡ taken (state_of b kept) t v bad
  pub bytes : kept' ≡ put kept 0 (taken (state_of b kept) t v bad).line.kept
  pub fits : fits_in b' kept' ≡ true

-- what a call leaves that closes no frame: the board of the meaning's step, whatever the memory
pub record ClosesNone (p : Plate) (b : Board) (kept : List ℕ) (g : Call) (b' : Board) (kept' : List ℕ) : Type 0 where
  pub none : closes p (state_of b kept) g ≡ false
  pub state : (m : List ℕ) → state_of b' kept' ≡ (step p (state_of b kept) m g).state
  pub bytes : kept' ≡ put kept 0 (state_of b' kept').line.kept
  pub fits : fits_in b' kept' ≡ true
