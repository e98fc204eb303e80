-- What is printed of the board's refusals. Assumes nothing.
use Rattle.std.specs.Prelude.{ℕ, List, codes}
use Rattle.board.specs.declared.calls.Refusal.{Refusal}
use Rattle.board.specs.declared.calls.Refusal.TheVariants.{R1, R2, R3}

abbrev pub board_refusal_text : Refusal → List ℕ
board_refusal_text R1 = codes "R1"
board_refusal_text R2 = codes "R2"
board_refusal_text R3 = codes "R3"
