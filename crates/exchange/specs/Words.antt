-- What is printed where nothing was sent. Assumes nothing.
use Rattle.std.specs.Prelude.{ℕ, List, codes}
use Rattle.board.specs.Words.{board_refusal_text}
use Rattle.bench.specs.Words.{unwritten_text}
use Rattle.exchange.specs.declared.asking.Refusal.{Refusal}
use Rattle.exchange.specs.declared.asking.Refusal.TheVariants as unsent
use Rattle.exchange.specs.declared.asking.Refusal.TheVariants.{FrameOpen, TooSlow}

abbrev pub unsent_text : Refusal → List ℕ
unsent_text (unsent.Board e) = board_refusal_text e
unsent_text FrameOpen = codes "a frame is open"
unsent_text TooSlow = codes "too slow"
unsent_text (unsent.Bench e) = unwritten_text e
