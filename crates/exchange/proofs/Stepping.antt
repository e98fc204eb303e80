-- What the board's refusal test shows, and which bytes a call leaves among the kept ones. Assumes nothing.
use Prim.Native.Nat.{ℕ, ◌≤◌}
use mathlib.Core.Path.{◌≡◌, ap, ◌∙◌}
use mathlib.Core.Bool.{true}
use mathlib.Core.List.{List}
use borrow.Author.Tests.{leb-true, eqb-true, ltb-false}
use lib.ListN.{length}
use Rattle.meaning.specs.Bytes.{put}
use Rattle.meaning.specs.State.{Plate}
use Rattle.meaning.specs.Fields.{memory_length}
use Rattle.meaning.specs.Run.{Call, Held, step, lends}
use Rattle.board.specs.declared.limits.Board.{Board}
use Rattle.board.specs.declared.calls.Refusal.{Refusal}
use Rattle.board.specs.declared.calls.Stepped.{Stepped}
use Rattle.std.specs.Prelude.{Result}
use Rattle.board.specs.Board.{state_of, refusal_on, Steps}
use Rattle.board.specs.Promises.{Within}
use Rattle.board.proofs.Bounding.{facts}
use Rattle.board.proofs.Stepping.{held_on}
use Rattle.board.proofs.Promises.{unrefused}

-- none of R1 to R3
module _ (p : Plate) (b : Board) (kept m : List ℕ) (r : ℕ) (g : Call) (l : lends g ≡ true) (e : refusal_on p b kept m r g ≡ 0) where
  pub within : Within p b kept m
  within = let f = facts p b kept m r g l e in record {
    plate = f.plate;
    state = f.state;
    few = leb-true b.frame.len 135 f.few;
    places = eqb-true (length kept) 135 f.all;
    size = eqb-true (length m) (memory_length p.total) f.size;
  }

  pub wide : 134 ≤ r
  wide = ltb-false r 134 (facts p b kept m r g l e).wide

-- of the lent places those that the open frame keeps are written
pub kept-bytes : (p : Plate) (b : Board) (kept m w : List ℕ) (g : Call) {r : Result Stepped Refusal} {kept' m' w' : List ℕ} → Within p b kept m → 134 ≤ length w
    → Steps p b kept m w g r kept' m' w' → kept' ≡ put kept 0 (step p (state_of b kept) m g).state.line.kept
kept-bytes p b kept m w g h room s =
    s.bytes ∙ ap (λ (x : Held). put kept 0 x.state.line.kept) (held_on p b kept m w g (unrefused p b kept m (length w) g h room))
