-- The sheet's lines hold of characters and polls. Assumes nothing.
use Prim.Native.Nat.{ℕ}
use mathlib.Core.Path.{◌≡◌, refl, sym, ap, ap₂, subst, ◌∙◌}
use mathlib.Core.List.{List, [], ◌∷◌}
use lib.Dec.{T, eqb, eqb→eq}
use Rattle.meaning.specs.Bytes.{both, same, zeros}
use Rattle.meaning.specs.State.{Plate, State, Line, none, fresh, with_counter, with_line}
use Rattle.meaning.specs.Fields.{memory_length}
use Rattle.meaning.specs.Characters.{whole}
use Rattle.meaning.specs.Frames.{Outcome, work, resting}
use Rattle.meaning.specs.Run.{poll, Heard, step, run_from, closes}
use Rattle.meaning.specs.Sheet.{Case, fits, holds, all_hold, sheet, sheet_plate}
use Rattle.meaning.specs.Demands.{PlayedInTurn, AllPlay, SheetByCharacters}
use Rattle.meaning.proofs.Steps.{both_0, both_1}
use Rattle.meaning.proofs.Computed.{sheet-holds}
use Rattle.meaning.proofs.Lines.{heard-whole, rests_same}
use Rattle.meaning.proofs.Rests.{work_rests}

pub same_eq : (x y : List ℕ) → T (same x y) → x ≡ y
unfolding same
same_eq [] [] h = refl
same_eq [] (b ∷ y) h = absurd h
same_eq (a ∷ x) [] h = absurd h
same_eq (a ∷ x) (b ∷ y) h = ap₂ (λ (c : ℕ) (z : List ℕ). c ∷ z) (eqb→eq a b (both_0 (eqb a b) (same x y) h)) (same_eq x y (both_1 (eqb a b) (same x y) h))

-- a board with no frame open whose frame is put away
put_away : (s : State) → s.line ≡ none → resting s ≡ s
unfolding resting with_line
put_away s e = λ i. record { codes = s.codes; counter = s.counter; address = s.address; offset = s.offset; measured = s.measured; queue = s.queue; locked = s.locked; line = sym e i }

plays : (p : Plate) (s : State) (m : List ℕ) (ls : List Heard) → s.line ≡ none → T (fits p s m ls) → PlayedInTurn p s m ls
unfolding none
plays p s m [] e h = tt
plays p s m (l ∷ ls) e h = λ gs now said only whole_sent over.
    let o : Outcome = work p s m (whole l.asked) in
    let k : T (both (same o.reply l.answered) (fits p o.state o.memory ls)) = unfold fits in h in
    let w : run_from p s m (poll now ∷ gs) ≡ o
    = unfold run_from step in (heard-whole p s m gs now (ap (λ (x : Line). x.begun) e) whole_sent (unfold closes in over)
    ∙ ap₂ (λ (x : State) (b : List ℕ). work p x m (whole b)) (rests_same p s m gs only whole_sent ∙ put_away s e) said) in
    let next : PlayedInTurn p o.state o.memory ls
    = plays p o.state o.memory ls (work_rests p s m (whole l.asked) ∙ e) (both_1 (same o.reply l.answered) (fits p o.state o.memory ls) k) in (
      ap (λ (x : Outcome). x.reply) w ∙ same_eq o.reply l.answered (both_0 (same o.reply l.answered) (fits p o.state o.memory ls) k),
      subst (λ (x : Outcome). PlayedInTurn p x.state x.memory ls) (sym w) next,
    )

all_play : (cs : List Case) → T (all_hold cs) → AllPlay cs
unfolding all_hold
all_play [] h = tt
all_play (c ∷ cs) h = (
  plays (sheet_plate c.total) (with_counter (fresh (sheet_plate c.total)) c.counter) (zeros (memory_length c.total)) c.lines
      (unfold with_counter fresh in refl) (unfold holds in both_0 (holds c) (all_hold cs) h),
  all_play cs (both_1 (holds c) (all_hold cs) h),
)

pub sheet_by_characters : SheetByCharacters
sheet_by_characters = all_play sheet sheet-holds
