-- 02, Req 01: after any run the board answers to exactly one address of 0 to 31, the one that the traffic tells, and to FFh. Assumes nothing.
use Prim.Native.Nat.{ℕ, ◌+◌, ◌≤◌}
use mathlib.Core.Path.{◌≡◌, refl, sym, ap, ◌∙◌}
use mathlib.Core.Bool.{Bool, true, false, not}
use mathlib.Core.List.{List}
use native.Mathlib.Omega.{arith}
use lib.Dec.{T, eqb, eqb→eq, ltb, ltb→lt, not_T}
use lib.ListN.{length}
use Rattle.meaning.specs.Bytes.{pick, either, arg}
use Rattle.meaning.specs.State.{Plate, State, own_byte}
use Rattle.meaning.specs.Characters.{Frame}
use Rattle.meaning.specs.Frames.{short, elsewhere, answered, ending, ours, judged, leaves, still, work, command_byte}
use Rattle.meaning.specs.Run.{run, traffic}
use Rattle.meaning.specs.Ledger.{address_of, AnswersTo, AnswersToOne}
use Rattle.meaning.proofs.Cases.{eq→eqb}
use Rattle.meaning.proofs.Room.{not_short, yes_not}
use Rattle.meaning.proofs.Limits.{run_lim, plate-address}
use Rattle.meaning.proofs.Whole.{memory_by_traffic}

or_first : (x y : Bool) → T x → T (either x y)
or_first true y h = tt
or_first false y h = absurd h

or_second : (x y : Bool) → T y → T (either x y)
or_second true y h = tt
or_second false y h = h

neither : (x y : Bool) → T (not x) → T (not y) → either x y ≡ false
neither true y n k = absurd n
neither false true n k = absurd k
neither false false n k = refl

module _ (p : Plate) (s : State) (m : List ℕ) (b : Frame) where
  -- a frame that is not too short and is the board's own
  heard : 3 ≤ length b.bytes → T (ours s b.bytes) → ending p s m b ≡ answered (judged p s m b)
  unfolding ending
  heard l h =
      not_short (ltb (length b.bytes) 3) short (pick (not (ours s b.bytes)) elsewhere (answered (judged p s m b)))
      (not_T (ltb (length b.bytes) 3) (λ k. omega (arith, ltb→lt (length b.bytes) 3 k)))
      ∙ not_short (not (ours s b.bytes)) elsewhere (answered (judged p s m b)) (yes_not (ours s b.bytes) h)

  -- one that is not changes nothing, however long it is
  pub passed_over : ours s b.bytes ≡ false → work p s m b ≡ still s m
  unfolding work ending leaves
  passed_over n = rw n (go (ltb (length b.bytes) 3))
    where
      go : (q : Bool) → leaves s m (command_byte b.bytes) (pick q short elsewhere) ≡ still s m
      go true = refl
      go false = refl

pub answers-to : (p : Plate) (s : State) (m : List ℕ) (a : ℕ) → s.address ≡ a → a ≤ 31 → AnswersTo p s m a
unfolding ours own_byte
answers-to p s m a e l = record {
  possible = l;
  own = λ b long at. heard p s m b long (or_first (eqb (arg b.bytes 0) (0x40 + s.address)) (eqb (arg b.bytes 0) 0xFF) (eq→eqb (arg b.bytes 0) (0x40 + s.address) (at ∙ ap (λ (x : ℕ). 0x40 + x) (sym e))));
  broadcast = λ b long at. heard p s m b long (or_second (eqb (arg b.bytes 0) (0x40 + s.address)) (eqb (arg b.bytes 0) 0xFF) (eq→eqb (arg b.bytes 0) 0xFF at));
  no_other = λ b n k. passed_over p s m b
      (neither (eqb (arg b.bytes 0) (0x40 + s.address)) (eqb (arg b.bytes 0) 0xFF)
      (not_T (eqb (arg b.bytes 0) (0x40 + s.address)) (λ x. n (eqb→eq (arg b.bytes 0) (0x40 + s.address) x ∙ ap (λ (y : ℕ). 0x40 + y) e)))
      (not_T (eqb (arg b.bytes 0) 0xFF) (λ x. k (eqb→eq (arg b.bytes 0) 0xFF x))));
}

pub answers-to_one : AnswersToOne
answers-to_one p gs h =
    let told = (memory_by_traffic p gs).address_in_force in
    answers-to p (run p gs).state (run p gs).memory (address_of p (traffic p gs)) told (rw (← told) (run_lim p gs (plate-address p h)).placed)
