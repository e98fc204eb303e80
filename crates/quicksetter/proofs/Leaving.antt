-- What a call leaves: what is no core; a board written into the core. Assumes nothing.
use Prim.Native.Nat.{ℕ, ◌≤◌}
use native.Mathlib.Omega.{arith}
use mathlib.Core.Path.{◌≡◌, sym, ap, ◌∙◌}
use mathlib.Core.Bool.{false}
use mathlib.Core.List.{List}
use lib.ListN.{length}
use Rattle.meaning.specs.State as meaning
use Rattle.meaning.specs.State.{Plate}
use Rattle.meaning.specs.Characters as characters
use Rattle.meaning.specs.Characters.{remaining}
use Rattle.meaning.specs.Run.{Call, Carried}
use Rattle.line.specs.declared.characters.OpenFrame.{OpenFrame}
use Rattle.line.specs.Line.{line_of}
use Rattle.state.specs.declared.state.State.{State}
use Rattle.state.specs.State.{state_with}
use Rattle.image.specs.Image.{is_core, frame_in, kept_in, held_in, line_bytes, core_of}
use Rattle.image.specs.Writes.{frame_bytes, PutsBoard}
use Rattle.image.proofs.Standing.{line_row}
use Rattle.image.proofs.Parts.{kept-length}
use Rattle.image.proofs.Round.{kept_stays}
use Rattle.quicksetter.specs.Calls.{call_number}
use Rattle.quicksetter.specs.Cores.{core_called, core_after, CoreCalled}

module _ (p : Plate) (core m w : List ℕ) (g : Call) where
  -- R1 for what is no core
  pub no_core : is_core core ≡ false → CoreCalled p core m w g 257 core m w
  unfolding core_called call_number core_after
  no_core e = record { answer = rw e; state = rw e; bytes = rw e; memory = rw e; room = rw e }

  -- the state x that the call leaves, written as a state and an open frame's numbers
  pub board-left : (s : State) (f : OpenFrame) (x : meaning.State) {n : ℕ} {z : Carried} {core' m' w' : List ℕ} → length core ≡ 165
      → core_called p core m w g ≡ (record { refusal = 0; count = n; sleep = z; state = x; memory = m'; room = w' }) → PutsBoard s f core core' → f.len ≤ 135
      → state_with s (line_of f (kept_in core)) ≡ x → CoreCalled p core m w g n core' m' w'
  unfolding call_number core_after core_of
  board-left s f x all k b few e =
      let c : length (kept_in core) ≡ 135 = kept-length core all in
      let row : frame_bytes f ≡ line_bytes (line_of f (kept_in core)) = sym (line_row f (kept_in core) (record { few = few; all = c })) in
      record {
        answer = rw k;
        state = rw (k, b.state, b.frame, b.kept) e;
        bytes = rw (k, ← e) (b.bytes (line_of f (kept_in core)) ∙ rw (row, kept_stays (kept_in core) f.len (omega arith)));
        memory = rw k;
        room = rw k;
      }

-- what remains of the frame, of the state that the core holds
pub remaining_in : (p : Plate) (core : List ℕ) (tick : ℕ) {f : OpenFrame} {r : characters.Remaining} → f ≡ frame_in core
    → ((s : meaning.State) (kept : List ℕ) → s.line ≡ line_of f kept → r ≡ remaining p s tick) → r ≡ remaining p (held_in core) tick
remaining_in p core tick e o = o (held_in core) (kept_in core) (ap (λ (x : OpenFrame). line_of x (kept_in core)) (sym e))
