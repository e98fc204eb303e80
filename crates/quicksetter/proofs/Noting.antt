-- What a host tells besides characters and the time, in a core that R1 does not refuse: a measured position, a fault code, power-on. Assumes nothing.
use Prim.Native.Nat.{ℕ, ◌<◌, ◌≤◌}
use native.Mathlib.Omega.{arith}
use mathlib.Core.Path.{◌≡◌, refl}
use mathlib.Core.Bool.{true, false}
use mathlib.Core.List.{List}
use borrow.Author.Tests.{eq-eqb}
use lib.Dec.{eqb}
use lib.ListN.{length}
use Rattle.meaning.specs.Bytes.{arg}
use Rattle.meaning.specs.State as meaning
use Rattle.meaning.specs.State.{Plate, none, with_measured, noted, powered_on, with_queue, with_lock}
use Rattle.meaning.specs.Fields.{memory_length}
use Rattle.meaning.specs.Frames.{still}
use Rattle.meaning.specs.Run.{Call, measured, fault, power_on, lends, step, carried, called, refused_by}
use Rattle.line.specs.declared.characters.OpenFrame.{OpenFrame}
use Rattle.line.specs.Line.{line_of, no_frame}
use Rattle.state.specs.declared.faults.Faults.{Faults}
use Rattle.state.specs.declared.state.State.{State}
use Rattle.state.specs.Queue.{no_faults, holding}
use Rattle.state.specs.State.{state_with}
use Rattle.meaning.proofs.Puts.{put-nothing}
use Rattle.state.proofs.States.{powers_on}
use Rattle.board.proofs.Stepping.{no_line}
use Rattle.image.specs.Image.{state_in, frame_in, kept_in, held_in}
use Rattle.image.specs.Writes.{measured_set, faults_set, HoldsState, PutsState, NotesIn, PutsFrame, PutsBoard}
use Rattle.image.proofs.Parts.{puts_board}
use Rattle.image.proofs.Placing.{only_state}
use Rattle.image.proofs.Round.{Good, good}
use Rattle.quicksetter.specs.Cores.{core_called, CoreCalled, Unrefused}
use Rattle.quicksetter.proofs.Leaving.{board-left}

pub drops_all : (core : List ℕ) {g : Faults} {f : OpenFrame} {mid core' : List ℕ} → HoldsState core → g ≡ no_faults → f ≡ no_frame → PutsState (faults_set (state_in core) g) core mid
    → PutsFrame f mid core' → PutsBoard (faults_set (state_in core) no_faults) no_frame core core'
drops_all core h i j p q = puts_board (faults_set (state_in core) no_faults) no_frame core h.all (rw i at p) (rw j at q)

-- R1 does not apply, by the tests of a call that lends nothing
module _ (p : Plate) (core : List ℕ) (u : Unrefused p core (memory_length p.total) 134) where
  well : Good core
  well = good core u.bytes

  pub state_held_lem : HoldsState core
  state_held_lem = record { all = well.all; lock = well.locked }

  module _ (m w : List ℕ) (g : Call) (l : lends g ≡ false) where
    unrefused-alone : refused_by p (held_in core) m (length w) g ≡ 0
    unfolding refused_by
    unrefused-alone = rw (u.plate, u.state, l)

    told_in : (s : State) (f : OpenFrame) (x : meaning.State) {core' : List ℕ} → step p (held_in core) m g ≡ still x m → PutsBoard s f core core' → f.len ≤ 135
        → state_with s (line_of f (kept_in core)) ≡ x → CoreCalled p core m w g 0 core' m w
    unfolding core_called called still
    told_in s f x i b few e =
        let z : eqb (refused_by p (held_in core) m (length w) g) 0 ≡ true = eq-eqb _ 0 unrefused-alone in
        board-left p core m w g s f x {z = carried p x g} well.all (rw (u.bytes, z, i, ← put-nothing w 0)) b few e

  few : (frame_in core).len ≤ 135
  unfolding frame_in
  few = well.few

  module _ (small : (i : ℕ) → arg core i < 256) (m w : List ℕ) {core' : List ℕ} where
    pub measured_in : (n : ℕ) → PutsState (measured_set (state_in core) n) core core' → CoreCalled p core m w (measured n) 0 core' m w
    unfolding step lends with_measured
    measured_in n q =
        let s : State = measured_set (state_in core) n in
        told_in m w (measured n) refl s (frame_in core) (state_with s (line_of (frame_in core) (kept_in core))) refl (only_state s core well q small) few refl

    pub fault_in : (c : ℕ) → NotesIn c core core' → CoreCalled p core m w (fault c) 0 core' m w
    unfolding step lends
    fault_in c q =
        told_in m w (fault c) refl (state_in core') (frame_in core) (noted (held_in core) c) refl (only_state (state_in core') core well q.state small) few (q.notes (line_of (frame_in core) (kept_in core)))

  pub power_on_in : (m w : List ℕ) {core' : List ℕ} → PutsBoard (faults_set (state_in core) no_faults) no_frame core core' → CoreCalled p core m w power_on 0 core' m w
  unfolding step lends holding with_queue with_lock
  power_on_in m w q =
      let s : State = faults_set (state_in core) no_faults in
      let e : state_with s none ≡ powered_on (held_in core) = powers_on (state_in core) (line_of (frame_in core) (kept_in core)) s refl refl in
      told_in m w power_on refl s no_frame (powered_on (held_in core)) refl q (omega arith) (no_line (kept_in core) s e refl)
