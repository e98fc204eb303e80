-- A part of a core written in place: what is asked, and what the core holds then (01, "calls on numbers and byte slices"). Assumes nothing.
use Rattle.std.specs.Prelude.{ℕ, ◌≤◌, ◌≡◌, true, List, [], ◌∷◌, ◌++◌, length, take, set}
use Rattle.meaning.specs.Bytes.{arg, put}
use Rattle.meaning.specs.State as meaning
use Rattle.wire.specs.Numbers.{low4}
use Rattle.state.specs.declared.state.State.{State}
use Rattle.state.specs.declared.faults.Faults.{Faults}
use Rattle.state.specs.declared.effects.Effect.{Effect}
use Rattle.state.specs.Effects.{effect_on}
use Rattle.state.specs.State.{state_with}
use Rattle.line.specs.declared.characters.OpenFrame.{OpenFrame}
use Rattle.line.specs.Line.{line_of}
use Rattle.image.specs.Image.{frame_at, core_length, flag_byte, is_core, state_in, frame_in, kept_in, state_bytes, line_bytes}

-- the nine bytes of a frame's numbers, its flags as bytes
unfoldable pub frame_row : OpenFrame → ℕ → ℕ → ℕ → List ℕ
frame_row f begun longer parity = begun ∷ longer ∷ parity ∷ low4 f.last (f.sum ∷ f.len ∷ [])

abbrev pub frame_bytes : OpenFrame → List ℕ
frame_bytes f = frame_row f (flag_byte f.begun) (flag_byte f.longer) (flag_byte f.parity)

-- the state's bytes are written over a core's
pub record PutsState (s : State) (core core' : List ℕ) : Type 0 where
  pub bytes : (l : meaning.Line) → core' ≡ put core 0 (state_bytes (state_with s l))
  pub holds : state_in core' ≡ s

-- a core with a state's bytes in front: its lock is a flag
pub record HoldsState (core : List ℕ) : Type 0 where
  pub all : length core ≡ core_length
  pub lock : arg core 20 ≤ 1

-- a state of which one part is set
abbrev pub measured_set : State → ℕ → State
measured_set s n = record { codes = s.codes; counter = s.counter; address = s.address; offset = s.offset; measured = n; faults = s.faults }

abbrev pub faults_set : State → Faults → State
faults_set s f = record { codes = s.codes; counter = s.counter; address = s.address; offset = s.offset; measured = s.measured; faults = f }

abbrev pub code_set : State → ℕ → ℕ → State
code_set s n c = record { codes = set s.codes n c; counter = s.counter; address = s.address; offset = s.offset; measured = s.measured; faults = s.faults }

abbrev pub counter_set : State → ℕ → State
counter_set s n = record { codes = s.codes; counter = n; address = s.address; offset = s.offset; measured = s.measured; faults = s.faults }

abbrev pub address_set : State → ℕ → State
address_set s n = record { codes = s.codes; counter = s.counter; address = n; offset = s.offset; measured = s.measured; faults = s.faults }

abbrev pub offset_set : State → ℕ → State
offset_set s n = record { codes = s.codes; counter = s.counter; address = s.address; offset = n; measured = s.measured; faults = s.faults }

-- 01, "The host notes codes": a code is noted in a core, and nothing else is written
pub record NotesIn (c : ℕ) (core core' : List ℕ) : Type 0 where
  pub notes : (l : meaning.Line) → state_with (state_in core') l ≡ meaning.noted (state_with (state_in core) l) c
  pub state : PutsState (state_in core') core core'

-- what a command changes is written into a core, and nothing else
pub record PutsEffect (x : Effect) (core core' : List ℕ) : Type 0 where
  pub holds : (l : meaning.Line) → state_with (state_in core') l ≡ effect_on x (state_with (state_in core) l)
  pub bytes : PutsState (state_in core') core core'

-- a frame's numbers are written over a core's
pub record PutsFrame (f : OpenFrame) (core core' : List ℕ) : Type 0 where
  pub bytes : core' ≡ put core frame_at (frame_bytes f)
  pub holds : frame_in core' ≡ f

-- both are; the places stay
pub record PutsBoard (s : State) (f : OpenFrame) (core core' : List ℕ) : Type 0 where
  pub bytes : (l : meaning.Line) → core' ≡ state_bytes (state_with s l) ++ (frame_bytes f ++ kept_in core)
  pub state : state_in core' ≡ s
  pub frame : frame_in core' ≡ f
  pub kept : kept_in core' ≡ kept_in core

-- a core with a frame open
pub record Open (core : List ℕ) : Type 0 where
  pub bytes : is_core core ≡ true
  pub begun : arg core frame_at ≡ 1

-- a core is left with the open frame l: its numbers and its kept bytes are new, the places past those and the state's bytes are not
pub record Takes (l : meaning.Line) (core core' : List ℕ) : Type 0 where
  pub bytes : core' ≡ take frame_at core ++ (line_bytes l ++ put (kept_in core) 0 l.kept)
  pub holds : line_of (frame_in core') (kept_in core') ≡ l
