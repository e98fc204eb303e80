-- No two differing outcomes satisfy a public contract of the image; those that are plain equations are `same_outcome` itself (01, "How tightly the contracts bind"). Assumes nothing.
use mathlib.Core.Path.{◌≡◌}
use mathlib.Core.List.{List, ◌++◌}
use Prim.Native.Nat.{ℕ}
use lib.ListN.{take}
use Rattle.meaning.specs.Bytes.{put}
use Rattle.meaning.specs.State.{Line, none, noted}
use Rattle.wire.proofs.Tight.{same_outcome}
use Rattle.state.specs.declared.state.State.{State}
use Rattle.state.specs.State.{state_with}
use Rattle.state.specs.declared.effects.Effect.{Effect}
use Rattle.state.specs.Effects.{effect_on}
use Rattle.state.proofs.Same.{state_tight}
use Rattle.line.specs.declared.characters.OpenFrame.{OpenFrame}
use Rattle.image.specs.Image.{state_in, kept_in, state_bytes, line_bytes}
use Rattle.image.specs.Writes.{frame_bytes, PutsState, NotesIn, PutsEffect, PutsFrame, PutsBoard, Takes}

module _ (core a b : List ℕ) where
  pub put-state_tight : (s : State) → PutsState s core a → PutsState s core b → a ≡ b
  put-state_tight s x y = same_outcome (put core 0 (state_bytes (state_with s none))) a b (x.bytes none) (y.bytes none)

  pub put-effect_tight : (x : Effect) → PutsEffect x core a → PutsEffect x core b → a ≡ b
  put-effect_tight x p q =
      let same : state_in a ≡ state_in b = state_tight none (effect_on x (state_with (state_in core) none)) (state_in a) (state_in b) (p.holds none) (q.holds none) in
      put-state_tight (state_in b) (rw same at p.bytes) q.bytes

  pub note_tight : (c : ℕ) → NotesIn c core a → NotesIn c core b → a ≡ b
  note_tight c p q =
      let same : state_in a ≡ state_in b = state_tight none (noted (state_with (state_in core) none) c) (state_in a) (state_in b) (p.notes none) (q.notes none) in
      put-state_tight (state_in b) (rw same at p.state) q.state

  pub put-frame_tight : (f : OpenFrame) → PutsFrame f core a → PutsFrame f core b → a ≡ b
  put-frame_tight f x y = same_outcome (put core 21 (frame_bytes f)) a b x.bytes y.bytes

  pub put-board_tight : (s : State) (f : OpenFrame) → PutsBoard s f core a → PutsBoard s f core b → a ≡ b
  put-board_tight s f x y = same_outcome (state_bytes (state_with s none) ++ (frame_bytes f ++ kept_in core)) a b (x.bytes none) (y.bytes none)

  pub take-character_tight : (l : Line) → Takes l core a → Takes l core b → a ≡ b
  take-character_tight l x y = same_outcome (take 21 core ++ (line_bytes l ++ put (kept_in core) 0 l.kept)) a b x.bytes y.bytes
