-- A request that is worked opens no frame: the frame's part of the state is as it was. Assumes nothing.
use Prim.Native.Nat.{ℕ}
use mathlib.Core.Path.{◌≡◌, refl}
use mathlib.Core.Bool.{Bool, true, false, not}
use mathlib.Core.List.{List}
use lib.Dec.{T, ltb}
use lib.ListN.{length}
use Rattle.meaning.specs.Bytes.{pick}
use Rattle.meaning.specs.State.{Plate, State, with_codes, with_counter, with_address, with_offset, with_queue}
use Rattle.meaning.specs.Commands.{Command, c42, c43, c46, c47, c49, c4a, c4b, c4c, c4d, c4e, c4f, c50, c52, c53, c55, c56, unknown, command_of, Answer, refuse, accept}
use Rattle.meaning.specs.Commands.{quiet, error, on_field, read_position, set_position, read_counter, step_counter, clear_counter, read_field, store_field, field_status, memory_status, set_code, read_fault, read_label, reset, set_address, read_version, worked}
use Rattle.meaning.specs.Characters.{Frame}
use Rattle.meaning.specs.Frames.{command_byte, data_of, ours, judged, short, elsewhere, answered, ending, still, outcome, leaves, work}
use Rattle.meaning.specs.Demands.{meant}
use Rattle.meaning.proofs.Choices.{choose_by, through, shaped_by}

module _ (p : Plate) (s : State) (m : List ℕ) (d : List ℕ) where
  -- the state after an answer has the frame that it had
  abbrev Rested : Answer → Type 0
  Rested (refuse e) = Unit
  Rested (accept r s' m') = s'.line ≡ s.line
  Rested (quiet s' m') = s'.line ≡ s.line

  go : (e : ℕ) (q : Bool) (a : Answer) → (T (not q) → Rested a) → Rested (error e q a)
  go = through Rested (λ e. tt)

  rested : (k : Command) → Rested (worked k p s m d)
  unfolding worked read_position set_position read_counter step_counter clear_counter on_field read_field store_field field_status memory_status set_code read_fault read_label reset set_address read_version with_codes with_counter with_address with_offset with_queue
  rested c42 = go _ _ _ (λ _. refl)
  rested c43 = go _ _ _ (λ _. go _ _ _ (λ _. go _ _ _ (λ _. refl)))
  rested c46 = refl
  rested c47 = choose_by Rested _ _ _ (λ _. refl) (λ _. refl)
  rested c49 = go _ _ _ (λ _. refl)
  rested c4a = go _ _ _ (λ _. go _ _ _ (λ _. go _ _ _ (λ _. go _ _ _ (λ _. go _ _ _ (λ _. refl)))))
  rested c4b = go _ _ _ (λ _. go _ _ _ (λ _. go _ _ _ (λ _. go _ _ _ (λ _. go _ _ _ (λ _. refl)))))
  rested c4c = go _ _ _ (λ _. go _ _ _ (λ _. refl))
  rested c4d = shaped_by Rested (λ e. tt) p s m d (λ m'. refl)
  rested c4e = go _ _ _ (λ _. refl)
  rested c4f = go _ _ _ (λ _. go _ _ _ (λ _. refl))
  rested c50 = refl
  rested c52 = refl
  rested c53 = refl
  rested c55 = go _ _ _ (λ _. go _ _ _ (λ _. refl))
  rested c56 = refl
  rested unknown = tt

  answer_rests : (c : ℕ) (a : Answer) → Rested a → (outcome s m c a).state.line ≡ s.line
  unfolding outcome
  answer_rests c (refuse e) h = refl
  answer_rests c (accept r s' m') h = h
  answer_rests c (quiet s' m') h = h

  pub meant_rests : (c : ℕ) → (meant p s m c d).state.line ≡ s.line
  unfolding meant
  meant_rests c = answer_rests c (worked (command_of c) p s m d) (rested (command_of c))

-- .. and so does any frame that is worked
module _ (p : Plate) (s : State) (m : List ℕ) (b : Frame) where
  judged_rests : Rested p s m (data_of b.bytes) (judged p s m b)
  unfolding judged
  judged_rests =
      let on = go p s m (data_of b.bytes) in
      on _ _ _ (λ _. on _ _ _ (λ _. on _ _ _ (λ _. on _ _ _ (λ _. on _ _ _ (λ _. rested p s m (data_of b.bytes) _)))))

  pub work_rests : (work p s m b).state.line ≡ s.line
  unfolding work ending leaves still
  work_rests = by (ltb (length b.bytes) 3) (not (ours s b.bytes))
    where
      by : (x y : Bool) → (leaves s m (command_byte b.bytes) (pick x short (pick y elsewhere (answered (judged p s m b))))).state.line ≡ s.line
      by true y = refl
      by false true = refl
      by false false = answer_rests p s m (data_of b.bytes) (command_byte b.bytes) (judged p s m b) judged_rests
