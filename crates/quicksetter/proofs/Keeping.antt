-- Which answers leave memory and what must last as they were, and so which calls do. Assumes nothing.
use Prim.Native.Nat.{ℕ, ◌%◌, ◌<◌}
use native.Mathlib.Omega.{arith}
use native.Mathlib.Nat.{mod-eq_of_lt}
use mathlib.Core.Path.{◌≡◌, refl, sym, ap, ◌∙◌}
use mathlib.Core.Bool.{Bool, true, false, not, false≢true}
use mathlib.Core.List.{List, [], ◌∷◌}
use lib.Dec.{T, eqb, ltb}
use lib.ListN.{length}
use Rattle.meaning.specs.Bytes.{pick, among, arg}
use Rattle.meaning.specs.State.{Plate, State, with_queue, with_measured, with_lock, with_line, queued, noted, powered_on, locks}
use Rattle.meaning.specs.Commands.{Command, c42, c43, c46, c47, c49, c4a, c4b, c4c, c4d, c4e, c4f, c50, c52, c53, c55, c56, unknown, command_of}
use Rattle.meaning.specs.Commands.{Answer, refuse, accept, quiet, error, read_position, set_position, read_counter, step_counter, clear_counter}
use Rattle.meaning.specs.Commands.{on_field, read_field, store_field, field_status, memory_status, set_code, read_fault, read_label, reset, set_address, read_version, worked}
use Rattle.meaning.specs.Characters.{Frame, over, closed, taken}
use Rattle.meaning.specs.Frames.{command_byte, data_of, ours, judged, short, elsewhere, answered, ending, sealed, message, still, outcome, leaves, work, resting, close, up_to}
use Rattle.meaning.specs.Run.{Call, character, poll, measured, fault, power_on, step}
use Rattle.meaning.proofs.Choices.{choose_by, through, shaped_by}
use Rattle.meaning.proofs.Replies.{reply-command}
use Rattle.meaning.proofs.Steps.{Named, named}
use Rattle.quicksetter.specs.Lasting.{may_change}

-- codes, counter, address, offset and memory are what they were
pub record Keeps (s : State) (m : List ℕ) (s' : State) (m' : List ℕ) : Type 0 where
  pub codes : s'.codes ≡ s.codes
  pub counter : s'.counter ≡ s.counter
  pub address : s'.address ≡ s.address
  pub offset : s'.offset ≡ s.offset
  pub memory : m' ≡ m

-- the answer to command c does so, unless its reply is one of those that may change them
abbrev KeepsBy : State → List ℕ → ℕ → Answer → Type 0
KeepsBy s m c (refuse e) = Unit
KeepsBy s m c (accept d s' m') = (c < 128) × (may_change c ≡ false → Keeps s m s' m')
KeepsBy s m c (quiet s' m') = Keeps s m s' m'

module _ (p : Plate) (s : State) (m d : List ℕ) (c : ℕ) where
  same : Keeps s m s m
  same = record { codes = refl; counter = refl; address = refl; offset = refl; memory = refl }

  another_queue : (q : List ℕ) → Keeps s m (with_queue s q) m
  unfolding with_queue
  another_queue q = record { codes = refl; counter = refl; address = refl; offset = refl; memory = refl }

  go : (e : ℕ) (q : Bool) (a : Answer) → (T (not q) → KeepsBy s m c a) → KeepsBy s m c (error e q a)
  go = through (KeepsBy s m c) (λ e. tt)

  -- of a command that stores nothing; of one that stores
  plain : (n : ℕ) → c ≡ n → n < 128 → (c < 128) × (may_change c ≡ false → Keeps s m s m)
  plain n e low = (omega (arith, e, low), λ _. same)

  storing : (n : ℕ) {s' : State} {m' : List ℕ} → c ≡ n → n < 128 → may_change n ≡ true → (c < 128) × (may_change c ≡ false → Keeps s m s' m')
  storing n e low k = (omega (arith, e, low), λ h. absurd (false≢true (sym h ∙ ap may_change e ∙ k)))

  keeps_worked : (k : Command) → Named k c → KeepsBy s m c (worked k p s m d)
  unfolding worked read_position set_position read_counter step_counter clear_counter on_field read_field store_field field_status memory_status set_code read_fault read_label reset set_address read_version may_change among
  keeps_worked c42 e = go _ _ _ (λ _. plain 0x42 e (omega arith))
  keeps_worked c43 e = go _ _ _ (λ _. go _ _ _ (λ _. go _ _ _ (λ _. storing 0x43 e (omega arith) refl)))
  keeps_worked c46 e = plain 0x46 e (omega arith)
  keeps_worked c47 e = choose_by (KeepsBy s m c) _ _ _ (λ _. storing 0x47 e (omega arith) refl) (λ _. storing 0x47 e (omega arith) refl)
  keeps_worked c49 e = go _ _ _ (λ _. storing 0x49 e (omega arith) refl)
  keeps_worked c4a e = go _ _ _ (λ _. go _ _ _ (λ _. go _ _ _ (λ _. go _ _ _ (λ _. go _ _ _ (λ _. plain 0x4A e (omega arith))))))
  keeps_worked c4b e = go _ _ _ (λ _. go _ _ _ (λ _. go _ _ _ (λ _. go _ _ _ (λ _. go _ _ _ (λ _. storing 0x4B e (omega arith) refl)))))
  keeps_worked c4c e = go _ _ _ (λ _. go _ _ _ (λ _. plain 0x4C e (omega arith)))
  keeps_worked c4d e = shaped_by (KeepsBy s m c) (λ n. tt) p s m d (λ m'. storing 0x4D e (omega arith) refl)
  keeps_worked c4e e = go _ _ _ (λ _. plain 0x4E e (omega arith))
  keeps_worked c4f e = go _ _ _ (λ _. go _ _ _ (λ _. storing 0x4F e (omega arith) refl))
  keeps_worked c50 e = (omega (arith, e), λ _. another_queue _)
  keeps_worked c52 e = plain 0x52 e (omega arith)
  keeps_worked c53 e = another_queue []
  keeps_worked c55 e = go _ _ _ (λ _. go _ _ _ (λ _. storing 0x55 e (omega arith) refl))
  keeps_worked c56 e = plain 0x56 e (omega arith)
  keeps_worked unknown e = tt

-- a reply's second byte tells whether it is one of those
abbrev Tells : List ℕ → Type 0
Tells y = 1 < length y → may_change (arg y 1) ≡ false

by_command : (c n : ℕ) → n % 128 ≡ c → c < 128 → may_change n ≡ false → may_change c ≡ false
unfolding may_change
by_command c n e low h = ap (λ (x : ℕ). among x (0x43 ∷ 0x47 ∷ 0x49 ∷ 0x4B ∷ 0x4D ∷ 0x4F ∷ 0x55 ∷ [])) (mod-eq_of_lt low ∙ sym e) ∙ h

module _ (p : Plate) (s : State) (m : List ℕ) where
  keeps_outcome : (c : ℕ) (a : Answer) → KeepsBy s m c a → Tells (outcome s m c a).reply → Keeps s m (outcome s m c a).state (outcome s m c a).memory
  unfolding outcome message sealed
  keeps_outcome c (refuse e) k h = record { codes = refl; counter = refl; address = refl; offset = refl; memory = refl }
  keeps_outcome c (accept d s' m') k h = k.1 (by_command c _ (reply-command s' c d k.0) k.0 (h (omega arith)))
  keeps_outcome c (quiet s' m') k h = k

  keeps_judged : (b : Frame) → KeepsBy s m (command_byte b.bytes) (judged p s m b)
  unfolding judged
  keeps_judged b =
      let c = command_byte b.bytes in
      let d = data_of b.bytes in
      go p s m d c _ _ _ (λ _. go p s m d c _ _ _ (λ _. go p s m d c _ _ _ (λ _. go p s m d c _ _ _ (λ _. go p s m d c _ _ _ (λ _. keeps_worked p s m d c (command_of c) (named c))))))

  keeps_work : (b : Frame) → Tells (work p s m b).reply → Keeps s m (work p s m b).state (work p s m b).memory
  unfolding work ending leaves still
  keeps_work b = by (ltb (length b.bytes) 3) (not (ours s b.bytes))
    where
      by : (q u : Bool) → let o = leaves s m (command_byte b.bytes) (pick q short (pick u elsewhere (answered (judged p s m b)))) in Tells o.reply → Keeps s m o.state o.memory
      by true u h = record { codes = refl; counter = refl; address = refl; offset = refl; memory = refl }
      by false true h = record { codes = refl; counter = refl; address = refl; offset = refl; memory = refl }
      by false false h = keeps_outcome (command_byte b.bytes) (judged p s m b) (keeps_judged b) h

-- the open frame is closed, or not yet
keeps_up_to : (p : Plate) (s : State) (m : List ℕ) (now : ℕ) → Tells (up_to p s m now).reply → Keeps s m (up_to p s m now).state (up_to p s m now).memory
unfolding up_to close still resting with_line
keeps_up_to p s m now = by (over p s now)
  where
    by : (q : Bool) → let o = pick q (close p s m now) (still s m) in Tells o.reply → Keeps s m o.state o.memory
    by true h = let k = keeps_work p (resting s) m (closed s.line) h in record { codes = k.codes; counter = k.counter; address = k.address; offset = k.offset; memory = k.memory }
    by false h = record { codes = refl; counter = refl; address = refl; offset = refl; memory = refl }

keeps_noted : (s : State) (m : List ℕ) (c : ℕ) → Keeps s m (noted s c) m
unfolding noted with_lock with_queue
keeps_noted s m c = by (eqb c 0) (locks c)
  where
    by : (x y : Bool) → Keeps s m (pick x s (pick y (with_lock s true) (with_queue s (queued s.queue c)))) m
    by true y = record { codes = refl; counter = refl; address = refl; offset = refl; memory = refl }
    by false true = record { codes = refl; counter = refl; address = refl; offset = refl; memory = refl }
    by false false = record { codes = refl; counter = refl; address = refl; offset = refl; memory = refl }

-- any call
pub keeps_step : (p : Plate) (s : State) (m : List ℕ) (g : Call) → Tells (step p s m g).reply → Keeps s m (step p s m g).state (step p s m g).memory
unfolding step still taken with_line with_measured powered_on with_queue with_lock
keeps_step p s m (character now v bad) h = let k = keeps_up_to p s m now h in record { codes = k.codes; counter = k.counter; address = k.address; offset = k.offset; memory = k.memory }
keeps_step p s m (poll now) h = keeps_up_to p s m now h
keeps_step p s m (measured n) h = record { codes = refl; counter = refl; address = refl; offset = refl; memory = refl }
keeps_step p s m (fault c) h = keeps_noted s m c
keeps_step p s m power_on h = record { codes = refl; counter = refl; address = refl; offset = refl; memory = refl }
