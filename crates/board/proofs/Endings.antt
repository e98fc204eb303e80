-- A closed frame by its judgement: silence, an error code, a request worked and answered. Assumes nothing.
use Prim.Native.Nat.{ℕ, ◌+◌, ◌≤◌}
use native.Mathlib.Omega.{arith}
use mathlib.Core.Path.{◌≡◌, refl, sym, ap, ◌∙◌}
use mathlib.Core.Bool.{true, false, false≢true}
use mathlib.Core.List.{List, [], ◌∷◌}
use borrow.Author.Tests.{ltb-false}
use lib.Dec.{eqb}
use lib.ListN.{length, take}
use Rattle.meaning.specs.Bytes.{longest_reply, put, part}
use Rattle.meaning.specs.State as meaning
use Rattle.meaning.specs.State.{none, own_byte, with_codes, with_counter, with_address, with_offset, with_queue}
use Rattle.meaning.specs.Commands as commands
use Rattle.meaning.specs.Commands.{command_of, asked, row, length_fits, unknown, worked}
use Rattle.meaning.specs.Characters.{closed}
use Rattle.meaning.specs.Frames.{command_byte, data_of, message, warned, still, outcome, leaves, work}
use Rattle.meaning.proofs.Puts.{length-put}
use Rattle.meaning.proofs.Limits as limits
use Rattle.std.specs.Prelude.{Some, None, Result, Ok, Err}
use Rattle.wire.specs.declared.codes.ErrorCode.{ErrorCode}
use Rattle.wire.specs.Answers.{ToldAnswer, told, data_in, memory_after, state_after}
use Rattle.wire.proofs.Laws.{seal_data}
use Rattle.fields.proofs.Tight.{field-row_tight}
use Rattle.line.specs.declared.plate.Plate.{Plate}
use Rattle.line.specs.declared.characters.OpenFrame.{OpenFrame}
use Rattle.line.specs.declared.judge.Judgement.{Judgement}
use Rattle.line.specs.declared.judge.Judgement.TheVariants.{Short, Elsewhere, Fault, Request}
use Rattle.line.specs.Line.{line_of, frame_of}
use Rattle.line.specs.Judge.{judgement_of, ending_by, code_to_answer}
use Rattle.line.proofs.Judging.{ends_as_judged, request-fits, some-fault, asking}
use Rattle.state.specs.declared.state.State.{State}
use Rattle.state.specs.declared.rows.Worked.{Worked}
use Rattle.state.specs.declared.effects.Effect.{Effect}
use Rattle.state.specs.declared.effects.Effect.TheVariants.{Nothing, Code, Counter, Address, Offset, Overflow, OldestRead, Emptied}
use Rattle.state.specs.Effects.{Bounded, effect_on}
use Rattle.state.specs.Rows.{answer_in, effect_in}
use Rattle.board.specs.declared.closing.Closed.{Closed}
use Rattle.state.specs.State.{state_with}
use Rattle.state.proofs.Same.{same-state, row_tight}
use Rattle.board.specs.Work.{Ready, Workable, WorksOn, Tells, reply_of, Brief, Answerable, Sendable, Sends, fault_reply, Refused, Serves, Closes}
use Rattle.board.proofs.Sending.{part_length, sealed-length}

pub unknown_never : (d : List ℕ) → asked unknown d ≡ false
unfolding asked row length_fits
unknown_never d = refl

-- a judgement that is no request asks for no work
pub unasked : (j : Judgement) → ((c : ℕ) → j ≡ Request c → ⊥) → asking j ≡ false
unasked Short n = refl
unasked Elsewhere n = refl
unasked (Fault e) n = refl
unasked (Request c) n = absurd (n c refl)

-- what an answer leaves, in a room where its data stands already
record Left (s : meaning.State) (c : ℕ) (m w : List ℕ) (a : commands.Answer) (t : State) (n : ℕ) (m' w' : List ℕ) : Type 0 where
  state : state_with t none ≡ (outcome s m c a).state
  sent : n ≡ length (outcome s m c a).reply
  memory : m' ≡ (outcome s m c a).memory
  room : w' ≡ put w 0 (outcome s m c a).reply

abbrev Few : commands.Answer → Type 0
Few (commands.refuse e) = Unit
Few (commands.accept d s m) = length d ≤ 131
Few (commands.quiet s m) = Unit

-- a message whose data stands in the room already
module _ (s : meaning.State) (c : ℕ) (d w : List ℕ) (few : length d ≤ 131) (wide : longest_reply ≤ length w) where
  as_long : length (message s c (part (put w 2 d) 2 (length d))) ≡ length (message s c d)
  unfolding message
  as_long =
      let same : length (part (put w 2 d) 2 (length d)) ≡ length d = part_length (put w 2 d) (length d) few (rw (length-put w 2 d (omega arith)) wide) in
      sealed-length (own_byte s) (warned c s.queue) (part (put w 2 d) 2 (length d)) ∙ ap (λ (z : ℕ). z + 3) same
      ∙ sym (sealed-length (own_byte s) (warned c s.queue) d)

  as_put : put (put w 2 d) 0 (message s c (part (put w 2 d) 2 (length d))) ≡ put w 0 (message s c d)
  unfolding message
  as_put = seal_data (own_byte s) (warned c s.queue) (length d) d w refl (omega arith)

few-told : (a : commands.Answer) → Few a → Brief (told a)
few-told (commands.refuse e) h = tt
few-told (commands.accept d s m) h = h
few-told (commands.quiet s m) h = tt

left : (s : meaning.State) (c : ℕ) (m w : List ℕ) (a : commands.Answer) (t : State) (x : ToldAnswer) {n : ℕ} {m' v w' : List ℕ} → Few a → longest_reply ≤ length w
    → x ≡ told a → state_with t none ≡ state_after a s → m' ≡ memory_after a m → v ≡ data_in a w → Sends t c x v n w' → Left s c m w a t n m' w'
unfolding outcome reply_of
left s c m w (commands.refuse e) t x {n} {m'} {v} {w'} few wide i j k l h =
    let y : Sends t c (Err (record { byte = e })) w n w' = rw (i, l) at h in
    record {
      state = j;
      sent = y.count ∙ ap (λ (z : meaning.State). length (message z 0x50 (e ∷ []))) j;
      memory = k;
      room = y.bytes ∙ ap (λ (z : meaning.State). put w 0 (message z 0x50 (e ∷ []))) j;
    }
left s c m w (commands.accept d s' m'') t x {n} {m'} {v} {w'} few wide i j k l h =
    let y : Sends t c (Ok (Some (length d))) (put w 2 d) n w' = rw (i, l) at h in
    record {
      state = j;
      sent = y.count ∙ ap (λ (z : meaning.State). length (message z c (part (put w 2 d) 2 (length d)))) j ∙ as_long s' c d w few wide;
      memory = k;
      room = y.bytes ∙ ap (λ (z : meaning.State). put (put w 2 d) 0 (message z c (part (put w 2 d) 2 (length d)))) j ∙ as_put s' c d w few wide;
    }
left s c m w (commands.quiet s' m'') t x {n} {m'} {v} {w'} few wide i j k l h =
    let y : Sends t c (Ok None) w n w' = rw (i, l) at h in
    record { state = j; sent = y.count; memory = k; room = y.bytes }

module _ (p : meaning.Plate) (s : State) (f : OpenFrame) (k m w : List ℕ) {own : ℕ} (o : own ≡ own_byte (state_with s none)) where
  worked_as : {j : Judgement} → judgement_of own (frame_of f (take f.len k)) ≡ j
      → work p (state_with s none) m (closed (line_of f k))
      ≡ leaves (state_with s none) m (command_byte (take f.len k)) (ending_by p (state_with s none) m (closed (line_of f k)) j)
  unfolding work closed
  worked_as e = rw (ends_as_judged p (state_with s none) m (closed (line_of f k)), ← o, e)

  -- no request: the error code is answered, and nothing changes
  pub refused : (j : Judgement) {n : ℕ} {w' : List ℕ} → judgement_of own (frame_of f (take f.len k)) ≡ j → asking j ≡ false
      → Refused s (code_to_answer j) w n w' → Closes p s f k m w (record { state = s; sent = n }) m w'
  unfolding leaves still outcome fault_reply
  refused Short e q h = record { state = rw (worked_as e); sent = rw (worked_as e) h.count; memory = rw (worked_as e); room = rw (worked_as e) h.bytes }
  refused Elsewhere e q h = record { state = rw (worked_as e); sent = rw (worked_as e) h.count; memory = rw (worked_as e); room = rw (worked_as e) h.bytes }
  refused (Fault x) e q h =
      let z : eqb x.byte 0 ≡ false = some-fault own (frame_of f (take f.len k)) e in
      record { state = rw (worked_as e); sent = rw (worked_as e) (rw z at h.count); memory = rw (worked_as e); room = rw (worked_as e) (rw z at h.bytes) }
  refused (Request c) e q h = absurd (false≢true (sym q))

  pub requested : {c : ℕ} {r : Closed} {m' w' : List ℕ} → judgement_of own (frame_of f (take f.len k)) ≡ Request c
      → Serves p s c (data_of (take f.len k)) m w r.state r.sent m' w' → Closes p s f k m w r m' w'
  unfolding leaves closed
  requested {c} e y =
      let b : command_byte (take f.len k) ≡ c = (request-fits own (frame_of f (take f.len k)) e).byte in
      record { state = rw (worked_as e, b) y.state; sent = rw (worked_as e, b) y.sent; memory = rw (worked_as e, b) y.memory; room = rw (worked_as e, b) y.room }

-- reply data leaves the room as long as it was
data_length : (a : commands.Answer) (w : List ℕ) → Few a → longest_reply ≤ length w → length (data_in a w) ≡ length w
data_length (commands.refuse e) w few wide = refl
data_length (commands.accept d s m) w few wide = length-put w 2 d (omega arith)
data_length (commands.quiet s m) w few wide = refl

pub still-wide : (p : meaning.Plate) (s : State) (c : ℕ) (d m w : List ℕ) {r : Result Worked ErrorCode} {m' v : List ℕ} → longest_reply ≤ length w → WorksOn (command_of c) p s d m w r m' v → longest_reply ≤ length v
still-wide p s c d m w wide h =
    let q : meaning.State = state_with s none in
    rw (h.row.room, data_length (worked (command_of c) p q m d) w (limits.brief p q m d (command_of c)) wide) wide

-- a request, worked and answered: x is what it came to, v the room with its data, t the state after it
module _ (p : meaning.Plate) (s : State) (c : ℕ) (d m w : List ℕ) where
  abbrev a : commands.Answer
  a = worked (command_of c) p (state_with s none) m d

  module _ {x : ToldAnswer} {n : ℕ} {m' v w' : List ℕ} (wide : longest_reply ≤ length w) where
    answered : (t : State) → x ≡ told a → state_with t none ≡ state_after a (state_with s none) → m' ≡ memory_after a m → v ≡ data_in a w → Sends t c x v n w'
        → Serves p s c d m w t n m' w'
    answered t i j k l h =
        let y : Left (state_with s none) c m w a t n m' w' =
        left (state_with s none) c m w a t x (limits.brief p (state_with s none) m d (command_of c)) wide i j k l h in
        record { state = y.state; sent = y.sent; memory = y.memory; room = y.room }

    pub worked_served : (t : State) (r : Result Worked ErrorCode) → WorksOn (command_of c) p s d m w r m' v → x ≡ answer_in r → state_with t none ≡ effect_on (effect_in r) (state_with s none)
        → Sends t c x v n w' → Serves p s c d m w t n m' w'
    worked_served t r y i e h = answered t (i ∙ y.row.answer) (e ∙ y.row.state) y.memory y.row.room h

    pub told_served : Tells a (state_with s none) m w x m' v → Sends s c x v n w' → Serves p s c d m w s n m' w'
    told_served y h = answered s y.works.answer (sym y.state) y.works.memory y.works.room h

-- what a reply asks, from what a request asks
pub sendable : (p : meaning.Plate) (s : State) (c : ℕ) (d m : List ℕ) {x : ToldAnswer} {u : List ℕ} → x ≡ told (worked (command_of c) p (state_with s none) m d) → longest_reply ≤ length u → Sendable x u
sendable p s c d m e l =
    let q : meaning.State = state_with s none in
    record {
      room = l;
      brief = rw e (few-told (worked (command_of c) p q m d) (limits.brief p q m d (command_of c)));
    }

-- no two differing outcomes satisfy the contract of a request, nor that of an error code
pub record Alike (t u : State) (n k : ℕ) (m' m'' w' w'' : List ℕ) : Type 0 where
  pub state : t ≡ u
  pub sent : n ≡ k
  pub memory : m' ≡ m''
  pub room : w' ≡ w''

pub serves_tight : (p : meaning.Plate) (s : State) (c : ℕ) (d m w : List ℕ) (t u : State) {n k : ℕ} {m' m'' w' w'' : List ℕ} → Serves p s c d m w t n m' w' → Serves p s c d m w u k m'' w''
    → Alike t u n k m' m'' w' w''
serves_tight p s c d m w t u x y =
    record {
      state = same-state t u none none (x.state ∙ sym y.state);
      sent = x.sent ∙ sym y.sent;
      memory = x.memory ∙ sym y.memory;
      room = x.room ∙ sym y.room;
    }

pub state-row_tight : (k : commands.Command) (p : meaning.Plate) (s : State) (d m w : List ℕ) (r t : Result Worked ErrorCode) (u v : List ℕ) → WorksOn k p s d m w r m u → WorksOn k p s d m w t m v
    → (r ≡ t) × (u ≡ v)
state-row_tight k p s d m w r t u v h i = row_tight k p s none m d w r t u v h.row i.row

pub memory-row_tight : (c t : ℕ) (cs d m w : List ℕ) (r x : ToldAnswer) (m₁ m₂ w₁ w₂ : List ℕ)
    → ((p : meaning.Plate) (s : meaning.State) → p.total ≡ t → s.codes ≡ cs → Tells (worked (command_of c) p s m d) s m w r m₁ w₁)
    → ((p : meaning.Plate) (s : meaning.State) → p.total ≡ t → s.codes ≡ cs → Tells (worked (command_of c) p s m d) s m w x m₂ w₂) → (r ≡ x) × (m₁ ≡ m₂) × (w₁ ≡ w₂)
memory-row_tight c t cs d m w r x m₁ m₂ w₁ w₂ h k = field-row_tight (λ p s. worked (command_of c) p s m d) t cs m w r x m₁ m₂ w₁ w₂ (λ p s e i. (h p s e i).works) (λ p s e i. (k p s e i).works)

pub sends_tight : (s : State) (c : ℕ) (a : ToldAnswer) (w : List ℕ) {n k : ℕ} {w' w'' : List ℕ} → Sends s c a w n w' → Sends s c a w k w'' → (n ≡ k) × (w' ≡ w'')
sends_tight s c a w x y = (x.count ∙ sym y.count, x.bytes ∙ sym y.bytes)

-- what `serve` and `refuse` ask, from what `close` asks
module _ (p : Plate) (label : List ℕ) (s : State) (f : OpenFrame) (k m w : List ℕ) (h : Ready p label s f k m w) where
  pub answerable : Answerable s w
  answerable = record { address = h.address; room = h.room }

  module _ (own : ℕ) (b : List ℕ) {c : ℕ} (e : judgement_of own (frame_of f b) ≡ Request c) where
    pub long : 3 ≤ length b
    long = ltb-false (length b) 3 (request-fits own (frame_of f b) e).long

    right : asked (command_of c) (data_of b) ≡ true
    right = rw (request-fits own (frame_of f b) e).byte at (request-fits own (frame_of f b) e).right

    pub workable : {d : List ℕ} → d ≡ data_of b → Workable p label s c d m w
    workable i = record { plate = h.plate; counter = h.counter; address = h.address; size = h.size; room = h.room; fits = rw i right }

-- the address after what a command changes is one again
pub still-low : (x : Effect) (s : meaning.State) → Bounded x → s.address ≤ 31 → (effect_on x s).address ≤ 31
unfolding effect_on with_codes with_counter with_address with_offset with_queue
still-low Nothing s b h = h
still-low (Code n c) s b h = h
still-low (Counter n) s b h = h
still-low (Address n) s b h = b
still-low (Offset n) s b h = h
still-low Overflow s b h = h
still-low OldestRead s b h = h
still-low Emptied s b h = h
