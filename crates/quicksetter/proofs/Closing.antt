-- A core that is not refused: what a poll leaves of it, and a character after that. Assumes nothing.
use Prim.Native.Nat.{ℕ, ◌+◌, ◌-◌, ◌<◌, ◌≤◌}
use native.Mathlib.Omega.{arith}
use mathlib.Core.Path.{◌≡◌, refl, sym, ap, ◌∙◌}
use mathlib.Core.Bool.{Bool, true, false}
use mathlib.Core.List.{List, [], ◌∷◌, ◌++◌}
use borrow.Author.Tests.{eq-eqb, le-ltb}
use lib.Dec.{eqb}
use lib.ListN.{length, take, drop, length-take}
use lib.Seq.{take_at, take-take, length-take-le}
use Rattle.meaning.specs.Bytes.{pick, longest_request, longest_reply, put, arg}
use Rattle.meaning.specs.State.{Plate, Line, none, with_line, state_ok, own_byte}
use Rattle.meaning.specs.Fields.{memory_length}
use Rattle.meaning.specs.Characters.{over, more, taken, closed}
use Rattle.meaning.specs.Commands.{command_of}
use Rattle.meaning.specs.Frames as frames
use Rattle.meaning.specs.Frames.{Outcome, data_of, still, up_to, work, resting}
use Rattle.meaning.specs.Run.{Call, character, poll, carried, Held, left_by, step, called, lends, refused_by}
use Rattle.meaning.proofs.Choices.{true-told, pick_same}
use Rattle.meaning.proofs.Limits.{to_lim}
use Rattle.meaning.proofs.Puts.{put-nothing, length-put}
use Rattle.line.specs.declared.plate.Plate as line
use Rattle.line.specs.declared.characters.OpenFrame.{OpenFrame}
use Rattle.line.specs.Line.{plate_of, line_of, frame_of, no_frame, Fits}
use Rattle.line.specs.declared.judge.Judgement.{Judgement}
use Rattle.line.specs.declared.judge.Judgement.TheVariants.{Request}
use Rattle.line.specs.Judge.{judgement_of, code_to_answer}
use Rattle.line.proofs.Judging.{asking}
use Rattle.std.specs.Prelude.{Ok, Err}
use Rattle.wire.specs.declared.codes.ErrorCode.{ErrorCode}
use Rattle.state.specs.declared.state.State.{State}
use Rattle.state.specs.declared.rows.Worked.{Worked}
use Rattle.state.specs.Effects.{effect_on}
use Rattle.state.specs.State.{state_with}
use Rattle.board.specs.declared.closing.Closed.{Closed}
use Rattle.board.specs.Work.{Ready, Answerable, WorksOn, Sends, Refused, Serves, Closes}
use Rattle.board.proofs.Stepping.{no_line}
use Rattle.board.proofs.Endings.{long, workable, refused, requested, worked_served}
use Rattle.image.specs.Image.{is_core, state_in, frame_in, kept_in, held_in, state_bytes, line_bytes, core_of}
use Rattle.image.specs.Writes.{PutsState, PutsEffect, PutsFrame, PutsBoard, Takes}
use Rattle.image.proofs.Parts.{kept-length, front_length, state_as_it_was, same-front, state-length, puts_board}
use Rattle.image.proofs.Placing.{state-there}
use Rattle.image.proofs.Round.{good, core_as_it_was}
use Rattle.quicksetter.specs.Calls.{call_number}
use Rattle.quicksetter.specs.Cores.{data_to, core_called, core_after, CoreCalled, Unrefused, Servable, ServedIn, ClosedIn, Polls}
use Rattle.quicksetter.proofs.Leaving.{board-left}
use Rattle.quicksetter.proofs.Staying.{core_of-state}

module _ (p : Plate) (core m w : List ℕ) (u : Unrefused p core (length m) (length w)) where
  all : length core ≡ 165
  all = (good core u.bytes).all

  free : (g : Call) → refused_by p (held_in core) m (length w) g ≡ 0
  unfolding refused_by
  free g = rw (u.plate, u.state, eq-eqb (length m) (memory_length p.total) u.size, le-ltb (length w) 134 u.wide) (pick_same (lends g) 0)

  abbrev done : Call → Outcome
  done g = step p (held_in core) m g

  pub served : (g : Call) → core_called p core m w g ≡ left_by p g w (done g)
  unfolding core_called called
  served g = let z : eqb (refused_by p (held_in core) m (length w) g) 0 ≡ true = eq-eqb _ 0 (free g) in rw (u.bytes, z)

  -- a frame that is not over, or none: nothing is done
  pub nothing-over : (tick : ℕ) → ((i : ℕ) → arg core i < 256) → over p (held_in core) tick ≡ false → Polls p core m w tick 0 core m w
  unfolding call_number core_after step up_to still
  nothing-over tick small o =
      let k : core_called p core m w (poll tick) ≡ left_by p (poll tick) w (still (held_in core) m) = served (poll tick) ∙ rw o in
      record {
        called = record {
          answer = rw k;
          state = rw k;
          bytes = rw k (sym (core_as_it_was core u.bytes small));
          memory = rw k;
          room = rw k (put-nothing w 0);
        };
        kept = refl;
      }

  few : (frame_in core).len ≤ 135
  unfolding frame_in
  few = (good core u.bytes).few

  fits : Fits (frame_in core) (kept_in core)
  fits = record { few = few; all = kept-length core all }

  -- the frame is closed and put away
  closed-now : (tick : ℕ) → over p (held_in core) tick ≡ true → done (poll tick) ≡ work p (state_with (state_in core) none) m (closed (line_of (frame_in core) (kept_in core)))
  unfolding step up_to frames.close resting with_line
  closed-now tick o = rw o

  closed-over : (tick : ℕ) {c : Closed} {f : OpenFrame} {m' w' core' : List ℕ} → over p (held_in core) tick ≡ true → f ≡ no_frame
      → Closes p (state_in core) (frame_in core) (kept_in core) m w c m' w' → PutsBoard c.state f core core' → Polls p core m w tick c.sent core' m' w'
  closed-over tick {c} {f} {m'} {w'} {core'} o e h q =
      let x : Outcome = work p (state_with (state_in core) none) m (closed (line_of (frame_in core) (kept_in core))) in
      let k : core_called p core m w (poll tick)
      ≡ (record { refusal = 0; count = c.sent; sleep = carried p x.state (poll tick); state = x.state; memory = m'; room = w' })
      = served (poll tick) ∙ rw (closed-now tick o, ← h.sent, ← h.memory, ← h.room) in
      record {
        called = board-left p core m w (poll tick) c.state f x.state all k q (rw e (omega arith)) (no_line (kept_in core) c.state h.state e);
        kept = q.kept;
      }

  -- .. from the core that holds the state after it
  pub put_away : (tick : ℕ) {f : OpenFrame} {r : ℕ} {m' w' mid core' : List ℕ} → over p (held_in core) tick ≡ true → f ≡ no_frame → ClosedIn p core m w r mid m' w' → PutsFrame f mid core'
      → Polls p core m w tick r core' m' w'
  put_away tick {f} {r} {m'} {w'} {mid} {core'} o e a q =
      closed-over tick {c = record { state = state_in mid; sent = r }} o e a.closes (puts_board (state_in mid) f core all a.state q)

  -- after a poll
  module _ (tick : ℕ) {r : ℕ} {core' m' w' : List ℕ} (a : Polls p core m w tick r core' m' w') where
    abbrev o : Outcome
    o = done (poll tick)

    holds : held_in core' ≡ o.state
    holds = a.called.state ∙ ap (λ (h : Held). h.state) (served (poll tick))

    written : core' ≡ core_of (held_in core') (kept_in core)
    unfolding core_after
    written = a.called.bytes ∙ rw (served (poll tick), holds)

    pub core_again : is_core core' ≡ true
    core_again =
        let places : length (kept_in core') ≡ 135 = ap length a.kept ∙ kept-length core all in
        let low : length (take (frame_in core').len (kept_in core')) ≤ 135 = rw length-take (omega arith) in
        ap is_core written ∙ core_of-state (held_in core') (kept_in core) (kept-length core all) low

    abbrev next : ℕ → Bool → Line
    next v bad = more (pick (frame_in core').begun (line_of (frame_in core') (kept_in core')) none) tick v bad

    -- .. a character
    as_taken : (v : ℕ) (bad : Bool) → (done (character tick v bad)).state ≡ state_with (state_in core') (next v bad)
    unfolding step taken with_line
    as_taken v bad = rw (← holds)

    pub then_taken : (v : ℕ) {bad worse : Bool} {core'' : List ℕ} → bad ≡ worse → ((i : ℕ) → arg core' i < 256) → Takes (next v bad) core' core''
        → CoreCalled p core m w (character tick v worse) r core'' m' w'
    unfolding call_number core_after core_of step
    then_taken v {bad} {worse} {core''} b small t =
        let n : Line = next v bad in
        let long : length core' ≡ 165 = (good core' core_again).all in
        let front : state_bytes (state_with (state_in core') n) ≡ take 21 core' = state_as_it_was core' long small (good core' core_again).locked n in
        let rest : List ℕ = line_bytes n ++ put (kept_in core') 0 n.kept in
        let same : take 21 core'' ≡ take 21 core' = ap (take 21) t.bytes ∙ take_at (take 21 core') rest 21 (front_length core' long) in
        let s : state_in core'' ≡ state_in core' = same-front core'' core' same in
        let z : (done (character tick v worse)).state ≡ state_with (state_in core') n = rw (← b) (as_taken v bad) in
        record {
          answer = a.called.answer ∙ rw (served (poll tick), served (character tick v worse));
          state = rw (s, t.holds) (sym z) ∙ sym (ap (λ (h : Held). h.state) (served (character tick v worse)));
          bytes = t.bytes ∙ rw (served (character tick v worse), z, front, a.kept);
          memory = a.called.memory ∙ rw (served (poll tick), served (character tick v worse));
          room = a.called.room ∙ rw (served (poll tick), served (character tick v worse));
        }

-- the state's bytes say the state
state-said : (core : List ℕ) → is_core core ≡ true → ((i : ℕ) → arg core i < 256) → PutsState (state_in core) core core
state-said core e small = state-there core (record { all = (good core e).all; lock = (good core e).locked }) small

pub as_long : (core : List ℕ) {s : State} {core' : List ℕ} → length core ≡ 165 → PutsState s core core' → length core' ≡ 165
as_long core {s} all q = ap length (q.bytes none) ∙ length-put core 0 (state_bytes (state_with s none)) (omega (arith, state-length s none)) ∙ all

-- the four codes, lent out of the core
four-first : (l : List ℕ) → 4 ≤ length l → arg l 0 ∷ arg l 1 ∷ arg l 2 ∷ arg l 3 ∷ [] ≡ take 4 l
four-first [] h = absurd (omega arith)
four-first (a ∷ []) h = absurd (omega arith)
four-first (a ∷ b ∷ []) h = absurd (omega arith)
four-first (a ∷ b ∷ c ∷ []) h = absurd (omega arith)
four-first (a ∷ b ∷ c ∷ d ∷ r) h = refl

pub codes-lent : (core : List ℕ) → is_core core ≡ true → (state_in core).codes ≡ take 4 core
unfolding state_in
codes-lent core e = four-first core (omega (arith, (good core e).all))

pub four-lent : (core : List ℕ) → is_core core ≡ true → length (take 4 core) ≡ 4
four-lent core e = length-take-le 4 core (omega (arith, (good core e).all))

-- a request that leaves the state, one that changes it, and one that is refused
module _ (p : Plate) (c : ℕ) (d core m w : List ℕ) {r : ℕ} {w' : List ℕ} where
  pub asked_in : {m' : List ℕ} → is_core core ≡ true → ((i : ℕ) → arg core i < 256) → Serves p (state_in core) c d m w (state_in core) r m' w' → ServedIn p c d core m w r core m' w'
  asked_in e small h = record { serves = h; state = state-said core e small }

  pub ordered_in : {x : Worked} {core' v : List ℕ} → longest_reply ≤ length w → WorksOn (command_of c) p (state_in core) d m w (Ok x) m v
      → PutsEffect x.effect core core' → Sends (state_in core') c (Ok x.reply) v r w' → ServedIn p c d core m w r core' m w'
  ordered_in {x = x} {core' = core'} wide h q y =
      record { serves = worked_served p (state_in core) c d m w wide (state_in core') (Ok x) h refl (q.holds none) y; state = q.bytes }

  pub barred_in : {e : ErrorCode} {v : List ℕ} → is_core core ≡ true → ((i : ℕ) → arg core i < 256) → longest_reply ≤ length w → WorksOn (command_of c) p (state_in core) d m w (Err e) m v
      → Sends (state_in core) c (Err e) v r w' → ServedIn p c d core m w r core m w'
  unfolding effect_on
  barred_in {e = e} k small wide h y = asked_in k small (worked_served p (state_in core) c d m w wide (state_in core) (Err e) h refl refl y)

-- a frame whose close leaves the state
pub still_in : (p : Plate) (core m w : List ℕ) {f : OpenFrame} {r : ℕ} {m' w' : List ℕ} → f ≡ frame_in core → is_core core ≡ true → ((i : ℕ) → arg core i < 256)
    → Closes p (state_in core) f (kept_in core) m w (record { state = state_in core; sent = r }) m' w' → ClosedIn p core m w r core m' w'
still_in p core m w a e small h = record { closes = rw a at h; state = state-said core e small }

-- the kept bytes of a frame, lent out of the core
pub kept_of_lem : (core : List ℕ) (n : ℕ) → n ≤ longest_request → take (30 + n - 30) (drop 30 core) ≡ take n (kept_in core)
kept_of_lem core n few = let i : 30 + n - 30 ≡ n = omega arith in rw i (sym (take-take n 135 (drop 30 core) few))

-- what `close` asks
pub ready : (p : line.Plate) (label core m w : List ℕ) → Unrefused (plate_of p label) core (length m) (length w) → Ready p label (state_in core) (frame_in core) (kept_in core) m w
ready p label core m w u =
    let l = to_lim (plate_of p label) (held_in core) (true-told (state_ok (plate_of p label) (held_in core)) u.state) in
    record {
      plate = u.plate;
      counter = l.counts;
      address = l.placed;
      fits = fits (plate_of p label) core m w u;
      size = u.size;
      room = u.wide;
    }

module _ (p : line.Plate) (label core m w : List ℕ) (u : Unrefused (plate_of p label) core (length m) (length w)) where
  pub low-own : (state_in core).address ≤ 31
  low-own = (ready p label core m w u).address

  pub may-answer : Answerable (state_in core) w
  may-answer = record { address = low-own; room = u.wide }

  module _ {f : OpenFrame} (e : f ≡ frame_in core) where
    ready-now : Ready p label (state_in core) f (kept_in core) m w
    ready-now = rw e (ready p label core m w u)

    pub at_most : f.len ≤ longest_request
    at_most = ready-now.fits.few

    lent : take (30 + f.len - 30) (drop 30 core) ≡ take f.len (kept_in core)
    lent = kept_of_lem core f.len at_most

    -- no request: the state stays
    pub refused_in : (j : Judgement) (own : ℕ) {r : ℕ} {w' : List ℕ} → ((i : ℕ) → arg core i < 256) → own ≡ own_byte (state_with (state_in core) none)
        → judgement_of own (frame_of f (take (30 + f.len - 30) (drop 30 core))) ≡ j → asking j ≡ false → Refused (state_in core) (code_to_answer j) w r w'
        → ClosedIn (plate_of p label) core m w r core m w'
    refused_in j own small o q n h = still_in (plate_of p label) core m w e u.bytes small (refused (plate_of p label) (state_in core) f (kept_in core) m w o j (rw lent at q) n h)

    module _ (own : ℕ) {c : ℕ} (j : judgement_of own (frame_of f (take (30 + f.len - 30) (drop 30 core))) ≡ Request c) where
      pub three : 3 ≤ f.len
      three =
          omega (
            arith,
            long p label (state_in core) f (kept_in core) m w ready-now own (take (30 + f.len - 30) (drop 30 core)) j,
            length-take (30 + f.len - 30) (drop 30 core),
          )

      pub servable : Servable p label c (30 + f.len) core m w
      servable =
          record {
            bytes = u.bytes;
            starts = omega (arith, three);
            ends = omega (arith, at_most);
            works = workable p label (state_in core) f (kept_in core) m w ready-now own (take (30 + f.len - 30) (drop 30 core)) j refl;
          }

      pub request_in : {r : ℕ} {core' m' w' : List ℕ} → own ≡ own_byte (state_with (state_in core) none)
          → ServedIn (plate_of p label) c (data_to (30 + f.len) core) core m w r core' m' w' → ClosedIn (plate_of p label) core m w r core' m' w'
      request_in {r} {core'} {m'} {w'} o s =
          let t : Closed = record { state = state_in core'; sent = r } in
          let y : Serves (plate_of p label) (state_in core) c (data_of (take f.len (kept_in core))) m w t.state t.sent m' w' = rw lent at s.serves in
          let x : Closes (plate_of p label) (state_in core) f (kept_in core) m w t m' w' = requested (plate_of p label) (state_in core) f (kept_in core) m w o (rw lent at j) y in
          record { closes = rw e at x; state = s.state }
