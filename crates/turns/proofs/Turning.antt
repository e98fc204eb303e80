-- What one record does to a running board. Assumes nothing.
use Prim.Native.Nat.{ℕ, ◌+◌, ◌≤◌, ◌<◌}
use mathlib.Core.Path.{◌≡◌, refl, sym, ap, ◌∙◌}
use mathlib.Core.Bool.{Bool, true, false, not, false≢true}
use mathlib.Core.List.{List, [], ◌∷◌}
use native.Mathlib.Omega.{arith}
use native.Mathlib.Nat.{add-zero}
use lib.ListN.{length, take, drop, length-replicate}
use lib.Seq.{length-take-le, take-append_seam}
use Rattle.std.specs.Prelude.{Option, None, Some, Result, Ok, Err, IsOk, unwrap_or}
use Rattle.meaning.specs.Bytes.{pick, put, zeros}
use Rattle.meaning.specs.State as meaning
use Rattle.meaning.specs.Characters.{over}
use Rattle.meaning.specs.Frames.{Outcome, still}
use Rattle.meaning.specs.Run.{Call, character, poll, measured, fault, power_on, step, closes}
use Rattle.meaning.proofs.Limits.{replies_fit}
use Rattle.meaning.proofs.Puts.{length-put, put_front}
use Rattle.line.specs.declared.plate.Plate.{Plate}
use Rattle.board.specs.declared.limits.Board.{Board}
use Rattle.board.specs.declared.calls.Refusal.{Refusal}
use Rattle.board.specs.declared.calls.Stepped.{Stepped}
use Rattle.board.specs.Board as board
use Rattle.board.specs.Board.{state_of, fits_in, reply_length, refusal_on}
use Rattle.board.specs.Promises.{DoesStep}
use Rattle.board.specs.Quick.{TakesIn, ClosesNone}
use Rattle.board.proofs.Quickening.{quiet_step, taken-quickly, polled-quickly, quick_steps}
use Rattle.board.proofs.Stepping.{held_on}
use Rattle.board.proofs.Promises.{does_step, unrefused, stays_within}
use Rattle.tape.specs.declared.kinds.Event.{Event}
use Rattle.tape.specs.declared.kinds.Event.TheVariants as event
use Rattle.tape.specs.Kinds.{Said, plate, call, unfit}
use Rattle.tape.specs.Text as text
use Rattle.tape.specs.Text.{bad_line}
use Rattle.tape.specs.Answers as answers
use Rattle.tape.specs.Answers.{running, turn, stepped, printed_of}
use Rattle.tape.specs.Reader.{said_of, Printed}
use Rattle.tape.specs.Passes.{longest_line}
use Rattle.tape.proofs.Outputs.{put-nil}
use Rattle.turns.specs.Openings.{tape_plate}
use Rattle.turns.specs.Turns.{Sound, runs, quickly, Quiet, CallsBoard, NotCalled, Turns, Fitting, Answered}
use Rattle.turns.specs.declared.answering.Called.{Called}
use Rattle.turns.specs.declared.answering.Turned.{Turned}

not-both : true ≡ false → ⊥
not-both e = false≢true (sym e)

-- a call that closes nothing brings no reply
silent-still : (p : meaning.Plate) (s : meaning.State) (m : List ℕ) (g : Call) → closes p s g ≡ false → (step p s m g).reply ≡ []
unfolding still
silent-still p s m g e = ap (λ (o : Outcome). o.reply) (quiet_step p s m g e)

-- ---- the quick way

module _ (p : Plate) (b : Board) (kept : List ℕ) (g : Call) (told : quickly (tape_plate p) (state_of b kept) (call g) ≡ not (closes (tape_plate p) (state_of b kept) g)) where
  quiet-turn : {b' : Board} {kept' : List ℕ} → ClosesNone (tape_plate p) b kept g b' kept' → (m : List ℕ) (place : ℕ)
      → turn (runs p b kept m) place (call g) ≡ record { stage = runs p b' kept' m; printed = [] }
  unfolding turn stepped printed_of still
  quiet-turn q m place = rw (quiet_step (tape_plate p) (state_of b kept) m g q.none, ← q.state m)

  went_quiet : {b' : Board} {kept' : List ℕ} → ClosesNone (tape_plate p) b kept g b' kept' → Quiet p b kept (call g) b' kept'
  went_quiet q = record {
    quick = told ∙ ap not q.none;
    turned = quiet-turn q;
    silent = λ m. silent-still (tape_plate p) (state_of b kept) m g q.none;
    bytes = q.bytes;
    fits = q.fits;
    within = λ m h.
        let wide : 134 ≤ length (zeros 134) = omega (arith, length-replicate {A = ℕ} 134 0) in
        stays_within (tape_plate p) b kept m (zeros 134) g h wide
        (quick_steps (tape_plate p) b kept m (zeros 134) g (unrefused (tape_plate p) b kept m (length (zeros 134)) g h wide) q);
  }

-- what is quick closes nothing
quick_open : (t : Bool) → not t ≡ true → t ≡ false
quick_open true e = absurd (not-both (sym e))
quick_open false e = refl

pub quiet-character : (p : Plate) (b : Board) (kept : List ℕ) (e : Event) (t v : ℕ) (bad : Bool) {b' : Board} {kept' : List ℕ}
    → quickly (tape_plate p) (state_of b kept) (said_of e) ≡ true → e ≡ event.Character t v bad → TakesIn b kept t v bad b' kept' → Quiet p b kept (said_of e) b' kept'
unfolding closes
quiet-character p b kept e t v bad q k x =
    let o : over (tape_plate p) (state_of b kept) t ≡ false = quick_open (over (tape_plate p) (state_of b kept) t) (rw k at q) in
    rw k (went_quiet p b kept (character t v bad) refl (taken-quickly (tape_plate p) b kept t o x))

-- a quick record that is no character is a poll, and changes nothing
pub quiet-poll : (p : Plate) (b : Board) (kept : List ℕ) (e : Event) → quickly (tape_plate p) (state_of b kept) (said_of e) ≡ true
    → ((t v : ℕ) (bad : Bool) → e ≡ event.Character t v bad → ⊥) → fits_in b kept ≡ true → Quiet p b kept (said_of e) b kept
unfolding closes
quiet-poll p b kept (event.Plate t q a u w) k i f = absurd (not-both (sym k))
quiet-poll p b kept (event.Character t v bad) k i f = absurd (i t v bad refl)
quiet-poll p b kept (event.Poll t) k i f =
    went_quiet p b kept (poll t) refl (polled-quickly (tape_plate p) b kept t (quick_open (over (tape_plate p) (state_of b kept) t) k) f)
quiet-poll p b kept (event.Measured n) k i f = absurd (not-both (sym k))
quiet-poll p b kept (event.Fault c) k i f = absurd (not-both (sym k))
quiet-poll p b kept event.PowerOn k i f = absurd (not-both (sym k))
quiet-poll p b kept event.Unfit k i f = absurd (not-both (sym k))

printed-line : (tick : ℕ) (l : List ℕ) → 0 < length l → printed_of (poll tick) l ≡ text.reply_line tick l
unfolding printed_of
printed-line tick [] h = absurd (omega arith)
printed-line tick (b ∷ l) h = refl

-- a line for a reply, none for silence
module _ (c : Called) (w out : List ℕ) (used n : ℕ) (same : n ≡ reply_length c.stepped) where
  pub no_line : n ≡ 0 → used ≤ length out → Answered c w out used (record { board = c.stepped.board; used = used }) out
  unfolding printed_of
  no_line z h =
      let k : take (reply_length c.stepped) w ≡ [] = ap (λ (i : ℕ). take i w) (sym same ∙ z) in
      record { board = refl; printed = rw k (record { next = sym (add-zero used); bytes = sym (put-nil out used); within = h }) }

  pub a-line : (end : ℕ) (out' : List ℕ) → (n ≡ 0 → ⊥) → n ≤ length w → Printed (text.reply_line c.tick (take n w)) out used end out'
      → Answered c w out used (record { board = c.stepped.board; used = end }) out'
  a-line end out' z h p =
      let k : printed_of (poll c.tick) (take (reply_length c.stepped) w) ≡ text.reply_line c.tick (take n w) = rw (← same) (printed-line c.tick (take n w) (simp length-take-le (omega arith))) in
      record { board = refl; printed = rw k p }

-- a call that brings no reply has no line
unheard : (p : meaning.Plate) (s : meaning.State) (m : List ℕ) (g : Call) → closes p s g ≡ false → printed_of (poll 0) (step p s m g).reply ≡ printed_of g (step p s m g).reply
unfolding printed_of
unheard p s m g e = rw (silent-still p s m g e)

-- the line of a character is that of a poll at its tick
as_poll : (tick v : ℕ) (bad : Bool) (l : List ℕ) → printed_of (poll tick) l ≡ printed_of (character tick v bad) l
unfolding printed_of
as_poll tick v bad [] = refl
as_poll tick v bad (b ∷ l) = refl

-- ---- the board's call for each kind

-- within the limits no call is refused
module _ (p : Plate) (b : Board) (kept m w : List ℕ) (sound : Sound p b kept m w) (g : Call) where
  willing : refusal_on (tape_plate p) b kept m (length w) g ≡ 0
  willing = unrefused (tape_plate p) b kept m (length w) g sound.within sound.room

  pub is-taken : {r : Result Stepped Refusal} {kept' m' w' : List ℕ} → board.Steps (tape_plate p) b kept m w g r kept' m' w' → IsOk r
  is-taken {r = Ok r} s = refl
  is-taken {r = Err e} s = let d = (does_step (tape_plate p) b kept m w g willing s).outcome in let z : ◌≡◌ {A = ℕ} 0 1 = cc in absurd (omega arith)

-- a call that lends nothing, too
pub is-heard : (r : Result Board Refusal) → IsOk (board.unheard r) → IsOk r
is-heard (Ok b) h = refl
is-heard (Err e) h = h

module _ {p : Plate} {b : Board} {kept m w : List ℕ} {kept' m' w' : List ℕ} where
  pub character-called : (t v : ℕ) (f : Bool) (r : Stepped) → board.Steps (tape_plate p) b kept m w (character t v f) (Ok r) kept' m' w'
      → CallsBoard p b (call (character t v f)) kept m w (record { stepped = r; tick = t }) kept' m' w'
  character-called t v f r s = record { asked = character t v f; said = refl; stepped = s; line = as_poll t v f _ }

  pub poll-called : (t : ℕ) (r : Stepped) → board.Steps (tape_plate p) b kept m w (poll t) (Ok r) kept' m' w'
      → CallsBoard p b (call (poll t)) kept m w (record { stepped = r; tick = t }) kept' m' w'
  poll-called t r s = record { asked = poll t; said = refl; stepped = s; line = refl }

  unasked_called : (g : Call) (next : Board) → closes (tape_plate p) (state_of b kept) g ≡ false → board.Steps (tape_plate p) b kept m w g (board.unheard (Ok next)) kept' m' w'
      → CallsBoard p b (call g) kept m w (record { stepped = record { board = next; reply = None; remaining = None }; tick = 0 }) kept' m' w'
  unasked_called g next e s = record { asked = g; said = refl; stepped = s; line = unheard (tape_plate p) (state_of b kept) m g e }

  pub measured-called : (n : ℕ) (next : Board) → board.Steps (tape_plate p) b kept m w (measured n) (board.unheard (Ok next)) kept' m' w'
      → CallsBoard p b (call (measured n)) kept m w (record { stepped = record { board = next; reply = None; remaining = None }; tick = 0 }) kept' m' w'
  unfolding closes
  measured-called n next s = unasked_called (measured n) next refl s

  pub fault-called : (c : ℕ) (next : Board) → board.Steps (tape_plate p) b kept m w (fault c) (board.unheard (Ok next)) kept' m' w'
      → CallsBoard p b (call (fault c)) kept m w (record { stepped = record { board = next; reply = None; remaining = None }; tick = 0 }) kept' m' w'
  unfolding closes
  fault-called c next s = unasked_called (fault c) next refl s

  pub power_on-called : (next : Board) → board.Steps (tape_plate p) b kept m w power_on (board.unheard (Ok next)) kept' m' w'
      → CallsBoard p b (call power_on) kept m w (record { stepped = record { board = next; reply = None; remaining = None }; tick = 0 }) kept' m' w'
  unfolding closes
  power_on-called next s = unasked_called power_on next refl s

-- a second plate, or a record that fits nothing
module _ (kept m w : List ℕ) where
  pub plate-uncalled : (q : meaning.Plate) → NotCalled (plate q) kept m w kept m w
  unfolding turn
  plate-uncalled q = record { bad = λ v s n place. refl; silent = λ v s n. refl; bytes = refl; memory = refl; room = refl }

  pub unfit-uncalled : NotCalled unfit kept m w kept m w
  unfolding turn
  unfit-uncalled = record { bad = λ v s n place. refl; silent = λ v s n. refl; bytes = refl; memory = refl; room = refl }

-- ---- what the call leaves, and its line

module _ (p : Plate) (b : Board) (x : Said) (kept m w : List ℕ) (r : Called) (kept' m' w' : List ℕ)
    (sound : Sound p b kept m w) (steps : CallsBoard p b x kept m w r kept' m' w') where
  abbrev g : Call
  g = steps.asked

  abbrev reply : List ℕ
  reply = (step (tape_plate p) (state_of b kept) m g).reply

  done : DoesStep (tape_plate p) b kept m w g (Ok r.stepped) kept' m' w'
  done = does_step (tape_plate p) b kept m w g (willing p b kept m w sound g) steps.stepped

  short : length reply ≤ 134
  short = replies_fit (tape_plate p) (state_of b kept) m g

  same_length : length w' ≡ length w
  same_length = ap length done.room ∙ length-put w 0 reply (omega (arith, short, sound.room))

  -- the reply stands at the front of its room
  told : (c : Bool) → closes (tape_plate p) (state_of b kept) g ≡ c → unwrap_or (pick c (Some (length reply)) None) 0 ≡ length reply
  told true e = refl
  told false e = ap length (sym (silent-still (tape_plate p) (state_of b kept) m g e))

  sent_is : reply_length r.stepped ≡ length reply
  sent_is =
      let e : r.stepped.reply ≡ pick (closes (tape_plate p) (state_of b kept) g) (Some (length reply)) None = let d = done.outcome in cc in
      ap (λ (o : Option ℕ). unwrap_or o 0) e ∙ told (closes (tape_plate p) (state_of b kept) g) refl

  heard-reply : take (reply_length r.stepped) w' ≡ reply
  heard-reply = ap (λ (n : ℕ). take n w') sent_is ∙ ap (take (length reply)) (done.room ∙ put_front w reply) ∙ take-append_seam reply (drop (length reply) w)

  still-sound : Sound p r.stepped.board kept' m' w'
  still-sound = record {
    within = stays_within (tape_plate p) b kept m w g sound.within sound.room steps.stepped;
    room = omega (arith, same_length, sound.room);
  }

  pub fitting : (out : List ℕ) (used : ℕ) → used + longest_line ≤ length out → Fitting r.stepped w' out used
  fitting out used h = record {
    few = omega (arith, sent_is, short);
    room = omega (arith, sent_is, short, same_length, sound.room);
    space = h;
  }

  -- what is kept of the frame stands in front of its places, the rest is untouched
  kept-is : kept' ≡ put kept 0 (step (tape_plate p) (state_of b kept) m g).state.line.kept
  kept-is = rw (held_on (tape_plate p) b kept m w g (willing p b kept m w sound g)) at steps.stepped.bytes

  -- a reply is printed, silence is not
  pub turns_answered : {q : Turned} {out out' : List ℕ} {used : ℕ} (place : ℕ) → Answered r w' out used q out' → Turns p b (runs p b kept m) place x kept w out used (Ok q) kept' m' w' out'
  unfolding turn stepped
  turns_answered place a =
      rw steps.said
      (record {
        printed = rw (heard-reply, steps.line) at a.printed;
        over = refl;
        stage = ap (λ (y : Board). running (tape_plate p) (state_of y kept') m') a.board ∙ ap (λ (y : meaning.State). running (tape_plate p) y m') done.state ∙ ap (running (tape_plate p) (step (tape_plate p) (state_of b kept) m g).state) done.memory;
        bytes = kept-is;
        room = done.room;
        sound = rw a.board still-sound;
      })

-- a bad record changes nothing
pub turns_bad : (p : Plate) (b : Board) (x : Said) (kept m w kept' m' w' out out' : List ℕ) (used end place : ℕ) → Sound p b kept m w → NotCalled x kept m w kept' m' w'
    → Printed (bad_line place) out used end out' → Turns p b (runs p b kept m) place x kept w out used (Err (record { used = end })) kept' m' w' out'
unfolding answers.bad_record
turns_bad p b x kept m w kept' m' w' out out' used end place sound none printed =
    let t = none.bad p (state_of b kept) m place in
    rw (none.bytes, none.memory, none.room)
    (record {
      printed = rw t printed;
      over = rw t;
      stage = rw t;
      bytes = rw t (sym (put-nil kept 0));
      room = rw (none.silent p (state_of b kept) m) (sym (put-nil w 0));
      sound = sound;
    })
