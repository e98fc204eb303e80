-- The loop of a pass: what was read and printed so far, and what is left, come to the whole pass. Assumes nothing.
use Prim.Native.Nat.{ℕ, zero, suc, ◌+◌, ◌-◌, ◌≤◌, ◌<◌}
use mathlib.Core.Path.{◌≡◌, refl, sym, ap, ◌∙◌}
use mathlib.Core.Bool.{true, false}
use mathlib.Core.List.{List, [], ◌++◌, append_assoc, append-nil}
use native.Mathlib.Nat.{add_assoc, add-zero, zero-add}
use native.Mathlib.Omega.{arith}
use lib.ListN.{length, drop}
use lib.Seq.{drop-drop}
use borrow.Author.Tests.{lt-ltb, le-ltb}
use Rattle.std.specs.Prelude.{Result, is_err}
use Rattle.meaning.specs.Bytes.{put}
use Rattle.meaning.specs.State as meaning
use Rattle.line.specs.declared.plate.Plate.{Plate}
use Rattle.board.specs.declared.limits.Board.{Board}
use Rattle.board.specs.Board.{state_of, fits_in}
use Rattle.board.proofs.Quickening.{told-fits}
use Rattle.records.specs.Records.{whole_length}
use Rattle.tape.specs.Kinds.{Said, unfit}
use Rattle.tape.specs.Answers.{Stage, opening, running, ended, Turn, bad_record, turn}
use Rattle.tape.specs.Passes as passes
use Rattle.tape.specs.Passes.{Pass, pass, stopped, after, on_next_record, next_record, incomplete, says, longest_line}
use Rattle.tape.specs.Reader.{Printed}
use Rattle.tape.proofs.Outputs.{put-nil}
use Rattle.tape.proofs.Texts.{same_size, joined}
use Rattle.turns.specs.Hearing.{Past}
use Rattle.turns.specs.Openings.{tape_plate}
use Rattle.turns.specs.Turns.{Sound, runs, stage_kept, is_ended, last_of, quickly, Quiet, board_left, used_after, Turns}
use Rattle.turns.proofs.Tight.{not-both}
use Rattle.passes.specs.Holding.{LentState, lent_state, lent_after, lent_by}
use Rattle.passes.proofs.Holding.{held_parts, held-full, held_more, held-bad, held-good}
use Rattle.passes.specs.Sessions.{Plays, Playable, stop_told, stage_after}
use Rattle.passes.proofs.Closings.{no_text}
use Rattle.turns.specs.declared.answering.Turned.{Turned}
use Rattle.turns.specs.declared.answering.BadRecord.{BadRecord}
use Rattle.passes.specs.declared.session.Stop.TheVariants.{More, Full, Over}

-- ---- one turn of a pass

module _ (n space : ℕ) (w : Stage) (at : ℕ) (t : List ℕ) where
  pub pass-full : space < longest_line → pass (suc n) space w at t ≡ stopped w passes.full
  unfolding pass
  pass-full h = rw (lt-ltb space longest_line h)

  pub pass-more : longest_line ≤ space → next_record t ≡ incomplete → pass (suc n) space w at t ≡ stopped w passes.more
  unfolding pass on_next_record
  pass-more h e = rw (le-ltb space longest_line h, e)

  pub pass-turn : (x : Said) → longest_line ≤ space → next_record t ≡ says x
      → pass (suc n) space w at t
      ≡ after (turn w at x).stage (turn w at x).printed (whole_length t) (pass n (space - length (turn w at x).printed) (turn w at x).stage (at + whole_length t) (drop (whole_length t) t))
  unfolding pass on_next_record
  pass-turn x h e = rw (le-ltb space longest_line h, e)

-- a pass that so much was read and printed before
abbrev before : ℕ → List ℕ → Pass → Pass
before n x q = record { stage = q.stage; read = n + q.read; printed = x ++ q.printed; stop = q.stop }

after-running : (w : Stage) (p : meaning.Plate) (s : meaning.State) (m : List ℕ) (r n : ℕ) (x y : List ℕ) (q : Pass) → w ≡ running p s m
    → before r x (after w y n q) ≡ before (r + n) (x ++ y) q
unfolding after
after-running w p s m r n x y q e = rw (e, append_assoc x y q.printed, add_assoc r n q.read)

-- whether a record was bad
over-ends : (v : Stage) → is_ended v ≡ true → v ≡ ended
over-ends opening e = absurd (not-both (sym e))
over-ends (running p s m) e = absurd (not-both (sym e))
over-ends ended e = refl

last_goes : (w v : Stage) → is_ended v ≡ false → last_of w v ≡ v
last_goes w opening e = refl
last_goes w (running p s m) e = refl
last_goes w ended e = absurd (not-both e)

-- a quick record fits
quiet-fits : {p : Plate} {b b' : Board} {kept kept' : List ℕ} {x : Said} → Quiet p b kept x b' kept' → x ≡ unfit → ⊥
quiet-fits {p} {b} {kept = kept} q u = not-both (sym q.quick ∙ ap (quickly (tape_plate p) (state_of b kept)) u)

-- ---- the loop's invariant

pub record Going (p : Plate) (place : ℕ) (window : List ℕ) (from : ℕ) (kept₀ m₀ w₀ out₀ : List ℕ) (start : ℕ) (b₀ : Board)
    (kept m w out : List ℕ) (b : Board) (at used : ℕ) : Type 0 where
  pub fuel : ℕ
  pub read : ℕ
  pub text : List ℕ
  pub sound : Sound p (b) kept m w
  pub printed : Printed text out₀ start used out
  pub far : at ≡ from + read
  pub inside : at ≤ length window
  pub enough : length window - at ≤ fuel
  pub whole : pass (suc (length window)) (length out₀ - start) (runs p b₀ kept₀ m₀) (place + from) (drop from window)
      ≡ before read text (pass (suc fuel) (length out - used) (runs p b kept m) (place + at) (drop at window))
  pub held : lent_by (suc (length window)) (length out₀ - start) (place + from) (drop from window) (lent_state (runs p b₀ kept₀ m₀) kept₀ w₀)
      ≡ lent_by (suc fuel) (length out - used) (place + at) (drop at window) (lent_state (runs p b kept m) kept w)

pub begins : (p : Plate) (place : ℕ) (window : List ℕ) (from : ℕ) (kept m w out : List ℕ) (start : ℕ) (b : Board) → Playable p b place window from kept m w out start
    → Going p place window from kept m w out start b kept m w out b from start
begins p place window from kept m w out start b ready = record {
  fuel = length window;
  read = 0;
  text = [];
  sound = ready.sound;
  printed = no_text out start refl ready.space;
  far = sym (add-zero from);
  inside = ready.starts;
  enough = omega arith;
  whole = rw zero-add;
  held = refl;
}

module _ {p : Plate} {place : ℕ} {window : List ℕ} {from : ℕ} {kept₀ m₀ w₀ out₀ : List ℕ} {start : ℕ} {b₀ : Board}
    {kept m w out : List ℕ} {b : Board} {at used : ℕ} (g : Going p place window from kept₀ m₀ w₀ out₀ start b₀ kept m w out b at used) where
  abbrev all : Pass
  all = pass (suc (length window)) (length out₀ - start) (runs p b₀ kept₀ m₀) (place + from) (drop from window)

  abbrev lent : LentState
  lent = lent_by (suc (length window)) (length out₀ - start) (place + from) (drop from window) (lent_state (runs p b₀ kept₀ m₀) kept₀ w₀)

  abbrev here : Stage
  here = runs p b kept m

  abbrev done : Said → Turn
  done x = turn here (place + at) x

  abbrev now : LentState
  now = lent_state here kept w

  -- the frame's number and the lent places are within their limits
  pub fits : fits_in b kept ≡ true
  fits = told-fits b kept g.sound.within.few g.sound.within.places

  -- no space for a line, no whole record
  halted : (why : passes.Stop) → ((v : Stage) → stage_after (stop_told why) v ≡ v) → all ≡ before g.read g.text (stopped here why) → lent ≡ now
      → Plays p all lent from window out₀ start (record { board = b; at = at; used = used; stop = stop_told why }) kept m w out
  unfolding stopped
  halted why k e l =
      rw e
      (record {
        read = rw add-zero g.far;
        inside = g.inside;
        stop = refl;
        printed = rw append-nil g.printed;
        stage = k here;
        held = sym l;
        sound = g.sound;
      })

  pub halts_full : length out - used < longest_line → Plays p all lent from window out₀ start (record { board = b; at = at; used = used; stop = Full }) kept m w out
  halts_full h =
      halted passes.full (λ v. refl) (g.whole ∙ ap (before g.read g.text) (pass-full g.fuel (length out - used) here (place + at) (drop at window) h))
      (g.held ∙ held-full g.fuel (length out - used) (place + at) (drop at window) now h)

  pub halts_more : longest_line ≤ length out - used → next_record (drop at window) ≡ incomplete
      → Plays p all lent from window out₀ start (record { board = b; at = at; used = used; stop = More }) kept m w out
  halts_more h e =
      halted passes.more (λ v. refl) (g.whole ∙ ap (before g.read g.text) (pass-more g.fuel (length out - used) here (place + at) (drop at window) h e))
      (g.held ∙ held_more g.fuel (length out - used) (place + at) (drop at window) now h e)

  -- a bad record
  pub ends : {kept' m' w' out' : List ℕ} (b' : Board) (x : Said) (end : ℕ)
      → longest_line ≤ length out - used → next_record (drop at window) ≡ says x → (done x).stage ≡ ended → Printed (done x).printed out used end out'
      → Sound p b' kept' m' w' → lent_state (runs p b' kept' m') kept' w' ≡ lent_after now (place + at) x
      → Plays p all lent from window out₀ start (record { board = b'; at = at; used = end; stop = Over }) kept' m' w' out'
  unfolding after
  ends b' x end h e k pr sound l =
      let q : all ≡ before g.read g.text (record { stage = ended; read = 0; printed = (done x).printed; stop = passes.over })
      = g.whole ∙ ap (before g.read g.text) (pass-turn g.fuel (length out - used) here (place + at) (drop at window) x h e ∙ rw k) in
      rw q
      (record {
        read = rw add-zero g.far;
        inside = g.inside;
        stop = refl;
        printed = joined g.printed pr;
        stage = refl;
        held = l ∙ sym (g.held ∙ held-bad g.fuel (length out - used) (place + at) (drop at window) now x h e (ap is_ended k));
        sound = sound;
      })

  -- a good record
  goes : {kept' m' w' out' : List ℕ} {b' : Board} (n : ℕ) (x : Said) (next used' : ℕ)
      → g.fuel ≡ n → longest_line ≤ length out - used → next_record (drop at window) ≡ says x → (done x).stage ≡ runs p b' kept' m'
      → Printed (done x).printed out used used' out' → Sound p b' kept' m' w' → lent_state (runs p b' kept' m') kept' w' ≡ lent_after now (place + at) x → Past at window next
      → Going p place window from kept₀ m₀ w₀ out₀ start b₀ kept' m' w' out' b' next used'
  goes zero x next used' z h e k pr sound l past = absurd (omega (arith, g.enough, past.onward, past.inside))
  goes {kept'} {m'} {w'} {out'} {b'} (suc n) x next used' z h e k pr sound l past =
      let t = drop at window in
      let a : place + at + whole_length t ≡ place + next = omega (arith, past.whole) in
      let b : drop (whole_length t) t ≡ drop next window = drop-drop (whole_length t) at window ∙ ap (λ (i : ℕ). drop i window) (sym past.whole) in
      let c : length out - used - length (done x).printed ≡ length out' - used' = omega (arith, same_size pr, pr.next) in
      let q : pass (suc n) (length out - used - length (done x).printed) (done x).stage (place + at + whole_length t) (drop (whole_length t) t)
      ≡ pass (suc n) (length out' - used') (runs p b' kept' m') (place + next) (drop next window) = rw (a, b, c, k) in
      record {
        fuel = n;
        read = g.read + whole_length t;
        text = g.text ++ (done x).printed;
        sound = sound;
        printed = joined g.printed pr;
        far = omega (arith, past.whole, g.far);
        inside = past.inside;
        enough = omega (arith, g.enough, past.onward);
        whole =
            g.whole
            ∙ ap (before g.read g.text) (pass-turn g.fuel (length out - used) here (place + at) t x h e)
            ∙ rw z
            (after-running (done x).stage (tape_plate p) (state_of b' kept') m' g.read (whole_length t) g.text (done x).printed _ k
            ∙ ap (before (g.read + whole_length t) (g.text ++ (done x).printed)) q);
        held = g.held ∙ held-good g.fuel (length out - used) (place + at) t now x h e (ap is_ended k) ∙ rw (z, a, b, c, ← l);
      }

  pub goes_on : {kept' m' w' out' : List ℕ} {b' : Board} (x : Said) (next used' : ℕ)
      → longest_line ≤ length out - used → next_record (drop at window) ≡ says x → (done x).stage ≡ runs p b' kept' m'
      → Printed (done x).printed out used used' out' → Sound p b' kept' m' w' → lent_state (runs p b' kept' m') kept' w' ≡ lent_after now (place + at) x → Past at window next
      → Going p place window from kept₀ m₀ w₀ out₀ start b₀ kept' m' w' out' b' next used'
  goes_on x next used' = goes g.fuel x next used' refl

  pub quiet-past : {kept' : List ℕ} {b' : Board} (x : Said) (next : ℕ) → Quiet p b kept x b' kept' → ((x ≡ unfit → ⊥) → Past at window next) → Past at window next
  quiet-past x next q past = past (quiet-fits q)

  -- a record that closes no frame
  pub quiet-goes : {kept' : List ℕ} {b' : Board} (x : Said) (next : ℕ) → longest_line ≤ length out - used → next_record (drop at window) ≡ says x
      → Quiet p b kept x b' kept' → ((x ≡ unfit → ⊥) → Past at window next)
      → Going p place window from kept₀ m₀ w₀ out₀ start b₀ kept' m w out b' next used
  quiet-goes x next h e q past =
      let t = q.turned m (place + at) in
      goes_on x next used h e (ap (λ (y : Turn). y.stage) t) (no_text out used (ap (λ (y : Turn). y.printed) t) (omega (arith, g.printed.within, same_size g.printed)))
      (record { within = q.within m g.sound.within; room = g.sound.room })
      (held_parts (sym (ap (λ (y : Turn). last_of here y.stage) t)) (q.bytes ∙ sym (ap (λ (y : Turn). put kept 0 (stage_kept y.stage)) t)) (sym (ap (put w 0) (q.silent m) ∙ put-nil w 0)))
      (quiet-past x next q past)

  unfit-ends : (x : Said) → x ≡ unfit → is_ended (done x).stage ≡ true
  unfolding turn bad_record
  unfit-ends x u = rw u

  -- any other record: a bad one, a good one
  module _ {kept' m' w' out' : List ℕ} (x : Said) (q : Result Turned BadRecord) (h : longest_line ≤ length out - used) (e : next_record (drop at window) ≡ says x)
      (turns : Turns p b here (place + at) x kept w out used q kept' m' w' out') where
    holds_after : lent_state (runs p (board_left b q) kept' m') kept' w' ≡ lent_after now (place + at) x
    holds_after = held_parts turns.stage turns.bytes turns.room

    pub turn-ends : is_err q ≡ true → Plays p all lent from window out₀ start (record { board = board_left b q; at = at; used = used_after q; stop = Over }) kept' m' w' out'
    turn-ends o = ends (board_left b q) x (used_after q) h e (over-ends (done x).stage (sym turns.over ∙ o)) turns.printed turns.sound holds_after

    -- a record that was not bad fits
    pub turn-past : (next : ℕ) → is_err q ≡ false → ((x ≡ unfit → ⊥) → Past at window next) → Past at window next
    turn-past next o past = past (λ u. not-both (sym (unfit-ends x u) ∙ sym turns.over ∙ o))

    pub turn-goes : (next : ℕ) → is_err q ≡ false → ((x ≡ unfit → ⊥) → Past at window next)
        → Going p place window from kept₀ m₀ w₀ out₀ start b₀ kept' m' w' out' (board_left b q) next (used_after q)
    turn-goes next o past =
        goes_on x next (used_after q) h e (sym (turns.stage ∙ last_goes here (done x).stage (sym turns.over ∙ o))) turns.printed turns.sound holds_after (turn-past next o past)
