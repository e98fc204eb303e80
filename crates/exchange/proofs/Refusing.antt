-- The refusals one by one, what writing the request leaves, and the whole of an exchange from its parts. Assumes nothing.
use Prim.Native.Nat.{ℕ, ◌<◌, ◌≤◌}
use mathlib.Core.Path.{◌≡◌, refl, sym, ap, ◌∙◌}
use mathlib.Core.Bool.{Bool, true, false, not}
use mathlib.Core.List.{List}
use native.Mathlib.Omega.{arith}
use lib.Dec.{T, eqb, ltb}
use lib.ListN.{length, take, drop, length-append}
use lib.Seq.{take-append_seam}
use borrow.Author.Tests.{ne_eqb, le-leb, lt-leb, eqb-false}
use Rattle.meaning.specs.Bytes.{pick, both, put}
use Rattle.meaning.specs.State.{Plate}
use Rattle.meaning.specs.Characters.{full_pause}
use Rattle.meaning.specs.Commands.{command_of}
use Rattle.meaning.specs.Run.{Call, poll, lends}
use Rattle.meaning.specs.Bench.{address_ok, address_for, allowed, request, writes}
use Rattle.meaning.specs.Bench as meaning
use Rattle.meaning.proofs.Steps.{both_0, both_1}
use Rattle.meaning.proofs.Wire.{writes_well}
use Rattle.board.specs.declared.limits.Board.{Board}
use Rattle.std.specs.Prelude.{Ok, Err}
use Rattle.line.specs.declared.plate.Plate as line
use Rattle.line.specs.Line.{plate_of}
use Rattle.board.specs.declared.calls.Refusal as board
use Rattle.board.specs.declared.calls.Refusal.TheVariants.{R1, R2, R3}
use Rattle.board.specs.Board.{state_of, refusal_on, refused_as, refusal_number}
use Rattle.board.proofs.Bounding.{refusal-few, none-refused, some-refused, number-back, lends-poll}
use Rattle.bench.specs.declared.request.Unwritten.{Unwritten}
use Rattle.bench.specs.declared.request.Unwritten.TheVariants.{R4, R5}
use Rattle.bench.specs.Outcomes.{written_of}
use Rattle.exchange.specs.declared.asking.Refusal.{Refusal}
use Rattle.exchange.specs.declared.asking.Refusal.TheVariants as unsent
use Rattle.exchange.specs.declared.asking.Heard.{Heard}
use Rattle.exchange.specs.Passing.{Exchanged, unsent_number, refusal_for, Asks, Converses, passed, Passes}
use Rattle.meaning.proofs.Puts.{put_front}

-- none of R1 to R3, as the board's test tells it
pub none-refuses : (plate : line.Plate) (b : Board) (label kept m : List ℕ) (r : ℕ)
    → ((l k y : List ℕ) (g : Call) → length l ≡ length label → length k ≡ length kept → length y ≡ length m → lends g ≡ true
    → Ok (tt {0}) ≡ refused_as (refusal_on (plate_of plate l) b k y r g) (tt {0})) → refusal_on (plate_of plate label) b kept m r (poll 0) ≡ 0
none-refuses plate b label kept m r told = none-refused _ (tt {0}) (told label kept m (poll 0) refl refl refl (lends-poll 0))

-- ---- what writing leaves

-- the request stands at the room's front, and is one that the bench writes
pub record Wrote (n c k : ℕ) (d q q' : List ℕ) : Type 0 where
  pub asks : Asks n c d (take k q')
  pub room : q' ≡ put q 0 (request (address_for n) c d)
  pub short : length (take k q') ≤ 135
  pub within : k ≤ length q'
  pub unrefused : (writes n c d q).refusal ≡ 0

module _ (n c : ℕ) (d q q' : List ℕ) where
  abbrev asked : List ℕ
  asked = request (address_for n) c d

  well : (k : ℕ) → T (both (address_ok n) (allowed (command_of c) d)) → k ≡ length asked → q' ≡ put q 0 asked → (writes n c d q).refusal ≡ 0 → Wrote n c k d q q'
  well k g e f z =
      let right = both_0 (address_ok n) (allowed (command_of c) d) g in
      let may = both_1 (address_ok n) (allowed (command_of c) d) g in
      let front : take k q' ≡ asked = rw (e, f, put_front q asked) (take-append_seam asked (drop (length asked) q)) in
      record {
        asks = record { address = right; may = may; bytes = front };
        room = f;
        short = rw front (writes_well n c d right may).1;
        within = rw (e, f, put_front q asked) (omega (arith, length-append asked (drop (length asked) q)));
        unrefused = z;
      }

  pub wrote : (k : ℕ) → written_of (Ok k) q' ≡ writes n c d q → Wrote n c k d q q'
  unfolding writes
  wrote k = go (ltb (length q) 135) (both (address_ok n) (allowed (command_of c) d)) (λ g. g) refl
    where
      go : (s g : Bool) → (T g → T (both (address_ok n) (allowed (command_of c) d)))
          → writes n c d q ≡ pick s (written_of (Err R4) q) (pick (not g) (written_of (Err R5) q) (written_of (Ok (length asked)) (put q 0 asked)))
          → written_of (Ok k) q' ≡ pick s (written_of (Err R4) q) (pick (not g) (written_of (Err R5) q) (written_of (Ok (length asked)) (put q 0 asked)))
          → Wrote n c k d q q'
      go true g l z e = absurd (eqb-false 0 4 refl (ap (λ (w : meaning.Written). w.refusal) e))
      go false false l z e = absurd (eqb-false 0 5 refl (ap (λ (w : meaning.Written). w.refusal) e))
      go false true l z e =
          well k (l tt) (ap (λ (w : meaning.Written). w.count) e) (ap (λ (w : meaning.Written). w.buffer) e) (ap (λ (w : meaning.Written). w.refusal) z)

  -- refused, the request's buffer is as it was
  same-buffer : (k : ℕ) → (k ≡ 0 → ⊥) → (record { refusal = k; count = 0; buffer = q' }) ≡ writes n c d q → q' ≡ q
  unfolding writes
  same-buffer k h = go (ltb (length q) 135) (both (address_ok n) (allowed (command_of c) d))
    where
      go : (s g : Bool)
          → ◌≡◌ {A = meaning.Written} (record { refusal = k; count = 0; buffer = q' })
          (pick s (written_of (Err R4) q) (pick (not g) (written_of (Err R5) q) (written_of (Ok (length asked)) (put q 0 asked))))
          → q' ≡ q
      go true g e = ap (λ (w : meaning.Written). w.buffer) e
      go false false e = ap (λ (w : meaning.Written). w.buffer) e
      go false true e = absurd (h (ap (λ (w : meaning.Written). w.refusal) e))

-- ---- the whole

module _ (p : Plate) (b : Board) (n c : ℕ) (d : List ℕ) (spacing : ℕ) (q kept m w : List ℕ) where
  -- a refusal leaves all as it was
  pub passes-refused : {k : ℕ} {x : Refusal} {r : Exchanged} → refusal_for p b n c d spacing q kept m w ≡ k → (k ≡ 0 → ⊥) → unsent_number x ≡ k
      → r ≡ Err x → Passes p b n c d spacing q kept m w r q kept m w
  unfolding passed
  passes-refused {k} {x} e h i j =
      let z : eqb k 0 ≡ false = ne_eqb k 0 h in
      record {
        ended = rw (j, e, z, i);
        state = rw (j, e, z);
        written = rw (e, z);
        bytes = rw (e, z);
        memory = rw (e, z);
        room = rw (e, z);
        few = λ y. absurd (h (sym e ∙ y));
      }

  refused-board : (refusal_on p b kept m (length w) (poll 0) ≡ 0 → ⊥) → refusal_for p b n c d spacing q kept m w ≡ refusal_on p b kept m (length w) (poll 0)
  unfolding refusal_for
  refused-board h = rw (ne_eqb (refusal_on p b kept m (length w) (poll 0)) 0 h)

  -- R1 to R3
  board_number : (x : board.Refusal) → unsent_number (unsent.Board x) ≡ refusal_number {A = Unit} (Err x)
  board_number R1 = refl
  board_number R2 = refl
  board_number R3 = refl

  pub passes_unsent : {x : board.Refusal} {r : Exchanged} → Err x ≡ refused_as (refusal_on p b kept m (length w) (poll 0)) (tt {0})
      → r ≡ Err (unsent.Board x) → Passes p b n c d spacing q kept m w r q kept m w
  passes_unsent {x} e j =
      let h = some-refused (refusal_on p b kept m (length w) (poll 0)) (tt {0}) e in
      let told = ap refusal_number e ∙ number-back (refusal_on p b kept m (length w) (poll 0)) (tt {0}) (refusal-few p b kept m (length w) (poll 0)) in
      passes-refused (refused-board h) h (board_number x ∙ told) j

  module _ (e : refusal_on p b kept m (length w) (poll 0) ≡ 0) where
    pub refused_open : (state_of b kept).line.begun ≡ true → refusal_for p b n c d spacing q kept m w ≡ 6
    unfolding refusal_for
    refused_open o = rw (e, o)

    module _ (i : (state_of b kept).line.begun ≡ false) where
      pub refused_slow : full_pause p ≤ spacing → refusal_for p b n c d spacing q kept m w ≡ 7
      unfolding refusal_for
      refused_slow h = rw (e, i, le-leb (full_pause p) spacing h)

      pub refused_bench : spacing < full_pause p → refusal_for p b n c d spacing q kept m w ≡ (writes n c d q).refusal
      unfolding refusal_for
      refused_bench h = rw (e, i, lt-leb (full_pause p) spacing h)

      -- R4 and R5: the request's buffer too is as it was
      unwritten-passes : spacing < full_pause p → {k : ℕ} {q' : List ℕ} {x : Refusal} {r : Exchanged} → (k ≡ 0 → ⊥)
          → (record { refusal = k; count = 0; buffer = q' }) ≡ writes n c d q → unsent_number x ≡ k → r ≡ Err x → Passes p b n c d spacing q kept m w r q' kept m w
      unwritten-passes near {k} h y z j =
          rw (same-buffer n c d q _ k h y) (passes-refused (refused_bench near ∙ sym (ap (λ (u : meaning.Written). u.refusal) y)) h z j)

      pub passes_unwritten : spacing < full_pause p → (x : Unwritten) {q' : List ℕ} {r : Exchanged} → written_of (Err x) q' ≡ writes n c d q
          → r ≡ Err (unsent.Bench x) → Passes p b n c d spacing q kept m w r q' kept m w
      passes_unwritten near R4 y j = unwritten-passes near (eqb-false 4 0 refl) y refl j
      passes_unwritten near R5 y j = unwritten-passes near (eqb-false 5 0 refl) y refl j

  pub passes-heard : {k : ℕ} {q' : List ℕ} {r : Heard} {kept' m' w' : List ℕ} → refusal_for p b n c d spacing q kept m w ≡ 0
      → Wrote n c k d q q' → Converses p b n c d kept m w r kept' m' w' → Passes p b n c d spacing q kept m w (Ok r) q' kept' m' w'
  unfolding passed
  passes-heard e f h =
      record {
        ended = rw e h.ended;
        state = rw e h.state;
        written = rw e f.room;
        bytes = rw e h.bytes;
        memory = rw e h.memory;
        room = rw e h.room;
        few = λ y. h.few;
      }
