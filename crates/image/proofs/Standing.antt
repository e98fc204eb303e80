-- What stands where in a core: the waiting codes, numbers and flags, written and read again. Assumes nothing.
use Prim.Native.Nat.{ℕ, zero, suc, ◌+◌, ◌<◌, ◌≤◌, ◌^◌}
use native.Mathlib.Omega.{arith}
use native.Mathlib.Nat.{zero-add}
use mathlib.Core.Path.{◌≡◌, refl, ap, ◌∙◌}
use mathlib.Core.Bool.{Bool, true, false}
use mathlib.Core.List.{List, [], ◌∷◌, ◌++◌, append-nil}
use lib.Dec.{eqb}
use lib.ListN.{length, take, drop, drop_of_length-le, length-drop}
use lib.Seq.{drop-drop, length-take-le}
use Rattle.std.specs.Int.{from_bool}
use Rattle.meaning.specs.Bytes.{arg, part, pick, put}
use Rattle.meaning.specs.State.{Line, last_count, none}
use Rattle.meaning.proofs.Puts.{put-at}
use Rattle.wire.proofs.Numbers.{little-at}
use Rattle.state.specs.declared.faults.Faults.{Faults}
use Rattle.state.specs.declared.state.State.{State}
use Rattle.state.specs.Queue.{waiting, queue_of}
use Rattle.state.specs.State.{state_with}
use Rattle.line.specs.declared.characters.OpenFrame.{OpenFrame}
use Rattle.line.specs.Line.{line_of, Fits}
use Rattle.wire.specs.Numbers.{low4}
use Rattle.image.specs.Image.{flag_byte, state_in, state_bytes, frame_in, line_bytes}
use Rattle.image.specs.Writes.{frame_row, frame_bytes, PutsState, PutsFrame}
use Rattle.state.proofs.Places.{front}
use Rattle.image.proofs.Numbers.{count_again, number_again}

later-place : (c i : ℕ) (q : List ℕ) → arg (waiting c q) (suc i) ≡ arg q i
unfolding waiting
later-place c i [] = go (eqb c 0)
  where
    go : (t : Bool) → arg (pick t [] (c ∷ [])) (suc i) ≡ arg [] i
    go true = refl
    go false = refl
later-place c i (x ∷ q) = refl

-- the four places of a queue, 00h past its codes
pub record Places (f : Faults) : Type 0 where
  pub first : arg (queue_of f) 0 ≡ f.first
  pub second : arg (queue_of f) 1 ≡ f.second
  pub third : arg (queue_of f) 2 ≡ f.third
  pub fourth : arg (queue_of f) 3 ≡ f.fourth

pub places : (f : Faults) → Places f
unfolding queue_of
places f =
    record {
      first = front f.first _;
      second = later-place f.first 0 _ ∙ front f.second _;
      third = later-place f.first 1 _ ∙ later-place f.second 0 _ ∙ front f.third _;
      fourth = later-place f.first 2 _ ∙ later-place f.second 1 _ ∙ later-place f.third 0 _ ∙ front f.fourth _;
    }

pub flag_of : (t : Bool) → from_bool t ≡ flag_byte t
unfolding flag_byte
flag_of true = refl
flag_of false = refl

pub flag_again : (t : Bool) → eqb (flag_byte t) 1 ≡ t
unfolding flag_byte
flag_again true = refl
flag_again false = refl

pub flag_back : (b : ℕ) → b ≤ 1 → flag_byte (eqb b 1) ≡ b
unfolding flag_byte
flag_back zero h = refl
flag_back (suc zero) h = refl
flag_back (suc (suc b)) h = absurd (omega arith)

codes_again : (l : List ℕ) → length l ≡ 4 → arg l 0 ∷ arg l 1 ∷ arg l 2 ∷ arg l 3 ∷ [] ≡ l
codes_again [] e = absurd (omega arith)
codes_again (a ∷ []) e = absurd (omega arith)
codes_again (a ∷ b ∷ []) e = absurd (omega arith)
codes_again (a ∷ b ∷ c ∷ []) e = absurd (omega arith)
codes_again (a ∷ b ∷ c ∷ d ∷ []) e = refl
codes_again (a ∷ b ∷ c ∷ d ∷ x ∷ l) e = absurd (omega arith)

-- the row of a state, its flag as a byte and its numbers as theirs
pub state-row : (s : State) (l : Line) {k : ℕ} {a b c : List ℕ} → k ≡ flag_byte s.faults.locked → a ≡ low4 s.counter [] → b ≡ low4 s.offset [] → c ≡ low4 s.measured []
    → ◌≡◌ {A = List ℕ} (arg s.codes 0 ∷ arg s.codes 1 ∷ arg s.codes 2 ∷ arg s.codes 3
    ∷ arg a 0 ∷ arg a 1 ∷ arg a 2 ∷ s.address ∷ arg b 0 ∷ arg b 1 ∷ arg b 2 ∷ arg b 3 ∷ arg c 0 ∷ arg c 1 ∷ arg c 2 ∷ arg c 3
    ∷ s.faults.first ∷ s.faults.second ∷ s.faults.third ∷ s.faults.fourth ∷ k ∷ [])
    (state_bytes (state_with s l))
unfolding state_bytes
state-row s l e x y z = let q = places s.faults in rw (e, x, y, z, q.first, q.second, q.third, q.fourth)

-- a state within its types, its counter within three bytes, is written and read again
pub record Typed (s : State) : Type 0 where
  pub codes : length s.codes ≡ 4
  pub counter : s.counter ≤ last_count
  pub offset : s.offset < 2 ^ 32
  pub measured : s.measured < 2 ^ 32

pub state-first : (s : State) (rest : List ℕ) (l : Line) → Typed s → state_in (state_bytes (state_with s l) ++ rest) ≡ s
unfolding state_in state_bytes part
state-first s rest l t =
    let q = places s.faults in
    rw (
      q.first,
      q.second,
      q.third,
      q.fourth,
      flag_again,
      codes_again s.codes t.codes,
      count_again s.counter t.counter,
      number_again s.offset t.offset,
      number_again s.measured t.measured,
    )

state_again : (s : State) (core : List ℕ) (l : Line) → Typed s → state_in (put core 0 (state_bytes (state_with s l))) ≡ s
unfolding put
state_again s core l t = state-first s _ l t

pub puts_state : (s : State) (core : List ℕ) {row core' : List ℕ} → Typed s → ((l : Line) → row ≡ state_bytes (state_with s l)) → core' ≡ put core 0 row → PutsState s core core'
puts_state s core t q e =
    record {
      bytes = λ l. e ∙ ap (put core 0) (q l);
      holds = ap state_in (e ∙ ap (put core 0) (q none)) ∙ state_again s core none t;
    }

-- a part that was lent and comes back whole
pub lent-part : (xs : List ℕ) (i n : ℕ) (ys : List ℕ) → length ys ≡ n → take i xs ++ (ys ++ drop n (drop i xs)) ≡ put xs i ys
unfolding put
lent-part xs i n ys e = rw (e, drop-drop n i xs)

pub put_whole : (m bs : List ℕ) → length m ≤ length bs → put m 0 bs ≡ bs
unfolding put
put_whole m bs h = rw (zero-add, drop_of_length-le m h) (append-nil bs)

pub frame_again : (f : OpenFrame) (core : List ℕ) → 30 ≤ length core → f.last < 2 ^ 32
    → frame_in (put core 21 (frame_bytes f)) ≡ f
unfolding frame_in frame_row
frame_again f core h k =
    let row : List ℕ = flag_byte f.begun ∷ flag_byte f.longer ∷ flag_byte f.parity ∷ low4 f.last (f.sum ∷ f.len ∷ []) in
    let at : (j : ℕ) → j < 9 → arg (put core 21 row) (21 + j) ≡ arg row j = λ j l. put-at core 21 row (omega arith) j l in
    rw (
      little-at (put core 21 row) 24,
      at 0 (omega arith),
      at 1 (omega arith),
      at 2 (omega arith),
      at 3 (omega arith),
      at 4 (omega arith),
      at 5 (omega arith),
      at 6 (omega arith),
      at 7 (omega arith),
      at 8 (omega arith),
      flag_again
          f.begun,
      flag_again f.longer,
      flag_again f.parity,
      number_again f.last k,
    )

pub line_row : (f : OpenFrame) (kept : List ℕ) → Fits f kept
    → line_bytes (line_of f kept) ≡ frame_bytes f
unfolding frame_row line_bytes
line_row f kept fits = rw (length-take-le f.len kept (omega (arith, fits.few, fits.all)))

-- a part that was lent, and filled whole
pub part_filled : (core : List ℕ) (i n : ℕ) (row : List ℕ) {after : List ℕ} → i + n ≤ length core → length row ≡ n
    → after ≡ put (take n (drop i core)) 0 row → take i core ++ (after ++ drop n (drop i core)) ≡ put core i row
part_filled core i n row {after} h l e =
    let m : length (take n (drop i core)) ≡ n = length-take-le n (drop i core) (rw length-drop (omega arith)) in
    let w : after ≡ row = e ∙ put_whole (take n (drop i core)) row (omega arith) in
    rw w (lent-part core i n row l)

pub puts_frame : (f : OpenFrame) (core : List ℕ) {a b d : ℕ} {t after : List ℕ} → 30 ≤ length core → f.last < 2 ^ 32
    → a ≡ flag_byte f.begun → b ≡ flag_byte f.longer → d ≡ flag_byte f.parity → t ≡ low4 f.last []
    → after ≡ put (take 9 (drop 21 core)) 0 (a ∷ b ∷ d ∷ arg t 0 ∷ arg t 1 ∷ arg t 2 ∷ arg t 3 ∷ f.sum ∷ f.len ∷ [])
    → PutsFrame f core (take 21 core ++ (after ++ drop 9 (drop 21 core)))
unfolding frame_row
puts_frame f core {a} {b} {d} {t} {after} h k ea eb ed et e =
    let row : List ℕ = a ∷ b ∷ d ∷ arg t 0 ∷ arg t 1 ∷ arg t 2 ∷ arg t 3 ∷ f.sum ∷ f.len ∷ [] in
    let r : row ≡ frame_bytes f = rw (ea, eb, ed, et) in
    let z : take 21 core ++ (after ++ drop 9 (drop 21 core)) ≡ put core 21 row = part_filled core 21 9 row h (ap length r) e in
    let q : take 21 core ++ (after ++ drop 9 (drop 21 core)) ≡ put core 21 (frame_bytes f) = z ∙ ap (put core 21) r in
    record { bytes = q; holds = ap frame_in q ∙ frame_again f core h k }
