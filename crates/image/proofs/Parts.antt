-- The parts of a core: what its front, its frame's numbers and its places hold after a part was written, and written anew as they were. Assumes nothing.
use Prim.Native.Nat.{ℕ, zero, suc, ◌+◌, ◌<◌, ◌≤◌, ◌^◌}
use native.Mathlib.Omega.{arith}
use mathlib.Core.Path.{◌≡◌, refl, sym, ap, ◌∙◌}
use mathlib.Core.List.{List, [], ◌∷◌, ◌++◌, append-nil}
use lib.ListN.{length, take, drop, drop_of_length-le, length-take, length-drop, length-append, take-append-drop}
use lib.Seq.{take_all, take_at, drop_at, drop-drop, drop-cons, take-take, take-append-le, get_or-take, length-take-le}
use Rattle.meaning.specs.Bytes.{arg, part, put, little}
use Rattle.meaning.specs.State.{Line, none}
use Rattle.meaning.proofs.Puts.{length-put}
use Rattle.state.specs.declared.state.State.{State}
use Rattle.state.specs.State.{state_with}
use Rattle.line.specs.declared.characters.OpenFrame.{OpenFrame}
use Rattle.line.specs.Line.{line_of, Fits, Extends}
use Rattle.wire.specs.Numbers.{low3, low4}
use Rattle.image.specs.Image.{state_in, frame_in, kept_in, state_bytes, line_bytes}
use Rattle.image.specs.Writes.{frame_row, frame_bytes, Takes, PutsState, PutsFrame, PutsBoard}
use Rattle.image.proofs.Numbers.{lowest, three_lowest, four-lowest, there_again}
use Rattle.image.proofs.Standing.{places, flag_back, line_row, frame_again}

-- the state is read from the front alone
-- a part of the front
pub front-part : (k i n : ℕ) (s : List ℕ) → i + n ≤ k → part (take k s) i n ≡ part s i n
unfolding part
front-part k zero n s h = take-take n k s (omega arith)
front-part zero (suc i) n s h = absurd (omega arith)
front-part (suc k) (suc i) n [] h = refl
front-part (suc k) (suc i) n (x ∷ s) h = front-part k i n s (omega arith)

pub state-front : (core : List ℕ) → state_in (take 21 core) ≡ state_in core
unfolding state_in
state-front core =
    let front : (i : ℕ) → i < 21 → arg (take 21 core) i ≡ arg core i = λ i h. get_or-take 21 core i 0 h in
    rw (
      front-part 21 4 3 core (omega arith),
      front-part 21 8 4 core (omega arith),
      front-part 21 12 4 core (omega arith),
      front 0 (omega arith),
      front 1 (omega arith),
      front 2 (omega arith),
      front 3 (omega arith),
      front 7 (omega arith),
      front 16 (omega arith),
      front 17 (omega arith),
      front 18 (omega arith),
      front 19 (omega arith),
      front 20 (omega arith),
    )

pub same-front : (a b : List ℕ) → take 21 a ≡ take 21 b → state_in a ≡ state_in b
same-front a b e = sym (state-front a) ∙ ap state_in e ∙ state-front b

-- a core of a front, nine bytes of numbers and 135 places
module _ (front nine kept : List ℕ) (a : length front ≡ 21) (b : length nine ≡ 9) (c : length kept ≡ 135) where
  pub whole_length_lem : length (front ++ (nine ++ kept)) ≡ 165
  whole_length_lem = simp length-append (omega arith)

  pub whole-front : take 21 (front ++ (nine ++ kept)) ≡ front
  whole-front = take_at front (nine ++ kept) 21 a

  pub whole-rest : drop 30 (front ++ (nine ++ kept)) ≡ kept
  whole-rest =
      sym (drop-drop 9 21 (front ++ (nine ++ kept))) ∙ ap (drop 9) (drop_at front (nine ++ kept) 21 a) ∙ drop_at nine kept 9 b

  pub whole-kept : kept_in (front ++ (nine ++ kept)) ≡ kept
  whole-kept = ap (take 135) whole-rest ∙ take_all 135 kept (omega arith)

-- a core of the right length
module _ (core : List ℕ) (all : length core ≡ 165) where
  pub front_length : length (take 21 core) ≡ 21
  front_length = length-take-le 21 core (omega arith)

  pub kept-length : length (kept_in core) ≡ 135
  kept-length = length-take-le 135 (drop 30 core) (rw length-drop (omega arith))

  no_more : drop 135 (drop 30 core) ≡ []
  no_more = drop-drop 135 30 core ∙ drop_of_length-le core {i = 165} (omega arith)

  -- the places are lent and come back, then the frame's numbers are written
  module _ (kept nine : List ℕ) (c : length kept ≡ 135) (b : length nine ≡ 9) where
    pub renewed : put (take 30 core ++ (kept ++ drop 135 (drop 30 core))) 21 nine ≡ take 21 core ++ (nine ++ kept)
    unfolding put
    renewed =
        let h : length (take 30 core) ≡ 30 = length-take-le 30 core (omega arith) in
        let f : take 21 (take 30 core ++ (kept ++ [])) ≡ take 21 core =
        take-append-le 21 (take 30 core) (kept ++ []) (omega arith) ∙ take-take 21 30 core (omega arith) in
        let d : drop 30 (take 30 core ++ (kept ++ [])) ≡ kept = drop_at (take 30 core) (kept ++ []) 30 h ∙ append-nil kept in
        rw (no_more, b, f, d)

pub line-length : (l : Line) → length (line_bytes l) ≡ 9
unfolding line_bytes
line-length l = refl

pub takes : (core : List ℕ) (l : Line) {r : OpenFrame} {kept core' : List ℕ} → length core ≡ 165 → Extends l (kept_in core) r kept
    → PutsFrame r (take 30 core ++ (kept ++ drop 135 (drop 30 core))) core' → Takes l core core'
takes core l {r} {kept} {core'} all x q =
    let few : length l.kept ≤ 135 = rw (← ap (λ (y : Line). length y.kept) x.line) (rw length-take (omega (arith, x.few))) in
    let k : length (kept_in core) ≡ 135 = kept-length core all in
    let c : length kept ≡ 135 = ap length x.bytes ∙ length-put (kept_in core) 0 l.kept (omega arith) ∙ k in
    let n : length (line_bytes l) ≡ 9 = line-length l in
    let b : frame_bytes r ≡ line_bytes l = sym (line_row r kept (record { few = x.few; all = c })) ∙ ap line_bytes x.line in
    let w : core' ≡ take 21 core ++ (line_bytes l ++ kept) =
    q.bytes ∙ ap (put (take 30 core ++ (kept ++ drop 135 (drop 30 core))) 21) b ∙ renewed core all kept (line_bytes l) c n in
    let y : kept_in core' ≡ kept = ap kept_in w ∙ whole-kept (take 21 core) (line_bytes l) kept (front_length core all) n c in
    record {
      bytes = w ∙ ap (λ (z : List ℕ). take 21 core ++ (line_bytes l ++ z)) x.bytes;
      holds = rw (q.holds, y) x.line;
    }

-- a core whose frame's numbers and kept bytes are those of l
pub takes_of : (core : List ℕ) (l : Line) {f : OpenFrame} {kept core' : List ℕ} → length core ≡ 165 → f.last < 2 ^ 32
    → Extends l (kept_in core) f kept → length kept ≡ 135 → core' ≡ take 21 core ++ (line_bytes l ++ kept) → Takes l core core'
unfolding put
takes_of core l {f} {kept} {core'} all k x c e =
    let front : List ℕ = take 21 core in
    let nine : List ℕ = line_bytes l in
    let a : length front ≡ 21 = front_length core all in
    let b : length nine ≡ 9 = line-length l in
    let fits : Fits f kept = record { few = x.few; all = c } in
    let r : nine ≡ frame_bytes f =
    sym (ap line_bytes x.line) ∙ line_row f kept fits in
    let w : put (front ++ (nine ++ kept)) 21 nine ≡ front ++ (nine ++ kept) = rw (b, whole-front front nine kept a b c, whole-rest front nine kept a b c) in
    let g : frame_in core' ≡ f =
    ap frame_in (e ∙ sym w ∙ ap (put (front ++ (nine ++ kept)) 21) r) ∙ frame_again f (front ++ (nine ++ kept)) (omega (arith, whole_length_lem front nine kept a b c)) k in
    let y : kept_in core' ≡ kept = ap kept_in e ∙ whole-kept front nine kept a b c in
    record { bytes = e ∙ ap (λ (z : List ℕ). front ++ (nine ++ z)) x.bytes; holds = rw (g, y) x.line }

pub state-length : (s : State) (l : Line) → length (state_bytes (state_with s l)) ≡ 21
unfolding state_bytes
state-length s l = refl

frame-length : (f : OpenFrame) → length (frame_bytes f) ≡ 9
unfolding frame_row
frame-length f = refl

put_first : (s : State) (core : List ℕ) (l : Line) {m : List ℕ} → m ≡ put core 0 (state_bytes (state_with s l)) → m ≡ state_bytes (state_with s l) ++ drop 21 core
unfolding put
put_first s core l e = e ∙ rw (state-length s l)

-- state and numbers are written one after the other
pub puts_board : (s : State) (f : OpenFrame) (core : List ℕ) {m core' : List ℕ} → length core ≡ 165 → PutsState s core m → PutsFrame f m core'
    → PutsBoard s f core core'
unfolding put
puts_board s f core {m} {core'} all a b =
    let k : length (kept_in core) ≡ 135 = kept-length core all in
    let n : length (frame_bytes f) ≡ 9 = frame-length f in
    let rest : kept_in core ≡ drop 30 core = take_all 135 (drop 30 core) (rw length-drop (omega arith)) in
    let w : (l : Line) → core' ≡ state_bytes (state_with s l) ++ (frame_bytes f ++ kept_in core) = λ l.
    let z : length (state_bytes (state_with s l)) ≡ 21 = state-length s l in
    let e : m ≡ state_bytes (state_with s l) ++ drop 21 core = put_first s core l (a.bytes l) in
    let t : take 21 m ≡ state_bytes (state_with s l) = ap (take 21) e ∙ take_at (state_bytes (state_with s l)) (drop 21 core) 21 z in
    let d : drop 30 m ≡ kept_in core =
    sym (drop-drop 9 21 m) ∙ ap (λ (x : List ℕ). drop 9 (drop 21 x)) e ∙ ap (drop 9) (drop_at (state_bytes (state_with s l)) (drop 21 core) 21 z) ∙ drop-drop 9 21 core ∙ sym rest in
    b.bytes ∙ rw (n, t, d) in
    let z : length (state_bytes (state_with s none)) ≡ 21 = state-length s none in
    let t : take 21 core' ≡ state_bytes (state_with s none) = ap (take 21) (w none) ∙ whole-front (state_bytes (state_with s none)) (frame_bytes f) (kept_in core) z n k in
    let u : take 21 m ≡ state_bytes (state_with s none) = ap (take 21) (put_first s core none (a.bytes none)) ∙ take_at (state_bytes (state_with s none)) (drop 21 core) 21 z in
    record {
      bytes = w;
      state = same-front core' m (t ∙ sym u) ∙ a.holds;
      frame = b.holds;
      kept = ap kept_in (w none) ∙ whole-kept (state_bytes (state_with s none)) (frame_bytes f) (kept_in core) z n k;
    }

-- ---- a core's own bytes, written anew
cells : List ℕ → ℕ → ℕ → List ℕ
cells m i zero = []
cells m i (suc n) = arg m i ∷ cells m (suc i) n

cells_are : (m : List ℕ) (i n : ℕ) → i + n ≤ length m → take n (drop i m) ≡ cells m i n
unfolding cells
cells_are m i zero h = refl
cells_are m i (suc n) h = rw (drop-cons m i 0 (omega arith)) (ap (λ (r : List ℕ). arg m i ∷ r) (cells_are m (suc i) n (omega arith)))

pub parts_joined : (core : List ℕ) → length core ≡ 165 → take 21 core ++ (part core 21 9 ++ kept_in core) ≡ core
unfolding part
parts_joined core all =
    let k : kept_in core ≡ drop 9 (drop 21 core) = take_all 135 (drop 30 core) (rw length-drop (omega arith)) ∙ sym (drop-drop 9 21 core) in
    rw (k, take-append-drop 9 (drop 21 core)) (take-append-drop 21 core)

pub laid_out : (core : List ℕ) → length core ≡ 165
    → core ≡ take 21 core ++ (arg core 21 ∷ arg core 22 ∷ arg core 23 ∷ arg core 24 ∷ arg core 25 ∷ arg core 26 ∷ arg core 27 ∷ arg core 28 ∷ arg core 29 ∷ kept_in core)
unfolding part cells
laid_out core all = sym (parts_joined core all) ∙ ap (λ (x : List ℕ). take 21 core ++ (x ++ kept_in core)) (cells_are core 21 9 (omega arith))

-- of a core's own bytes
module _ (core : List ℕ) (all : length core ≡ 165) (small : (i : ℕ) → arg core i < 256) where
  lowest-there : (i n : ℕ) → i + n ≤ 165 → (rest : List ℕ) → lowest n (little (part core i n)) ++ rest ≡ cells core i n ++ rest
  unfolding part
  lowest-there i n h rest = ap (λ (x : List ℕ). x ++ rest) (there_again core small i n (omega arith) ∙ cells_are core i n (omega arith))

  low_3 : (i : ℕ) → i + 3 ≤ 165 → (rest : List ℕ) → low3 (little (part core i 3)) rest ≡ cells core i 3 ++ rest
  low_3 i h rest = three_lowest (little (part core i 3)) rest ∙ lowest-there i 3 h rest

  low_4 : (i : ℕ) → i + 4 ≤ 165 → (rest : List ℕ) → low4 (little (part core i 4)) rest ≡ cells core i 4 ++ rest
  low_4 i h rest = four-lowest (little (part core i 4)) rest ∙ lowest-there i 4 h rest

  pub state_as_it_was : arg core 20 ≤ 1 → (l : Line) → state_bytes (state_with (state_in core) l) ≡ take 21 core
  unfolding state_bytes state_in cells
  state_as_it_was f l =
      let q = places (state_in core).faults in
      rw (q.first, q.second, q.third, q.fourth, flag_back (arg core 20) f, low_4 12 (omega arith), low_4 8 (omega arith), low_3 4 (omega arith)) (sym (cells_are core 0 21 (omega arith)))

  pub frame_as_it_was : arg core 21 ≤ 1 → arg core 22 ≤ 1 → arg core 23 ≤ 1 → (kept : List ℕ) → length kept ≡ 135 → arg core 29 ≤ 135
      → line_bytes (line_of (frame_in core) kept) ≡ part core 21 9
  unfolding line_bytes frame_in cells part
  frame_as_it_was f g h kept k n =
      rw (flag_back (arg core 21) f, flag_back (arg core 22) g, flag_back (arg core 23) h, length-take-le (arg core 29) kept (omega arith), low_4 24 (omega arith))
      (sym (cells_are core 21 9 (omega arith)))
