-- An image is its head and its core: what a call of the core leaves of the image. Assumes nothing.
use Prim.Native.Nat.{ℕ, ◌+◌, ◌<◌}
use native.Mathlib.Omega.{arith}
use mathlib.Core.Path.{◌≡◌, refl, sym, ap, ap₂, ◌∙◌}
use mathlib.Core.Bool.{Bool, true, false}
use mathlib.Core.List.{List, ◌++◌, append-nil}
use borrow.Author.Tests.{eqb-true}
use lib.Dec.{eqb}
use lib.ListN.{length, take, drop, length-append, length-drop, drop_of_length-le, take-append-drop}
use lib.Seq.{take_all, take_at, drop-drop, drop_at, drop-append-le, get_or-take, get_or-drop, length-take-le}
use Rattle.meaning.specs.Bytes.{pick, arg, part}
use Rattle.meaning.specs.Run.{Call, Held}
use Rattle.meaning.proofs.Choices.{both_left, both_right}
use Rattle.line.specs.declared.plate.Plate as line
use Rattle.line.specs.Line.{plate_of}
use Rattle.image.specs.Image.{is_ours, is_core, head_in, core_in, plate_of_head, label_in, kept_in, core_of}
use Rattle.image.proofs.Round.{core_as_it_was}
use Rattle.quicksetter.specs.Calls.{is_image, plate_held, state_held, called_by, call_number, image_after, Called}
use Rattle.quicksetter.specs.Cores.{core_called, core_after, CoreCalled}

pub ours-length : (img : List ℕ) → is_ours img ≡ true → length img ≡ 212
unfolding is_ours
ours-length img e = eqb-true (length img) 212 (both_left (eqb (length img) 212) _ e)

pub head_length_lem : (img : List ℕ) → length img ≡ 212 → length (head_in img) ≡ 47
head_length_lem img all = length-take-le 47 img (omega arith)

pub core_of-whole : (img core : List ℕ) → length img ≡ 212 → core_in (head_in img ++ core) ≡ core
core_of-whole img core all = drop_at (head_in img) core 47 (head_length_lem img all)

pub lent-core : (img : List ℕ) → length img ≡ 212 → take 165 (drop 47 img) ≡ core_in img
lent-core img all = take_all 165 (drop 47 img) (rw length-drop (omega arith))

pub core-back : (img core : List ℕ) → length img ≡ 212 → take 47 img ++ (core ++ drop 165 (drop 47 img)) ≡ head_in img ++ core
core-back img core all =
    ap (λ (x : List ℕ). take 47 img ++ (core ++ x)) (drop-drop 165 47 img ∙ drop_of_length-le img {i = 212} (omega arith)) ∙ ap (λ (x : List ℕ). take 47 img ++ x) (append-nil core)

pub ours-label : (img : List ℕ) → is_ours img ≡ true → length (label_in img) ≡ 41
unfolding part
ours-label img e = length-take-le 41 (drop 6 img) (rw (length-drop, ours-length img e) (omega arith))

-- plate and layout number are read from the head alone
numbers_front : (img : List ℕ) → plate_of_head (head_in img) ≡ plate_of_head img
unfolding plate_of_head
numbers_front img =
    let front : (i : ℕ) → i < 47 → arg (head_in img) i ≡ arg img i = λ i h. get_or-take 47 img i 0 h in
    rw (front 1 (omega arith), front 2 (omega arith), front 3 (omega arith), front 4 (omega arith), front 5 (omega arith))

pub label_in-head : (head core : List ℕ) → length head ≡ 47 → label_in (head ++ core) ≡ drop 6 head
unfolding part
label_in-head head core n =
    ap (take 41) (drop-append-le 6 head core (omega arith)) ∙ take_at (drop 6 head) core 41 (length-drop 6 head ∙ omega arith)

module _ (img core : List ℕ) (all : length img ≡ 212) where
  head_of-whole : head_in (head_in img ++ core) ≡ head_in img
  head_of-whole = take_at (head_in img) core 47 (head_length_lem img all)

  numbers_stay : plate_of_head (head_in img ++ core) ≡ plate_of_head img
  numbers_stay = sym (numbers_front (head_in img ++ core)) ∙ ap plate_of_head head_of-whole ∙ numbers_front img

  label_stays : label_in (head_in img ++ core) ≡ label_in img
  label_stays =
      label_in-head (head_in img) core (head_length_lem img all) ∙ sym (label_in-head (head_in img) (core_in img) (head_length_lem img all)) ∙ ap label_in (take-append-drop 47 img)

  pub plate_stays : plate_held (head_in img ++ core) ≡ plate_held img
  plate_stays = ap₂ plate_of numbers_stay label_stays

  layout_stays : arg (head_in img ++ core) 0 ≡ arg img 0
  layout_stays =
      sym (get_or-take 47 (head_in img ++ core) 0 0 (omega arith)) ∙ ap (λ (x : List ℕ). arg x 0) head_of-whole ∙ get_or-take 47 img 0 0 (omega arith)

pub still-ours : (img core : List ℕ) → is_ours img ≡ true → length core ≡ 165 → is_ours (head_in img ++ core) ≡ true
unfolding is_ours
still-ours img core e n =
    let all : length img ≡ 212 = ours-length img e in
    let k : length (head_in img ++ core) ≡ 212 = length-append (head_in img) core ∙ rw (head_length_lem img all, n) in
    let l : eqb (arg img 0) 2 ≡ true = both_right (eqb (length img) 212) (eqb (arg img 0) 2) e in
    rw (k, layout_stays img core all, l)

-- the core of an image of bytes, and the one that is lent
pub core-small : (img : List ℕ) → ((i : ℕ) → arg img i < 256) → (i : ℕ) → arg (core_in img) i < 256
core-small img small i = rw (get_or-drop 47 img i 0) (small (47 + i))

pub lent-small : (img : List ℕ) → is_ours img ≡ true → ((i : ℕ) → arg img i < 256) → (i : ℕ) → arg (take 165 (drop 47 img)) i < 256
lent-small img e small i = rw (lent-core img (ours-length img e)) (core-small img small i)

-- an image's own bytes: what it holds is written back as it was
pub whole_as_it_was : (img : List ℕ) → is_image img ≡ true → ((i : ℕ) → arg img i < 256) → head_in img ++ core_of (state_held img) (kept_in (core_in img)) ≡ img
unfolding is_image
whole_as_it_was img e small =
    let c : is_core (core_in img) ≡ true = both_right (is_ours img) (is_core (core_in img)) e in
    ap (λ (x : List ℕ). head_in img ++ x) (core_as_it_was (core_in img) c (core-small img small)) ∙ take-append-drop 47 img

module _ (img m w : List ℕ) (g : Call) where
  -- R1 of another length or another layout
  pub not_ours : is_ours img ≡ false → Called img m w g 257 img m w
  unfolding called_by call_number image_after is_image
  not_ours e = record { answer = rw e; state = rw e; image = rw e; memory = rw e; room = rw e }

  pub same-call : is_ours img ≡ true → called_by img m w g ≡ core_called (plate_held img) (core_in img) m w g
  unfolding called_by core_called is_image
  same-call e = rw e

  -- the head stays before the core that the call leaves
  head_stays : (h : Held) → head_in img ++ core_after (core_in img) h ≡ image_after img h
  unfolding core_after image_after
  head_stays h = go (eqb h.refusal 0)
    where
      go : (b : Bool) → head_in img ++ pick b (core_of h.state (kept_in (core_in img))) (core_in img) ≡ pick b (head_in img ++ core_of h.state (kept_in (core_in img))) img
      go true = refl
      go false = take-append-drop 47 img

  pub called_of : {r : ℕ} {core' img' m' w' : List ℕ} → is_ours img ≡ true → CoreCalled (plate_held img) (core_in img) m w g r core' m' w' → img' ≡ head_in img ++ core'
      → Called img m w g r img' m' w'
  called_of {core' = core'} {img' = img'} e c i =
      let k = same-call e in
      let d : core_in img' ≡ core' = ap core_in i ∙ core_of-whole img core' (ours-length img e) in
      record {
        answer = rw k c.answer;
        state = rw (k, d) c.state;
        image = rw k (i ∙ ap (λ (x : List ℕ). head_in img ++ x) c.bytes ∙ head_stays (core_called (plate_held img) (core_in img) m w g));
        memory = rw k c.memory;
        room = rw k c.room;
      }

  -- the core is lent and comes back
  pub called-whole : {p : line.Plate} {r : ℕ} {core' m' w' : List ℕ} → is_ours img ≡ true → p ≡ plate_of_head img → CoreCalled (plate_of p (label_in img)) (take 165 (drop 47 img)) m w g r core' m' w'
      → Called img m w g r (take 47 img ++ (core' ++ drop 165 (drop 47 img))) m' w'
  called-whole {p} {r} {core'} {m'} {w'} e q lent =
      let all : length img ≡ 212 = ours-length img e in
      let c : CoreCalled (plate_held img) (core_in img) m w g r core' m' w' = rw (q, lent-core img all) at lent in
      called_of e c (core-back img core' all)
