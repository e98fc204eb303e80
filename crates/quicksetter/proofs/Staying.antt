-- A host that starts fresh and only calls, or restarts from what lasted, holds an image within the limits, and is never refused (demand 1). Assumes nothing.
use Prim.Native.Nat.{ℕ, ◌≤◌, ◌^◌}
use native.Mathlib.Omega.{arith}
use native.Mathlib.Nat.{pow-le-pow_right, zero-lt-suc}
use mathlib.Core.Path.{◌≡◌, refl, sym, ap, subst, ◌∙◌}
use mathlib.Core.Bool.{Bool, true, false, false≢true}
use mathlib.Core.List.{List, ◌++◌}
use borrow.Author.Tests.{eq-eqb, le-leb, le-ltb, leb-true, ltb-true}
use lib.Dec.{T, eqb, leb, ltb}
use lib.ListN.{length, length-append}
use Rattle.meaning.specs.Bytes.{pick, both, put, zeros}
use Rattle.meaning.specs.State as meaning
use Rattle.meaning.specs.State.{Plate, plate_ok, state_ok, fresh, none}
use Rattle.meaning.specs.Fields.{memory_length}
use Rattle.meaning.specs.Run.{Call, step, lends, refused_by}
use Rattle.meaning.specs.Demands.{Served}
use Rattle.meaning.proofs.Calls.{served_otherwise}
use Rattle.meaning.proofs.Choices.{told-true, true-told, pick_same, both_left, both_right}
use Rattle.meaning.proofs.Limits.{to_lim, keeps_limits, replies_fit}
use Rattle.meaning.proofs.Sizes.{keeps_size}
use Rattle.meaning.proofs.Puts.{length-put}
use Rattle.meaning.proofs.Plates.{few_bits}
use Rattle.image.specs.Image.{flag_byte, flags_ok, is_ours, is_core, head_in, core_in, held_in, kept_in, rested_in, state_bytes, line_bytes, head_of, core_of}
use Rattle.image.proofs.Standing.{Typed}
use Rattle.image.proofs.Parts.{kept-length}
use Rattle.image.proofs.Round.{good}
use Rattle.quicksetter.specs.Calls.{is_image, plate_held, state_held, lasting_of, called_by, image_after, image_of, start_ok, rested, restart_ok, Called, Makes, Freshens, Restarts}
use Rattle.quicksetter.specs.Promises.{Reached, start, next, off, QsNeverRefused}
use Rattle.quicksetter.proofs.Heads.{ours-length, core_of-whole, plate_stays, still-ours}
use Rattle.quicksetter.proofs.Starting.{nothing-long, head-whole, fresh_holds, made_holds, plate_again, core_again}
use Rattle.quicksetter.proofs.Theorems.{on_image, qs_steps}

flag_small : (b : Bool) → leb (flag_byte b) 1 ≡ true
unfolding flag_byte
flag_small true = refl
flag_small false = refl

-- the bytes of a state over 135 places are a core
pub core_of-state : (s : meaning.State) (places : List ℕ) → length places ≡ 135 → length s.line.kept ≤ 135 → is_core (core_of s places) ≡ true
unfolding is_core core_of state_bytes line_bytes flags_ok
core_of-state s places e h =
    let n : length (put places 0 s.line.kept) ≡ 135 = length-put places 0 s.line.kept (omega arith) ∙ e in
    rw (n, flag_small s.locked, flag_small s.line.begun, flag_small s.line.longer, flag_small s.line.parity, le-leb (length s.line.kept) 135 h)

-- plate, image, state and memory are within their limits
pub record Holds (p : Plate) (img m : List ℕ) : Type 0 where
  pub plate : plate_ok p ≡ true
  pub told : plate_held img ≡ p
  pub image : is_image img ≡ true
  pub state : state_ok p (state_held img) ≡ true
  pub size : length m ≡ memory_length p.total

pub unrefused : (p : Plate) (img m : List ℕ) (n : ℕ) (g : Call) → Holds p img m → 134 ≤ n → refused_by p (state_held img) m n g ≡ 0
unfolding refused_by
unrefused p img m n g h wide = rw (h.plate, h.state, eq-eqb (length m) (memory_length p.total) h.size, le-ltb n 134 wide) (pick_same (lends g) 0)

-- .. by the plate that the image holds
pub free_so : (p : Plate) (img m w : List ℕ) (g : Call) → Holds p img m → 134 ≤ length w → refused_by (plate_held img) (state_held img) m (length w) g ≡ 0
free_so p img m w g h wide = subst (λ (q : Plate). refused_by q (state_held img) m (length w) g ≡ 0) (sym h.told) (unrefused p img m (length w) g h wide)

-- an image that was made
pub was_made : (b : Bool) → ◌≡◌ {A = ℕ} 0 (pick b 0 257) → b ≡ true
was_made true e = refl
was_made false e = absurd (false≢true (ap (λ (n : ℕ). eqb n 257) e))

-- the head of a plate before a core
whole-image : (p : Plate) (s : meaning.State) → plate_ok p ≡ true → length s.line.kept ≤ 135 → is_image (image_of p s (zeros 135)) ≡ true
unfolding is_image is_ours image_of head_of
whole-image p s ok few =
    let c : is_core (core_of s (zeros 135)) ≡ true = core_of-state s (zeros 135) nothing-long few in
    let n : length (core_of s (zeros 135)) ≡ 165 = (good (core_of s (zeros 135)) c).all in
    let l : length (head_of p ++ core_of s (zeros 135)) ≡ 212 = length-append (head_of p) (core_of s (zeros 135)) ∙ rw (head-whole p ok, n) in
    let k : core_in (head_of p ++ core_of s (zeros 135)) ≡ core_of s (zeros 135) = core_again p s (zeros 135) ok in
    rw (k, l, c)

-- a made image holds what it was made of
made : (p : Plate) (s : meaning.State) (old img m : List ℕ) → Makes p s old 0 img → held_in (core_of s (zeros 135)) ≡ s → length s.line.kept ≤ 135
    → length m ≡ memory_length p.total → Holds p img m
unfolding start_ok
made p s old img m f again few l =
    let k : start_ok p s old ≡ true = was_made (start_ok p s old) f.answer in
    let ok : plate_ok p ≡ true = both_left (plate_ok p) (both (eqb (length old) 212) (state_ok p s)) k in
    let e : img ≡ image_of p s (zeros 135) = f.image ∙ ap (λ (b : Bool). pick b (image_of p s (zeros 135)) old) k in
    let h : state_held img ≡ s = ap state_held e ∙ ap held_in (core_again p s (zeros 135) ok) ∙ again in
    record {
      plate = ok;
      told = ap plate_held e ∙ plate_again p s (zeros 135) ok;
      image = rw e (whole-image p s ok few);
      state = rw h (both_right (eqb (length old) 212) (state_ok p s) (both_right (plate_ok p) (both (eqb (length old) 212) (state_ok p s)) k));
      size = l;
    }

pub starts : (p : Plate) (old img m : List ℕ) → Freshens p old 0 img → length m ≡ memory_length p.total → Holds p img m
unfolding fresh none
starts p old img m f l = made p (fresh p) old img m f (fresh_holds p) (omega arith) l

-- a restart starts from what lasted
pub starts_so : (p : Plate) (lasting old img : List ℕ) → Restarts p lasting old 0 img → Makes p (rested lasting) old 0 img
unfolding restart_ok
starts_so p lasting old img f =
    let k : restart_ok p lasting old ≡ true = was_made (restart_ok p lasting old) f.answer in
    let s : start_ok p (rested lasting) old ≡ true = both_right (eqb (length lasting) 12) (start_ok p (rested lasting) old) k in
    record { answer = rw s; image = f.image ∙ rw (k, s) }

-- numbers within the limits fit their four bytes
pub typed : (p : Plate) (lasting : List ℕ) → plate_ok p ≡ true → state_ok p (rested lasting) ≡ true → Typed (rested_in lasting)
unfolding state_ok rested_in
typed p lasting e k =
    let c = leb (rested_in lasting).counter 0xFFFFFF in
    let o = ltb (rested_in lasting).offset (2 ^ p.bits) in
    let rest = both_right c _ k in
    let high : 2 ^ p.bits ≤ 2 ^ 32 = pow-le-pow_right (zero-lt-suc 1) (few_bits p e) in
    record {
      codes = refl;
      counter = omega (arith, leb-true (rested_in lasting).counter 0xFFFFFF (both_left c _ k));
      offset = omega (arith, high, ltb-true (rested_in lasting).offset (2 ^ p.bits) (both_left o _ rest));
      measured = omega arith;
    }

module _ (p : Plate) (lasting old img : List ℕ) (f : Restarts p lasting old 0 img) where
  begun : start_ok p (rested lasting) old ≡ true
  begun = was_made (start_ok p (rested lasting) old) (starts_so p lasting old img f).answer

  good-plate : plate_ok p ≡ true
  unfolding start_ok
  good-plate = both_left (plate_ok p) _ begun

  good-state : state_ok p (rested lasting) ≡ true
  unfolding start_ok
  good-state = both_right (eqb (length old) 212) (state_ok p (rested lasting)) (both_right (plate_ok p) _ begun)

  again : held_in (core_of (rested lasting) (zeros 135)) ≡ rested lasting
  again = made_holds (rested_in lasting) (typed p lasting good-plate good-state)

  pub restart_holds : state_held img ≡ rested lasting
  unfolding start_ok
  restart_holds =
      let s = starts_so p lasting old img f in
      let e : img ≡ image_of p (rested lasting) (zeros 135) = s.image ∙ ap (λ (b : Bool). pick b (image_of p (rested lasting) (zeros 135)) old) begun in
      ap state_held e ∙ ap held_in (core_again p (rested lasting) (zeros 135) good-plate) ∙ again

  pub starts_again : (m : List ℕ) → length m ≡ memory_length p.total → Holds p img m
  unfolding none
  starts_again m l = made p (rested lasting) old img m (starts_so p lasting old img f) again (omega arith) l

-- a call that is not refused leaves an image within the limits
pub goes_on : (p : Plate) (img m w : List ℕ) (g : Call) (r : ℕ) (img' m' w' : List ℕ) → Holds p img m → 134 ≤ length w → Called img m w g r img' m' w' → Holds p img' m'
unfolding image_after is_image
goes_on p img m w g r img' m' w' h wide c =
    let P = plate_held img in
    let s = state_held img in
    let z : refused_by P s m (length w) g ≡ 0 = free_so p img m w g h wide in
    let free : T (eqb (refused_by P s m (length w) g) 0) = rw z tt in
    let t = qs_steps img m w g r img' m' w' c h.image free in
    let o = served_otherwise P s m w g free in
    let i : state_ok P s ≡ true = subst (λ (q : Plate). state_ok q s ≡ true) (sym h.told) h.state in
    let within = keeps_limits P s m g (true-told (state_ok P s) i) in
    let ours : is_ours img ≡ true = both_left (is_ours img) (is_core (core_in img)) h.image in
    let core : is_core (core_in img) ≡ true = both_right (is_ours img) (is_core (core_in img)) h.image in
    let x : meaning.State = (step P s m g).state in
    let k : List ℕ = kept_in (core_in img) in
    let after : img' ≡ head_in img ++ core_of x k = c.image ∙ rw (on_image img m w g h.image, o.unrefused, o.after) in
    let y : is_core (core_of x k) ≡ true = core_of-state x k (kept-length (core_in img) (good (core_in img) core).all) (to_lim P x within).keeps in
    let all : length img ≡ 212 = ours-length img ours in
    let told : plate_held img' ≡ p = ap plate_held after ∙ plate_stays img (core_of x k) all ∙ h.told in
    let v : state_ok P (state_held img') ≡ true = rw t.after (told-true (state_ok P x) within) in
    let u : length m' ≡ memory_length P.total = rw t.kept (keeps_size P s m g (subst (λ (q : Plate). length m ≡ memory_length q.total) (sym h.told) h.size)) in
    record {
      plate = h.plate;
      told = told;
      image = rw (after, still-ours img (core_of x k) ours (good (core_of x k) y).all, core_of-whole img (core_of x k) all) y;
      state = subst (λ (q : Plate). state_ok q (state_held img') ≡ true) h.told v;
      size = subst (λ (q : Plate). length m' ≡ memory_length q.total) h.told u;
    }

-- what a call leaves, by the plate that the host began with
pub steps_so : (p : Plate) (img m w : List ℕ) (g : Call) (r : ℕ) (img' m' w' : List ℕ) → Holds p img m → 134 ≤ length w → Called img m w g r img' m' w'
    → Served p (state_held img) m w g (record { refusal = 0; count = r; sleep = (called_by img m w g).sleep; state = state_held img'; memory = m'; room = w' })
steps_so p img m w g r img' m' w' h wide c =
    subst (λ (q : Plate). Served q (state_held img) m w g (record { refusal = 0; count = r; sleep = (called_by img m w g).sleep; state = state_held img'; memory = m'; room = w' })) h.told
    (qs_steps img m w g r img' m' w' c h.image (rw (free_so p img m w g h wide) tt))

pub reached : (p : Plate) (img m : List ℕ) → Reached p img m → Holds p img m
reached p img m (start old _ _ f l) = starts p old img m f l
reached p img m (next img₀ m₀ w g r _ _ w' h wide c) = goes_on p img₀ m₀ w g r img m w' (reached p img₀ m₀ h) wide c
reached p img m (off img₀ _ old _ h f) = starts_again p (lasting_of img₀) old img f m (reached p img₀ m h).size

pub qs_never-refused : QsNeverRefused
qs_never-refused p img m w g r img' m' w' h wide c =
    let k = reached p img m h in
    let s = qs_steps img m w g r img' m' w' c k.image (rw (free_so p img m w g k wide) tt) in
    rw s.length_told (replies_fit (plate_held img) (state_held img) m g)
