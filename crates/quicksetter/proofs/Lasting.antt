-- What must last does, over any call and over a restart. Assumes nothing.
use Prim.Native.Nat.{ℕ, ◌<◌, ◌≤◌}
use native.Mathlib.Omega.{arith}
use mathlib.Core.Path.{◌≡◌, refl, sym, ap, subst, ◌∙◌}
use mathlib.Core.Bool.{Bool, true, false}
use mathlib.Core.List.{List, [], ◌∷◌, ◌++◌}
use borrow.Author.Tests.{eq-eqb, le-leb}
use lib.Dec.{T, eqb}
use lib.ListN.{length, take}
use lib.Seq.{get_or-take, length-take-le}
use Rattle.meaning.specs.Bytes.{pick, zeros, among, arg}
use Rattle.meaning.specs.State as meaning
use Rattle.meaning.specs.State.{Plate, plate_ok, state_ok, powered_on, with_measured, with_queue, with_lock, with_line}
use Rattle.meaning.specs.Frames.{still}
use Rattle.meaning.specs.Run.{Call, measured, power_on, step, refused_by, Heard}
use Rattle.meaning.proofs.Calls.{served_otherwise}
use Rattle.meaning.proofs.Choices.{told-true, true-told, both_left, both_right}
use Rattle.meaning.proofs.Limits.{keeps_limits, replies_fit}
use Rattle.image.specs.Image.{is_ours, is_core, head_in, core_in, lasting_in, kept_in, state_bytes, core_of}
use Rattle.image.proofs.Round.{good}
use Rattle.quicksetter.specs.Calls.{is_image, plate_held, state_held, lasting_of, image_after, image_of, start_ok, rested, restart_ok, Called, Restarts}
use Rattle.quicksetter.specs.Lasting.{may_change, stores_by, Lasts, StoringBytes, Flashed, new, works, supplied, Flash, QsFlash, QsFlashRuns, QsLasts, QsRestartIsPowerOn, QsRestarts}
use Rattle.quicksetter.specs.Promises.{Untouched, Ran, began, called, restarted}
use Rattle.quicksetter.proofs.Heads.{ours-length, core_of-whole, whole_as_it_was}
use Rattle.quicksetter.proofs.Starting.{plate_again}
use Rattle.quicksetter.proofs.Resting.{rested_as}
use Rattle.quicksetter.proofs.Keeping.{Keeps, keeps_step}
use Rattle.quicksetter.proofs.Theorems.{on_image, qs_steps, qs_refused-untouched, qs_no_image-untouched}
use Rattle.quicksetter.proofs.Staying.{Holds, free_so, was_made, starts_so, starts_again, restart_holds, reached}
use Rattle.quicksetter.proofs.Running.{enough, stays}

-- the lasting bytes of a core are those of codes, counter, address and offset
same_bytes : (s s' : meaning.State) (m m' places : List ℕ) → Keeps s m s' m' → lasting_in (core_of s' places) ≡ lasting_in (core_of s places)
unfolding core_of state_bytes
same_bytes s s' m m' places k = rw (k.codes, k.counter, k.address, k.offset)

other_places : (s : meaning.State) (places others : List ℕ) → lasting_in (core_of s places) ≡ lasting_in (core_of s others)
unfolding core_of state_bytes
other_places s places others = refl

-- an image that is written anew, with codes, counter, address and offset of another one of bytes, has its lasting bytes
written_lasts : (img : List ℕ) → is_image img ≡ true → ((i : ℕ) → arg img i < 256) → (off : List ℕ) → length off ≡ 212 → (s' : meaning.State) (m m' places : List ℕ)
    → Keeps (state_held img) m s' m' → lasting_of (head_in off ++ core_of s' places) ≡ lasting_of img
unfolding is_image
written_lasts img e small off all s' m m' places k =
    let s : meaning.State = state_held img in
    let before : head_in img ++ core_of s (kept_in (core_in img)) ≡ img = whole_as_it_was img e small in
    let long : length img ≡ 212 = ours-length img (both_left (is_ours img) (is_core (core_in img)) e) in
    let y : lasting_in (core_of s (kept_in (core_in img))) ≡ lasting_of img = sym (ap lasting_in (core_of-whole img (core_of s (kept_in (core_in img))) long)) ∙ ap lasting_of before in
    ap lasting_in (core_of-whole off (core_of s' places) all) ∙ same_bytes s s' m m' places k ∙ other_places s places (kept_in (core_in img)) ∙ y

module _ (img m w : List ℕ) (g : Call) (r : ℕ) (img' m' w' : List ℕ) (c : Called img m w g r img' m' w') where
  untouched : {n : ℕ} → Untouched n img m w r img' m' w' → Lasts img m img' m'
  untouched u = record { lasting = ap lasting_of u.image; memory = u.memory }

  module _ (small : (i : ℕ) → arg img i < 256) (idle : stores_by r w' ≡ false) (e : is_image img ≡ true) where
    abbrev p : Plate
    p = plate_held img

    abbrev s : meaning.State
    s = state_held img

    -- the reply stands at the front of the room
    tells : T (eqb (refused_by p s m (length w) g) 0) → 1 < length (step p s m g).reply → may_change (arg (step p s m g).reply 1) ≡ false
    unfolding stores_by
    tells free some =
        let t = qs_steps img m w g r img' m' w' c e free in
        let long : 1 < r = rw t.length_told some in
        let fits : r ≤ 134 = rw t.length_told (replies_fit p s m g) in
        let a : arg (step p s m g).reply 1 ≡ arg w' 1 = ap (λ (y : List ℕ). arg y 1) (sym t.front) ∙ get_or-take r w' 1 0 long in
        ap may_change a ∙ rw (le-leb 1 r (omega (arith, long)), le-leb r 134 fits) at idle

    unrefused_lasts : T (eqb (refused_by p s m (length w) g) 0) → Lasts img m img' m'
    unfolding image_after is_image
    unrefused_lasts free =
        let t = qs_steps img m w g r img' m' w' c e free in
        let o = served_otherwise p s m w g free in
        let k = keeps_step p s m g (tells free) in
        let places : List ℕ = kept_in (core_in img) in
        let s' : meaning.State = (step p s m g).state in
        let all : length img ≡ 212 = ours-length img (both_left (is_ours img) (is_core (core_in img)) e) in
        let after : img' ≡ head_in img ++ core_of s' places = c.image ∙ rw (on_image img m w g e, o.unrefused, o.after) in
        record { lasting = ap lasting_of after ∙ written_lasts img e small img all s' m (step p s m g).memory places k; memory = t.kept ∙ k.memory }

    image_lasts : Lasts img m img' m'
    image_lasts = by (eqb (refused_by p s m (length w) g) 0) refl
      where
        by : (b : Bool) → eqb (refused_by p s m (length w) g) 0 ≡ b → Lasts img m img' m'
        by true f = unrefused_lasts (rw f tt)
        by false f = untouched (qs_refused-untouched img m w g r img' m' w' c e (rw f tt))

pub qs_lasts : QsLasts
qs_lasts img m w g r img' m' w' c small idle = by (is_image img) refl
  where
    by : (b : Bool) → is_image img ≡ b → Lasts img m img' m'
    by true e = image_lasts img m w g r img' m' w' c small idle e
    by false e = untouched img m w g r img' m' w' c (qs_no_image-untouched img m w g r img' m' w' c e)

pub qs_restart_is-power_on : QsRestartIsPowerOn
unfolding start_ok
qs_restart_is-power_on img old img' f =
    let p = plate_held img in
    let l = lasting_of img in
    let t = starts_so p l old img' f in
    let k : start_ok p (rested l) old ≡ true = was_made (start_ok p (rested l) old) t.answer in
    let ok : plate_ok p ≡ true = both_left (plate_ok p) _ k in
    let e : img' ≡ image_of p (rested l) (zeros 135) = t.image ∙ ap (λ (b : Bool). pick b (image_of p (rested l) (zeros 135)) old) k in
    record { plate = ap plate_held e ∙ plate_again p (rested l) (zeros 135) ok; state = restart_holds p l old img' f ∙ rested_as img }

-- power-on and a measured position stay within the limits
off-within : (p : Plate) (s : meaning.State) → state_ok p s ≡ true → state_ok p (with_measured (powered_on s) 0) ≡ true
unfolding step still
off-within p s h =
    let a = keeps_limits p s (zeros 0) power_on (true-told (state_ok p s) h) in
    told-true (state_ok p (with_measured (powered_on s) 0)) (keeps_limits p (powered_on s) (zeros 0) (measured 0) a)

pub qs_restarts : QsRestarts
unfolding restart_ok start_ok is_image
qs_restarts p img m old r img' h all f =
    let k = reached p img m h in
    let core : is_core (core_in img) ≡ true = both_right (is_ours img) (is_core (core_in img)) k.image in
    let long : length (lasting_of img) ≡ 12 = length-take-le 12 (core_in img) (omega (arith, (good (core_in img) core).all)) in
    let s : state_ok p (rested (lasting_of img)) ≡ true = rw (rested_as img) (off-within p (state_held img) k.state) in
    f.answer ∙ rw (eq-eqb _ _ long, k.plate, eq-eqb _ _ all, s)

-- ---- a host with a flash
-- what it holds runs as one of `Ran`, and the flash has what a restart needs: both at once
record Stands (p : Plate) (gs : List Call) (t : List Heard) (img m kept cells : List ℕ) : Type 0 where
  flash : Flash img m kept cells
  last : List ℕ
  ran : Ran p gs t img m last

-- after a call: where its reply may have changed something it was written, else nothing changed
kept_by : (b : Bool) (img m img' m' kept cells : List ℕ) → (b ≡ false → Lasts img m img' m') → Flash img m kept cells → Flash img' m' (pick b (lasting_of img') kept) (pick b m' cells)
kept_by true img m img' m' kept cells l f = record { lasting = refl; memory = refl }
kept_by false img m img' m' kept cells l f = record { lasting = f.lasting ∙ sym (l refl).lasting; memory = f.memory ∙ sym (l refl).memory }

-- after a restart: codes, counter, address and offset are those that the flash had
module _ (p : Plate) (img m old off : List ℕ) (n r : ℕ) (img' : List ℕ) (h : Holds p img m) (small : (i : ℕ) → arg img i < 256) (f : Restarts p (lasting_of img) old 0 off)
    (c : (y w : List ℕ) → Called off y w (measured n) r img' y w) where
  on : Holds p off m
  on = starts_again p (lasting_of img) old off f m h.size

  same_numbers : Keeps (state_held img) m (with_measured (state_held off) n) m
  unfolding with_measured powered_on with_queue with_lock with_line
  same_numbers =
      let k : state_held off ≡ with_measured (powered_on (state_held img)) 0 = restart_holds p (lasting_of img) old off f ∙ rested_as img in
      record {
        codes = ap (λ (s : meaning.State). s.codes) k;
        counter = ap (λ (s : meaning.State). s.counter) k;
        address = ap (λ (s : meaning.State). s.address) k;
        offset = ap (λ (s : meaning.State). s.offset) k;
        memory = refl;
      }

  restart_keeps : lasting_of img' ≡ lasting_of img
  unfolding image_after is_image step still
  restart_keeps =
      let w : List ℕ = zeros 134 in
      let free : T (eqb (refused_by (plate_held off) (state_held off) m (length w) (measured n)) 0) = rw (free_so p off m w (measured n) on enough) tt in
      let o = served_otherwise (plate_held off) (state_held off) m w (measured n) free in
      let all : length off ≡ 212 = ours-length off (both_left (is_ours off) (is_core (core_in off)) on.image) in
      let after : img' ≡ head_in off ++ core_of (with_measured (state_held off) n) (kept_in (core_in off)) = (c m w).image ∙ rw (on_image off m w (measured n) on.image, o.unrefused, o.after) in
      ap lasting_of after ∙ written_lasts img h.image small off all (with_measured (state_held off) n) m m (kept_in (core_in off)) same_numbers

stands : (p : Plate) (gs : List Call) (t : List Heard) (img m kept cells : List ℕ) → Flashed p gs t img m kept cells → Stands p gs t img m kept cells
stands p _ _ img _ _ _ (new old _ f) = record { flash = record { lasting = refl; memory = refl }; last = []; ran = began old img f }
stands p _ _ img m _ _ (works gs t img₀ m₀ kept cells w g r _ _ w' h small wide c) =
    let s = stands p gs t img₀ m₀ kept cells h in
    record {
      flash = kept_by (stores_by r w') img₀ m₀ img m kept cells (λ e. qs_lasts img₀ m₀ w g r img m w' c small e) s.flash;
      last = take r w';
      ran = called gs t img₀ m₀ s.last w g r img m w' s.ran wide c;
    }
stands p _ _ img _ kept cells (supplied gs t img₀ m₀ _ _ old off n r _ h small f c) =
    let s = stands p gs t img₀ m₀ kept cells h in
    let k : Holds p img₀ m₀ = stays p gs t img₀ m₀ s.last s.ran in
    let f' : Restarts p (lasting_of img₀) old 0 off = subst (λ (l : List ℕ). Restarts p l old 0 off) s.flash.lasting f in
    record {
      flash = record { lasting = s.flash.lasting ∙ sym (restart_keeps p img₀ m₀ old off n r img k small f' c); memory = refl };
      last = [];
      ran = subst (λ (x : List ℕ). Ran p (measured n ∷ power_on ∷ gs) t img x []) (sym s.flash.memory) (restarted gs t img₀ m₀ s.last old off n r img s.ran f' c);
    }

pub qs_flash : QsFlash
qs_flash p gs t img m kept cells h = (stands p gs t img m kept cells h).flash

pub qs_flash_runs : QsFlashRuns
qs_flash_runs p gs t img m kept cells h = let s = stands p gs t img m kept cells h in (s.last, s.ran)

pub storing_bytes : StoringBytes
unfolding may_change among
storing_bytes = record { marked = refl; plain = refl; error = refl; marked_error = refl; address = refl; reading = refl; label = refl; position = refl }
