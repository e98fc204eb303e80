-- A character's and a poll's number: the reply's length or the refusal, and how long the host may sleep (02, Req 03). Assumes nothing.
use Prim.Native.Nat.{ℕ, ◌+◌, ◌-◌, ◌*◌, ◌<◌}
use native.Mathlib.Omega.{arith}
use mathlib.Core.Path.{◌≡◌, refl, sym, ap, subst, ◌∙◌}
use mathlib.Core.Bool.{Bool, true, false}
use mathlib.Core.List.{List}
use lib.Dec.{eqb}
use lib.ListN.{length}
use Rattle.meaning.specs.Bytes.{pick, arg}
use Rattle.meaning.specs.State as meaning
use Rattle.meaning.specs.State.{plate_ok}
use Rattle.meaning.specs.Characters.{gap, full_pause, no_frame_open, ticks_left, remaining, ran_out, over}
use Rattle.meaning.specs.Characters as characters
use Rattle.meaning.specs.Frames.{still, up_to}
use Rattle.meaning.specs.Run.{Call, character, poll, step, refused_by, closes, nothing, carries, carried, Held, untouched, left_by, called}
use Rattle.meaning.proofs.Choices.{true-told}
use Rattle.meaning.proofs.Calls.{few_refusals}
use Rattle.meaning.proofs.Gaps.{over-told}
use Rattle.meaning.proofs.Plates.{longest_pause}
use Rattle.meaning.proofs.Limits.{replies_fit}
use Rattle.meaning.proofs.Sleeping.{none-after-close, full-after-character}
use Rattle.std.proofs.Common.{Option, None, Some, unwrap_or}
use Rattle.line.specs.Line.{remaining_of}
use Rattle.image.specs.Image.{core_in}
use Rattle.quicksetter.specs.Calls.{is_image, plate_held, state_held, called_by, call_number, sleep_number, answer_number, Called, CalledWithSleep}
use Rattle.quicksetter.specs.Cores.{ImageUnrefused}
use Rattle.quicksetter.proofs.Heads.{same-call}
use Rattle.quicksetter.proofs.Closing.{served}
use Rattle.quicksetter.proofs.Wholes.{polled_early, poll-whole}

small-pick : (b : Bool) {n : ℕ} → n < 0x100000000 → pick b 0 n < 0x100000000
small-pick true h = omega arith
small-pick false h = h

module _ (img m w : List ℕ) (g : Call) where
  -- the sleep beside the reply's number
  pub with_sleep : {r s : ℕ} {img' m' w' : List ℕ} → Called img m w g r img' m' w' → s ≡ sleep_number (called_by img m w g).sleep
      → CalledWithSleep img m w g (s * 0x100000000 + r) img' m' w'
  unfolding answer_number
  with_sleep {img' = img'} {m' = m'} {w' = w'} c e =
      record { number = rw (e, c.answer); called = subst (λ (n : ℕ). Called img m w g n img' m' w') c.answer c }

  -- what a call leaves, by whether there is an image and whether it is worked
  abbrev held : Bool → Bool → Held
  held a b =
      pick a (pick b (left_by (plate_held img) g w (step (plate_held img) (state_held img) m g)) (untouched (refused_by (plate_held img) (state_held img) m (length w) g) (state_held img) m w))
      (untouched 1 (state_held img) m w)

  -- a number that is no reply's length is a refused call's, which carries nothing
  pub carries-none : (n : ℕ) → 256 + n ≡ call_number (called_by img m w g) → (called_by img m w g).sleep ≡ nothing
  unfolding called_by called call_number
  carries-none n = go (is_image img) (eqb (refused_by (plate_held img) (state_held img) m (length w) g) 0)
    where
      go : (a b : Bool) → 256 + n ≡ call_number (held a b) → (held a b).sleep ≡ nothing
      go true true e = absurd (omega (arith, e, replies_fit (plate_held img) (state_held img) m g))
      go true false e = refl
      go false b e = refl

  -- a reply's length and a refusal are small
  pub number-low : call_number (called_by img m w g) < 0x100000000
  unfolding called_by called call_number
  number-low = go (is_image img) (eqb (refused_by (plate_held img) (state_held img) m (length w) g) 0)
    where
      go : (a b : Bool) → call_number (held a b) < 0x100000000
      go true true = omega (arith, replies_fit (plate_held img) (state_held img) m g)
      go true false = small-pick (eqb (refused_by (plate_held img) (state_held img) m (length w) g) 0) (omega (arith, few_refusals (plate_held img) (state_held img) m (length w) g))
      go false b = omega arith

  pub refused_with-sleep : (n : ℕ) {img' m' w' : List ℕ} → Called img m w g (256 + n) img' m' w' → CalledWithSleep img m w g (0xFFFFFFFE00000100 + n) img' m' w'
  unfolding sleep_number
  refused_with-sleep n {img'} {m'} {w'} c =
      let z : 0xFFFFFFFE ≡ sleep_number (called_by img m w g).sleep = sym (ap sleep_number (carries-none n c.answer)) in
      let same : 0xFFFFFFFE * 0x100000000 + (256 + n) ≡ 0xFFFFFFFE00000100 + n = omega arith in
      subst (λ (x : ℕ). CalledWithSleep img m w g x img' m' w') same (with_sleep c z)

-- a pause, and what remains of one, fit into 32 bits
pub low-pause : (p : meaning.Plate) → plate_ok p ≡ true → full_pause p < 0x100000000
low-pause p ok = omega (arith, longest_pause p ok)

-- .., of what remains in the code's cases
pub left_number : (left : Option ℕ) → unwrap_or left 0xFFFFFFFF ≡ sleep_number (carries (remaining_of left))
unfolding sleep_number
left_number None = refl
left_number (Some n) = refl

pub low-sleep : (p : meaning.Plate) (s : meaning.State) (tick : ℕ) {x : characters.Remaining} → plate_ok p ≡ true → x ≡ remaining p s tick → sleep_number (carries x) < 0x100000000
unfolding remaining sleep_number
low-sleep p s tick ok e = rw e (go s.line.begun)
  where
    go : (b : Bool) → sleep_number (carries (pick b (ticks_left (full_pause p - gap s.line.last tick)) no_frame_open)) < 0x100000000
    go true = omega (arith, low-pause p ok)
    go false = omega arith

-- with no frame open nothing remains to be told
pub none_open : (p : meaning.Plate) (s : meaning.State) (tick : ℕ) → s.line.begun ≡ false → no_frame_open ≡ remaining p s tick
unfolding remaining
none_open p s tick e = rw e

-- of an image that is not refused
module _ (img m w : List ℕ) (u : ImageUnrefused img (length m) (length w)) where
  sleep_of : (g : Call) → (called_by img m w g).sleep ≡ carried (plate_held img) (step (plate_held img) (state_held img) m g).state g
  sleep_of g = ap (λ (h : Held). h.sleep) (same-call img m w g u.ours ∙ served (plate_held img) (core_in img) m w u.core g)

  pub full-sleep : (tick v : ℕ) (bad : Bool) → full_pause (plate_held img) ≡ sleep_number (called_by img m w (character tick v bad)).sleep
  unfolding sleep_number
  full-sleep tick v bad = sym (ap sleep_number (sleep_of (character tick v bad) ∙ full-after-character (plate_held img) (state_held img) m tick v bad))

  module _ (tick : ℕ) where
    pub shut_sleep : over (plate_held img) (state_held img) tick ≡ true → 0xFFFFFFFF ≡ sleep_number (called_by img m w (poll tick)).sleep
    unfolding sleep_number closes
    shut_sleep o =
        sym (ap sleep_number (sleep_of (poll tick) ∙ none-after-close (plate_held img) (state_held img) m tick (true-told (over (plate_held img) (state_held img) tick) o)))

    still-carries : over (plate_held img) (state_held img) tick ≡ false
        → carried (plate_held img) (step (plate_held img) (state_held img) m (poll tick)).state (poll tick) ≡ carries (remaining (plate_held img) (state_held img) tick)
    unfolding carried step up_to still
    still-carries o = rw o

    pub left-sleep : {x : characters.Remaining} → over (plate_held img) (state_held img) tick ≡ false → x ≡ remaining (plate_held img) (state_held img) tick
        → sleep_number (carries x) ≡ sleep_number (called_by img m w (poll tick)).sleep
    left-sleep o e = ap sleep_number (ap carries e ∙ sym (still-carries o) ∙ sym (sleep_of (poll tick)))

-- a frame that is not over, or none: nothing is done, and x remains
pub early : (img m w : List ℕ) (u : ImageUnrefused img (length m) (length w)) (tick : ℕ) {x : characters.Remaining} → ((i : ℕ) → arg img i < 256)
    → x ≡ remaining (plate_held img) (state_held img) tick → ran_out x ≡ false
    → CalledWithSleep img m w (poll tick) (sleep_number (carries x) * 0x100000000 + 0) img m w
early img m w u tick bytes k n =
    let o = over-told _ _ _ k ∙ n in
    with_sleep img m w (poll tick) (poll-whole img m w u tick (polled_early img m w u tick bytes o)) (left-sleep img m w u tick o k)
