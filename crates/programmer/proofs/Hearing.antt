-- Laws of the programmer's entry points: what is asked, and what a verdict leads to. Assumes nothing.
use Prim.Native.Nat.{ℕ, ◌≤◌, max}
use mathlib.Core.Path.{◌≡◌, refl, ap, ◌∙◌}
use mathlib.Core.Logic.{◌⊎◌, inl, inr}
use mathlib.Core.Bool.{Bool, true, false}
use mathlib.Core.List.{List, []}
use native.Mathlib.Omega.{arith}
use lib.Dec.{ltb}
use lib.ListN.{length, take, drop, length-append}
use lib.Seq.{take-append_seam}
use Rattle.meaning.specs.Bytes.{both, put}
use Rattle.meaning.specs.Commands.{command_of}
use Rattle.meaning.specs.Bench as meaning
use Rattle.meaning.specs.Bench.{address_ok, address_for, allowed, request, writes, judge, refusal, done, failed}
use Rattle.meaning.specs.Demands.{contents}
use Rattle.meaning.proofs.Puts.{put_front}
use Rattle.std.specs.Prelude.{Ok, Err}
use Rattle.std.specs.Result.{result_unwrap_or}
use Rattle.bench.specs.Outcomes.{Writing, Judging, written_of, verdict_of, check_number, without_data}
use Rattle.bench.specs.declared.reply.Refusal.{Refusal}
use Rattle.bench.specs.declared.reply.Verdict.{Verdict}
use Rattle.bench.specs.declared.reply.Verdict.TheVariants.{Done, DoneWithWarning, ErrorWithWarning}
use Rattle.bench.specs.declared.reply.Verdict.TheVariants as bench
use Rattle.bench.specs.declared.request.Unwritten.TheVariants.{R4, R5}
use Rattle.programmer.specs.Wishes.{Wish}
use Rattle.programmer.specs.Steps.{due, onto, on_verdict, bytes_due, after_reply, still_there}
use Rattle.programmer.specs.Running.{hears}
use Rattle.programmer.specs.declared.step.Step.{Step}
use Rattle.programmer.specs.declared.step.Why.TheVariants.{Judgement, Error}
use Rattle.programmer.specs.declared.step.Standing.{Standing}
use Rattle.programmer.specs.declared.step.Standing.TheVariants.{At, Failed}
use Rattle.programmer.specs.declared.step.Standing.TheVariants as standing
use Rattle.programmer.specs.declared.run.Programmer.{Programmer}

-- what was judged, without its data, and the verdict
module _ (l : Wish) (st : Step) where
  pub verdict-good : (w : Bool) (a : List ℕ) (v : meaning.Verdict) (y : Standing) → done w [] ≡ without_data v → a ≡ contents v → y ≡ onto l st a → y ≡ on_verdict l st v
  unfolding on_verdict contents
  verdict-good w a (refusal n) y e h k = absurd cc
  verdict-good w a (done w' d) y e h k = k ∙ ap (onto l st) h
  verdict-good w a (failed w' x) y e h k = absurd cc

  pub told-good : (j : Judging) (x : Verdict) → j ≡ Ok x → (x ≡ Done) ⊎ (x ≡ DoneWithWarning)
      → (a : List ℕ) (v : meaning.Verdict) (y : Standing) → verdict_of j ≡ without_data v → a ≡ contents v → y ≡ onto l st a → y ≡ on_verdict l st v
  told-good j x p (inl h) a v y e = verdict-good false a v y (rw (p, h) at e)
  told-good j x p (inr h) a v y e = verdict-good true a v y (rw (p, h) at e)

  pub verdict_code_lem : (w : Bool) (x : ℕ) (v : meaning.Verdict) → failed w x ≡ without_data v → Failed st (Error x) ≡ on_verdict l st v
  unfolding on_verdict
  verdict_code_lem w x (refusal n) e = absurd cc
  verdict_code_lem w x (done w' d) e = absurd cc
  verdict_code_lem w x (failed w' y) e = let z : x ≡ y = cc in rw z

  pub told-code : (j : Judging) (x : Verdict) (n : ℕ) → j ≡ Ok x → (x ≡ bench.Error n) ⊎ (x ≡ ErrorWithWarning n)
      → (v : meaning.Verdict) → verdict_of j ≡ without_data v → Failed st (Error n) ≡ on_verdict l st v
  told-code j x n p (inl h) v e = verdict_code_lem false n v (rw (p, h) at e)
  told-code j x n p (inr h) v e = verdict_code_lem true n v (rw (p, h) at e)

  pub verdict-unfit : (n m : ℕ) (v : meaning.Verdict) → refusal n ≡ without_data v → m ≡ n → Failed st (Judgement m) ≡ on_verdict l st v
  unfolding on_verdict
  verdict-unfit n m (refusal k) e h = let q : n ≡ k = cc in rw (h ∙ q)
  verdict-unfit n m (done w d) e h = absurd cc
  verdict-unfit n m (failed w x) e h = absurd cc

  pub told-unfit : (j : Judging) (b : Refusal) (m : ℕ) → j ≡ Err b → m ≡ check_number b
      → (v : meaning.Verdict) → verdict_of j ≡ without_data v → Failed st (Judgement m) ≡ on_verdict l st v
  told-unfit j b m p h v e = verdict-unfit (check_number b) m v (rw p at e) h

-- where the request is due that was judged
pub heard-at : (n : ℕ) (l : Wish) (x : Standing) (st : Step) → x ≡ At st
    → (q r : List ℕ) (y : Standing) → q ≡ bytes_due n l (At st) → y ≡ on_verdict l st (judge q r) → y ≡ after_reply n l x r
unfolding after_reply
heard-at n l x st at q r y e h = rw at (h ∙ ap (λ (z : List ℕ). on_verdict l st (judge z r)) e)

-- what is written is what is sent
abbrev pub length_written : Writing → ℕ
length_written w = result_unwrap_or w 0

pub record Sends (n : ℕ) (l : Wish) (st : Step) (w : Writing) (buffer' : List ℕ) : Type 0 where
  pub within : length_written w ≤ length buffer'
  pub bytes : take (length_written w) buffer' ≡ bytes_due n l (At st)

module _ (n : ℕ) (l : Wish) (st : Step) (w : Writing) (buffer buffer' : List ℕ) (long : length buffer ≡ 135)
    (h : written_of w buffer' ≡ writes n (due l st).command (due l st).body buffer) where
  abbrev c : ℕ
  c = (due l st).command

  abbrev d : List ℕ
  d = (due l st).body

  abbrev q : List ℕ
  q = request (address_for n) c d

  count_as : length_written w ≡ (written_of w buffer').count
  count_as = go w
    where
      go : (w : Writing) → length_written w ≡ (written_of w buffer').count
      go (Ok k) = refl
      go (Err R4) = refl
      go (Err R5) = refl

  buffer_as : buffer' ≡ (written_of w buffer').buffer
  buffer_as = go w
    where
      go : (w : Writing) → buffer' ≡ (written_of w buffer').buffer
      go (Ok k) = refl
      go (Err R4) = refl
      go (Err R5) = refl

  pub sends : Sends n l st w buffer'
  unfolding writes bytes_due
  sends = go (both (address_ok n) (allowed (command_of c) d)) refl
    where
      enough : ltb (length buffer) 135 ≡ false
      enough = rw long

      go : (g : Bool) → both (address_ok n) (allowed (command_of c) d) ≡ g → Sends n l st w buffer'
      go true e =
          let z : writes n c d buffer ≡ record { refusal = 0; count = length q; buffer = put buffer 0 q } = rw (enough, e) in
          let k : length_written w ≡ length q = count_as ∙ ap (λ (v : meaning.Written). v.count) (h ∙ z) in
          let f : buffer' ≡ put buffer 0 q = buffer_as ∙ ap (λ (v : meaning.Written). v.buffer) (h ∙ z) in
          record {
            within = rw (k, f, put_front buffer q) (omega (arith, length-append q (drop (length q) buffer)));
            bytes = rw (e, k, f, put_front buffer q) (take-append_seam q (drop (length q) buffer));
          }
      go false e =
          let z : writes n c d buffer ≡ record { refusal = 5; count = 0; buffer = buffer } = rw (enough, e) in
          let k : length_written w ≡ 0 = count_as ∙ ap (λ (v : meaning.Written). v.count) (h ∙ z) in
          record { within = rw k (omega arith); bytes = rw (e, k) }

-- the programmer after a reply
module _ (l : Wish) (x : Programmer) (r : List ℕ) where
  pub hears_ended : ((st : Step) → x.standing ≡ At st → ⊥) → x ≡ hears l x r
  unfolding hears after_reply
  hears_ended n = go x.standing refl
    where
      same_present : max x.present 0 ≡ x.present
      same_present = omega arith

      go : (y : Standing) → x.standing ≡ y → x ≡ hears l x r
      go (At st) q = absurd (n st q)
      go standing.Done q = rw (q, same_present)
      go (Failed st w) q = rw (q, same_present)

  pub hears_as : (k : ℕ) (y : Standing) → y ≡ after_reply x.address l x.standing r → k ≡ max x.present (still_there y)
      → record { address = x.address; present = k; standing = y } ≡ hears l x r
  unfolding hears
  hears_as k y e m = rw (m, e)
