-- A host that hands on what the calls return runs as the programmer does. Assumes nothing.
use Prim.Native.Nat.{ℕ, ◌+◌, ◌*◌, ◌≤◌, ◌<◌}
use mathlib.Core.Path.{◌≡◌, refl, ap, ◌∙◌}
use mathlib.Core.Bool.{Bool, true, false, not}
use mathlib.Core.List.{List, [], ◌∷◌}
use native.Mathlib.Omega.{arith}
use lib.Dec.{T, eqb, leb, ltb, eqb→eq, leb→le, ltb→lt}
use lib.ListN.{length, get_or, drop}
use borrow.Author.Tests.{le-ltb}
use Rattle.std.specs.Prelude.{Ok, Err}
use Rattle.meaning.specs.Bytes.{pick, either, arg, same}
use Rattle.meaning.specs.Fields.{writable}
use Rattle.meaning.specs.Commands.{command_of}
use Rattle.meaning.specs.Bench.{Verdict, refusal, done, failed, address_ok, allowed, writes, judge}
use Rattle.meaning.specs.Demands.{Grounds}
use Rattle.meaning.proofs.Fitting.{only_if_fits}
use Rattle.meaning.proofs.Steps.{both_0, both_1}
use Rattle.meaning.proofs.Choices.{told-true}
use Rattle.meaning.proofs.Wire.{writes_well}
use Rattle.programmer.specs.Wishes.{Wish, wanted, good, checked_tape, wish_of}
use Rattle.programmer.specs.Steps.{due, making, clearing, locking, onto, on_verdict, bytes_due, after_reply}
use Rattle.programmer.specs.Running.{asks, reachable, fails_by, can_stand, is_possible}
use Rattle.programmer.specs.Promises.{after_replies, AllBytes}
use Rattle.programmer.specs.declared.run.Programmer.{Programmer}
use Rattle.programmer.specs.declared.step.Step.{Step}
use Rattle.programmer.specs.declared.step.Step.TheVariants.{Count, Look, Remove, Create, Store, Read, Lock}
use Rattle.programmer.specs.declared.step.Why.TheVariants.{Judgement, Error, Differs}
use Rattle.programmer.specs.declared.step.Standing.{Standing}
use Rattle.programmer.specs.declared.step.Standing.TheVariants.{At, Done, Failed}
use Rattle.programmer.specs.declared.wish.TapeFault.TheVariants.{BadRecord, WrongSize}
use Rattle.programmer.proofs.Allowed.{due-allowed}
use Rattle.programmer.proofs.Counting.{few_present, progress-few}
use Rattle.programmer.proofs.Leading.{making_by, clearing_by, locking_by}
use Rattle.programmer.proofs.Replies.{data_byte, Few, few_checks, stands_after, stays_possible}
use Rattle.programmer.proofs.Whole.{good-is-whole}
use Rattle.handheld.specs.Numbers.{field_part, status_part, number_part, standing_bytes, run_number, run_in}
use Rattle.handheld.specs.Entries.{request_of, given_by, handed_on, bit31, QpRuns, QpWrites, QpToldApart, QpRefusals}
use Rattle.handheld.proofs.Numbers.{Small, five_small, as_seven, run-back, is_run_lem}

-- ---- statuses and codes that replies told are bytes

abbrev Told : Standing → Type 0
Told (At st) = status_part st < 256
Told Done = Unit
Told (Failed st w) = (status_part st < 256) × (number_part w < 256)

module _ (l : Wish) where
  making-told : (i : ℕ) → Told (making l i)
  making-told = making_by l Told (λ i. omega arith) tt

  clearing-told : (k : ℕ) → Told (clearing l k)
  clearing-told = clearing_by l Told (λ i. omega arith) tt (λ k. omega arith)

  onto-told : (st : Step) (d : List ℕ) → arg d 1 < 256 → Told (onto l st d)
  unfolding onto
  onto-told Count d h = clearing-told (arg d 1)
  onto-told (Look k) d h = h
  onto-told (Remove k st) d h = clearing-told k
  onto-told (Create i) d h = omega arith
  onto-told (Store i) d h = omega arith
  onto-told (Read i) d h = go (same (drop 3 d) (wanted l i).bytes)
    where
      go : (q : Bool) → Told (pick q (locking l i) (Failed (Read i) Differs))
      go true = locking_by l Told (λ j. omega arith) tt i (omega arith)
      go false = (omega arith, omega arith)
  onto-told (Lock i) d h = making-told (i + 1)

  verdict-told : (st : Step) (q r : List ℕ) → ((i : ℕ) → get_or r i 0 < 256) → status_part st < 256 → (v : Verdict) → Grounds q r v → Few v → Told (on_verdict l st v)
  unfolding on_verdict
  verdict-told st q r B h (refusal k) g f = (h, omega (arith, f))
  verdict-told st q r B h (done w d) g f = onto-told st d (rw g.part (data_byte r B 1))
  verdict-told st q r B h (failed w e) g f = (h, rw g.code (B 2))

  reply-told : (n : ℕ) (y : Standing) (r : List ℕ) → ((i : ℕ) → get_or r i 0 < 256) → Told y → Told (after_reply n l y r)
  unfolding after_reply
  reply-told n (At st) r B h = let q = bytes_due n l (At st) in verdict-told st q r B h (judge q r) (only_if_fits q r) (few_checks q r)
  reply-told n Done r B h = tt
  reply-told n (Failed st w) r B h = h

  none_told : (n : ℕ) → Told (after_replies n l []).standing
  unfolding after_replies
  none_told n = omega arith

  all_told : (n : ℕ) (rs : List (List ℕ)) → AllBytes rs → Told (after_replies n l rs).standing
  all_told n [] B = none_told n
  all_told n (r ∷ rs) B = rw (stands_after n l r rs) (reply-told n (after_replies n l rs).standing r B.0 (all_told n rs B.1))

-- ---- what possible means, part by part

module _ (l : Wish) (x : Programmer) (h : T (is_possible l x)) where
  can_stand_lem : T (can_stand l x.present x.standing)
  unfolding is_possible
  can_stand_lem = both_1 (leb x.present 255) (can_stand l x.present x.standing) (both_1 (address_ok x.address) _ h)

  right_address_lem : T (address_ok x.address)
  unfolding is_possible
  right_address_lem = both_0 (address_ok x.address) _ h

address-low : (n : ℕ) → T (address_ok n) → n < 256
unfolding address_ok
address-low n h = go (leb n 31) (eqb n 255) (leb→le n 31) (eqb→eq n 255) h
  where
    go : (a b : Bool) → (T a → n ≤ 31) → (T b → n ≡ 255) → T (either a b) → n < 256
    go true b x y h = omega (arith, x tt)
    go false true x y h = omega (arith, y tt)
    go false false x y h = absurd h

-- ---- so the run's number tells it

module _ (l : Wish) (p : ℕ) (few : p ≤ 255) (fields : length l.fields ≤ 256) where
  small-field : (st : Step) → T (reachable l p st) → field_part st < 256
  small-field Count h = omega arith
  small-field (Look k) h = omega (arith, ltb→lt k p h)
  small-field (Remove k st) h = omega (arith, ltb→lt k p h)
  small-field (Create i) h = omega (arith, ltb→lt i (length l.fields) h)
  small-field (Store i) h = omega (arith, ltb→lt i (length l.fields) h)
  small-field (Read i) h = omega (arith, ltb→lt i (length l.fields) h)
  small-field (Lock i) h = omega (arith, ltb→lt i (length l.fields) (both_0 (ltb i (length l.fields)) (not (writable (wanted l i).status)) h))

  small : (y : Standing) → T (can_stand l p y) → Told y → Small y
  small (At st) h t = (small-field st h, t)
  small Done h t = tt
  small (Failed st w) h t = ((small-field st (both_1 (fails_by st w) (reachable l p st) h), t.0), t.1)

module _ (t : List ℕ) (good : checked_tape t ≡ good) where
  abbrev l : Wish
  l = wish_of t

  -- what is possible, with told parts that are bytes, is taken by its number
  taken_back : (x : Programmer) → T (is_possible l x) → Told x.standing → given_by t (run_number x) ≡ Ok x
  taken_back x could told =
      let few = few_present l x could in
      let stands = can_stand_lem l x could in
      let y = small l x.present few (good-is-whole t good).few x.standing stands told in
      let near = address-low x.address (right_address_lem l x could) in
      let back = run-back x y (omega (arith, few)) near in
      let p : is_possible l (run_in (run_number x)) ≡ true = ap (is_possible l) back ∙ told-true (is_possible l x) could in
      rw (good, is_run_lem x y (omega (arith, few)) near, p, back)

pub qp_runs : QpRuns
unfolding handed_on after_replies
qp_runs n t [] good ok B = record { number = start; taken = ap (given_by t) start ∙ taken_back t good (after_replies n (wish_of t) []) (stays_possible n (wish_of t) [] ok tt) (all_told (wish_of t) n [] tt) }
  where
    start : handed_on n t [] ≡ run_number (after_replies n (wish_of t) [])
    start = rw (good, told-true (address_ok n) ok)
qp_runs n t (r ∷ rs) good ok B =
    let H = qp_runs n t rs good ok B.1 in
    let l = wish_of t in
    let e : handed_on n t (r ∷ rs) ≡ run_number (after_replies n l (r ∷ rs)) = rw H.taken in
    record { number = e; taken = ap (given_by t) e ∙ taken_back t good (after_replies n l (r ∷ rs)) (stays_possible n l (r ∷ rs) ok B) (all_told l n (r ∷ rs) B) }

pub qp_writes : QpWrites
unfolding asks writes
qp_writes t x buffer good could long = go x.standing (can_stand_lem (wish_of t) x could)
  where
    go : (y : Standing) → T (can_stand (wish_of t) x.present y) → (request_of (asks x.address (wish_of t) y buffer)).number ≤ 135
    go (At st) h =
        let c = (due (wish_of t) st).command in
        let d = (due (wish_of t) st).body in
        let may = due-allowed (wish_of t) x.present st (good-is-whole t good).fit h in
        let right = right_address_lem (wish_of t) x could in
        rw (le-ltb (length buffer) 135 long, told-true (address_ok x.address) right, told-true (allowed (command_of c) d) may) (writes_well x.address c d right may).1
    go Done h = omega arith
    go (Failed st w) h = omega arith

-- ---- refusals told apart

few_whys : (y : Standing) → arg (standing_bytes y) 3 ≤ 3
few_whys (At st) = omega arith
few_whys Done = omega arith
few_whys (Failed st (Judgement k)) = omega arith
few_whys (Failed st (Error e)) = omega arith
few_whys (Failed st Differs) = omega arith

unrefused : (a b c d r : ℕ) → a < 256 → b < 256 → c < 256 → d ≤ 3 → bit31 (a + 256 * (b + 256 * (c + 256 * (d + 256 * r)))) ≡ 0
unrefused a b c d r ha hb hc hd = omega arith

run-unrefused : (x : Programmer) (h : Small x.standing) (few : x.present < 256) (near : x.address < 256) → bit31 (run_number x) ≡ 0
run-unrefused x h few near =
    let y = x.standing in
    let s = five_small y h in
    rw (as_seven x h few near) (unrefused (arg (standing_bytes y) 0) (arg (standing_bytes y) 1) (arg (standing_bytes y) 2) (arg (standing_bytes y) 3) _ s.s0 s.s1 s.s2 (few_whys y))

pub qp_told-apart : QpToldApart
qp_told-apart n t rs good ok B =
    let l = wish_of t in
    let x = after_replies n l rs in
    let H = qp_runs n t rs good ok B in
    let could = stays_possible n l rs ok B in
    let few = few_present l x could in
    let y = small l x.present few (good-is-whole t good).few x.standing (can_stand_lem l x could) (all_told l n rs B) in
    let f = progress-few l x (good-is-whole t good).few few in
    record {
      run = rw H.number (run-unrefused x y (omega (arith, few)) (address-low x.address (right_address_lem l x could)));
      progress = rw H.taken (omega (arith, f.0, f.1));
    }

pub qp_refusals : QpRefusals
qp_refusals (Ok u) e = absurd (e refl)
qp_refusals (Err (BadRecord at)) e = omega arith
qp_refusals (Err (WrongSize at)) e = omega arith
