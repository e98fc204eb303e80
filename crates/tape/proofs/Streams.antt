-- The tape fed in any parts prints what the whole tape prints. Assumes nothing.
use Prim.Native.Nat.{ℕ, zero, suc, ◌+◌, ◌-◌, ◌≤◌, ◌<◌}
use mathlib.Core.Path.{◌≡◌, refl, sym, ap, ◌∙◌}
use mathlib.Core.Bool.{Bool, true, false}
use mathlib.Core.List.{List, [], ◌∷◌, ◌++◌, append_assoc, append-nil}
use native.Mathlib.Nat.{add_assoc, add-zero}
use native.Mathlib.Omega.{arith}
use lib.ListN.{length, take, drop, length-append, length-drop}
use lib.Seq.{take-append-le, drop-append-le, drop-drop}
use lib.Dec.{ltb, leb, eqb}
use borrow.Author.Tests.{ltb-true, ltb-false, leb-true, leb-false, ne_eqb}
use Rattle.std.specs.Prelude.{Ok, Err}
use Rattle.meaning.specs.Bytes.{pick, part, little}
use Rattle.records.specs.Records.{length_at, whole_length, cut, record_at}
use Rattle.tape.specs.Kinds.{Said, unfit, sized, call_of, said_by}
use Rattle.tape.specs.Text.{first_line}
use Rattle.tape.specs.Answers.{Stage, opening, running, ended, bad_record, turn, answers_from, answers_of}
use Rattle.records.specs.Reader.{read_at}
use Rattle.tape.specs.Passes.{longest_record, longest_line, NextRecord, incomplete, says, next_record_by, next_record, Stop, more, full, Pass, stopped, after, on_next_record, pass, closing, Feed, fed, tape_of, Settled, read_all, was_bad, AnyParts}
use Rattle.records.specs.declared.record.Unread.TheVariants.{More, Bad}
use Rattle.records.proofs.Bytes.{length_part}
use Rattle.records.proofs.Windows.{record_cut, record_whole}

-- ---- a record is the same in whatever follows it

module _ (t u : List ℕ) where
  length_stays : 2 ≤ length t → length_at (t ++ u) ≡ length_at t
  unfolding length_at
  length_stays h = ap little (take-append-le 2 t u h)

  part_stays : (i n : ℕ) → i + n ≤ length t → part (t ++ u) i n ≡ part t i n
  unfolding part
  part_stays i n h = ap (take n) (drop-append-le i t u (omega arith)) ∙ take-append-le n (drop i t) u (simp length-drop (omega arith))

-- a body longer than every kind's fits nothing
long-unfit : (k : ℕ) (b : List ℕ) → 6 < length b → call_of k b ≡ unfit
unfolding call_of sized
long-unfit k b h =
    simp (
      ne_eqb (length b) 5 (λ e. absurd (omega arith)),
      ne_eqb (length b) 6 (λ e. absurd (omega arith)),
      ne_eqb (length b) 4 (λ e. absurd (omega arith)),
      ne_eqb (length b) 1 (λ e. absurd (omega arith)),
      ne_eqb (length b) 0 (λ e. absurd (omega arith)),
    )
    (go (eqb k 1) (eqb k 2) (eqb k 3) (eqb k 4) (eqb k 5) (eqb k 6))
  where
    go : (p q r s t v : Bool) → pick p unfit (pick q unfit (pick r unfit (pick s unfit (pick t unfit (pick v unfit unfit))))) ≡ unfit
    go true q r s t v = refl
    go false true r s t v = refl
    go false false true s t v = refl
    go false false false true t v = refl
    go false false false false true v = refl
    go false false false false false true = refl
    go false false false false false false = refl

-- what stands first in the bytes at hand, and what that says of them with anything behind
pub data Front (t : List ℕ) : NextRecord → Type 0 where
  cut_off : record_at t ≡ cut → Front t incomplete
  stands : (x : Said) → 2 ≤ length_at t → whole_length t ≤ length t → ((u : List ℕ) → said_by (record_at (t ++ u)) ≡ x) → Front t (says x)
  broken : 4 ≤ length t → ((u : List ℕ) → said_by (record_at (t ++ u)) ≡ unfit) → Front t (says unfit)

overlong : (t u : List ℕ) → 4 ≤ length t → longest_record < length_at t → said_by (record_at (t ++ u)) ≡ unfit
unfolding said_by
overlong t u h l = go (leb (whole_length (t ++ u)) (length (t ++ u))) refl
  where
    e : length_at (t ++ u) ≡ length_at t
    e = length_stays t u (omega arith)

    go : (b : Bool) → leb (whole_length (t ++ u)) (length (t ++ u)) ≡ b → said_by (record_at (t ++ u)) ≡ unfit
    go true f =
        let w : whole_length (t ++ u) ≤ length (t ++ u) = leb-true (whole_length (t ++ u)) (length (t ++ u)) f in
        let n : length (part (t ++ u) 4 (length_at (t ++ u) - 2)) ≡ length_at (t ++ u) - 2 = length_part (t ++ u) 4 (length_at (t ++ u) - 2) (omega (arith, e)) in
        ap said_by (record_whole (t ++ u) (omega (arith, e)) w) ∙ long-unfit (little (part (t ++ u) 2 2)) (part (t ++ u) 4 (length_at (t ++ u) - 2)) (omega (arith, e))
    go false f = ap said_by (record_cut (t ++ u) (λ q. leb-false (whole_length (t ++ u)) (length (t ++ u)) f))

stands_on : (t u : List ℕ) → 2 ≤ length_at t → whole_length t ≤ length t → said_by (record_at (t ++ u)) ≡ call_of (little (part t 2 2)) (part t 4 (length_at t - 2))
unfolding said_by
stands_on t u h l =
    let e : length_at (t ++ u) ≡ length_at t = length_stays t u (omega arith) in
    let n : length (t ++ u) ≡ length t + length u = length-append t u in
    ap said_by (record_whole (t ++ u) (omega arith) (omega arith))
    ∙ rw (e, part_stays t u 2 2 (omega arith), part_stays t u 4 (length_at t - 2) (omega arith))

pub front : (t : List ℕ) → Front t (next_record t)
unfolding read_at next_record_by said_by
front t =
    go (ltb (length t) 4) (ltb (length_at t) 2) (ltb longest_record (length_at t)) (ltb (length t) (whole_length t)) refl refl refl refl
  where
    go : (a b c d : Bool) → ltb (length t) 4 ≡ a → ltb (length_at t) 2 ≡ b → ltb longest_record (length_at t) ≡ c → ltb (length t) (whole_length t) ≡ d
        → Front t (next_record_by (pick a (Err More) (pick b (Err Bad) (pick c (Err Bad) (pick d (Err More)
        (Ok (record { kind = little (part t 2 2); start = 0 + 4; body = part t 4 (length_at t - 2); next = 0 + whole_length t })))))))
    go true b c d e f g h = cut_off (record_cut t (λ q. omega (arith, ltb-true (length t) 4 e)))
    go false true c d e f g h =
        let l : 4 ≤ length t = ltb-false (length t) 4 e in
        broken l (λ u.
        let k : length_at (t ++ u) ≡ length_at t = length_stays t u (omega arith) in
        ap said_by (record_cut (t ++ u) (λ q. absurd (omega (arith, ltb-true (length_at t) 2 f)))))
    go false false true d e f g h =
        let l : 4 ≤ length t = ltb-false (length t) 4 e in
        broken l (λ u. overlong t u l (ltb-true longest_record (length_at t) g))
    go false false false true e f g h = cut_off (record_cut t (λ q. ltb-true (length t) (whole_length t) h))
    go false false false false e f g h =
        let l : 2 ≤ length_at t = ltb-false (length_at t) 2 f in
        let w : whole_length t ≤ length t = ltb-false (length t) (whole_length t) h in
        stands _ l w (λ u. stands_on t u l w)

-- ---- what is printed, with fuel enough

pub after_end : (n at : ℕ) (t : List ℕ) → answers_from n ended at t ≡ []
unfolding answers_from turn
after_end zero at t = refl
after_end (suc n) at [] = refl
after_end (suc n) at (b ∷ t) = after_end n (at + whole_length (b ∷ t)) (drop (whole_length (b ∷ t)) (b ∷ t))

pub enough : (n m : ℕ) (w : Stage) (at : ℕ) (t : List ℕ) → length t ≤ n → length t ≤ m → answers_from n w at t ≡ answers_from m w at t
unfolding answers_from
enough zero zero w at t h k = refl
enough zero (suc m) w at [] h k = refl
enough zero (suc m) w at (b ∷ t) h k = absurd (omega arith)
enough (suc n) zero w at [] h k = refl
enough (suc n) zero w at (b ∷ t) h k = absurd (omega arith)
enough (suc n) (suc m) w at [] h k = refl
enough (suc n) (suc m) w at (b ∷ t) h k =
    let x = turn w at (said_by (record_at (b ∷ t))) in
    let l : length (drop (whole_length (b ∷ t)) (b ∷ t)) ≡ length (b ∷ t) - whole_length (b ∷ t) = length-drop (whole_length (b ∷ t)) (b ∷ t) in
    ap (λ (r : List ℕ). x.printed ++ r) (enough n m x.stage (at + whole_length (b ∷ t)) (drop (whole_length (b ∷ t)) (b ∷ t)) (omega arith) (omega arith))

abbrev pub answers : Stage → ℕ → List ℕ → List ℕ
answers w at t = answers_from (length t) w at t

-- one record, and what follows it
pub one_record : (w : Stage) (at : ℕ) (t : List ℕ) (x : Said) → 0 < length t → said_by (record_at t) ≡ x
    → answers w at t ≡ (turn w at x).printed ++ answers (turn w at x).stage (at + whole_length t) (drop (whole_length t) t)
unfolding answers_from
one_record w at [] x h e = absurd (omega arith)
one_record w at (b ∷ t) x h e =
    let l : length (drop (whole_length (b ∷ t)) (b ∷ t)) ≡ length (b ∷ t) - whole_length (b ∷ t) = length-drop (whole_length (b ∷ t)) (b ∷ t) in
    rw e
    (ap (λ (r : List ℕ). (turn w at x).printed ++ r)
    (enough (length t) (length (drop (whole_length (b ∷ t)) (b ∷ t))) (turn w at x).stage (at + whole_length (b ∷ t)) (drop (whole_length (b ∷ t)) (b ∷ t)) (omega arith) (omega arith)))

-- a record that fits nothing ends the tape
unfit-ends : (w : Stage) (at : ℕ) → (turn w at unfit).stage ≡ ended
unfolding turn bad_record
unfit-ends opening at = refl
unfit-ends (running p s m) at = refl
unfit-ends ended at = refl

pub ends-here : (w : Stage) (at : ℕ) (t : List ℕ) → 0 < length t → said_by (record_at t) ≡ unfit → answers w at t ≡ (turn w at unfit).printed
ends-here w at t h e =
    one_record w at t unfit h e
    ∙ rw (unfit-ends w at, after_end (length (drop (whole_length t) t)) (at + whole_length t) (drop (whole_length t) t)) (append-nil (turn w at unfit).printed)

-- ---- a pass prints the front of what is printed

module _ (at : ℕ) (t u : List ℕ) where
  -- what a pass left and what is to come
  abbrev Splits : List ℕ → Pass → Type 0
  Splits all p = all ≡ p.printed ++ answers p.stage (at + p.read) (drop p.read t ++ u)

  stopped_splits : (w : Stage) (why : Stop) → Splits (answers w at (t ++ u)) (stopped w why)
  unfolding stopped
  stopped_splits w why = rw add-zero

  ended_splits : (x : List ℕ) (n : ℕ) (p : Pass) → Splits x (after ended x n p)
  unfolding after
  ended_splits x n p = rw (after_end (length (drop 0 t ++ u)) (at + 0) (drop 0 t ++ u), append-nil x)

  goes_on : (x : List ℕ) (n : ℕ) (q : Pass) (w : Stage)
      → answers w (at + n) (drop n t ++ u) ≡ q.printed ++ answers q.stage (at + n + q.read) (drop q.read (drop n t) ++ u)
      → Splits (x ++ answers w (at + n) (drop n t ++ u)) (after w x n q)
  unfolding after
  goes_on x n q opening e = rw (e, append_assoc x q.printed, add_assoc at n q.read, drop-drop q.read n t)
  goes_on x n q (running p s m) e = rw (e, append_assoc x q.printed, add_assoc at n q.read, drop-drop q.read n t)
  goes_on x n q ended e = rw (after_end (length (drop n t ++ u)) (at + n) (drop n t ++ u), append-nil x) (ended_splits x n q)

module _ (n space : ℕ) (w : Stage) (at : ℕ) (t u : List ℕ) (h : length t < suc n) where
  abbrev next : Said → Pass
  next x = pass n (space - length (turn w at x).printed) (turn w at x).stage (at + whole_length t) (drop (whole_length t) t)

  abbrev Later : Said → Type 0
  Later x =
      length (drop (whole_length t) t) < n
      → Splits (at + whole_length t) (drop (whole_length t) t) u (answers (turn w at x).stage (at + whole_length t) (drop (whole_length t) t ++ u)) (next x)

  stands_splits : (x : Said) → 2 ≤ length_at t → whole_length t ≤ length t → said_by (record_at (t ++ u)) ≡ x → Later x
      → Splits at t u (answers w at (t ++ u)) (after (turn w at x).stage (turn w at x).printed (whole_length t) (next x))
  stands_splits x l m f later =
      let g : length (drop (whole_length t) t) ≡ length t - whole_length t = length-drop (whole_length t) t in
      let e : length_at (t ++ u) ≡ length_at t = length_stays t u (omega arith) in
      let d : drop (whole_length t) (t ++ u) ≡ drop (whole_length t) t ++ u = drop-append-le (whole_length t) t u m in
      let z : 0 < length (t ++ u) = simp length-append (omega arith) in
      let o : answers w at (t ++ u) ≡ (turn w at x).printed ++ answers (turn w at x).stage (at + whole_length t) (drop (whole_length t) t ++ u)
      = rw (← d, ← e) (one_record w at (t ++ u) x z f) in
      o ∙ goes_on at t u (turn w at x).printed (whole_length t) (next x) (turn w at x).stage (later (omega arith))

  broken_splits : 4 ≤ length t → said_by (record_at (t ++ u)) ≡ unfit
      → Splits at t u (answers w at (t ++ u)) (after (turn w at unfit).stage (turn w at unfit).printed (whole_length t) (next unfit))
  broken_splits l f =
      let z : 0 < length (t ++ u) = simp length-append (omega arith) in
      let k : after (turn w at unfit).stage (turn w at unfit).printed (whole_length t) (next unfit) ≡ after ended (turn w at unfit).printed (whole_length t) (next unfit)
      = ap (λ (s : Stage). after s (turn w at unfit).printed (whole_length t) (next unfit)) (unfit-ends w at) in
      rw k (ends-here w at (t ++ u) z f ∙ ended_splits at t u (turn w at unfit).printed (whole_length t) (next unfit))

  heard_splits : (r : NextRecord) → Front t r → ((x : Said) → Later x)
      → Splits at t u (answers w at (t ++ u)) (on_next_record r (stopped w more) (λ x. after (turn w at x).stage (turn w at x).printed (whole_length t) (next x)))
  unfolding on_next_record
  heard_splits r (cut_off e) later = stopped_splits at t u w more
  heard_splits r (stands x l m f) later = stands_splits x l m (f u) (later x)
  heard_splits r (broken l f) later = broken_splits l (f u)

pub pass_splits : (n space : ℕ) (w : Stage) (at : ℕ) (t u : List ℕ) → length t < n → Splits at t u (answers w at (t ++ u)) (pass n space w at t)
unfolding pass
pass_splits zero space w at t u h = absurd (omega arith)
pass_splits (suc n) space w at t u h =
    spaced (ltb space longest_line)
    (λ x l. pass_splits n (space - length (turn w at x).printed) (turn w at x).stage (at + whole_length t) (drop (whole_length t) t) u l)
  where
    spaced : (b : Bool) → ((x : Said) → Later n space w at t u h x)
        → Splits at t u (answers w at (t ++ u))
        (pick b (stopped w full) (on_next_record (next_record t) (stopped w more) (λ x. after (turn w at x).stage (turn w at x).printed (whole_length t) (next n space w at t u h x))))
    spaced true later = stopped_splits at t u w full
    spaced false later = heard_splits n space w at t u h (next_record t) (front t) later

-- ---- any number of passes

fed_splits : (w : Stage) (at : ℕ) (t : List ℕ) (fs : List Feed) → let r = fed w at t fs in
    answers w at (t ++ tape_of fs) ≡ r.printed ++ answers r.stage r.place r.left
unfolding fed tape_of
fed_splits w at t [] = rw append-nil
fed_splits w at t (f ∷ fs) =
    let u = t ++ f.bytes in
    let p = pass (suc (length u)) f.space w at u in
    let r = fed p.stage (at + p.read) (drop p.read u) fs in
    let e : t ++ (f.bytes ++ tape_of fs) ≡ u ++ tape_of fs = sym (append_assoc t f.bytes (tape_of fs)) in
    rw (e, append_assoc p.printed r.printed (answers r.stage r.place r.left))
    (pass_splits (suc (length u)) f.space w at u (tape_of fs) (omega arith)
    ∙ ap (λ (l : List ℕ). p.printed ++ l) (fed_splits p.stage (at + p.read) (drop p.read u) fs))

-- at the end of the tape what is left is cut short
last_splits : (w : Stage) (at : ℕ) (t : List ℕ) → record_at t ≡ cut → answers w at t ≡ closing w at t
unfolding closing answers_from said_by turn bad_record
last_splits ended at t e = after_end (length t) at t
last_splits opening at [] e = refl
last_splits opening at (b ∷ t) e = ends-here opening at (b ∷ t) (omega arith) (ap said_by e)
last_splits (running p s m) at [] e = refl
last_splits (running p s m) at (b ∷ t) e = ends-here (running p s m) at (b ∷ t) (omega arith) (ap said_by e)

nothing-cut : (t : List ℕ) (r : NextRecord) → Front t r → r ≡ incomplete → record_at t ≡ cut
nothing-cut t r (cut_off e) h = e
nothing-cut t r (stands x l m f) h = let z : ◌≡◌ {A = ℕ} 0 1 = cc in absurd (omega arith)
nothing-cut t r (broken l f) h = let z : ◌≡◌ {A = ℕ} 0 1 = cc in absurd (omega arith)

pub settled_splits : (w : Stage) (at : ℕ) (t : List ℕ) → Settled w t → answers w at t ≡ closing w at t
unfolding closing
settled_splits w at t (read_all e) = last_splits w at t (nothing-cut t (next_record t) (front t) e)
settled_splits w at t was_bad = after_end (length t) at t

pub any_parts : AnyParts
unfolding answers_of
any_parts fs s =
    let r = fed opening 0 [] fs in
    ap (λ (l : List ℕ). first_line ++ l)
    (sym (fed_splits opening 0 [] fs ∙ ap (λ (l : List ℕ). r.printed ++ l) (settled_splits r.stage r.place r.left s)))

-- ---- a bound on the records that is large enough does not matter

abbrev goes : ℕ → ℕ → Stage → ℕ → List ℕ → Said → Pass
goes k space w at t x = pass k (space - length (turn w at x).printed) (turn w at x).stage (at + whole_length t) (drop (whole_length t) t)

alike : (n m space : ℕ) (w : Stage) (at : ℕ) (t : List ℕ) (r : NextRecord) → Front t r → length t < suc n → length t < suc m
    → ((x : Said) → length (drop (whole_length t) t) < n → length (drop (whole_length t) t) < m → goes n space w at t x ≡ goes m space w at t x)
    → on_next_record r (stopped w more) (λ x. after (turn w at x).stage (turn w at x).printed (whole_length t) (goes n space w at t x))
    ≡ on_next_record r (stopped w more) (λ x. after (turn w at x).stage (turn w at x).printed (whole_length t) (goes m space w at t x))
unfolding on_next_record after
alike n m space w at t r (cut_off e) h k same = refl
alike n m space w at t r (stands x l i f) h k same =
    let g : length (drop (whole_length t) t) ≡ length t - whole_length t = length-drop (whole_length t) t in
    ap (after (turn w at x).stage (turn w at x).printed (whole_length t)) (same x (omega arith) (omega arith))
alike n m space w at t r (broken l f) h k same = rw (unfit-ends w at)

pub pass_enough : (n m space : ℕ) (w : Stage) (at : ℕ) (t : List ℕ) → length t < n → length t < m → pass n space w at t ≡ pass m space w at t
unfolding pass
pass_enough zero m space w at t h k = absurd (omega arith)
pass_enough (suc n) zero space w at t h k = absurd (omega arith)
pass_enough (suc n) (suc m) space w at t h k =
    let same = alike n m space w at t (next_record t) (front t) h k
    (λ x i j. pass_enough n m (space - length (turn w at x).printed) (turn w at x).stage (at + whole_length t) (drop (whole_length t) t) i j) in
    ap (λ (p : Pass). pick (ltb space longest_line) (stopped w full) p) same
