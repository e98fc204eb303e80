-- The length that is told of a reply: by the code's row, of a reply that the bench takes, and its limits. Assumes nothing.
use mathlib.Core.Path.{◌≡◌, refl, sym, ap, ◌∙◌, subst}
use mathlib.Core.Bool.{Bool, true, false, not}
use mathlib.Core.List.{List}
use Prim.Native.Nat.{ℕ, ◌+◌, ◌%◌, ◌≤◌, ◌<◌}
use native.Mathlib.Omega.{arith}
use borrow.Author.Tests.{eq-eqb, lt-ltb, le-ltb, leb-true}
use lib.Dec.{T, eqb, leb, ltb, eqb→eq, leb→le}
use lib.ListN.{length, take, length-take}
use lib.Seq.{get_or-take}
use Rattle.meaning.specs.Bytes.{pick, both, either, arg, xor_all}
use Rattle.meaning.specs.Commands.{Command, c42, c43, c46, c47, c49, c4a, c4b, c4c, c4d, c4e, c4f, c50, c52, c53, c55, c56, unknown, exactly, counted, never, command_of, row, length_fits, asked}
use Rattle.meaning.specs.Commands as meaning
use Rattle.meaning.specs.Frames.{command_byte, data_of}
use Rattle.meaning.specs.Bench.{Verdict, refusal, done, failed, written, address_byte, in_range, allowed, bare, error_reply, right_length, judge, piece_of, handed}
use Rattle.meaning.specs.Demands.{accepts, Grounds}
use Rattle.meaning.proofs.Steps.{both_1}
use Rattle.meaning.proofs.Choices.{told-true, true-told, either_true}
use Rattle.meaning.proofs.Fitting.{only_if_fits}
use Rattle.wire.specs.Table.{length_of, row_of}
use Rattle.wire.specs.declared.table.Length.{Length}
use Rattle.wire.specs.declared.table.Row.{Row}
use Rattle.bench.specs.declared.reply.Refusal.TheVariants.{B0, B4, B5}
use Rattle.std.specs.Prelude.{Some, None, Ok, Err}
use Rattle.bench.specs.Lengths.{Expected, framed, done_length, expected_length, LengthTold, LengthWithin, TakenFits, PieceFits}
use Rattle.bench.proofs.Laws.{data_length}

-- ---- by the code's row

abbrev base : meaning.Length → ℕ
base (exactly n) = n
base (counted n) = n
base never = 0

-- column "Reply data": 37 bytes at most, of 56h (000, table 31), but for the count
short_row : (k : Command) → leb (base (row k).reply) 37 ≡ true
unfolding row
short_row c42 = refl
short_row c43 = refl
short_row c46 = refl
short_row c47 = refl
short_row c49 = refl
short_row c4a = refl
short_row c4b = refl
short_row c4c = refl
short_row c4d = refl
short_row c4e = refl
short_row c4f = refl
short_row c50 = refl
short_row c52 = refl
short_row c53 = refl
short_row c55 = refl
short_row c56 = refl
short_row unknown = refl

module _ (r : Row) (c : ℕ) (l : Length) (e : row_of (Some r) ≡ row (command_of c)) (f : r.reply ≡ l) where
  same_length : length_of l ≡ (row (command_of c)).reply
  same_length = ap length_of (sym f) ∙ ap (λ (w : meaning.Row). w.reply) e

  pub few_bytes : base (length_of l) ≤ 37
  few_bytes = leb-true (base (length_of l)) 37 (ap (λ (x : meaning.Length). leb (base x) 37) same_length ∙ short_row (command_of c))

  pub by_row : (d : List ℕ) → done_length c d ≡ framed (length_of l) d
  unfolding done_length
  by_row d = ap (λ (x : meaning.Length). framed x d) (sym same_length)

pub no_row : (c : ℕ) (d : List ℕ) → row_of None ≡ row (command_of c) → done_length c d ≡ Err B5
unfolding done_length framed
no_row c d e = rw (← ap (λ (w : meaning.Row). w.reply) e) refl

-- ---- its checks in order

module _ (q s : List ℕ) where
  pub not-a-request : written q ≡ false → expected_length q s ≡ Err B0
  unfolding expected_length
  not-a-request e = simp e

  module _ (w : written q ≡ true) where
    pub too_early : length s < 2 → expected_length q s ≡ Ok None
    unfolding expected_length
    too_early h = simp (w, lt-ltb (length s) 2 h)

    module _ (l : 2 ≤ length s) where
      pub other_command : either (eqb (arg s 1 % 128) (arg q 1)) (eqb (arg s 1 % 128) 0x50) ≡ false → expected_length q s ≡ Err B4
      unfolding expected_length bare command_byte
      other_command c = simp (w, le-ltb (length s) 2 l, c)

      module _ (c : either (eqb (arg s 1 % 128) (arg q 1)) (eqb (arg s 1 % 128) 0x50) ≡ true) where
        pub error-length : both (eqb (arg s 1 % 128) 0x50) (not (eqb (arg q 1) 0x50)) ≡ true → expected_length q s ≡ Ok (Some 4)
        unfolding expected_length error_reply bare command_byte
        error-length e = simp (w, le-ltb (length s) 2 l, c, e)

        pub done_length_lem : both (eqb (arg s 1 % 128) 0x50) (not (eqb (arg q 1) 0x50)) ≡ false → expected_length q s ≡ done_length (arg q 1) (data_of q)
        unfolding expected_length error_reply bare command_byte
        done_length_lem e = simp (w, le-ltb (length s) 2 l, c, e)

-- ---- of a reply that the bench takes

-- more of the reply changes nothing
begun-same : (q r : List ℕ) (n : ℕ) → 2 ≤ n → 2 ≤ length r → expected_length q (take n r) ≡ expected_length q r
unfolding expected_length error_reply bare
begun-same q r n h l =
    let k : 2 ≤ length (take n r) = rw (length-take n r) (omega arith) in
    simp (get_or-take n r 1 0 (omega arith), le-ltb (length (take n r)) 2 k, le-ltb (length r) 2 l)

fits-framed : (l : meaning.Length) (d x : List ℕ) → T (length_fits l d x) → framed l d ≡ Ok (Some (3 + length x))
unfolding length_fits framed
fits-framed (exactly n) d x h = ap (λ (k : ℕ). Ok (Some (3 + k))) (sym (eqb→eq (length x) n h))
fits-framed (counted n) d x h =
    let e : length x ≡ n + arg d 2 = eqb→eq (length x) (n + arg d 2) (both_1 (leb (length x) (n + 128)) (eqb (length x) (n + arg d 2)) (both_1 (leb (n + 1) (length x)) _ h)) in
    let f : 3 + n + arg d 2 ≡ 3 + length x = omega arith in
    ap (λ (k : ℕ). Ok (Some k)) f
fits-framed never d x h = absurd h

-- to a request 50h an error reply is done, and as long
fault-length : (c : ℕ) (d : List ℕ) → c ≡ 0x50 → done_length c d ≡ Ok (Some 4)
unfolding done_length framed row command_of
fault-length c d e = rw e

module _ (q r : List ℕ) where
  -- three bytes and the data
  whole_length_lem : 3 ≤ length r → 3 + length (data_of r) ≡ length r
  whole_length_lem h = omega (arith, data_length r)

  own-passes : (b : Bool) → both b (not b) ≡ false
  own-passes true = refl
  own-passes false = refl

  told_by_lem : (v : Verdict) → Grounds q r v → T (accepts v) → expected_length q r ≡ Ok (Some (length r))
  unfolding accepts right_length command_byte bare
  told_by_lem (refusal n) g h = absurd h
  told_by_lem (done w d) g h =
      done_length_lem q r (told-true (written q) g.fit.asked_well) (omega (arith, g.fit.long))
      (rw (g.command, eq-eqb (arg q 1) (arg q 1) refl))
      (rw g.command (own-passes (eqb (arg q 1) 0x50)))
      ∙ own g.fit.long g.length_right
    where
      own : 3 ≤ length r → T (length_fits (row (command_of (arg q 1))).reply (data_of q) (data_of r)) → done_length (arg q 1) (data_of q) ≡ Ok (Some (length r))
      own l k = unfold done_length in (fits-framed (row (command_of (arg q 1))).reply (data_of q) (data_of r) k ∙ ap (λ (k : ℕ). Ok (Some k)) (whole_length_lem l))
  told_by_lem (failed w e) g h = go (eqb (arg q 1) 0x50) refl
    where
      four : length r ≡ 4
      four = omega (arith, whole_length_lem g.fit.long, g.one_byte)

      fits : either (eqb (arg r 1 % 128) (arg q 1)) (eqb (arg r 1 % 128) 0x50) ≡ true
      fits = rw g.command (either_true (eqb 0x50 (arg q 1)))

      go : (b : Bool) → eqb (arg q 1) 0x50 ≡ b → expected_length q r ≡ Ok (Some (length r))
      go true z =
          done_length_lem q r (told-true (written q) g.fit.asked_well) (omega (arith, g.fit.long)) fits (rw (g.command, z))
          ∙ fault-length (arg q 1) (data_of q) (eqb→eq (arg q 1) 0x50 (true-told (eqb (arg q 1) 0x50) z)) ∙ ap (λ (k : ℕ). Ok (Some k)) (sym four)
      go false z =
          error-length q r (told-true (written q) g.fit.asked_well) (omega (arith, g.fit.long)) fits (rw (g.command, z)) ∙ ap (λ (k : ℕ). Ok (Some k)) (sym four)

pub length_told : LengthTold
length_told q r n h a =
    let g = only_if_fits q r in
    begun-same q r n h (omega (arith, long (judge q r) g a)) ∙ told_by_lem q r (judge q r) g a
  where
    long : (v : Verdict) → Grounds q r v → T (accepts v) → 3 ≤ length r
    long (refusal n) g k = absurd (unfold accepts in k)
    long (done w d) g k = g.fit.long
    long (failed w e) g k = g.fit.long

-- ---- its limits

abbrev Within : Expected → Type 0
Within (Ok None) = Unit
Within (Ok (Some n)) = (3 ≤ n) × (n ≤ 134)
Within (Err b) = Unit

few : (n : ℕ) → T (leb n 37) → Within (Ok (Some (3 + n)))
few n h = (omega arith, omega (arith, leb→le n 37 h))

-- 4Ah's count is at most 128 in a request that the bench writes
done-within : (k : Command) (d : List ℕ) → T (allowed k d) → Within (framed (row k).reply d)
unfolding row framed allowed in_range
done-within c42 d h = few 4 tt
done-within c43 d h = few 0 tt
done-within c46 d h = few 3 tt
done-within c47 d h = few 0 tt
done-within c49 d h = few 0 tt
done-within c4a d h = (
  omega arith,
  omega (arith, leb→le (arg d 2) 128 (both_1 (leb 1 (arg d 2)) (leb (arg d 2) 128) (both_1 (asked c4a d) (both (leb 1 (arg d 2)) (leb (arg d 2) 128)) h))),
)
done-within c4b d h = few 3 tt
done-within c4c d h = few 2 tt
done-within c4d d h = few 2 tt
done-within c4e d h = few 2 tt
done-within c4f d h = few 1 tt
done-within c50 d h = few 1 tt
done-within c52 d h = few 4 tt
done-within c53 d h = tt
done-within c55 d h = few 0 tt
done-within c56 d h = few 37 tt
done-within unknown d h = tt

all-within : (q s : List ℕ) → Within (expected_length q s)
unfolding expected_length done_length
all-within q s = go (written q) (ltb (length s) 2) (either (eqb (bare s) (command_byte q)) (eqb (bare s) 0x50)) (error_reply q s) allowed_then
  where
    allowed_then : T (written q) → T (allowed (command_of (command_byte q)) (data_of q))
    allowed_then h =
        unfold written in
        (both_1 (address_byte (arg q 0)) (allowed (command_of (command_byte q)) (data_of q)) (both_1 (eqb (xor_all q) 0) _ (both_1 (leb 3 (length q)) _ h)))

    go : (w e c f : Bool) → (T w → T (allowed (command_of (command_byte q)) (data_of q)))
        → Within (pick (not w) (Err B0) (pick e (Ok None) (pick (not c) (Err B4) (pick f (Ok (Some 4)) (framed (row (command_of (command_byte q))).reply (data_of q))))))
    go false e c f a = tt
    go true true c f a = tt
    go true false false f a = tt
    go true false true true a = few 1 tt
    go true false true false a = done-within (command_of (command_byte q)) (data_of q) (a tt)

pub length-within : LengthWithin
length-within q s n e = subst (λ (x : Expected). Within x) e (all-within q s)

pub taken-fits : TakenFits
taken-fits q r a = (length-within q (take 2 r) (length r) (length_told q r 2 (omega arith) a)).1

pub piece_fits : PieceFits
unfolding handed
piece_fits q r = go (judge q r) (taken-fits q r)
  where
    go : (v : Verdict) → (T (accepts v) → length r ≤ 134) → ((piece_of r v).from ≤ 2) × ((piece_of r v).count ≤ 131)
    go (refusal n) f = unfold piece_of in (omega arith, omega arith)
    go (done w d) f = unfold piece_of in (omega arith, omega (arith, f (unfold accepts in tt)))
    go (failed w e) f = unfold piece_of in (omega arith, omega (arith, f (unfold accepts in tt)))
