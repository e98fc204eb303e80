-- The piece handed back is the reply's data; what passes B0 is a request the bench writes. Assumes nothing.
use Prim.Native.Nat.{ℕ, zero, suc, ◌+◌, ◌-◌, ◌≤◌}
use mathlib.Core.Path.{◌≡◌, refl, sym, ap, ◌∙◌}
use mathlib.Core.Bool.{Bool, true, false}
use mathlib.Core.List.{List, [], ◌∷◌}
use native.Mathlib.Omega.{arith}
use lib.Dec.{T, eqb, leb, leb→le, eqb→eq, le→leb}
use lib.ListN.{length, get_or, take, drop}
use lib.Seq.{get_or-drop}
use Rattle.meaning.specs.Bytes.{pick, both, either, arg, part, xor_all}
use Rattle.meaning.specs.Commands.{command_of}
use Rattle.meaning.specs.Frames.{command_byte, data_of}
use Rattle.meaning.specs.State.{board_byte}
use Rattle.meaning.specs.Bench.{allowed, address_ok, address_for, address_byte, request, written, Verdict, refusal, done, failed, judge, piece_of, handed}
use Rattle.meaning.specs.Demands.{Grounds, contents, PieceIsData, OnlyRequestsPass}
use Rattle.meaning.proofs.Steps.{both_0, both_1}
use Rattle.meaning.proofs.Fitting.{only_if_fits}
use Rattle.meaning.proofs.Bytewise.{written-is-request}

-- a list of one byte
only_byte : (l : List ℕ) → length l ≡ 1 → l ≡ get_or l 0 0 ∷ []
only_byte [] e = absurd (omega arith)
only_byte (x ∷ []) e = refl
only_byte (x ∷ y ∷ l) e = absurd (omega arith)

first_of : (r : List ℕ) → length (data_of r) ≡ 1 → data_of r ≡ arg r 2 ∷ []
unfolding data_of
first_of r e = only_byte (data_of r) e ∙ ap (λ (x : ℕ). x ∷ []) (front (length r - 3) (drop 2 r) e ∙ get_or-drop 2 r 0 0)
  where
    front : (n : ℕ) (l : List ℕ) → length (take n l) ≡ 1 → get_or (take n l) 0 0 ≡ get_or l 0 0
    front zero l e = absurd (omega arith)
    front (suc n) [] e = refl
    front (suc n) (x ∷ l) e = refl

pub piece_is_data : PieceIsData
unfolding handed piece_of contents part data_of
piece_is_data q r = go (judge q r) (only_if_fits q r)
  where
    go : (v : Verdict) → Grounds q r v → part r (piece_of r v).from (piece_of r v).count ≡ contents v
    go (refusal n) g = refl
    go (done w d) g = sym g.part
    go (failed w e) g = first_of r g.one_byte ∙ ap (λ (x : ℕ). x ∷ []) (sym g.code)

-- an address byte that the bench takes is that of a number
record Numbered (a : ℕ) : Type 0 where
  number : ℕ
  good : T (address_ok number)
  byte : a ≡ address_for number

board-number : (a : ℕ) → 0x40 ≤ a → a ≤ 0x5F → Numbered a
unfolding address_ok address_for
board-number a h l = record {
  number = a - 0x40;
  good = or_left (leb (a - 0x40) 31) (eqb (a - 0x40) 255) (le→leb (a - 0x40) 31 (omega arith));
  byte = go (eqb (a - 0x40) 255) (eqb→eq (a - 0x40) 255);
}
  where
    or_left : (x y : Bool) → T x → T (either x y)
    or_left true y h = tt
    or_left false y h = absurd h

    go : (q : Bool) → (T q → a - 0x40 ≡ 255) → a ≡ pick q 0xFF (0x40 + (a - 0x40))
    go true e = absurd (omega (arith, e tt))
    go false e = omega arith

by_number : (a : ℕ) → T (address_byte a) → Numbered a
unfolding address_byte board_byte address_ok address_for
by_number a h =
    go (leb 0x40 a) (leb a 0x5F) (eqb a 0xFF) (leb→le 0x40 a) (leb→le a 0x5F) (eqb→eq a 0xFF) h
  where
    go : (x y z : Bool) → (T x → 0x40 ≤ a) → (T y → a ≤ 0x5F) → (T z → a ≡ 0xFF) → T (either (both x y) z) → Numbered a
    go true true z e f g h = board-number a (e tt) (f tt)
    go true false true e f g h = record { number = 255; good = tt; byte = g tt }
    go true false false e f g h = absurd h
    go false y true e f g h = record { number = 255; good = tt; byte = g tt }
    go false y false e f g h = absurd h

pub only_requests_pass : OnlyRequestsPass
unfolding written
only_requests_pass q w =
    let rest = both (eqb (xor_all q) 0) (both (address_byte (arg q 0)) (allowed (command_of (command_byte q)) (data_of q))) in
    let more = both_1 (eqb (xor_all q) 0) (both (address_byte (arg q 0)) (allowed (command_of (command_byte q)) (data_of q))) (both_1 (leb 3 (length q)) rest w) in
    let n = by_number (arg q 0) (both_0 (address_byte (arg q 0)) (allowed (command_of (command_byte q)) (data_of q)) more) in
    record {
      number = n.number;
      address = n.good;
      may = both_1 (address_byte (arg q 0)) (allowed (command_of (command_byte q)) (data_of q)) more;
      bytes = written-is-request q w ∙ ap (λ (a : ℕ). request a (command_byte q) (data_of q)) n.byte;
    }
