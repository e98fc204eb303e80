-- The poll that closes a sent request: what the board answers, and what the bench makes of it. Assumes nothing.
use Prim.Native.Nat.{ℕ, suc, ◌+◌, ◌-◌, ◌%◌, ◌^◌, ◌<◌, ◌≤◌}
use mathlib.Core.Path.{◌≡◌, refl, sym, ap, ◌∙◌, subst}
use mathlib.Core.Bool.{Bool, true, false, not}
use mathlib.Core.List.{List, [], ◌∷◌}
use native.Mathlib.Omega.{arith}
use lib.Dec.{T, eqb}
use lib.ListN.{length}
use lib.Seq.{take-length}
use Rattle.meaning.specs.Bytes.{pick, either, arg}
use Rattle.meaning.specs.State.{Plate, State, own_byte, with_line}
use Rattle.meaning.specs.Fields.{memory_length}
use Rattle.meaning.specs.Commands.{command_of, worked}
use Rattle.meaning.specs.Characters.{full_pause, closed}
use Rattle.meaning.specs.Frames.{sealed, ours, still, resting, up_to}
use Rattle.meaning.specs.Characters as characters
use Rattle.meaning.specs.Frames as frames
use Rattle.meaning.specs.Run.{Call, poll, step, run_from, closes}
use Rattle.meaning.specs.Bench.{address_ok, address_for, allowed, request, written, refusal, judge, bad}
use Rattle.meaning.specs.Demands.{Sent, meant, concluded}
use Rattle.meaning.proofs.Addresses.{passed_over}
use Rattle.meaning.proofs.Lines.{poll-works}
use Rattle.meaning.proofs.Wire.{length-sealed, verdict_follows, writes_well}
use Rattle.exchange.specs.Calls.{stamp_of, sending}
use Rattle.exchange.specs.Passing.{reached, answer_to, verdict_on}
use Rattle.exchange.proofs.Running.{kept-begun, Runs, runs, pause-closes, begun_then, sent-is-told}

-- 01, "judged in this order", 1: a frame for another address
elsewhere : (p : Plate) (s : State) (m : List ℕ) (now : ℕ) (q : List ℕ) → characters.over p s now ≡ true → s.line.kept ≡ q
    → ours (resting s) q ≡ false → step p s m (poll now) ≡ still (resting s) m
unfolding step up_to frames.close closed
elsewhere p s m now q o e away = rw o (passed_over p (resting s) m (closed s.line) (ap (ours (resting s)) e ∙ away))

-- the request's first byte is its address
first_byte : (a c : ℕ) (d : List ℕ) → arg (request a c d) 0 ≡ a
unfolding request sealed
first_byte a c d = refl

pub request-long : (a c : ℕ) (d : List ℕ) → 3 ≤ length (request a c d)
unfolding request
request-long a c d = omega (arith, length-sealed (a ∷ c ∷ d))

module _ (p : Plate) (s : State) (m : List ℕ) (tick spacing : ℕ) (a c : ℕ) (d : List ℕ) (idle : s.line.begun ≡ false) (low : tick < 2 ^ 32)
    (close : spacing < full_pause p) (few : full_pause p < 2 ^ 32) (short : length (request a c d) ≤ 135)
    (home : s.address ≤ 31) (labelled : length p.label ≡ 41) (size : length m ≡ memory_length p.total) (may : T (allowed (command_of c) d)) where
  abbrev q : List ℕ
  q = request a c d

  abbrev gs : List Call
  gs = sending tick spacing q (length q)

  abbrev now : ℕ
  now = (stamp_of tick spacing (length q - 1) + full_pause p) % 2 ^ 32

  one_last : length q ≡ suc (length q - 1)
  one_last = omega (arith, request-long a c d)

  pub over-now : characters.over p (run_from p s m gs).state now ≡ true
  over-now =
      let e = one_last in
      subst (λ (n : ℕ). characters.over p (run_from p s m (sending tick spacing q n)).state now ≡ true) (sym e)
      (pause-closes p s m tick spacing q idle low close short (length q - 1) (omega (arith, e)) few)

  begun-now : (run_from p s m gs).state.line.begun ≡ true
  begun-now =
      let e = one_last in
      subst (λ (n : ℕ). (run_from p s m (sending tick spacing q n)).state.line.begun ≡ true) (sym e)
      (begun_then p s m tick spacing q idle low close short (length q - 1) (omega (arith, e)))

  all : Runs p s m tick spacing q (length q)
  all = runs p s m tick spacing q idle low close short (length q) (omega arith)

  -- Demand 2, for this board
  answered-here : T (either (eqb a (own_byte s)) (eqb a 0xFF)) → step p (run_from p s m gs).state m (poll now) ≡ meant p (resting s) m c d
  unfolding run_from closes
  answered-here h =
      let w : Sent p s m a c d = record { address = home; label = labelled; size = size; ours = h; may = may } in
      let t = sent-is-told p s m tick spacing q idle low close short a c d refl w in
      let o : T (characters.over p (run_from p s m gs).state now) = rw over-now tt in
      ap (λ (x : List ℕ). step p (run_from p s m gs).state x (poll now)) (sym all.memory)
      ∙ poll-works p s m gs a c d t now o
      ∙ ap (λ (x : State). meant p x m c d) all.rests

  answered-elsewhere : either (eqb a (own_byte s)) (eqb a 0xFF) ≡ false → step p (run_from p s m gs).state m (poll now) ≡ still (resting s) m
  unfolding ours own_byte
  answered-elsewhere h =
      let r : State = (run_from p s m gs).state in
      let k : r.line.kept ≡ q = kept-begun r q begun-now (all.kept ∙ take-length q) in
      let here : ours (resting s) q ≡ false = unfold resting with_line in (rw (first_byte a c d) h) in
      let away : ours (resting r) q ≡ false = ap (λ (x : State). ours x q) all.rests ∙ here in
      elsewhere p r m now q over-now k away ∙ ap (λ (x : State). still x m) all.rests

  pub poll-answers : step p (run_from p s m gs).state m (poll now) ≡ answer_to p (resting s) m a c d
  unfolding answer_to reached own_byte resting with_line
  poll-answers = go (either (eqb a (own_byte s)) (eqb a 0xFF)) refl
    where
      go : (t : Bool) → either (eqb a (own_byte s)) (eqb a 0xFF) ≡ t → step p (run_from p s m gs).state m (poll now) ≡ pick t (meant p (resting s) m c d) (still (resting s) m)
      go true e = answered-here (rw e tt)
      go false e = answered-elsewhere e

-- what the bench makes of it: by the row's answer, or silence
module _ (p : Plate) (s : State) (m : List ℕ) (n c : ℕ) (d : List ℕ) (home : s.address ≤ 31) (labelled : length p.label ≡ 41) (size : length m ≡ memory_length p.total)
    (right : T (address_ok n)) (may : T (allowed (command_of c) d)) where
  abbrev to : ℕ
  to = address_for n

  silent : judge (request to c d) [] ≡ refusal 1
  unfolding judge bad
  silent = go (written (request to c d)) (writes_well n c d right may).0
    where
      go : (t : Bool) → T t → bad 0 (not t) (refusal 1) ≡ refusal 1
      go true h = refl
      go false h = absurd h

  pub verdict-answers : judge (request to c d) (answer_to p s m to c d).reply ≡ verdict_on p s m to c d
  unfolding answer_to verdict_on reached still
  verdict-answers = go (either (eqb to (own_byte s)) (eqb to 0xFF)) refl
    where
      go : (t : Bool) → either (eqb to (own_byte s)) (eqb to 0xFF) ≡ t
          → judge (request to c d) (pick t (meant p s m c d) (still s m)).reply
          ≡ pick t (concluded s (worked (command_of c) p s m d)) (refusal 1)
      go true e = verdict_follows p s m to c d (record { address = home; label = labelled; size = size; ours = rw e tt; may = may })
      go false e = silent
