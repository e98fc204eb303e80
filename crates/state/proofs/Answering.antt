-- A command's ways out: refused, accepted, quiet; and the bytes that it puts into the room. Assumes nothing.
use Prim.Native.Nat.{ℕ, ◌≤◌}
use native.Mathlib.Omega.{arith}
use mathlib.Core.Path.{◌≡◌, refl, sym, ap, ◌∙◌}
use mathlib.Core.Bool.{Bool, true, false, false≢true}
use mathlib.Core.List.{List, [], ◌∷◌}
use lib.ListN.{length, get_or, take, set}
use Rattle.std.specs.Prelude.{Some, Result, Ok, Err, IsErrAnd, is_ok}
use Rattle.std.specs.Int.{w32, from_be_bytes}
use Rattle.meaning.specs.Bytes.{longest_reply, arg, put, number, bytes4}
use Rattle.meaning.specs.State.{Plate, Line}
use Rattle.meaning.specs.Commands.{Command, refuse, accept, worked}
use Rattle.wire.specs.Numbers.{low4}
use Rattle.wire.specs.declared.codes.ErrorCode.{ErrorCode}
use Rattle.state.specs.declared.state.State.{State}
use Rattle.state.specs.declared.rows.Worked.{Worked}
use Rattle.state.specs.State.{state_with}
use Rattle.state.specs.declared.effects.Effect.{Effect}
use Rattle.state.specs.Effects.{Bounded, effect_on, row_effect}
use Rattle.state.specs.Rows.{refused_if, Answers}
use Rattle.meaning.proofs.Puts.{put-nothing, stored_is-put}

code_in : Result Unit ErrorCode → ErrorCode
code_in (Ok u) = record { byte = 0 }
code_in (Err e) = e

-- a check that fails hands on its error code, and one that passes was no reason to refuse
pub failed : (t : Bool) (e : ℕ) {x : ErrorCode} {r : Result Worked ErrorCode} → Err x ≡ refused_if t e → IsErrAnd r (λ y. y ≡ x) → (t ≡ true) × (r ≡ Err (record { byte = e }))
unfolding code_in
failed true e {r = Err y} h i = (refl, ap Err (i ∙ ap code_in h))
failed true e {r = Ok y} h i = absurd i
failed false e h i = absurd (false≢true (ap is_ok h))

pub passed : (t : Bool) (e : ℕ) {u : Unit} → Ok u ≡ refused_if t e → t ≡ false
passed false e h = refl
passed true e h = absurd (false≢true (sym (ap is_ok h)))

module _ (k : Command) (p : Plate) (s : State) (l : Line) (m d w : List ℕ) where
  pub refuses : (t : Bool) (e : ℕ) {x : ErrorCode} {r : Result Worked ErrorCode} → Err x ≡ refused_if t e → IsErrAnd r (λ y. y ≡ x)
      → (t ≡ true → worked k p (state_with s l) m d ≡ refuse e) → Answers k p s l m d w r w
  unfolding effect_on
  refuses t e h i q =
      let f = failed t e h i in
      rw f.1 (record { answer = rw (q f.0); effect = rw (q f.0); placed = tt; state = rw (q f.0); room = rw (q f.0) })

  pub accepts : {x : Effect} {n : ℕ} {r : Result Worked ErrorCode} {w' : List ℕ} (z : List ℕ) → r ≡ Ok (record { effect = x; reply = Some n })
      → worked k p (state_with s l) m d ≡ accept z (effect_on x (state_with s l)) m → row_effect k p (state_with s l) d ≡ x → Bounded x → n ≡ length z → w' ≡ put w 2 z
      → Answers k p s l m d w r w'
  accepts z h q x t n o = rw h (record { answer = rw q (ap (λ (x : ℕ). Ok (Some x)) n); effect = rw q (sym x); placed = t; state = rw q; room = rw q o })

  -- without reply data the room is as it was
  pub accepts-bare : {x : Effect} {r : Result Worked ErrorCode} → r ≡ Ok (record { effect = x; reply = Some 0 }) → worked k p (state_with s l) m d ≡ accept [] (effect_on x (state_with s l)) m
      → row_effect k p (state_with s l) d ≡ x → Bounded x → Answers k p s l m d w r w
  accepts-bare h q x t = accepts [] h q x t refl (put-nothing w 2)

-- a number's four bytes, low first, stand in a reply high first
pub put_four : (w : List ℕ) (x : ℕ) {b : List ℕ} → longest_reply ≤ length w → b ≡ low4 x []
    → set (set (set (set w 2 (arg b 3)) 3 (arg b 2)) 4 (arg b 1)) 5 (arg b 0) ≡ put w 2 (bytes4 x)
unfolding bytes4
put_four w x h e = rw e (stored_is-put w 2 (bytes4 x) (omega arith))

-- the first four bytes of a request, one by one
pub first-four : (d : List ℕ) → length d ≡ 5 → take 4 d ≡ get_or d 0 0 ∷ get_or d 1 0 ∷ get_or d 2 0 ∷ get_or d 3 0 ∷ []
first-four (a ∷ b ∷ c ∷ e ∷ d) h = refl
first-four [] h = absurd (omega arith)
first-four (a ∷ []) h = absurd (omega arith)
first-four (a ∷ b ∷ []) h = absurd (omega arith)
first-four (a ∷ b ∷ c ∷ []) h = absurd (omega arith)

-- 43h, the position wanted: four bytes, high first
pub wanted : (d : List ℕ) → length d ≡ 5 → number (take 4 d) 0 ≡ from_be_bytes w32 (get_or d 0 0 ∷ get_or d 1 0 ∷ get_or d 2 0 ∷ get_or d 3 0 ∷ [])
unfolding number
wanted d h = rw (first-four d h) (omega arith)
