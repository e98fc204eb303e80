-- Laws of choices: `pick`, `both`, `either`, `error` and `choose`, and the choices of 4Dh. Assumes nothing.
use Prim.Native.Nat.{ℕ}
use mathlib.Core.Path.{◌≡◌, refl}
use mathlib.Core.Bool.{Bool, true, false, not, ◌&&◌, false≢true}
use mathlib.Core.List.{List, [], ◌∷◌}
use lib.Dec.{T}
use Rattle.meaning.specs.Bytes.{pick, both, either, arg}
use Rattle.meaning.specs.State.{Plate, State}
use Rattle.meaning.specs.Commands.{Answer, refuse, accept, error, choose, create, modify, delete, shape_field}

pub pick_true {ℓ} : {A : Type ℓ} (b : Bool) (x y : A) → T b → pick b x y ≡ x
pick_true true x y h = refl
pick_true false x y h = absurd h

pub told-true : (b : Bool) → T b → b ≡ true
told-true true h = refl
told-true false h = absurd h

pub true-told : (b : Bool) → b ≡ true → T b
true-told b e = rw e tt

-- a choice between one thing twice
pub pick_same {ℓ} : {A : Type ℓ} (b : Bool) (x : A) → pick b x x ≡ x
pick_same true x = refl
pick_same false x = refl

pub both_intro : (a b : Bool) → T a → T b → T (both a b)
both_intro true b x y = y
both_intro false b x y = x

pub both_left : (a b : Bool) → both a b ≡ true → a ≡ true
both_left true b e = refl
both_left false b e = e

pub both_right : (a b : Bool) → both a b ≡ true → b ≡ true
both_right true b e = e
both_right false b e = absurd (false≢true e)

pub both_true : (a : Bool) → both a true ≡ a
both_true true = refl
both_true false = refl

pub both_false : (a : Bool) → both a false ≡ false
both_false true = refl
both_false false = refl

-- `&` of the code
pub and_both : (a b : Bool) → a && b ≡ both a b
and_both true b = refl
and_both false b = refl

pub either_true : (a : Bool) → either a true ≡ true
either_true true = refl
either_true false = refl

pub either-false : (a : Bool) → either a false ≡ a
either-false true = refl
either-false false = refl

-- what holds of both answers, each where it is chosen, holds of the choice
pub choose_by : (P : Answer → Type 0) (q : Bool) (a b : Answer) → (T q → P a) → (T (not q) → P b) → P (choose q a b)
unfolding choose
choose_by P true a b x y = x tt
choose_by P false a b x y = y tt

-- a property that every refusal has, through a check
pub through : (P : Answer → Type 0) → ((e : ℕ) → P (refuse e)) → (e : ℕ) (q : Bool) (a : Answer) → (T (not q) → P a) → P (error e q a)
unfolding error
through P f e true a g = f e
through P f e false a g = g tt

-- 4Dh creates, modifies and deletes alike: it refuses, or tells field and status and leaves the state. A property of all such answers it has
module _ (P : Answer → Type 0) (refuses : (e : ℕ) → P (refuse e)) (p : Plate) (s : State) (m d : List ℕ)
    (tells : (m' : List ℕ) → P (accept (arg d 0 ∷ arg d 1 ∷ []) s m')) where
  past : (e : ℕ) (q : Bool) (a : Answer) → P a → P (error e q a)
  past e q a h = through P refuses e q a (λ _. h)

  either_way : (q : Bool) (a b : Answer) → P a → P b → P (choose q a b)
  either_way q a b x y = choose_by P q a b (λ _. x) (λ _. y)

  pub shaped_by : P (shape_field p s m d)
  unfolding shape_field create modify delete
  shaped_by =
      past _ _ _ (either_way _ _ _
      (either_way _ _ _ (past _ _ _ (past _ _ _ (tells _))) (either_way _ _ _ (past _ _ _ (past _ _ _ (past _ _ _ (tells _)))) (refuses _)))
      (either_way _ _ _ (past _ _ _ (past _ _ _ (past _ _ _ (tells _)))) (refuses _)))
