-- After an accepted 43h the position told moves with what is measured. Assumes nothing.
use Prim.Native.Nat.{ℕ, ◌+◌, ◌-◌, ◌%◌, ◌^◌, ◌<◌}
use mathlib.Core.Path.{◌≡◌, sym, ap, ◌∙◌}
use mathlib.Core.Bool.{Bool, not}
use mathlib.Core.List.{List, []}
use native.Mathlib.Omega.{arith}
use native.Mathlib.Nat.{mod-lt, mod-add-mod, add-mod-mod, add-mod_right}
use lib.Dec.{T}
use lib.ListN.{take}
use lib.Pow.{pow_pos}
use Rattle.meaning.specs.Bytes.{number, bytes4}
use Rattle.meaning.specs.State.{Plate, State, position, offset_for, with_offset, with_measured}
use Rattle.meaning.specs.Commands.{Answer, accept, error, read_position, set_position}
use Rattle.meaning.specs.Demands.{MovesFrom, MovesWithMeasured}
use Rattle.meaning.proofs.Choices.{through}
use Rattle.meaning.proofs.Room.{pass}

-- modulo n: y is x + k, so y and (w − x) make w + k
turned : (n w x y k : ℕ) → 0 < n → y % n ≡ (x + k) % n → (y % n + (w + n - x % n) % n) % n ≡ (w + k) % n
turned n w x y k some e =
    let low : x % n < n = mod-lt x some in
    let z : ℕ = w + n - x % n in
    add-mod-mod (y % n) z n ∙ ap (λ (a : ℕ). (a + z) % n) e ∙ mod-add-mod (x + k) n z
    ∙ ap (λ (a : ℕ). a % n) (the x k z) ∙ sym (mod-add-mod x n (k + z)) ∙ ap (λ (a : ℕ). a % n) (sum low) ∙ add-mod_right (w + k) n
  where
    the : (x k z : ℕ) → x + k + z ≡ x + (k + z)
    the x k z = omega arith

    sum : x % n < n → x % n + (k + (w + n - x % n)) ≡ w + k + n
    sum low = omega arith

pub moves_with_measured : MovesWithMeasured
unfolding set_position read_position position offset_for with_offset with_measured
moves_with_measured p s m d =
    let w : ℕ = number (take 4 d) 0 in
    let go : (e : ℕ) (q : Bool) (a : Answer) → (T (not q) → MovesFrom p s.measured w a) → MovesFrom p s.measured w (error e q a) = through (MovesFrom p s.measured w) (λ e. tt) in
    go _ _ _ (λ free. go _ _ _ (λ _. go _ _ _ (λ _ y k e.
    pass _ _ _ free ∙ ap (λ (n : ℕ). accept (bytes4 n) (with_measured (with_offset s (offset_for p s w)) y) m) (turned (2 ^ p.bits) w s.measured y k (pow_pos p.bits) e))))
