-- The bytes of a number, three or four, the low byte first (01, "Numbers little-endian"). Assumes nothing.
use Rattle.std.specs.Prelude.{ℕ, ◌/◌, ◌%◌, List, ◌∷◌}

-- before the rest of a list
abbrev pub low3 : ℕ → List ℕ → List ℕ
low3 n rest = n % 256 ∷ n / 0x100 % 256 ∷ n / 0x10000 % 256 ∷ rest

abbrev pub low4 : ℕ → List ℕ → List ℕ
low4 n rest = n % 256 ∷ n / 0x100 % 256 ∷ n / 0x10000 % 256 ∷ n / 0x1000000 % 256 ∷ rest
