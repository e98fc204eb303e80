-- The lines that the answer program prints, as bytes (01, "It prints the line `tick reply`"). Assumes nothing.
use Rattle.std.specs.Prelude.{ℕ, zero, suc, ◌+◌, ◌/◌, ◌%◌, List, [], ◌∷◌, ◌++◌, ltb}
use Rattle.meaning.specs.Bytes.{pick}

-- how long lines are: without a reply's bytes, a tick of ten digits and the line's end; the first line; `bad `, a place of twenty digits, the end
abbrev pub bare_line : ℕ
bare_line = 11

abbrev pub first_length : ℕ
first_length = 11

abbrev pub longest_bad_line : ℕ
longest_bad_line = 25

-- 01, "in decimal": the digits of a number below 10 to the power k + 1, no 0 in front
unfoldable pub decimal_in : ℕ → ℕ → List ℕ
decimal_in zero n = (48 + n % 10) ∷ []
decimal_in (suc k) n = pick (ltb n 10) ((48 + n) ∷ []) (decimal_in k (n / 10) ++ ((48 + n % 10) ∷ []))

-- of a number of at most 20 digits: every tick and every place has fewer
unfoldable pub decimal_of : ℕ → List ℕ
decimal_of n = decimal_in 19 n

-- 01, "the bytes in hex": `0` to `9`, `A` to `F`
unfoldable pub digit_of : ℕ → ℕ
digit_of n = pick (ltb n 10) (48 + n) (55 + n)

unfoldable pub hex_of : List ℕ → List ℕ  -- each byte as a space and two digits
hex_of [] = []
hex_of (b ∷ bs) = 32 ∷ digit_of (b / 16) ∷ digit_of (b % 16) ∷ hex_of bs

-- 01, "the event's tick in decimal and the bytes in hex"
unfoldable pub reply_line : ℕ → List ℕ → List ℕ
reply_line tick reply = decimal_of tick ++ (hex_of reply ++ (10 ∷ []))

unfoldable pub first_line : List ℕ  -- `tick reply`
first_line = 116 ∷ 105 ∷ 99 ∷ 107 ∷ 32 ∷ 114 ∷ 101 ∷ 112 ∷ 108 ∷ 121 ∷ 10 ∷ []

unfoldable pub bad_line : ℕ → List ℕ  -- `bad N`
bad_line place = 98 ∷ 97 ∷ 100 ∷ 32 ∷ (decimal_of place ++ (10 ∷ []))
