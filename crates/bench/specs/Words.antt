-- What is printed of the bench's answers. Assumes nothing.
use Rattle.std.specs.Prelude.{ℕ, ◌/◌, ◌%◌, true, List, [], ◌∷◌, ◌++◌, codes}
use Rattle.std.specs.Fmt.{decimal, digit_glyph}
use Rattle.bench.specs.declared.request.Unwritten.{Unwritten}
use Rattle.bench.specs.declared.request.Unwritten.TheVariants.{R4, R5}
use Rattle.bench.specs.declared.reply.Refusal.{Refusal}
use Rattle.bench.specs.declared.reply.Verdict.{Verdict}
use Rattle.bench.specs.declared.reply.Verdict.TheVariants.{Done, DoneWithWarning, Error, ErrorWithWarning}
use Rattle.bench.specs.Outcomes.{check_number}

abbrev pub unwritten_text : Unwritten → List ℕ
unwritten_text R4 = codes "R4"
unwritten_text R5 = codes "R5"

abbrev pub refusal_text : Refusal → List ℕ
refusal_text b = codes "B" ++ decimal (check_number b)

-- a byte's two hexadecimal digits
abbrev pub byte_text : ℕ → List ℕ
byte_text n = digit_glyph true (n / 16) ∷ digit_glyph true (n % 16) ∷ []

abbrev pub verdict_text : Verdict → List ℕ
verdict_text Done = codes "done"
verdict_text DoneWithWarning = codes "done with warning"
verdict_text (Error e) = codes "error code " ++ byte_text e
verdict_text (ErrorWithWarning e) = codes "error code " ++ byte_text e ++ codes " with warning"
