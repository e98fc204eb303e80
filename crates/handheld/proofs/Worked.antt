-- Numbers of runs and refusals, computed (host/programmer.h). Assumes nothing.
use mathlib.Core.Path.{◌≡◌, refl}
use Rattle.std.specs.Prelude.{Err}
use Rattle.meaning.specs.Bytes.{little}
use Rattle.programmer.specs.Running.{at_first}
use Rattle.programmer.specs.declared.run.Programmer.{Programmer}
use Rattle.programmer.specs.declared.step.Step.TheVariants.{Remove}
use Rattle.programmer.specs.declared.step.Why.TheVariants.{Error}
use Rattle.programmer.specs.declared.step.Standing.TheVariants.{Failed}
use Rattle.programmer.specs.declared.wish.TapeFault.TheVariants.{BadRecord, WrongSize}
use Rattle.handheld.specs.Numbers.{run_number, byte_in, step_in, why_in, standing_in, run_in}
use Rattle.handheld.specs.Entries.{tape_number}

-- the deletion of field 2, whose status was 89h, was answered with 0Fh; three fields were present, and the board was asked by broadcast
abbrev failed : Programmer
failed = record { address = 255; present = 3; standing = Failed (Remove 2 0x89) (Error 0x0F) }

pub run_values : (run_number (at_first 0) ≡ 1) × (run_number failed ≡ 0xFF030F02890203) × (run_in 0xFF030F02890203 ≡ failed)
unfolding run_number little run_in byte_in standing_in step_in why_in
run_values = (refl, refl, refl)

-- a bad record at place 8, and a field of a wrong size at place 29
pub tape_values : (tape_number (Err (BadRecord 8)) ≡ 0x880000001) × (tape_number (Err (WrongSize 29)) ≡ 0x1D80000002)
tape_values = (refl, refl)
