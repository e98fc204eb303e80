-- No two differing outcomes satisfy a contract of this crate (01, "How tightly the contracts bind"). Assumes nothing.
use mathlib.Core.Path.{◌≡◌, refl, sym, ap, ◌∙◌}
use mathlib.Core.List.{List}
use Prim.Native.Nat.{ℕ}
use lib.Dec.{eqb}
use Rattle.meaning.specs.Bytes.{pick}
use Rattle.meaning.specs.Bench.{Written}
use Rattle.std.specs.Prelude.{Some, None, Ok, Err}
use Rattle.bench.specs.declared.request.Unwritten.TheVariants.{R4, R5}
use Rattle.programmer.specs.Running.{AskedFor, asked_of}

-- what is told leads back to the answer
abbrev asked_back : Written → AskedFor
asked_back w = pick (eqb w.refusal 6) (Ok None) (pick (eqb w.refusal 4) (Err R4) (pick (eqb w.refusal 5) (Err R5) (Ok (Some w.count))))

asked_back_lem : (r : AskedFor) (buffer : List ℕ) → asked_back (asked_of r buffer) ≡ r
asked_back_lem (Ok (Some n)) buffer = refl
asked_back_lem (Ok None) buffer = refl
asked_back_lem (Err R4) buffer = refl
asked_back_lem (Err R5) buffer = refl

same-buffer : (r : AskedFor) (buffer : List ℕ) → (asked_of r buffer).buffer ≡ buffer
same-buffer (Ok (Some n)) buffer = refl
same-buffer (Ok None) buffer = refl
same-buffer (Err R4) buffer = refl
same-buffer (Err R5) buffer = refl

pub next_tight : (w : Written) (r s : AskedFor) (b c : List ℕ) → asked_of r b ≡ w → asked_of s c ≡ w → (r ≡ s) × (b ≡ c)
next_tight w r s b c p q = (
  sym (asked_back_lem r b) ∙ ap asked_back (p ∙ sym q) ∙ asked_back_lem s c,
  sym (same-buffer r b) ∙ ap (λ (x : Written). x.buffer) (p ∙ sym q) ∙ same-buffer s c,
)
