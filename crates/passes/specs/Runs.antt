-- A run of passes, each by its contract, prints what the whole tape prints (01, "The answer program"). Assumes nothing.
use Rattle.std.specs.Prelude.{ℕ, ◌-◌, ◌≡◌, List, [], ◌∷◌, ◌++◌, length, drop}
use Rattle.tape.specs.Text.{first_line}
use Rattle.tape.specs.Answers.{answers_of}
use Rattle.tape.specs.Passes.{Feed, tape_of, Settled, closing}
use Rattle.passes.specs.Sessions.{stage_of, AtTapeStart, pass_over, Eats}
use Rattle.passes.specs.declared.session.Session.{Session}
use Rattle.passes.specs.declared.passes.Eaten.{Eaten}

-- where a program stands: session, kept bytes, memory, and the bytes that are left in its window
pub record Stand : Type 0 where
  pub session : Session
  pub kept : List ℕ
  pub memory : List ℕ
  pub left : List ℕ

-- passes one after another: each over what is left and more bytes behind it, into an output with whatever space; the text is what they print
pub data Run : Stand → List Feed → Stand → List ℕ → Type 0 where
  rest : (a : Stand) → Run a [] a []
  pass : (a b : Stand) (f : Feed) (fs : List Feed) (text : List ℕ) (w out : List ℕ) (used : ℕ) (r : Eaten) (kept m w' out' : List ℕ) → f.space ≡ length out - used
      → Eats a.session (a.left ++ f.bytes) a.kept a.memory w out used r kept m w' out'
      → Run (record { session = r.session; kept = kept; memory = m; left = drop r.read (a.left ++ f.bytes) }) fs b text
      → Run a (f ∷ fs) b ((pass_over a.session (a.left ++ f.bytes) a.kept a.memory out used).printed ++ text)

-- from the first byte to the last, in whatever parts: the first line, the lines of the passes and the end's line are those of the whole tape
abbrev pub RunPrints : Type 0
RunPrints =
    (a b : Stand) (fs : List Feed) (text : List ℕ) → AtTapeStart a.session → a.left ≡ [] → Run a fs b text → Settled (stage_of b.session b.kept b.memory) b.left
    → first_line ++ (text ++ closing (stage_of b.session b.kept b.memory) b.session.place b.left) ≡ answers_of (tape_of fs)
