-- No two differing outcomes satisfy a contract of this crate (01, "How tightly the contracts bind"). Assumes nothing.
use Prim.Native.Nat.{ℕ}
use mathlib.Core.Path.{◌≡◌, refl, sym, ap, ◌∙◌}
use mathlib.Core.List.{List, []}
use native.Mathlib.Omega.{arith}
use Rattle.std.specs.Prelude.{Some}
use Rattle.line.specs.declared.plate.Plate.{Plate}
use Rattle.board.specs.declared.limits.Board.{Board}
use Rattle.board.proofs.Promises.{same-state-same-board}
use Rattle.tape.specs.Answers.{Stage, opening, running, ended}
use Rattle.tape.specs.Passes.{closing}
use Rattle.tape.specs.Reader.{Printed}
use Rattle.tape.proofs.Tight.{printed_tight}
use Rattle.turns.specs.Openings.{tape_plate, numbers_of}
use Rattle.passes.specs.Sessions.{stage_in, stage_of, work_in, AtTapeStart, lent_over, Stands, Eats}
use Rattle.passes.specs.declared.session.Phase.{Phase}
use Rattle.passes.specs.declared.session.Phase.TheVariants.{Opening, Running, Ended}
use Rattle.passes.specs.declared.session.Session.{Session}
use Rattle.passes.specs.declared.session.Work.{Work}
use Rattle.passes.specs.declared.session.Stop.{Stop}
use Rattle.passes.specs.declared.passes.Eaten.{Eaten}

sessions : {f f' : Phase} {n n' : ℕ} → f ≡ f' → n ≡ n' → ◌≡◌ {A = Session} (record { phase = f; place = n }) (record { phase = f'; place = n' })
sessions i j = rw (i, j)

pub start_tight : (a b : Session) → AtTapeStart a → AtTapeStart b → a ≡ b
start_tight a b i j = sessions (i.phase ∙ sym j.phase) (i.place ∙ sym j.place)

pub finish_tight : (s : Session) (rest out : List ℕ) (used r t : ℕ) (out' out'' : List ℕ)
    → ((kept m : List ℕ) → Printed (closing (stage_of s kept m) s.place rest) out used r out')
    → ((kept m : List ℕ) → Printed (closing (stage_of s kept m) s.place rest) out used t out'') → (r ≡ t) × (out' ≡ out'')
finish_tight s rest out used r t out' out'' a b = printed_tight (a [] []) (b [] [])

-- a stage tells which phase it is
abbrev step_in : Stage → ℕ
step_in opening = 0
step_in (running p s m) = 1
step_in ended = 2

abbrev step_of : Phase → ℕ
step_of Opening = 0
step_of (Running k) = 1
step_of (Ended o) = 2

step-back : (f : Phase) (kept m : List ℕ) → step_in (stage_in f kept m) ≡ step_of f
step-back Opening kept m = refl
step-back (Running k) kept m = refl
step-back (Ended o) kept m = refl

-- .. and with the board that is or was at work it is that phase
same-phase : (f g : Phase) → step_of f ≡ step_of g → work_in f ≡ work_in g → f ≡ g
same-phase Opening Opening i j = refl
same-phase (Running k) (Running l) i j = let e : k ≡ l = cc in ap Running e
same-phase (Ended o) (Ended u) i j = ap Ended j
same-phase Opening (Running l) i j = absurd (omega arith)
same-phase Opening (Ended u) i j = absurd (omega arith)
same-phase (Running k) Opening i j = absurd (omega arith)
same-phase (Running k) (Ended u) i j = absurd (omega arith)
same-phase (Ended o) Opening i j = absurd (omega arith)
same-phase (Ended o) (Running l) i j = absurd (omega arith)

same-plate : (a b : Plate) → tape_plate a ≡ tape_plate b → a ≡ b
same-plate a b e = ap numbers_of e

works : {p q : Plate} {b c : Board} → p ≡ q → b ≡ c → ◌≡◌ {A = Work} (record { plate = p; board = b }) (record { plate = q; board = c })
works i j = rw (i, j)

-- the board of a phase, and the memory
record Same (f g : Phase) (m' m'' : List ℕ) : Type 0 where
  work : work_in f ≡ work_in g
  memory : m' ≡ m''

stands_tight : (v : Stage) (m : List ℕ) (f g : Phase) (k m' m'' : List ℕ) → Stands v f m k m' → Stands v g m k m'' → Same f g m' m''
stands_tight opening m f g k m' m'' i j = record { work = i.none ∙ sym j.none; memory = i.memory ∙ sym j.memory }
stands_tight (running p t front) m f g k m' m'' i j =
    let b = same-state-same-board i.work.board j.work.board k i.few j.few (omega (arith, i.places)) (i.state ∙ sym j.state) in
    let e : i.work ≡ j.work = works (same-plate i.work.plate j.work.plate (i.plate ∙ sym j.plate)) b in
    record { work = i.is ∙ ap Some e ∙ sym j.is; memory = i.memory ∙ sym j.memory }
stands_tight ended m f g k m' m'' i j = absurd i

-- what a pass's outcome is made of
pub record Alike (r t : Eaten) (kept' kept'' m' m'' w' w'' out' out'' : List ℕ) : Type 0 where
  pub eaten : r ≡ t
  pub kept : kept' ≡ kept''
  pub memory : m' ≡ m''
  pub reply : w' ≡ w''
  pub out : out' ≡ out''

parts : {a b : Session} {i j k l : ℕ} {x y : Stop} → a ≡ b → i ≡ j → k ≡ l → x ≡ y
    → ◌≡◌ {A = Eaten} (record { session = a; read = i; used = k; stop = x }) (record { session = b; read = j; used = l; stop = y })
parts e f g h = rw (e, f, g, h)

pub eat_tight : (s : Session) (window kept m w out : List ℕ) (used : ℕ) {r t : Eaten} {kept' kept'' m' m'' w' w'' out' out'' : List ℕ}
    → Eats s window kept m w out used r kept' m' w' out' → Eats s window kept m w out used t kept'' m'' w'' out'' → Alike r t kept' kept'' m' m'' w' w'' out' out''
eat_tight s window kept m w out used {r} {t} {kept'} {kept''} {m'} {m''} a b =
    let bytes : kept' ≡ kept'' = a.bytes ∙ sym b.bytes in
    let stands = stands_tight (lent_over s window kept m w out used).stage m r.session.phase t.session.phase kept' m' m'' a.stands (rw bytes b.stands) in
    let step = sym (step-back r.session.phase kept' m') ∙ ap step_in (a.stage ∙ sym b.stage) ∙ step-back t.session.phase kept'' m'' in
    let phase = same-phase r.session.phase t.session.phase step stands.work in
    let line = printed_tight a.printed b.printed in
    record {
      eaten = parts (sessions phase (a.place ∙ sym b.place)) (a.read ∙ sym b.read) line.0 (a.stop ∙ sym b.stop);
      kept = bytes;
      memory = stands.memory;
      reply = a.reply ∙ sym b.reply;
      out = line.1;
    }
