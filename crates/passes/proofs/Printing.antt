-- A run of passes prints what the whole tape prints. Assumes nothing.
use Prim.Native.Nat.{ℕ, ◌+◌}
use mathlib.Core.Path.{◌≡◌, refl, ap, ◌∙◌}
use mathlib.Core.List.{List, [], ◌++◌}
use lib.ListN.{drop}
use Rattle.tape.specs.Answers.{opening}
use Rattle.tape.specs.Passes.{Feed, Fed, fed}
use Rattle.tape.proofs.Streams.{any_parts}
use Rattle.passes.specs.Sessions.{stage_of, pass_over}
use Rattle.passes.specs.Runs.{Stand, Run, rest, pass, RunPrints}

-- where a run ends and what it prints are the meaning's
record Same (a b : Stand) (fs : List Feed) (text : List ℕ) : Type 0 where
  stage : stage_of b.session b.kept b.memory ≡ (fed (stage_of a.session a.kept a.memory) a.session.place a.left fs).stage
  place : b.session.place ≡ (fed (stage_of a.session a.kept a.memory) a.session.place a.left fs).place
  left : b.left ≡ (fed (stage_of a.session a.kept a.memory) a.session.place a.left fs).left
  printed : text ≡ (fed (stage_of a.session a.kept a.memory) a.session.place a.left fs).printed

same : {a b : Stand} {fs : List Feed} {text : List ℕ} → Run a fs b text → Same a b fs text
unfolding fed
same (rest a) = record { stage = refl; place = refl; left = refl; printed = refl }
same (pass a b f fs text w out used r kept m w' out' s e next) =
    let k = same next in
    let u = a.left ++ f.bytes in
    let p = pass_over a.session u a.kept a.memory out used in
    let q : fed (stage_of r.session kept m) r.session.place (drop r.read u) fs ≡ fed p.stage (a.session.place + p.read) (drop p.read u) fs
    = rw (e.stage, e.place, e.read) in
    rw s
    (record {
      stage = k.stage ∙ ap (λ (x : Fed). x.stage) q;
      place = k.place ∙ ap (λ (x : Fed). x.place) q;
      left = k.left ∙ ap (λ (x : Fed). x.left) q;
      printed = ap (λ (l : List ℕ). p.printed ++ l) (k.printed ∙ ap (λ (x : Fed). x.printed) q);
    })

pub run_prints : RunPrints
run_prints a b fs text start empty run settled =
    let k = same run in
    let q : fed (stage_of a.session a.kept a.memory) a.session.place a.left fs ≡ fed opening 0 [] fs = rw (start.phase, start.place, empty) in
    let i : stage_of b.session b.kept b.memory ≡ (fed opening 0 [] fs).stage = k.stage ∙ ap (λ (x : Fed). x.stage) q in
    let j : b.session.place ≡ (fed opening 0 [] fs).place = k.place ∙ ap (λ (x : Fed). x.place) q in
    let l : b.left ≡ (fed opening 0 [] fs).left = k.left ∙ ap (λ (x : Fed). x.left) q in
    let t : text ≡ (fed opening 0 [] fs).printed = k.printed ∙ ap (λ (x : Fed). x.printed) q in
    rw (i, j, l, t) (any_parts fs (rw (i, l) at settled))
