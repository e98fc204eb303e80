-- Two code states that say the same are the same. Assumes nothing.
use Prim.Native.Nat.{ℕ, ◌≤◌}
use native.Mathlib.Omega.{arith}
use mathlib.Core.Path.{◌≡◌, refl, sym, ap, ◌∙◌}
use mathlib.Core.Bool.{Bool}
use mathlib.Core.List.{List, []}
use lib.ListN.{length, drop}
use Rattle.meaning.specs.Bytes.{arg}
use Rattle.meaning.specs.State as meaning
use Rattle.meaning.specs.State.{with_lock, with_queue, none, state_ok}
use Rattle.meaning.specs.Commands.{Command}
use Rattle.wire.specs.declared.codes.ErrorCode.{ErrorCode}
use Rattle.state.specs.declared.faults.Faults.{Faults}
use Rattle.state.specs.declared.faults.Oldest.{Oldest}
use Rattle.state.specs.declared.state.State.{State}
use Rattle.state.specs.declared.rows.Worked.{Worked}
use Rattle.state.specs.Queue.{waiting, queue_of, holding, Queues, Reads}
use Rattle.state.specs.State.{state_with}
use Rattle.std.specs.Prelude.{Result, Ok, Err}
use Rattle.state.specs.Rows.{answer_in, effect_in, Answers}
use Rattle.std.proofs.Common.{rules}
use Rattle.state.proofs.Places.{front, behind}

same-front : (c e : ℕ) (q u : List ℕ) → waiting c q ≡ waiting e u → c ≡ e
same-front c e q u h = sym (front c q) ∙ ap (λ (x : List ℕ). arg x 0) h ∙ front e u

same_behind : (c e : ℕ) (q u : List ℕ) → waiting c q ≡ waiting e u → q ≡ u
same_behind c e q u h = sym (behind c q) ∙ ap (drop 1) h ∙ behind e u

parts : {a b c d a' b' c' d' : ℕ} {l l' : Bool} → a ≡ a' → b ≡ b' → c ≡ c' → d ≡ d' → l ≡ l'
    → ◌≡◌ {A = Faults} (record { first = a; second = b; third = c; fourth = d; locked = l }) (record { first = a'; second = b'; third = c'; fourth = d'; locked = l' })
parts i j k n o = rw (i, j, k, n, o)

-- the four places are known by the waiting codes
pub same_faults : (f g : Faults) → queue_of f ≡ queue_of g → f.locked ≡ g.locked → f ≡ g
unfolding queue_of
same_faults f g h l =
    let h₂ = same_behind f.first g.first _ _ h in
    let h₃ = same_behind f.second g.second _ _ h₂ in
    let h₄ = same_behind f.third g.third _ _ h₃ in
    parts (same-front f.first g.first _ _ h) (same-front f.second g.second _ _ h₂) (same-front f.third g.third _ _ h₃)
    (same-front f.fourth g.fourth [] [] h₄) l

fields : {a a' : List ℕ} {b x c d b' x' c' d' : ℕ} {f f' : Faults} → a ≡ a' → b ≡ b' → x ≡ x' → c ≡ c' → d ≡ d' → f ≡ f'
    → ◌≡◌ {A = State} (record { codes = a; counter = b; address = x; offset = c; measured = d; faults = f }) (record { codes = a'; counter = b'; address = x'; offset = c'; measured = d'; faults = f' })
fields i j y k n o = rw (i, j, y, k, n, o)

pub same-state : (s t : State) (l n : meaning.Line) → state_with s l ≡ state_with t n → s ≡ t
same-state s t l n h =
    fields (ap (λ (x : meaning.State). x.codes) h) (ap (λ (x : meaning.State). x.counter) h) (ap (λ (x : meaning.State). x.address) h) (ap (λ (x : meaning.State). x.offset) h)
    (ap (λ (x : meaning.State). x.measured) h) (same_faults s.faults t.faults (ap (λ (x : meaning.State). x.queue) h) (ap (λ (x : meaning.State). x.locked) h))

-- so no two differing outcomes satisfy a contract of this crate (01, "How tightly the contracts bind")
pub held_tight : (s : meaning.State) (f g : Faults) → holding s f ≡ holding s g → f ≡ g
unfolding holding with_lock with_queue
held_tight s f g h = same_faults f g (ap (λ (x : meaning.State). x.queue) h) (ap (λ (x : meaning.State). x.locked) h)

pub state_tight : (l : meaning.Line) (y : meaning.State) (a b : State) → state_with a l ≡ y → state_with b l ≡ y → a ≡ b
state_tight l y a b h i = same-state a b l l (h ∙ sym i)

pub is_ok_tight : (s : State) (bits : ℕ) (a b : Bool)
    → ((p : meaning.Plate) (l : meaning.Line) → p.bits ≡ bits → length l.kept ≤ 135 → a ≡ state_ok p (state_with s l))
    → ((p : meaning.Plate) (l : meaning.Line) → p.bits ≡ bits → length l.kept ≤ 135 → b ≡ state_ok p (state_with s l)) → a ≡ b
unfolding none
is_ok_tight s bits a b h i =
    let p : meaning.Plate = record { total = 1; bits = bits; address = 0; ticks = 1; pause = 22; label = [] } in
    h p none refl (omega arith) ∙ sym (i p none refl (omega arith))

pub queues_tight : (f : Faults) (q : List ℕ) (r t : Faults) → Queues f q r → Queues f q t → r ≡ t
queues_tight f q r t h i = same_faults r t (h.queue ∙ sym i.queue) (h.lock ∙ sym i.lock)

oldest : {c d : ℕ} {f g : Faults} → c ≡ d → f ≡ g → ◌≡◌ {A = Oldest Faults} (record { code = c; rest = f }) (record { code = d; rest = g })
oldest i j = rw (i, j)

pub reads_tight : (f : Faults) (r t : Oldest Faults) → Reads f r → Reads f t → r ≡ t
reads_tight f r t h i = oldest (h.oldest ∙ sym i.oldest) (queues_tight f _ r.rest t.rest h.rest i.rest)

outcomes : (r t : Result Worked ErrorCode) → effect_in r ≡ effect_in t → answer_in r ≡ answer_in t → r ≡ t
outcomes (Ok x) (Ok y) i j = search rules
outcomes (Err x) (Err y) i j = search rules
outcomes (Ok x) (Err y) i j = absurd (search rules)
outcomes (Err x) (Ok y) i j = absurd (search rules)

pub row_tight : (k : Command) (p : meaning.Plate) (s : State) (l : meaning.Line) (m d w : List ℕ) (r t : Result Worked ErrorCode) (u v : List ℕ)
    → Answers k p s l m d w r u → Answers k p s l m d w t v → (r ≡ t) × (u ≡ v)
row_tight k p s l m d w r t u v h i = (outcomes r t (h.effect ∙ sym i.effect) (h.answer ∙ sym i.answer), h.room ∙ sym i.room)
