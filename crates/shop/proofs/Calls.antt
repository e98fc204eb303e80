-- The run over the host's calls is the run over requests. Assumes nothing.
use Prim.Native.Nat.{ℕ, suc, ◌+◌, ◌-◌, ◌%◌, ◌^◌, ◌<◌}
use mathlib.Core.Path.{◌≡◌, refl, sym, ap, ◌∙◌, subst}
use mathlib.Core.Bool.{Bool, not}
use mathlib.Core.List.{List, [], ◌∷◌}
use native.Mathlib.Omega.{arith}
use lib.ListN.{length}
use lib.Dec.{T}
use Rattle.meaning.specs.State as board
use Rattle.meaning.specs.State.{with_line, own_byte, plate_ok}
use Rattle.meaning.specs.Characters.{full_pause}
use Rattle.meaning.specs.Commands.{c4a, c4b, c4c, c4d, c4e, command_of, Answer, refuse, accept, quiet, error, on_field, read_field, store_field, field_status, create, modify, delete, shape_field, memory_status, worked}
use Rattle.meaning.specs.Frames.{outcome, resting, close}
use Rattle.meaning.specs.Run.{closes}
use Rattle.meaning.specs.Bench.{address_for, request}
use Rattle.meaning.specs.Demands.{meant, at_close}
use Rattle.meaning.proofs.Choices.{through, choose_by, told-true}
use Rattle.meaning.proofs.Lines.{poll-works, stays_put}
use Rattle.meaning.proofs.Plates.{longest_pause, whole-label}
use Rattle.programmer.specs.Wishes.{Wish, wish_of}
use Rattle.programmer.specs.Steps.{due}
use Rattle.programmer.specs.Running.{at_first, hears}
use Rattle.shop.specs.Promises.{Talk, talked, talked_on, Met, InForce, Programmed}
use Rattle.shop.specs.Passages.{Passage, Scene, talk_of, after_passage, after_passages, Carries, AllCarried, CanBeCarried, ProgramsByCalls}
use Rattle.programmer.specs.declared.step.Step.{Step}
use Rattle.programmer.specs.declared.step.Step.TheVariants.{Count, Look, Remove, Create, Store, Read, Lock}
use Rattle.programmer.specs.declared.step.Standing.{Standing}
use Rattle.programmer.specs.declared.step.Standing.TheVariants.{At, Done, Failed}
use Rattle.shop.proofs.Programming.{programs}
use Rattle.programmer.proofs.Whole.{good-is-whole}
use Rattle.exchange.specs.Calls.{stamp_of, sending}
use Rattle.exchange.proofs.Running.{sent-is-told}
use Rattle.exchange.proofs.Closing.{over-now}

-- the programmer's requests leave the state as it is
module _ (p : board.Plate) (s : board.State) (m d : List ℕ) where
  abbrev Stays : Answer → Type 0
  Stays (refuse e) = Unit
  Stays (accept r s' m') = s' ≡ s
  Stays (quiet s' m') = s' ≡ s

  go : (e : ℕ) (q : Bool) (a : Answer) → (T (not q) → Stays a) → Stays (error e q a)
  go = through Stays (λ e. tt)

  stays_4a : Stays (worked c4a p s m d)
  unfolding worked read_field on_field
  stays_4a = go _ _ _ (λ _. go _ _ _ (λ _. go _ _ _ (λ _. go _ _ _ (λ _. go _ _ _ (λ _. refl)))))

  stays_4b : Stays (worked c4b p s m d)
  unfolding worked store_field on_field
  stays_4b = go _ _ _ (λ _. go _ _ _ (λ _. go _ _ _ (λ _. go _ _ _ (λ _. go _ _ _ (λ _. refl)))))

  stays_4c : Stays (worked c4c p s m d)
  unfolding worked field_status on_field
  stays_4c = go _ _ _ (λ _. go _ _ _ (λ _. refl))

  stays_4d : Stays (worked c4d p s m d)
  unfolding worked shape_field create modify delete
  stays_4d = go _ _ _ (λ _. choose_by Stays _ _ _
      (λ _. choose_by Stays _ _ _ (λ _. go _ _ _ (λ _. go _ _ _ (λ _. refl)))
      (λ _. choose_by Stays _ _ _ (λ _. go _ _ _ (λ _. go _ _ _ (λ _. go _ _ _ (λ _. refl)))) (λ _. tt)))
      (λ _. choose_by Stays _ _ _ (λ _. go _ _ _ (λ _. go _ _ _ (λ _. go _ _ _ (λ _. refl)))) (λ _. tt)))

  stays_4e : Stays (worked c4e p s m d)
  unfolding worked memory_status
  stays_4e = go _ _ _ (λ _. refl)

  stays_state : (c : ℕ) (a : Answer) → Stays a → (outcome s m c a).state ≡ s
  unfolding outcome
  stays_state c (refuse e) h = refl
  stays_state c (accept r s' m') h = h
  stays_state c (quiet s' m') h = h

pub due_stays : (p : board.Plate) (s : board.State) (m : List ℕ) (l : Wish) (st : Step) → (meant p s m (due l st).command (due l st).body).state ≡ s
unfolding meant due command_of
due_stays p s m l Count = stays_state p s m (due l Count).body _ _ (stays_4e p s m (due l Count).body)
due_stays p s m l (Look k) = stays_state p s m (due l (Look k)).body _ _ (stays_4c p s m (due l (Look k)).body)
due_stays p s m l (Remove k st) = stays_state p s m (due l (Remove k st)).body _ _ (stays_4d p s m (due l (Remove k st)).body)
due_stays p s m l (Create i) = stays_state p s m (due l (Create i)).body _ _ (stays_4d p s m (due l (Create i)).body)
due_stays p s m l (Store i) = stays_state p s m (due l (Store i)).body _ _ (stays_4b p s m (due l (Store i)).body)
due_stays p s m l (Read i) = stays_state p s m (due l (Read i)).body _ _ (stays_4a p s m (due l (Read i)).body)
due_stays p s m l (Lock i) = stays_state p s m (due l (Lock i)).body _ _ (stays_4d p s m (due l (Lock i)).body)

module _ (p : board.Plate) (n : ℕ) (l : Wish) where
  -- the states at the closes
  abbrev closings : List Passage → Scene → List board.State
  closings [] x = []
  closings (e ∷ es) x = at_close p x.state x.memory e.calls ∷ closings es (after_passage p l e x)

  closings-length : (es : List Passage) (x : Scene) → length (closings es x) ≡ length es
  closings-length [] x = refl
  closings-length (e ∷ es) x = ap suc (closings-length es (after_passage p l e x))

  -- the programmer is told one address, and the tape's codes are in force
  record Kept (x : Scene) : Type 0 where
    told : x.programmer.address ≡ n
    codes : x.state.codes ≡ l.codes

  -- one passage is one request
  record Passed (e : Passage) (x : Scene) : Type 0 where
    talks : talk_of (after_passage p l e x) ≡ talked p n l (at_close p x.state x.memory e.calls) x.programmer.standing x.memory
    kept : Kept (after_passage p l e x)
    met : Met n l (at_close p x.state x.memory e.calls)

  passes : (e : Passage) (x : Scene) (y : Standing) → x.programmer.standing ≡ y → Kept x → Carries p n l e y x.state x.memory → Passed e x
  unfolding after_passage hears talked resting with_line own_byte
  passes e x (At st) is K c =
      let s = x.state in
      let m = x.memory in
      let o = poll-works p s m e.calls (address_for n) (due l st).command (due l st).body c.0 e.closing c.1 in
      let same = stays_put p s m e.calls c.0.steady in
      let k = same.0 in
      let a = same.1 in
      record {
        talks = rw (is, K.told, o);
        kept = record { told = K.told; codes = rw (o, due_stays p (at_close p s m e.calls) m l st) (k ∙ K.codes) };
        met = record { codes = k ∙ K.codes; address = rw a c.0.sent.address; ours = rw a c.0.sent.ours };
      }
  passes e x Done is K c = absurd c
  passes e x (Failed st w) is K c = absurd c

  all-passed : (es : List Passage) (x : Scene) → Kept x → AllCarried p n l es x → talked_on p n l (closings es x) (talk_of x) ≡ talk_of (after_passages p l es x)
  unfolding talked_on after_passages
  all-passed [] x K c = refl
  all-passed (e ∷ es) x K c =
      let P = passes e x x.programmer.standing refl K c.0 in
      ap (talked_on p n l (closings es (after_passage p l e x))) (sym P.talks) ∙ all-passed es (after_passage p l e x) P.kept c.1

  all_in_force : (es : List Passage) (x : Scene) → Kept x → AllCarried p n l es x → InForce n l (closings es x)
  all_in_force [] x K c = tt
  all_in_force (e ∷ es) x K c =
      let P = passes e x x.programmer.standing refl K c.0 in
      (P.met, all_in_force es (after_passage p l e x) P.kept c.1)

pub programs_by_calls : ProgramsByCalls
programs_by_calls p n t s m es ok good size sd f fit k c e =
    let l = wish_of t in
    let x : Scene = record { programmer = at_first n; state = s; memory = m } in
    let K : Kept p n l x = record { told = refl; codes = k } in
    subst (λ (z : Talk). Programmed p.total l z) (all-passed p n l es x K c)
    (programs p n l m (closings p n l es x)
    (record { label = whole-label p (told-true (plate_ok p) ok); address = good; size = size; trusted = sd; whole = (good-is-whole t f).fit; room = fit })
    (all_in_force p n l es x K c) (omega (arith, closings-length p n l es x, e)))

-- by the exchange's laws: the characters at any spacing below the pause, and a poll after it
pub can_be_carried : CanBeCarried
unfolding closes
can_be_carried p s m a c d tick spacing ok low close short idle sent =
    let q = request a c d in
    let pl = told-true (plate_ok p) ok in
    let few : full_pause p < 2 ^ 32 = omega (arith, longest_pause p pl) in (
      record { calls = sending tick spacing q (length q); closing = (stamp_of tick spacing (length q - 1) + full_pause p) % 2 ^ 32 },
      sent-is-told p s m tick spacing q idle low close short a c d refl sent,
      rw (over-now p s m tick spacing a c d idle low close few short sent.address sent.label sent.size sent.may) tt,
    )
