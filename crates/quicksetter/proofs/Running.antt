-- A host that starts fresh with blank memory and only calls does the meaning's run, so demand 3 holds of its calls. Assumes nothing.
use Prim.Native.Nat.{ℕ, ◌+◌, ◌-◌, ◌%◌, ◌≤◌, ◌<◌}
use mathlib.Core.Path.{◌≡◌, refl, sym, ap, ap₂, subst, ◌∙◌}
use mathlib.Core.Bool.{Bool, true}
use mathlib.Core.List.{List, [], ◌∷◌}
use native.Mathlib.Omega.{arith}
use lib.Dec.{T, lit<}
use lib.ListN.{length, length-replicate, get_or, take, drop}
use Rattle.meaning.specs.Bytes.{pick, arg, zeros}
use Rattle.meaning.specs.State as meaning
use Rattle.meaning.specs.State.{Plate, plate_ok, state_ok, fresh, own_byte, powered_on, with_line, with_measured}
use Rattle.meaning.specs.Fields.{memory_length}
use Rattle.meaning.specs.Characters.{over, closed}
use Rattle.meaning.specs.Commands.{command_of, Answer, refuse, accept, quiet, free_byte, read_field, memory_status, worked}
use Rattle.meaning.specs.Frames.{Outcome, still, outcome, warned, message, data_of, work, resting, close, up_to}
use Rattle.meaning.specs.Run.{Call, character, poll, measured, fault, power_on, step, run_from, run, closes, Heard, heard, traffic}
use Rattle.meaning.specs.Bench.{bare}
use Rattle.meaning.specs.Ledger.{fields_of, granted, back, byte_of, address_of, Agrees, AnswersTo, Honest, DeletedByName, Wanted, room_reply, BringsTold}
use Rattle.meaning.specs.Demands.{Sent, meant}
use Rattle.meaning.proofs.Choices.{pick_true, both_left, true-told}
use Rattle.meaning.proofs.Limits.{to_lim}
use Rattle.meaning.proofs.Replies.{reply-command}
use Rattle.meaning.proofs.Wire.{data_sealed, work-request}
use Rattle.meaning.proofs.Whole.{memory_by_traffic}
use Rattle.meaning.proofs.Alone.{traffic-alone}
use Rattle.meaning.proofs.Honest.{carried_the_code}
use Rattle.meaning.proofs.Named.{deletions_named}
use Rattle.meaning.proofs.Addresses.{answers-to_one}
use Rattle.meaning.proofs.Room.{refused_for_want_of_room, free_by_traffic}
use Rattle.meaning.proofs.Told.{reads_by_traffic}
use Rattle.meaning.proofs.Plates.{whole-label}
use Rattle.image.specs.Image.{held_in}
use Rattle.quicksetter.specs.Calls.{state_held, lasting_of, image_of, start_ok, rested, Called}
use Rattle.quicksetter.specs.Promises.{Ran, began, called, restarted, QsRuns, QsMemoryByTraffic, QsTrafficAlone, QsCarriedTheCode, QsDeletionsNamed, QsAnswersToOne, ClosesNext, closes_next, QsRefusedForRoom, QsRepliesAsMeant, QsFreeByTraffic, QsReadsByTraffic}
use Rattle.quicksetter.proofs.Starting.{core_again, fresh_holds}
use Rattle.quicksetter.proofs.Resting.{rested_as, measured_again}
use Rattle.quicksetter.proofs.Staying.{Holds, steps_so, was_made, starts, starts_again, restart_holds, goes_on}

pub enough : 134 ≤ length (zeros 134)
enough = rw (length-replicate {A = ℕ} 134 0) (omega arith)

pub stays : (p : Plate) (gs : List Call) (t : List Heard) (img m x : List ℕ) → Ran p gs t img m x → Holds p img m
stays p _ _ img m _ (began old _ f) = starts p old img m f (length-replicate {A = ℕ} (memory_length p.total) 0)
stays p _ _ img m _ (called gs t img₀ m₀ x w g r _ _ w' h wide c) = goes_on p img₀ m₀ w g r img m w' (stays p gs t img₀ m₀ x h) wide c
stays p _ _ img m _ (restarted gs t img₀ _ x old off n r _ h f c) =
    let k = starts_again p (lasting_of img₀) old off f m (stays p gs t img₀ m x h).size in
    goes_on p off m (zeros 134) (measured n) r img m (zeros 134) k enough (c m (zeros 134))

-- a call of an image and a memory within the limits, with room enough, leaves the step's reply
replies : (p : Plate) (img m w : List ℕ) (g : Call) (r : ℕ) (img' m' w' : List ℕ) → Holds p img m → 134 ≤ length w → Called img m w g r img' m' w'
    → take r w' ≡ (step p (state_held img) m g).reply
replies p img m w g r img' m' w' k wide c = (steps_so p img m w g r img' m' w' k wide c).front

-- the state of a board that was off, at its measured position
off-state : (img₀ : List ℕ) (n : ℕ) → with_measured (rested (lasting_of img₀)) n ≡ with_measured (powered_on (state_held img₀)) n
off-state img₀ n = ap (λ (s : meaning.State). with_measured s n) (rested_as img₀) ∙ measured_again (powered_on (state_held img₀)) 0 n

pub qs_runs : QsRuns
unfolding run run_from still traffic step heard closes start_ok
qs_runs p _ _ img _ _ (began old _ f) =
    let k : start_ok p (fresh p) old ≡ true = was_made (start_ok p (fresh p) old) f.answer in
    let ok : plate_ok p ≡ true = both_left (plate_ok p) _ k in
    let e : img ≡ image_of p (fresh p) (zeros 135) = f.image ∙ ap (λ (b : Bool). pick b (image_of p (fresh p) (zeros 135)) old) k in
    record { state = ap state_held e ∙ ap held_in (core_again p (fresh p) (zeros 135) ok) ∙ fresh_holds p; memory = refl; reply = refl; wire = refl }
qs_runs p _ _ img m _ (called gs t img₀ m₀ x w g r _ _ w' h wide c) =
    let k = stays p gs t img₀ m₀ x h in
    let s = steps_so p img₀ m₀ w g r img m w' k wide c in
    let i = qs_runs p gs t img₀ m₀ x h in
    let e : step p (state_held img₀) m₀ g ≡ step p (run p gs).state (run p gs).memory g = ap₂ (λ (a : meaning.State) (b : List ℕ). step p a b g) i.state i.memory in
    let y : take r w' ≡ (run p (g ∷ gs)).reply = s.front ∙ ap (λ (o : Outcome). o.reply) e in
    record {
      state = s.after ∙ ap (λ (o : Outcome). o.state) e;
      memory = s.kept ∙ ap (λ (o : Outcome). o.memory) e;
      reply = y;
      wire = ap₂ (λ (a : meaning.State) (b : List Heard). heard p a g (take r w') b) i.state i.wire ∙ ap (λ (b : List ℕ). heard p (run p gs).state g b (traffic p gs)) y;
    }
qs_runs p _ _ img m _ (restarted gs t img₀ _ x old off n r _ h f c) =
    let k = stays p gs t img₀ m x h in
    let j = starts_again p (lasting_of img₀) old off f m k.size in
    let s = steps_so p off m (zeros 134) (measured n) r img m (zeros 134) j enough (c m (zeros 134)) in
    let i = qs_runs p gs t img₀ m x h in
    record {
      state = s.after ∙ ap (λ (a : meaning.State). with_measured a n) (restart_holds p (lasting_of img₀) old off f) ∙ off-state img₀ n
          ∙ ap (λ (a : meaning.State). with_measured (powered_on a) n) i.state;
      memory = i.memory;
      reply = refl;
      wire = i.wire;
    }

-- what holds of the run's state, memory and traffic holds of the host's
module _ (p : Plate) (gs : List Call) (t : List Heard) (img m x : List ℕ) (h : Ran p gs t img m x) where
  pub as_run : (P : meaning.State → List ℕ → List Heard → Type 0) → P (run p gs).state (run p gs).memory (traffic p gs) → P (state_held img) m t
  as_run P y =
      let i = qs_runs p gs t img m x h in
      subst (λ (a : meaning.State). P a m t) (sym i.state)
      (subst (λ (a : List ℕ). P (run p gs).state a t) (sym i.memory) (subst (P (run p gs).state (run p gs).memory) (sym i.wire) y))

pub qs_memory_by_traffic : QsMemoryByTraffic
qs_memory_by_traffic p gs t img m x h = as_run p gs t img m x h (Agrees p) (memory_by_traffic p gs)

pub qs_traffic-alone : QsTrafficAlone
qs_traffic-alone p gs hs t img m x img' m' x' g h =
    let i = qs_runs p gs t img m x g in
    let j = qs_runs p hs t img' m' x' h in
    i.memory ∙ traffic-alone p gs hs (sym i.wire ∙ j.wire) ∙ sym j.memory

-- .. and what holds of its traffic alone
by_traffic : (P : List Heard → Type 0) → ((p : Plate) (gs : List Call) → P (traffic p gs))
    → (p : Plate) (gs : List Call) (t : List Heard) (img m x : List ℕ) → Ran p gs t img m x → P t
by_traffic P always p gs t img m x h = as_run p gs t img m x h (λ (_ : meaning.State) (_ : List ℕ) (t : List Heard). P t) (always p gs)

pub qs_carried_the_code : QsCarriedTheCode
qs_carried_the_code = by_traffic Honest carried_the_code

pub qs_deletions_named : QsDeletionsNamed
qs_deletions_named = by_traffic DeletedByName deletions_named

pub qs_answers-to_one : QsAnswersToOne
qs_answers-to_one p gs t img m x h =
    as_run p gs t img m x h (λ (s : meaning.State) (m : List ℕ) (t : List Heard). AnswersTo p s m (address_of p t))
    (answers-to_one p gs (true-told (plate_ok p) (stays p gs t img m x h).plate))

-- the tick of the call that closes
module _ (p : Plate) (s : meaning.State) (m : List ℕ) where
  closing : (g : Call) → T (closes p s g) → (now : ℕ) × (T (over p s now) × ((step p s m g).reply ≡ (up_to p s m now).reply))
  unfolding closes step
  closing (character now v bad) o = (now, (o, refl))
  closing (poll now) o = (now, (o, refl))
  closing (measured n) o = absurd o
  closing (fault c) o = absurd o
  closing power_on o = absurd o

pub qs_refused_for_room : QsRefusedForRoom
qs_refused_for_room p t img m _ (closes_next gs x w g r img' m' w' h wide c o) W =
    let k = stays p gs t img m x h in
    let z = closing p (state_held img) m g o in
    replies p img m w g r img' m' w' k wide c ∙ z.1.1
    ∙ as_run p gs t img m x h
    (λ (s : meaning.State) (m : List ℕ) (t : List Heard). T (over p s z.0) → Wanted p (resting s) t (closed s.line)
    → (up_to p s m z.0).reply ≡ room_reply p (resting s) t (arg s.line.kept 2) (arg s.line.kept 3))
    (refused_for_want_of_room p gs z.0) z.1.0 W

pub qs_replies_as_meant : QsRepliesAsMeant
unfolding up_to close meant own_byte resting with_line
qs_replies_as_meant p t img m _ a c d (closes_next gs x w g r img' m' w' h wide q o) A =
    let s = state_held img in
    let k = stays p gs t img m x h in
    let z = closing p s m g o in
    let sent : Sent p (resting s) m a c d = record { address = (to_lim p s (true-told (state_ok p s) k.state)).placed; label = whole-label p k.plate; size = k.size; ours = A.ours; may = A.may } in
    replies p img m w g r img' m' w' k wide q ∙ z.1.1
    ∙ ap (λ (u : Outcome). u.reply) (pick_true (over p s z.0) (close p s m z.0) _ z.1.0
    ∙ ap (work p (resting s) m) A.frame ∙ work-request p (resting s) m a c d sent)

-- what holds after every run holds where a frame is closed
where_closes_next : (p : Plate) (t : List Heard) (img m y : List ℕ) (P : meaning.State → List ℕ → List Heard → Type 0)
    → ((gs : List Call) → P (run p gs).state (run p gs).memory (traffic p gs)) → ClosesNext p t img m y → P (state_held img) m t
where_closes_next p t img m _ P always (closes_next gs x w g r img' m' w' h wide c o) = as_run p gs t img m x h P (always gs)

pub qs_free_by_traffic : QsFreeByTraffic
unfolding meant command_of worked outcome
qs_free_by_traffic p t img m y a z A =
    qs_replies_as_meant p t img m y a 0x4E [] z A
    ∙ ap (λ (b : Answer). (outcome (resting (state_held img)) m 0x4E b).reply)
    (where_closes_next p t img m y
    (λ (s : meaning.State) (m : List ℕ) (t : List Heard). memory_status p (resting s) m [] ≡ accept (free_byte (p.total + back t - granted t) ∷ fields_of t ∷ []) (resting s) m)
    (λ gs. free_by_traffic p gs (resting (run p gs).state)) z)

-- the bytes in the reply of an answer to 4Ah
module _ (p : Plate) (s : meaning.State) (m : List ℕ) (t : List Heard) (d : List ℕ) where
  brought : (b : Answer) → BringsTold t d b → bare (outcome s m 0x4A b).reply ≡ 0x4A
      → (i : ℕ) → i < arg d 2 → get_or (drop 3 (data_of (outcome s m 0x4A b).reply)) i 0 ≡ byte_of t (arg d 0) (arg d 1 + i)
  unfolding outcome bare message
  brought (refuse e) h k i l =
      let c : get_or (message s 0x50 (e ∷ [])) 1 0 % 128 ≡ 0x50 = reply-command s 0x50 (e ∷ []) (lit< tt) in
      absurd (omega (arith, c))
  brought (accept r s' m') h k i l = rw (data_sealed (own_byte s') (warned 0x4A s'.queue) r) (h i l)
  brought (quiet s' m') h k i l = absurd (omega arith)

pub qs_reads_by_traffic : QsReadsByTraffic
unfolding meant command_of worked
qs_reads_by_traffic p t img m y a d z A k i l =
    let e = qs_replies_as_meant p t img m y a 0x4A d z A in
    let told : BringsTold t d (read_field p (resting (state_held img)) m d)
    = where_closes_next p t img m y (λ (s : meaning.State) (m : List ℕ) (t : List Heard). BringsTold t d (read_field p (resting s) m d)) (λ gs. reads_by_traffic p gs (resting (run p gs).state) d) z in
    rw e (brought p (resting (state_held img)) m t d (read_field p (resting (state_held img)) m d) told (rw (← e) k) i l)
