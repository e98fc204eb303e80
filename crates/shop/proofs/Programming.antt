-- Against our board the programmer reaches done, and the board then holds the tape's fields. Assumes nothing.
use Prim.Native.Nat.{ℕ, zero, suc, ◌+◌, ◌-◌, ◌*◌, ◌≤◌, ◌<◌}
use mathlib.Core.Path.{◌≡◌, refl, sym, ap, ◌∙◌, subst}
use mathlib.Core.Bool.{Bool, true, false}
use mathlib.Core.List.{List, [], ◌∷◌, ◌++◌, append-nil}
use native.Mathlib.Omega.{arith}
use lib.Dec.{T, eqb-suc-zero}
use lib.ListN.{length, get_or, take, drop, length-append, length-drop}
use lib.Seq.{take-length, take-append_seam, get_or-append_seam, set-append_seam, length-take-le, get_or-take, get_or-drop, ext_get_or, append_snoc}
use borrow.Author.Tests.{lt-ltb, le-ltb}
use Rattle.meaning.specs.Bytes.{pick, part, put, same, zeros}
use Rattle.meaning.specs.State as board
use Rattle.meaning.specs.State.{label_length}
use Rattle.meaning.specs.Fields.{memory_length, blocks, code_no, writable, exists, attributes, table, field_count, used, status_at, start, clear, put_status}
use Rattle.meaning.specs.Commands.{command_of, row, length_fits, asked, worked, accept, resize}
use Rattle.meaning.specs.Bench.{in_range, allowed, address_ok, address_for, request, judge}
use Rattle.meaning.specs.Frames.{outcome}
use Rattle.meaning.specs.Demands.{meant, concluded}
use Rattle.meaning.proofs.Choices.{told-true}
use Rattle.meaning.proofs.Wire.{verdict_follows, same_refl}
use Rattle.meaning.proofs.Puts.{put_in, part-put, get_or-zeros}
use Rattle.meaning.proofs.Tables.{used-nil, used-before, used_snoc, count_le, blocks_pos}
use Rattle.programmer.specs.Wishes.{Field, Wish, no_field, wanted, code_for}
use Rattle.programmer.specs.Steps.{due, enabled, making, clearing, locking, onto, on_verdict, bytes_due, after_reply, requests_for, in_all}
use Rattle.programmer.specs.Promises.{FieldsFit}
use Rattle.shop.specs.Promises.{talked, talked_on, Met, InForce, blocks_of, HoldsFields, Programmed, Programs}
use Rattle.programmer.specs.declared.step.Step.{Step}
use Rattle.programmer.specs.declared.step.Step.TheVariants.{Count, Look, Remove, Create, Store, Read, Lock}
use Rattle.programmer.specs.declared.step.Standing.{Standing}
use Rattle.programmer.specs.declared.step.Standing.TheVariants.{At, Done}
use Rattle.programmer.proofs.Allowed.{may_store, may_read}
use Rattle.programmer.proofs.Reading.{fits-at}
use Rattle.shop.proofs.Laid.{Laid, laid_count, laid_first, laid_sound, laid_of, laid_gone, laid_made, made_low, laid_stored, stored_low, laid_set, relaid_data}
use Rattle.shop.proofs.Answers.{told-count, told-status, deleted, made, changed, stored, brought, blocks-few}
use Rattle.shop.proofs.Kept.{statuses, statuses-length, statuses-at, statuses_snoc, enabled-exists, enabled-blocks, enabled-code, enabled-writable, Kept, kept-none, kept_more}

past_end : (sts : List ℕ) (k g : ℕ) → get_or (sts ++ zeros k) g 0 ≡ get_or sts g 0
past_end [] k g = get_or-zeros k g
past_end (x ∷ sts) k zero = refl
past_end (x ∷ sts) k (suc g) = past_end sts k g

module _ (p : board.Plate) (home : length p.label ≡ label_length) (n : ℕ) (good : T (address_ok n)) (l : Wish) where
  abbrev t : ℕ
  t = p.total

  abbrev Ends : Standing → List ℕ → ℕ → Type 0
  Ends x m k = (ss : List board.State) → InForce n l ss → k ≤ length ss → Programmed t l (talked_on p n l ss (record { standing = x; memory = m }))

  ends_as : (x y : Standing) (m : List ℕ) (j k : ℕ) → x ≡ y → j ≡ k → Ends y m k → Ends x m j
  ends_as x y m j k e n h = rw (e, n) h

  step_on : (st : Step) (m : List ℕ) (x : Standing) (m' : List ℕ) (k : ℕ)
      → ((s : board.State) → Met n l s → talked p n l s (At st) m ≡ record { standing = x; memory = m' }) → Ends x m' k → Ends (At st) m (suc k)
  unfolding talked_on
  step_on st m x m' k h next [] F e = absurd (omega (arith, e))
  step_on st m x m' k h next (s ∷ ss) F e = rw (h s F.0) (next ss F.1 (omega (arith, e)))

  -- an accepted request
  accepted : (s : board.State) → Met n l s → (st : Step) (m d m' : List ℕ) → length m ≡ memory_length t
      → T (allowed (command_of (due l st).command) (due l st).body) → worked (command_of (due l st).command) p s m (due l st).body ≡ accept d s m'
      → talked p n l s (At st) m ≡ record { standing = onto l st d; memory = m' }
  unfolding talked after_reply bytes_due meant outcome concluded on_verdict
  accepted s met st m d m' size may e =
      let c = (due l st).command in
      let b = (due l st).body in
      let v : judge (request (address_for n) c b) (outcome s m c (worked (command_of c) p s m b)).reply ≡ concluded s (worked (command_of c) p s m b)
      = verdict_follows p s m (address_for n) c b (record { address = met.address; label = home; size = size; ours = met.ours; may = may }) in
      rw (told-true (address_ok n) good, told-true (allowed (command_of c) b) may, v, e)

  in_force : (s : board.State) (st : ℕ) → Met n l s → code_for l st ≡ get_or s.codes (code_no st) 0
  in_force s st e = rw e.codes

  -- the fields present go
  module _ (m sts : List ℕ) (I : Laid t m sts) where
    counts : (s : board.State) → Met n l s → talked p n l s (At Count) m ≡ record { standing = clearing l (length sts); memory = m }
    unfolding due onto command_of allowed asked row length_fits in_range
    counts s e = accepted s e Count m ((t - used sts) ∷ length sts ∷ []) m I.size tt (told-count p s m sts I)

    looks : (k : ℕ) → k < length sts → (s : board.State) → Met n l s → talked p n l s (At (Look k)) m ≡ record { standing = At (Remove k (get_or sts k 0)); memory = m }
    unfolding due onto command_of allowed asked row length_fits in_range
    looks k h s e = accepted s e (Look k) m (k ∷ get_or sts k 0 ∷ []) m I.size tt (told-status p s m sts I k h)

    removes : (k : ℕ) → suc k ≡ length sts → (s : board.State) → Met n l s
        → talked p n l s (At (Remove k (get_or sts k 0))) m
        ≡ record { standing = clearing l k; memory = put_status t (clear m (used (take k sts)) (blocks (get_or sts k 0))) k 0 }
    unfolding due onto command_of allowed asked row length_fits in_range
    removes k h s e = accepted s e (Remove k (get_or sts k 0)) m (k ∷ attributes (get_or sts k 0) ∷ []) (put_status t (clear m (used (take k sts)) (blocks (get_or sts k 0))) k 0) I.size tt
        (deleted p s m sts I (code_for l (get_or sts k 0)) k h (in_force s (get_or sts k 0) e))

  clearing-more : (n : ℕ) → clearing l (suc n) ≡ At (Look n)
  unfolding clearing
  clearing-more n = let e : suc n - 1 ≡ n = omega arith in rw (eqb-suc-zero n, e)

  clear-phase : (n : ℕ) (m sts : List ℕ) → Laid t m sts → length sts ≡ n
      → ((m' : List ℕ) → Laid t m' [] → Ends (making l 0) m' (requests_for l.fields)) → Ends (clearing l n) m (2 * n + requests_for l.fields)
  unfolding clearing
  clear-phase zero m [] I e next = ends_as (making l 0) (making l 0) m (2 * 0 + requests_for l.fields) (requests_for l.fields) refl (omega arith) (next m I)
  clear-phase zero m (x ∷ sts) I e next = absurd (omega arith)
  clear-phase (suc n) m sts I e next =
      let m' = put_status t (clear m (used (take n sts)) (blocks (get_or sts n 0))) n 0 in
      ends_as (clearing l (suc n)) (At (Look n)) m (2 * suc n + requests_for l.fields) (suc (suc (2 * n + requests_for l.fields))) (clearing-more n) (omega arith)
      (step_on (Look n) m (At (Remove n (get_or sts n 0))) m (suc (2 * n + requests_for l.fields)) (looks m sts I n (omega arith))
      (step_on (Remove n (get_or sts n 0)) m (clearing l n) m' (2 * n + requests_for l.fields) (removes m sts I n (sym e))
      (clear-phase n m' (take n sts) (laid_gone t m sts I n (sym e)) (length-take-le n sts (omega arith)) next)))

  -- one wanted field
  module _ (m : List ℕ) (fs : List Field) (K : Kept t m fs) (f : Field) (is : wanted l (length fs) ≡ f)
      (ex : T (exists f.status)) (long : length f.bytes ≡ 16 * blocks f.status) (room : used (statuses fs) + blocks f.status ≤ t) where
    abbrev i : ℕ
    i = length fs

    abbrev st : ℕ
    st = f.status

    abbrev sts : List ℕ
    sts = statuses fs

    abbrev I : Laid t m sts
    I = K.laid

    i-is : length sts ≡ i
    i-is = statuses-length fs

    some : 1 ≤ length f.bytes
    some = omega (arith, blocks_pos st)

    few : length f.bytes ≤ 128
    few = omega (arith, blocks-few st)

    abbrev m₁ : List ℕ
    m₁ = put_status t (clear m (used sts) (blocks (enabled st))) (length sts) (enabled st)

    abbrev sts₁ : List ℕ
    sts₁ = sts ++ (enabled st ∷ [])

    room₁ : used sts + blocks (enabled st) ≤ t
    room₁ = rw (enabled-blocks st) room

    I₁ : Laid t m₁ sts₁
    I₁ = laid_made t m sts I (enabled st) (enabled-exists st ex) room₁

    creates : (s : board.State) → Met n l s → talked p n l s (At (Create i)) m ≡ record { standing = At (Store i); memory = m₁ }
    unfolding due onto command_of allowed asked row length_fits in_range
    creates s e = accepted s e (Create i) m (length sts ∷ enabled st ∷ []) m₁ I.size tt
        (rw (is, ← i-is) (made p s m sts I (code_for l st) (enabled st) (enabled-exists st ex) room₁ (in_force s st e ∙ ap (λ (x : ℕ). get_or s.codes x 0) (sym (enabled-code st)))))

    used₁ : used sts₁ ≡ used sts + blocks st
    used₁ = used_snoc sts (enabled st) I.existing (enabled-exists st ex) ∙ ap (λ (x : ℕ). used sts + x) (enabled-blocks st)

    last : get_or sts₁ i 0 ≡ enabled st
    last = rw (← i-is) (get_or-append_seam sts (enabled st) [] 0)

    before : take i sts₁ ≡ sts
    before = rw (← i-is) (take-append_seam sts (enabled st ∷ []))

    there : i < length sts₁
    there = rw (length-append sts (enabled st ∷ [])) (omega (arith, i-is))

    long₁ : length f.bytes ≡ 16 * blocks (get_or sts₁ i 0)
    long₁ = rw (last, enabled-blocks st) long

    code₁ : (s : board.State) → Met n l s → code_for l st ≡ get_or s.codes (code_no (get_or sts₁ i 0)) 0
    code₁ s e = rw (last, enabled-code st) (in_force s st e)

    abbrev m₂ : List ℕ
    m₂ = put m₁ (16 * used sts) f.bytes

    inside : 16 * used sts + length f.bytes ≤ 16 * used sts₁
    inside = omega (arith, used₁)

    I₂ : Laid t m₂ sts₁
    I₂ = laid_stored t m₁ sts₁ I₁ (16 * used sts) f.bytes inside

    stores : (s : board.State) → Met n l s → talked p n l s (At (Store i)) m₁ ≡ record { standing = At (Read i); memory = m₂ }
    unfolding due onto command_of allowed asked row length_fits in_range
    stores s e = accepted s e (Store i) m₁ (i ∷ 0 ∷ length f.bytes ∷ []) m₂ I₁.size (rw is (may_store i (code_for l st) f.bytes some few))
        (rw is (rw before at (stored p s m₁ sts₁ I₁ (code_for l st) i there (code₁ s e) f.bytes long₁ (rw last (enabled-writable st)))))

    fits₂ : 16 * used sts + length f.bytes ≤ length m₁
    fits₂ = omega (arith, inside, I₁.size, I₁.fit)

    back : part m₂ (16 * used sts) (length f.bytes) ≡ f.bytes
    back = part-put m₁ (16 * used sts) f.bytes (length f.bytes) fits₂ refl

    reads : (s : board.State) → Met n l s → talked p n l s (At (Read i)) m₂ ≡ record { standing = locking l i; memory = m₂ }
    unfolding due onto command_of allowed asked row length_fits in_range
    reads s e =
        accepted s e (Read i) m₂ (i ∷ 0 ∷ length f.bytes ∷ f.bytes) m₂ I₂.size (rw is (may_read i (code_for l st) (length f.bytes) some few))
        (rw is (rw (before, back) at (brought p s m₂ sts₁ I₂ (code_for l st) i there (code₁ s e) f.bytes long₁)))
        ∙ rw (is, told-true (same f.bytes f.bytes) (same_refl f.bytes))

    low₂ : (j : ℕ) → j < 16 * used sts → get_or m₂ j 0 ≡ get_or m j 0
    low₂ j h = stored_low t m₁ sts₁ I₁ (16 * used sts) f.bytes inside j h ∙ made_low t m sts I (enabled st) (enabled-exists st ex) room₁ j h

    own₂ : (j : ℕ) → j < 16 * blocks st → get_or m₂ (16 * used sts + j) 0 ≡ get_or f.bytes j 0
    own₂ j h =
        put_in m₁ (16 * used sts) f.bytes fits₂ (16 * used sts + j) (omega arith) (omega arith)
        ∙ ap (λ (x : ℕ). get_or f.bytes x 0) (omega arith)

    -- it stays write-enabled
    K₂ : enabled st ≡ st → Kept t m₂ (fs ++ (f ∷ []))
    K₂ o = kept_more t m fs f m₂ K (subst (λ (x : ℕ). Laid t m₂ (sts ++ (x ∷ []))) o I₂) low₂ own₂

    -- or is locked
    abbrev m₃ : List ℕ
    m₃ = put_status t (resize m₂ (used (take i sts₁)) (blocks (get_or sts₁ i 0)) (blocks st)) i st

    size₃ : blocks st ≡ blocks (get_or sts₁ i 0)
    size₃ = rw (last, enabled-blocks st)

    I₃ : Laid t m₃ (sts ++ (st ∷ []))
    I₃ = rw (rw i-is at (set-append_seam sts (enabled st) [] st)) at (laid_set t m₂ sts₁ I₂ i st there ex size₃)

    locks : (s : board.State) → Met n l s → talked p n l s (At (Lock i)) m₂ ≡ record { standing = making l (i + 1); memory = m₃ }
    unfolding due onto command_of allowed asked row length_fits in_range
    locks s e = accepted s e (Lock i) m₂ (i ∷ st ∷ []) m₃ I₂.size tt
        (rw is (changed p s m₂ sts₁ I₂ (code_for l st) i st there ex size₃ (code₁ s e)))

    data₃ : (j : ℕ) → j < 16 * t → get_or m₃ j 0 ≡ get_or m₂ j 0
    data₃ = relaid_data t m₂ sts₁ I₂ i st there ex size₃

    K₃ : Kept t m₃ (fs ++ (f ∷ []))
    K₃ = kept_more t m fs f m₃ K I₃ (λ j h. data₃ j (omega (arith, room)) ∙ low₂ j h) (λ j h. data₃ (16 * used sts + j) (omega (arith, room)) ∙ own₂ j h)

    -- all requests for it
    field-phase : (k : ℕ) → ((m' : List ℕ) → Kept t m' (fs ++ (f ∷ [])) → Ends (making l (i + 1)) m' k)
        → Ends (At (Create i)) m (3 + (pick (writable st) 0 1 + k))
    field-phase k next = go (writable st) refl
      where
        go : (q : Bool) → writable st ≡ q → Ends (At (Create i)) m (3 + (pick q 0 1 + k))
        go true w =
            ends_as (At (Create i)) (At (Create i)) m (3 + (0 + k)) (suc (suc (suc k))) refl (omega arith)
            (step_on (Create i) m (At (Store i)) m₁ (suc (suc k)) creates
            (step_on (Store i) m₁ (At (Read i)) m₂ (suc k) stores
            (step_on (Read i) m₂ (locking l i) m₂ k reads
            (ends_as (locking l i) (making l (i + 1)) m₂ k k (unfold locking in rw (is, w)) refl (next m₂ (K₂ (unfold enabled in rw w)))))))
        go false w =
            ends_as (At (Create i)) (At (Create i)) m (3 + (1 + k)) (suc (suc (suc (suc k)))) refl (omega arith)
            (step_on (Create i) m (At (Store i)) m₁ (suc (suc (suc k))) creates
            (step_on (Store i) m₁ (At (Read i)) m₂ (suc (suc k)) stores
            (step_on (Read i) m₂ (locking l i) m₂ (suc k) reads
            (ends_as (locking l i) (At (Lock i)) m₂ (suc k) (suc k) (unfold locking in rw (is, w)) refl
            (step_on (Lock i) m₂ (making l (i + 1)) m₃ k locks (next m₃ K₃))))))

  -- all are there
  making-none : (fs : List Field) → l.fields ≡ fs → making l (length fs) ≡ Done
  unfolding making
  making-none fs e = rw (e, le-ltb (length fs) (length fs) (omega arith))

  making-next : (fs : List Field) (f : Field) (rest : List Field) → l.fields ≡ fs ++ (f ∷ rest) → making l (length fs) ≡ At (Create (length fs))
  unfolding making
  making-next fs f rest e = rw (e, length-append, lt-ltb (length fs) (length fs + suc (length rest)) (omega arith))

  module _ (m : List ℕ) (fs : List Field) (e : l.fields ≡ fs) (F : FieldsFit fs) (K : Kept t m fs) where
    abbrev tb : List ℕ
    tb = table t m

    all-statuses : (f : ℕ) → status_at tb f ≡ (wanted l f).status
    unfolding status_at
    all-statuses f = rw (K.laid.tab, e) (past_end (statuses fs) (t - length (statuses fs)) f ∙ statuses-at fs f)

    module _ (f : ℕ) (h : f < length fs) where
      abbrev g : Field
      g = get_or fs f no_field

      long_as : length g.bytes ≡ 16 * blocks g.status
      long_as = fits-at fs f F h

      starts : start tb f ≡ 16 * used (take f (statuses fs))
      unfolding start
      starts = ap (λ (x : ℕ). 16 * x) (laid_first t m (statuses fs) K.laid f (omega (arith, statuses-length fs)))

      ends_in : 16 * used (take f (statuses fs)) + length g.bytes ≤ length m
      ends_in =
          let c : used (take f (statuses fs)) + blocks (get_or (statuses fs) f 0) ≤ used (statuses fs)
          = rw take-length at (used-before (statuses fs) f (length (statuses fs)) K.laid.existing (rw (statuses-length fs) h) (omega arith)) in
          omega (arith, K.laid.size, K.laid.fit, long_as, ap blocks (statuses-at fs f))

      part-long : length (part m (16 * used (take f (statuses fs))) (length g.bytes)) ≡ length g.bytes
      unfolding part
      part-long = length-take-le (length g.bytes) (drop (16 * used (take f (statuses fs))) m) (rw length-drop (omega (arith, ends_in)))

      field-bytes : part m (start tb f) (length g.bytes) ≡ g.bytes
      unfolding part
      field-bytes = rw starts (ext_get_or 0 (part m (16 * used (take f (statuses fs))) (length g.bytes)) g.bytes part-long
          (λ i k. let k' : i < length g.bytes = rw part-long at k in
          get_or-take (length g.bytes) (drop (16 * used (take f (statuses fs))) m) i 0 k'
          ∙ get_or-drop (16 * used (take f (statuses fs))) m i 0 ∙ K.bytes f i h (rw long_as at k')))

    holds : HoldsFields t l m
    holds = record {
      size = K.laid.size;
      trusted = laid_sound t m (statuses fs) K.laid;
      number = laid_count t m (statuses fs) K.laid ∙ statuses-length fs ∙ ap length (sym e);
      statuses = all-statuses;
      bytes = rw e field-bytes;
    }

  -- nothing is sent any more
  done_stays : (ss : List board.State) (m : List ℕ) → talked_on p n l ss (record { standing = Done; memory = m }) ≡ record { standing = Done; memory = m }
  unfolding talked_on talked
  done_stays [] m = refl
  done_stays (s ∷ ss) m = done_stays ss m

  finish : (fs : List Field) (m : List ℕ) → l.fields ≡ fs → FieldsFit fs → Kept t m fs → Ends (making l (length fs)) m 0
  finish fs m e F K ss c k = rw (making-none fs e, done_stays ss m) (record { ended = refl; holds = holds m fs e F K })

  fields-phase : (fs rest : List Field) (m : List ℕ) → l.fields ≡ fs ++ rest → FieldsFit l.fields → FieldsFit rest → used (statuses fs) + blocks_of rest ≤ t → Kept t m fs
      → Ends (making l (length fs)) m (requests_for rest)
  unfolding requests_for blocks_of talked_on
  fields-phase fs [] m e G F u K = finish fs m (e ∙ append-nil fs) (rw (e ∙ append-nil fs) at G) K
  fields-phase fs (f ∷ rest) m e G F u K =
      ends_as (making l (length fs)) (At (Create (length fs))) m (3 + (pick (writable f.status) 0 1 + requests_for rest)) (3 + (pick (writable f.status) 0 1 + requests_for rest)) (making-next fs f rest e) refl
      (field-phase m fs K f (rw e (get_or-append_seam fs f rest no_field)) F.0 F.1 (omega arith) (requests_for rest)
      (λ m' K'. rw (length-append fs (f ∷ [])) at (fields-phase (fs ++ (f ∷ [])) rest m' (e ∙ sym (append_snoc fs f rest)) G F.2 (rw (statuses_snoc fs f, used_snoc (statuses fs) f.status K.laid.existing F.0) (omega arith)) K')))

pub programs : Programs
unfolding in_all
programs p n l m ss R c e =
    let tb = table p.total m in
    let sts = take (field_count tb) tb in
    let home = R.label in
    let good = R.address in
    let I = laid_of p.total m R.size R.trusted in
    let F = R.whole in
    let fit = R.room in
    let k : length sts ≡ field_count tb = length-take-le (field_count tb) tb (count_le tb) in
    step_on p home n good l Count m (clearing l (length sts)) m (2 * length sts + requests_for l.fields) (counts p home n good l m sts I)
    (clear-phase p home n good l (length sts) m sts I refl
    (λ m' I'. fields-phase p home n good l [] l.fields m' refl F F (omega (arith, used-nil, fit)) (kept-none p.total m' I')))
    ss c (omega (arith, k, e))
