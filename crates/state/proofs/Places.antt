-- The queue place by place: what one place more in front says. Assumes nothing.
use Prim.Native.Nat.{ℕ, ◌+◌, ◌<◌, ◌%◌}
use native.Mathlib.Omega.{arith}
use mathlib.Core.Path.{◌≡◌, refl, sym, ap, ◌∙◌, subst}
use mathlib.Core.Bool.{Bool, true, false, not, ◌||◌, false≢true}
use mathlib.Core.List.{List, [], ◌∷◌, ◌++◌}
use borrow.Author.Tests.{eqb-true, eqb-false, ne_eqb}
use lib.Bits.{bit_and}
use lib.Dec.{eqb, leb}
use lib.ListN.{length, drop}
use Rattle.meaning.specs.Bytes.{pick, both, either, among, arg}
use Rattle.meaning.specs.State.{State, queueable, apart, locks, with_queue, with_lock, noted, queued}
use Rattle.meaning.specs.Frames.{warned}
use Rattle.meaning.specs.Demands.{waits}
use Rattle.state.specs.declared.faults.Faults.{Faults}
use Rattle.state.specs.declared.faults.Oldest.{Oldest}
use Rattle.state.specs.declared.faults.Noting.{Noting}
use Rattle.state.specs.declared.faults.Noting.TheVariants.{Ignored, Locks, First, Second, Third, Fourth}
use Rattle.state.specs.Queue.{waiting, queue_of, no_faults, holding, Queues, Reads}
use Rattle.state.specs.Effects.{place_at, place_for, noting_of, noted_as}
use Rattle.meaning.proofs.Choices.{both_true, both_false, either-false}
use Rattle.meaning.proofs.Every.{alike, as_told, every, at}

no_more_one : (c : ℕ) (q : List ℕ) → not (waits (waiting c q)) ≡ both (eqb c 0) (not (waits q))
unfolding waits waiting
no_more_one c [] = go (eqb c 0)
  where
    go : (t : Bool) → not (waits (pick t [] (c ∷ []))) ≡ both t true
    go true = refl
    go false = refl
no_more_one c (x ∷ q) = go (eqb c 0)
  where
    go : (t : Bool) → false ≡ both t false
    go true = refl
    go false = refl

-- `|` of the code, for the four places
four_either : (a b c d : Bool) → ((a || b) || c) || d ≡ either a (either b (either c d))
four_either true b c d = refl
four_either false true c d = refl
four_either false false true d = refl
four_either false false false d = refl

waits_one : (c : ℕ) (q : List ℕ) → waits (waiting c q) ≡ either (not (eqb c 0)) (waits q)
unfolding waits waiting
waits_one c [] = go (eqb c 0)
  where
    go : (t : Bool) → waits (pick t [] (c ∷ [])) ≡ either (not t) false
    go true = refl
    go false = refl
waits_one c (x ∷ q) = go (eqb c 0)
  where
    go : (t : Bool) → true ≡ either (not t) true
    go true = refl
    go false = refl

-- a code waits, if one place is not 00h
pub some_wait : (f : Faults) → waits (queue_of f) ≡ either (not (eqb f.first 0)) ((not (eqb f.second 0) || not (eqb f.third 0)) || not (eqb f.fourth 0))
unfolding queue_of waits
some_wait f =
    rw (
      waits_one f.first (waiting f.second (waiting f.third (waiting f.fourth []))),
      waits_one f.second (waiting f.third (waiting f.fourth [])),
      waits_one f.third (waiting f.fourth []),
      waits_one f.fourth [],
      either-false (not (eqb f.fourth 0)),
    )
    (ap (either (not (eqb f.first 0))) (sym (four_either false (not (eqb f.second 0)) (not (eqb f.third 0)) (not (eqb f.fourth 0)))))

positive : (c : ℕ) → eqb c 0 ≡ false → 0 < c
positive c e = omega (arith, eqb-false c 0 e)

among_one : (c x : ℕ) → 0 < c → among c (waiting x []) ≡ eqb c x
unfolding among waiting
among_one c x h = go (eqb x 0) refl
  where
    go : (t : Bool) → eqb x 0 ≡ t → among c (pick t [] (x ∷ [])) ≡ eqb c x
    go true e = sym (ne_eqb c x (λ k. omega (arith, eqb-true x 0 e)))
    go false e = either-false (eqb c x)

among_none : (c x : ℕ) → either (eqb c x) (among c []) ≡ eqb c x
unfolding among
among_none c x = either-false (eqb c x)

among_in : (c x y : ℕ) (q : List ℕ) → among c (waiting x (y ∷ q)) ≡ either (eqb c x) (among c (y ∷ q))
unfolding among waiting
among_in c x y q = refl

among-more : (c x : ℕ) (q : List ℕ) → 0 < c → among c (waiting x q) ≡ either (eqb c x) (among c q)
among-more c x [] h = among_one c x h ∙ sym (among_none c x)
among-more c x (y ∷ q) h = among_in c x y q

at_end : waiting 0 [] ≡ []
unfolding waiting
at_end = refl

pub front : (c : ℕ) (q : List ℕ) → arg (waiting c q) 0 ≡ c
unfolding waiting
front c [] = go (eqb c 0) refl
  where
    go : (t : Bool) → eqb c 0 ≡ t → arg (pick t [] (c ∷ [])) 0 ≡ c
    go true e = sym (eqb-true c 0 e)
    go false e = refl
front c (x ∷ q) = refl

pub behind : (c : ℕ) (q : List ℕ) → drop 1 (waiting c q) ≡ q
unfolding waiting
behind c [] = go (eqb c 0)
  where
    go : (t : Bool) → drop 1 (pick t [] (c ∷ [])) ≡ []
    go true = refl
    go false = refl
behind c (x ∷ q) = refl

-- a code that is not 00h, among three and among four places
among_three : (c x y z : ℕ) → 0 < c
    → among c (waiting x (waiting y (waiting z []))) ≡ either (eqb c x) (either (eqb c y) (eqb c z))
among_three c x y z h = rw (among-more c x (waiting y (waiting z [])) h, among-more c y (waiting z []) h, among_one c z h)

pub among_four : (f : Faults) (c : ℕ) → 0 < c → ((eqb c f.first || eqb c f.second) || eqb c f.third) || eqb c f.fourth ≡ among c (queue_of f)
unfolding queue_of
among_four f c h =
    four_either (eqb c f.first) (eqb c f.second) (eqb c f.third) (eqb c f.fourth)
    ∙ sym (among-more c f.first (waiting f.second (waiting f.third (waiting f.fourth []))) h
    ∙ ap (either (eqb c f.first)) (among_three c f.second f.third f.fourth h))

-- 01, "22h and 24h lock the position": one test for both, computed for every byte
one_test : ℕ → Bool
one_test c = alike (eqb (bit_and (c + 0xDE) 0xFD) 0) (locks c)

one_test_computed : every one_test 256 ≡ true
unfolding every one_test locks
one_test_computed = refl

pub locks_by_one_test : (c : ℕ) → c < 256 → eqb (bit_and (c + 0xDE) 0xFD) 0 ≡ locks c
unfolding one_test
locks_by_one_test c h = as_told _ _ (at one_test 256 one_test_computed c h)

-- 00h locks nothing
pub lock_fills : (c : ℕ) → locks c ≡ true → eqb c 0 ≡ false
unfolding locks
lock_fills c h = ne_eqb c 0 (λ e. false≢true (rw e at h))

-- 01, "State limits": a place may hold c before those of q
unfoldable may_precede : ℕ → List ℕ → Bool
may_precede c q = pick (eqb c 0) (not (waits q)) (both (queueable c) (not (among c q)))

-- .. one place more in front
apart_more : (c : ℕ) (q : List ℕ) → apart (waiting c q) ≡ both (may_precede c q) (apart q)
unfolding apart waiting may_precede among waits queueable
apart_more c [] = go (eqb c 0)
  where
    go : (t : Bool) → apart (pick t [] (c ∷ [])) ≡ both (pick t true (both (both (not (eqb c 0)) (not (locks c))) true)) true
    go true = refl
    go false = rw (both_true (both (both (not (eqb c 0)) (not (locks c))) true))
apart_more c (x ∷ q) = go (eqb c 0) (locks c) (among c (x ∷ q)) (apart (x ∷ q))
  where
    go : (t u v w : Bool) → both (both (not t) (not u)) (both (not v) w) ≡ both (pick t false (both (both (not t) (not u)) (not v))) w
    go true u v w = refl
    go false true v w = refl
    go false false true w = refl
    go false false false w = refl

-- a place, by what is behind it
precedes : (c : ℕ) (q : List ℕ) {w m : Bool} → not (waits q) ≡ w → (0 < c → among c q ≡ m) → may_precede c q ≡ pick (eqb c 0) w (both (not (locks c)) (not m))
unfolding may_precede queueable
precedes c q {w} {m} h k = go (eqb c 0) refl
  where
    go : (t : Bool) → eqb c 0 ≡ t → pick t (not (waits q)) (both (both (not t) (not (locks c))) (not (among c q))) ≡ pick t w (both (not (locks c)) (not m))
    go true e = h
    go false e = ap (λ (x : Bool). both (not (locks c)) (not x)) (k (positive c e))

-- .. with nothing behind it
last-alone : (d : ℕ) → apart (waiting d []) ≡ not (locks d)
unfolding apart waits among locks
last-alone d = apart_more d [] ∙ both_true (may_precede d []) ∙ precedes d [] refl (λ p. refl) ∙ go (eqb d 0) refl
  where
    go : (t : Bool) → eqb d 0 ≡ t → pick t true (both (not (locks d)) true) ≡ not (locks d)
    go true e = rw (eqb-true d 0 e)
    go false e = both_true (not (locks d))

-- the four places, where the first holds a code
unfoldable pub four_apart : Faults → Bool
four_apart f =
    both (both (not (locks f.first)) (not (either (eqb f.first f.second) (either (eqb f.first f.third) (eqb f.first f.fourth)))))
    (both (pick (eqb f.second 0) (both (eqb f.third 0) (eqb f.fourth 0)) (both (not (locks f.second)) (not (either (eqb f.second f.third) (eqb f.second f.fourth)))))
    (both (pick (eqb f.third 0) (eqb f.fourth 0) (both (not (locks f.third)) (not (eqb f.third f.fourth))))
    (not (locks f.fourth))))

module _ (f : Faults) where
  none_behind : not (waits (waiting f.fourth [])) ≡ eqb f.fourth 0
  unfolding waits
  none_behind = no_more_one f.fourth [] ∙ both_true (eqb f.fourth 0)

  two_behind : not (waits (waiting f.third (waiting f.fourth []))) ≡ both (eqb f.third 0) (eqb f.fourth 0)
  two_behind = no_more_one f.third (waiting f.fourth []) ∙ ap (both (eqb f.third 0)) none_behind

  places-apart : eqb f.first 0 ≡ false → apart (queue_of f) ≡ four_apart f
  unfolding queue_of four_apart
  places-apart h =
      let a = f.first in
      let b = f.second in
      let c = f.third in
      let d = f.fourth in
      apart_more a (waiting b (waiting c (waiting d [])))
      ∙ rw (
        precedes a (waiting b (waiting c (waiting d []))) refl (among_three a b c d),
        h,
        apart_more b (waiting c (waiting d [])),
        precedes b (waiting c (waiting d [])) two_behind (λ p. among-more b c (waiting d []) p ∙ ap (either (eqb b c)) (among_one b d p)),
        apart_more c (waiting d []),
        precedes c (waiting d []) none_behind (among_one c d),
        last-alone d,
      )

  some_first : eqb f.first 0 ≡ false → waits (queue_of f) ≡ true
  unfolding queue_of
  some_first h = go (waits (waiting f.first (waiting f.second (waiting f.third (waiting f.fourth [])))))
      (no_more_one f.first (waiting f.second (waiting f.third (waiting f.fourth []))) ∙ rw h)
    where
      go : (t : Bool) → not t ≡ false → t ≡ true
      go true e = refl
      go false e = sym e

  -- a code before an empty place, or none at all
  pub first_empty : eqb f.first 0 ≡ true → false ≡ both (waits (queue_of f)) (apart (queue_of f))
  unfolding queue_of may_precede
  first_empty h =
      let q = waiting f.second (waiting f.third (waiting f.fourth [])) in
      go (waits (waiting f.first q)) (waits q) (no_more_one f.first q ∙ rw h) (apart q) ∙ sym (rw (apart_more f.first q, h))
    where
      go : (t u : Bool) → not t ≡ not u → (x : Bool) → false ≡ both t (both (not u) x)
      go false u e x = refl
      go true true e x = refl
      go true false e x = absurd (false≢true e)

  module _ (h : eqb f.first 0 ≡ false) where
    pub apart_places : both (waits (queue_of f)) (apart (queue_of f)) ≡ four_apart f
    apart_places = rw (some_first h, places-apart h)

    pub apart_so : {t : Bool} → four_apart f ≡ t → t ≡ both (waits (queue_of f)) (apart (queue_of f))
    apart_so e = sym e ∙ sym (rw (some_first h, places-apart h))

    -- two codes, or one
    pub two_so : locks f.first ≡ false → eqb f.first f.second ≡ false → locks f.second ≡ false → eqb f.third 0 ≡ true
        → eqb f.fourth 0 ≡ both (waits (queue_of f)) (apart (queue_of f))
    unfolding four_apart locks
    two_so la ab lb zc = apart_so (go (eqb f.fourth 0) refl)
      where
        go : (t : Bool) → eqb f.fourth 0 ≡ t → four_apart f ≡ t
        go true zd = rw (la, ab, lb, eqb-true f.third 0 zc, eqb-true f.fourth 0 zd, h) (last (eqb f.second 0))
          where
            last : (u : Bool) → both (pick u true (not (either u u))) true ≡ true
            last true = refl
            last false = refl
        go false zd = simp (zc, zd, both_false)

joined : (f : Faults) (c : ℕ) {r : Faults} → among c (queue_of f) ≡ false
    → queue_of r ≡ pick (leb 4 (length (queue_of f))) (queue_of f) (queue_of f ++ (c ∷ [])) → r.locked ≡ f.locked → Queues f (queued (queue_of f) c) r
unfolding queued
joined f c m e l = record { queue = rw m e; lock = l }

-- a code that does not wait yet goes behind the last that waits
module _ (f : Faults) (c : ℕ) (p : 0 < c) (m : among c (queue_of f) ≡ false) where
  filled : eqb c 0 ≡ false
  filled = ne_eqb c 0 (λ k. omega arith)

  stays_full : eqb f.fourth 0 ≡ false → Queues f (queued (queue_of f) c) f
  unfolding queue_of waiting
  stays_full d = joined f c m (rw d) refl

  module _ (d : eqb f.fourth 0 ≡ true) where
    to_fourth : eqb f.third 0 ≡ false
        → Queues f (queued (queue_of f) c) (record { first = f.first; second = f.second; third = f.third; fourth = c; locked = f.locked })
    unfolding queue_of waiting
    to_fourth e = joined f c m (rw (d, e, filled)) refl

    module _ (e : eqb f.third 0 ≡ true) where
      to-third : eqb f.second 0 ≡ false
          → Queues f (queued (queue_of f) c) (record { first = f.first; second = f.second; third = c; fourth = f.fourth; locked = f.locked })
      unfolding queue_of waiting
      to-third h = joined f c m (rw (d, e, h, filled)) refl

      to-second : eqb f.second 0 ≡ true → eqb f.first 0 ≡ false
          → Queues f (queued (queue_of f) c) (record { first = f.first; second = c; third = f.third; fourth = f.fourth; locked = f.locked })
      unfolding queue_of waiting
      to-second h k = joined f c m (rw (d, e, h, k, filled)) refl

      to-first : eqb f.second 0 ≡ true → eqb f.first 0 ≡ true
          → Queues f (queued (queue_of f) c) (record { first = c; second = f.second; third = f.third; fourth = f.fourth; locked = f.locked })
      unfolding queue_of waiting
      to-first h k = joined f c m (rw (d, e, h, k, filled)) refl

waits_already : (f : Faults) (c : ℕ) → among c (queue_of f) ≡ true → Queues f (queued (queue_of f) c) f
unfolding queued
waits_already f c m = record { queue = rw m; lock = refl }

moved : (f : Faults) → waiting f.second (waiting f.third (waiting f.fourth (waiting 0 []))) ≡ drop 1 (queue_of f)
unfolding queue_of
moved f = rw (behind f.first (waiting f.second (waiting f.third (waiting f.fourth []))), at_end)

-- 01, row 50h
pub oldest_first : (f : Faults) (r : Oldest Faults) → r.code ≡ f.first
    → r.rest ≡ (record { first = f.second; second = f.third; third = f.fourth; fourth = 0; locked = f.locked }) → Reads f r
unfolding queue_of
oldest_first f r e k = record { oldest = e ∙ sym (front f.first _); rest = record { queue = rw k (moved f); lock = rw k } }

pub emptied : (f : Faults) {r : Faults} → r ≡ no_faults → Queues f [] (record { first = r.first; second = r.second; third = r.third; fourth = r.fourth; locked = f.locked })
unfolding queue_of waiting
emptied f e = record { queue = rw e; lock = refl }

-- 01, "Bit 7 of every reply's command byte"
pub unmarked : (c : ℕ) (q : List ℕ) → waits q ≡ false → c % 128 ≡ warned c q
unfolding waits warned
unmarked c [] e = refl
unmarked c (x ∷ q) e = absurd (false≢true (sym e))

pub marked : (c : ℕ) (q : List ℕ) → waits q ≡ true → c % 128 + 128 ≡ warned c q
unfolding waits warned
marked c [] e = absurd (false≢true e)
marked c (x ∷ q) e = refl

-- no two differing marks satisfy the contract
pub marked_tight : (c : ℕ) (w : Bool) (a b : ℕ) → ((q : List ℕ) → w ≡ waits q → a ≡ warned c q) → ((q : List ℕ) → w ≡ waits q → b ≡ warned c q) → a ≡ b
unfolding waits
marked_tight c true a b p q = p (0 ∷ []) refl ∙ sym (q (0 ∷ []) refl)
marked_tight c false a b p q = p [] refl ∙ sym (q [] refl)

-- 01, "The host notes codes": ignored, locking, queued
module _ (s : State) (f : Faults) (c : ℕ) where
  pub ignored : eqb c 0 ≡ true → holding s f ≡ noted (holding s f) c
  unfolding noted
  ignored e = rw e

  module _ (n : eqb c 0 ≡ false) where
    pub locking : locks c ≡ true
        → holding s (record { first = f.first; second = f.second; third = f.third; fourth = f.fourth; locked = true }) ≡ noted (holding s f) c
    unfolding noted holding with_lock with_queue queue_of
    locking e = rw (n, e)

    pub queueing : {r : Faults} → locks c ≡ false → Queues f (queued (queue_of f) c) r → holding s r ≡ noted (holding s f) c
    unfolding noted holding with_lock with_queue
    queueing e h = rw (n, e, h.queue, h.lock)

-- ---- the place that a code takes
pub no_codes : (q : List ℕ) → waits q ≡ false → q ≡ []
unfolding waits
no_codes [] e = refl
no_codes (c ∷ q) e = absurd (false≢true (sym e))

pub sound_none : (f : Faults) → waits (queue_of f) ≡ false → apart (queue_of f) ≡ true
unfolding apart
sound_none f e = rw (no_codes (queue_of f) e)

-- .. and where codes wait, by the test of those
pub sound-some : (q : List ℕ) {t : Bool} → waits q ≡ true → t ≡ both (waits q) (apart q) → apart q ≡ t
sound-some q w e = sym (rw w at e)

-- how many wait, by the places
module _ (f : Faults) where
  pub four_wait : eqb f.fourth 0 ≡ false → length (queue_of f) ≡ 4
  unfolding queue_of waiting
  four_wait d = rw d

  module _ (d : eqb f.fourth 0 ≡ true) where
    pub three_wait : eqb f.third 0 ≡ false → length (queue_of f) ≡ 3
    unfolding queue_of waiting
    three_wait e = rw (d, e)

    module _ (e : eqb f.third 0 ≡ true) where
      pub two_wait : eqb f.second 0 ≡ false → length (queue_of f) ≡ 2
      unfolding queue_of waiting
      two_wait h = rw (d, e, h)

      module _ (h : eqb f.second 0 ≡ true) where
        pub one_waits : eqb f.first 0 ≡ false → length (queue_of f) ≡ 1
        unfolding queue_of waiting
        one_waits k = rw (d, e, h, k)

        none_of_four : eqb f.first 0 ≡ true → queue_of f ≡ []
        unfolding queue_of waiting
        none_of_four k = rw (d, e, h, k)

module _ (f : Faults) (c : ℕ) where
  pub none_yet : waits (queue_of f) ≡ false → First ≡ place_for f c
  unfolding place_for among
  none_yet e = rw (no_codes (queue_of f) e)

  pub dropped : among c (queue_of f) ≡ true → Ignored ≡ place_for f c
  unfolding place_for
  dropped m = rw m

  module _ (m : among c (queue_of f) ≡ false) where
    place : {n : ℕ} → length (queue_of f) ≡ n → place_at n ≡ place_for f c
    unfolding place_for
    place e = rw (m, e)

    pub no_place : eqb f.fourth 0 ≡ false → Ignored ≡ place_for f c
    no_place d = place (four_wait f d)

    module _ (d : eqb f.fourth 0 ≡ true) where
      pub place_4 : eqb f.third 0 ≡ false → Fourth ≡ place_for f c
      place_4 e = place (three_wait f d e)

      module _ (e : eqb f.third 0 ≡ true) where
        pub place_3 : eqb f.second 0 ≡ false → Third ≡ place_for f c
        place_3 h = place (two_wait f d e h)

        module _ (h : eqb f.second 0 ≡ true) where
          place_2 : eqb f.first 0 ≡ false → Second ≡ place_for f c
          place_2 k = place (one_waits f d e h k)

          place_1 : eqb f.first 0 ≡ true → First ≡ place_for f c
          place_1 k = place (ap length (none_of_four f d e h k))

          -- some code waits, and no place but the first holds it
          pub place_2_of : waits (queue_of f) ≡ true → Second ≡ place_for f c
          unfolding waits
          place_2_of w = go (eqb f.first 0) refl
            where
              go : (t : Bool) → eqb f.first 0 ≡ t → Second ≡ place_for f c
              go false k = place_2 k
              go true k = absurd (false≢true (sym (ap waits (none_of_four f d e h k)) ∙ w))

  -- the code joins the queue at that place
  pub joins_so : 0 < c → Queues f (queued (queue_of f) c) (noted_as f c (place_for f c))
  joins_so p = go (among c (queue_of f)) refl
    where
      by : (x : Noting) → x ≡ place_for f c → Queues f (queued (queue_of f) c) (noted_as f c x) → Queues f (queued (queue_of f) c) (noted_as f c (place_for f c))
      by x e h = subst (λ (y : Noting). Queues f (queued (queue_of f) c) (noted_as f c y)) e h

      go_1 : (t : Bool) → eqb f.first 0 ≡ t → among c (queue_of f) ≡ false → eqb f.fourth 0 ≡ true → eqb f.third 0 ≡ true → eqb f.second 0 ≡ true
          → Queues f (queued (queue_of f) c) (noted_as f c (place_for f c))
      go_1 false k m d e h = by Second (place_2 m d e h k) (to-second f c p m d e h k)
      go_1 true k m d e h = by First (place_1 m d e h k) (to-first f c p m d e h k)

      go_2 : (t : Bool) → eqb f.second 0 ≡ t → among c (queue_of f) ≡ false → eqb f.fourth 0 ≡ true → eqb f.third 0 ≡ true
          → Queues f (queued (queue_of f) c) (noted_as f c (place_for f c))
      go_2 false h m d e = by Third (place_3 m d e h) (to-third f c p m d e h)
      go_2 true h m d e = go_1 (eqb f.first 0) refl m d e h

      go_3 : (t : Bool) → eqb f.third 0 ≡ t → among c (queue_of f) ≡ false → eqb f.fourth 0 ≡ true → Queues f (queued (queue_of f) c) (noted_as f c (place_for f c))
      go_3 false e m d = by Fourth (place_4 m d e) (to_fourth f c p m d e)
      go_3 true e m d = go_2 (eqb f.second 0) refl m d e

      go_4 : (t : Bool) → eqb f.fourth 0 ≡ t → among c (queue_of f) ≡ false → Queues f (queued (queue_of f) c) (noted_as f c (place_for f c))
      go_4 false d m = by Ignored (no_place m d) (stays_full f c p m d)
      go_4 true d m = go_3 (eqb f.third 0) refl m d

      go : (t : Bool) → among c (queue_of f) ≡ t → Queues f (queued (queue_of f) c) (noted_as f c (place_for f c))
      go true m = by Ignored (dropped m) (waits_already f c m)
      go false m = go_4 (eqb f.fourth 0) refl m

  pub ignored_so : eqb c 0 ≡ true → Ignored ≡ noting_of f c
  unfolding noting_of
  ignored_so e = rw e

  module _ (n : eqb c 0 ≡ false) where
    pub locks_so : locks c ≡ true → Locks ≡ noting_of f c
    unfolding noting_of
    locks_so e = rw (n, e)

    pub placed_so : locks c ≡ false → {x : Noting} → x ≡ place_for f c → x ≡ noting_of f c
    unfolding noting_of
    placed_so e h = rw (n, e) h

  -- 01, "The host notes codes"
  pub notes_so : (s : State) → holding s (noted_as f c (noting_of f c)) ≡ noted (holding s f) c
  notes_so s = go (eqb c 0) (locks c) refl refl
    where
      by : (x : Noting) → x ≡ noting_of f c → holding s (noted_as f c x) ≡ noted (holding s f) c → holding s (noted_as f c (noting_of f c)) ≡ noted (holding s f) c
      by x e h = subst (λ (y : Noting). holding s (noted_as f c y) ≡ noted (holding s f) c) e h

      go : (t u : Bool) → eqb c 0 ≡ t → locks c ≡ u → holding s (noted_as f c (noting_of f c)) ≡ noted (holding s f) c
      go true u z l = by Ignored (ignored_so z) (ignored s f c z)
      go false true z l = by Locks (locks_so z l) (locking s f c z l)
      go false false z l = by (place_for f c) (placed_so z l refl) (queueing s f c z l (joins_so (positive c z)))
