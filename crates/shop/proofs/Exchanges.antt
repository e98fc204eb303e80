-- A run of exchanges is a run over requests. Assumes nothing.
use Prim.Native.Nat.{ℕ, zero, suc, ◌≤◌}
use mathlib.Core.Path.{◌≡◌, refl, sym, ap, ◌∙◌, subst}
use mathlib.Core.Bool.{Bool, true, false}
use mathlib.Core.List.{List, [], ◌∷◌}
use native.Mathlib.Omega.{arith}
use lib.Dec.{T, eqb}
use lib.ListN.{length, take, drop}
use lib.Seq.{take-append_seam}
use Rattle.meaning.specs.Bytes.{either, put}
use Rattle.meaning.specs.State as board
use Rattle.meaning.specs.State.{own_byte, with_line, plate_ok, last_address}
use Rattle.meaning.specs.Frames.{Outcome, resting}
use Rattle.meaning.specs.Bench.{address_for}
use Rattle.meaning.specs.Demands.{meant}
use Rattle.meaning.proofs.Choices.{told-true}
use Rattle.meaning.proofs.Plates.{whole-label}
use Rattle.meaning.proofs.Puts.{put_front}
use Rattle.board.specs.Board.{state_of}
use Rattle.exchange.specs.Passing.{board_heard, refusal_for, reached, answer_to, passed}
use Rattle.programmer.specs.Wishes.{Wish, wish_of}
use Rattle.programmer.specs.Steps.{due}
use Rattle.programmer.specs.Running.{at_first, hears}
use Rattle.programmer.specs.declared.step.Standing.{Standing}
use Rattle.programmer.specs.declared.step.Standing.TheVariants.{At, Done, Failed}
use Rattle.programmer.proofs.Whole.{good-is-whole}
use Rattle.shop.specs.Promises.{Talk, talked, talked_on, Met, InForce, Programmed}
use Rattle.shop.specs.Passages.{Scene, talk_of}
use Rattle.shop.specs.Exchanges.{exchanged_at, exchanged_on, ExchangeIsOne, ProgramsByExchange}
use Rattle.shop.proofs.Programming.{programs}
use Rattle.shop.proofs.Calls.{due_stays}

module _ (p : board.Plate) (n : ℕ) (l : Wish) where
  -- the programmer was told one address, and it is this board's; the tape's codes are in force
  record Kept (x : Scene) : Type 0 where
    told : x.programmer.address ≡ n
    met : Met n l (resting x.state)

  abbrev next : Scene → Scene
  next x = exchanged_at p n l x.programmer.standing x

  record Exchanged (x : Scene) : Type 0 where
    talks : talk_of (next x) ≡ talked p n l (resting x.state) x.programmer.standing x.memory
    kept : Kept (next x)

  rested : (s : board.State) → resting (resting s) ≡ resting s
  unfolding resting with_line
  rested s = refl

  exchanges : (x : Scene) (y : Standing) → x.programmer.standing ≡ y → Kept x → Exchanged x
  unfolding exchanged_at hears talked answer_to reached
  exchanges x (At st) is K =
      let s = resting x.state in
      let m = x.memory in
      let c = (due l st).command in
      let d = (due l st).body in
      let ours : either (eqb (address_for n) (own_byte s)) (eqb (address_for n) 0xFF) ≡ true = told-true _ K.met.ours in
      let same : (meant p s m c d).state ≡ s = due_stays p s m l st in
      record {
        talks = rw (is, K.told, ours);
        kept = record { told = rw is K.told; met = rw (is, ours, same, rested x.state) K.met };
      }
  exchanges x Done is K = record { talks = rw is; kept = record { told = rw is K.told; met = rw is K.met } }
  exchanges x (Failed st w) is K = record { talks = rw is; kept = record { told = rw is K.told; met = rw is K.met } }

  -- the states in which the requests are worked
  abbrev states : ℕ → Scene → List board.State
  states zero x = []
  states (suc k) x = resting x.state ∷ states k (next x)

  states-length : (k : ℕ) (x : Scene) → length (states k x) ≡ k
  states-length zero x = refl
  states-length (suc k) x = ap suc (states-length k (next x))

  all_exchanged : (k : ℕ) (x : Scene) → Kept x → talked_on p n l (states k x) (talk_of x) ≡ talk_of (exchanged_on p n l k x)
  unfolding talked_on exchanged_on
  all_exchanged zero x K = refl
  all_exchanged (suc k) x K =
      let E = exchanges x x.programmer.standing refl K in
      ap (talked_on p n l (states k (next x))) (sym E.talks) ∙ all_exchanged k (next x) E.kept

  all_met : (k : ℕ) (x : Scene) → Kept x → InForce n l (states k x)
  all_met zero x K = tt
  all_met (suc k) x K = (K.met, all_met k (next x) (exchanges x x.programmer.standing refl K).kept)

-- ---- one call of `exchange` is one of them

front_again : (w bs : List ℕ) → take (length bs) (put w 0 bs) ≡ bs
front_again w bs = rw (put_front w bs) (take-append_seam bs (drop (length bs) w))

pub exchange_is_one : ExchangeIsOne
unfolding exchanged_at passed
exchange_is_one p b n l x st spacing q kept m w r q' kept' m' w' k j v P e = go (eqb (refusal_for p b n c d spacing q kept m w) 0) refl
  where
    c : ℕ
    c = (due l st).command

    d : List ℕ
    d = (due l st).body

    o : Outcome
    o = answer_to p (resting (state_of b kept)) m (address_for n) c d

    go : (t : Bool) → eqb (refusal_for p b n c d spacing q kept m w) 0 ≡ t
        → ◌≡◌ {A = Scene} (record { programmer = hears l x (take j w'); state = state_of (board_heard b r) kept'; memory = m' }) (record { programmer = hears l x o.reply; state = o.state; memory = o.memory })
    go true f =
        let y = rw f at P.ended in
        let z : j ≡ length o.reply = cc in
        let a : take j w' ≡ o.reply = rw (z, P.room, f) (front_again w o.reply) in
        rw (a, P.state, P.memory, f)
    go false f =
        let y = rw f at P.ended in absurd cc

rests : (n : ℕ) (l : Wish) (s : board.State) → s.codes ≡ l.codes → s.address ≤ last_address → T (reached s (address_for n)) → Met n l (resting s)
unfolding resting with_line reached own_byte
rests n l s c h o = record { codes = c; address = h; ours = o }

pub programs_by_exchange : ProgramsByExchange
programs_by_exchange p n t s m k ok good home ours size sd f fit codes e =
    let l = wish_of t in
    let x : Scene = record { programmer = at_first n; state = s; memory = m } in
    let K : Kept p n l x = record { told = refl; met = rests n l s codes home ours } in
    subst (λ (z : Talk). Programmed p.total l z) (all_exchanged p n l k x K)
    (programs p n l m (states p n l k x)
    (record { label = whole-label p (told-true (plate_ok p) ok); address = good; size = size; trusted = sd; whole = (good-is-whole t f).fit; room = fit })
    (all_met p n l k x K) (omega (arith, states-length p n l k x, e)))
