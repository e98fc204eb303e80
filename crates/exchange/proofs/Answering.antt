-- A sent request is closed and judged: what comes back is what the specification's answer says. Assumes nothing.
use Prim.Native.Nat.{ℕ, ◌+◌, ◌-◌, ◌%◌, ◌^◌, ◌<◌, ◌≤◌}
use mathlib.Core.Path.{◌≡◌, refl, sym, ap, ap₂, ◌∙◌}
use mathlib.Core.Bool.{Bool, true, false}
use mathlib.Core.List.{List}
use native.Mathlib.Omega.{arith}
use lib.ListN.{length, take, drop}
use lib.Seq.{take-length, take-append_seam}
use Rattle.meaning.specs.Bytes.{pick, put}
use Rattle.meaning.specs.State.{Plate, State, Line, none, with_line, plate_ok, state_ok}
use Rattle.meaning.specs.Characters.{full_pause, over}
use Rattle.meaning.specs.Frames.{Outcome, still, resting}
use Rattle.meaning.specs.Run.{poll, step, run_from, closes}
use Rattle.meaning.specs.Bench.{address_for, request, judge}
use Rattle.meaning.specs.Demands.{meant}
use Rattle.meaning.proofs.Puts.{put-nothing, length-put, put_front}
use Rattle.meaning.proofs.Rests.{meant_rests}
use Rattle.meaning.proofs.Choices.{true-told}
use Rattle.meaning.proofs.Limits.{Lim, to_lim, replies_fit}
use Rattle.meaning.proofs.Plates.{whole-label, longest_pause}
use Rattle.board.specs.declared.limits.Board.{Board}
use Rattle.board.specs.declared.calls.Refusal.{Refusal}
use Rattle.board.specs.declared.calls.Stepped.{Stepped}
use Rattle.board.specs.Board.{state_of, refusal_on, Steps}
use Rattle.std.proofs.Common.{Some, None, Result, Ok, IsOk, unwrap_or}
use Rattle.board.specs.Promises.{DoesStep}
use Rattle.board.proofs.Promises.{does_step, is_answered, unrefused, stays_within}
use Rattle.bench.specs.Outcomes.{Judging, verdict_of, without_data}
use Rattle.exchange.specs.declared.sending.Sent.{Sent}
use Rattle.exchange.specs.Calls.{stamp_of, sending, Clear, SendsRequest}
use Rattle.exchange.specs.Passing.{reached, answer_to, verdict_on, Asks, Converses}
use Rattle.exchange.proofs.Stepping.{kept-bytes}
use Rattle.exchange.proofs.Closing.{over-now, poll-answers, verdict-answers}

-- the pause as a number of ticks fits 32 bits

module _ (p : Plate) (ok : plate_ok p ≡ true) where
  pub pause-fits : full_pause p < 2 ^ 32
  pause-fits = omega (arith, longest_pause p ok)

-- ---- the poll

-- after a request no frame is open
answer_rests : (p : Plate) (s : State) (m : List ℕ) (a c : ℕ) (d : List ℕ) → (answer_to p s m a c d).state.line ≡ s.line
unfolding answer_to still
answer_rests p s m a c d = go (reached s a)
  where
    go : (t : Bool) → (pick t (meant p s m c d) (still s m)).state.line ≡ s.line
    go true = meant_rests p s m d c
    go false = refl

module _ (p : Plate) (b : Board) (tick spacing : ℕ) (q kept m w : List ℕ) (clear : Clear p b spacing q kept m w) where
  pub clear-pause : full_pause p < 2 ^ 32
  clear-pause = pause-fits p clear.within.plate

  module _ {e : Sent} {k₁ m₁ w₁ : List ℕ} (sent : SendsRequest p b tick spacing q kept m w e k₁ m₁ w₁) (t : ℕ) where
    room-wide : 134 ≤ length w₁
    room-wide = rw sent.taken.room clear.wide

    willing : refusal_on p e.board k₁ m₁ (length w₁) (poll t) ≡ 0
    willing = unrefused p e.board k₁ m₁ (length w₁) (poll t) sent.taken.within room-wide

    pub poll-answered : {y : Result Stepped Refusal} {k₂ m₂ w₂ : List ℕ} → Steps p e.board k₁ m₁ w₁ (poll t) y k₂ m₂ w₂ → IsOk y
    poll-answered s = is_answered p e.board k₁ m₁ w₁ (poll t) willing s

    module _ {r : Stepped} {y : Result Stepped Refusal} {k₂ m₂ w₂ : List ℕ} (said : y ≡ Ok r)
        (steps : Steps p e.board k₁ m₁ w₁ (poll t) y k₂ m₂ w₂) where
      s : Steps p e.board k₁ m₁ w₁ (poll t) (Ok r) k₂ m₂ w₂
      s = rw said at steps

      polled : DoesStep p e.board k₁ m₁ w₁ (poll t) (Ok r) k₂ m₂ w₂
      polled = does_step p e.board k₁ m₁ w₁ (poll t) willing s

      reply-told : r.reply ≡ pick (closes p (state_of e.board k₁) (poll t)) (Some (length (step p (state_of e.board k₁) m₁ (poll t)).reply)) None
      reply-told = let h = polled.outcome in cc

      -- the reply lies within its room
      pub reply-fits : unwrap_or r.reply 0 ≤ length w₂
      reply-fits = rw reply-told (go (closes p (state_of e.board k₁) (poll t)))
        where
          o : Outcome
          o = step p (state_of e.board k₁) m₁ (poll t)

          long : length w₂ ≡ length w₁
          long = rw polled.room (length-put w₁ 0 o.reply (omega (arith, room-wide, replies_fit p (state_of e.board k₁) m₁ (poll t))))

          go : (c : Bool) → unwrap_or (pick c (Some (length o.reply)) None) 0 ≤ length w₂
          go true = omega (arith, long, room-wide, replies_fit p (state_of e.board k₁) m₁ (poll t))
          go false = omega arith

      -- Demand 2 in code: what the request comes to
      module _ (low : tick < 2 ^ 32) (at : t ≡ (e.last + full_pause p) % 2 ^ 32) (n c : ℕ) (d : List ℕ) (asks : Asks n c d q) where
        abbrev a : ℕ
        a = address_for n

        abbrev s₀ : State
        s₀ = resting (state_of b kept)

        abbrev answer : Outcome
        answer = answer_to p s₀ m a c d

        -- the board's address is one
        home : Lim p (state_of b kept)
        home = to_lim p (state_of b kept) (true-told (state_ok p (state_of b kept)) clear.within.state)

        short : length (request a c d) ≤ 135
        short = rw asks.bytes at clear.short

        tick_is : t ≡ (stamp_of tick spacing (length (request a c d) - 1) + full_pause p) % 2 ^ 32
        tick_is = at ∙ ap (λ (x : ℕ). (x + full_pause p) % 2 ^ 32) (sent.last ∙ ap (λ (l : List ℕ). stamp_of tick spacing (length l - 1)) asks.bytes)

        state-is : state_of e.board k₁ ≡ (run_from p (state_of b kept) m (sending tick spacing (request a c d) (length (request a c d)))).state
        state-is = sent.taken.state ∙ ap (λ (l : List ℕ). (run_from p (state_of b kept) m (sending tick spacing l (length l))).state) asks.bytes

        answered : step p (state_of e.board k₁) m₁ (poll t) ≡ answer
        answered =
            ap₂ (λ (x : State) (y : List ℕ). step p x y (poll t)) state-is sent.taken.memory
            ∙ ap (λ (x : ℕ). step p (run_from p (state_of b kept) m (sending tick spacing (request a c d) (length (request a c d)))).state m (poll x)) tick_is
            ∙ poll-answers p (state_of b kept) m tick spacing a c d clear.idle low clear.close clear-pause short home.placed (whole-label p clear.within.plate) clear.within.size asks.may

        closed-now : closes p (state_of e.board k₁) (poll t) ≡ true
        unfolding closes
        closed-now =
            ap₂ (λ (x : State) (y : ℕ). over p x y) state-is tick_is
            ∙ over-now p (state_of b kept) m tick spacing a c d clear.idle low clear.close clear-pause short home.placed (whole-label p clear.within.plate) clear.within.size asks.may

        count-is : unwrap_or r.reply 0 ≡ length answer.reply
        count-is = rw (reply-told, closed-now, answered)

        emptied : (k : List ℕ) → put k 0 s₀.line.kept ≡ k
        unfolding resting with_line none
        emptied k = sym (put-nothing k 0)

        pub converses : {k : ℕ} {v : Judging} → k ≡ unwrap_or r.reply 0 → verdict_of v ≡ without_data (judge q (take k w₂))
            → Converses p b n c d kept m w (record { board = r.board; request = length q; reply = k; verdict = v }) k₂ m₂ w₂
        converses {k} {v} kk vv =
            let room : w₂ ≡ put w 0 answer.reply = polled.room ∙ ap₂ (λ (l : List ℕ) (o : Outcome). put l 0 o.reply) sent.taken.room answered in
            let heard-bytes : take k w₂ ≡ answer.reply
            = rw (room, kk, count-is, put_front w answer.reply) (take-append_seam answer.reply (drop (length answer.reply) w)) in
            let told : verdict_of v ≡ without_data (verdict_on p s₀ m a c d)
            = vv ∙ ap without_data (ap₂ judge asks.bytes heard-bytes ∙ verdict-answers p s₀ m n c d (unfold resting with_line in home.placed) (whole-label p clear.within.plate) clear.within.size asks.address asks.may) in
            record {
              ended = rw (told, kk, count-is, asks.bytes);
              state = polled.state ∙ ap (λ (o : Outcome). o.state) answered;
              bytes =
                  kept-bytes p e.board k₁ m₁ w₁ (poll t) sent.taken.within room-wide s ∙ ap (λ (o : Outcome). put k₁ 0 o.state.line.kept) answered
                  ∙ ap (λ (l : Line). put k₁ 0 l.kept) (answer_rests p s₀ m a c d) ∙ emptied k₁
                  ∙ sent.taken.bytes ∙ ap (λ (l : List ℕ). put kept 0 l) (take-length q ∙ asks.bytes);
              memory = polled.memory ∙ ap (λ (o : Outcome). o.memory) answered;
              room = room;
              few = (stays_within p e.board k₁ m₁ w₁ (poll t) sent.taken.within room-wide s).few;
            }
