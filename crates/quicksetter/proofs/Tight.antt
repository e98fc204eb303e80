-- No two differing outcomes satisfy the contract of a call from C (01, "How tightly the contracts bind"). Assumes nothing.
use mathlib.Core.Path.{◌≡◌, sym, ◌∙◌}
use mathlib.Core.List.{List, []}
use Prim.Native.Nat.{ℕ}
use Rattle.meaning.specs.State.{Plate}
use Rattle.meaning.specs.Run.{Call}
use Rattle.meaning.specs.Bench as meaning
use Rattle.bench.specs.Lengths.{expected_length}
use Rattle.wire.proofs.Tight.{same_outcome}
use Rattle.quicksetter.specs.Calls.{Called, CalledWithSleep, Freshens, Restarts}
use Rattle.quicksetter.specs.Verdicts.{Writes, verdict_number, expected_number, piece_number}

-- what a call's outcome is made of
pub record Alike (r t : ℕ) (img' img'' m' m'' w' w'' : List ℕ) : Type 0 where
  pub number : r ≡ t
  pub image : img' ≡ img''
  pub memory : m' ≡ m''
  pub room : w' ≡ w''

module _ (img : List ℕ) (g : Call) {r t : ℕ} {img' img'' : List ℕ} where
  -- the number of a reply, image, memory and room; of a character and a poll with the sleep
  pub called_tight : (m w : List ℕ) {m' m'' w' w'' : List ℕ} → Called img m w g r img' m' w' → Called img m w g t img'' m'' w''
      → Alike r t img' img'' m' m'' w' w''
  called_tight m w x y =
      record {
        number = x.answer ∙ sym y.answer;
        image = x.image ∙ sym y.image;
        memory = x.memory ∙ sym y.memory;
        room = x.room ∙ sym y.room;
      }

  pub answered_tight : (m w : List ℕ) {m' m'' w' w'' : List ℕ} → CalledWithSleep img m w g r img' m' w' → CalledWithSleep img m w g t img'' m'' w''
      → Alike r t img' img'' m' m'' w' w''
  answered_tight m w x y =
      record {
        number = x.number ∙ sym y.number;
        image = x.called.image ∙ sym y.called.image;
        memory = x.called.memory ∙ sym y.called.memory;
        room = x.called.room ∙ sym y.called.room;
      }

  -- a measured position, a fault code, power-on: neither memory nor room is lent
  pub note_tight : ((m w : List ℕ) → Called img m w g r img' m w) → ((m w : List ℕ) → Called img m w g t img'' m w) → (r ≡ t) × (img' ≡ img'')
  note_tight x y = let z = called_tight [] [] (x [] []) (y [] []) in (z.number, z.image)

pub fresh_tight : (p : Plate) (img : List ℕ) {r t : ℕ} {img' img'' : List ℕ} → Freshens p img r img' → Freshens p img t img'' → (r ≡ t) × (img' ≡ img'')
fresh_tight p img x y = (x.answer ∙ sym y.answer, x.image ∙ sym y.image)

pub restart_tight : (p : Plate) (lasting img : List ℕ) {r t : ℕ} {img' img'' : List ℕ} → Restarts p lasting img r img' → Restarts p lasting img t img'' → (r ≡ t) × (img' ≡ img'')
restart_tight p lasting img x y = (x.answer ∙ sym y.answer, x.image ∙ sym y.image)

pub request_tight : (w : meaning.Written) {r t : ℕ} {buffer' buffer'' : List ℕ} → Writes w r buffer' → Writes w t buffer'' → (r ≡ t) × (buffer' ≡ buffer'')
request_tight w x y = (x.answer ∙ sym y.answer, x.buffer ∙ sym y.buffer)

pub judge_tight : (q a : List ℕ) (r t : ℕ) → r ≡ verdict_number (meaning.judge q a) → t ≡ verdict_number (meaning.judge q a) → r ≡ t
judge_tight q a = same_outcome (verdict_number (meaning.judge q a))

pub data_part_tight : (q a : List ℕ) (r t : ℕ) → r ≡ piece_number (meaning.handed q a) → t ≡ piece_number (meaning.handed q a) → r ≡ t
data_part_tight q a = same_outcome (piece_number (meaning.handed q a))

pub reply_length_tight : (q s : List ℕ) (r t : ℕ) → r ≡ expected_number (expected_length q s) → t ≡ expected_number (expected_length q s) → r ≡ t
reply_length_tight q s = same_outcome (expected_number (expected_length q s))
