-- The promises of Req 04 for any replies whatever, from our board or another. Assumes nothing.
use Rattle.std.specs.Prelude.{ℕ, ◌+◌, ◌≤◌, ◌<◌, ◌≡◌, ◌⊎◌, Bool, true, false, List, [], ◌∷◌, length, get_or, drop, T}
use Rattle.meaning.specs.Bytes.{arg}
use Rattle.meaning.specs.Fields.{bytes_of, blocks, exists}
use Rattle.meaning.specs.Bench.{address_ok, done, judge}
use Rattle.programmer.specs.Wishes.{Field, Wish, wanted, good, checked_tape, wish_of}
use Rattle.programmer.specs.Steps.{bytes_due, in_all, answered}
use Rattle.programmer.specs.Running.{at_first, hears, is_possible}
use Rattle.programmer.specs.declared.run.Programmer.{Programmer}
use Rattle.programmer.specs.declared.step.Step.{Step}
use Rattle.programmer.specs.declared.step.Step.TheVariants.{Look, Remove, Read, Lock}
use Rattle.programmer.specs.declared.step.Standing.{Standing}
use Rattle.programmer.specs.declared.step.Standing.TheVariants.{At, Done, Failed}

-- each status has bit 7 set, and each field has its bytes
abbrev pub FieldsFit : List Field → Type 0
FieldsFit [] = Unit
FieldsFit (f ∷ fs) = T (exists f.status) × (length f.bytes ≡ bytes_of (blocks f.status)) × FieldsFit fs

-- how many bytes of the tape the fields' records take
unfoldable pub span_of : List Field → ℕ
span_of [] = 0
span_of (f ∷ fs) = 5 + length f.bytes + span_of fs

-- four codes, at most 256 fields, each of its size, and nothing else from the tape's first byte to its last
pub record WholeTape (t : List ℕ) (l : Wish) : Type 0 where
  pub four : length l.codes ≡ 4
  pub few : length l.fields ≤ 256
  pub fit : FieldsFit l.fields
  pub all : 8 + span_of l.fields ≡ length t

abbrev pub GoodIsWhole : Type 0  -- "The whole tape is checked"
GoodIsWhole = (t : List ℕ) → checked_tape t ≡ good → WholeTape t (wish_of t)

-- any replies whatever, newest first: where the run stands
unfoldable pub after_replies : ℕ → Wish → List (List ℕ) → Programmer
after_replies n l [] = at_first n
after_replies n l (r ∷ rs) = hears l (after_replies n l rs) r

unfoldable pub has_ended : Standing → Bool  -- "It ends in done, or in the first failed request and why"
has_ended (At st) = false
has_ended Done = true
has_ended (Failed st w) = true

abbrev pub AllBytes : List (List ℕ) → Type 0  -- each reply is of bytes
AllBytes [] = Unit
AllBytes (r ∷ rs) = ((i : ℕ) → get_or r i 0 < 256) × AllBytes rs

-- what a run leaves is never refused (R1)
abbrev pub StaysPossible : Type 0
StaysPossible = (n : ℕ) (l : Wish) (rs : List (List ℕ)) → T (address_ok n) → AllBytes rs → T (is_possible l (after_replies n l rs))

-- "so many of so many": while a request is due, as many are answered as replies came, and fewer than all
pub record OnTheWay (l : Wish) (n replies : ℕ) (st : Step) : Type 0 where
  pub counts : answered l n st ≡ replies
  pub short : answered l n st < in_all l n
  pub few : n ≤ 255

abbrev pub CountsReplies : Type 0
CountsReplies = (n : ℕ) (l : Wish) (rs : List (List ℕ)) (st : Step) → AllBytes rs → (after_replies n l rs).standing ≡ At st
    → OnTheWay l (after_replies n l rs).present (length rs) st

-- the run ends, whatever is answered: what is not yet answered falls with each reply, and at most 255 fields are told
abbrev pub EndsAlways : Type 0
EndsAlways = (n : ℕ) (l : Wish) (rs : List (List ℕ)) → AllBytes rs → in_all l 255 ≤ length rs → has_ended (after_replies n l rs).standing ≡ true

-- "the first failed request": nothing is sent once it is over, and nothing leads on
abbrev pub StaysOver : Type 0
StaysOver = (l : Wish) (x : Programmer) (r : List ℕ) → has_ended x.standing ≡ true → (bytes_due x.address l x.standing ≡ []) × (hears l x r ≡ x)

-- the reply r, after the replies rs, brought the bytes of wanted field i
pub record Brings (n : ℕ) (l : Wish) (rs : List (List ℕ)) (r : List ℕ) (i : ℕ) : Type 0 where
  pub due_then : (after_replies n l rs).standing ≡ At (Read i)
  pub warned : Bool
  pub data_part : List ℕ
  pub verdict : judge (bytes_due n l (At (Read i))) r ≡ done warned data_part
  pub same_bytes : drop 3 data_part ≡ (wanted l i).bytes

abbrev pub Brought : ℕ → Wish → List (List ℕ) → ℕ → Type 0  -- .. and some reply did
Brought n l [] i = ⊥
Brought n l (r ∷ rs) i = Brings n l rs r i ⊎ Brought n l rs i

-- "read-back differs" is never passed over: done only if every wanted field was read back as wanted
abbrev pub DoneReadBack : Type 0
DoneReadBack = (n : ℕ) (l : Wish) (rs : List (List ℕ)) → (after_replies n l rs).standing ≡ Done → (i : ℕ) → i < length l.fields → Brought n l rs i

-- the reply r, after the replies rs, told the status st of field k
pub record TellsStatus (n : ℕ) (l : Wish) (rs : List (List ℕ)) (r : List ℕ) (k st : ℕ) : Type 0 where
  pub due_then : (after_replies n l rs).standing ≡ At (Look k)
  pub warned : Bool
  pub data_part : List ℕ
  pub verdict : judge (bytes_due n l (At (Look k))) r ≡ done warned data_part
  pub told : arg data_part 1 ≡ st

-- "Statuses of fields present are read before they are deleted": a deletion is due only next after the reply that told the status it carries
abbrev pub ReadBeforeDeleted : Type 0
ReadBeforeDeleted = (n : ℕ) (l : Wish) (rs : List (List ℕ)) (r : List ℕ) (k st : ℕ) → (after_replies n l (r ∷ rs)).standing ≡ At (Remove k st) → TellsStatus n l rs r k st

-- "locked afterwards": a lock is due only next after the reply that brought the field's bytes
abbrev pub ReadBeforeLocked : Type 0
ReadBeforeLocked = (n : ℕ) (l : Wish) (rs : List (List ℕ)) (r : List ℕ) (i : ℕ) → (after_replies n l (r ∷ rs)).standing ≡ At (Lock i) → Brings n l rs r i
