-- The programmer: which request is due, where the verdict leads, and how far it has come (02, Req 04). Assumes nothing.
use Rattle.std.specs.Prelude.{ℕ, ◌+◌, ◌-◌, ◌*◌, List, [], ◌∷◌, length, take, drop, eqb, ltb}
use Rattle.meaning.specs.Bytes.{pick, both, arg, same}
use Rattle.meaning.specs.Fields.{writable, attributes}
use Rattle.meaning.specs.Commands.{command_of}
use Rattle.meaning.specs.Bench.{Verdict, refusal, done, failed, address_ok, address_for, allowed, request, judge}
use Rattle.programmer.specs.Wishes.{Field, Wish, wanted, code_for}
use Rattle.programmer.specs.declared.step.Step.{Step}
use Rattle.programmer.specs.declared.step.Step.TheVariants.{Count, Look, Remove, Create, Store, Read, Lock}
use Rattle.programmer.specs.declared.step.Why.TheVariants.{Judgement, Error, Differs}
use Rattle.programmer.specs.declared.step.Standing.{Standing}
use Rattle.programmer.specs.declared.step.Standing.TheVariants.{At, Done, Failed}

-- a request: its command and its data
pub record Due : Type 0 where
  pub command : ℕ
  pub body : List ℕ

-- "Read-only fields are created write-enabled": the status with bit 6 set
unfoldable pub enabled : ℕ → ℕ
enabled st = pick (writable st) st (st + 64)

-- "Statuses of fields present are read before they are deleted": a deletion carries the status that was read, without bit 7 (Req 02), and the code that it
-- names. "creates the wanted ones, stores them in parts of at most 128 bytes and reads them back": a field has at most 128, so one part
unfoldable pub due : Wish → Step → Due
due l Count = record { command = 0x4E; body = [] }
due l (Look k) = record { command = 0x4C; body = k ∷ [] }
due l (Remove k st) = record { command = 0x4D; body = k ∷ attributes st ∷ code_for l st ∷ [] }
due l (Create i) = record { command = 0x4D; body = i ∷ enabled (wanted l i).status ∷ code_for l (wanted l i).status ∷ [] }
due l (Store i) =
    let f = wanted l i in record { command = 0x4B; body = i ∷ 0 ∷ length f.bytes ∷ code_for l f.status ∷ f.bytes }
due l (Read i) =
    let f = wanted l i in record { command = 0x4A; body = i ∷ 0 ∷ length f.bytes ∷ code_for l f.status ∷ [] }
due l (Lock i) = record { command = 0x4D; body = i ∷ (wanted l i).status ∷ code_for l (wanted l i).status ∷ [] }

-- the first i wanted fields are there: the next, or done
unfoldable pub making : Wish → ℕ → Standing
making l i = pick (ltb i (length l.fields)) (At (Create i)) Done

-- "deletes the fields present from last to first": n are left
unfoldable pub clearing : Wish → ℕ → Standing
clearing l n = pick (eqb n 0) (making l 0) (At (Look (n - 1)))

-- "locked afterwards"
unfoldable pub locking : Wish → ℕ → Standing
locking l i = pick (writable (wanted l i).status) (making l (i + 1)) (At (Lock i))

-- where a good reply with the data d leads: 4Eh tells the number of fields, 4Ch the status, and 4Ah the bytes behind field, offset and count
unfoldable pub onto : Wish → Step → List ℕ → Standing
onto l Count d = clearing l (arg d 1)
onto l (Look k) d = At (Remove k (arg d 1))
onto l (Remove k st) d = clearing l k
onto l (Create i) d = At (Store i)
onto l (Store i) d = At (Read i)
onto l (Read i) d = pick (same (drop 3 d) (wanted l i).bytes) (locking l i) (Failed (Read i) Differs)
onto l (Lock i) d = making l (i + 1)

-- "a warning does not stop the run"; "a failed judgement; an error code; read-back differs": it ends in the first failed request and why
unfoldable pub on_verdict : Wish → Step → Verdict → Standing
on_verdict l st (refusal n) = Failed st (Judgement n)
on_verdict l st (done w d) = onto l st d
on_verdict l st (failed w e) = Failed st (Error e)

-- the bytes that are due, for the board of the address n (0 to 31, or 255 for broadcast); none where it has ended, or the bench writes none (R5)
unfoldable pub bytes_due : ℕ → Wish → Standing → List ℕ
bytes_due n l (At st) =
    let q = due l st in pick (both (address_ok n) (allowed (command_of q.command) q.body)) (request (address_for n) q.command q.body) []
bytes_due n l Done = []
bytes_due n l (Failed st w) = []

-- where the reply r leads, silence being the empty reply (B1); what has ended stays
unfoldable pub after_reply : ℕ → Wish → Standing → List ℕ → Standing
after_reply n l (At st) r = on_verdict l st (judge (bytes_due n l (At st)) r)
after_reply n l Done r = Done
after_reply n l (Failed st w) r = Failed st w

-- of the fields present so many are still there, as far as the next request tells
abbrev pub still_there : Standing → ℕ
still_there (At Count) = 0
still_there (At (Look k)) = k + 1
still_there (At (Remove k st)) = k + 1
still_there (At (Create i)) = 0
still_there (At (Store i)) = 0
still_there (At (Read i)) = 0
still_there (At (Lock i)) = 0
still_there Done = 0
still_there (Failed st w) = 0

-- the requests that wanted fields take: create, store, read back, and lock a read-only one
unfoldable pub requests_for : List Field → ℕ
requests_for [] = 0
requests_for (f ∷ fs) = 3 + (pick (writable f.status) 0 1 + requests_for fs)

-- .. and all, where n fields are present
unfoldable pub in_all : Wish → ℕ → ℕ
in_all l n = 1 + (2 * n + requests_for l.fields)

-- so many were answered when this step's request is due, n fields having been present
abbrev pub answered : Wish → ℕ → Step → ℕ
answered l n Count = 0
answered l n (Look k) = 1 + 2 * (n - (k + 1))
answered l n (Remove k st) = 2 + 2 * (n - (k + 1))
answered l n (Create i) = 1 + (2 * n + requests_for (take i l.fields))
answered l n (Store i) = 2 + (2 * n + requests_for (take i l.fields))
answered l n (Read i) = 3 + (2 * n + requests_for (take i l.fields))
answered l n (Lock i) = 4 + (2 * n + requests_for (take i l.fields))

-- .. and where it stands; a failed request was not answered
abbrev pub answered_at : Wish → ℕ → Standing → ℕ
answered_at l n (At st) = answered l n st
answered_at l n Done = in_all l n
answered_at l n (Failed st w) = answered l n st
