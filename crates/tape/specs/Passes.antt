-- The tape read in parts: a pass over the bytes at hand, and any number of passes (01, "The answer program"). Assumes nothing.
use Rattle.std.specs.Prelude.{ℕ, zero, suc, ◌+◌, ◌-◌, ◌≡◌, List, [], ◌∷◌, ◌++◌, length, drop, ltb, Result, Ok, Err}
use Rattle.meaning.specs.Bytes.{pick}
use Rattle.records.specs.Records.{whole_length}
use Rattle.tape.specs.Kinds.{Said, unfit, call_of}
use Rattle.tape.specs.Text.{first_line, bad_line}
use Rattle.tape.specs.Answers.{Stage, opening, running, ended, turn, answers_of}
use Rattle.records.specs.Reader.{Whole, read_at}
use Rattle.records.specs.declared.record.Unread.{Unread}
use Rattle.records.specs.declared.record.Unread.TheVariants.{More, Bad}

-- the longest record of the answer program's kinds: kind, tick, value and parity of a character
abbrev pub longest_record : ℕ
longest_record = 8

-- the longest line: a tick of ten digits, 134 bytes of a reply, and the line's end
abbrev pub longest_line : ℕ
longest_line = 413

-- what the bytes at hand say first; nothing yet where they end before the record does
pub data NextRecord : Type 0 where
  incomplete : NextRecord
  says : Said → NextRecord

unfoldable pub next_record_by : Result Whole Unread → NextRecord
next_record_by (Ok w) = says (call_of w.kind w.body)
next_record_by (Err More) = incomplete
next_record_by (Err Bad) = says unfit

abbrev pub next_record : List ℕ → NextRecord
next_record t = next_record_by (read_at longest_record 0 t)

-- why a pass stopped: no whole record is left, no space for a line is left, or a record was bad
pub data Stop : Type 0 where
  more full over : Stop

-- what a pass comes to: the stage it reached, how many bytes it read, what it printed
pub record Pass : Type 0 where
  pub stage : Stage
  pub read : ℕ
  pub printed : List ℕ
  pub stop : Stop

unfoldable pub stopped : Stage → Stop → Pass
stopped w why = record { stage = w; read = 0; printed = []; stop = why }

-- a pass that goes on after a record of n bytes, unless the record was bad
unfoldable pub after : Stage → List ℕ → ℕ → Pass → Pass
after opening x n p = record { stage = p.stage; read = n + p.read; printed = x ++ p.printed; stop = p.stop }
after (running q s m) x n p = record { stage = p.stage; read = n + p.read; printed = x ++ p.printed; stop = p.stop }
after ended x n p = record { stage = ended; read = 0; printed = x; stop = over }

-- where no whole record stands next, p; else f says what follows
unfoldable pub on_next_record : {A : Type 0} → NextRecord → A → (Said → A) → A
on_next_record incomplete p f = p
on_next_record (says x) p f = f x

-- record after record of t, which begins at a place of the tape, while there is space for a line; n bounds the records
unfoldable pub pass : ℕ → ℕ → Stage → ℕ → List ℕ → Pass
pass zero space w at t = stopped w more
pass (suc n) space w at t =
    pick (ltb space longest_line) (stopped w full)
    (on_next_record (next_record t) (stopped w more)
    (λ x.
    let k = turn w at x in
    after k.stage k.printed (whole_length t) (pass n (space - length k.printed) k.stage (at + whole_length t) (drop (whole_length t) t))))

-- the end of the tape: what is left of it, if anything, is a record cut short
unfoldable pub closing : Stage → ℕ → List ℕ → List ℕ
closing ended at t = []
closing opening at [] = []
closing opening at (b ∷ t) = bad_line at
closing (running p s m) at [] = []
closing (running p s m) at (b ∷ t) = bad_line at

-- how a program feeds the tape: more bytes, maybe none, behind those that are left, and a pass with so much space
pub record Feed : Type 0 where
  pub bytes : List ℕ
  pub space : ℕ

pub record Fed : Type 0 where
  pub stage : Stage
  pub place : ℕ
  pub left : List ℕ
  pub printed : List ℕ

unfoldable pub fed : Stage → ℕ → List ℕ → List Feed → Fed
fed w at t [] = record { stage = w; place = at; left = t; printed = [] }
fed w at t (f ∷ fs) =
    let u = t ++ f.bytes in
    let p = pass (suc (length u)) f.space w at u in
    let r = fed p.stage (at + p.read) (drop p.read u) fs in
    record { stage = r.stage; place = r.place; left = r.left; printed = p.printed ++ r.printed }

unfoldable pub tape_of : List Feed → List ℕ
tape_of [] = []
tape_of (f ∷ fs) = f.bytes ++ tape_of fs

-- no whole record is left, or a record was bad: what a pass shows that does not stop for want of space
pub data Settled : Stage → List ℕ → Type 0 where
  read_all : {w : Stage} {t : List ℕ} → next_record t ≡ incomplete → Settled w t
  was_bad : {t : List ℕ} → Settled ended t

-- in whatever parts the tape is fed, and with whatever space, what is printed is what the whole tape prints
abbrev pub AnyParts : Type 0
AnyParts =
    (fs : List Feed) → let r = fed opening 0 [] fs in
    Settled r.stage r.left → first_line ++ (r.printed ++ closing r.stage r.place r.left) ≡ answers_of (tape_of fs)
