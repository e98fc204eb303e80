-- What a command changes in the state and what a noted code comes to, and what the state is then (01, "The commands", "Faults"). Assumes nothing.
use Rattle.std.specs.Prelude.{ℕ, zero, suc, ◌+◌, ◌-◌, ◌<◌, ◌≤◌, true, List, [], eqb, length, set, drop, take}
use Rattle.meaning.specs.Bytes.{pick, among, arg, number}
use Rattle.meaning.specs.State.{Plate, State, last_address, last_count, locks, queued, offset_for, with_codes, with_counter, with_address, with_offset, with_queue}
use Rattle.meaning.specs.Commands.{Command, Answer, refuse, accept, quiet, c42, c43, c46, c47, c49, c4a, c4b, c4c, c4d, c4e, c4f, c50, c52, c53, c55, c56, unknown}
use Rattle.state.specs.declared.faults.Faults.{Faults}
use Rattle.state.specs.declared.faults.Noting.{Noting}
use Rattle.state.specs.declared.faults.Noting.TheVariants.{Ignored, Locks, First, Second, Third, Fourth}
use Rattle.state.specs.Queue.{queue_of}
use Rattle.state.specs.declared.effects.Effect.{Effect}
use Rattle.state.specs.declared.effects.Effect.TheVariants.{Nothing, Code, Counter, Address, Offset, Overflow, OldestRead, Emptied}

-- what may be set: one of four codes; a counter of at most FFFFFFh; an address of 0 to 31
abbrev pub Bounded : Effect → Type 0
Bounded Nothing = Unit
Bounded (Code n c) = n < 4
Bounded (Counter n) = n ≤ last_count
Bounded (Address n) = n ≤ last_address
Bounded (Offset n) = Unit
Bounded Overflow = Unit
Bounded OldestRead = Unit
Bounded Emptied = Unit

-- the state after it; all else stays
unfoldable pub effect_on : Effect → State → State
effect_on Nothing s = s
effect_on (Code n c) s = with_codes s (set s.codes n c)
effect_on (Counter n) s = with_counter s n
effect_on (Address n) s = with_address s n
effect_on (Offset n) s = with_offset s n
effect_on Overflow s = with_queue (with_counter s 0) (queued s.queue 0x08)
effect_on OldestRead s = with_queue s (drop 1 s.queue)
effect_on Emptied s = with_queue s []

-- the rows that change the state, where they are not refused
unfoldable pub row_effect : Command → Plate → State → List ℕ → Effect
row_effect c42 p s d = Nothing
row_effect c43 p s d = Offset (offset_for p s (number (take 4 d) 0))
row_effect c46 p s d = Nothing
row_effect c47 p s d = pick (eqb s.counter last_count) Overflow (Counter (s.counter + 1))
row_effect c49 p s d = Counter 0
row_effect c4a p s d = Nothing
row_effect c4b p s d = Nothing
row_effect c4c p s d = Nothing
row_effect c4d p s d = Nothing
row_effect c4e p s d = Nothing
row_effect c4f p s d = Code (arg d 0) (arg d 2)
row_effect c50 p s d = OldestRead
row_effect c52 p s d = Nothing
row_effect c53 p s d = Emptied
row_effect c55 p s d = Address (arg d 0 - 0x40)
row_effect c56 p s d = Nothing
row_effect unknown p s d = Nothing

-- 01, "An error reply .. changes nothing else"
abbrev pub effect_of : Answer → Effect → Effect
effect_of (refuse c) e = Nothing
effect_of (accept d s m) e = e
effect_of (quiet s m) e = e

-- ---- a noted code

-- 01, "a queue of four, oldest first": the place behind those that wait
abbrev pub place_at : ℕ → Noting
place_at zero = First
place_at (suc zero) = Second
place_at (suc (suc zero)) = Third
place_at (suc (suc (suc zero))) = Fourth
place_at (suc (suc (suc (suc n)))) = Ignored

-- 01, "one already waiting, or a fifth, is dropped"
unfoldable pub place_for : Faults → ℕ → Noting
place_for f c = pick (among c (queue_of f)) Ignored (place_at (length (queue_of f)))

-- 01, "The host notes codes": 00h is ignored; 22h and 24h lock the position and are not queued
unfoldable pub noting_of : Faults → ℕ → Noting
noting_of f c = pick (eqb c 0) Ignored (pick (locks c) Locks (place_for f c))

-- the waiting codes and the lock after it
abbrev pub noted_as : Faults → ℕ → Noting → Faults
noted_as f c Ignored = f
noted_as f c Locks = record { first = f.first; second = f.second; third = f.third; fourth = f.fourth; locked = true }
noted_as f c First = record { first = c; second = f.second; third = f.third; fourth = f.fourth; locked = f.locked }
noted_as f c Second = record { first = f.first; second = c; third = f.third; fourth = f.fourth; locked = f.locked }
noted_as f c Third = record { first = f.first; second = f.second; third = c; fourth = f.fourth; locked = f.locked }
noted_as f c Fourth = record { first = f.first; second = f.second; third = f.third; fourth = c; locked = f.locked }
