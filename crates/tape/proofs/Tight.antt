-- No two differing outcomes satisfy a contract of this crate (01, "How tightly the contracts bind"). Assumes nothing.
use Prim.Native.Nat.{ℕ}
use mathlib.Core.Path.{◌≡◌, refl, sym, ap, ◌∙◌}
use mathlib.Core.List.{List}
use Rattle.meaning.specs.Run.{character, poll, measured, fault, power_on}
use Rattle.tape.specs.Kinds.{Said, plate, call, unfit, call_of}
use Rattle.tape.specs.Reader.{said_of, Printed}
use Rattle.tape.specs.declared.kinds.Event.{Event}
use Rattle.tape.specs.declared.kinds.Event.TheVariants as event

-- what is said leads back to the event
abbrev pub event_back : Said → Event
event_back (plate p) = event.Plate p.total p.bits p.address p.ticks p.pause
event_back (call (character t v f)) = event.Character t v f
event_back (call (poll t)) = event.Poll t
event_back (call (measured n)) = event.Measured n
event_back (call (fault c)) = event.Fault c
event_back (call power_on) = event.PowerOn
event_back unfit = event.Unfit

pub event_back_lem : (e : Event) → event_back (said_of e) ≡ e
event_back_lem (event.Plate t p a b u) = refl
event_back_lem (event.Character t v f) = refl
event_back_lem (event.Poll t) = refl
event_back_lem (event.Measured n) = refl
event_back_lem (event.Fault c) = refl
event_back_lem event.PowerOn = refl
event_back_lem event.Unfit = refl

pub event_of_tight : (k : ℕ) (b : List ℕ) (d e : Event) → said_of d ≡ call_of k b → said_of e ≡ call_of k b → d ≡ e
event_of_tight k b d e p q = sym (event_back_lem d) ∙ ap event_back (p ∙ sym q) ∙ event_back_lem e

-- the three lines: the place past the text, and every byte of the output
pub printed_tight : {text out out' out'' : List ℕ} {at r q : ℕ} → Printed text out at r out' → Printed text out at q out'' → (r ≡ q) × (out' ≡ out'')
printed_tight a b = (a.next ∙ sym b.next, a.bytes ∙ sym b.bytes)
