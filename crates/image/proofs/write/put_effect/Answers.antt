-- What is left to show of `image::write::put_effect`: what each arm writes is the state that the effect leaves.
use Rattle.std.proofs.Common.{rules}
use Rattle.state.proofs.Ways.{placed-code}
use Rattle.image.specs.Image.{state_in}
use Rattle.image.specs.Writes.{counter_set}
use Rattle.image.proofs.Placing.{with_code, with_address_lem, put-nothing, put-code, put-counter, put-address, put-offset, put_overflow, put-oldest, put_emptied, still-holds}
use Rattle.image.proofs.write.put_effect.Goals as goal

pub put_faults-requires : goal.put_faults-requires
put_faults-requires c = still-holds (counter_set (state_in c.args.core.now) 0) c.requires.holds_state c.put_counter-in-Overflow.ensures

pub returns-in-Nothing : goal.returns-in-Nothing
returns-in-Nothing c = put-nothing c.args.core.now c.in-Nothing.is c.requires.holds_state (λ i. search rules)

pub returns-in-Code : goal.returns-in-Code
returns-in-Code c = put-code c.in-Code.is (with_code c.args.core.now c.requires.holds_state (λ i. search rules) _ _ (placed-code c.requires.bounded c.in-Code.is))

pub returns-in-Counter : goal.returns-in-Counter
returns-in-Counter c = put-counter c.in-Counter.is c.put_counter.ensures

pub returns-in-Address : goal.returns-in-Address
returns-in-Address c = put-address c.in-Address.is (with_address_lem c.args.core.now c.requires.holds_state (λ i. search rules) _)

pub returns-in-Offset : goal.returns-in-Offset
returns-in-Offset c = put-offset c.in-Offset.is c.put_offset.ensures

pub returns-in-Overflow : goal.returns-in-Overflow
returns-in-Overflow c = put_overflow c.faults_in.ensures c.in-Overflow.is c.queued-faults.ensures c.put_counter-in-Overflow.ensures c.put_faults.ensures

pub returns-in-OldestRead : goal.returns-in-OldestRead
returns-in-OldestRead c = put-oldest c.faults_in-in-OldestRead.ensures c.in-OldestRead.is c.read-oldest.ensures c.put_faults-in-OldestRead.ensures

pub returns-in-Emptied : goal.returns-in-Emptied
returns-in-Emptied c = put_emptied c.faults_in-in-Emptied.ensures c.in-Emptied.is c.emptied.ensures c.put_faults-in-Emptied.ensures
