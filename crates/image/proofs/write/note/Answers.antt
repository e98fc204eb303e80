-- What is left to show of `image::write::note`: what each arm writes is the state with the code noted.
use Rattle.std.proofs.Common.{rules}
use Rattle.image.proofs.Placing.{notes_in, noting_none, noting_lock, noting_1, noting_2, noting_3, noting_4}
use Rattle.image.proofs.write.note.Goals as goal

pub returns-in-Ignored : goal.returns-in-Ignored
returns-in-Ignored c = notes_in _ c.faults_in.ensures c.noting.ensures (noting_none c.args.core.now c.requires (λ i. search rules) _ c.in-Ignored.is)

pub returns-in-Locks : goal.returns-in-Locks
returns-in-Locks c = notes_in _ c.faults_in.ensures c.noting.ensures (noting_lock c.args.core.now c.requires (λ i. search rules) _ c.in-Locks.is)

pub returns-in-First : goal.returns-in-First
returns-in-First c = notes_in _ c.faults_in.ensures c.noting.ensures (noting_1 c.args.core.now c.requires (λ i. search rules) _ c.in-First.is)

pub returns-in-Second : goal.returns-in-Second
returns-in-Second c = notes_in _ c.faults_in.ensures c.noting.ensures (noting_2 c.args.core.now c.requires (λ i. search rules) _ c.in-Second.is)

pub returns-in-Third : goal.returns-in-Third
returns-in-Third c = notes_in _ c.faults_in.ensures c.noting.ensures (noting_3 c.args.core.now c.requires (λ i. search rules) _ c.in-Third.is)

pub returns-in-Fourth : goal.returns-in-Fourth
returns-in-Fourth c = notes_in _ c.faults_in.ensures c.noting.ensures (noting_4 c.args.core.now c.requires (λ i. search rules) _ c.in-Fourth.is)
