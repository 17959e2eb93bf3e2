use Rattle.std.proofs.Common.{inl, refl}
use Rattle.agent_program.proofs.BatchCallLemmas.{batches_are_calls}
use Rattle.agent_program.proofs.ExampleBatch.{purge_alone}
use Rattle.agent_program.proofs.laws.law_batch.Goals as goal

pub returns-clause-calls : goal.returns-clause-calls
returns-clause-calls g c = batches_are_calls c.args.old.now c.args.new.now

pub returns-clause-happen : goal.returns-clause-happen
returns-clause-happen g c = record { purge = purge_alone c.law_orders.ensures.examples.of_purge_now; unread = λ held shown. inl refl }
