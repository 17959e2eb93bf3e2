use Rattle.agent_cli.proofs.OneReading.{asks_one}
use Rattle.agent_cli.proofs.Examples.{words_give_orders}
use Rattle.agent_cli.proofs.laws.law_orders.Goals as goal

pub returns-clause-one : goal.returns-clause-one
returns-clause-one c = asks_one

pub returns-clause-examples : goal.returns-clause-examples
returns-clause-examples c = words_give_orders
