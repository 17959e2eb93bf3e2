use Rattle.theorems.proofs.ReadingLemmas.{audits_list_none, explains_state, fetches_as_received}
use Rattle.theorems.proofs.reading_laws.law_reading.Goals as goal

pub returns-clause-fetches : goal.returns-clause-fetches
returns-clause-fetches g c tells = fetches_as_received tells c.args.old.now c.args.new.now

pub returns-clause-explains : goal.returns-clause-explains
returns-clause-explains g c tells = explains_state tells c.args.old.now c.args.new.now

pub returns-clause-audits : goal.returns-clause-audits
returns-clause-audits g c tells = audits_list_none tells c.args.old.now c.args.new.now
