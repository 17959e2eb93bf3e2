use Rattle.std.proofs.Common.{inl, inr, sym, ap, rules, option_map}
use Rattle.sqlite.specs.Held.{state}
use Rattle.custody_records.specs.Rows.{first_meta}
use Rattle.custody_records.specs.TypedRecords.{meta_of}
use Rattle.custody_store.proofs.BareLemmas.{rows_bare}
use Rattle.custody_store.proofs.ReadLemmas.{reads_none, meta_there}
use Rattle.custody_store.proofs.meta.find_meta.Goals as goal

pub returns-then-not-has_table-clause-found : goal.returns-then-not-has_table-clause-found
returns-then-not-has_table-clause-found g c clean either = elim either [
  | inl first ↦ let there = meta_there (state g.S.Store c.args.db.now) first in absurd (search (rules, there))
  | inr bare ↦ sym (ap (λ rows. option_map meta_of (first_meta rows)) (rows_bare (state g.S.Store c.args.db.now) bare))
]

pub returns-then-not-has_table-clause-reads : goal.returns-then-not-has_table-clause-reads
returns-then-not-has_table-clause-reads g c = reads_none (state g.S.Store c.args.db.now) _
