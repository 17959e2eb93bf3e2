-- The tables of schema 2, as they are made or among others.
use Rattle.std.proofs.Common.{[], refl, sym, ap, subst, arith}
use Rattle.std.specs.List.{AllByRecursion}
use Rattle.sqlite.specs.Schema.{Schema}
use Rattle.sqlite.specs.Effect.{Database}
use Rattle.custody_store.specs.Schema.{record_schema}
use Rattle.custody_store.specs.StoreState.{HaveOwnTrees, HasTablesAmongOthers, HasOnlyTables}
use Rattle.custody_store.proofs.ActionLemmas.{IsQuiet}

-- no reference of theirs acts on them
pub record_quiet : AllByRecursion IsQuiet record_schema.tables
record_quiet = (tt, (tt, (((refl, refl), tt), (((refl, refl), tt), (((refl, refl), tt), (((refl, refl), tt), tt))))))

pub record_apart : HaveOwnTrees record_schema.tables
record_apart = (
  (λ e. omega (arith, e), (λ e. omega (arith, e), (λ e. omega (arith, e), (λ e. omega (arith, e), (λ e. omega (arith, e), tt))))),
  (
    (λ e. omega (arith, e), (λ e. omega (arith, e), (λ e. omega (arith, e), (λ e. omega (arith, e), tt)))),
    (
      (λ e. omega (arith, e), (λ e. omega (arith, e), (λ e. omega (arith, e), tt))),
      (
        (λ e. omega (arith, e), (λ e. omega (arith, e), tt)),
        ((λ e. omega (arith, e), tt), (tt, tt)),
      ),
    ),
  ),
)

pub as_made : (db : Database) → HasOnlyTables record_schema db → HasTablesAmongOthers record_schema.tables db
as_made db tables = record {
  begins = ([], ap (λ (t : Schema). t.tables) tables.schema_is);
  apart = subst (λ (t : Schema). HaveOwnTrees t.tables) (sym tables.schema_is) record_apart;
  sound = tables.sound;
  ordered = tables.ordered;
}
