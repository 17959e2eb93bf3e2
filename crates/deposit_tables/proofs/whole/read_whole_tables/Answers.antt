use Rattle.std.proofs.Common.{◌≡◌, ◌∙◌, List, Some, ap, inl, refl, subst, sym, true, ℕ}
use Rattle.deposit_name.specs.declared.table.TableName.{TableName}
use Rattle.dnrd_csv.specs.Text.{table_text}
use Rattle.deposit_verify.specs.Deposit.{IsTableOf}
use Rattle.deposit_verify.specs.References.{AreReferencesKept}
use Rattle.deposit_verify.specs.Tables.{AreAllTables, table_of}
use Rattle.deposit_verify.specs.TablesReasons.{IsFirstNoKey}
use Rattle.deposit_pack.specs.Packing.{objects_in}
use Rattle.deposit_pack.proofs.EnvelopeLemmas.{all_eight}
use Rattle.deposit_pack.proofs.SourceLemmas.{error_kept}
use Rattle.deposit_tables.specs.Whole.{IsWholeError, tables_in}
use Rattle.deposit_tables.specs.declared.whole_error.WholeError.TheVariants.{Pack}
use Rattle.deposit_tables.proofs.AllFiles.{all_in_form, names_read, tables_are}
use Rattle.deposit_tables.proofs.whole.read_whole_tables.Goals as goal

pub returns-then-not-are_all_tables-clause-refused : goal.returns-then-not-are_all_tables-clause-refused
returns-then-not-are_all_tables-clause-refused c = λ chain a base same.
    let source = c.args.source.now in
    let all : c.are_all_tables.result ≡ true = c.are_all_tables.ensures.1 (sym (names_read source.has_headers source.contents.now) ∙ same) in
    cc (all, c.if-not-are_all_tables.true)

pub returns-in_err-tables-clause-refused : goal.returns-in_err-tables-clause-refused
returns-in_err-tables-clause-refused c = λ chain a base.
    let source = c.args.source.now in
    let error = c.in_err-tables.field-0.0 in
    error_kept (IsWholeError chain a source base) c.from_residual.result (Pack error) c.from_residual.ensures.1 (inl (c.in_err-tables.ensures.file, c.in_err-tables.ensures.refused a source (Some base) refl refl))

pub missing_key-requires : goal.missing_key-requires
missing_key-requires c =
    let source = c.args.source.now in
    let all = c.are_all_tables.ensures.0 c.if-not-are_all_tables.false in
    subst AreAllTables (sym (c.deref.ensures.value ∙ c.in_ok-tables.ensures.rows)) (all_eight (objects_in source).contents (names_read source.has_headers source.contents.now ∙ all) c.in_ok-tables.ensures.right)

pub returns-in-Some-clause-refused : goal.returns-in-Some-clause-refused
returns-in-Some-clause-refused c = λ chain a base.
    let source = c.args.source.now in
    let all = c.are_all_tables.ensures.0 c.if-not-are_all_tables.false in
    let same : table_of c.deref.result.now ≡ tables_in source = ap table_of (c.deref.ensures.value ∙ c.in_ok-tables.ensures.rows) ∙ tables_are source all in
    let found = rw c.in-Some.is at c.in_ok-missing.ensures in (
      subst (λ (tables : TableName → List (List (List ℕ))). IsFirstNoKey tables c.in-Some.missing) same found.0,
      λ kept. found.1 (subst AreReferencesKept (sym same) kept),
    )

pub returns-in-None-clause-all : goal.returns-in-None-clause-all
returns-in-None-clause-all c =
    let source = c.args.source.now in
    let all = c.are_all_tables.ensures.0 c.if-not-are_all_tables.false in
    subst AreAllTables (sym c.in_ok-tables.ensures.rows) (all_eight (objects_in source).contents (names_read source.has_headers source.contents.now ∙ all) c.in_ok-tables.ensures.right)

pub returns-in-None-clause-rows : goal.returns-in-None-clause-rows
returns-in-None-clause-rows c = ap table_of c.in_ok-tables.ensures.rows ∙ tables_are c.args.source.now (c.are_all_tables.ensures.0 c.if-not-are_all_tables.false)

pub returns-in-None-clause-in_form : goal.returns-in-None-clause-in_form
returns-in-None-clause-in_form c = λ name.
    let source = c.args.source.now in
    let all = c.are_all_tables.ensures.0 c.if-not-are_all_tables.false in
    subst (λ (tables : List (List (List (List ℕ)))). IsTableOf name (table_text (table_of tables name)) (table_of tables name)) (sym c.in_ok-tables.ensures.rows)
    (all_in_form (objects_in source).contents (names_read source.has_headers source.contents.now ∙ all) c.in_ok-tables.ensures.right name)

pub returns-in-None-clause-kept : goal.returns-in-None-clause-kept
returns-in-None-clause-kept c =
    let source = c.args.source.now in
    let all = c.are_all_tables.ensures.0 c.if-not-are_all_tables.false in
    subst AreReferencesKept (ap table_of (c.deref.ensures.value ∙ c.in_ok-tables.ensures.rows) ∙ tables_are source all) (rw c.in-None.is at c.in_ok-missing.ensures)

pub returns-in-None-clause-named : goal.returns-in-None-clause-named
returns-in-None-clause-named c =
    let source = c.args.source.now in
    names_read source.has_headers source.contents.now ∙ c.are_all_tables.ensures.0 c.if-not-are_all_tables.false
