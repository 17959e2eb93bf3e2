use Rattle.std.proofs.Common.{◌≡◌, ◌∷◌, ◌∙◌, [], List, ℕ, ap, subst, sym}
use Rattle.deposit_name.specs.declared.table.TableName.{TableName}
use Rattle.envelope.specs.Envelope.{Env}
use Rattle.deposit_verify.specs.References.{AreReferencesKept}
use Rattle.deposit_verify.specs.Tables.{AreAllTables, table_of}
use Rattle.deposit_verify.specs.TablesReasons.{IsFirstNoKey}
use Rattle.deposit_pack.specs.Packing.{contents_rows, objects_in}
use Rattle.deposit_pack.proofs.EnvelopeLemmas.{all_read, contents_read, full_named}
use Rattle.deposit_pack.proofs.packing.check_tables.Goals as goal

abbrev none_counted : List ℕ
none_counted = 0 ∷ 0 ∷ 0 ∷ 0 ∷ []

pub missing_key-requires : goal.missing_key-requires
missing_key-requires c =
    subst AreAllTables (sym c.deref.ensures.value) (all_read _ c.requires.0 c.requires.1 none_counted _ c.requires.2 c.requires.3 c.in_default.ensures c.in-Full.is)

pub returns-in-Some-2-clause-refused : goal.returns-in-Some-2-clause-refused
returns-in-Some-2-clause-refused c = λ a source base is read.
    let o = objects_in source in
    let named = full_named _ a o none_counted is c.in_default.ensures c.in-Full.is in
    let same : contents_rows o ≡ table_of c.deref.result.now = contents_read o _ read named ∙ ap table_of (sym c.deref.ensures.value) in
    let found = rw c.in-Some-2.is at c.in_ok-missing-in-Full.ensures in (
      sym (ap (λ (v : Env). v.kind) is) ∙ c.in-Full.is,
      subst (λ (tables : TableName → List (List (List ℕ))). IsFirstNoKey tables c.in-Some-2.missing) (sym same) found.0,
      λ kept. found.1 (subst AreReferencesKept same kept),
    )

pub returns-in-None-clause-references : goal.returns-in-None-clause-references
returns-in-None-clause-references c = λ a o is read full.
    let named = full_named _ a o none_counted is c.in_default.ensures c.in-Full.is in
    let same : contents_rows o ≡ table_of c.deref.result.now = contents_read o _ read named ∙ ap table_of (sym c.deref.ensures.value) in
    subst AreReferencesKept (sym same) (rw c.in-None.is at c.in_ok-missing-in-Full.ensures)
