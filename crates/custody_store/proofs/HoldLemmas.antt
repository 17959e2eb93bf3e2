-- A row of hold as its table asks for it.
use Rattle.std.proofs.Common.{◌≡◌, refl}
use Rattle.std.proofs.lemmas.Bool.{and_parts}
use Rattle.sqlite.specs.declared.types.Value.TheVariants.{Text}
use Rattle.sqlite.specs.Order.{Row, column, bytes}
use Rattle.sqlite.specs.Cast.{cast}
use Rattle.sqlite.specs.Kind.TheVariants as kinds
use Rattle.sqlite.specs.Table.{Table}
use Rattle.sqlite.specs.Tree.{Trees}
use Rattle.sqlite_schema.specs.declared.schema.Constraint.TheVariants.{Datatype, NotNull}
use Rattle.sqlite_catalog.specs.Listing.{IsSound}
use Rattle.sqlite_rules.specs.Lists.{Has}
use Rattle.sqlite_rules.proofs.ListLemmas.{all_has}
use Rattle.sqlite.specs.Schema.{Schema}
use Rattle.custody_store.specs.Schema.{hold_table}
use Rattle.custody_store.proofs.ColumnLemmas.{cast_at, text_at}
use Rattle.custody_store.proofs.RowLemmas.{at_tree}

abbrev pub hold_at : Table
hold_at = at_tree 9 hold_table

pub record IsHoldRow (r : Row) : Type 0 where
  pub reference : cast kinds.Text (column r 1) ≡ column r 1
  pub reference_text : column r 1 ≡ Text (bytes (column r 1))
  pub tld : cast kinds.Text (column r 2) ≡ column r 2
  pub day : cast kinds.Integer (column r 3) ≡ column r 3
  pub at : cast kinds.Integer (column r 4) ≡ column r 4

pub hold_rows : (schema : Schema) (trees : Trees) → IsSound schema trees → Has schema.tables hold_at → (r : Row) → Has (trees 9) r → IsHoldRow r
hold_rows schema trees sound listed r has =
    let typed = (and_parts _ _ (all_has _ (trees 9) r (all_has _ schema.tables hold_at (sound.obeys.rules Datatype) listed) has)).0 in
    let present = all_has _ (trees 9) r (all_has _ schema.tables hold_at (sound.obeys.rules NotNull) listed) has in
    record {
      reference = cast_at hold_at r typed 0 _ refl refl refl refl;
      reference_text = text_at hold_at r typed present 0 _ refl refl refl refl refl;
      tld = cast_at hold_at r typed 1 _ refl refl refl refl;
      day = cast_at hold_at r typed 2 _ refl refl refl refl;
      at = cast_at hold_at r typed 3 _ refl refl refl refl;
    }
