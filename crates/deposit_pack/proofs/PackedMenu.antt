-- The menu of what may be packed is that of its kind.
use Rattle.std.proofs.Common.{◌≡◌, ◌∷◌, ◌∙◌, [], List, ℕ, ap, arith, length, map, refl, subst, sym}
use Rattle.deposit_name.specs.declared.kinds.Kind.{Kind}
use Rattle.deposit_name.specs.declared.kinds.Kind.TheVariants.{Full}
use Rattle.deposit_name.specs.declared.table.TableName.{TableName}
use Rattle.envelope.specs.declared.envelope.Count.{Count}
use Rattle.envelope.specs.declared.envelope.FileEntry.{FileEntry}
use Rattle.deposit_verify.specs.Checks.{HasContents, HasMenu, StandInOrder, counted_uris}
use Rattle.deposit_verify.specs.Deposit.{deletes_of}
use Rattle.deposit_verify.specs.declared.base.Base.{Base}
use Rattle.deposit_verify.proofs.HeaderDecided.{order_decides}
use Rattle.deposit_pack.specs.Packable.{IsPackable, MayDelete}
use Rattle.deposit_pack.specs.Packing.{Objects, counts_with, table_names, numbers_of, packed_env}
use Rattle.deposit_pack.specs.declared.source.Attributes.{Attributes}
use Rattle.deposit_pack.proofs.PackedFiles.{deletes_are, names_kept}
use Rattle.deposit_pack.proofs.PackedForm.{numbers_four}

counted_as : (numbers : List ℕ) → length numbers ≡ 4 → map (λ (c : Count). c.uri) (counts_with counted_uris numbers) ≡ counted_uris
counted_as (p ∷ q ∷ r ∷ s ∷ []) four = refl
counted_as _ four = absurd (omega arith)

deleted_in_order : (kind : Kind) (names : List TableName) → MayDelete kind names → StandInOrder names
deleted_in_order Full names may = subst StandInOrder (sym may) ((order_decides []).0 refl)
deleted_in_order _ names may = may.0

module _ (a : Attributes) (o : Objects) (before : Base) (packable : IsPackable a o before) where
  -- a deposit that is not full names the files of its deleted keys, and a full one has none
  pub deletes_named : map (λ (entry : FileEntry). entry.name) (deletes_of (packed_env a o before)) ≡ table_names o.deletes
  deletes_named = ap (map (λ (entry : FileEntry). entry.name)) (deletes_are a o before packable) ∙ names_kept o.deletes

  pub packed_menu : HasMenu (packed_env a o before)
  packed_menu = record {
    objects = refl;
    counted = counted_as (numbers_of a.name.kind a o before) (numbers_four a.name.kind a o before);
    contents = subst (HasContents a.name.kind) (sym (names_kept o.contents)) packable.contents;
    deletes = subst StandInOrder (sym deletes_named) (deleted_in_order a.name.kind (table_names o.deletes) packable.deletes);
  }
