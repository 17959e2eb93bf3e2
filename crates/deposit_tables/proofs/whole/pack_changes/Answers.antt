use Rattle.std.proofs.Common.{◌≡◌, ◌≢◌, ◌∙◌, [], All, List, ap, false, length, map, subst, sym, ℕ}
use Rattle.dnrd_csv.specs.Text.{key_rows}
use Rattle.deposit_verify.specs.Tables.{table_of}
use Rattle.deposit_pack.specs.Packing.{NamedRows, named_rows, objects_in}
use Rattle.deposit_pack.specs.declared.source.Source.{Source}
use Rattle.deposit_tables.specs.Changes.{AreSomeChanges}
use Rattle.deposit_tables.specs.inside.Changing.{AreChangesOf, keys_of_table}
use Rattle.deposit_tables.specs.inside.Packing.{named_rows_under, text_rows}
use Rattle.deposit_tables.proofs.Decisions.{Tables}
use Rattle.deposit_tables.proofs.ChangesPacked.{out_of_memory, packed_changes, refused_changes, some_changes}
use Rattle.deposit_tables.proofs.whole.pack_changes.Goals as goal
use Rattle.deposit_tables.proofs.whole.pack_changes.Goals.{After-drop-contents_texts-2}

pub contents_texts-requires-clause-eight : goal.contents_texts-requires-clause-eight
contents_texts-requires-clause-eight c = ap length c.deref.ensures.value ∙ c.requires.eight

pub returns-in_err-contents_texts-clause-refused : goal.returns-in_err-contents_texts-clause-refused
returns-in_err-contents_texts-clause-refused c = λ olds new is. out_of_memory olds new c.from_residual.result c.args.attributes.now c.args.base.now c.law_table_reader.ensures c.args.changes.now c.requires is c.from_residual.ensures.1

pub deletes_texts-requires-clause-eight : goal.deletes_texts-requires-clause-eight
deletes_texts-requires-clause-eight c = ap length c.deref-2.ensures.value ∙ c.requires.keys_eight

pub deletes_texts-requires-clause-none : goal.deletes_texts-requires-clause-none
deletes_texts-requires-clause-none c = λ name other. ap (λ (keys : List (List (List ℕ))). keys_of_table keys name) c.deref-2.ensures.value ∙ c.requires.none name other

pub returns-in_err-deletes_texts-clause-refused : goal.returns-in_err-deletes_texts-clause-refused
returns-in_err-deletes_texts-clause-refused c = λ olds new is. out_of_memory olds new c.from_residual-in_err-deletes_texts.result c.args.attributes.now c.args.base.now c.law_table_reader.ensures c.args.changes.now c.requires is c.from_residual-in_err-deletes_texts.ensures.1

pub returns-in_err-contents-clause-refused : goal.returns-in_err-contents-clause-refused
returns-in_err-contents-clause-refused c = λ olds new is. out_of_memory olds new c.from_residual-in_err-contents.result c.args.attributes.now c.args.base.now c.law_table_reader.ensures c.args.changes.now c.requires is c.from_residual-in_err-contents.ensures.1

pub returns-in_err-deletes-clause-refused : goal.returns-in_err-deletes-clause-refused
returns-in_err-deletes-clause-refused c = λ olds new is. out_of_memory olds new c.from_residual-in_err-deletes.result c.args.attributes.now c.args.base.now c.law_table_reader.ensures c.args.changes.now c.requires is c.from_residual-in_err-deletes.ensures.1

module _ (c : After-drop-contents_texts-2) where
  abbrev source : Source
  source = record { contents = c.deref-5.result; deletes = c.deref-6.result; has_headers = false }

  contents_are : (objects_in source).contents ≡ map text_rows c.in_ok-contents_texts.contents_texts.items
  contents_are = ap (map (named_rows false)) c.deref-5.ensures.value ∙ c.in_ok-contents.ensures ∙ ap (map text_rows) c.deref-3.ensures.value

  deletes_are : (objects_in source).deletes ≡ map text_rows c.in_ok-deletes_texts.deletes_texts.items
  deletes_are = ap (map (named_rows false)) c.deref-6.ensures.value ∙ c.in_ok-deletes.ensures ∙ ap (map text_rows) c.deref-4.ensures.value

  changes_in : (olds : List Tables) (new : Tables) → AreChangesOf olds new c.args.changes.now → AreSomeChanges olds new (objects_in source)
  changes_in olds new is =
      some_changes olds new c.args.changes.now (objects_in source) is
      (λ name. ap (λ (fs : List NamedRows). named_rows_under fs name) contents_are ∙ c.in_ok-contents_texts.ensures.rows name ∙ ap (λ (tables : List (List (List (List ℕ)))). table_of tables name) c.deref.ensures.value)
      (λ name. ap (λ (fs : List NamedRows). named_rows_under fs name) deletes_are ∙ c.in_ok-deletes_texts.ensures.rows name ∙ ap (λ (keys : List (List (List ℕ))). key_rows (keys_of_table keys name)) c.deref-2.ensures.value)
      (subst (All (λ (f : NamedRows). f.rows ≢ [])) (sym contents_are) c.in_ok-contents_texts.ensures.some)
      (subst (All (λ (f : NamedRows). f.rows ≢ [])) (sym deletes_are) c.in_ok-deletes_texts.ensures.some)

pub returns-clause-packed : goal.returns-clause-packed
returns-clause-packed c = λ olds new is.
    packed_changes olds new c.pack.result c.args.attributes.now c.args.base.now (objects_in (source c)) (changes_in c olds new is) c.pack.ensures.packable c.pack.ensures.packed

pub returns-clause-refused : goal.returns-clause-refused
returns-clause-refused c = λ olds new is.
    refused_changes olds new c.pack.result c.args.attributes.now c.args.base.now (source c) (changes_in c olds new is) c.pack.ensures.refused
