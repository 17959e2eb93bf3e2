use Rattle.std.proofs.Common.{◌∙◌, arith, ap, inl, inr, map, rules, sym}
use Rattle.std.specs.Prelude.{IsTrue}
use Rattle.std.proofs.lemmas.List.{nil_from_length, take_all}
use Rattle.std.proofs.lemmas.List.Elements.{All-map, All-more, All-same}
use denote.Enum.Bare.{same_false, same_true}
use Rattle.deposit_name.specs.contracts.kinds.Kind.{the_type}
use Rattle.deposit_name.specs.Tables.{has_deletes}
use Rattle.deposit_pack.specs.Packing.{NamedRows, named_rows}
use Rattle.deposit_pack.specs.declared.source.TableFile.{TableFile}
use Rattle.deposit_pack.proofs.SourceLemmas.{named_in, no_file}
use Rattle.deposit_pack.proofs.packing.first_undeletable.Goals as goal
use Rattle.deposit_pack.proofs.packing.first_undeletable.Goals.{then-eq-via-then-eq, then-eq-via-else-eq+then-not-has_deletes}

pub returns-then-eq-clause-some : goal.returns-then-eq-clause-some
returns-then-eq-clause-some c = (
  named_in c.args.source.now.has_headers c.args.source.now.deletes.now c.loop-file.file-index no_file c.loop-file-test.true,
  elim c.then-eq.branch [
    | then-eq-via-then-eq w ↦ inl (same_true the_type (search rules) _ _ (sym c.eq.ensures ∙ w.if-eq.true))
    | then-eq-via-else-eq+then-not-has_deletes w ↦ inr (sym w.has_deletes.ensures ∙ w.if-not-has_deletes.true)
  ],
)

pub loop-file-preserved : goal.loop-file-preserved
loop-file-preserved c = record {
  none_of_full = λ full. absurd (same_false the_type _ _ (sym c.eq.ensures ∙ c.if-eq.false) full);
  may_delete = All-more (λ (file : TableFile). IsTrue (has_deletes file.name)) c.args.source.now.deletes.now c.loop-file.file-index no_file c.loop-file-test.true c.loop-file.invariant.may_delete (sym c.has_deletes.ensures ∙ c.if-not-has_deletes.false);
}

pub returns-clause-none : goal.returns-clause-none
returns-clause-none c =
    let files = c.args.source.now.deletes.now in (
      (λ full. ap (map (named_rows c.args.source.now.has_headers)) (nil_from_length files (omega (arith, c.loop-file.invariant.none_of_full full)))),
      All-map (λ (f : NamedRows). IsTrue (has_deletes f.name)) (named_rows c.args.source.now.has_headers) files
          (All-same (λ (f : TableFile). IsTrue (has_deletes f.name)) files _ (sym (take_all c.loop-file.file-index files c.loop-file-test.false)) c.loop-file.invariant.may_delete),
    )
