use Rattle.std.proofs.Common.{◌≡◌, ◌∙◌, Bool, arith, false, not, refl, sym, true}
use denote.Enum.Bare.{same_false}
use Rattle.deposit_name.specs.contracts.table.TableName.{the_type}
use Rattle.deposit_verify.proofs.HeaderDecided.{same_place}
use Rattle.deposit_pack.proofs.SourceLemmas.{no_file}
use Rattle.deposit_tables.proofs.AllFiles.{are_all, in_place}
use Rattle.deposit_tables.proofs.whole.are_all_tables.Goals as goal

is_false : (b : Bool) → not b ≡ true → b ≡ false
is_false true e = cc e
is_false false e = refl

pub returns-then-ne : goal.returns-then-ne
returns-then-ne c = (
  λ e. cc e,
  λ same. absurd (same_false the_type _ _ (is_false _ (sym c.ne.ensures ∙ c.if-ne.true))
      (same_place _ _ (in_place c.args.files.now no_file c.loop-place.place c.loop-place-test.true same ∙ sym c.table_name_at.ensures))),
)

pub returns : goal.returns
returns c = (λ _. are_all c.args.files.now (omega arith) (λ k below. c.loop-place.invariant k (omega (arith, below))), λ _. refl)
