use Rattle.std.proofs.Common.{◌≡◌, ◌∷◌, ◌∙◌, [], List, ℕ, ap, sym}
use Rattle.deposit_name.specs.declared.kinds.Kind.TheVariants.{Full}
use Rattle.envelope.specs.Envelope.{Env}
use Rattle.deposit_verify.specs.Tables.{table_of}
use Rattle.deposit_verify.specs.TablesReasons.{row_numbers}
use Rattle.deposit_pack.proofs.EnvelopeLemmas.{all_named, countable, full_numbers, menu_contents}
use Rattle.deposit_pack.proofs.envelopes.numbers_of.Goals as goal

abbrev none_counted : List ℕ
none_counted = 0 ∷ 0 ∷ 0 ∷ 0 ∷ []

pub counts_after-requires : goal.counts_after-requires
counts_after-requires c =
    countable _ c.requires.0 c.requires.1 none_counted _ c.requires.2 (λ full. c.in_default-Some.not-Full-0 (ap (λ (v : Env). v.kind) c.requires.2 ∙ full)) c.requires.3

pub returns-in-Full-default-clause-numbers : goal.returns-in-Full-default-clause-numbers
returns-in-Full-default-clause-numbers c = λ a o is read.
    let full : a.name.kind ≡ Full = sym (ap (λ (v : Env). v.kind) is) ∙ c.in-Full-default.is-0 in
    let same = all_named a.name.kind _ full (menu_contents _ a o none_counted is c.requires.4) in (
      c.row_counts.ensures ∙ ap (λ (tables : List (List (List (List ℕ)))). row_numbers (table_of tables)) c.deref.ensures.value ∙ full_numbers a o _ _ read full same,
      λ other. absurd (other full),
    )
