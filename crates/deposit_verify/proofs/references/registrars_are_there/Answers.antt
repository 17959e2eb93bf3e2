use Rattle.std.proofs.Common.{◌∙◌, sym}
use Rattle.std.proofs.lemmas.Bool.{true≢false}
use Rattle.deposit_verify.proofs.references.registrars_are_there.Goals as goal
use Rattle.deposit_verify.proofs.references.registrars_are_there.Goals.{then-are_keys, else-are_keys, then-are_keys-2, else-are_keys-2}

pub returns : goal.returns
returns c = elim c.if-are_keys-2.branch [
  | then-are_keys-2 w ↦ elim c.if-are_keys.branch [
    | then-are_keys v ↦ rw w.result-is (
      λ e. record {
        of_domains = c.are_keys.ensures.0 v.if-are_keys.true;
        of_hosts = v.are_keys-then-are_keys.ensures.0 (sym v.value-is ∙ w.if-are_keys-2.true);
        of_contacts = w.are_keys-then-are_keys-2.ensures.0 e;
      },
      λ h. w.are_keys-then-are_keys-2.ensures.1 h.of_contacts,
    )
    | else-are_keys v ↦ absurd (true≢false (sym w.if-are_keys-2.true ∙ v.value-is ∙ v.if-are_keys.false))
  ]
  | else-are_keys-2 w ↦ elim c.if-are_keys.branch [
    | then-are_keys v ↦ rw w.result-is (λ e. cc e, λ h. cc (v.are_keys-then-are_keys.ensures.1 h.of_hosts, v.value-is, w.if-are_keys-2.false))
    | else-are_keys v ↦ rw w.result-is (λ e. cc e, λ h. cc (c.are_keys.ensures.1 h.of_domains, v.if-are_keys.false))
  ]
]
