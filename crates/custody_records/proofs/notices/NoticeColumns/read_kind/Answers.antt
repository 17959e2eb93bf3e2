use Rattle.std.proofs.Common.{cond, None, Some, ◌∙◌, sym, ap, subst, rules, SFits, w64, of_z, to_z-of_z}
use Rattle.deposit_name.specs.Identifiers.{IsDepositId}
use Rattle.desk.specs.declared.notices.NoticeKind.TheVariants.{Failure}
use Rattle.custody_records.specs.TypedRecords.{notice_row}
use Rattle.custody_records.specs.Form.{natural, is_within, check_in}
use Rattle.deposit_name.proofs.IdentifierLemmas.{is_deposit_id-IsDepositId}
use Rattle.custody_records.proofs.ReadLemmas.{cond_is, some_same, number_not, failure_in}
use Rattle.custody_records.proofs.notices.NoticeColumns.read_kind.Goals as goal

pub returns : goal.returns
returns c =
    let row = notice_row c.args.self.now in
    let kind = c.args.self.now.kind in
    let rev = c.args.self.now.rev in
    let kind_fits : SFits w64 kind = search rules in
    let rev_fits : SFits w64 rev = search rules in
    let within = cond_is (is_within 0 99 rev) (Some (natural rev)) c.in_ok-rev.rev (sym (c.in_ok-rev.ensures ∙ ap (λ z. cond (is_within 0 99 z) (Some (natural z)) None) (to_z-of_z rev_fits))) in
    let text = c.in_ok-id.ensures.text in
    let check = sym (c.in_ok-check.ensures ∙ ap (λ z. check_in (natural z)) (to_z-of_z kind_fits)) in
    let same = some_same _ _ within.1 in
    sym (failure_in row c.in_ok-check.check (number_not 20 kind (λ e. c.if-self-eq-ABSENCE.false (ap (of_z w64) e))) (number_not 0 kind (λ e. c.if-self-eq-RECEIPT.false (ap (of_z w64) e)))
    within.0 ((is_deposit_id-IsDepositId c.args.self.now.id.now).1 (subst IsDepositId text.0 text.1)) check
    ∙ (λ i. Some (Failure (same i) (sym text.0 i) c.in_ok-check.check)))
