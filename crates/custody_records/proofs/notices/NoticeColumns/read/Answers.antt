use Rattle.std.proofs.Common.{◌≡◌, true, subst, rules}
use Rattle.deposit_name.specs.Identifiers.{IsTld, is_tld}
use Rattle.deposit_name.proofs.IdentifierLemmas.{is_tld-IsTld}
use Rattle.custody_records.proofs.notices.NoticeColumns.read.Goals as goal

pub returns : goal.returns
returns c =
    let text = c.in_ok-tld.ensures.text in
    let passes : is_tld c.args.self.now.tld.now ≡ true = (is_tld-IsTld c.args.self.now.tld.now).1 (subst IsTld text.0 text.1) in
    search (rules, passes)
