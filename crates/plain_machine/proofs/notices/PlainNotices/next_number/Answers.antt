use Rattle.std.proofs.Common.{ap, ◌∙◌, arith}
use Rattle.plain_machine.specs.Plain.{greatest_number_of}
use Rattle.plain_machine.proofs.NoticeRows.{entries_are}
use Rattle.plain_machine.proofs.notices.PlainNotices.next_number.Goals as goal

pub returns : goal.returns
returns c =
    let greatest = c.greatest_number_of-greatest.ensures ∙ ap (greatest_number_of c.args.tld.now) (entries_are c.args.self.now.rows.items c.deref.result.now c.deref.ensures.value c.args.self.now.rising) in
    omega (arith, greatest)
