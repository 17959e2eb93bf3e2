use Rattle.std.proofs.Common.{refl, ◌∙◌, ap}
use Rattle.std.specs.Prelude.{option_map}
use Rattle.custody_records.specs.TypedRecords.{notice_entry}
use Rattle.custody_machine.specs.State.{is_notice_of}
use Rattle.custody_machine.specs.Machine.{is_absence}
use Rattle.plain_machine.proofs.NoticeRows.{find_shown}
use Rattle.plain_machine.proofs.notices.PlainNotices.absence.Goals as goal

pub returns : goal.returns
returns c = ap (option_map notice_entry) (c.copied.ensures ∙ c.find_absence.ensures)
    ∙ find_shown c.args.self.now.rows.items c.args.self.now.rows.items refl c.args.self.now.rising (is_notice_of c.args.tld.now c.args.day is_absence)
