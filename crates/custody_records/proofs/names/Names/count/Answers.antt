use Rattle.std.proofs.Common.{◌∙◌, ◌==◌, ap, length, count_by}
use Rattle.custody_records.proofs.LineLemmas.{count_lines}
use Rattle.custody_records.proofs.names.Names.count.Goals as goal

pub returns : goal.returns
returns c = c.count_feeds.ensures ∙ ap (count_by (λ byte. byte == 10)) c.deref.ensures.value ∙ count_lines c.self.inside.text.items ∙ ap length c.self.view_is
