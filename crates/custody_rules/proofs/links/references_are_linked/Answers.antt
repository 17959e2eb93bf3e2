use Rattle.std.proofs.Common.{◌≡◌, ◌∙◌, ◌&&◌, ℕ, List, sym, ap}
use Rattle.custody_records.specs.Keys.{text_cmp}
use Rattle.custody_records.specs.MemoryRecords.{records_of}
use Rattle.custody_records.specs.Records.{Hold, Release}
use Rattle.custody_records.specs.TypedRecords.{hold_key, hold_value, release_key, release_value}
use Rattle.custody_rules.specs.inside.Links.{is_hold_linked, is_release_linked}
use Rattle.custody_rules.proofs.LinkLemmas.{holds_test, releases_test}
use Rattle.custody_rules.proofs.Tables.{all_rows}
use Rattle.custody_rules.proofs.links.references_are_linked.Goals as goal

pub returns-then-releases_are_linked : goal.returns-then-releases_are_linked
returns-then-releases_are_linked c =
    let all = records_of c.args.records.now in
    let releases : c.releases_are_linked.result ≡ releases_test all = c.releases_are_linked.ensures ∙ all_rows text_cmp release_key release_value c.releases.result.now all.releases c.releases.ensures.all c.releases.ensures.rising (λ (e : List ℕ × Release). is_release_linked all e.1) in
    c.holds_are_linked.ensures ∙ all_rows text_cmp hold_key hold_value c.holds.result.now all.holds c.holds.ensures.all c.holds.ensures.rising (λ (e : List ℕ × Hold). is_hold_linked all e.1)
    ∙ ap (λ b. b && holds_test all) (sym (sym releases ∙ c.if-releases_are_linked.true))

pub returns-else-releases_are_linked : goal.returns-else-releases_are_linked
returns-else-releases_are_linked c =
    let all = records_of c.args.records.now in
    let releases : c.releases_are_linked.result ≡ releases_test all = c.releases_are_linked.ensures ∙ all_rows text_cmp release_key release_value c.releases.result.now all.releases c.releases.ensures.all c.releases.ensures.rising (λ (e : List ℕ × Release). is_release_linked all e.1) in
    c.if-releases_are_linked.false ∙ ap (λ b. b && holds_test all) (sym (sym releases ∙ c.if-releases_are_linked.false))
