use Rattle.std.proofs.Common.{map}
use Rattle.std.proofs.KnownBytes.{Appends-kept}
use Rattle.std.specs.FinMap.{entries}
use Rattle.custody_records.specs.MemoryRecords.{records_of}
use Rattle.answer_lines.specs.Lines.{room_text}
use Rattle.answer_lines.specs.State.{hold_line, lines_text, registries_text, release_line}
use Rattle.answer_lines.proofs.Beginnings.{kept_begins}
use Rattle.answer_lines.proofs.PrintLemmas.{on_ok}
use Rattle.answer_lines.proofs.StateLemmas.{holds_begin, registries_begin, releases_begin, room_begins, state_is_whole}
use Rattle.answer_lines.proofs.state.write_state.Goals as goal

pub returns-in_err-write_registries-clause-begun : goal.returns-in_err-write_registries-clause-begun
returns-in_err-write_registries-clause-begun g c =
    let records = records_of c.args.records.now in
    let releases = lines_text (map release_line (entries records.releases)) in
    let holds = lines_text (map hold_line (entries records.holds)) in
    registries_begin _ _ (registries_text records) releases holds (room_text c.args.free c.args.total) c.write_registries.ensures.begun

pub returns-in_err-write_releases-clause-begun : goal.returns-in_err-write_releases-clause-begun
returns-in_err-write_releases-clause-begun g c =
    let records = records_of c.args.records.now in
    let releases = lines_text (map release_line (entries records.releases)) in
    let holds = lines_text (map hold_line (entries records.holds)) in
    releases_begin _ _ _ (registries_text records) releases holds (room_text c.args.free c.args.total) c.in_ok-write_registries.ensures.whole c.write_releases.ensures.begun

pub returns-in_err-write_holds-clause-begun : goal.returns-in_err-write_holds-clause-begun
returns-in_err-write_holds-clause-begun g c =
    let records = records_of c.args.records.now in
    let releases = lines_text (map release_line (entries records.releases)) in
    let holds = lines_text (map hold_line (entries records.holds)) in
    holds_begin _ _ _ _ (registries_text records) releases holds (room_text c.args.free c.args.total) c.in_ok-write_registries.ensures.whole c.in_ok-write_releases.ensures.whole c.write_holds.ensures.begun

pub returns-in_err-write_line-clause-begun : goal.returns-in_err-write_line-clause-begun
returns-in_err-write_line-clause-begun g c =
    let records = records_of c.args.records.now in
    let releases = lines_text (map release_line (entries records.releases)) in
    let holds = lines_text (map hold_line (entries records.holds)) in
    room_begins _ _ _ _ _ (registries_text records) releases holds (room_text c.args.free c.args.total)
    c.in_ok-write_registries.ensures.whole c.in_ok-write_releases.ensures.whole c.in_ok-write_holds.ensures.whole c.write_line.ensures.begun

pub returns-clause-whole : goal.returns-clause-whole
returns-clause-whole g c =
    let records = records_of c.args.records.now in
    let releases = lines_text (map release_line (entries records.releases)) in
    let holds = lines_text (map hold_line (entries records.holds)) in
    let whole = state_is_whole _ _ _ _ _ (registries_text records) releases holds (room_text c.args.free c.args.total)
    c.in_ok-write_registries.ensures.whole c.in_ok-write_releases.ensures.whole c.in_ok-write_holds.ensures.whole c.in_ok-write_line.ensures.whole in
    on_ok _ _ (Appends-kept _ _ _ _ whole c.flush.ensures)

pub returns-clause-begun : goal.returns-clause-begun
returns-clause-begun g c =
    let records = records_of c.args.records.now in
    let releases = lines_text (map release_line (entries records.releases)) in
    let holds = lines_text (map hold_line (entries records.holds)) in
    let whole = state_is_whole _ _ _ _ _ (registries_text records) releases holds (room_text c.args.free c.args.total)
    c.in_ok-write_registries.ensures.whole c.in_ok-write_releases.ensures.whole c.in_ok-write_holds.ensures.whole c.in_ok-write_line.ensures.whole in
    kept_begins _ _ _ _ whole c.flush.ensures
