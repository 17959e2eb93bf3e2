use Rattle.std.proofs.Common.{◌≡◌, ◌∙◌, ap, length, take}
use Rattle.std.proofs.lemmas.Slice.Eq.{bytes_eq-Decides}
use Rattle.std.proofs.Math.Seq.{take-append_seam}
use Rattle.dnrd_csv.proofs.reading.after.Goals as goal

pub returns-else-eq-clause-only : goal.returns-else-eq-clause-only
returns-else-eq-clause-only c rest same =
    let front = c.args.front.now in
    let start = c.split_at.result.0.now in
    let equal : start ≡ front = c.split_at.ensures.front ∙ ap (take (length front)) same ∙ take-append_seam front rest in
    cc ((bytes_eq-Decides start front).1 equal, c.if-eq.ensures)
