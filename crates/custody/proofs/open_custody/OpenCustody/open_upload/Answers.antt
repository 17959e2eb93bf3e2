use Rattle.std.proofs.Common.{refl, []}
use Rattle.custody_machine.specs.Machine.{Receive}
use Rattle.custody.proofs.Uploads.{begins_comparing}
use Rattle.custody.proofs.Repeats.{unshown_done}
use Rattle.custody.proofs.Ruled.{refused_done, repeated_done, unlisted_done}
use Rattle.custody.proofs.open_custody.OpenCustody.open_upload.Goals as goal

pub open_comparing-requires : goal.open_comparing-requires
open_comparing-requires g c =
    let old = c.args.self.now in
    let h = c.in-Ok-with.ensures in (
      record { start = old; text = c.args.name.now; len = c.args.len; now = c.args.now },
      [],
      begins_comparing g.S.Store old c.args.name.now c.args.len c.args.now c.in-Compare.part.now c.in-Compare.extents.now c.in-Ok-with.comparing c.requires.order c.in-Compare.ensures h.part h.name h.extents h.done,
    )

pub returns-in-Refuse : goal.returns-in-Refuse
returns-in-Refuse g c = record {
  order = c.requires.order;
  unchanged = refl;
  done = λ body comes. refused_done g.S.Store c.args.self.now c.requires.order (Receive c.args.name.now body) c.args.now c.in-Refuse.refusal (c.in-Refuse.ensures body comes.0);
}

pub returns-in-Ok : goal.returns-in-Ok
returns-in-Ok g c = record {
  order = c.requires.order;
  unchanged = refl;
  done = λ body comes. repeated_done g.S.Store c.args.self.now c.requires.order (Receive c.args.name.now body) c.args.now c.in-Kept.kept (c.in-Kept.ensures body comes.0) c.in-Ok.record c.in-Ok.ensures.told;
}

pub returns-in-Err : goal.returns-in-Err
returns-in-Err g c = record {
  order = c.requires.order;
  unchanged = refl;
  done = λ body comes. unlisted_done g.S.Store c.args.self.now c.requires.order (Receive c.args.name.now body) c.args.now c.in-Kept.kept (c.in-Kept.ensures body comes.0) c.in-Err.ensures.release;
}

pub returns-in-Ok-with : goal.returns-in-Ok-with
returns-in-Ok-with g c =
    let old = c.args.self.now in
    let h = c.in-Ok-with.ensures in
    c.open_comparing.ensures (record { start = old; text = c.args.name.now; len = c.args.len; now = c.args.now })
    (begins_comparing g.S.Store old c.args.name.now c.args.len c.args.now c.in-Compare.part.now c.in-Compare.extents.now c.in-Ok-with.comparing c.requires.order c.in-Compare.ensures h.part h.name h.extents h.done) refl

pub returns-in-Err-with : goal.returns-in-Err-with
returns-in-Err-with g c = record {
  order = c.requires.order;
  unchanged = refl;
  done = λ body comes. unshown_done c.args.self.now c.requires.order (Receive c.args.name.now body) c.args.now c.in-Compare.part.now c.in-Compare.extents.now (c.in-Compare.ensures body comes.0) g.S.Store;
}

pub returns-in-Go : goal.returns-in-Go
returns-in-Go g c = c.open_change.ensures c.args.name.now c.args.now c.requires.order c.in-Go.ensures
