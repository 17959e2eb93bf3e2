use Rattle.std.proofs.Common.{sym, refl, Ok}
use Rattle.custody.specs.declared.open_custody.OpenCustody.{OpenCustody}
use Rattle.custody.specs.Custody.{open_custody_of}
use Rattle.custody.specs.Upload.{UploadStart}
use Rattle.custody.proofs.Received.{applied, came_long, came_short, came_whole, ended_early}
use Rattle.custody.proofs.custody.Custody.receive_from.Goals as goal

pub give_up-self-requires : goal.give_up-self-requires
give_up-self-requires g c =
    let sending : UploadStart (OpenCustody g.row.V.Denot g.row.S.Denot g.V.Volume) = record { start = open_custody_of c.args.self.now; text = c.args.name.now; len = c.args.len; now = c.args.now } in
    let taken = c.take_body-upload.ensures sending c.open_upload-upload.ensures refl in
    (sending, taken.0, taken.1)

pub returns-in-Err : goal.returns-in-Err
returns-in-Err g c =
    let sending : UploadStart (OpenCustody g.row.V.Denot g.row.S.Denot g.V.Volume) = record { start = open_custody_of c.args.self.now; text = c.args.name.now; len = c.args.len; now = c.args.now } in
    let taken = c.take_body-upload.ensures sending c.open_upload-upload.ensures refl in
    ended_early c.args.self.now _ (sym c.if-not-is_open.ensures) (g.R.Read.remaining c.args.reader.now) c.args.name.now c.args.len c.args.first.now c.args.now taken.0 c.in-Err.ended
    (came_short _ (g.R.Read.remaining c.args.reader.now) c.args.first.now c.args.len taken.0 c.take_body-upload.result.1 c.chain-body.ensures.bytes taken.3 c.in-Err.ended c.in-Err.is) (c.give_up-self.ensures sending taken.0 taken.1 taken.2)

pub complete-answer-requires : goal.complete-answer-requires
complete-answer-requires g c =
    let sending : UploadStart (OpenCustody g.row.V.Denot g.row.S.Denot g.V.Volume) = record { start = open_custody_of c.args.self.now; text = c.args.name.now; len = c.args.len; now = c.args.now } in
    let taken = c.take_body-upload.ensures sending c.open_upload-upload.ensures refl in
    (sending, taken.0, taken.1, came_long _ c.args.len taken.0 c.take_body-upload.result.1 c.in_default.field-0 c.in_default.is taken.3)

pub returns : goal.returns
returns g c =
    let sending : UploadStart (OpenCustody g.row.V.Denot g.row.S.Denot g.V.Volume) = record { start = open_custody_of c.args.self.now; text = c.args.name.now; len = c.args.len; now = c.args.now } in
    let taken = c.take_body-upload.ensures sending c.open_upload-upload.ensures refl in
    let long = came_long _ c.args.len taken.0 c.take_body-upload.result.1 c.in_default.field-0 c.in_default.is taken.3 in (
      taken.0,
      came_whole _ (g.R.Read.remaining c.args.reader.now) c.args.first.now c.args.len taken.0 c.take_body-upload.result.1 c.chain-body.ensures.bytes taken.3 c.in_default.field-0 c.in_default.is,
      applied c.args.self.now _ (sym c.if-not-is_open.ensures) c.args.name.now taken.0 c.args.now c.complete-answer.result (Ok c.in_ok-answer.field-0) c.in_ok-answer.was (c.complete-answer.ensures sending taken.0 taken.1 long refl) c.closing_failure-self.ensures,
    )
