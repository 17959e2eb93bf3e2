use Rattle.std.proofs.Common.{[], length, refl, arith}
use Rattle.custody.specs.declared.open_custody.OpenCustody.{OpenCustody}
use Rattle.custody.specs.Upload.{UploadStart}
use Rattle.custody.proofs.open_custody.OpenCustody.receive.Goals as goal

pub take-upload-requires : goal.take-upload-requires
take-upload-requires g c = (record { start = c.args.self.now; text = c.args.name.now; len = length c.args.bytes.now; now = c.args.now }, [], c.open_upload-upload.ensures, omega arith)

pub complete-requires : goal.complete-requires
complete-requires g c =
    let sending : UploadStart (OpenCustody g.row.V.Denot g.row.S.Denot g.V.Volume) = record { start = c.args.self.now; text = c.args.name.now; len = length c.args.bytes.now; now = c.args.now } in
    (sending, c.args.bytes.now, c.take-upload.ensures sending [] c.open_upload-upload.ensures (omega arith), refl)
