use Rattle.std.proofs.Common.{◌-◌, ◌++◌, length, arith}
use Rattle.custody.proofs.Coming.{all_came, comes_more}
use Rattle.custody.proofs.Uploads.{came_ended}
use Rattle.custody.proofs.open_custody.OpenCustody.take_body.Goals as goal

pub take-upload-requires : goal.take-upload-requires
take-upload-requires g c =
    let inv = c.loop-left.invariant c.requires.0 c.requires.1 c.requires.2 in
    let gives = c.in-Ok.ensures in
    let fits = gives.1 in
    let sum = inv.2.1 in
    let sized = c.requires.2 in
    (c.requires.0, inv.0, inv.1, omega (arith, fits, sum, sized))

pub loop-left-preserved : goal.loop-left-preserved
loop-left-preserved g c = λ s taking sized.
    let inv = c.loop-left.invariant s taking sized in
    let gives = c.in-Ok.ensures in
    let fits = gives.1 in
    let sum = inv.2.1 in
    let more = comes_more (g.R.Read.remaining c.args.reader.now) (g.R.Read.remaining c.loop-left.reader) (g.R.Read.remaining c.next_piece.new.reader) c.args.len c.loop-left.left inv.0 c.in-Ok.piece.now (c.loop-left.left - length c.in-Ok.piece.now) inv.2 gives.3 (omega (arith, fits)) in
    (inv.0 ++ c.in-Ok.piece.now, c.take-upload.ensures s inv.0 inv.1 (omega (arith, fits, sum, sized)), more)

pub returns-in-Err : goal.returns-in-Err
returns-in-Err g c = λ s taking sized.
    let inv = c.loop-left.invariant s taking sized in
    let sum = inv.2.1 in
    (inv.0, inv.1, omega (arith, sum), came_ended (g.R.Read.remaining c.args.reader.now) (g.R.Read.remaining c.loop-left.reader) (g.R.Read.remaining c.next_piece.new.reader) c.args.len c.loop-left.left inv.0 c.in-Err.ended inv.2 (omega arith) c.in-Err.ensures)

pub returns : goal.returns
returns g c = λ s taking sized.
    let inv = c.loop-left.invariant s taking sized in
    let sum = inv.2.1 in
    (inv.0, inv.1, omega (arith, sum), all_came (g.R.Read.remaining c.args.reader.now) (g.R.Read.remaining c.loop-left.reader) c.args.len c.loop-left.left inv.0 inv.2 (omega arith))
