use Rattle.std.proofs.Common.{◌-◌, length, take, sym, subst}
use Rattle.std.specs.Io.KnownBytes.{Consumes}
use Rattle.std.proofs.KnownBytes.{Consumes-trans}
use Rattle.custody.proofs.Coming.{take-put_more, within-put_more}
use Rattle.custody.proofs.receiving.fill.Goals as goal

pub loop-filled-preserved : goal.loop-filled-preserved
loop-filled-preserved g c =
    let before = c.loop-filled.invariant in
    let buffer = c.loop-filled.buffer in
    let k = c.loop-filled.filled in
    let n = c.in_ok-count.count in
    let got = c.read.new.buf in
    record {
      bound = within-put_more buffer got k n (length buffer - k) before.bound c.in_ok-count.ensures.bound.0;
      bytes = subst (λ l. Consumes (g.R.Read.remaining c.args.reader.now) (g.R.Read.remaining c.read.new.self) l) (sym (take-put_more buffer got k n (length buffer - k) before.bound c.in_ok-count.ensures.bound.0))
          (Consumes-trans _ _ _ (take k buffer) (take n got) before.bytes c.in_ok-count.ensures.bytes.0);
    }
