use Rattle.std.proofs.Common.{arith, sym}
use Rattle.extent_map.specs.declared.extent.Extent.{Extent}
use Rattle.custody_records.proofs.ReadBack.{blob_of_more}
use Rattle.custody_records.proofs.extents.write_blob.Goals as goal

pub loop-extent-preserved : goal.loop-extent-preserved
loop-extent-preserved c =
    let none : Extent = record { start = 0; count = 0 } in
    record {
      len_so_far = omega (arith, c.append-in-loop-extent.ensures.len, c.append.ensures.len);
      bytes_so_far =
          rw (c.append-in-loop-extent.ensures.text, c.append.ensures.text, c.loop-extent.invariant.bytes_so_far, c.to_be_bytes.ensures, c.to_be_bytes-in-loop-extent.ensures)
          (sym (blob_of_more c.args.extents.now c.loop-extent.extent-index none (omega arith)));
    }
