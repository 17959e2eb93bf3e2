use Rattle.std.proofs.Common.{◌≡◌, ℕ, ◌*◌, ◌+◌, ◌-◌, ◌≤◌, min, length, take, drop, get_or, ◌∙◌, ap, arith, length-take, length-drop}
use Rattle.vault_volume.specs.Extents.{IsIn, IsInAny, bytes_of}
use Rattle.extent_map.specs.declared.extent.Extent.{Extent}
use Rattle.extent_map.proofs.SetLemmas.{in_at}
use Rattle.vault_volume.proofs.ExtentLemmas.{blocks_of_more, fill_more}
use Rattle.vault_volume.proofs.ImageLemmas.{in_both, in_extent, in_more}
use Rattle.vault_volume.proofs.Writes.{written_more}
use Rattle.vault_volume.proofs.vault.fill_extents.Goals as goal

pub returns-in_err-write_some-clause-image : goal.returns-in_err-write_some-clause-image
returns-in_err-write_some-clause-image g c = λ tells.
    let d : Extent = record { start = 0; count = 0 } in
    let es = c.args.extents.now in
    let i = c.loop-extent.extent-index in
    let e = get_or es i d in
    let k = c.loop-extent.written in
    let n = c.min-count.result in
    let bytes = c.args.bytes.now in
    let part = take (k + n - k) (drop k bytes) in
    let at = 4096 * e.start + c.min-passed.result in
    let fits : at + length part ≤ 4096 * (e.start + e.count) = omega (arith, length-take (k + n - k) (drop k bytes), length-drop k bytes, c.min-count.ensures, c.min-passed.ensures) in
    in_both (IsInAny es) (g.V.Volume.image c.args.volume.now) (g.V.Volume.image c.loop-extent.volume) (g.V.Volume.image c.write_some.new.volume) (c.loop-extent.invariant.image tells)
    (in_more (IsIn e) (IsInAny es) (g.V.Volume.image c.loop-extent.volume) (g.V.Volume.image c.write_some.new.volume) (λ b here. in_at es i d b c.loop-extent-test.true here)
    (in_extent e at (length part) (g.V.Volume.image c.loop-extent.volume) (g.V.Volume.image c.write_some.new.volume) (omega arith) fits (c.write_some.ensures.torn tells)))

pub returns-in_err-write_some-clause-any_moment : goal.returns-in_err-write_some-clause-any_moment
returns-in_err-write_some-clause-any_moment g c = λ tells.
    let d : Extent = record { start = 0; count = 0 } in
    let es = c.args.extents.now in
    let i = c.loop-extent.extent-index in
    let e = get_or es i d in
    let k = c.loop-extent.written in
    let n = c.min-count.result in
    let bytes = c.args.bytes.now in
    let part = take (k + n - k) (drop k bytes) in
    let at = 4096 * e.start + c.min-passed.result in
    let fits : at + length part ≤ 4096 * (e.start + e.count) = omega (arith, length-take (k + n - k) (drop k bytes), length-drop k bytes, c.min-count.ensures, c.min-passed.ensures) in
    written_more g.V.Volume.moment g.V.Volume.left_at c.args.volume.now c.loop-extent.volume c.write_some.new.volume (IsInAny es) (g.V.Volume.image c.args.volume.now) e at (length part) (λ b here. in_at es i d b c.loop-extent-test.true here) (omega arith) fits
    (c.loop-extent.invariant.left tells) (c.write_some.ensures.any_moment tells)

pub loop-extent-preserved : goal.loop-extent-preserved
loop-extent-preserved g c =
    let inv = c.loop-extent.invariant in
    let d : Extent = record { start = 0; count = 0 } in
    let es = c.args.extents.now in
    let i = c.loop-extent.extent-index in
    let e = get_or es i d in
    let k = c.loop-extent.written in
    let n = c.min-count.result in
    let bytes = c.args.bytes.now in
    let part = take (k + n - k) (drop k bytes) in
    let at = 4096 * e.start + c.min-passed.result in
    let skips = inv.skip in
    let writes = inv.written in
    let passes : c.min-passed.result ≡ min c.loop-extent.skip (4096 * e.count) = omega (arith, c.min-passed.ensures) in
    let counts : n ≡ min (length bytes - k) (4096 * e.count - c.min-passed.result) = omega (arith, c.min-count.ensures) in
    let more = blocks_of_more es i d c.loop-extent-test.true in
    let fits : at + length part ≤ 4096 * (e.start + e.count) = omega (arith, length-take (k + n - k) (drop k bytes), length-drop k bytes, counts, passes) in
    let same_size = c.in_ok-write_some.ensures.size ∙ inv.size in
    let changed = λ (tells : g.V.Volume.tells). in_extent e at (length part) (g.V.Volume.image c.loop-extent.volume) (g.V.Volume.image c.write_some.new.volume) (omega arith) fits (c.write_some.ensures.torn tells) in
    record {
      skip = omega (arith, skips, passes, more);
      written = omega (arith, skips, writes, passes, counts, more);
      size = same_size;
      failures = c.in_ok-write_some.ensures.failures ∙ inv.failures;
      image = λ tells.
          in_both (IsInAny es) (g.V.Volume.image c.args.volume.now) (g.V.Volume.image c.loop-extent.volume) (g.V.Volume.image c.write_some.new.volume) (inv.image tells)
          (in_more (IsIn e) (IsInAny es) (g.V.Volume.image c.loop-extent.volume) (g.V.Volume.image c.write_some.new.volume) (λ b here. in_at es i d b c.loop-extent-test.true here) (changed tells));
      bytes = λ tells.
          let long = g.met.V.Volume.image_length c.loop-extent.volume tells in
          let new_long = g.met.V.Volume.image_length c.write_some.new.volume tells in
          let count : k + n - k ≡ n = omega arith in
          fill_more (g.V.Volume.image c.loop-extent.volume) (g.V.Volume.image c.write_some.new.volume) bytes (take c.args.done (bytes_of (g.V.Volume.image c.args.volume.now) es)) part (g.V.Volume.size c.args.volume.now) es i d c.args.done k c.loop-extent.skip c.min-passed.result n
          c.loop-extent-test.true c.requires.apart (long ∙ ap (λ (s : ℕ). 4096 * s) inv.size) (new_long ∙ ap (λ (s : ℕ). 4096 * s) same_size) c.requires.range skips writes passes counts
          (ap (λ (m : ℕ). take m (drop k bytes)) count) (c.in_ok-write_some.ensures.written tells) (changed tells) (inv.bytes tells);
      left = λ tells.
          written_more g.V.Volume.moment g.V.Volume.left_at c.args.volume.now c.loop-extent.volume c.write_some.new.volume (IsInAny es) (g.V.Volume.image c.args.volume.now) e at (length part) (λ b here. in_at es i d b c.loop-extent-test.true here) (omega arith) fits
          (inv.left tells) (c.write_some.ensures.any_moment tells);
    }
