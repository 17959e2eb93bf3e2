use Rattle.std.proofs.Common.{◌≡◌, ℕ, ◌≤◌, List, ◌++◌, length, take, drop, sym, ◌∙◌, ap, subst, arith, rules}
use Rattle.std.proofs.lemmas.List.{length-take-le}
use Rattle.std.proofs.Math.Seq.{take-add}
use Rattle.sha2.specs.Hashers.{Holds256}
use Rattle.vault_volume.specs.Extents.{bytes_of, part_bytes}
use Rattle.vault_volume.specs.Vault.{volume_of}
use Rattle.custody.proofs.RevisionLemmas.{read_again}
use Rattle.custody.proofs.upload.digest_part.Goals as goal

pub loop-done-preserved : goal.loop-done-preserved
loop-done-preserved g c =
    let inv = c.loop-done.invariant in
    let h = c.in_ok-read_piece.ensures in
    let n = c.min-count.result in
    let room : length c.loop-done.buffer ≡ 32768 = search rules in
    let few : n ≤ 32768 = omega (arith, c.min-count.ensures) in
    let long : length (take n c.loop-done.buffer) ≡ n = length-take-le n c.loop-done.buffer (omega (arith, room, few)) in
    record {
      within = let here = inv.within in omega (arith, here, c.min-count.ensures);
      read = read_again c.args.vault.now c.loop-done.vault c.read_piece.new.self inv.read (record { free = h.free; size = h.size; image = h.image; any_moment = h.any_moment });
      failures = h.failures ∙ inv.failures;
      digest = λ tells.
          let image = g.V.Volume.image (volume_of c.args.vault.now) in
          let bytes = bytes_of image c.args.extents.now in
          let got : c.read_piece.new.out ≡ take n (drop c.loop-done.done bytes) =
          h.bytes tells ∙ ap (λ (m : ℕ). take m (drop c.loop-done.done (bytes_of (g.V.Volume.image (volume_of c.loop-done.vault)) c.args.extents.now))) long
          ∙ ap (λ (j : List ℕ). take n (drop c.loop-done.done (bytes_of j c.args.extents.now))) (inv.read.image tells) in
          subst (λ (l : List ℕ). Holds256 c.update.new.self l) (ap (λ (l : List ℕ). take c.loop-done.done bytes ++ l) got ∙ sym (take-add c.loop-done.done n bytes))
          (c.update.ensures (part_bytes image c.args.extents.now c.loop-done.done) (inv.digest tells));
    }
