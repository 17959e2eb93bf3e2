use Rattle.std.proofs.Common.{◌≡◌, inl, ℕ, false, refl, sym, ap, subst, arith, rules, Err}
use Rattle.vault_volume.specs.Extents.{HasFewer, block_count}
use Rattle.vault_volume.specs.Image.{DiffersOnlyIn}
use Rattle.vault_volume.specs.Disk.{LeavesOnly}
use Rattle.vault_volume.specs.Vault.{volume_of, IsFree}
use Rattle.vault_volume.proofs.ImageLemmas.{same_in}
use Rattle.deposit_name.specs.Name.{Name}
use Rattle.custody_records.specs.MemoryRecords.{HasPartRoom}
use Rattle.custody_machine.specs.Machine.{Receive}
use Rattle.custody_machine.specs.Rulings.{AddsPart, GoRuling}
use Rattle.custody.specs.declared.open_custody.OpenCustody.{OpenCustody}
use Rattle.custody.specs.declared.answers.Refused.{Refused}
use Rattle.custody.specs.Answers.{may_change}
use Rattle.custody.specs.OpenCustody.{image_of}
use Rattle.custody.proofs.Done.{no_memory_done}
use Rattle.custody.proofs.Uploads.{part_sized, unstaged_unchanged}
use Rattle.vault_volume.proofs.Moments.{nothing_yet}
use Rattle.custody.proofs.Unstaged.{unstaged_done}
use Rattle.custody.proofs.open_custody.OpenCustody.open_part.Goals as goal

pub returns-in_default : goal.returns-in_default
returns-in_default g c = λ text now order decides. record {
  order = order;
  unchanged = refl;
  done = λ body comes. let ruled = decides body comes.0 in
      no_memory_done g.S.Store c.args.self.now order (Receive text body) now c.make_room.new.records c.make_room.ensures.same _ _ (ruled.1 (image_of c.args.self.now)) (GoRuling (AddsPart c.args.name), ruled, inl refl);
}

pub overflow_cast-len : goal.overflow_cast-len
overflow_cast-len g c = let most = (part_sized c.args.self.now c.args.name c.requires.1 c.args.len c.requires.2 c.requires.0 c.requires.3).1 in omega (arith, most)

pub begin-requires : goal.begin-requires
begin-requires g c = record { size = part_sized c.args.self.now c.args.name c.requires.1 c.args.len c.requires.2 c.requires.0 c.requires.3 }

pub returns-in-Err : goal.returns-in-Err
returns-in-Err g c = λ text now order decides.
    let old = c.args.self.now in
    let new : OpenCustody g.row.V.Denot g.row.S.Denot g.V.Volume = record { vault = c.begin.new.self; store = old.store; records = c.make_room.new.records } in
    let h = c.in-Err.ensures in
    let free = IsFree old.vault in
    record {
      order = order;
      unchanged = subst (λ (r : Refused). may_change (Err r) ≡ false) (sym c.from.ensures) (unstaged_unchanged c.in-Err.error);
      done = λ body comes.
          unstaged_done old new c.make_room.ensures.same refl text body now c.args.name order (decides body comes.0) c.in-Err.error h.free (λ _. h.volume) (λ _. h.volume) g.S.Store
          (λ e. absurd (h.not_failed (ap Err e))) (λ e. subst (λ (n : ℕ). HasFewer free (g.V.Volume.size (volume_of old.vault)) (block_count n)) (sym comes.0) (h.full (ap Err e)))
          (λ tells. subst (λ v. DiffersOnlyIn free (image_of old) (g.V.Volume.image v)) (sym h.volume) (same_in free (image_of old)))
          (λ tells kept. subst (λ v. LeavesOnly g.V.Volume.moment g.V.Volume.left_at (volume_of old.vault) v (DiffersOnlyIn free (image_of old))) (sym h.volume)
          (nothing_yet g.V.Volume.moment g.V.Volume.left_at (volume_of old.vault) _ kept.elsewhere)) (Err c.from.result) (ap Err c.from.ensures);
    }

pub returns-in-Ok-begin : goal.returns-in-Ok-begin
returns-in-Ok-begin g c = λ text now order decides. record {
  order = order;
  decides = decides;
  records = c.make_room.ensures.same;
  store = refl;
  room = subst (λ (n : Name). HasPartRoom n.tld c.make_room.new.records) c.name.view_is c.in-Ok.ensures.part;
  empty = c.in-Ok.ensures.empty;
  extents = c.in-Ok.ensures.extents;
  written = search rules;
}
