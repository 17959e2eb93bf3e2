-- A part that was staged, as the commit of its record finds it.
use Rattle.std.proofs.Common.{◌≡◌, ℕ, ◌-◌, ◌<◌, ◌≤◌, ◌^◌, List, [], length, Some, false, refl, sym, ◌∙◌, ap, subst, Ok}
use Rattle.std.specs.FinMap.{get}
use Rattle.schedule.specs.Schedule.{IsMoment}
use Rattle.sqlite.specs.Store.{Ghosts}
use Rattle.deposit_name.specs.Name.{Name}
use Rattle.vault_volume.specs.declared.volume.Volume as volume
use Rattle.vault_volume.specs.Disk.{LeavesOnly}
use Rattle.vault_volume.specs.Extents.{part_bytes}
use Rattle.vault_volume.specs.Image.{DiffersOnlyIn}
use Rattle.extent_map.specs.Staged.{StagedPart}
use Rattle.vault_volume.specs.Vault.{volume_of, IsFree}
use Rattle.vault_volume.proofs.ImageLemmas.{same_in}
use Rattle.custody_records.specs.inside.Orders.{part_total}
use Rattle.custody_records.specs.Records.{Records, key_of, with_part, staged_record}
use Rattle.custody_records.specs.Rows.{Rows, with_part_row}
use Rattle.custody_records.specs.Form.{form_of, InForm}
use Rattle.custody_records.specs.RowsOfRecords.{row_of_part}
use Rattle.custody_machine.specs.Machine as machine
use Rattle.custody_machine.specs.Machine.{Receive, OfPart, Accept, Accepted, received_part, step}
use Rattle.custody_machine.proofs.Accepting.{insert_here}
use Rattle.custody_machine.specs.StoredState.{state_in}
use Rattle.custody_machine.specs.Rulings.{AddsPart, GoRuling, Decides}
use Rattle.custody_machine.specs.Custody.{IsInOrder, IsPlaced, IsDurable}
use Rattle.custody_machine.proofs.Composed.{IsChange, nothing_in, has_size, reads_nothing, part_changes, part_ruled, part_in_order}
use Rattle.custody.specs.declared.answers.Record.{Record}
use Rattle.custody.specs.declared.open_custody.OpenCustody.{OpenCustody}
use Rattle.custody.specs.Answers.{answer_of}
use Rattle.custody.specs.RulingAnswers.{FollowsRecords, received_record}
use Rattle.custody.specs.ReplyRecords.{IsRecordOfPart, IsRecorded, HoldsBytes}
use Rattle.custody.specs.OpenCustody.{current_records, image_of, failures_of, MayLeaveImage, KeepsOrder, KeepsImage}
use Rattle.custody.proofs.Done.{GoesOn}
use Rattle.custody.proofs.PartLemmas.{part_means}
use Rattle.custody.proofs.ShownLemmas.{shown_of, holds_of, entry_of}

module _ {V S : Type 0} {g : volume.Ghosts V} (old new : OpenCustody V S g) (text bytes : List ℕ) (now : ℕ) (n : Name) (order : KeepsOrder old) (ruled : Decides (GoRuling (AddsPart n)) (current_records old) (Receive text bytes) now)
    (staged : StagedPart) (placed : IsPlaced (g.size (volume_of old.vault)) (IsFree old.vault) (IsFree new.vault) bytes staged) where
  abbrev pub records_then : Records
  records_then = with_part (current_records old) (key_of n) (staged_record n now staged)

  pub kept_sized : (0 < length bytes) × (length bytes ≤ 1_048_576)
  kept_sized = has_size (current_records old) [] order.whole text bytes now n ruled.0.0 ruled.0.1 (ruled.1 [])

  -- what the row says
  pub kept_means : IsMoment now → (rows : Rows) → form_of rows ≡ InForm (current_records old) → form_of (with_part_row (row_of_part (key_of n) (staged_record n now staged)) rows) ≡ InForm records_then
  kept_means moment rows is = part_means n now (g.size (volume_of old.vault)) (IsFree old.vault) (IsFree new.vault) bytes staged placed rows (current_records old) text is ruled.0.0 moment order.blocks kept_sized ruled.0.1

  module _ (volume : KeepsImage old) (settled : IsDurable (image_of old) (image_of new) (IsFree old.vault) (MayLeaveImage new) bytes staged) where
    change : IsChange (current_records old) (image_of old) (IsFree old.vault) records_then (image_of new) (IsFree new.vault)
    change = part_changes (current_records old) (image_of old) order.whole text bytes now n ruled.0.0 ruled.0.1 (ruled.1 (image_of old)) (g.size (volume_of old.vault)) (failures_of old) (IsFree old.vault) order (IsFree new.vault) staged placed volume.volume (image_of new) (MayLeaveImage new) settled

    abbrev shown_reply : machine.Reply
    shown_reply = record { entry = OfPart (key_of n) (received_part n bytes now); is_repeat = false }

    accepted : step (state_in (current_records old) (image_of old)) (Receive text bytes) now ≡ Accept shown_reply (state_in records_then (image_of new))
    accepted = part_ruled (current_records old) (image_of old) order.whole text bytes now n ruled.0.0 ruled.0.1 (ruled.1 (image_of old)) (g.size (volume_of old.vault)) (failures_of old) (IsFree old.vault) order (IsFree new.vault) staged placed volume.volume (image_of new) (MayLeaveImage new) settled

    only : (j : List ℕ) → MayLeaveImage new j → DiffersOnlyIn (IsFree new.vault) (image_of new) j
    only j w = subst (DiffersOnlyIn (IsFree new.vault) (image_of new)) (sym (settled.settled j w)) (same_in (IsFree new.vault) (image_of new))

  -- it is one change
  pub kept_change : (database : Ghosts S) → g.size (volume_of new.vault) ≡ g.size (volume_of old.vault) → failures_of new ≡ failures_of old → (g.tells → IsDurable (image_of old) (image_of new) (IsFree old.vault) (MayLeaveImage new) bytes staged)
      → (g.tells → KeepsImage old → LeavesOnly g.moment g.left_at (volume_of old.vault) (volume_of new.vault) (DiffersOnlyIn (IsFree old.vault) (image_of old)))
      → GoesOn database old order (Receive text bytes) now new records_then (record { entry = OfPart (key_of n) (received_part n bytes now); is_repeat = false }) (IsFree new.vault)
  kept_change database size failures settled leaves = record {
    change = record {
      uncalled = λ e. cc;
      reads_only = λ e. cc;
      failures = failures;
      first = refl;
      written = λ tells. (settled tells).elsewhere;
      accepted = λ tells volume. accepted volume (settled tells);
      rests = λ _ _ key within. absurd (nothing_in _ key (reads_nothing (current_records old) (image_of old) order.whole text bytes now n ruled.0.0 ruled.0.1 (ruled.1 (image_of old))) within);
      change = λ tells volume _. change volume (settled tells);
      volume = λ tells volume. (change volume (settled tells)).good.volume;
      any_moment = leaves;
      after = λ tells volume. only volume (settled tells);
    };
    in_order = subst (λ s. IsInOrder records_then s (failures_of new) (IsFree new.vault)) (sym size)
        (part_in_order (current_records old) [] order.whole text bytes now n ruled.0.0 ruled.0.1 (ruled.1 []) (g.size (volume_of old.vault)) (failures_of old) (IsFree old.vault) order (IsFree new.vault) staged placed (failures_of new) (subst (λ k. k < 2 ^ 64 - 1) (sym failures) order.count));
    fewer = λ b f. f;
  }

  -- ---- it is answered as it is recorded

  module _ (same : current_records new ≡ records_then) (told : Record) (shows : IsRecordOfPart told n (staged_record n now staged)) where
    pub kept_ruled : FollowsRecords (current_records old) (Receive text bytes) now (Ok (record { «record» = told; is_repeat = false })) (current_records new)
    kept_ruled = (GoRuling (AddsPart n), ruled, (staged.extents, subst (IsRecordOfPart told n) received shows, refl, same ∙ ap (with_part (current_records old) (key_of n)) received))
      where
        received : staged_record n now staged ≡ received_record n now bytes staged.extents
        received = λ i. record { kind = n.kind; received = now; len = placed.len i; digest = placed.digest i; extents = Some staged.extents }

    pub kept_shown : IsRecorded (current_records new) told
    kept_shown = shown_of n (staged_record n now staged) (current_records new) told shows (ap (λ (r : Records). get r.parts (key_of n)) same ∙ insert_here part_total (current_records old).parts (key_of n) (staged_record n now staged))

    pub kept_holds : part_bytes (image_of new) staged.extents staged.len ≡ bytes → HoldsBytes (image_of new) told bytes
    kept_holds is = holds_of n (staged_record n now staged) (image_of new) bytes staged.extents told shows refl is

    pub kept_entry : answer_of (Receive text bytes) (Ok (record { «record» = told; is_repeat = false })) ≡ Accepted (record { entry = OfPart (key_of n) (received_part n bytes now); is_repeat = false })
    kept_entry = ap (λ e. Accepted (record { entry = e; is_repeat = false })) (entry_of n (staged_record n now staged) bytes told shows)
