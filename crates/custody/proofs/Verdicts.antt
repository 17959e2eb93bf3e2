-- A deposit that is verified, over a volume that was read: a new notice as one change of the records, or none.
use Rattle.std.proofs.Common.{◌≡◌, ℕ, ◌+◌, List, [], Option, None, Some, is_some, inl, inr, true, false, refl, sym, ◌∙◌, ap, subst, arith, Ok, Err, Contains}
use Rattle.std.specs.FinMap.{get}
use Rattle.sqlite.specs.Store.{Ghosts}
use Rattle.deposit_verify.specs.declared.verdict.Verdict.{Verdict}
use Rattle.vault_volume.specs.declared.volume.Volume as volume
use Rattle.vault_volume.specs.Image.{DiffersOnlyIn}
use Rattle.vault_volume.specs.Vault.{volume_of, IsFree}
use Rattle.vault_volume.proofs.ImageLemmas.{same_in, in_more}
use Rattle.vault_volume.proofs.Moments.{leaves_weaker}
use Rattle.custody_records.specs.declared.records.Records as held
use Rattle.custody_records.specs.MemoryRecords.{records_of}
use Rattle.custody_records.specs.Keys.{PartKey, NoticeKey}
use Rattle.custody_records.specs.Records.{Notice, PartRecord, Records, key_of, with_notice}
use Rattle.custody_machine.specs.declared.command.Statement as statement
use Rattle.custody_machine.specs.declared.answers.Failure.TheVariants.{NoMemory, VolumeFailed, StoreFailed, Closed, Damaged}
use Rattle.custody_machine.specs.declared.damage.Damage.TheVariants.{Digest}
use Rattle.custody_machine.specs.Machine.{Statement, OfNotice, Accept, MayFail, first_part, next_key, verdict_keys, verdict_notice, deciding_keys, step}
use Rattle.custody_machine.specs.Rulings.{AddsVerdict, GoRuling, Decides}
use Rattle.custody_machine.specs.StoredState.{IsVolumeOf, AreWhole, AreWholeOnVolume, HasDigestAt, state_in}
use Rattle.custody_machine.specs.Custody.{IsInOrder}
use Rattle.custody_machine.proofs.Compared.{now_of}
use Rattle.custody_machine.proofs.Composed.{IsChange, nothing_in}
use Rattle.custody_machine.proofs.Noticed.{verdict_accepted, first_there, held_at, reads_stated, verdict_belongs, notice_changes, notice_in_order}
use Rattle.custody.specs.declared.answers.Refused as not_accepted
use Rattle.custody.specs.declared.answers.Refused.TheVariants as refused
use Rattle.custody.specs.declared.open_custody.OpenCustody.{OpenCustody}
use Rattle.custody.specs.OpenCustody.{current_records, image_of, failures_of, MayLeaveImage, KeepsOrder, KeepsImage, IsUnwritten, HasExecuted}
use Rattle.custody.specs.Reading.{ReadsVault}
use Rattle.custody.specs.inside.Verifying.{HasFirstPart, IsVerified, CountsVerifyFailure}
use Rattle.custody.proofs.OpenCustodyLemmas.{order_same, safe_undone}
use Rattle.custody.proofs.Done.{GoesOn, reads_done, no_memory_done}

-- the first part of a deposit that is to be verified is recorded
pub first_recorded : (records : Records) → AreWhole records → (stated : statement.Statement) (now : ℕ) → Decides (GoRuling (AddsVerdict stated)) records (Statement stated) now → HasFirstPart records stated
first_recorded records whole stated now d = by (get records.parts (key_of (first_part stated))) refl (first_there records [] whole stated now d)
  where
    by : (o : Option PartRecord) → get records.parts (key_of (first_part stated)) ≡ o → is_some o ≡ true → HasFirstPart records stated
    by None at h = cc
    by (Some part) at h = (part, at, (held_at records [] whole stated now d 1 part (0, omega arith, refl) at).0)

module _ {V S : Type 0} {g : volume.Ghosts V} (database : Ghosts S) (old : OpenCustody V S g) (order : KeepsOrder old) (stated : statement.Statement) (now : ℕ) (d : Decides (GoRuling (AddsVerdict stated)) (current_records old) (Statement stated) now) where
  abbrev keys : List PartKey
  keys = verdict_keys (state_in (current_records old) (image_of old)) stated

  reads_keys : deciding_keys (state_in (current_records old) (image_of old)) (Statement stated) now ≡ keys
  reads_keys = reads_stated (current_records old) (image_of old) order.whole stated now d

  -- there is no memory for one more notice
  pub unreserved_done : (r : held.Records) → records_of r ≡ current_records old → HasExecuted database old (Statement stated) now (Err (refused.Failure NoMemory)) (record { vault = old.vault; store = old.store; records = r })
  unreserved_done r same = no_memory_done database old order (Statement stated) now r same _ _ (d.1 (image_of old)) (GoRuling (AddsVerdict stated), d, inl refl)

  -- ---- there is no verdict

  module _ (new : OpenCustody V S g) (same : current_records new ≡ current_records old) (store_same : new.store ≡ old.store) (read : ReadsVault old.vault new.vault) where
    unwritten : g.tells → IsUnwritten old new
    unwritten tells = (read.image tells, read.any_moment tells)

    no_memory : failures_of new ≡ failures_of old → HasExecuted database old (Statement stated) now (Err (refused.Failure NoMemory)) new
    no_memory failures = reads_done database old order (Statement stated) now new same store_same read.free unwritten (Err (refused.Failure NoMemory))
        (safe_undone old new same read.free (Statement stated) (Err (refused.Failure NoMemory)) (λ e. cc) (λ e. cc) (λ _. failures) (λ e. cc) (λ e. cc) store_same (λ _. order_same old new same read.free read.size failures order))
        (GoRuling (AddsVerdict stated), d, inl refl) tt (λ _. tt)
        (λ _. ((subst (λ r. MayFail r (deciding_keys (state_in (current_records old) (image_of old)) (Statement stated) now) NoMemory) (sym (d.1 (image_of old))) tt, refl), tt))

    volume_failed : failures_of new ≡ failures_of old + 1 → HasExecuted database old (Statement stated) now (Err (refused.Failure VolumeFailed)) new
    volume_failed one = reads_done database old order (Statement stated) now new same store_same read.free unwritten (Err (refused.Failure VolumeFailed))
        (safe_undone old new same read.free (Statement stated) (Err (refused.Failure VolumeFailed)) (λ e. cc) (λ e. omega (arith, one)) (λ other. absurd (other refl)) (λ e. cc) (λ e. cc) store_same (λ e. cc))
        (GoRuling (AddsVerdict stated), d, inr (inl refl)) tt (λ _. tt)
        (λ _. ((subst (λ r. MayFail r (deciding_keys (state_in (current_records old) (image_of old)) (Statement stated) now) VolumeFailed) (sym (d.1 (image_of old))) tt, refl), tt))

    broken : failures_of new ≡ failures_of old → (g.tells → (key : PartKey) × Contains keys key × (¬ HasDigestAt (image_of old) (current_records old) key)) → HasExecuted database old (Statement stated) now (Err (refused.Failure (Damaged Digest))) new
    broken failures found = reads_done database old order (Statement stated) now new same store_same read.free unwritten (Err (refused.Failure (Damaged Digest)))
        (safe_undone old new same read.free (Statement stated) (Err (refused.Failure (Damaged Digest))) (λ e. cc) (λ e. cc) (λ _. failures) (λ e. cc) (λ e. cc) store_same (λ _. order_same old new same read.free read.size failures order))
        (GoRuling (AddsVerdict stated), d, inr (inr (inr refl))) tt (λ _. tt)
        (λ tells. let one = found tells in let within = subst (λ l. Contains l one.0) (sym reads_keys) one.1 in (
          (subst (λ r. MayFail r (deciding_keys (state_in (current_records old) (image_of old)) (Statement stated) now) (Damaged Digest)) (sym (d.1 (image_of old))) (refl, λ none. nothing_in _ one.0 none within), refl),
          (one.0, within, one.2),
        ))

    -- memory or the volume failed, or a part has not its digest
    pub unverified_done : (e : not_accepted.Refused) → CountsVerifyFailure {T = Verdict} (Err e) (failures_of old) (failures_of new) → (g.tells → IsVerified (Err e) (current_records old) (image_of old) stated) → HasExecuted database old (Statement stated) now (Err e) new
    unverified_done (refused.Refusal refusal) counts verified = absurd counts
    unverified_done (refused.Failure NoMemory) counts verified = no_memory counts
    unverified_done (refused.Failure VolumeFailed) counts verified = volume_failed counts
    unverified_done (refused.Failure StoreFailed) counts verified = absurd counts
    unverified_done (refused.Failure Closed) counts verified = absurd counts
    unverified_done (refused.Failure (Damaged damage)) counts verified =
        subst (λ k. HasExecuted database old (Statement stated) now (Err (refused.Failure (Damaged k))) new) (sym counts.0) (broken counts.1 (λ tells. (verified tells).1 (ap (λ k. refused.Failure (Damaged k)) counts.0)))

  -- ---- there is one

  module _ (found : Verdict) where
    abbrev pub key_then : NoticeKey
    key_then = next_key (current_records old).notices stated.tld

    abbrev pub notice_then : Notice
    notice_then = verdict_notice stated found now

    abbrev pub records_then : Records
    records_then = with_notice (current_records old) (next_key (current_records old).notices stated.tld) (verdict_notice stated found now)

    module _ (new : OpenCustody V S g) (read : ReadsVault old.vault new.vault) (failures : failures_of new ≡ failures_of old) (verified : g.tells → IsVerified (Ok found) (current_records old) (image_of old) stated) where
      order_then : IsInOrder (current_records old) (g.size (volume_of new.vault)) (failures_of new) (IsFree new.vault)
      order_then = order_same old (record { vault = new.vault; store = old.store; records = old.records }) refl read.free read.size failures order

      accepted : g.tells → step (state_in (current_records old) (image_of old)) (Statement stated) now ≡ Accept (record { entry = OfNotice key_then notice_then; is_repeat = false }) (state_in records_then (image_of new))
      accepted tells = verdict_accepted (current_records old) (image_of old) order.whole stated now d
          ∙ (λ i. Accept (record { entry = OfNotice key_then (verdict_notice stated (sym (verified tells).0 i) now); is_repeat = false }) (state_in (with_notice (current_records old) key_then (verdict_notice stated (sym (verified tells).0 i) now)) (sym (read.image tells) i)))

      change : g.tells → AreWholeOnVolume (current_records old) (image_of old) → IsChange (current_records old) (image_of old) (IsFree old.vault) records_then (image_of new) (IsFree new.vault)
      change tells good =
          let c = notice_changes (current_records old) order.whole stated.tld notice_then (verdict_belongs (current_records old) (image_of old) order.whole stated now d found) (image_of old) (g.size (volume_of old.vault)) (failures_of old) 0 (IsFree old.vault) order good in
          subst (λ j. IsChange (current_records old) (image_of old) (IsFree old.vault) records_then j (IsFree new.vault)) (sym (read.image tells))
          (record { good = c.good; keeps = c.keeps; unnamed = λ b is f. c.unnamed b is ((read.free b).0 f); head = λ f. c.head ((read.free 0).0 f); fewer = λ b f. (read.free b).0 f; moved = c.moved })

      after : g.tells → KeepsImage old → (j : List ℕ) → MayLeaveImage new j → DiffersOnlyIn (IsFree new.vault) (image_of new) j
      after tells kept j w = in_more (IsFree old.vault) (IsFree new.vault) (image_of new) j (λ b f. (read.free b).1 f)
          (subst (λ i. DiffersOnlyIn (IsFree old.vault) i j) (sym (read.image tells)) (kept.elsewhere j (now_of g.moment g.left_at (volume_of old.vault) (volume_of new.vault) _ (read.any_moment tells) j w)))

      -- it is one change
      pub verdict_change : GoesOn database old order (Statement stated) now new records_then (record { entry = OfNotice key_then notice_then; is_repeat = false }) (IsFree new.vault)
      verdict_change = record {
        change = record {
          uncalled = λ e. cc;
          reads_only = λ _ tells. (read.image tells, read.any_moment tells);
          failures = failures;
          first = refl;
          written = λ tells. subst (DiffersOnlyIn (IsFree old.vault) (image_of old)) (sym (read.image tells)) (same_in (IsFree old.vault) (image_of old));
          accepted = λ tells _. accepted tells;
          rests = λ tells _ key within. (verified tells).1 key (subst (λ l. Contains l key) reads_keys within);
          change = λ tells _. change tells;
          volume = λ tells kept. subst (IsVolumeOf records_then) (sym (read.image tells)) (record { head = kept.volume.head; size = kept.volume.size });
          any_moment = λ tells kept. leaves_weaker g.moment g.left_at (volume_of old.vault) (volume_of new.vault) _ _ kept.elsewhere (read.any_moment tells);
          after = after;
        };
        in_order = notice_in_order (current_records old) order.whole stated.tld notice_then (verdict_belongs (current_records old) [] order.whole stated now d found) [] (g.size (volume_of new.vault)) (failures_of new) (failures_of new) (IsFree new.vault) order_then order_then.count;
        fewer = λ b f. f;
      }
