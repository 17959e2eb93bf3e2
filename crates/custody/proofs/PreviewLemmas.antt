-- A statement that is previewed.
use Rattle.std.proofs.Common.{◌≡◌, ℕ, ◌+◌, List, [], Option, None, Some, inl, inr, true, false, refl, sym, ◌∙◌, ap, subst, arith, Result, Ok, Err, Contains}
use Rattle.std.specs.Prelude.{is_none, option_map}
use Rattle.sqlite.specs.Store.{Ghosts}
use Rattle.vault_volume.specs.declared.volume.Volume as volume
use Rattle.desk.specs.declared.notices.Notice as desk
use Rattle.deposit_verify.specs.declared.verdict.Verdict.{Verdict}
use Rattle.custody_records.specs.Keys.{NoticeKey}
use Rattle.custody_records.specs.Records.{Notice, Records}
use Rattle.custody_records.specs.TypedRecords.{notice_key, notice_value}
use Rattle.custody_machine.specs.declared.command.Statement as statement
use Rattle.custody_machine.specs.declared.answers.Failure.TheVariants.{NoMemory, VolumeFailed, StoreFailed, Closed, Damaged}
use Rattle.custody_machine.specs.Machine.{Statement, Record, Reply, Step, OfNotice, Accept, Refuse, told_notice, next_key, verdict_notice, notice_record, kept_verdict, effect, unless_kept}
use Rattle.custody_machine.specs.Rulings.{Change, AddsRegistry, AddsPart, AddsVerdict, AddsAbsence, AddsRelease, AddsHold, LiftsHold, DropsBytes, KeptRuling, GoRuling, Decides}
use Rattle.custody_machine.specs.StoredState.{AreWhole, state_in}
use Rattle.custody_machine.proofs.Accepting.{step_accepts}
use Rattle.custody_machine.proofs.Composed.{nothing_in, reads_repeated}
use Rattle.custody_machine.proofs.Noticed.{verdict_accepted, reads_stated}
use Rattle.custody.specs.declared.answers.Refused as not_accepted
use Rattle.custody.specs.declared.answers.Refused.TheVariants as refused
use Rattle.custody.specs.declared.custody.Custody.{Custody}
use Rattle.custody.specs.Answers.{closing_failure, stays_open}
use Rattle.custody.specs.Custody.{failure_of, open_custody_of, is_open}
use Rattle.custody.specs.OpenCustody.{current_records, image_of, failures_of}
use Rattle.custody.specs.Previewing.{IsPreviewDecided, IsPreviewed, HasPreviewed, unnumbered}
use Rattle.custody.specs.Reading.{ReadsVault}
use Rattle.custody.specs.inside.Verifying.{IsVerified, CountsVerifyFailure}
use Rattle.custody.proofs.Rested.{reads_rested}

-- a notice with number 0
pub unnumbered_is : (told : desk.Notice) (key : NoticeKey) (notice : Notice) → notice_key told ≡ record { tld = key.tld; number = 0 } → notice_value told ≡ notice → told ≡ unnumbered key notice
unnumbered_is told key notice k v = λ i. told_notice (k i, v i)

-- what a step replies
abbrev reply_of : Reply → Step → Reply
reply_of other (Refuse refusal) = other
reply_of other (Accept reply new) = reply

module _ (records : Records) (stated : statement.Statement) (now : ℕ) where
  -- a repeat is answered by a notice
  pub kept_is_notice : (entry : Record) → Decides (KeptRuling entry) records (Statement stated) now → (key : NoticeKey) × (notice : Notice) × (entry ≡ OfNotice key notice)
  kept_is_notice entry d = by (kept_verdict (state_in records []) stated) (step_accepts (state_in records []) (Statement stated) now (record { entry = entry; is_repeat = true }) (state_in records []) (d [])).1
    where
      by : (kept : Option (NoticeKey × Notice)) → unless_kept (state_in records []) (option_map notice_record kept) (effect (state_in records []) (Statement stated) now) ≡ Accept (record { entry = entry; is_repeat = true }) (state_in records [])
          → (key : NoticeKey) × (notice : Notice) × (entry ≡ OfNotice key notice)
      by None e = let clash : false ≡ true = ap (λ s. (reply_of (record { entry = entry; is_repeat = true }) s).is_repeat) e in cc
      by (Some one) e = (one.0, one.1, sym (ap (λ s. (reply_of (record { entry = entry; is_repeat = true }) s).entry) e))

  -- and a statement that goes ahead has a verdict
  pub goes_to_verdict : (change : Change) → Decides (GoRuling change) records (Statement stated) now → Decides (GoRuling (AddsVerdict stated)) records (Statement stated) now
  goes_to_verdict change d = subst (λ c. Decides (GoRuling c) records (Statement stated) now) (by change d) d
    where
      by : (change : Change) → Decides (GoRuling change) records (Statement stated) now → change ≡ AddsVerdict stated
      by (AddsRegistry tld first_day) d = let clash = d.0.0 in cc
      by (AddsPart name) d = absurd d.0.0
      by (AddsVerdict other) d = let same = d.0 in cc
      by (AddsAbsence tld day) d = let clash = d.0 in cc
      by (AddsRelease reference tld reason) d = let clash = d.0.0 in cc
      by (AddsHold reference tld day) d = let clash = d.0.0 in cc
      by (LiftsHold reference) d = let clash = d.0.0 in cc
      by DropsBytes d = let clash = d.0 in cc

  -- ---- the notice that is kept

  module _ (entry : Record) (d : Decides (KeptRuling entry) records (Statement stated) now) (told : desk.Notice) (told_is : (key : NoticeKey) (notice : Notice) → entry ≡ OfNotice key notice → told ≡ unnumbered key notice) where
    of_notice : (key : NoticeKey) (notice : Notice) → entry ≡ OfNotice key notice → Decides (KeptRuling (OfNotice key notice)) records (Statement stated) now
    of_notice key notice is = subst (λ e. Decides (KeptRuling e) records (Statement stated) now) is d

    pub kept_decided : IsPreviewDecided records stated now (Ok told)
    kept_decided = let one = kept_is_notice entry d in inl (one.0, one.1, of_notice one.0 one.1 one.2, told_is one.0 one.1 one.2)

    pub kept_previewed : (image : List ℕ) → IsPreviewed records image stated now (Ok told)
    kept_previewed image = let one = kept_is_notice entry d in let accepted = of_notice one.0 one.1 one.2 image in record {
      key = one.0;
      notice = one.1;
      is_repeat = true;
      later = state_in records image;
      accepted = accepted;
      told_is = told_is one.0 one.1 one.2;
      rests = λ k within. absurd (nothing_in _ k (reads_repeated (state_in records image) (Statement stated) now _ _ accepted refl) within);
    }

  -- ---- that of a verdict

  module _ (whole : AreWhole records) (d : Decides (GoRuling (AddsVerdict stated)) records (Statement stated) now) where
    pub verdict_decided : (found : Verdict) (told : desk.Notice) → notice_key told ≡ record { tld = stated.tld; number = 0 } → notice_value told ≡ verdict_notice stated found now → IsPreviewDecided records stated now (Ok told)
    verdict_decided found told key value = inr (found, d, unnumbered_is told (next_key records.notices stated.tld) (verdict_notice stated found now) key value)

    pub verdict_previewed : (found : Verdict) (told : desk.Notice) → notice_key told ≡ record { tld = stated.tld; number = 0 } → notice_value told ≡ verdict_notice stated found now
        → (image : List ℕ) → IsVerified (Ok found) records image stated → IsPreviewed records image stated now (Ok told)
    verdict_previewed found told key value image verified = record {
      key = next_key records.notices stated.tld;
      notice = _;
      is_repeat = false;
      later = _;
      accepted = verdict_accepted records image whole stated now d;
      told_is = unnumbered_is told (next_key records.notices stated.tld) _ key (value ∙ ap (λ v. verdict_notice stated v now) verified.0);
      rests = λ k within. verified.1 k (subst (λ l. Contains l k) (reads_stated records image whole stated now d) within);
    }

    -- there is none
    pub failure_previewed : (e : not_accepted.Refused) (before later : ℕ) → CountsVerifyFailure {T = Verdict} (Err e) before later → (image : List ℕ) → IsVerified (Err e) records image stated → IsPreviewed records image stated now (Err e)
    failure_previewed (refused.Refusal refusal) before later counts image verified = absurd counts
    failure_previewed (refused.Failure NoMemory) before later counts image verified = tt
    failure_previewed (refused.Failure VolumeFailed) before later counts image verified = tt
    failure_previewed (refused.Failure StoreFailed) before later counts image verified = absurd counts
    failure_previewed (refused.Failure Closed) before later counts image verified = absurd counts
    failure_previewed (refused.Failure (Damaged damage)) before later counts image verified =
        let one = verified.1 (ap (λ k. refused.Failure (Damaged k)) counts.0) in
        (one.0, subst (λ l. Contains l one.0) (sym (reads_stated records image whole stated now d)) one.1, one.2)

-- ---- a custody

module _ {V S : Type 0} {g : volume.Ghosts V} {database : Ghosts S} (old new : Custody V S g database) (serving : is_open old ≡ true) (same : current_records (open_custody_of new) ≡ current_records (open_custody_of old)) (store_same : (open_custody_of new).store ≡ (open_custody_of old).store)
    (read : ReadsVault (open_custody_of old).vault (open_custody_of new).vault) where
  pub has_previewed : (stated : statement.Statement) (now : ℕ) (answer : Result desk.Notice not_accepted.Refused) → failure_of new ≡ closing_failure answer → IsPreviewDecided (current_records (open_custody_of old)) stated now answer
      → (g.tells → IsPreviewed (current_records (open_custody_of old)) (image_of (open_custody_of old)) stated now answer)
      → (stays_open answer ≡ false → failures_of (open_custody_of new) ≡ failures_of (open_custody_of old) + 1) → (stays_open answer ≡ true → failures_of (open_custody_of new) ≡ failures_of (open_custody_of old))
      → HasPreviewed old stated now answer new
  has_previewed stated now answer closes decided told failed not_failed = let opened : is_open new ≡ stays_open answer = ap is_none closes in record {
    closed = λ shut. let clash : true ≡ false = sym serving ∙ shut in cc;
    closes = λ _. closes;
    decided = λ _. decided;
    told = λ _. told;
    rested = λ _. reads_rested database (open_custody_of old) (open_custody_of new) (old.order serving) same store_same read.free read.size (λ tells. (read.image tells, read.any_moment tells)) (is_open new)
        (λ shut. let one = failed (sym opened ∙ shut) in omega (arith, one)) (λ stays. not_failed (sym opened ∙ stays));
    unwritten = λ _ tells. (read.image tells, read.any_moment tells);
  }
