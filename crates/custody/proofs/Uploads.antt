-- A part that is taken in as its bytes come, step by step.
use Rattle.std.proofs.lemmas.Slice.Eq.{bytes_eq-Decides}
use Rattle.std.specs.Str.{bytes_eq}
use Rattle.std.proofs.Common.{Option, Some, min, not, ◌*◌, ◌≡◌, ◌≢◌, ◌⊎◌, ℕ, ◌+◌, ◌-◌, ◌<◌, ◌≤◌, List, [], ◌++◌, length, take, drop, replicate, Bool, true, false, refl, sym, ◌∙◌, ap, subst, arith, Result, Ok, Err, append_assoc, length-append}
use Rattle.std.specs.Prelude.{IfSome, is_err}
use Rattle.std.proofs.lemmas.Bool.{not-false}
use Rattle.std.proofs.lemmas.List.{drop-take, length-replicate, length-take-le, take_at, take-take}
use Rattle.std.proofs.Math.Seq.{drop-append_seam, take-add}
use Rattle.sqlite.specs.Store.{Ghosts}
use Rattle.extent_map.specs.declared.extent.Extent.{Extent}
use Rattle.vault_volume.specs.declared.vault.Vault.{Vault}
use Rattle.vault_volume.specs.declared.volume.Volume as volume
use Rattle.vault_volume.specs.declared.errors.StageError.{StageError}
use Rattle.vault_volume.specs.declared.errors.StageError.TheVariants as stage
use Rattle.vault_volume.specs.declared.errors.ReadError.TheVariants as read
use Rattle.vault_volume.specs.Disk.{ChangedIn, CountsFailure, LeavesOneImage, LeavesOnly}
use Rattle.sha2.specs.Sha256.{sha256}
use Rattle.vault_volume.specs.Extents.{AreChosen, GivesBack, IsInAny, SameFree, Takes, block_count, bytes_of, part_bytes}
use Rattle.vault_volume.specs.Image.{DiffersOnlyIn}
use Rattle.vault_volume.specs.Opened.{extents_of, HasPushed, IsOpenIn}
use Rattle.extent_map.specs.Staged.{StagedPart}
use Rattle.vault_volume.specs.Vault.{volume_of, IsFree}
use Rattle.vault_volume.specs.declared.opened.Opened.{Opened}
use Rattle.vault_volume.proofs.ExtentLemmas.{length-bytes_of}
use Rattle.vault_volume.proofs.FreeLemmas.{takes_gives, takes_same}
use Rattle.vault_volume.proofs.ImageLemmas.{in_both, in_more, same_in}
use Rattle.vault_volume.proofs.Moments.{at_end, chained, leaves_weaker, nothing_yet}
use Rattle.vault_volume.proofs.Writes.{changed_again, stays_in_free, unchanged, written_in_free}
use Rattle.custody_records.specs.Records.{Records}
use Rattle.custody_records.specs.declared.parts.Part.{Part}
use Rattle.custody_records.specs.TypedRecords.{part_value}
use Rattle.deposit_name.specs.Name.{Name}
use Rattle.deposit_name.specs.declared.names.DepositName.{DepositName}
use Rattle.custody_machine.specs.Machine.{Receive}
use Rattle.custody_machine.specs.Rulings.{AddsPart, CompareRuling, IsNew, GoRuling, Decides, DecidesPart}
use Rattle.custody_machine.specs.StoredState.{AreExtents}
use Rattle.custody_machine.proofs.Composed.{has_size}
use Rattle.custody_rules.specs.Rulings.{change_of}
use Rattle.custody_rules.specs.declared.ruling.Change.{Change}
use Rattle.custody_rules.specs.declared.ruling.Change.TheVariants as of
use Rattle.custody_machine.specs.declared.answers.Failure.TheVariants as failure
use Rattle.custody_machine.specs.declared.answers.Refusal.TheVariants.{OtherBytes}
use Rattle.custody_machine.specs.declared.damage.Damage.TheVariants.{Digest}
use Rattle.custody.specs.declared.answers.Reply.{Reply}
use Rattle.custody.specs.declared.answers.Refused as not_accepted
use Rattle.custody.specs.declared.answers.Refused.TheVariants as refused
use Rattle.custody.specs.declared.upload.Comparing.{Comparing}
use Rattle.custody.specs.declared.upload.Writing.{Writing}
use Rattle.custody.specs.declared.open_custody.OpenCustody.{OpenCustody}
use Rattle.custody.specs.Answers.{closing_failure, may_change, stays_open, refused_of_stage_error}
use Rattle.custody.specs.Upload.{UploadStart, Continues, HasStaged, IsComparing, IsAnswered, IsWriting, IsWritten, compared_part}
use Rattle.custody.specs.OpenCustody.{current_records, image_of, failures_of, MayLeaveImage, KeepsOrder, IsUnwritten, HasExecuted}
use Rattle.custody.specs.Reading.{ReadsVault}
use Rattle.custody.specs.OtherCalls.{RecordsNothing}
use Rattle.custody.proofs.Ended.{freed_rested, undone_closes, undone_rested}
use Rattle.custody.specs.declared.receiving.ReceiveError.{ReceiveError}
use Rattle.custody.specs.declared.receiving.ReceiveError.TheVariants as error
use Rattle.custody.specs.Receiving.{ReadsBody, GivesPiece}
use Rattle.custody.proofs.Coming.{HaveCome, ended_short}
use Rattle.custody.proofs.RevisionLemmas.{not_read, read_again}
use Rattle.custody.proofs.Repeats.{held_in_range, other_done, broken_done, unread_done}
use Rattle.custody.proofs.Unstaged.{unstaged_done}

-- ---- which bodies may still come

-- what is known of all that begin with these bytes is known of those that begin with more
pub continues_more : (sent piece : List ℕ) (len : ℕ) (body : List ℕ) → Continues (sent ++ piece) len body → Continues sent len body
continues_more sent piece len body more = (more.0, piece ++ more.1, more.2 ∙ append_assoc sent piece more.1)

-- one piece more of bytes of which some have come
pub piece_next : (came left piece rest all : List ℕ) → came ++ left ≡ all → left ≡ piece ++ rest → (came ++ piece) ++ rest ≡ all
piece_next came left piece rest all whole parts = append_assoc came piece rest ∙ ap (λ (l : List ℕ). came ++ l) (sym parts) ∙ whole

-- it is among them
pub piece_within : (came piece rest sent bytes : List ℕ) (most : ℕ) → (came ++ piece) ++ rest ≡ sent ++ bytes → length sent + length bytes ≤ most → length came + length piece ≤ most
piece_within came piece rest sent bytes most whole within =
    let long = ap length whole in
    omega (arith, long, within, length-append (came ++ piece) rest, length-append came piece, length-append sent bytes)

-- and has room in the buffer
pub piece_fits : (piece left : List ℕ) (size : ℕ) → size ≡ 32_768 → length piece ≡ min size (length left) → length piece ≤ 32_768
piece_fits piece left size is long = let fits = rw is at long in omega (arith, fits)

pub known_more : {V S : Type 0} {g : volume.Ghosts V} (database : Ghosts S) (s : UploadStart (OpenCustody V S g)) (new : OpenCustody V S g) (answer : Result Reply not_accepted.Refused) (sent piece : List ℕ) → IsAnswered database s new answer sent → IsAnswered database s new answer (sent ++ piece)
known_more database s new answer sent piece known = record { order = known.order; unchanged = known.unchanged; done = λ body more. known.done body (continues_more sent piece s.len body more) }

-- ---- a part that is written

module _ {V : Type 0} {g : volume.Ghosts V} (old mid new : Vault V g) (len : ℕ) (opened : Opened) (sent : List ℕ) (w : IsWritten old mid len opened sent) where
  abbrev es : List Extent
  es = extents_of opened

  abbrev left_old : List ℕ → Type 0
  left_old = g.left_at (volume_of old) (g.moment (volume_of old))

  -- its blocks are free again
  pub freed : (other : Vault V g) → SameFree (IsFree mid) (IsFree other) → GivesBack (IsFree other) es (IsFree new) → SameFree (IsFree old) (IsFree new)
  freed other same gives = takes_gives (IsFree old) (IsFree other) (IsFree new) es w.chosen.each_free (takes_same (IsFree old) (IsFree mid) (IsFree other) es w.takes same) gives

  module _ (changed : g.tells → DiffersOnlyIn (IsInAny es) (g.image (volume_of mid)) (g.image (volume_of new))) where
    image_then : g.tells → DiffersOnlyIn (IsInAny es) (g.image (volume_of old)) (g.image (volume_of new))
    image_then tells = in_both (IsInAny es) (g.image (volume_of old)) (g.image (volume_of mid)) (g.image (volume_of new)) (w.image tells) (changed tells)

    -- free blocks alone were written
    pub moved : g.tells → DiffersOnlyIn (IsFree old) (g.image (volume_of old)) (g.image (volume_of new))
    moved tells = in_more (IsInAny es) (IsFree old) (g.image (volume_of old)) (g.image (volume_of new)) w.chosen.each_free (image_then tells)

    module _ (leaves : g.tells → LeavesOnly g.moment g.left_at (volume_of mid) (volume_of new) (ChangedIn (IsInAny es) (g.image (volume_of mid)) (g.left_at (volume_of mid) (g.moment (volume_of mid))))) where
      leaves_then : g.tells → LeavesOnly g.moment g.left_at (volume_of old) (volume_of new) (ChangedIn (IsInAny es) (g.image (volume_of old)) left_old)
      leaves_then tells = chained g.moment g.left_at (volume_of old) (volume_of mid) (volume_of new) (ChangedIn (IsInAny es) (g.image (volume_of old)) left_old) (ChangedIn (IsInAny es) (g.image (volume_of mid)) (g.left_at (volume_of mid) (g.moment (volume_of mid))))
          (w.any_moment tells) (leaves tells)
          (changed_again (IsInAny es) (g.image (volume_of old)) (g.image (volume_of mid)) left_old (g.left_at (volume_of mid) (g.moment (volume_of mid))) (w.image tells)
          (at_end g.moment g.left_at (volume_of old) (volume_of mid) (ChangedIn (IsInAny es) (g.image (volume_of old)) left_old) (w.any_moment tells)))

      -- and a stop leaves the others as they were
      pub leaves_free : g.tells → ((c : List ℕ) → left_old c → DiffersOnlyIn (IsFree old) (g.image (volume_of old)) c) → LeavesOnly g.moment g.left_at (volume_of old) (volume_of new) (DiffersOnlyIn (IsFree old) (g.image (volume_of old)))
      leaves_free tells within = leaves_weaker g.moment g.left_at (volume_of old) (volume_of new) (ChangedIn (IsInAny es) (g.image (volume_of old)) left_old) (DiffersOnlyIn (IsFree old) (g.image (volume_of old)))
          (stays_in_free (IsFree old) (IsInAny es) (g.image (volume_of old)) left_old w.chosen.each_free within) (leaves_then tells)

      -- the next bytes are written
      pub pushed : (then : Opened) (piece : List ℕ) → extents_of then ≡ extents_of opened → then.len ≡ opened.len → IsOpenIn new then → SameFree (IsFree mid) (IsFree new) → HasPushed then (sent ++ piece) → g.size (volume_of new) ≡ g.size (volume_of mid) → g.failures (volume_of new) ≡ g.failures (volume_of mid)
          → (g.tells → part_bytes (g.image (volume_of new)) es (opened.done + length piece) ≡ part_bytes (g.image (volume_of mid)) es opened.done ++ piece) → IsWritten old new len then (sent ++ piece)
      pushed then piece same sized there free taken size failures bytes = record {
        sized = sized ∙ w.sized;
        taken = taken;
        open_in = there;
        chosen = subst (λ (l : List Extent). AreChosen (IsFree old) (g.size (volume_of old)) (block_count len) l) (sym same) w.chosen;
        takes = subst (λ (l : List Extent). Takes (IsFree old) l (IsFree new)) (sym same) (takes_same (IsFree old) (IsFree mid) (IsFree new) es w.takes free);
        size = size ∙ w.size;
        failures = failures ∙ w.failures;
        bytes = λ tells.
            let long : length (sent ++ piece) ≡ opened.done + length piece = omega (arith, length-append sent piece, w.taken.1) in
            subst (λ (l : List Extent). part_bytes (g.image (volume_of new)) l (length (sent ++ piece)) ≡ sent ++ piece) (sym same)
            (ap (part_bytes (g.image (volume_of new)) es) long ∙ bytes tells ∙ ap (λ (n : ℕ). part_bytes (g.image (volume_of mid)) es n ++ piece) (sym w.taken.1) ∙ ap (λ (l : List ℕ). l ++ piece) (w.bytes tells));
        image = λ tells. subst (λ (l : List Extent). DiffersOnlyIn (IsInAny l) (g.image (volume_of old)) (g.image (volume_of new))) (sym same) (image_then tells);
        any_moment = λ tells. subst (λ (l : List Extent). LeavesOnly g.moment g.left_at (volume_of old) (volume_of new) (ChangedIn (IsInAny l) (g.image (volume_of old)) left_old)) (sym same) (leaves_then tells);
      }

module _ {V S : Type 0} {g : volume.Ghosts V} (database : Ghosts S) (s : UploadStart (OpenCustody V S g)) (before new : OpenCustody V S g) where
  -- the volume has failed: the part was not staged
  pub written_fails : (w : Writing) (sent later : List ℕ) → IsWriting database s before w sent → current_records new ≡ current_records before → new.store ≡ before.store → SameFree (IsFree s.start.vault) (IsFree new.vault) → failures_of new ≡ failures_of before + 1
      → (g.tells → DiffersOnlyIn (IsInAny (extents_of w.opened)) (image_of before) (image_of new))
      → (g.tells → LeavesOnly g.moment g.left_at (volume_of before.vault) (volume_of new.vault) (ChangedIn (IsInAny (extents_of w.opened)) (image_of before) (MayLeaveImage before)))
      → IsAnswered database s new (Err (refused.Failure failure.VolumeFailed)) later
  written_fails w sent later is records store free failed changed leaves = record {
    order = is.order;
    unchanged = refl;
    done = λ body comes.
        unstaged_done s.start new (records ∙ is.records) (store ∙ is.store) s.text body s.now w.name is.order (is.decides body comes.0) stage.VolumeFailed free (λ e. cc) (λ e. cc) database
        (λ _. failed ∙ ap (λ (n : ℕ). n + 1) is.written.failures) (λ e. cc) (moved s.start.vault before.vault new.vault s.len w.opened sent is.written changed)
        (λ tells volume. leaves_free s.start.vault before.vault new.vault s.len w.opened sent is.written changed leaves tells volume.elsewhere) (Err (refused.Failure failure.VolumeFailed)) refl;
  }

  -- its bytes are settled
  pub written_staged : (w : Writing) (body : List ℕ) (staged : StagedPart) → IsWriting database s before w body → length body ≡ s.len → (staged.len ≡ length body) × (staged.digest ≡ sha256 body) → staged.extents ≡ extents_of w.opened
      → current_records new ≡ current_records before → new.store ≡ before.store → SameFree (IsFree before.vault) (IsFree new.vault) → g.size (volume_of new.vault) ≡ g.size (volume_of before.vault) → failures_of new ≡ failures_of before
      → (g.tells → image_of new ≡ image_of before) → (g.tells → LeavesOneImage (image_of new) (MayLeaveImage new))
      → (g.tells → LeavesOnly g.moment g.left_at (volume_of before.vault) (volume_of new.vault) (λ c. (c ≡ image_of before) ⊎ MayLeaveImage before c)) → HasStaged s.start new body staged
  written_staged w body staged is full part extents records store free size failures image settled leaves = record {
    records = records ∙ is.records;
    store = store ∙ is.store;
    size = size ∙ is.written.size;
    failures = failures ∙ is.written.failures;
    placed = record {
      len = part.0;
      digest = part.1;
      chosen = subst (λ (n : ℕ). AreChosen (IsFree s.start.vault) (g.size (volume_of s.start.vault)) (block_count n) staged.extents) (sym full)
          (subst (λ (l : List Extent). AreChosen (IsFree s.start.vault) (g.size (volume_of s.start.vault)) (block_count s.len) l) (sym extents) is.written.chosen);
      taken = subst (λ (l : List Extent). Takes (IsFree s.start.vault) l (IsFree new.vault)) (sym extents) (takes_same (IsFree s.start.vault) (IsFree before.vault) (IsFree new.vault) (extents_of w.opened) is.written.takes free);
    };
    settled = λ tells. record {
      holds = (λ i. part_bytes (image tells i) (extents i) (part.0 i)) ∙ is.written.bytes tells;
      elsewhere = subst (λ (j : List ℕ). DiffersOnlyIn (IsFree s.start.vault) (image_of s.start) j) (sym (image tells)) (in_more (IsInAny (extents_of w.opened)) (IsFree s.start.vault) (image_of s.start) (image_of before) is.written.chosen.each_free (is.written.image tells));
      settled = λ c left. (settled tells c).0 left;
    };
    any_moment = λ tells volume. written_in_free g.moment g.left_at g.image (volume_of s.start.vault) (volume_of before.vault) (volume_of new.vault) (IsFree s.start.vault) (extents_of w.opened) is.written.chosen.each_free
        (is.written.any_moment tells) (is.written.image tells) (leaves tells) volume.elsewhere;
  }

  -- ---- a part that is compared

  module _ (c : Comparing) (sent later : List ℕ) (is : IsComparing database s before c sent) (records : current_records new ≡ current_records before) (store : new.store ≡ before.store) (read_on : ReadsVault before.vault new.vault) where
    all_read : ReadsVault s.start.vault new.vault
    all_read = read_again s.start.vault before.vault new.vault is.read read_on

    unwritten : g.tells → IsUnwritten s.start new
    unwritten tells = (all_read.image tells, all_read.any_moment tells)

    answered : (answer : Result Reply not_accepted.Refused) → may_change answer ≡ false → ((body : List ℕ) → Continues later s.len body → HasExecuted database s.start (Receive s.text body) s.now answer new) → IsAnswered database s new answer later
    answered answer unchanged done = record { order = is.order; unchanged = unchanged; done = done }

    -- the volume has failed
    pub compared_fails : failures_of new ≡ failures_of before + 1 → IsAnswered database s new (Err (refused.Failure failure.VolumeFailed)) later
    compared_fails failed = answered (Err (refused.Failure failure.VolumeFailed)) refl (λ body comes.
        unread_done s.start is.order (Receive s.text body) s.now (compared_part c) c.extents.items (is.decides body comes.0) new (records ∙ is.records) (store ∙ is.store) all_read.free all_read.size unwritten database
        read.VolumeFailed (λ e. cc) (λ _. failed ∙ ap (λ (n : ℕ). n + 1) is.failures) (Err (refused.Failure failure.VolumeFailed)) refl)

    module _ (failures : failures_of new ≡ failures_of before) (differs : g.tells → (body : List ℕ) → Continues later s.len body → part_bytes (image_of s.start) c.extents.items c.len ≢ body) where
      -- the bytes are others, and the part has its digest
      pub told_other : (g.tells → sha256 (part_bytes (image_of s.start) c.extents.items c.len) ≡ c.digest) → IsAnswered database s new (Err (refused.Refusal OtherBytes)) later
      told_other digest = answered (Err (refused.Refusal OtherBytes)) refl (λ body comes.
          other_done s.start is.order (Receive s.text body) s.now (compared_part c) c.extents.items (is.decides body comes.0) new (records ∙ is.records) (store ∙ is.store) all_read.free all_read.size unwritten database
          (failures ∙ is.failures) (λ tells. (differs tells body comes, digest tells)))

      -- or has not
      pub told_broken : (g.tells → sha256 (part_bytes (image_of s.start) c.extents.items c.len) ≢ c.digest) → IsAnswered database s new (Err (refused.Failure (failure.Damaged Digest))) later
      told_broken digest = answered (Err (refused.Failure (failure.Damaged Digest))) refl (λ body comes.
          broken_done s.start is.order (Receive s.text body) s.now (compared_part c) c.extents.items (is.decides body comes.0) new (records ∙ is.records) (store ∙ is.store) all_read.free all_read.size unwritten database
          (failures ∙ is.failures) (λ tells. (differs tells body comes, digest tells)))

    -- the next bytes are the same
    pub compared_more : (piece : List ℕ) → failures_of new ≡ failures_of before → (g.tells → piece ≡ take (length piece) (drop c.done (bytes_of (image_of before) c.extents.items)))
        → IsComparing database s new (record { name = c.name; received = c.received; len = c.len; digest = c.digest; extents = c.extents; done = c.done + length piece }) (sent ++ piece)
    compared_more piece failures same = record {
      order = is.order;
      decides = is.decides;
      records = records ∙ is.records;
      store = store ∙ is.store;
      read = all_read;
      failures = failures ∙ is.failures;
      done = let many = is.done in omega (arith, many, length-append sent piece);
      same = λ tells.
          let bytes = bytes_of (image_of s.start) c.extents.items in
          let long : length (sent ++ piece) ≡ length sent + length piece = length-append sent piece in
          ap (λ (n : ℕ). take n bytes) long
          ∙ take-add (length sent) (length piece) bytes
          ∙ ap (λ (l : List ℕ). l ++ take (length piece) (drop (length sent) bytes)) (is.same tells)
          ∙ ap (λ (l : List ℕ). sent ++ l) (sym (same tells ∙ (λ i. take (length piece) (drop (is.done i) (bytes_of (is.read.image tells i) c.extents.items)))));
    }

  -- bytes that differ within a piece differ as a whole
  pub differs_whole : (c : Comparing) (sent piece kept : List ℕ) (is : IsComparing database s before c sent) → g.tells → kept ≡ take (length piece) (drop c.done (bytes_of (image_of before) c.extents.items)) → kept ≢ piece → c.len ≡ s.len
      → length sent + length piece ≤ s.len → (body : List ℕ) → Continues (sent ++ piece) s.len body → part_bytes (image_of s.start) c.extents.items c.len ≢ body
  differs_whole c sent piece kept is tells got other same_len within body comes alike =
      other (got ∙ (λ i. take (length piece) (drop (is.done i) (bytes_of (is.read.image tells i) c.extents.items))) ∙ sym after)
    where
      bytes : List ℕ
      bytes = bytes_of (image_of s.start) c.extents.items

      -- as many of the part's bytes as came are those that came
      front : take (length sent + length piece) bytes ≡ sent ++ piece
      front =
          sym (take-take (length sent + length piece) c.len bytes (omega (arith, same_len, within)))
          ∙ ap (take (length sent + length piece)) (alike ∙ comes.2)
          ∙ take_at (sent ++ piece) comes.1 (length sent + length piece) (length-append sent piece)

      after : piece ≡ take (length piece) (drop (length sent) bytes)
      after = sym (drop-append_seam sent piece) ∙ ap (drop (length sent)) (sym front) ∙ drop-take (length sent) (length piece) bytes

  -- ---- a part that is given up

  -- a part that was being written: its blocks are free again
  pub given_up : (w : Writing) (sent : List ℕ) → IsWriting database s before w sent → current_records new ≡ current_records before → new.store ≡ before.store → volume_of new.vault ≡ volume_of before.vault → GivesBack (IsFree before.vault) (extents_of w.opened) (IsFree new.vault)
      → RecordsNothing database s.start true new
  given_up w sent is records store volume gives =
      freed_rested database s.start new is.order (records ∙ is.records) (store ∙ is.store) (moved s.start.vault before.vault new.vault s.len w.opened sent is.written changed)
      (λ tells kept. leaves_free s.start.vault before.vault new.vault s.len w.opened sent is.written changed leaves tells kept.elsewhere)
      (freed s.start.vault before.vault new.vault s.len w.opened sent is.written before.vault (λ b. (λ f. f, λ f. f)) gives) (ap g.size volume ∙ is.written.size) (ap g.failures volume ∙ is.written.failures)
    where
      changed : g.tells → DiffersOnlyIn (IsInAny (extents_of w.opened)) (image_of before) (image_of new)
      changed tells = subst (λ v. DiffersOnlyIn (IsInAny (extents_of w.opened)) (image_of before) (g.image v)) (sym volume) (same_in (IsInAny (extents_of w.opened)) (image_of before))

      leaves : g.tells → LeavesOnly g.moment g.left_at (volume_of before.vault) (volume_of new.vault) (ChangedIn (IsInAny (extents_of w.opened)) (image_of before) (MayLeaveImage before))
      leaves tells = subst (λ v. LeavesOnly g.moment g.left_at (volume_of before.vault) v (ChangedIn (IsInAny (extents_of w.opened)) (image_of before) (MayLeaveImage before))) (sym volume)
          (nothing_yet g.moment g.left_at (volume_of before.vault) _ (unchanged (IsInAny (extents_of w.opened)) (image_of before) (MayLeaveImage before)))

  -- its sync has failed
  pub synced_fails : (w : Writing) (sent : List ℕ) → IsWriting database s before w sent → current_records new ≡ current_records before → new.store ≡ before.store → GivesBack (IsFree before.vault) (extents_of w.opened) (IsFree new.vault) → failures_of new ≡ failures_of before + 1
      → (g.tells → image_of new ≡ image_of before) → (g.tells → LeavesOnly g.moment g.left_at (volume_of before.vault) (volume_of new.vault) (λ c. (c ≡ image_of before) ⊎ MayLeaveImage before c))
      → IsAnswered database s new (Err (refused.Failure failure.VolumeFailed)) sent
  synced_fails w sent is records store gives failed image leaves = written_fails w sent sent is records store
      (freed s.start.vault before.vault new.vault s.len w.opened sent is.written before.vault (λ b. (λ f. f, λ f. f)) gives) failed
      (λ tells. subst (λ (j : List ℕ). DiffersOnlyIn (IsInAny (extents_of w.opened)) (image_of before) j) (sym (image tells)) (same_in (IsInAny (extents_of w.opened)) (image_of before)))
      (λ tells. leaves_weaker g.moment g.left_at (volume_of before.vault) (volume_of new.vault) (λ c. (c ≡ image_of before) ⊎ MayLeaveImage before c) (ChangedIn (IsInAny (extents_of w.opened)) (image_of before) (MayLeaveImage before))
      (λ c h. record { from = c; was = h; differs = same_in (IsInAny (extents_of w.opened)) c }) (leaves tells))

  -- a part that was compared
  pub stops_comparing : (c : Comparing) (sent : List ℕ) → IsComparing database s new c sent → RecordsNothing database s.start true new
  stops_comparing c sent is = freed_rested database s.start new is.order is.records is.store
      (λ tells. subst (DiffersOnlyIn (IsFree s.start.vault) (image_of s.start)) (sym (is.read.image tells)) (same_in (IsFree s.start.vault) (image_of s.start)))
      (λ tells kept. leaves_weaker g.moment g.left_at (volume_of s.start.vault) (volume_of new.vault) (MayLeaveImage s.start) (DiffersOnlyIn (IsFree s.start.vault) (image_of s.start)) kept.elsewhere (is.read.any_moment tells))
      is.read.free is.read.size is.failures

  -- a part whose answer was known
  pub known_rested : (answer : Result Reply not_accepted.Refused) (sent : List ℕ) → IsAnswered database s new answer sent → length sent ≤ s.len → RecordsNothing database s.start (stays_open answer) new × IfSome (closing_failure answer) (λ why. why ≡ failure.VolumeFailed)
  known_rested answer sent is within =
      let command = Receive s.text (sent ++ replicate (s.len - length sent) 0) in
      let done = is.done (sent ++ replicate (s.len - length sent) 0)
      (omega (arith, within, length-append sent (replicate (s.len - length sent) 0), length-replicate {A = ℕ} (s.len - length sent) 0), replicate (s.len - length sent) 0, refl) in
      (undone_rested database s.start new command s.now answer is.order is.unchanged done, undone_closes database s.start new command s.now answer is.unchanged done)

-- ---- what is decided of any bytes of a length

-- bytes of this length
pub some_bytes : (len : ℕ) → (bytes : List ℕ) × (length bytes ≡ len)
some_bytes len = (replicate len 0, length-replicate {A = ℕ} len 0)

-- a part that is to be kept has a byte at least, and no more than a part may have
pub part_sized : {V S : Type 0} {g : volume.Ghosts V} (old : OpenCustody V S g) (name : Name) (text : List ℕ) (len now : ℕ) → KeepsOrder old → DecidesPart (GoRuling (AddsPart name)) (current_records old) text len now → (1 ≤ len) × (len ≤ 1_048_576)
part_sized old name text len now order decides = (let least = sized.0 in omega (arith, least, long), let most = sized.1 in omega (arith, most, long))
  where
    long : length (some_bytes len).0 ≡ len
    long = (some_bytes len).1

    ruled : Decides (GoRuling (AddsPart name)) (current_records old) (Receive text (some_bytes len).0) now
    ruled = decides (some_bytes len).0 long

    sized : (0 < length (some_bytes len).0) × (length (some_bytes len).0 ≤ 1_048_576)
    sized = has_size (current_records old) [] order.whole text (some_bytes len).0 now name ruled.0.0 ruled.0.1 (ruled.1 [])

-- a part makes no other change than that it is kept
pub only_a_part : (change : Change) → ((name : DepositName) → change ≡ of.Part name → ⊥) → (records : Records) (text : List ℕ) (len now : ℕ) → DecidesPart (GoRuling (change_of change)) records text len now → ⊥
only_a_part change none records text len now decides = by change refl (decides (some_bytes len).0 (some_bytes len).1).0
  where
    by : (c : Change) → change ≡ c → IsNew (change_of c) records (Receive text (some_bytes len).0) → ⊥
    by (of.Part name) is new = none name is
    by (of.Registry registry) is new = let clash = new.0 in cc
    by (of.Lift reference) is new = let clash = new.0 in cc
    by _ is new = cc

-- why a part is not staged changes nothing
pub unstaged_unchanged : (e : StageError) → may_change (Err (refused_of_stage_error e)) ≡ false
unstaged_unchanged stage.Full = refl
unstaged_unchanged _ = refl

-- a failure is counted where it is told
pub one_failed : {A E : Type 0} (r : Result A E) (b : Bool) (before now : ℕ) → b ≡ is_err r → b ≡ true → CountsFailure r before now → now ≡ before + 1
one_failed (Ok x) b before now is true_is counts = cc
one_failed (Err e) b before now is true_is counts = counts

pub none_failed : {A E : Type 0} (r : Result A E) (b : Bool) (before now : ℕ) → b ≡ is_err r → b ≡ false → CountsFailure r before now → now ≡ before
none_failed (Ok x) b before now is false_is counts = counts
none_failed (Err e) b before now is false_is counts = cc

-- ---- a part that begins to be compared

pub begins_comparing : {V S : Type 0} {g : volume.Ghosts V} (database : Ghosts S) (old : OpenCustody V S g) (text : List ℕ) (len now : ℕ) (part : Part) (extents : List Extent) (c : Comparing) → KeepsOrder old → DecidesPart (CompareRuling part.name (part_value part) extents) (current_records old) text len now
    → ((part_value part).extents ≡ Some extents → part_value (compared_part c) ≡ part_value part) → c.name ≡ part.name → c.extents.items ≡ extents → c.done ≡ 0
    → IsComparing database (record { start = old; text = text; len = len; now = now }) old c []
begins_comparing database old text len now part extents c order decides kept named lies none = record {
  order = order;
  decides = λ body long.
      let first = decides body long in
      subst (λ n. Decides (CompareRuling n (part_value (compared_part c)) c.extents.items) (current_records old) (Receive text body) now) (sym named)
      (subst (λ p. Decides (CompareRuling part.name p c.extents.items) (current_records old) (Receive text body) now) (sym (kept first.0.held))
      (subst (λ es. Decides (CompareRuling part.name (part_value part) es) (current_records old) (Receive text body) now) (sym lies) first));
  records = refl;
  store = refl;
  read = not_read old.vault;
  failures = refl;
  done = none;
  same = λ tells. refl;
}

-- the extents of a part that is compared are in the volume, and hold it
pub comparing_held : {V S : Type 0} {g : volume.Ghosts V} (database : Ghosts S) (s : UploadStart (OpenCustody V S g)) (new : OpenCustody V S g) (c : Comparing) (sent : List ℕ) → IsComparing database s new c sent → AreExtents (g.size (volume_of new.vault)) c.len c.extents.items
comparing_held database s new c sent is =
    let bytes = some_bytes s.len in
    subst (λ n. AreExtents n c.len c.extents.items) (sym is.read.size) (held_in_range s.start is.order (Receive s.text bytes.0) s.now (compared_part c) c.extents.items (is.decides bytes.0 bytes.1))

-- it is read on, and known as before
pub compared_still : {V S : Type 0} {g : volume.Ghosts V} (database : Ghosts S) (s : UploadStart (OpenCustody V S g)) (before new : OpenCustody V S g) (c : Comparing) (sent : List ℕ) → IsComparing database s before c sent → current_records new ≡ current_records before → new.store ≡ before.store → ReadsVault before.vault new.vault → failures_of new ≡ failures_of before
    → IsComparing database s new c sent
compared_still database s before new c sent is records store read failures = record {
  order = is.order;
  decides = is.decides;
  records = records ∙ is.records;
  store = store ∙ is.store;
  read = read_again s.start.vault before.vault new.vault is.read read;
  failures = failures ∙ is.failures;
  done = is.done;
  same = is.same;
}

-- a part has its length
pub long_part : (image : List ℕ) (size : ℕ) (es : List Extent) (len : ℕ) → length image ≡ 4096 * size → AreExtents size len es → length (part_bytes image es len) ≡ len
long_part image size es len long are =
    let whole = length-bytes_of image size es long (λ k d lt. (are.each k d lt).2) in
    length-take-le len (bytes_of image es) (omega (arith, whole, are.counts))

-- the answer where the reader has ended
pub came_ended : (old now next : Option (List ℕ)) (len left : ℕ) (sent : List ℕ) (why : ReceiveError) → HaveCome old now len left sent → 1 ≤ left → GivesPiece now next left (Err why) → ReadsBody old len sent (Err why)
came_ended old now next len left sent error.Short come some end = ended_short old now len left sent come some end
came_ended old now next len left sent error.ReadFailed come some end = tt
came_ended old now next len left sent (error.Refused refused) come some end = absurd end

-- what a test of bytes tells
pub ne_differs : (b : Bool) (xs ys : List ℕ) → b ≡ not (bytes_eq xs ys) → b ≡ true → xs ≢ ys
ne_differs b xs ys is true_is same = let alike = (bytes_eq-Decides xs ys).1 same in cc

pub ne_same : (b : Bool) (xs ys : List ℕ) → b ≡ not (bytes_eq xs ys) → b ≡ false → xs ≡ ys
ne_same b xs ys is false_is = (bytes_eq-Decides xs ys).0 (not-false (bytes_eq xs ys) (sym is ∙ false_is))
