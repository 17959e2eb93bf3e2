-- A part that is compared with the bytes of a command.
use Rattle.std.proofs.Common.{◌≡◌, ◌≢◌, ℕ, ◌+◌, List, inl, inr, true, false, refl, sym, ◌∙◌, ap, subst, arith, Result, Ok, Err}
use Rattle.std.specs.Prelude.{IfOk}
use Rattle.std.specs.FinMap.{get}
use Rattle.sqlite.specs.Store.{Ghosts}
use Rattle.vault_volume.specs.declared.errors.ReadError.{ReadError}
use Rattle.vault_volume.specs.declared.errors.ReadError.TheVariants as read
use Rattle.extent_map.specs.declared.extent.Extent.{Extent}
use Rattle.vault_volume.specs.declared.volume.Volume as volume
use Rattle.vault_volume.specs.Extents.{SameFree, part_bytes}
use Rattle.vault_volume.specs.Vault.{volume_of, IsFree}
use Rattle.custody_records.specs.declared.parts.Part.{Part}
use Rattle.custody_records.specs.Records.{Records}
use Rattle.custody_records.specs.TypedRecords.{key_of_part, part_value}
use Rattle.custody_machine.specs.State.{Held}
use Rattle.custody_machine.specs.Machine.{Command, Receive, OfPart, Accept, Answer, Accepted, MayAnswer, MayRefuse}
use Rattle.custody_machine.specs.Moves.{DependsOnBytes}
use Rattle.custody_machine.specs.StoredState.{AreExtents, content_of, state_in}
use Rattle.custody_machine.specs.Rulings.{CompareRuling, Decides, BringsPart, command_bytes}
use Rattle.custody_machine.specs.Custody.{Compares, Same, Other, Broken}
use Rattle.custody_machine.specs.declared.answers.Failure.TheVariants as failure
use Rattle.custody_machine.specs.declared.answers.Refusal.TheVariants.{OtherBytes, VolumeFull}
use Rattle.custody_machine.specs.declared.damage.Damage.TheVariants.{Digest}
use Rattle.custody_machine.proofs.Compared.{same_rules, same_rests, other_rules, other_rests, broken_rests, broken_may_fail, no_memory_may_be, volume_failed_may_be}
use Rattle.custody.specs.declared.answers.Record.{Record}
use Rattle.custody.specs.declared.answers.Reply.{Reply}
use Rattle.custody.specs.declared.answers.Refused as not_accepted
use Rattle.custody.specs.declared.answers.Refused.TheVariants as refused
use Rattle.custody.specs.declared.open_custody.OpenCustody.{OpenCustody}
use Rattle.custody.specs.Answers.{answer_of, may_call, uses_volume, refused_of_read_error}
use Rattle.custody.specs.RulingAnswers.{AnswersCompared}
use Rattle.custody.specs.ReplyRecords.{IsRecordOfPart, IsRecorded, HoldsBytes}
use Rattle.custody.specs.OpenCustody.{current_records, image_of, failures_of, KeepsOrder, IsSafe, IsUnwritten, HasExecuted}
use Rattle.custody.proofs.OpenCustodyLemmas.{stays_still, order_same, safe_undone}
use Rattle.custody.proofs.RevisionLemmas.{in_range}
use Rattle.custody.proofs.ShownLemmas.{shown_of, holds_of, entry_of}
use Rattle.custody.proofs.Done.{reads_done}

module _ {V S : Type 0} {g : volume.Ghosts V} (old : OpenCustody V S g) (order : KeepsOrder old) (command : Command) (now : ℕ) (part : Part) (extents : List Extent) (d : Decides (CompareRuling part.name (part_value part) extents) (current_records old) command now) where
  abbrev bytes : List ℕ
  bytes = command_bytes command

  uses : uses_volume command ≡ true
  uses = by command d.0.named
    where
      by : (command : Command) → BringsPart command part.name → uses_volume command ≡ true
      by (Receive text sent) under = refl
      by command under = absurd under

  never_idle : {P : Type 0} → uses_volume command ≡ false → P
  never_idle idle = let clash : true ≡ false = sym uses ∙ idle in cc

  -- the part may be read
  pub held_in_range : AreExtents (g.size (volume_of old.vault)) part.len extents
  held_in_range = in_range (current_records old) (key_of_part part) (part_value part) extents (g.size (volume_of old.vault)) order.whole.extents d.0.recorded d.0.held order.blocks

  module _ (new : OpenCustody V S g) (records_same : current_records new ≡ current_records old) (store_same : new.store ≡ old.store) (free : SameFree (IsFree old.vault) (IsFree new.vault)) (size : g.size (volume_of new.vault) ≡ g.size (volume_of old.vault))
      (unwritten : g.tells → IsUnwritten old new) (database : Ghosts S) where
    -- what the machine may answer, and on which bytes it rests
    abbrev MayTell : Answer → Type 0
    MayTell told = MayAnswer (state_in (current_records old) (image_of old)) command now told (state_in (current_records old) (image_of old)) × DependsOnBytes (current_records old) (image_of old) command now told

    compared_safe : (answer : Result Reply not_accepted.Refused) → failures_of new ≡ failures_of old → answer ≢ Err (refused.Failure failure.Closed) → answer ≢ Err (refused.Failure failure.VolumeFailed) → answer ≢ Err (refused.Refusal VolumeFull)
        → (may_call command answer ≡ false → volume_of new.vault ≡ volume_of old.vault) → IsSafe old command answer new
    compared_safe answer failures closed failed full uncalled =
        safe_undone old new records_same free command answer closed (λ h. absurd (failed h)) (λ _. failures) (λ h. absurd (full h)) uncalled store_same (λ _. order_same old new records_same free size failures order)

    compared_done : (answer : Result Reply not_accepted.Refused) → IsSafe old command answer new → AnswersCompared part.name (part_value part) answer → IfOk answer (λ reply. IsRecorded (current_records new) reply.record) → (g.tells → IfOk answer (λ reply. HoldsBytes (image_of new) reply.record bytes)) → (g.tells → MayTell (answer_of command answer)) → HasExecuted database old command now answer new
    compared_done answer safe compared shown holds told = reads_done database old order command now new records_same store_same free unwritten answer safe (CompareRuling part.name (part_value part) extents, d, compared) shown holds told

    pub repeat_done : (told : Record) → IsRecordOfPart told part.name (part_value part) → failures_of new ≡ failures_of old → (g.tells → Compares Same (part_bytes (image_of old) extents part.len) bytes part.digest)
        → HasExecuted database old command now (Ok (record { «record» = told; is_repeat = true })) new
    repeat_done told shows failures same = compared_done answer (compared_safe answer failures (λ h. cc) (λ h. cc) (λ h. cc) never_idle)
        (shows, refl)
        (shown_of part.name (part_value part) (current_records new) told shows (ap (λ (r : Records). get r.parts (key_of_part part)) records_same ∙ d.0.recorded))
        (λ tells. holds_of part.name (part_value part) (image_of new) bytes extents told shows d.0.held (ap (λ i. part_bytes i extents part.len) (unwritten tells).0 ∙ same tells))
        (λ tells. subst (λ e. MayTell (Accepted (record { entry = e; is_repeat = true }))) (sym (entry_of part.name (part_value part) bytes told shows)) (
          same_rules (current_records old) (image_of old) command now part.name (part_value part) extents d (same tells)
              ∙ (λ i. Accept (record { entry = OfPart (key_of_part part) (record { kind = part.name.kind; received = part.received; content = content (same tells) i }); is_repeat = true }) (state_in (current_records old) (image_of old))),
          same_rests (current_records old) (image_of old) command now part.name (part_value part) extents d (same tells) (record { entry = OfPart (key_of_part part) (record { kind = part.name.kind; received = part.received; content = Held bytes }); is_repeat = true }),
        ))
      where
        answer : Result Reply not_accepted.Refused
        answer = Ok (record { «record» = told; is_repeat = true })

        content : part_bytes (image_of old) extents part.len ≡ bytes → content_of (image_of old) part.len (part_value part).extents ≡ Held bytes
        content same = ap (content_of (image_of old) part.len) d.0.held ∙ ap Held same

    pub other_done : failures_of new ≡ failures_of old → (g.tells → Compares Other (part_bytes (image_of old) extents part.len) bytes part.digest) → HasExecuted database old command now (Err (refused.Refusal OtherBytes)) new
    other_done failures other = compared_done (Err (refused.Refusal OtherBytes)) (compared_safe (Err (refused.Refusal OtherBytes)) failures (λ h. cc) (λ h. cc) (λ h. cc) never_idle) refl tt (λ _. tt)
        (λ tells. (
          (subst (λ r. MayRefuse command r OtherBytes) (sym (other_rules (current_records old) (image_of old) command now part.name (part_value part) extents d (other tells).0)) refl, refl),
          other_rests (current_records old) (image_of old) command now part.name (part_value part) extents d (other tells),
        ))

    pub broken_done : failures_of new ≡ failures_of old → (g.tells → Compares Broken (part_bytes (image_of old) extents part.len) bytes part.digest) → HasExecuted database old command now (Err (refused.Failure (failure.Damaged Digest))) new
    broken_done failures broken = compared_done (Err (refused.Failure (failure.Damaged Digest))) (compared_safe (Err (refused.Failure (failure.Damaged Digest))) failures (λ h. cc) (λ h. cc) (λ h. cc) never_idle) (inr (inr refl)) tt (λ _. tt)
        (λ tells. (
          (broken_may_fail (current_records old) (image_of old) command now part.name (part_value part) extents d (broken tells), refl),
          broken_rests (current_records old) (image_of old) command now part.name (part_value part) extents d (broken tells),
        ))

    pub unread_done : (e : ReadError) → (e ≡ read.NoMemory → volume_of new.vault ≡ volume_of old.vault) → (e ≡ read.VolumeFailed → failures_of new ≡ failures_of old + 1) → (answer : Result Reply not_accepted.Refused) → answer ≡ Err (refused_of_read_error e) → HasExecuted database old command now answer new
    unread_done e memory failed answer is = subst (λ a. HasExecuted database old command now a new) (sym is) (by e memory failed)
      where
        by : (e : ReadError) → (e ≡ read.NoMemory → volume_of new.vault ≡ volume_of old.vault) → (e ≡ read.VolumeFailed → failures_of new ≡ failures_of old + 1) → HasExecuted database old command now (Err (refused_of_read_error e)) new
        by read.NoMemory memory failed = compared_done (Err (refused.Failure failure.NoMemory)) (compared_safe (Err (refused.Failure failure.NoMemory)) (ap g.failures (memory refl)) (λ h. cc) (λ h. cc) (λ h. cc) (λ _. memory refl)) (inl refl) tt (λ _. tt)
            (λ _. ((no_memory_may_be (current_records old) (image_of old) command now part.name (part_value part) extents d, refl), tt))
        by read.VolumeFailed memory failed = let one = failed refl in
            compared_done (Err (refused.Failure failure.VolumeFailed))
            (safe_undone old new records_same free command (Err (refused.Failure failure.VolumeFailed)) (λ h. cc) (λ h. omega (arith, one)) (λ other. absurd (other refl)) (λ h. cc) never_idle store_same (λ h. cc))
            (inr (inl refl)) tt (λ _. tt) (λ _. ((volume_failed_may_be (current_records old) (image_of old) command now part.name (part_value part) extents d, refl), tt))

  -- there is no memory for the reply
  pub unshown_done : (database : Ghosts S) → HasExecuted database old command now (Err (refused.Failure failure.NoMemory)) old
  unshown_done database = unread_done old refl refl (λ b. (λ f. f, λ f. f)) refl (λ _. (refl, stays_still g.moment g.left_at (volume_of old.vault))) database read.NoMemory (λ _. refl) (λ e. cc) (Err (refused.Failure failure.NoMemory)) refl
