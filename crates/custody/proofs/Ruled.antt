-- What the records decide alone, or by a change, is done.
use Rattle.std.proofs.Common.{◌≡◌, ℕ, List, [], true, refl, sym, subst, Ok, Err}
use Rattle.sqlite.specs.Store.{Ghosts}
use Rattle.vault_volume.specs.declared.volume.Volume as volume
use Rattle.custody_machine.specs.Machine.{Command, Accepted, HasRecord}
use Rattle.custody_machine.specs.declared.answers.Failure.TheVariants.{NoMemory}
use Rattle.custody_machine.specs.declared.answers.Refusal.{Refusal}
use Rattle.custody_machine.specs.StoredState.{state_in}
use Rattle.custody_machine.specs.Rulings.{RefuseRuling, KeptRuling, Decides, command_bytes}
use Rattle.custody_machine.proofs.Keeping.{replies_are_records}
use Rattle.custody_machine.proofs.Composed.{reads_refused, reads_repeated}
use Rattle.custody_rules.specs.Rulings.{record_of}
use Rattle.custody_rules.specs.declared.ruling.KeptRecord.{KeptRecord}
use Rattle.custody_rules.specs.declared.ruling.KeptRecord.TheVariants as answers
use Rattle.custody.specs.declared.answers.Record.{Record}
use Rattle.custody.specs.declared.answers.Refused.TheVariants as refused
use Rattle.custody.specs.declared.open_custody.OpenCustody.{OpenCustody}
use Rattle.custody.specs.Answers.{lists_names, machine_record, repeated_record}
use Rattle.custody.specs.ReplyRecords.{IsRecorded, HoldsBytes}
use Rattle.custody.specs.OpenCustody.{current_records, image_of, KeepsOrder, HasExecuted}
use Rattle.custody.proofs.Done.{no_memory_done, refuses_done, repeats_done}

-- a record that is there is told as the machine has it
told_as : (bytes : List ℕ) (kept : KeptRecord) → machine_record bytes (repeated_record kept) ≡ record_of kept
told_as bytes (answers.Registry registry) = refl
told_as bytes kept = refl

module _ {V S : Type 0} {g : volume.Ghosts V} (database : Ghosts S) (old : OpenCustody V S g) (order : KeepsOrder old) (command : Command) (now : ℕ) where
  pub refused_done : (refusal : Refusal) → Decides (RefuseRuling refusal) (current_records old) command now → HasExecuted database old command now (Err (refused.Refusal refusal)) old
  refused_done refusal decides =
      let is = decides.2 (image_of old) in
      refuses_done database old order command now old.records refl refusal decides.1 is (reads_refused (state_in (current_records old) (image_of old)) command now refusal is decides.0) (RefuseRuling refusal, decides, refl)

  -- a record that is there answers it
  pub repeated_done : (kept : KeptRecord) → Decides (KeptRuling (record_of kept)) (current_records old) command now → (told : Record) → told ≡ repeated_record kept → HasExecuted database old command now (Ok (record { «record» = told; is_repeat = true })) old
  repeated_done kept decides told at =
      subst (λ told. HasExecuted database old command now (Ok (record { «record» = told; is_repeat = true })) old) (sym at)
      (repeats_done database old order command now old.records refl (record { «record» = repeated_record kept; is_repeat = true }) (record { entry = record_of kept; is_repeat = true })
      (λ i. Accepted (record { entry = told_as (command_bytes command) kept i; is_repeat = true })) (decides (image_of old))
      (reads_repeated (state_in (current_records old) (image_of old)) command now _ _ (decides (image_of old)) refl) (KeptRuling (record_of kept), decides, (told_as [] kept, refl))
      (shown kept (replies_are_records (state_in (current_records old) (image_of old)) (state_in (current_records old) (image_of old)) command now _ (decides (image_of old)))) (λ _. holds kept))
    where
      shown : (kept : KeptRecord) → HasRecord (state_in (current_records old) (image_of old)) (record_of kept) → IsRecorded (current_records old) (repeated_record kept)
      shown (answers.Registry registry) has = has
      shown kept has = has

      holds : (kept : KeptRecord) → HoldsBytes (image_of old) (repeated_record kept) (command_bytes command)
      holds (answers.Registry registry) = tt
      holds kept = tt

  -- there is no memory for the names that it lists
  pub unlisted_done : (kept : KeptRecord) → Decides (KeptRuling (record_of kept)) (current_records old) command now → lists_names (record_of kept) ≡ true → HasExecuted database old command now (Err (refused.Failure NoMemory)) old
  unlisted_done kept decides lists = no_memory_done database old order command now old.records refl _ _ (decides (image_of old)) (KeptRuling (record_of kept), decides, (refl, lists))
