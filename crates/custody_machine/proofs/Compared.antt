-- A part that is kept, compared with the bytes of a command; and what a call leaves at its moments.
use Rattle.std.specs.Prelude.{bytes_eq}
use Rattle.std.proofs.Common.{◌≡◌, ◌≢◌, ℕ, List, [], ◌∷◌, None, Bool, true, false, refl, sym, ◌∙◌, ap, subst, arith}
use Rattle.std.proofs.lemmas.Option.{same_Some}
use Rattle.deposit_name.specs.Name.{Name}
use Rattle.sha2.specs.Sha256.{sha256}
use Rattle.extent_map.specs.declared.extent.Extent.{Extent}
use Rattle.vault_volume.specs.Disk.{LeavesOnly}
use Rattle.vault_volume.specs.Extents.{part_bytes}
use Rattle.custody_records.specs.Keys.{PartKey}
use Rattle.custody_records.specs.Records.{PartRecord, Records, key_of}
use Rattle.custody_machine.specs.State.{State}
use Rattle.custody_machine.specs.Machine.{Command, Receive, OfPart, Reply, Refuse, Accept, OtherBytes, refusal_of, step, deciding_keys, Accepted, Refused, Failed, Failure, NoMemory, VolumeFailed, Damaged, MayFail}
use Rattle.custody_machine.specs.declared.damage.Damage.TheVariants.{Digest}
use Rattle.custody_machine.specs.StoredState.{part_of, state_in, HasDigestAt}
use Rattle.custody_machine.specs.Moves.{DependsOnBytes}
use Rattle.custody_machine.specs.Rulings.{CompareRuling, Decides, BringsPart, command_bytes}
use Rattle.custody_machine.specs.Custody.{LeftSince, Same, Other, Broken, Compares}
use Rattle.custody_machine.proofs.SameValues.{text_decides}
use Rattle.custody_machine.proofs.Accepting.{step_accepts}
use Rattle.custody_machine.proofs.Composed.{nothing_in, one_in, first_in, reads_accepted, reads_other}

module _ (records : Records) (i : List ℕ) (command : Command) (now : ℕ) (name : Name) (part : PartRecord) (extents : List Extent) (d : Decides (CompareRuling name part extents) records command now) where
  abbrev bytes : List ℕ
  bytes = command_bytes command

  pub same_rules : Compares Same (part_bytes i extents part.len) bytes part.digest → step (state_in records i) command now ≡ Accept (record { entry = OfPart (key_of name) (part_of i part); is_repeat = true }) (state_in records i)
  same_rules same = (d.1 i).0 same

  pub other_rules : part_bytes i extents part.len ≢ bytes → step (state_in records i) command now ≡ Refuse OtherBytes
  other_rules other = (d.1 i).1 other

  reads_key : part_bytes i extents part.len ≢ bytes → deciding_keys (state_in records i) command now ≡ key_of name ∷ []
  reads_key other = by command (other_rules other) d.0.named
    where
      by : (command : Command) → step (state_in records i) command now ≡ Refuse OtherBytes → BringsPart command name → deciding_keys (state_in records i) command now ≡ key_of name ∷ []
      by (Receive text bytes) refused under = reads_other (state_in records i) text bytes now name refused under
      by command refused under = absurd under

  reads_none : refusal_of (state_in records i) command now ≡ None → deciding_keys (state_in records i) command now ≡ []
  reads_none none = by command none d.0.named
    where
      by : (command : Command) → refusal_of (state_in records i) command now ≡ None → BringsPart command name → deciding_keys (state_in records i) command now ≡ []
      by (Receive text bytes) none under = reads_accepted (state_in records i) text bytes now none
      by command none under = absurd under

  pub same_rests : Compares Same (part_bytes i extents part.len) bytes part.digest → (reply : Reply) → DependsOnBytes records i command now (Accepted reply)
  same_rests same reply k within = absurd (nothing_in _ k (reads_none (step_accepts (state_in records i) command now _ _ (same_rules same)).0) within)

  has_digest : sha256 (part_bytes i extents part.len) ≡ part.digest → HasDigestAt i records (key_of name)
  has_digest is p es at held =
      let one : part ≡ p = same_Some part p (sym d.0.recorded ∙ at) in
      let all : extents ≡ es = same_Some extents es (sym d.0.held ∙ ap (λ (q : PartRecord). q.extents) one ∙ held) in
      subst (λ q. sha256 (part_bytes i es q.len) ≡ q.digest) one (subst (λ l. sha256 (part_bytes i l part.len) ≡ part.digest) all is)

  -- other bytes are told of a part that has its digest
  pub other_rests : Compares Other (part_bytes i extents part.len) bytes part.digest → DependsOnBytes records i command now (Refused OtherBytes)
  other_rests other k within = subst (HasDigestAt i records) (one_in _ (key_of name) k (reads_key other.0) within) (has_digest other.1)

  -- and damage of one that has not
  pub broken_rests : Compares Broken (part_bytes i extents part.len) bytes part.digest → DependsOnBytes records i command now (Failed (Damaged Digest))
  broken_rests broken = (key_of name, first_in _ (key_of name) (reads_key broken.0), λ has. broken.1 (has part extents d.0.recorded d.0.held))

  pub broken_may_fail : Compares Broken (part_bytes i extents part.len) bytes part.digest → MayFail (step (state_in records i) command now) (deciding_keys (state_in records i) command now) (Damaged Digest)
  broken_may_fail broken = subst (λ r. MayFail r (deciding_keys (state_in records i) command now) (Damaged Digest)) (sym (other_rules broken.0)) (refl, λ none. some_not_none (sym (reads_key broken.0) ∙ none))
    where
      some_not_none : ◌≡◌ {A = List PartKey} (key_of name ∷ []) [] → ⊥
      some_not_none e = cc

  -- whichever it is, memory or the volume may fail
  may_fail : (failure : Failure) → MayFail (Refuse OtherBytes) (deciding_keys (state_in records i) command now) failure → ((reply : Reply) (new : State) → MayFail (Accept reply new) (deciding_keys (state_in records i) command now) failure)
      → MayFail (step (state_in records i) command now) (deciding_keys (state_in records i) command now) failure
  may_fail failure refused accepted = by (bytes_eq (part_bytes i extents part.len) bytes) refl
    where
      by : (b : Bool) → bytes_eq (part_bytes i extents part.len) bytes ≡ b → MayFail (step (state_in records i) command now) (deciding_keys (state_in records i) command now) failure
      by true e = subst (λ r. MayFail r (deciding_keys (state_in records i) command now) failure) (sym (same_rules ((text_decides (part_bytes i extents part.len) bytes).0 e)))
          (accepted (record { entry = OfPart (key_of name) (part_of i part); is_repeat = true }) (state_in records i))
      by false e = subst (λ r. MayFail r (deciding_keys (state_in records i) command now) failure)
          (sym (other_rules (λ same. let clash : false ≡ true = sym e ∙ (text_decides (part_bytes i extents part.len) bytes).1 same in cc))) refused

  pub no_memory_may_be : MayFail (step (state_in records i) command now) (deciding_keys (state_in records i) command now) NoMemory
  no_memory_may_be = may_fail NoMemory refl (λ reply new. tt)

  pub volume_failed_may_be : MayFail (step (state_in records i) command now) (deciding_keys (state_in records i) command now) VolumeFailed
  volume_failed_may_be = may_fail VolumeFailed refl (λ reply new. tt)

-- ---- moments

module _ {V : Type 0} (moment : V → ℕ) (left_at : V → ℕ → List ℕ → Type 0) (old new : V) (P : List ℕ → Type 0) (l : LeavesOnly moment left_at old new P) where
  pub each_of : (image : List ℕ) → LeftSince moment left_at old new image → P image
  each_of image h = l.since h.0 image h.1 h.2 h.3

  pub now_of : (image : List ℕ) → left_at new (moment new) image → P image
  now_of image h = let later = l.later in l.since (moment new) image later (omega arith) h
