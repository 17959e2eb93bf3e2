-- What a record that shows a part tells of it.
use Rattle.std.proofs.Common.{◌≡◌, ℕ, List, Some, sym, ◌∙◌, ap, subst}
use Rattle.std.specs.FinMap.{get}
use Rattle.deposit_name.specs.Name.{Name}
use Rattle.extent_map.specs.declared.extent.Extent.{Extent}
use Rattle.vault_volume.specs.Extents.{part_bytes}
use Rattle.custody_records.specs.Records.{PartRecord, Records, key_of}
use Rattle.custody_records.proofs.ReadLemmas.{some_same}
use Rattle.custody_machine.specs.State.{Held}
use Rattle.custody_machine.specs.Machine.{OfPart}
use Rattle.custody.specs.declared.answers.Record.{Record}
use Rattle.custody.specs.declared.answers.Record.TheVariants as of
use Rattle.custody.specs.Answers.{machine_record}
use Rattle.custody.specs.ReplyRecords.{IsRecordOfPart, IsRecorded, HoldsBytes}

module _ (name : Name) (part : PartRecord) where
  -- it is shown, where it is recorded
  pub shown_of : (records : Records) (told : Record) → IsRecordOfPart told name part → get records.parts (key_of name) ≡ Some part → IsRecorded records told
  shown_of records (of.Part named received len digest extents) shows at =
      subst (λ n. get records.parts (key_of n) ≡ Some (record { kind = n.kind; received = received; len = len; digest = digest; extents = Some extents.items })) (sym shows.0) (at ∙ ap Some shows.1)
  shown_of records _ shows at = absurd shows

  -- its bytes are where it says
  pub holds_of : (image bytes : List ℕ) (extents : List Extent) (told : Record) → IsRecordOfPart told name part → part.extents ≡ Some extents → part_bytes image extents part.len ≡ bytes → HoldsBytes image told bytes
  holds_of image bytes extents (of.Part named received len digest there) shows held is =
      let same : extents ≡ there.items = some_same _ _ (sym held ∙ ap (λ (p : PartRecord). p.extents) shows.1) in
      subst (λ n. part_bytes image there.items n ≡ bytes) (ap (λ (p : PartRecord). p.len) shows.1) (subst (λ es. part_bytes image es part.len ≡ bytes) same is)
  holds_of image bytes extents _ shows held is = absurd shows

  -- and the machine's record of it has its name, kind and moment
  pub entry_of : (bytes : List ℕ) (told : Record) → IsRecordOfPart told name part → machine_record bytes told ≡ OfPart (key_of name) (record { kind = name.kind; received = part.received; content = Held bytes })
  entry_of bytes (of.Part named received len digest extents) shows =
      λ i. OfPart (key_of (shows.0 i)) (record { kind = (shows.0 i).kind; received = ap (λ (p : PartRecord). p.received) (sym shows.1) i; content = Held bytes })
  entry_of bytes _ shows = absurd shows
