-- The life of a custody as moves of a database and a volume of two blocks.
use Rattle.std.proofs.Common.{◌≡◌, ℕ, ◌*◌, List, [], ◌∷◌, ◌++◌, length, take, drop, Some, None, codes, inl, inr, refl, sym, ◌∙◌, ap, arith}
use Rattle.std.specs.FinMap as fin
use Rattle.std.specs.FinMap.{FinMap, get, insert, get-empty}
use Rattle.std.specs.Int.{w64, to_be_bytes}
use Rattle.std.proofs.Math.Seq.{take-append_seam, drop-append_seam}
use Rattle.std.proofs.lemmas.List.{length-append, length-replicate}
use Rattle.hex.specs.Hex.{encode_lower, lower_digits}
use Rattle.hex.proofs.HexLemmas.{length-encode_with}
use Rattle.sha2.specs.Sha256.{sha256}
use Rattle.deposit_name.specs.declared.kinds.Kind.TheVariants.{Full}
use Rattle.extent_map.specs.declared.extent.Extent.{Extent}
use Rattle.vault_volume.specs.Head.{head_front, head_of, zeros}
use Rattle.vault_volume.specs.Image.{bytes_at}
use Rattle.vault_volume.specs.Extents.{part_bytes}
use Rattle.custody_records.specs.Keys.{PartKey, part_cmp}
use Rattle.custody_records.specs.inside.Orders.{part_total, part_exact}
use Rattle.custody_records.specs.Records.{PartRecord, Records}
use Rattle.custody_machine.specs.State.{State, Part, Held, empty}
use Rattle.custody_machine.specs.MapValues.{map_values}
use Rattle.custody_machine.specs.StoredState.{HasDigestAt, SameOrDropped, part_of, state_in}
use Rattle.custody_machine.specs.Machine.{Command, Reply, Accept, Accepted, step, without_bytes}
use Rattle.custody_machine.specs.History.{Answered, AnsweredOtherCall}
use Rattle.custody_machine.specs.Moves.{Place, Serving, Moves}
use Rattle.custody_machine.proofs.MapValues.{map_values-empty, map_values-insert}
use Rattle.custody_machine.proofs.Accepting.{inserted, insert_here}
use Rattle.theorems.specs.ExampleService.{example_part}
use Rattle.custody_machine.specs.ExampleLife.{clock_moment, example_part_key}

-- ---- a volume of two blocks, with the bytes of the part in the second

hello_block : List ℕ
hello_block = codes "hello" ++ zeros 4091

pub image : List ℕ
image = head_of 1 ++ hello_block

length-zeros : (n : ℕ) → length (zeros n) ≡ n
unfolding zeros
length-zeros n = length-replicate n 0

length-head : length (head_of 1) ≡ 4096
length-head =
    let digits = encode_lower (to_be_bytes w64 1) in
    let whole = length-append (head_front 1) (zeros 4069) in
    let front = length-append digits (10 ∷ []) in
    let sixteen : length digits ≡ 16 = length-encode_with lower_digits (to_be_bytes w64 1) in
    let rest = length-zeros 4069 in
    omega (arith, whole, front, sixteen, rest)

length-block : length hello_block ≡ 4096
unfolding hello_block
length-block = let rest = length-zeros 4091 in omega (arith, rest)

pub length-image : length image ≡ 4096 * 2
unfolding image
length-image = let whole = length-append (head_of 1) hello_block in omega (arith, whole, length-head, length-block)

pub head_at : bytes_at image 0 4096 ≡ head_of 1
unfolding image
head_at = ap (λ n. take n (head_of 1 ++ hello_block)) (sym length-head) ∙ take-append_seam (head_of 1) hello_block

abbrev pub second_block : List Extent
second_block = record { start = 1; count = 1 } ∷ []

pub hello_at : part_bytes image second_block 5 ≡ codes "hello"
unfolding image hello_block
hello_at = ap (λ (bytes : List ℕ). take 5 (take 4096 bytes ++ [])) (ap (λ n. drop n (head_of 1 ++ hello_block)) (sym length-head) ∙ drop-append_seam (head_of 1) hello_block)

-- ---- the records of a state, with parts of their own

abbrev pub Parts : Type 0
Parts = FinMap part_cmp PartRecord

abbrev pub records_at : State → Parts → Records
records_at state parts = record { number = 1; blocks = 2; registries = state.registries; parts = parts; notices = state.notices; releases = state.releases; holds = state.holds }

-- what the volume has of these parts
abbrev pub parts_on_volume : Parts → FinMap part_cmp Part
parts_on_volume parts = map_values (part_of image) parts

pub state_at : (state : State) (parts : Parts) → parts_on_volume parts ≡ state.parts → state_in (records_at state parts) image ≡ state
state_at state parts is = ap (λ ps. record state { parts = ps }) is

-- the parts have their digests
abbrev pub HaveDigests : Parts → Type 0
HaveDigests parts = (key : PartKey) → HasDigestAt image (records_at empty parts) key

abbrev pub no_parts : Parts
no_parts = fin.empty

abbrev pub held_record : PartRecord
held_record = record { kind = Full; received = clock_moment 20_667 10 0; len = 5; digest = sha256 (codes "hello"); extents = Some second_block }

abbrev pub dropped_record : PartRecord
dropped_record = record held_record { extents = None }

abbrev pub one_part : PartRecord → Parts
one_part part = insert fin.empty example_part_key part

pub none_at : (key : PartKey) (part : PartRecord) → get no_parts key ≡ Some part → ⊥
none_at key part at = let none = get-empty {X = PartRecord} part_cmp key in let apart : Some part ≡ None = sym at ∙ none in cc

pub one_at : (new : PartRecord) (P : PartKey → PartRecord → Type 0) → P example_part_key new → (key : PartKey) (part : PartRecord) → get (one_part new) key ≡ Some part → P key part
one_at new P holds = inserted part_total part_exact no_parts example_part_key new P holds (λ key part at. absurd (none_at key part at))

pub none_digests : HaveDigests no_parts
none_digests key part extents at = absurd (none_at key part at)

abbrev HasItsDigest : PartRecord → Type 0
HasItsDigest part = (extents : List Extent) → part.extents ≡ Some extents → sha256 (part_bytes image extents part.len) ≡ part.digest

one_digest : (new : PartRecord) → HasItsDigest new → HaveDigests (one_part new)
one_digest new holds key part extents at = one_at new (λ key part. HasItsDigest part) holds key part at extents

pub held_digests : HaveDigests (one_part held_record)
held_digests = one_digest held_record (λ extents is. let same : second_block ≡ extents = cc in ap (λ (es : List Extent). sha256 (part_bytes image es 5)) (sym same) ∙ ap sha256 hello_at)

pub dropped_digests : HaveDigests (one_part dropped_record)
dropped_digests = one_digest dropped_record (λ extents is. cc)

pub none_on_volume : parts_on_volume no_parts ≡ empty.parts
none_on_volume = map_values-empty part_cmp (part_of image) part_total part_exact

one_on_volume : (new : PartRecord) → parts_on_volume (one_part new) ≡ insert fin.empty example_part_key (part_of image new)
one_on_volume new = map_values-insert part_cmp (part_of image) part_total part_exact no_parts example_part_key new ∙ ap (λ m. insert m example_part_key (part_of image new)) none_on_volume

pub held_on_volume : parts_on_volume (one_part held_record) ≡ insert fin.empty example_part_key example_part
held_on_volume = one_on_volume held_record ∙ ap (λ bytes. insert fin.empty example_part_key (record example_part { content = Held bytes })) hello_at

pub dropped_on_volume : parts_on_volume (one_part dropped_record) ≡ insert fin.empty example_part_key (without_bytes example_part)
dropped_on_volume = one_on_volume dropped_record

-- ---- where a custody is, in a state

-- The parts have their digests, and with the bytes of the volume they are those of the state.
pub record AreIn (state : State) (parts : Parts) : Type 0 where
  pub digests : HaveDigests parts
  pub on_volume : parts_on_volume parts ≡ state.parts

abbrev pub place_at : State → Parts → Place
place_at state parts = Serving (records_at state parts) image

-- each part is recorded as it was, or its bytes are dropped
abbrev pub AreKept : Parts → Parts → Type 0
AreKept old new = (key : PartKey) (part : PartRecord) → get old key ≡ Some part → (still : PartRecord) × (get new key ≡ Some still) × SameOrDropped part still

pub same_kept : (parts : Parts) → AreKept parts parts
same_kept parts key part at = (part, at, inl refl)

pub none_kept : (new : Parts) → AreKept no_parts new
none_kept new key part at = absurd (none_at key part at)

pub drop_kept : AreKept (one_part held_record) (one_part dropped_record)
drop_kept = one_at held_record (λ key part. (still : PartRecord) × (get (one_part dropped_record) key ≡ Some still) × SameOrDropped part still)
    (dropped_record, insert_here part_total fin.empty example_part_key dropped_record, inr refl)

-- a command that is accepted moves it
pub accepted_move : (old new : State) (before behind : Parts) (command : Command) (now : ℕ) (reply : Reply) → AreIn old before → AreIn new behind → AreKept before behind → step old command now ≡ Accept reply new
    → Moves (place_at old before) (Answered command now (Accepted reply)) (place_at new behind)
accepted_move old new before behind command now reply here there kept is =
    let was = state_at old before here.on_volume in
    let goes = state_at new behind there.on_volume in (
      records_at new behind,
      image,
      ap (λ state. step state command now) was ∙ is ∙ ap (Accept reply) (sym goes),
      λ key decides. here.digests key,
      record { kept = kept; digests = λ key has. there.digests key },
      refl,
    )

-- and one that is none leaves it
pub other_move : (state : State) (parts : Parts) → Moves (place_at state parts) AnsweredOtherCall (place_at state parts)
other_move state parts = (image, refl, record { kept = same_kept parts; digests = λ key has. has }, refl)
