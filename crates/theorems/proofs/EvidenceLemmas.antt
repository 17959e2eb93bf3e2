-- The lines of `digests` stay: first from place to place, then from records to their lists.
use Rattle.std.proofs.Common.{◌≡◌, inl, inr, ℕ, List, [], ◌∷◌, Option, Some, None, Bool, true, false, if◌then◌else◌, refl, sym, ◌∙◌, ap, subst, Contains}
use Rattle.std.specs.FinMap.{entries, get}
use Rattle.std.specs.Ordering.{is_eq}
use Rattle.custody_records.specs.Keys.{PartKey, text_cmp}
use Rattle.custody_records.specs.Records.{PartRecord, Records, key_of, name_of, parts_of}
use Rattle.custody_records.specs.Rows.{Rows}
use Rattle.custody_records.specs.inside.Orders.{part_total, part_exact}
use Rattle.custody_records.proofs.Elements.{contained, filtered_in, get_in, got_in, in_filtered, in_mapped, is_in, mapped_in}
use Rattle.custody_records.proofs.FormLemmas.{InForm-injective}
use Rattle.custody_machine.specs.State.{State}
use Rattle.custody_machine.specs.Machine.{TimedCommand}
use Rattle.custody_machine.specs.History.{Event, Answered, AnsweredOtherCall, ShutDown, StoppedAtRest, StoppedWithin, OpenedWith, Opened, NotOpened, doubt_of, is_open_after}
use Rattle.custody_machine.specs.StoredState.{SameOrDropped, KeepsParts, OpensFrom}
use Rattle.custody_machine.specs.Moves.{Place, Serving, Shut, Left, Moves, MovesAlong}
use Rattle.answer_lines.specs.Digests.{digest_line}
use Rattle.answer_lines.specs.declared.lines.Line.{Line}
use Rattle.answer_lines.specs.declared.lines.Line.TheVariants.{Digest}
use Rattle.theorems.specs.Evidence.{HasRecords, digest_lines, DigestLinesAreKept, OneDigestOfName, RecordsRemain}

-- ---- from place to place

-- each part's record is there still, with its kind and its digest
abbrev KeepsDigests : Records → Records → Type 0
KeepsDigests old new = (key : PartKey) (part : PartRecord) → get old.parts key ≡ Some part → (still : PartRecord) × (get new.parts key ≡ Some still) × (still.kind ≡ part.kind) × (still.digest ≡ part.digest)

-- a place has records that keep those from before
abbrev Keeps : Records → Place → Type 0
Keeps before place = (later : Records) × HasRecords place later × KeepsDigests before later

kept_by : (old new : Records) (image later : List ℕ) → KeepsParts old image new later → KeepsDigests old new
kept_by old new image later keeps key part at = let k = keeps.kept key part at in let is = same part k.0 k.2 in (k.0, k.1, is.0, is.1)
  where
    same : (part still : PartRecord) → SameOrDropped part still → (still.kind ≡ part.kind) × (still.digest ≡ part.digest)
    same part still (inl is) = (ap (λ (p : PartRecord). p.kind) is, ap (λ (p : PartRecord). p.digest) is)
    same part still (inr is) = (ap (λ (p : PartRecord). p.kind) is, ap (λ (p : PartRecord). p.digest) is)

keeps_itself : (place : Place) (records : Records) → HasRecords place records → Keeps records place
keeps_itself place records has = (records, has, λ key part at. (part, at, refl, refl))

-- what opens from records keeps them
opened_keeps : (old : Records) (image : List ℕ) (P : State → Type 0) (rows : Rows) (left : List ℕ) → OpensFrom old image P rows left → Keeps old (Left rows left)
opened_keeps old image P rows left o = (o.records, (o.in_form, o.good), kept_by old o.records image left o.keeps)

answered_keeps : (records new : Records) (image later : List ℕ) (doubt : Option TimedCommand) → KeepsParts records image new later → (b : Bool) → Keeps records (if b then Serving new later else Shut records image doubt)
answered_keeps records new image later doubt keeps true = (new, refl, kept_by records new image later keeps)
answered_keeps records new image later doubt keeps false = keeps_itself (Shut records image doubt) records refl

serving_keeps : (records : Records) (image : List ℕ) (event : Event) (next : Place) → Moves (Serving records image) event next → Keeps records next
serving_keeps records image (Answered command now answer) next m = subst (Keeps records) (sym m.5) (answered_keeps records m.0 image m.1 (doubt_of command now answer) m.4 (is_open_after answer))
serving_keeps records image AnsweredOtherCall next m = subst (Keeps records) (sym m.3) (keeps_itself (Serving records m.0) records refl)
serving_keeps records image ShutDown next m = subst (Keeps records) (sym m) (keeps_itself (Shut records image None) records refl)
serving_keeps records image (StoppedAtRest pair) next m = subst (Keeps records) (sym m.4) (opened_keeps records image _ m.0 m.1 m.2)
serving_keeps records image (StoppedWithin command now pair) next m = subst (Keeps records) (sym m.4) (opened_keeps records image _ m.0 m.1 m.2)
serving_keeps records image (OpenedWith pair answer) next m = absurd m

shut_keeps : (records : Records) (image : List ℕ) (doubt : Option TimedCommand) (event : Event) (next : Place) → Moves (Shut records image doubt) event next → Keeps records next
shut_keeps records image doubt (Answered command now answer) next m = subst (Keeps records) (sym m.1) (keeps_itself (Shut records image doubt) records refl)
shut_keeps records image doubt AnsweredOtherCall next m = subst (Keeps records) (sym m) (keeps_itself (Shut records image doubt) records refl)
shut_keeps records image doubt ShutDown next m = subst (Keeps records) (sym m) (keeps_itself (Shut records image doubt) records refl)
shut_keeps records image doubt (StoppedAtRest pair) next m = subst (Keeps records) (sym m.4) (opened_keeps records image _ m.0 m.1 m.2)
shut_keeps records image doubt (StoppedWithin command now pair) next m = subst (Keeps records) (sym m.4) (opened_keeps records image _ m.0 m.1 m.2)
shut_keeps records image doubt (OpenedWith pair answer) next m = absurd m

left_keeps : (rows : Rows) (image : List ℕ) (records : Records) → HasRecords (Left rows image) records → (event : Event) (next : Place) → Moves (Left rows image) event next → Keeps records next
left_keeps rows image records has (StoppedAtRest pair) next m = subst (Keeps records) (sym m.4) (opened_keeps records image _ m.0 m.1 (m.2 records has.0 has.1))
left_keeps rows image records has (OpenedWith pair (Opened state)) next m =
    let r = m.1 in
    subst (Keeps records) (sym r.4) (keeps_itself (Serving r.0 image) records (InForm-injective records r.0 (sym has.0 ∙ r.1)))
left_keeps rows image records has (OpenedWith pair (NotOpened failure)) next m =
    let l = m.2 in
    subst (Keeps records) (sym l.3) (opened_keeps records image _ l.0 l.1 (l.2 records has.0 has.1))
left_keeps rows image records has event next m = absurd m

move_keeps : (old : Place) (event : Event) (next : Place) (before : Records) → HasRecords old before → Moves old event next → Keeps before next
move_keeps (Serving records image) event next before has m = subst (λ r. Keeps r next) (sym has) (serving_keeps records image event next m)
move_keeps (Shut records image doubt) event next before has m = subst (λ r. Keeps r next) (sym has) (shut_keeps records image doubt event next m)
move_keeps (Left rows image) event next before has m = left_keeps rows image before has event next m

keeps_along : (old : Place) (events : List Event) (new : Place) (before : Records) → HasRecords old before → MovesAlong old events new → Keeps before new
keeps_along old [] new before has m = subst (Keeps before) (sym m) (keeps_itself old before has)
keeps_along old (event ∷ events) new before has m =
    let one = move_keeps old event m.0 before has m.1 in
    let rest = keeps_along m.0 events new one.0 one.1 m.2 in (
      rest.0,
      rest.1,
      λ key part at. let k = one.2 key part at in let s = rest.2 key k.0 k.1 in (s.0, s.1, s.2 ∙ k.2, s.3 ∙ k.3),
    )

-- a place has one set of records
one_records : (place : Place) (a b : Records) → HasRecords place a → HasRecords place b → a ≡ b
one_records (Serving there image) a b is_a is_b = is_a ∙ sym is_b
one_records (Shut there image doubt) a b is_a is_b = is_a ∙ sym is_b
one_records (Left rows image) a b is_a is_b = InForm-injective a b (sym is_a.0 ∙ is_b.0)

-- ---- the lines

abbrev is_of_registry : List ℕ → PartKey × PartRecord → Bool
is_of_registry tld e = is_eq (text_cmp e.0.tld tld)

-- the part whose line it is
record PartOfLine (records : Records) (tld : List ℕ) (line : Line) : Type 0 where
  pub entry : PartKey × PartRecord
  pub found : get records.parts entry.0 ≡ Some entry.1
  pub registry : is_of_registry tld entry ≡ true
  pub is_its : digest_line entry ≡ line

part_of_line : (records : Records) (tld : List ℕ) (line : Line) → Contains (digest_lines records tld) line → PartOfLine records tld line
part_of_line records tld line c =
    let m = mapped_in digest_line (parts_of records tld) line (is_in (digest_lines records tld) line c) in
    let f = filtered_in (is_of_registry tld) (entries records.parts) m.0 m.1 in record {
      entry = m.0;
      found = get_in part_total records.parts m.0.0 m.0.1 f.0;
      registry = f.1;
      is_its = m.2;
    }

line_of_part : (records : Records) (tld : List ℕ) (key : PartKey) (part : PartRecord) → get records.parts key ≡ Some part → is_of_registry tld (key, part) ≡ true → Contains (digest_lines records tld) (digest_line (key, part))
line_of_part records tld key part found of =
    contained (digest_lines records tld) (digest_line (key, part)) (in_mapped digest_line (parts_of records tld) (key, part)
    (in_filtered (is_of_registry tld) (entries records.parts) (key, part) (got_in part_total records.parts key part part_exact found) of))

lines_stay : (before later : Records) (tld : List ℕ) (line : Line) → KeepsDigests before later → Contains (digest_lines before tld) line → Contains (digest_lines later tld) line
lines_stay before later tld line keeps c =
    let p = part_of_line before tld line c in
    let k = keeps p.entry.0 p.entry.1 p.found in
    let same : digest_line (p.entry.0, k.0) ≡ line = (λ i. Digest (k.3 i) (name_of p.entry.0 (k.2 i))) ∙ p.is_its in
    subst (Contains (digest_lines later tld)) same (line_of_part later tld p.entry.0 k.0 k.1 p.registry)

-- ---- the claims

pub digest_lines_are_kept : DigestLinesAreKept
digest_lines_are_kept old new events before later tld line has moves has_later c =
    let k = keeps_along old events new before has moves in
    lines_stay before later tld line (subst (KeepsDigests before) (one_records new k.0 later k.1 has_later) k.2) c

pub one_digest_of_name : OneDigestOfName
one_digest_of_name records tld name digest other c d =
    let p = part_of_line records tld (Digest digest name) c in
    let q = part_of_line records tld (Digest other name) d in
    let key : p.entry.0 ≡ q.entry.0 = ap key_of (name_in p.entry digest p.is_its ∙ sym (name_in q.entry other q.is_its)) in
    let part : Some p.entry.1 ≡ Some q.entry.1 = sym p.found ∙ ap (get records.parts) key ∙ q.found in
    let same : p.entry.1 ≡ q.entry.1 = cc in
    sym (digest_in p.entry digest p.is_its) ∙ ap (λ (r : PartRecord). r.digest) same ∙ digest_in q.entry other q.is_its
  where
    name_in : (e : PartKey × PartRecord) (digest : List ℕ) → digest_line e ≡ Digest digest name → name_of e.0 e.1.kind ≡ name
    name_in e digest is = cc

    digest_in : (e : PartKey × PartRecord) (digest : List ℕ) → digest_line e ≡ Digest digest name → e.1.digest ≡ digest
    digest_in e digest is = cc

pub records_remain : RecordsRemain
records_remain old new events before has moves = let k = keeps_along old events new before has moves in (k.0, k.1)
