-- The lines of `digests` through whatever happens to a custody: none is changed, and none goes.
use Rattle.std.specs.Prelude.{◌≡◌, ℕ, List, map, Contains}
use Rattle.deposit_name.specs.Name.{Name}
use Rattle.custody_records.specs.Records.{Records, parts_of}
use Rattle.custody_records.specs.Form.{form_of, InForm}
use Rattle.custody_machine.specs.History.{Event}
use Rattle.custody_machine.specs.StoredState.{AreWholeOnVolume}
use Rattle.custody_machine.specs.Moves.{Place, Serving, Shut, Left, MovesAlong}
use Rattle.answer_lines.specs.Digests.{digest_line}
use Rattle.answer_lines.specs.declared.lines.Line.{Line}
use Rattle.answer_lines.specs.declared.lines.Line.TheVariants.{Digest}

-- the records of a place: those of a custody, or those for which the rows that a stop has left stand, if they are whole and the volume is theirs
abbrev pub HasRecords : Place → Records → Type 0
HasRecords (Serving there image) records = records ≡ there
HasRecords (Shut there image doubt) records = records ≡ there
HasRecords (Left rows image) records = (form_of rows ≡ InForm records) × AreWholeOnVolume records image

-- the lines whose text is `digests_text`
abbrev pub digest_lines : Records → List ℕ → List Line
digest_lines records tld = map digest_line (parts_of records tld)

-- Whatever commands, other calls, openings and stops came between, each line of `digests` is among the later ones.
abbrev pub DigestLinesAreKept : Type 0
DigestLinesAreKept = (old new : Place) (events : List Event) (before later : Records) (tld : List ℕ) (line : Line) → HasRecords old before → MovesAlong old events new → HasRecords new later
    → Contains (digest_lines before tld) line → Contains (digest_lines later tld) line

-- A name has one digest.
abbrev pub OneDigestOfName : Type 0
OneDigestOfName = (records : Records) (tld : List ℕ) (name : Name) (digest other : List ℕ) → Contains (digest_lines records tld) (Digest digest name) → Contains (digest_lines records tld) (Digest other name) → digest ≡ other

-- Where there were records, there are records after whatever came.
abbrev pub RecordsRemain : Type 0
RecordsRemain = (old new : Place) (events : List Event) (before : Records) → HasRecords old before → MovesAlong old events new → (later : Records) × HasRecords new later
