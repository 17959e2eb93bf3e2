-- What a sweep records: an absence of each day that is due.
use Rattle.std.specs.Prelude.{◌≡◌, ◌↔◌, ℕ, List, [], ◌∷◌, Contains, true}
use Rattle.vault_volume.specs.declared.volume.Volume as volume
use Rattle.sqlite.specs.Store.{Ghosts}
use Rattle.custody_records.specs.Records.{Records, with_notice}
use Rattle.custody_machine.specs.Machine.{Check, absence_notice, next_key}
use Rattle.custody_machine.specs.Rulings.{AddsAbsence, GoRuling, Decides}
use Rattle.custody_rules.specs.DueDays.{due_days}
use Rattle.custody.specs.declared.custody.Custody.{Custody}
use Rattle.custody.specs.Custody.{is_open, open_custody_of}
use Rattle.custody.specs.OpenCustody.{current_records}
use Rattle.answer_lines.specs.Printing.{Writer}
use Rattle.agent_cli.specs.Acts.{IsSwept}

-- a check of the day would record its absence
abbrev pub WouldRecordAbsence : Records → List ℕ → ℕ → ℕ → Type 0
WouldRecordAbsence records tld day now = Decides (GoRuling (AddsAbsence tld day)) records (Check tld day) now

-- the days that are due are those whose check would record an absence
abbrev pub DueIsChecked : Type 0
DueIsChecked = (records : Records) (tld : List ℕ) (day now : ℕ) → Contains (due_days records now) (tld, day) ↔ WouldRecordAbsence records tld day now

-- the records with the absence of a day, under the next number of its registry
abbrev pub with_absence : Records → List ℕ × ℕ → ℕ → Records
with_absence records day now = with_notice records (next_key records.notices day.0) (absence_notice day.1 now)

-- with that of each of these days, in their order
abbrev pub with_absences : Records → List (List ℕ × ℕ) → ℕ → Records
with_absences records [] now = records
with_absences records (day ∷ days) now = with_absences (with_absence records day now) days now

module _ {V S : Type 0} {g : volume.Ghosts V} {database : Ghosts S} where
  -- a sweep of the days due that ends with status 0 has recorded an absence of each of them, in their order, and nothing else
  abbrev pub SweepRecordsDue : Custody V S g database → Custody V S g database → Type 0
  SweepRecordsDue old new = (now : ℕ) (output errors : Writer) → is_open old ≡ true → IsSwept (due_days (current_records (open_custody_of old)) now) old now new 0 output errors
      → (is_open new ≡ true) × (current_records (open_custody_of new) ≡ with_absences (current_records (open_custody_of old)) (due_days (current_records (open_custody_of old)) now) now)
