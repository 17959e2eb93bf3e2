-- The lines of replies, without their line feed.
use Rattle.std.specs.Prelude.{◌-◌, ℕ, List, ◌++◌, codes, length, take}
use Rattle.std.specs.Fmt.{decimal}
use Rattle.hex.specs.Hex.{encode_lower}
use Rattle.schedule.specs.Text.{day_text, moment_text}
use Rattle.deposit_name.specs.Name.{name_text}
use Rattle.desk.specs.Grounds.{ground_text}
use Rattle.desk.specs.Lines.{line}
use Rattle.desk.specs.declared.grounds.Ground.{Ground}
use Rattle.desk.specs.declared.notices.Notice as desk
use Rattle.custody_records.specs.RowsOfRecords.{digits_of}
use Rattle.answer_lines.specs.declared.lines.Line.{Line}
use Rattle.answer_lines.specs.declared.lines.Line.TheVariants.{Ready, Registered, Received, Notice, Released, Held, Lifted, Purged, Registry, Part, Dropped, Release, Hold, LiftedHold, Due, Waiting, Digest, Damaged, Sound, Room, Listening}

abbrev pub room_text : ℕ → ℕ → List ℕ
room_text free total = codes "free " ++ decimal free ++ codes " of " ++ decimal total

-- the line of a notice in a report (Specification 2, Part B section 7)
abbrev pub notice_text : desk.Notice → List ℕ
notice_text notice = take (length (line notice) - 1) (line notice)

-- a release of so many names
abbrev pub release_text : List ℕ → List ℕ → Ground → ℕ → ℕ → List ℕ
release_text reference tld reason at count =
    reference ++ codes " " ++ tld ++ codes " " ++ ground_text reason ++ codes " " ++ moment_text at ++ codes " " ++ decimal count

-- a hold of a registry's day
abbrev pub hold_text : List ℕ → List ℕ → ℕ → ℕ → List ℕ
hold_text reference tld day at = reference ++ codes " " ++ tld ++ codes " " ++ day_text day ++ codes " " ++ moment_text at

-- and when it was lifted
abbrev pub lifted_hold_text : List ℕ → List ℕ → ℕ → ℕ → ℕ → List ℕ
lifted_hold_text reference tld day at lifted = hold_text reference tld day at ++ codes " lifted " ++ moment_text lifted

-- why a sweep records nothing: it would record so many absences
abbrev pub too_many_absences_text : ℕ → List ℕ
too_many_absences_text count = codes "Q23 too many absences: " ++ decimal count

abbrev pub line_text : Line → List ℕ
line_text (Ready blocks number) = codes "ready " ++ decimal blocks ++ codes " " ++ digits_of number
line_text (Registered tld first) = codes "registered " ++ tld ++ codes " " ++ day_text first
line_text (Received name length at) =
    codes "received " ++ name_text name ++ codes " " ++ decimal length ++ codes " " ++ moment_text at
line_text (Notice notice) = notice_text notice
line_text (Released reference tld reason at count) = codes "released " ++ release_text reference tld reason at count
line_text (Held reference tld day at) = codes "held " ++ hold_text reference tld day at
line_text (Lifted reference at) = codes "lifted " ++ reference ++ codes " " ++ moment_text at
line_text (Purged count) = codes "dropped " ++ decimal count
line_text (Registry tld first) = codes "registry " ++ tld ++ codes " " ++ day_text first
line_text (Part name length at) =
    codes "part " ++ name_text name ++ codes " " ++ decimal length ++ codes " held " ++ moment_text at
line_text (Dropped name length at) =
    codes "part " ++ name_text name ++ codes " " ++ decimal length ++ codes " dropped " ++ moment_text at
line_text (Release reference tld reason at count) = codes "release " ++ release_text reference tld reason at count
line_text (Hold reference tld day at) = codes "hold " ++ hold_text reference tld day at
line_text (LiftedHold reference tld day at lifted) = codes "hold " ++ lifted_hold_text reference tld day at lifted
line_text (Due tld day) = codes "due " ++ tld ++ codes " " ++ day_text day
line_text (Waiting tld day rev count) = codes "parts " ++ tld ++ codes " " ++ day_text day ++ codes " " ++ decimal rev ++ codes " " ++ decimal count
line_text (Digest digest name) = encode_lower digest ++ codes "  " ++ name_text name
line_text (Damaged name) = codes "damaged " ++ name_text name
line_text (Sound count) = codes "sound " ++ decimal count
line_text (Room free total) = room_text free total
line_text (Listening port) = codes "listening 127.0.0.1:" ++ decimal port
