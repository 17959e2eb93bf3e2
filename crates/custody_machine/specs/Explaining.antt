-- Why a revision has failed: its bytes, judged by what was known when it was stated (Specification 2, Part A section 7).
use Rattle.std.specs.Prelude.{◌≡◌, ℕ, List, [], ◌∷◌, Option, Some, Bool, true, ◌&&◌, is_none, is_some, nat_lt, bytes_eq, option_map}
use Rattle.std.specs.List.{filter, find, list_any}
use Rattle.std.specs.FinMap.{FinMap, entries, from_sorted}
use Rattle.desk.specs.declared.checks.Check.{Check}
use Rattle.desk.specs.declared.notices.NoticeKind.TheVariants.{Failure}
use Rattle.deposit_verify.specs.declared.verdict.Verdict.{Verdict}
use Rattle.deposit_verify.specs.Known.{Known}
use Rattle.deposit_verify.specs.Verdict.{verdict}
use Rattle.custody_records.specs.Keys.{NoticeKey, PartKey, notice_cmp}
use Rattle.custody_records.specs.Records.{Notice, Records}
use Rattle.custody_machine.specs.declared.answers.Refusal.{Refusal}
use Rattle.custody_machine.specs.declared.answers.Refusal.TheVariants.{RegistryUnknown, DroppedAfterKeeping, NoFailure}
use Rattle.custody_machine.specs.declared.command.Statement as statement
use Rattle.custody_machine.specs.State.{State, is_notice_of, part_numbers}
use Rattle.custody_machine.specs.Machine.{Test, count_parts, first_part, first_refusal, is_dropped, is_failure_of, is_tld_unregistered, joined_bytes, known_of, part_at, part_under_name, passed_deposits, verdict_keys}

-- ---- what was known

-- a notice of the same registry with a lower number
abbrev pub is_before : NoticeKey → NoticeKey × Notice → Bool
is_before key entry = bytes_eq entry.0.tld key.tld && nat_lt entry.0.number key.number

-- the notices of a registry before one of them
unfoldable pub notices_before : FinMap notice_cmp Notice → NoticeKey → FinMap notice_cmp Notice
notices_before notices key = from_sorted {R = notice_cmp} (filter (is_before key) (entries notices))

-- the state with these notices alone
abbrev pub state_before : State → NoticeKey → State
state_before state key = record state { notices = notices_before state.notices key }

-- records with other notices, and with these
abbrev pub with_notices : Records → FinMap notice_cmp Notice → Records
with_notices records notices = record records { notices = notices }

abbrev pub records_before : Records → NoticeKey → Records
records_before records key = with_notices records (notices_before records.notices key)

-- ---- what had failed

-- the notice that a revision has failed
abbrev pub failure_notice : State → List ℕ → ℕ → ℕ → Option (NoticeKey × Notice)
failure_notice state tld day rev = find (is_notice_of tld day (is_failure_of rev)) (entries state.notices)

-- A notice tells that what was stated fails a check: the id stands in the notice, and kind and number of the parts are those of the recorded ones.
pub record IsFailureOf (state : State) (key : NoticeKey) (notice : Notice) (stated : statement.Statement) (check : Check) : Type 0 where
  pub found : failure_notice state stated.tld stated.day stated.rev ≡ Some (key, notice)
  pub told : notice.kind ≡ Failure stated.rev stated.id check
  pub kind : is_some (part_under_name state (first_part stated)) ≡ true
  pub parts : count_parts state (first_part stated) ≡ stated.parts

-- ---- when there is no explanation

-- the bytes of a part of the revision are dropped
abbrev pub is_revision_dropped : State → List ℕ → ℕ → ℕ → Bool
is_revision_dropped state tld day rev = list_any (λ place. is_dropped (part_at state (record { tld = tld; day = day; rev = rev; part = place }))) part_numbers

abbrev pub explain_tests : State → List ℕ → ℕ → ℕ → List Test
explain_tests state tld day rev =
    (RegistryUnknown, is_tld_unregistered state tld)
    ∷ (NoFailure, is_none (failure_notice state tld day rev))
    ∷ (DroppedAfterKeeping, is_revision_dropped state tld day rev)
    ∷ []

abbrev pub explain_refusal : State → List ℕ → ℕ → ℕ → Option Refusal
explain_refusal state tld day rev = first_refusal (explain_tests state tld day rev)

-- ---- the judgement

-- what was known of a statement before a notice
abbrev pub known_before : State → NoticeKey → statement.Statement → Known
known_before state key stated = known_of (state_before state key) stated

-- the verdict on the bytes that are held, by what was known then
abbrev pub verdict_before : State → NoticeKey → statement.Statement → Verdict
verdict_before state key stated = verdict (joined_bytes state (first_part stated)) (known_before state key stated)

-- the places of the parts that it hangs on
abbrev pub keys_before : State → NoticeKey → statement.Statement → List PartKey
keys_before state key stated = verdict_keys (state_before state key) stated

-- the day of a registry's first deposit that passed with an id
abbrev pub passed_day : FinMap notice_cmp Notice → List ℕ → List ℕ → Option ℕ
passed_day notices tld id = option_map (λ (one : ℕ × List ℕ). one.0) (find (λ (one : ℕ × List ℕ). bytes_eq one.1 id) (passed_deposits notices tld))
