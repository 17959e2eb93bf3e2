-- Whether two values are the same, as tests.
use Rattle.std.specs.Prelude.{ℕ, Option, Some, None, Bool, true, false, ◌&&◌, nat_eq, ◌==◌, bytes_eq}
use Rattle.std.specs.Cmp.Lexicographic.{pointwise}
use Rattle.std.specs.FinMap.{FinMap, entries}
use Rattle.std.specs.declared.cmp.Ordering.{Ordering}
use Rattle.deposit_name.specs.Name.{is_same_kind}
use Rattle.desk.specs.Checks.{check_number}
use Rattle.desk.specs.Grounds.{ground_text}
use Rattle.desk.specs.declared.grounds.Ground.{Ground}
use Rattle.desk.specs.declared.notices.NoticeKind.{NoticeKind}
use Rattle.desk.specs.declared.notices.NoticeKind.TheVariants.{Receipt, Failure, Absence}
use Rattle.custody_records.specs.Keys.{PartKey, NoticeKey}
use Rattle.custody_records.specs.Records.{Notice, Release, Hold}
use Rattle.custody_machine.specs.State.{State, Part, Content, Held, Dropped}

abbrev pub is_same_ground : Ground → Ground → Bool
is_same_ground a b = bytes_eq (ground_text a) (ground_text b)

abbrev pub is_same_key : PartKey → PartKey → Bool
is_same_key a b = bytes_eq a.tld b.tld && (a.day == b.day && (a.rev == b.rev && a.part == b.part))

abbrev pub is_same_notice_key : NoticeKey → NoticeKey → Bool
is_same_notice_key a b = bytes_eq a.tld b.tld && a.number == b.number

abbrev pub is_same_content : Content → Content → Bool
is_same_content (Held a) (Held b) = bytes_eq a b
is_same_content (Dropped m) (Dropped n) = m == n
is_same_content (Held a) (Dropped n) = false
is_same_content (Dropped m) (Held b) = false

abbrev pub is_same_part : Part → Part → Bool
is_same_part a b = is_same_kind a.kind b.kind && (a.received == b.received && is_same_content a.content b.content)

abbrev pub is_same_notice_kind : NoticeKind → NoticeKind → Bool
is_same_notice_kind (Receipt r id) (Receipt s jd) = r == s && bytes_eq id jd
is_same_notice_kind (Failure r id c) (Failure s jd d) = r == s && (bytes_eq id jd && check_number c == check_number d)
is_same_notice_kind Absence Absence = true
is_same_notice_kind (Receipt _ _) (Failure _ _ _) = false
is_same_notice_kind (Receipt _ _) Absence = false
is_same_notice_kind (Failure _ _ _) (Receipt _ _) = false
is_same_notice_kind (Failure _ _ _) Absence = false
is_same_notice_kind Absence (Receipt _ _) = false
is_same_notice_kind Absence (Failure _ _ _) = false

abbrev pub is_same_notice : Notice → Notice → Bool
is_same_notice a b = a.day == b.day && (a.at == b.at && is_same_notice_kind a.kind b.kind)

abbrev pub is_same_release : Release → Release → Bool
is_same_release a b = bytes_eq a.tld b.tld && (is_same_ground a.reason b.reason && (a.at == b.at && pointwise bytes_eq a.names b.names))

abbrev pub is_same_moment : Option ℕ → Option ℕ → Bool
is_same_moment (Some a) (Some b) = a == b
is_same_moment None None = true
is_same_moment (Some a) None = false
is_same_moment None (Some b) = false

abbrev pub is_same_hold : Hold → Hold → Bool
is_same_hold a b = bytes_eq a.tld b.tld && (a.day == b.day && (a.at == b.at && is_same_moment a.lifted b.lifted))

abbrev pub is_same_map : {K X : Type 0} {R : K → K → Ordering} → (K → K → Bool) → (X → X → Bool) → FinMap R X → FinMap R X → Bool
is_same_map {K} {X} {R} key value m n = pointwise (λ (p q : K × X). key p.0 q.0 && value p.1 q.1) (entries m) (entries n)

abbrev pub is_same_state : State → State → Bool
is_same_state a b = is_same_map bytes_eq nat_eq a.registries b.registries && (is_same_map is_same_key is_same_part a.parts b.parts
    && (is_same_map is_same_notice_key is_same_notice a.notices b.notices && (is_same_map bytes_eq is_same_release a.releases b.releases && is_same_map bytes_eq is_same_hold a.holds b.holds)))
