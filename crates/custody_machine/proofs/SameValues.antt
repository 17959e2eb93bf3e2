-- The tests of sameness decide whether two values are equal.
use Rattle.std.specs.Prelude.{bytes_eq}
use Rattle.std.proofs.Common.{◌≡◌, ℕ, List, Bool, refl, sym, ◌∙◌, ap, nat_eq, ◌==◌, Some, None, Option}
use Rattle.std.specs.Bool.{Decides}
use Rattle.std.specs.Cmp.Lexicographic.{pointwise_decides, bytes_decides}
use Rattle.std.specs.FinMap.{FinMap, entries, same_entries_map}
use Rattle.std.specs.declared.cmp.Ordering.{Ordering}
use Rattle.std.proofs.lemmas.Bool.Decides.{Decides-eqb, Decides-like, Decides-and}
use Rattle.deposit_name.proofs.KindLemmas.{same_kind_decides}
use Rattle.desk.specs.Checks.{check_number}
use Rattle.desk.specs.Grounds.{ground_text}
use Rattle.desk.specs.declared.checks.Check.{Check}
use Rattle.desk.specs.declared.grounds.Ground.{Ground}
use Rattle.desk.specs.declared.notices.NoticeKind.{NoticeKind}
use Rattle.desk.specs.declared.notices.NoticeKind.TheVariants.{Receipt, Failure, Absence}
use Rattle.custody_records.specs.Keys.{PartKey, NoticeKey}
use Rattle.custody_records.specs.Records.{Notice, Release, Hold}
use Rattle.custody_records.specs.Form.{check_in, ground_in}
use Rattle.custody_machine.specs.State.{State, Part, Content, Held, Dropped}
use Rattle.custody_machine.specs.SameValues.{is_same_ground, is_same_key, is_same_notice_key, is_same_content, is_same_part, is_same_notice_kind, is_same_notice, is_same_release, is_same_moment, is_same_hold, is_same_map, is_same_state}
use Rattle.custody_records.proofs.FieldLemmas.{ground_in-ground_text, check_in-check_number}

pub text_decides : (a b : List ℕ) → Decides (bytes_eq a b) (a ≡ b)
text_decides = bytes_decides

-- values that are read back from their texts are equal where these are
by_text : {X T : Type 0} (text : X → T) (read : T → Option X) → ((x : X) → read (text x) ≡ Some x) → (a b : X) → text a ≡ text b → a ≡ b
by_text text read back a b e = let both : Some a ≡ Some b = sym (back a) ∙ ap read e ∙ back b in cc

check_decides : (a b : Check) → Decides (check_number a == check_number b) (a ≡ b)
check_decides a b = Decides-like _ (by_text check_number check_in check_in-check_number a b) (ap check_number) (Decides-eqb (check_number a) (check_number b))

pub ground_decides : (a b : Ground) → Decides (is_same_ground a b) (a ≡ b)
ground_decides a b = Decides-like _ (by_text ground_text ground_in ground_in-ground_text a b) (ap ground_text) (text_decides (ground_text a) (ground_text b))

pub key_decides : (a b : PartKey) → Decides (is_same_key a b) (a ≡ b)
key_decides a b = Decides-like _ (λ p i. record { tld = p.0 i; day = p.1.0 i; rev = p.1.1.0 i; part = p.1.1.1 i })
    (λ e. (ap (λ (k : PartKey). k.tld) e, (ap (λ (k : PartKey). k.day) e, (ap (λ (k : PartKey). k.rev) e, ap (λ (k : PartKey). k.part) e))))
    (Decides-and _ _ (text_decides a.tld b.tld) (Decides-and _ _ (Decides-eqb a.day b.day) (Decides-and _ _ (Decides-eqb a.rev b.rev) (Decides-eqb a.part b.part))))

pub notice_key_decides : (a b : NoticeKey) → Decides (is_same_notice_key a b) (a ≡ b)
notice_key_decides a b = Decides-like _ (λ p i. record { tld = p.0 i; number = p.1 i })
    (λ e. (ap (λ (k : NoticeKey). k.tld) e, ap (λ (k : NoticeKey). k.number) e))
    (Decides-and _ _ (text_decides a.tld b.tld) (Decides-eqb a.number b.number))

content_decides : (a b : Content) → Decides (is_same_content a b) (a ≡ b)
content_decides (Held a) (Held b) = Decides-like _ (ap Held) (λ e. cc) (text_decides a b)
content_decides (Dropped m) (Dropped n) = Decides-like _ (ap Dropped) (λ e. cc) (Decides-eqb m n)
content_decides a b = (λ e. cc, λ e. cc)

pub part_decides : (a b : Part) → Decides (is_same_part a b) (a ≡ b)
part_decides a b = Decides-like _ (λ p i. record { kind = p.0 i; received = p.1.0 i; content = p.1.1 i })
    (λ e. (ap (λ (k : Part). k.kind) e, (ap (λ (k : Part). k.received) e, ap (λ (k : Part). k.content) e)))
    (Decides-and _ _ (same_kind_decides a.kind b.kind) (Decides-and _ _ (Decides-eqb a.received b.received) (content_decides a.content b.content)))

pub notice_kind_decides : (a b : NoticeKind) → Decides (is_same_notice_kind a b) (a ≡ b)
notice_kind_decides (Receipt r id) (Receipt s jd) = Decides-like _ (λ p i. Receipt (p.0 i) (p.1 i)) (λ e. (cc, cc)) (Decides-and _ _ (Decides-eqb r s) (text_decides id jd))
notice_kind_decides (Failure r id c) (Failure s jd d) = Decides-like _ (λ p i. Failure (p.0 i) (p.1.0 i) (p.1.1 i)) (λ e. (cc, (cc, cc))) (Decides-and _ _ (Decides-eqb r s) (Decides-and _ _ (text_decides id jd) (check_decides c d)))
notice_kind_decides Absence Absence = (λ _. refl, λ _. refl)
notice_kind_decides a b = (λ e. cc, λ e. cc)

pub notice_decides : (a b : Notice) → Decides (is_same_notice a b) (a ≡ b)
notice_decides a b = Decides-like _ (λ p i. record { day = p.0 i; at = p.1.0 i; kind = p.1.1 i })
    (λ e. (ap (λ (k : Notice). k.day) e, (ap (λ (k : Notice). k.at) e, ap (λ (k : Notice). k.kind) e)))
    (Decides-and _ _ (Decides-eqb a.day b.day) (Decides-and _ _ (Decides-eqb a.at b.at) (notice_kind_decides a.kind b.kind)))

pub release_decides : (a b : Release) → Decides (is_same_release a b) (a ≡ b)
release_decides a b = Decides-like _ (λ p i. record { tld = p.0 i; reason = p.1.0 i; at = p.1.1.0 i; names = p.1.1.1 i })
    (λ e. (ap (λ (k : Release). k.tld) e, (ap (λ (k : Release). k.reason) e, (ap (λ (k : Release). k.at) e, ap (λ (k : Release). k.names) e))))
    (Decides-and _ _ (text_decides a.tld b.tld) (Decides-and _ _ (ground_decides a.reason b.reason) (Decides-and _ _ (Decides-eqb a.at b.at) (pointwise_decides text_decides a.names b.names))))

moment_decides : (a b : Option ℕ) → Decides (is_same_moment a b) (a ≡ b)
moment_decides (Some a) (Some b) = Decides-like _ (ap Some) (λ e. cc) (Decides-eqb a b)
moment_decides None None = (λ _. refl, λ _. refl)
moment_decides a b = (λ e. cc, λ e. cc)

pub hold_decides : (a b : Hold) → Decides (is_same_hold a b) (a ≡ b)
hold_decides a b = Decides-like _ (λ p i. record { tld = p.0 i; day = p.1.0 i; at = p.1.1.0 i; lifted = p.1.1.1 i })
    (λ e. (ap (λ (k : Hold). k.tld) e, (ap (λ (k : Hold). k.day) e, (ap (λ (k : Hold). k.at) e, ap (λ (k : Hold). k.lifted) e))))
    (Decides-and _ _ (text_decides a.tld b.tld) (Decides-and _ _ (Decides-eqb a.day b.day) (Decides-and _ _ (Decides-eqb a.at b.at) (moment_decides a.lifted b.lifted))))

pub map_decides : {K X : Type 0} {R : K → K → Ordering} (key : K → K → Bool) (value : X → X → Bool) → ((a b : K) → Decides (key a b) (a ≡ b)) → ((a b : X) → Decides (value a b) (a ≡ b))
    → (m n : FinMap R X) → Decides (is_same_map key value m n) (m ≡ n)
map_decides {K} {X} {R} key value k v m n = Decides-like _ (same_entries_map m n) (ap entries)
    (pointwise_decides (λ (p q : K × X). Decides-like _ (λ e i. (e.0 i, e.1 i)) (λ e. (ap (λ (z : K × X). z.0) e, ap (λ (z : K × X). z.1) e)) (Decides-and _ _ (k p.0 q.0) (v p.1 q.1))) (entries m) (entries n))

pub state_decides : (a b : State) → Decides (is_same_state a b) (a ≡ b)
state_decides a b = Decides-like _ (λ p i. record { registries = p.0 i; parts = p.1.0 i; notices = p.1.1.0 i; releases = p.1.1.1.0 i; holds = p.1.1.1.1 i })
    (λ e. (ap (λ (k : State). k.registries) e, (ap (λ (k : State). k.parts) e, (ap (λ (k : State). k.notices) e, (ap (λ (k : State). k.releases) e, ap (λ (k : State). k.holds) e)))))
    (Decides-and _ _ (map_decides bytes_eq nat_eq text_decides Decides-eqb a.registries b.registries)
    (Decides-and _ _ (map_decides is_same_key is_same_part key_decides part_decides a.parts b.parts)
    (Decides-and _ _ (map_decides is_same_notice_key is_same_notice notice_key_decides notice_decides a.notices b.notices)
    (Decides-and _ _ (map_decides bytes_eq is_same_release text_decides release_decides a.releases b.releases)
    (map_decides bytes_eq is_same_hold text_decides hold_decides a.holds b.holds)))))
