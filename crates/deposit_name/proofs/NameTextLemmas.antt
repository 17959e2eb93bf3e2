-- The length and the bytes of a name.
use Rattle.std.proofs.Common.{◌≡◌, ℕ, ◌+◌, ◌/◌, ◌%◌, ◌<◌, ◌≤◌, true, Bool, List, [], ◌∷◌, ◌++◌, codes, decimal, length, refl, ap, ◌∙◌, arith, inl, inr, length-append}
use Rattle.std.proofs.lemmas.Bool.{and_parts, and_from}
use Rattle.std.proofs.lemmas.List.Folds.{list_all-append}
use Rattle.std.specs.List.{list_all}
use Rattle.schedule.specs.Text.{digit, day_text, is_day_byte}
use Rattle.schedule.proofs.ReadingLemmas.{day_text-bytes}
use Rattle.deposit_name.specs.declared.kinds.Kind.{Kind}
use Rattle.deposit_name.specs.declared.kinds.Kind.TheVariants.{Full}
use Rattle.deposit_name.specs.Identifiers.{is_tld_byte}
use Rattle.deposit_name.specs.Name.{Name, IsName, kind_text, part_text, rev_text, name_text, is_name_byte}
use Rattle.deposit_name.proofs.NameLemmas.{decimal_cases}

-- ---- the length

length_of_ten : (a b c d e f g h i j : List ℕ) → length (a ++ b ++ c ++ d ++ e ++ f ++ g ++ h ++ i ++ j) ≡ length a + length b + length c + length d + length e + length f + length g + length h + length i + length j
length_of_ten a b c d e f g h i j = simp length-append

length-kind_text : (k : Kind) → length (kind_text k) ≡ 4
length-kind_text Full = refl
length-kind_text _ = refl

-- a number below 10 has one digit, and one below 100 at most two
length-digit : (n : ℕ) → n < 10 → length (decimal n) ≡ 1
length-digit n h =
    elim (decimal_cases n (omega arith)) [
      | inl one ↦ ap length one.1
      | inr two ↦ absurd (omega (arith, two.0))
    ]

length-decimal : (n : ℕ) → n ≤ 99 → length (decimal n) ≤ 2
length-decimal n h =
    elim (decimal_cases n h) [
      | inl one ↦ let l : length (decimal n) ≡ 1 = ap length one.1 in omega arith
      | inr two ↦ let l : length (decimal n) ≡ 2 = ap length two.1 in omega arith
    ]

-- a name has at most 91 bytes
pub length-name_text : (n : Name) → IsName n → length (name_text n) ≤ 91
length-name_text n h =
    let whole = length_of_ten n.tld (codes "_") (day_text n.day) (codes "_") (kind_text n.kind) (codes "_") (part_text n.part) (codes "_") (rev_text n.rev) (codes ".ryde") in
    omega (arith, whole, h.tld.length_in, length-kind_text n.kind, length-digit n.part (omega (arith, h.part)), length-decimal n.rev h.rev)

-- ---- the bytes

-- a stronger test of each byte
list_all-stronger : (strong weak : ℕ → Bool) → ((b : ℕ) → strong b ≡ true → weak b ≡ true) → (text : List ℕ) → list_all strong text ≡ true → list_all weak text ≡ true
list_all-stronger strong weak along [] h = refl
list_all-stronger strong weak along (b ∷ bs) h =
    let both = and_parts (strong b) (list_all strong bs) h in
    and_from _ _ (along b both.0) (list_all-stronger strong weak along bs both.1)

tld_byte_in_name : (b : ℕ) → is_tld_byte b ≡ true → is_name_byte b ≡ true
tld_byte_in_name b h = grind arith

day_byte_in_name : (b : ℕ) → is_day_byte b ≡ true → is_name_byte b ≡ true
day_byte_in_name b h = grind arith

digit_in_name : (n : ℕ) → n < 10 → is_name_byte (digit n) ≡ true
digit_in_name n h = grind arith

abbrev InName : List ℕ → Type 0
InName text = list_all is_name_byte text ≡ true

in_name_append : (a b : List ℕ) → InName a → InName b → InName (a ++ b)
in_name_append a b h k = list_all-append is_name_byte a b ∙ and_from _ _ h k

kind_in_name : (k : Kind) → InName (kind_text k)
kind_in_name Full = refl
kind_in_name _ = refl

decimal_in_name : (n : ℕ) → n ≤ 99 → InName (decimal n)
decimal_in_name n h =
    elim (decimal_cases n h) [
      | inl one ↦ rw one.1 (and_from (is_name_byte (digit n)) true (digit_in_name n one.0) refl)
      | inr two ↦
          let ones : InName (digit (n % 10) ∷ []) = and_from (is_name_byte (digit (n % 10))) true (digit_in_name (n % 10) (omega arith)) refl in
          rw two.1 (and_from (is_name_byte (digit (n / 10))) (list_all is_name_byte (digit (n % 10) ∷ [])) (digit_in_name (n / 10) (omega arith)) ones)
    ]

ten_in_name : (a b c d e f g h i j : List ℕ) → InName a → InName b → InName c → InName d → InName e → InName f → InName g → InName h → InName i → InName j → InName (a ++ b ++ c ++ d ++ e ++ f ++ g ++ h ++ i ++ j)
ten_in_name a b c d e f g h i j ta tb tc td te tf tg th ti tj =
    let two = in_name_append a b ta tb in
    let three = in_name_append (a ++ b) c two tc in
    let four = in_name_append (a ++ b ++ c) d three td in
    let five = in_name_append (a ++ b ++ c ++ d) e four te in
    let six = in_name_append (a ++ b ++ c ++ d ++ e) f five tf in
    let seven = in_name_append (a ++ b ++ c ++ d ++ e ++ f) g six tg in
    let eight = in_name_append (a ++ b ++ c ++ d ++ e ++ f ++ g) h seven th in
    let nine = in_name_append (a ++ b ++ c ++ d ++ e ++ f ++ g ++ h) i eight ti in
    in_name_append (a ++ b ++ c ++ d ++ e ++ f ++ g ++ h ++ i) j nine tj

-- the bytes of a name
pub name_text-bytes : (n : Name) → IsName n → list_all is_name_byte (name_text n) ≡ true
name_text-bytes n h =
    let tld = list_all-stronger is_tld_byte is_name_byte tld_byte_in_name n.tld h.tld.bytes in
    let day = list_all-stronger is_day_byte is_name_byte day_byte_in_name (day_text n.day) (day_text-bytes n.day h.day.1) in
    let part = in_name_append (codes "S") (decimal n.part) refl (decimal_in_name n.part (omega (arith, h.part))) in
    let rev = in_name_append (codes "R") (decimal n.rev) refl (decimal_in_name n.rev h.rev) in
    ten_in_name n.tld (codes "_") (day_text n.day) (codes "_") (kind_text n.kind) (codes "_") (part_text n.part) (codes "_") (rev_text n.rev) (codes ".ryde")
    tld refl day refl (kind_in_name n.kind) refl part refl rev refl
