-- What a writer takes of a report, piece by piece.
use Rattle.std.proofs.Common.{OnErr, Result, Ok, Err, ◌≡◌, ◌<◌, ◌≤◌, ◌-◌, ◌+◌, ◌++◌, ◌∷◌, ◌∙◌, [], List, ℕ, Option, Some, None, append-nil, append_assoc, ap, arith, drop, drop-cons, get_or, length, length-append, length-drop, subst, suc, sym, take}
use Rattle.std.proofs.lemmas.List.{drop-drop, take-append-drop, take-append-le, take_all, take_more}
use Rattle.std.proofs.Math.Seq.{take-add, take-append-add}
use Rattle.std.proofs.lemmas.Grind.{flat_map-append}
use Rattle.std.specs.Io.KnownBytes.{Appends}
use Rattle.desk.specs.Lines.{AppendsBeginning, line, report_text}
use Rattle.desk.specs.declared.notices.Notice.{Notice}

-- one piece after another
pub appends_then : (old mid new : Option (List ℕ)) (first second : List ℕ) → Appends old mid first → Appends mid new second → Appends old new (first ++ second)
appends_then None mid new first second a b = tt
appends_then (Some xs) None new first second a b = absurd a
appends_then (Some xs) (Some ys) None first second a b = absurd b
appends_then (Some xs) (Some ys) (Some zs) first second a b = b ∙ ap (λ (t : List ℕ). t ++ second) a ∙ append_assoc xs first second

-- no byte
pub appends_none : (old : Option (List ℕ)) → Appends old old []
appends_none None = tt
appends_none (Some xs) = sym (append-nil xs)

-- the bytes up to those that are left were taken
pub record AreTaken (old new : Option (List ℕ)) (bytes rest : List ℕ) : Type 0 where
  pub short : length rest ≤ length bytes
  pub left : rest ≡ drop (length bytes - length rest) bytes
  pub taken : Appends old new (take (length bytes - length rest) bytes)

pub taken_none : (old : Option (List ℕ)) (bytes : List ℕ) → AreTaken old old bytes bytes
taken_none old bytes =
    let none : length bytes - length bytes ≡ 0 = omega arith in
    record {
      short = omega arith;
      left = sym (ap (λ (n : ℕ). drop n bytes) none);
      taken = subst (λ (n : ℕ). Appends old old (take n bytes)) (sym none) (appends_none old);
    }

take_two : (bytes : List ℕ) (t n : ℕ) → t ≤ length bytes → take t bytes ++ take n (drop t bytes) ≡ take (t + n) bytes
take_two bytes t n fits = sym (take-add t n bytes)

pub taken_more : (old mid new : Option (List ℕ)) (bytes rest : List ℕ) (n : ℕ) → AreTaken old mid bytes rest → n ≤ length rest → Appends mid new (take n rest) → AreTaken old new bytes (drop n rest)
taken_more old mid new bytes rest n so fits more =
    let t = length bytes - length rest in
    let len = length-drop n rest in
    let sum : length bytes - length (drop n rest) ≡ t + n = omega (arith, len, so.short, fits) in
    let within : t ≤ length bytes = omega arith in
    record {
      short = omega (arith, len, so.short);
      left = ap (drop n) so.left ∙ drop-drop n t bytes ∙ ap (λ (m : ℕ). drop m bytes) (sym sum);
      taken = subst (λ (m : ℕ). Appends old new (take m bytes)) (sym sum)
          (subst (λ (b : List ℕ). Appends old new b) (ap (λ (b : List ℕ). take t bytes ++ take n b) so.left ∙ take_two bytes t n within)
          (appends_then old mid new (take t bytes) (take n rest) so.taken more));
    }

pub taken_all : (old new : Option (List ℕ)) (bytes rest : List ℕ) → AreTaken old new bytes rest → rest ≡ [] → Appends old new bytes
taken_all old new bytes rest so none =
    subst (λ (b : List ℕ). Appends old new b) (take_all (length bytes - length rest) bytes (omega (arith, ap length none))) so.taken

pub taken_begins : (old new : Option (List ℕ)) (bytes rest : List ℕ) → AreTaken old new bytes rest → AppendsBeginning old new bytes
taken_begins old new bytes rest so = (length bytes - length rest, omega arith, so.taken)

-- a report up to a line, the line, and what follows
report_parts : (notices : List Notice) (i : ℕ) (d : Notice) → i < length notices → report_text notices ≡ report_text (take i notices) ++ (line (get_or notices i d) ++ report_text (drop (suc i) notices))
report_parts notices i d inside =
    ap report_text (sym (take-append-drop i notices)) ∙ flat_map-append line (take i notices) (drop i notices)
    ∙ ap (λ (ns : List Notice). report_text (take i notices) ++ report_text ns) (drop-cons notices i d inside)

-- a beginning of the second text, behind the first
begins_behind : (a b c : List ℕ) (k : ℕ) → k ≤ length b → take (length a + k) (a ++ (b ++ c)) ≡ a ++ take k b
begins_behind a b c k fits = take-append-add a (b ++ c) k ∙ ap (λ (t : List ℕ). a ++ t) (take-append-le k b c fits)

pub report_begins : (old mid new : Option (List ℕ)) (notices : List Notice) (i : ℕ) (d : Notice) → i < length notices → Appends old mid (report_text (take i notices))
    → AppendsBeginning mid new (line (get_or notices i d)) → AppendsBeginning old new (report_text notices)
report_begins old mid new notices i d inside before begun =
    let a = report_text (take i notices) in
    let b = line (get_or notices i d) in
    let c = report_text (drop (suc i) notices) in
    let parts = report_parts notices i d inside in
    let long : length (report_text notices) ≡ length a + (length b + length c) = ap length parts ∙ length-append a (b ++ c) ∙ ap (λ (n : ℕ). length a + n) (length-append b c) in
    let text : a ++ take begun.0 b ≡ take (length a + begun.0) (report_text notices) = sym (begins_behind a b c begun.0 begun.1) ∙ ap (take (length a + begun.0)) (sym parts) in (
      length a + begun.0,
      omega (arith, long, begun.1),
      subst (λ (t : List ℕ). Appends old new t) text (appends_then old mid new a (take begun.0 b) before begun.2),
    )

pub report_more : (old mid new : Option (List ℕ)) (notices : List Notice) (i : ℕ) (d : Notice) → i < length notices → Appends old mid (report_text (take i notices))
    → Appends mid new (line (get_or notices i d)) → Appends old new (report_text (take (i + 1) notices))
report_more old mid new notices i d inside before here =
    let one : line (get_or notices i d) ++ [] ≡ line (get_or notices i d) = append-nil (line (get_or notices i d)) in
    let text : report_text (take i notices) ++ line (get_or notices i d) ≡ report_text (take (i + 1) notices) =
    ap (λ (t : List ℕ). report_text (take i notices) ++ t) (sym one) ∙ sym (flat_map-append line (take i notices) (get_or notices i d ∷ [])) ∙ ap report_text (sym (take_more notices i d inside)) in
    subst (λ (t : List ℕ). Appends old new t) text (appends_then old mid new (report_text (take i notices)) (line (get_or notices i d)) before here)

-- what holds whatever the error
pub on_err : {A E : Type 0} (r : Result A E) (P : Type 0) → P → OnErr r P
on_err (Ok a) P h = tt
on_err (Err e) P h = h
