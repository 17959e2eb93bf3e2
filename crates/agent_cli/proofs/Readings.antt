-- What the matches of a parse give, and where a parse that passes has met a subcommand.
use Rattle.std.proofs.Common.{◌∙◌, ◌≡◌, ◌≤◌, ◌<◌, ◌^◌, ◌&&◌, ◌||◌, not, if◌then◌else◌, nat_le, nat_lt, ap, arith, refl, sym, subst, IsErrAnd, inl, inr, List, ℕ, [], ◌∷◌, Bool, true, false, Option, Some, None, Result, Ok, Err, option_and_then, option_map, slice_get, unwrap_or, IfSome, cond, find, is_some, length}
use Rattle.std.specs.Borrow.{Bor}
use Rattle.std.specs.List.{list_all}
use Rattle.std.specs.Option.{option_map_or}
use Rattle.std.specs.Str.{bytes_eq}
use Rattle.std.specs.Str.Parse.{ExplainsUnsignedError, HasUnsignedDigitsIfOk, ParsesUnsigned, digits_value, without_leading_plus}
use Rattle.clap.specs.Values.{read_as}
use Rattle.clap.specs.Words.{Row, Shape, Text, first_of, kind_of, subcommand_of, fault_of, built, HasKind, IsAmong, Kinds, one_text, rows_of}
use Rattle.clap.specs.Walk.{answers_to, is_empty, nothing_held, row_text, stop_after, walk_from}
use Rattle.clap.specs.Simple.{argument_words, entered, label_of, names_of, rows_at}
use Rattle.clap.specs.Matches.{subcommand_name_of}
use Rattle.clap.specs.Words.{subcommand_rows_of}
use Rattle.clap.specs.declared.parser.ArgMatches.{ArgMatches}
use Rattle.clap.specs.declared.parser.matches.Found.{Found}
use Rattle.clap.proofs.WalkLemmas.{both, one_text-rows}
use Rattle.std.proofs.lemmas.Bool.{ne_eqb}
use Rattle.clap.specs.Matches.{ReadsOne}
use Rattle.clap.specs.ValueTests.{is_numeral, is_unsigned_in}
use Rattle.clap.specs.declared.builder.ValueParser.TheVariants.{Unsigned}
use Rattle.clap.specs.declared.error.Error.{Error}
use Rattle.clap.specs.declared.error.ErrorKind.{ErrorKind}
use Rattle.clap.proofs.ValueTestLemmas.{accepts-Accepts, Accepts-accepts}
use Rattle.agent_cli.specs.Grammar.{escrow_app}
use Rattle.agent_cli.proofs.HelpLemmas.{IsNotHelp, first_empty, other_way, walk_none}
use Rattle.agent_cli.specs.Forms.{count_if_given, count_in_text, count_of}
use Rattle.agent_cli.specs.Order.{AnswersAsRead, AnswersReading, IsFaultFrom, OrderReading, ReadsWords, SubcommandReading, WordsReading, meaning, subcommand_named}
use Rattle.agent_cli.specs.declared.subcommands.Subcommand.{Subcommand}
use Rattle.agent_cli.specs.declared.order.Argument.{Argument}
use Rattle.agent_cli.specs.declared.order.Order.{Order}
use Rattle.agent_cli.specs.declared.order.WordFault.{WordFault}
use Rattle.agent_cli.specs.declared.order.WordFault.TheVariants as fault

-- ---- values

pub shown_or : (o : Option (Bor (List ℕ))) (d : Bor (List ℕ)) → (unwrap_or o d).now ≡ unwrap_or (option_map (λ s. s.now) o) d.now
shown_or None d = refl
shown_or (Some x) d = refl

-- the number that `get_one` reads, and 0 where it reads none
pub count_read : {E : Type 0} (G : List ℕ → Result ℕ E → Type 0) (t : List ℕ) (r : Option ℕ) → ((u : List ℕ) (x : Result ℕ E) → G u x → ParsesUnsigned 32 10 u x)
    → ReadsOne G t r → unwrap_or r 0 ≡ count_in_text 4294967295 t
count_read {E} G t r only read = go (is_unsigned_in 0 4294967295 t) refl r read
  where
    go : (b : Bool) → is_unsigned_in 0 4294967295 t ≡ b → (o : Option ℕ) → ReadsOne G t o → unwrap_or o 0 ≡ count_in_text 4294967295 t
    go true e (Some v) h = rw e ((only t (Ok v) h).1)
    go true e None h =
        let a = accepts-Accepts false (Unsigned 0 4294967295) t e in
        absurd (only t (Err h.0) h.1 (a.0, omega (arith, a.3)))
    go false e (Some v) h =
        let p = (only t (Ok v) h).0 in
        let yes : is_unsigned_in 0 4294967295 t ≡ true = Accepts-accepts false (Unsigned 0 4294967295) t (p.0, omega (arith, p.1), omega arith, omega (arith, p.1)) in
        let bad : true ≡ false = sym yes ∙ e in
        absurd (cc)
    go false e None h = rw e refl

-- the number that `get_one` reads of an argument
pub count_got : (f : Found) (id : Text) (r : Option ℕ) → (one_text f id ≡ None → r ≡ None)
    → ((t : Text) → one_text f id ≡ Some t → ReadsOne (λ bs v. ParsesUnsigned 32 10 bs v × ExplainsUnsignedError 10 bs v × HasUnsignedDigitsIfOk bs v) t r)
    → unwrap_or r 0 ≡ count_of id 4294967295 (rows_of f)
count_got f id r none value =
    let go : (o : Option Text) → one_text f id ≡ o → unwrap_or r 0 ≡ option_map_or (count_in_text 4294967295) o 0 =
    λ o e. (elim o as (λ v. one_text f id ≡ v → unwrap_or r 0 ≡ option_map_or (count_in_text 4294967295) v 0) [
      | None ↦ λ is. ap (λ n. unwrap_or n 0) (none is)
      | Some t ↦ λ is. count_read (λ bs v. ParsesUnsigned 32 10 bs v × ExplainsUnsignedError 10 bs v × HasUnsignedDigitsIfOk bs v) t r (λ u x g. g.0) (value t is)
    ]) e in
    go _ refl ∙ ap (λ o. option_map_or (count_in_text 4294967295) o 0) (one_text-rows f id)

-- The number up to a greatest one: the number itself where it is within, and 0 where it is above.
within : (numeral : Bool) (n most : ℕ) → most ≤ 4294967295 → (if numeral && (nat_lt n (2 ^ 64) && (nat_le 0 n && nat_le n 4294967295)) then n else 0) ≤ most
    → (if numeral && (nat_lt n (2 ^ 64) && (nat_le 0 n && nat_le n 4294967295)) then n else 0) ≡ (if numeral && (nat_lt n (2 ^ 64) && (nat_le 0 n && nat_le n most)) then n else 0)
within false n most bound h = refl
within true n most bound h = grind arith

above : (numeral : Bool) (n most : ℕ) → most ≤ 4294967295 → most < (if numeral && (nat_lt n (2 ^ 64) && (nat_le 0 n && nat_le n 4294967295)) then n else 0)
    → 0 ≡ (if numeral && (nat_lt n (2 ^ 64) && (nat_le 0 n && nat_le n most)) then n else 0)
above false n most bound h = refl
above true n most bound h = grind arith

pub count_within : (o : Option Text) (most : ℕ) → most ≤ 4294967295 → option_map_or (count_in_text 4294967295) o 0 ≤ most
    → option_map_or (count_in_text 4294967295) o 0 ≡ option_map_or (count_in_text most) o 0
count_within None most bound h = refl
count_within (Some t) most bound h = within (is_numeral (without_leading_plus t)) (digits_value 10 (without_leading_plus t)) most bound h

pub count_above : (o : Option Text) (most : ℕ) → most ≤ 4294967295 → most < option_map_or (count_in_text 4294967295) o 0
    → 0 ≡ option_map_or (count_in_text most) o 0
count_above None most bound h = refl
count_above (Some t) most bound h = above (is_numeral (without_leading_plus t)) (digits_value 10 (without_leading_plus t)) most bound h

-- a text that is given, read otherwise
read_where_given : {Y : Type 0} (f : Text → Y) (d : Y) (o : Option Row) (shown : Option Text) → shown ≡ option_and_then (λ (r : Row). slice_get r.values 0) o
    → option_map (λ t. option_map_or f (option_and_then row_text o) d) shown ≡ option_map f (option_and_then row_text o)
read_where_given f d None shown e = rw e refl
read_where_given f d (Some r) shown e = rw e (go (slice_get r.values 0))
  where
    go : (v : Option Text) → option_map (λ t. option_map_or f (option_map (read_as r.reading) v) d) v ≡ option_map f (option_map (read_as r.reading) v)
    go None = refl
    go (Some t) = refl

-- the number of an argument that may be left out, by its text
pub count_where_given : (id : Text) (most : ℕ) (rows : List Row) (shown : Option Text) → shown ≡ first_of id rows
    → option_map (λ t. count_of id most rows) shown ≡ count_if_given id most rows
count_where_given id most rows shown e = read_where_given (count_in_text most) 0 (find (λ r. bytes_eq r.id id) rows) shown e

-- ---- faults

among_some : (k : ErrorKind) (xs : Kinds) → IsAmong k xs → is_empty xs ≡ false
among_some k [] h = absurd h
among_some k (x ∷ xs) h = ne_eqb (length (x ∷ xs)) 0 (λ e. omega (arith, e))

pub refused_by : (words : List Text) → is_empty (fault_of escrow_app words) ≡ false → ReadsWords words None
unfolding ReadsWords
refused_by words e = rw e refl

-- an error of clap is an answer, where it has a kind that the words call for
pub fault_answers : (words : List Text) (e : Error) (w : WordFault) → IsFaultFrom e w → HasKind (fault_of escrow_app words) e → AnswersReading (ReadsWords words) (Err w)
fault_answers words e (fault.Words f) h (inl no_memory) = absurd (h.1 no_memory)
fault_answers words e (fault.Words f) h (inr among) = refused_by words (among_some (kind_of e) _ among)
fault_answers words e (fault.Bad a) h k = absurd h
fault_answers words e fault.NoMemory h k = tt

-- an argument out of form is an answer
pub bad_answers : {X Y : Type 0} (says : X → Y) (Reads : Result Y Argument → Type 0) (a : Argument) (e : WordFault) → e ≡ fault.Bad a → (r : Result X WordFault) → IsErrAnd r (λ y. y ≡ e)
    → Reads (Err a) → AnswersAsRead says Reads r
bad_answers says Reads a e is (Ok o) h reads = absurd h
bad_answers says Reads a e is (Err x) h reads = subst (λ (y : WordFault). AnswersAsRead says Reads (Err y)) (sym (h ∙ is)) reads

-- words that give no value give nothing that is read with it
pub no_value_answers : {X M Y N : Type 0} (says : X → M) (Reads : Result M Argument → Type 0) (all_says : Y → N) (All : Result N Argument → Type 0)
    → ((a : Argument) → Reads (Err a) → All (Err a)) → (e : WordFault) → AnswersAsRead says Reads (Err e)
    → (r : Result Y WordFault) → IsErrAnd r (λ y. y ≡ e) → AnswersAsRead all_says All r
no_value_answers says Reads all_says All passes e reads (Ok o) h = absurd h
no_value_answers says Reads all_says All passes (fault.Bad a) reads (Err x) h =
    subst (λ (y : WordFault). AnswersAsRead all_says All (Err y)) (sym h) (passes a reads)
no_value_answers says Reads all_says All passes (fault.Words e) reads (Err x) h = absurd reads
no_value_answers says Reads all_says All passes fault.NoMemory reads (Err x) h = absurd reads

-- ---- a subcommand

at_test : {X : Type 0} (q : X → Bool) (x : X) (rest : Option X) (b : Bool) → (q x || not b) ≡ true → IfSome rest (λ y. q y ≡ true)
    → IfSome (cond b (Some x) rest) (λ y. q y ≡ true)
at_test q x rest true here later = at_least (q x) here
  where
    at_least : (b : Bool) → (b || false) ≡ true → b ≡ true
    at_least true e = refl
    at_least false e = e
at_test q x rest false here later = later

found_passes : {X : Type 0} (p q : X → Bool) (xs : List X) → list_all (λ x. q x || not (p x)) xs ≡ true → IfSome (find p xs) (λ x. q x ≡ true)
found_passes p q [] h = tt
found_passes p q (x ∷ xs) h = at_test q x (find p xs) (p x) (both _ _ h).0 (found_passes p q xs (both _ _ h).1)

shape_named : (o : Option Shape) (words : List Text) → IfSome o (λ s. is_some (subcommand_named s.name) ≡ true)
    → IfSome (option_map (λ s. rows_at s words) o) (λ p. is_some (subcommand_named p.0) ≡ true)
shape_named None words h = tt
shape_named (Some s) words h = h

-- words that pass name a subcommand of the table: `help`, which is none, is told as help
pub knows_subcommand : (words : List Text) → fault_of escrow_app words ≡ [] → IfSome (subcommand_of escrow_app words) (λ p. is_some (subcommand_named p.0) ≡ true)
knows_subcommand words none =
    let rest = argument_words escrow_app words in
    go (stop_after (built escrow_app).top.rules (names_of (built escrow_app)) rest)
    (walk_none (built escrow_app).top (names_of (built escrow_app)) refl rest (walk_from nothing_held) tt (first_empty _ _ none))
  where
    go : (stop : Option (Text × List Text)) → IsNotHelp stop → IfSome (entered (built escrow_app) stop) (λ p. is_some (subcommand_named p.0) ≡ true)
    go None other = tt
    go (Some p) other =
        let test : Shape → Bool = λ s. answers_to p.0 (label_of s) in
        let help = other_way p.0 other in
        shape_named (find test (built escrow_app).subs) p.1 (found_passes test (λ s. is_some (subcommand_named s.name)) (built escrow_app).subs (rw help refl))

pair_of : {X : Type 0} (h : X → Text × List Row) (s : Option X) (name : Text) (rows : List Row) → Some name ≡ option_map (λ b. (h b).0) s
    → Some rows ≡ option_map {T = Text × List Row} (λ p. p.1) (option_map h s) → option_map h s ≡ Some (name, rows)
pair_of h None name rows e1 e2 = absurd (cc)
pair_of h (Some b) name rows e1 e2 =
    let same_name : name ≡ (h b).0 = cc in
    let same_rows : rows ≡ (h b).1 = cc in
    rw (same_name, same_rows) refl

-- the subcommand that a parse met, by its name and its rows
pub met_rows : (m : ArgMatches) (name : Text) (rows : List Row) → Some name ≡ subcommand_name_of m
    → Some rows ≡ option_map (λ p. p.1) (subcommand_rows_of m) → subcommand_rows_of m ≡ Some (name, rows)
met_rows m name rows e1 e2 = pair_of _ _ name rows e1 e2

-- the order that a subcommand's words give is the words' reading
pub order_answers : (subcommand : Subcommand) (rows : List Row) (Reads : WordsReading → Type 0) → ((r : WordsReading) → SubcommandReading (Some subcommand) rows r → Reads r)
    → (r : Result Order WordFault) → AnswersAsRead meaning (OrderReading subcommand rows) r → AnswersReading Reads r
order_answers subcommand rows Reads sub (Ok o) h = sub (Some (Ok (meaning o))) h
order_answers subcommand rows Reads sub (Err (fault.Bad a)) h = sub (Some (Err a)) h
order_answers subcommand rows Reads sub (Err (fault.Words e)) h = absurd h
order_answers subcommand rows Reads sub (Err fault.NoMemory) h = absurd h

pub met_asks : (words : List Text) (name : Text) (rows : List Row) → fault_of escrow_app words ≡ []
    → subcommand_of escrow_app words ≡ Some (name, rows) → (r : WordsReading) → SubcommandReading (subcommand_named name) rows r → ReadsWords words r
unfolding ReadsWords
met_asks words name rows none met r h = rw (none, met) h
