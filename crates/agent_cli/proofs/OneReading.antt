-- Words ask for one thing at most.
use Rattle.std.proofs.Common.{◌≡◌, ℕ, List, ap, sym, subst, ◌∙◌, Bool, true, false, Option, Some, None, Result, Ok, Err, inl, inr}
use Rattle.std.specs.Prelude.{IsSomeAnd, MatchBool}
use Rattle.desk.specs.Grounds.{ground_text}
use Rattle.desk.specs.declared.grounds.Ground.{Ground}
use Rattle.custody_records.specs.Form.{ground_in}
use Rattle.custody_records.proofs.FieldLemmas.{ground_in-ground_text}
use Rattle.clap.specs.Words.{Row, Text, fault_of, subcommand_of}
use Rattle.clap.specs.Walk.{is_empty}
use Rattle.deposit_name.proofs.NameLemmas.{kind_text-injective}
use Rattle.agent_cli.specs.Grammar.{escrow_app}
use Rattle.agent_cli.specs.Forms.{ShowsDay, ShowsMoment}
use Rattle.agent_cli.specs.Order.{DeedReading, IsOneReading, MatchesReading, OrderReading, ReadsValue, ReadsValues, ReadsWords, StatementReading, SubcommandReading, WordsReading, subcommand_named}
use Rattle.agent_cli.specs.declared.subcommands.Subcommand.{Subcommand}
use Rattle.agent_cli.specs.declared.subcommands.Subcommand.TheVariants as subcommand
use Rattle.agent_cli.specs.declared.order.Argument.{Argument}
use Rattle.agent_cli.proofs.FormLemmas.{if_given_one}
use Rattle.answer_lines.proofs.NumberLemmas.{digits_of-injective}
use Rattle.schedule.proofs.TextLemmas.{day_text-injective, moment_text-injective}

abbrev IsOne : {R : Type 0} → (R → Type 0) → Type 0
IsOne {R} Reads = (r s : R) → Reads r → Reads s → r ≡ s

value_one : {X Y : Type 0} (a : Argument) (Shows : X → Type 0) (Next : X → Result Y Argument → Type 0)
    → ((x y : X) → Shows x → Shows y → x ≡ y) → ((x : X) → IsOne (Next x)) → IsOne (ReadsValue a Shows Next)
value_one a Shows Next one next r s (inl p) (inl q) =
    next q.0 r s (subst (λ x. Next x r) (one p.0 q.0 p.1 q.1) p.2) q.2
value_one a Shows Next one next r s (inl p) (inr q) = absurd (q.0 p.0 p.1)
value_one a Shows Next one next r s (inr p) (inl q) = absurd (p.0 q.0 q.1)
value_one a Shows Next one next r s (inr p) (inr q) = p.1 ∙ sym q.1

values_one : {X Y : Type 0} (Reads : Result X Argument → Type 0) (Next : X → Result Y Argument → Type 0)
    → IsOne Reads → ((x : X) → IsOne (Next x)) → IsOne (ReadsValues Reads Next)
values_one Reads Next one next r s (inl p) (inl q) =
    let both = one (Ok p.0) (Ok q.0) p.1 q.1 in
    let same : q.0 ≡ p.0 = cc in
    next p.0 r s p.2 (rw same at q.2)
values_one Reads Next one next r s (inl p) (inr q) =
    let clash = one (Ok p.0) (Err q.0) p.1 q.1 in absurd (cc)
values_one Reads Next one next r s (inr p) (inl q) =
    let clash = one (Err p.0) (Ok q.0) p.1 q.1 in absurd (cc)
values_one Reads Next one next r s (inr p) (inr q) =
    let both = one (Err p.0) (Err q.0) p.1 q.1 in
    let same : p.0 ≡ q.0 = cc in
    p.2 ∙ ap (λ a. Err a) same ∙ sym q.2

-- one value in all
only_one : {R : Type 0} (x : R) → IsOne (λ r. r ≡ x)
only_one x r s h k = h ∙ sym k

-- a text that is the value itself
text_one : (text : Text) (Is : Text → Type 0) (x y : Text) → (x ≡ text) × Is x → (y ≡ text) × Is y → x ≡ y
text_one text Is x y h k = h.0 ∙ sym k.0

day_one : (text : Text) (x y : ℕ) → ShowsDay text x → ShowsDay text y → x ≡ y
day_one text x y h k = day_text-injective x y h.0 k.0 (sym h.1 ∙ k.1)

moment_one : (text : Text) (x y : ℕ) → ShowsMoment text x → ShowsMoment text y → x ≡ y
moment_one text x y h k = moment_text-injective x y h.0 k.0 (sym h.1 ∙ k.1)

ground_text-injective : (a b : Ground) → ground_text a ≡ ground_text b → a ≡ b
ground_text-injective a b e = let both : Some a ≡ Some b = sym (ground_in-ground_text a) ∙ ap ground_in e ∙ ground_in-ground_text b in cc

statement_one : (rows : List Row) → IsOne (StatementReading rows)
statement_one rows =
    value_one _ _ _ (text_one _ _) (λ tld.
    value_one _ _ _ (day_one _) (λ day.
    value_one _ _ _ (λ x y h k. kind_text-injective x y (sym h ∙ k)) (λ kind.
    value_one _ _ _ (text_one _ _) (λ id. only_one _))))

deed_one : (subcommand : Subcommand) (rows : List Row) → IsOne (DeedReading subcommand rows)
deed_one subcommand.Init rows = value_one _ _ _ (λ x y h k. digits_of-injective x y h.0 k.0 (sym h.1 ∙ k.1)) (λ number. only_one _)
deed_one subcommand.Register rows = value_one _ _ _ (text_one _ _) (λ tld. value_one _ _ _ (day_one _) (λ first. only_one _))
deed_one subcommand.Put rows = only_one _
deed_one subcommand.Preview rows = values_one _ _ (statement_one rows) (λ stated. only_one _)
deed_one subcommand.Verify rows = values_one _ _ (statement_one rows) (λ stated. only_one _)
deed_one subcommand.Due rows = only_one _
deed_one subcommand.Sweep rows = only_one _
deed_one subcommand.Purge rows = only_one _
deed_one subcommand.Hold rows =
    value_one _ _ _ (text_one _ _) (λ tld.
    value_one _ _ _ (day_one _) (λ day.
    value_one _ _ _ (text_one _ _) (λ reference. only_one _)))
deed_one subcommand.Lift rows = value_one _ _ _ (text_one _ _) (λ reference. only_one _)
deed_one subcommand.Release rows =
    value_one _ _ _ (text_one _ _) (λ tld.
    value_one _ _ _ (text_one _ _) (λ reference.
    value_one _ _ _ (λ x y h k. ground_text-injective x y (sym h ∙ k)) (λ reason. only_one _)))
deed_one subcommand.Fetch rows = value_one _ _ _ (text_one _ _) (λ reference. only_one _)
deed_one subcommand.Report rows = value_one _ _ _ (text_one _ _) (λ tld. only_one _)
deed_one subcommand.Explain rows = value_one _ _ _ (text_one _ _) (λ tld. value_one _ _ _ (day_one _) (λ day. only_one _))
deed_one subcommand.Digests rows = value_one _ _ _ (text_one _ _) (λ tld. only_one _)
deed_one subcommand.State rows = only_one _
deed_one subcommand.Audit rows = only_one _
deed_one subcommand.Batch rows = only_one _
deed_one subcommand.Serve rows = only_one _

order_one : (subcommand : Subcommand) (rows : List Row) → IsOne (OrderReading subcommand rows)
order_one subcommand rows =
    values_one _ _ (deed_one subcommand rows) (λ deed. value_one _ _ _ (if_given_one ShowsMoment moment_one _) (λ now. only_one _))

some_one : {R : Type 0} (P : R → Type 0) → IsOne P → IsOne (λ r. IsSomeAnd r P)
some_one P one (Some r) (Some s) h k = ap (λ x. Some x) (one r s h k)
some_one P one (Some r) None h k = absurd k
some_one P one None s h k = absurd h

either_one : (b : Bool) (P Q : WordsReading → Type 0) → IsOne P → IsOne Q → IsOne (λ r. MatchBool b (P r) (Q r))
either_one true P Q p q = p
either_one false P Q p q = q

named_one : (subcommand : Option Subcommand) (rows : List Row) → IsOne (SubcommandReading subcommand rows)
named_one None rows = only_one _
named_one (Some subcommand) rows = some_one _ (order_one subcommand rows)

met_one : (met : Option (Text × List Row)) → IsOne (MatchesReading met)
met_one None = only_one _
met_one (Some p) = named_one (subcommand_named p.0) p.1

pub asks_one : IsOneReading
unfolding ReadsWords
asks_one words =
    either_one (is_empty (fault_of escrow_app words)) (MatchesReading (subcommand_of escrow_app words)) _ (met_one (subcommand_of escrow_app words)) (only_one _)
