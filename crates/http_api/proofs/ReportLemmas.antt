-- The report of a registry, as its notices have it and as the records do.
use Rattle.std.proofs.Common.{◌≡◌, ◌≤◌, ◌∙◌, ◌-◌, ◌^◌, ◌++◌, [], ◌∷◌, List, ℕ, Bool, true, Option, ap, ap₂, arith, if◌then◌else◌, is_some, length, length-append, map, refl, subst, sym, take}
use Rattle.std.proofs.lemmas.List.{take_at}
use Rattle.desk.specs.Lines.{line, report_text}
use Rattle.desk.specs.declared.notices.Notice.{Notice}
use Rattle.custody_records.specs.Tables.{row_entries}
use Rattle.custody_records.specs.TypedRecords.{notice_key, notice_value}
use Rattle.answer_lines.specs.Lines.{notice_text}
use Rattle.answer_lines.specs.State as state
use Rattle.answer_lines.specs.State.{lines_text, notice_line}
use Rattle.std.specs.FinMap.{get}
use Rattle.custody_records.specs.Records.{Records, notices_of}
use Rattle.custody_machine.specs.declared.answers.Failure.TheVariants.{Closed}
use Rattle.http_api.specs.declared.status.ResponseStatus.TheVariants.{Done}
use Rattle.http_api.specs.Responses.{text_response}
use Rattle.http_api.specs.Handling.{failure_response, registry_report}

cut_feed : (text : List ℕ) → text ++ 10 ∷ [] ≡ take (length (text ++ 10 ∷ []) - 1) (text ++ 10 ∷ []) ++ 10 ∷ []
cut_feed text = ap (λ (t : List ℕ). t ++ 10 ∷ []) (sym (take_at text (10 ∷ []) (length (text ++ 10 ∷ []) - 1) (omega (arith, length-append text (10 ∷ [])))))

line_is : (notice : Notice) → line notice ≡ notice_text notice ++ 10 ∷ []
line_is notice = cut_feed _

pub report_is : (notices : List Notice) → report_text notices ≡ lines_text (map notice_line (row_entries notice_key notice_value notices))
report_is [] = refl
report_is (notice ∷ notices) = ap₂ (λ (a b : List ℕ). a ++ b) (line_is notice) (report_is notices)

-- the notices of a registry are its report
text_is : (kept records : Records) (tld : List ℕ) (notices : List Notice) → records ≡ kept → row_entries notice_key notice_value notices ≡ notices_of records tld → report_text notices ≡ state.registry_report_text kept tld
text_is kept records tld notices same rows = report_is notices ∙ ap (λ es. lines_text (map notice_line es)) (rows ∙ ap (λ (r : Records). notices_of r tld) same)

-- 64 bits tell the length of both or of none
pub report_long : (kept records : Records) (tld : List ℕ) (notices : List Notice) → records ≡ kept → row_entries notice_key notice_value notices ≡ notices_of records tld
    → 2 ^ 64 ≤ length (report_text notices) → 2 ^ 64 ≤ length (state.registry_report_text kept tld)
report_long kept records tld notices same rows long = subst (λ (t : List ℕ). 2 ^ 64 ≤ length t) (text_is kept records tld notices same rows) long

-- the notices of a registry that is known are what is told of it
pub report_told : (opened : Bool) (kept records : Records) (tld : List ℕ) (day : Option ℕ) (notices : List Notice) → opened ≡ true → records ≡ kept → day ≡ get records.registries tld → is_some day ≡ true
    → row_entries notice_key notice_value notices ≡ notices_of records tld → text_response Done (report_text notices) ≡ (if opened then registry_report kept tld else failure_response Closed)
report_told opened kept records tld day notices is_opened same found there rows =
    let known : is_some (get kept.registries tld) ≡ true = ap (λ (r : Records). is_some (get r.registries tld)) (sym same) ∙ ap is_some (sym found) ∙ there in
    rw (is_opened, known) (ap (text_response Done) (text_is kept records tld notices same rows))
