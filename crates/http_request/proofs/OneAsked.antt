-- An input asks one thing at most.
use Rattle.std.proofs.Common.{◌≡◌, ◌<◌, ◌≤◌, ◌⊎◌, ◌∙◌, ◌==◌, inl, inr, ℕ, List, ap, ap₂, arith, refl, sym, subst, Bool, true, false}
use Rattle.std.specs.List.{list_all}
use Rattle.std.proofs.lemmas.Bool.{cases_lt, eqb-true, true_from_ne_false}
use Rattle.schedule.specs.Text.{day_text}
use Rattle.schedule.proofs.TextLemmas.{day_text-injective}
use Rattle.deposit_name.specs.declared.kinds.Kind.{Kind}
use Rattle.deposit_name.proofs.NameLemmas.{decimal-injective, kind_text-injective}
use Rattle.desk.specs.declared.grounds.Ground.{Ground}
use Rattle.desk.specs.Grounds.{ground_text}
use Rattle.custody_records.specs.Form.{ground_in}
use Rattle.custody_records.proofs.FieldLemmas.{ground_in-ground_text}
use Rattle.custody_machine.specs.declared.command.Statement as statement
use Rattle.custody_machine.specs.Machine.{Register, Statement, Check, Release, Hold}
use Rattle.httparse.specs.Grammar.{RequestHead}
use Rattle.httparse.proofs.GrammarLemmas.{request_unique}
use Rattle.serde_json.specs.Data.{Data}
use Rattle.http_request.specs.RequestMeaning.{RequestMeaning, HeadMeans, IsRequestBody, RequestsMeanOne, HasNoFaultBelow, Method, RequestFault, HasFault, asks_for, bad, fault_number}
use Rattle.http_request.specs.declared.faults.RequestFault.TheVariants as fault
use Rattle.http_request.specs.Bodies.{IsJsonOf, StatementTexts, ReleaseTexts, HoldTexts, registration_json, statement_json, release_json, hold_json}
use Rattle.http_request.specs.inside.BodyReading.{registration_text, statement_fields, release_fields, hold_fields}
use Rattle.http_request.specs.Paths.{Target, is_target_byte, limit_of, method_of}
use Rattle.http_request.specs.declared.routes.Route.{Route}
use Rattle.http_request.specs.declared.routes.Route.TheVariants as of
use Rattle.http_request.specs.Action.{RequestAction, Do, Explain, IsStatement, Means, MeansAt, texts_of_statement, handover_texts, held_day_texts}
use Rattle.http_request.proofs.BodyLemmas.{some_same, one_written, registration_back, statement_back, release_back, hold_back}
use Rattle.http_request.proofs.Finding.{one_named}
use Rattle.http_request.proofs.PlanLemmas.{fault_at, fault_back, same_body}

-- ---- a target and a body mean one thing

one_value : (body : List ℕ) (d e : Data) → IsJsonOf body d → IsJsonOf body e → d ≡ e
one_value body d e h k = some_same d e (sym h.1 ∙ k.1)

ground_text-injective : (a b : Ground) → ground_text a ≡ ground_text b → a ≡ b
ground_text-injective a b e = some_same a b (sym (ground_in-ground_text a) ∙ ap ground_in e ∙ ground_in-ground_text b)

made : List ℕ → ℕ → Kind → ℕ → ℕ → List ℕ → statement.Statement
made tld day kind rev parts id = record { tld = tld; day = day; kind = kind; rev = rev; parts = parts; id = id }

made_same : (tld tld2 : List ℕ) (day day2 : ℕ) (kind kind2 : Kind) (rev rev2 parts parts2 : ℕ) (id id2 : List ℕ)
    → tld ≡ tld2 → day ≡ day2 → kind ≡ kind2 → rev ≡ rev2 → parts ≡ parts2 → id ≡ id2 → made tld day kind rev parts id ≡ made tld2 day2 kind2 rev2 parts2 id2
made_same tld tld2 day day2 kind kind2 rev rev2 parts parts2 id id2 a b c d e f = cc

one_statement : (s t : statement.Statement) → IsStatement s → IsStatement t → texts_of_statement s ≡ texts_of_statement t → s ≡ t
unfolding made
one_statement s t h k e =
    let day = day_text-injective s.day t.day h.day k.day (ap (λ (x : StatementTexts). x.date) e) in
    let kind = kind_text-injective s.kind t.kind (ap (λ (x : StatementTexts). x.kind) e) in
    let tld : s.tld ≡ t.tld = ap (λ (x : StatementTexts). x.tld) e in
    let rev : s.rev ≡ t.rev = ap (λ (x : StatementTexts). x.revision) e in
    let parts : s.parts ≡ t.parts = ap (λ (x : StatementTexts). x.parts) e in
    let id : s.id ≡ t.id = ap (λ (x : StatementTexts). x.id) e in
    made_same s.tld t.tld s.day t.day s.kind t.kind s.rev t.rev s.parts t.parts s.id t.id tld day kind rev parts id

one_meaning : (route : Route) (first second third body : List ℕ) (v w : RequestAction) → MeansAt route first second third body v → MeansAt route first second third body w → v ≡ w
one_meaning of.Registry tld second third body v w (in_form, (d, day, json, is)) (in_form2, (e, day2, json2, is2)) =
    let texts = one_written registration_text registration_json registration_back (day_text d) (day_text e) (one_value body _ _ json json2) in
    is ∙ ap (λ (n : ℕ). Do (Register tld n)) (day_text-injective d e day day2 texts) ∙ sym is2
one_meaning of.Deposit name second third body v w h k = h ∙ sym k
one_meaning of.Statements first second third body v w (s, form, json, is) (t, form2, json2, is2) =
    let same = one_statement s t form form2 (one_written statement_fields statement_json statement_back (texts_of_statement s) (texts_of_statement t) (one_value body _ _ json json2)) in
    is ∙ ap (λ (x : statement.Statement). Do (Statement x)) same ∙ sym is2
one_meaning of.Check tld date third body v w (in_form, (d, day, text, is)) (in_form2, (e, day2, text2, is2)) =
    is ∙ ap (λ (n : ℕ). Do (Check tld n)) (day_text-injective d e day day2 (sym text ∙ text2)) ∙ sym is2
one_meaning of.Release reference second third body v w (in_form, (tld, reason, known, json, is)) (in_form2, (tld2, reason2, known2, json2, is2)) =
    let texts = one_written release_fields release_json release_back (handover_texts tld reason) (handover_texts tld2 reason2) (one_value body _ _ json json2) in
    let same_tld : tld ≡ tld2 = ap (λ (x : ReleaseTexts). x.tld) texts in
    let same_ground = ground_text-injective reason reason2 (ap (λ (x : ReleaseTexts). x.reason) texts) in
    is ∙ ap₂ (λ (t : List ℕ) (r : Ground). Do (Release reference t r)) same_tld same_ground ∙ sym is2
one_meaning of.ReleasedPart reference name third body v w h k = h.1 ∙ sym k.1
one_meaning of.Hold reference second third body v w (in_form, (tld, d, known, day, json, is)) (in_form2, (tld2, e, known2, day2, json2, is2)) =
    let texts = one_written hold_fields hold_json hold_back (held_day_texts tld d) (held_day_texts tld2 e) (one_value body _ _ json json2) in
    let same_tld : tld ≡ tld2 = ap (λ (x : HoldTexts). x.tld) texts in
    let same_day = day_text-injective d e day day2 (ap (λ (x : HoldTexts). x.date) texts) in
    is ∙ ap₂ (λ (t : List ℕ) (n : ℕ). Do (Hold reference t n)) same_tld same_day ∙ sym is2
one_meaning of.Lift reference second third body v w h k = h.1 ∙ sym k.1
one_meaning of.Notices tld second third body v w h k = h.1 ∙ sym k.1
one_meaning of.Reasons tld date revision body v w (in_form, (d, m, day, rev, text, number, is)) (in_form2, (e, n, day2, rev2, text2, number2, is2)) =
    is ∙ ap₂ (λ (x y : ℕ). Explain tld x y) (day_text-injective d e day day2 (sym text ∙ text2)) (decimal-injective m n rev rev2 (sym number ∙ number2)) ∙ sym is2
one_meaning of.Digests tld second third body v w h k = h.1 ∙ sym k.1
one_meaning of.State first second third body v w h k = h ∙ sym k
one_meaning of.Due first second third body v w h k = h ∙ sym k
one_meaning of.Purges first second third body v w h k = h ∙ sym k

-- ---- a fault is told by its number, and by the method of a 405

method_from : (f : RequestFault) → fault_number f ≡ 4 → (m : Method) × (f ≡ fault.Method m)
method_from f e = let back = fault_back f in (back.0, sym back.1 ∙ ap (fault_at back.0) e)

-- ---- a head with the bytes behind it asks one thing

module _ (h : RequestHead) (rest : List ℕ) where
  bytes_pass : (n : ℕ) → 2 < n → HasNoFaultBelow n h rest → list_all is_target_byte h.target ≡ true
  bytes_pass n above below = true_from_ne_false (list_all is_target_byte h.target) (below fault.Target (omega (arith, above)))

  one_wanted : (v w : RequestAction) → HeadMeans h rest (asks_for v) → HeadMeans h rest (asks_for w) → v ≡ w
  one_wanted v w ((t, body, names, is, means), below) ((u, body2, names2, is2, means2), below2) =
      let same = one_named h.target (bytes_pass 11 (omega arith) below) u t names2 names in
      let is3 = subst (λ (x : Target). IsRequestBody (limit_of x) h rest body2) same is2 in
      let means3 = subst (λ (x : Target). Means x body2 w) same means2 in
      let bodies = same_body h rest (limit_of t) body2 body is3 is in
      one_meaning t.route _ _ _ body v w means (subst (λ (b : List ℕ). Means t b w) bodies means3)

  one_method : (f g : RequestFault) → HasFault h rest f → HasFault h rest g → HasNoFaultBelow (fault_number f) h rest → fault_number f ≡ 4 → fault_number g ≡ 4 → f ≡ g
  one_method f g s t below p q =
      let m = method_from f p in
      let k = method_from g q in
      let a = subst (HasFault h rest) m.1 s in
      let b = subst (HasFault h rest) k.1 t in
      let same = one_named h.target (bytes_pass (fault_number f) (omega (arith, p)) below) b.0 a.0 b.1 a.1 in
      m.1 ∙ ap fault.Method (a.2 ∙ ap method_of (sym same) ∙ sym b.2) ∙ sym k.1

  one_fault : (f g : RequestFault) → HasFault h rest f → HasFault h rest g → HasNoFaultBelow (fault_number f) h rest → fault_number f ≡ fault_number g → f ≡ g
  one_fault f g s t below e = by (fault_number f == 4) refl
    where
      other : (n : ℕ) (m k : Method) → (n == 4) ≡ false → fault_at m n ≡ fault_at k n
      other n m k e = rw e refl

      by : (v : Bool) → (fault_number f == 4) ≡ v → f ≡ g
      by true at = let four = eqb-true (fault_number f) 4 at in one_method f g s t below four (sym e ∙ four)
      by false at =
          let (m, back, _, _) = fault_back f in
          let (k, back2, _, _) = fault_back g in
          sym back ∙ other (fault_number f) m k at ∙ ap (fault_at k) e ∙ back2

  one_asked_by : (a b : RequestMeaning) → HeadMeans h rest a → HeadMeans h rest b → a ≡ b
  one_asked_by (bad f) (bad g) (s, below) (t, below2) = by (cases_lt (fault_number f) (fault_number g)) (cases_lt (fault_number g) (fault_number f))
    where
      by : (fault_number f < fault_number g) ⊎ (fault_number g ≤ fault_number f) → (fault_number g < fault_number f) ⊎ (fault_number f ≤ fault_number g) → bad f ≡ bad g
      by (inl less) r = absurd (below2 f less s)
      by (inr more) (inl less) = absurd (below g less t)
      by (inr more) (inr more2) = ap bad (one_fault f g s t below (omega (arith, more, more2)))
  one_asked_by (bad f) (asks_for w) (s, below) (asked, below2) = absurd (below2 f (fault_back f).3 s)
  one_asked_by (asks_for v) (bad g) (asked, below) (t, below2) = absurd (below g (fault_back g).3 t)
  one_asked_by (asks_for v) (asks_for w) x y = ap asks_for (one_wanted v w x y)

pub one_asked : RequestsMeanOne
one_asked input a b (inl x) (inl y) = x.1 ∙ sym y.1
one_asked input a b (inl x) (inr (k, rest, reads, short, asked)) = absurd (x.0 k rest reads short)
one_asked input a b (inr (h, rest, reads, short, asked)) (inl y) = absurd (y.0 h rest reads short)
one_asked input a b (inr (h, rest, reads, short, asked)) (inr (k, rest2, reads2, short2, asked2)) =
    let same = request_unique input k h rest2 rest reads2 reads in
    one_asked_by h rest a b asked (subst (λ (r : List ℕ). HeadMeans h r b) same.1 (subst (λ (x : RequestHead). HeadMeans x rest2 b) same.0 asked2))
