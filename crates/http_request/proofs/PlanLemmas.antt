-- What stands of a request once its head is read, and what does not.
use Rattle.std.proofs.Common.{◌≡◌, ◌≢◌, ◌<◌, ◌≤◌, ◌+◌, ◌⊎◌, ◌==◌, if◌then◌else◌, inl, inr, take, ℕ, List, [], ◌∷◌, length, Option, Some, None, true, refl, sym, ap, ◌∙◌, arith, subst}
use Rattle.std.specs.List.{list_all}
use Rattle.std.specs.Str.Parse.{digits_value}
use Rattle.httparse.specs.Grammar.{RequestHead}
use Rattle.http_request.specs.Paths.{Target, NamesTarget, is_target_byte, limit_of, method_of}
use Rattle.http_request.specs.RequestMeaning.{RequestFault, Method, Get, method_text, transfer_codings, content_lengths, AreContentLength, HasBodyLimit, IsLengthFault, HasLengthFault, HasFault, HasNoFaultBelow, fault_number, IsRequestBody, bad, asks_for, HeadMeans}
use Rattle.http_request.specs.declared.faults.RequestFault.TheVariants as fault
use Rattle.http_request.specs.inside.Fields.{AreFieldValues}
use Rattle.http_request.specs.declared.fields.FieldValues.{FieldValues}
use Rattle.http_request.specs.declared.fields.FieldValues.TheVariants as named
use Rattle.http_request.specs.Plans.{IsReached, FitsLength}
use Rattle.std.proofs.lemmas.Bool.{cases_lt}
use Rattle.http_request.specs.Body.{IsDeclaredBody}
use Rattle.http_request.specs.Action.{RequestAction, Means}
use Rattle.http_request.proofs.Finding.{one_named}

pub some_values : (values : List (List ℕ)) (declared : FieldValues) → AreFieldValues values declared → declared ≢ named.None → values ≢ []
some_values values named.None h n = absurd (n refl)
some_values values (named.One value) h n = λ e. let bad = sym h ∙ e in cc
some_values values named.Several h n = λ e. let none = ap length e in omega arith

pub one_length : (values : List (List ℕ)) (m n : ℕ) → AreContentLength values m → AreContentLength values n → m ≡ n
one_length values m n a b =
    let same : a.0 ≡ b.0 = let both : a.0 ∷ [] ≡ b.0 ∷ [] = sym a.1 ∙ b.1 in cc in
    a.4 ∙ ap (digits_value 10) same ∙ sym b.4

-- ---- a fault is told by its number, and by the method of a 405

-- the fault of a number, and of this method where the number is that of a 405
abbrev pub fault_at : Method → ℕ → RequestFault
fault_at m n =
    if n == 4 then fault.Method m else
    (if n == 1 then fault.Head else
    (if n == 2 then fault.Target else
    (if n == 3 then fault.NoRoute else
    (if n == 5 then fault.TransferCoding else
    (if n == 6 then fault.NoLength else
    (if n == 7 then fault.Length else
    (if n == 8 then fault.TooLong else
    (if n == 9 then fault.BodyShort else fault.Form))))))))

pub fault_back : (f : RequestFault) → (m : Method) × (fault_at m (fault_number f) ≡ f) × (0 < fault_number f) × (fault_number f < 11)
fault_back (fault.Method m) = (m, refl, omega arith, omega arith)
fault_back _ = (Get, refl, omega arith, omega arith)

module _ (h : RequestHead) (rest : List ℕ) where
  one_below : (n : ℕ) → HasNoFaultBelow n h rest → ((m : Method) → ¬ HasFault h rest (fault_at m n)) → HasNoFaultBelow (n + 1) h rest
  one_below n below here other less = by (cases_lt (fault_number other) n)
    where
      by : (fault_number other < n) ⊎ (n ≤ fault_number other) → ¬ HasFault h rest other
      by (inl lower) = below other lower
      by (inr more) =
          let back = fault_back other in
          let same : fault_number other ≡ n = omega arith in
          subst (λ (f : RequestFault). ¬ HasFault h rest f) (ap (fault_at back.0) (sym same) ∙ back.1) (here back.0)

  below_two : HasNoFaultBelow 2 h rest
  below_two = one_below 1 (λ other less. absurd (let some = (fault_back other).2 in omega arith)) (λ m s. s)

  below_four : (target : Target) → list_all is_target_byte h.target ≡ true → NamesTarget h.target target → HasNoFaultBelow 4 h rest
  below_four target bytes names = one_below 3 (one_below 2 below_two (λ m s. cc (bytes, s))) (λ m s. s target names)

  pub same_body : (limit : Option ℕ) (body other : List ℕ) → IsRequestBody limit h rest body → IsRequestBody limit h rest other → body ≡ other
  same_body None body other b o = b ∙ sym o
  same_body (Some limit) body other b o = b.3 ∙ ap (λ n. take n rest) (one_length (content_lengths h) b.0 o.0 b.1 o.1) ∙ sym o.3

module _ (h : RequestHead) (target : Target) (r : IsReached h target) (rest : List ℕ) where
  one_target : (other : Target) → NamesTarget h.target other → other ≡ target
  one_target other names = one_named h.target r.bytes other target names r.names

  not_method : (m : Method) → ¬ HasFault h rest (fault.Method m)
  not_method m s =
      let same = ap method_of (one_target s.0 s.1) in
      s.3 (r.method ∙ ap method_text (sym (s.2 ∙ same)))

  pub below_five : HasNoFaultBelow 5 h rest
  below_five = one_below h rest 4 (below_four h rest target r.bytes r.names) not_method

  module _ (plain : transfer_codings h ≡ []) where
    below_six : HasNoFaultBelow 6 h rest
    below_six = one_below h rest 5 below_five (λ m s. s plain)

    below_eight : ¬ HasLengthFault h fault.NoLength → ¬ HasLengthFault h fault.Length → HasNoFaultBelow 8 h rest
    below_eight some told = one_below h rest 7 (one_below h rest 6 below_six (λ m. some)) (λ m. told)

    module _ (limit : Option ℕ) (e : limit_of target ≡ limit) where
      -- what stands of the length stands at the limit of the one target
      length_at : (found : RequestFault) → HasLengthFault h found → IsLengthFault limit (content_lengths h) found
      length_at found (other, names, stands) =
          subst (λ (o : Option ℕ). IsLengthFault o (content_lengths h) found) (ap limit_of (one_target other names) ∙ e) stands

      length_fault : (found : RequestFault) → IsLengthFault limit (content_lengths h) found → HasLengthFault h found
      length_fault found stands = (target, r.names, subst (λ (o : Option ℕ). IsLengthFault o (content_lengths h) found) (sym e) stands)

    -- the length is told, under a limit
    length_told : (limit : ℕ) → limit_of target ≡ Some limit → (n : ℕ) → AreContentLength (content_lengths h) n → HasNoFaultBelow 8 h rest
    length_told limit e n told =
        below_eight (λ s. let none = length_at (Some limit) e fault.NoLength s in let some = told.1 in cc)
        (λ s. (length_at (Some limit) e fault.Length s).1 n told)

    pub length_refused : (found : RequestFault) → IsLengthFault (limit_of target) (content_lengths h) found → HasFault h rest found × HasNoFaultBelow (fault_number found) h rest
    length_refused found l = by (limit_of target) refl found l
      where
        by : (limit : Option ℕ) → limit_of target ≡ limit → (found : RequestFault) → IsLengthFault limit (content_lengths h) found → HasFault h rest found × HasNoFaultBelow (fault_number found) h rest
        by None e found l = absurd l
        by (Some limit) e fault.NoLength l = (length_fault (Some limit) e fault.NoLength l, below_six)
        by (Some limit) e fault.Length l =
            (length_fault (Some limit) e fault.Length l, one_below h rest 6 below_six (λ m s. l.0 (length_at (Some limit) e fault.NoLength s)))
        by (Some limit) e fault.TooLong l = (length_fault (Some limit) e fault.TooLong l, length_told limit e l.0 l.1)
        by (Some limit) e _ l = absurd l

    pub below_nine : (declared : Option ℕ) → FitsLength (limit_of target) (content_lengths h) declared → HasNoFaultBelow 9 h rest
    below_nine declared fits = by (limit_of target) refl declared fits
      where
        by : (limit : Option ℕ) → limit_of target ≡ limit → (declared : Option ℕ) → FitsLength limit (content_lengths h) declared → HasNoFaultBelow 9 h rest
        by None e declared f = one_below h rest 8 (below_eight (length_at None e fault.NoLength) (length_at None e fault.Length)) (λ m. length_at None e fault.TooLong)
        by (Some limit) e None f = absurd f
        by (Some limit) e (Some n) f = one_below h rest 8 (length_told limit e n f.0) (λ m s.
            let long = length_at (Some limit) e fault.TooLong s in
            let same = one_length (content_lengths h) n long.0 f.0 long.1 in let within = f.1 in let over = long.2 in omega arith)

-- the route has another method
pub method_refused : (h : RequestHead) (target : Target) → list_all is_target_byte h.target ≡ true → NamesTarget h.target target → (m : Method) → m ≡ method_of target → h.method ≢ method_text m
    → (rest : List ℕ) → HasFault h rest (fault.Method m) × HasNoFaultBelow 4 h rest
method_refused h target bytes names m is other rest = ((target, names, is, other), below_four h rest target bytes names)

-- ---- with the body

-- where a body is taken, so many bytes are declared, and there are fewer
abbrev IsShortUnder : RequestHead → List ℕ → Option ℕ → Type 0
IsShortUnder h rest limit = HasBodyLimit limit (λ limit. (n : ℕ) × AreContentLength (content_lengths h) n × (length rest < n))

module _ (h : RequestHead) (target : Target) (bytes : list_all is_target_byte h.target ≡ true) (names : NamesTarget h.target target) (rest : List ℕ) where
  the_target : (other : Target) → NamesTarget h.target other → other ≡ target
  the_target other other_names = one_named h.target bytes other target other_names names

  body_is : (limit declared : Option ℕ) (body : List ℕ) → FitsLength limit (content_lengths h) declared → IsDeclaredBody rest declared body → IsRequestBody limit h rest body
  body_is None declared body fits has = let none : declared ≡ None = fits in let h2 : IsDeclaredBody rest None body = subst (λ (o : Option ℕ). IsDeclaredBody rest o body) none has in h2
  body_is (Some limit) None body fits has = absurd fits
  body_is (Some limit) (Some n) body fits has = (n, fits.0, has.0, has.1)

  not_short : (declared : Option ℕ) (body : List ℕ) → FitsLength (limit_of target) (content_lengths h) declared → IsDeclaredBody rest declared body → ¬ HasFault h rest fault.BodyShort
  not_short declared body fits has s = by (limit_of target) declared fits has (subst (λ (t : Target). IsShortUnder h rest (limit_of t)) (the_target s.0 s.1) s.2)
    where
      by : (limit declared : Option ℕ) → FitsLength limit (content_lengths h) declared → IsDeclaredBody rest declared body → ¬ IsShortUnder h rest limit
      by None declared fits has here = here
      by (Some limit) None fits has here = fits
      by (Some limit) (Some n) fits has here =
          let same = one_length (content_lengths h) n here.0 fits.0 here.1 in
          let less = here.2 in
          let more = has.0 in
          omega arith

  pub below_ten : (declared : Option ℕ) (body : List ℕ) → HasNoFaultBelow 9 h rest → FitsLength (limit_of target) (content_lengths h) declared → IsDeclaredBody rest declared body → HasNoFaultBelow 10 h rest
  below_ten declared body below fits has = one_below h rest 9 below (λ m. not_short declared body fits has)

  pub short_asked : (declared : Option ℕ) (n : ℕ) → declared ≡ Some n → HasNoFaultBelow 9 h rest → FitsLength (limit_of target) (content_lengths h) declared → length rest < n → HeadMeans h rest (bad fault.BodyShort)
  short_asked declared n is below fits less =
      ((target, names, by (limit_of target) (subst (λ (o : Option ℕ). FitsLength (limit_of target) (content_lengths h) o) is fits)), below)
    where
      by : (limit : Option ℕ) → FitsLength limit (content_lengths h) (Some n) → IsShortUnder h rest limit
      by None f = cc
      by (Some limit) f = (n, f.0, less)

  pub form_asked : (declared : Option ℕ) (body : List ℕ) → HasNoFaultBelow 9 h rest → FitsLength (limit_of target) (content_lengths h) declared → IsDeclaredBody rest declared body
      → ((wanted : RequestAction) → ¬ Means target body wanted) → HeadMeans h rest (bad fault.Form)
  form_asked declared body below fits has none = ((target, body, names, body_is (limit_of target) declared body fits has, none), below_ten declared body below fits has)

  pub wanted_asked : (declared : Option ℕ) (body : List ℕ) (wanted : RequestAction) → HasNoFaultBelow 9 h rest → FitsLength (limit_of target) (content_lengths h) declared → IsDeclaredBody rest declared body
      → Means target body wanted → HeadMeans h rest (asks_for wanted)
  wanted_asked declared body wanted below fits has means =
      let is = body_is (limit_of target) declared body fits has in
      ((target, body, names, is, means), one_below h rest 10 (below_ten declared body below fits has) (λ m. in_form is))
    where
      in_form : IsRequestBody (limit_of target) h rest body → ¬ HasFault h rest fault.Form
      in_form is s =
          let same = the_target s.0 s.2 in
          let other_is = subst (λ (t : Target). IsRequestBody (limit_of t) h rest s.1) same s.3 in
          let same_bytes = same_body h rest (limit_of target) body s.1 is other_is in
          s.4 wanted (subst (λ (t : Target). Means t s.1 wanted) (sym same) (subst (λ (b : List ℕ). Means target b wanted) same_bytes means))
