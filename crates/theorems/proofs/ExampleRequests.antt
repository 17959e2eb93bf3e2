-- What the requests of the example ask, by their bytes.
use Rattle.std.proofs.Common.{◌≡◌, ◌<◌, ℕ, zero, suc, List, [], ◌∷◌, ◌++◌, length, codes, Option, Some, None, true, ltb, inr, refl, subst, arith}
use Rattle.std.specs.Prelude.{All, decimal}
use Rattle.std.specs.Fmt.{digits}
use Rattle.std.specs.List.{list_all}
use Rattle.std.specs.Str.{IsUtf8}
use Rattle.std.proofs.lemmas.Bool.{ltb-true}
use Rattle.std.proofs.lemmas.List.Sums.{AllPass-from_list_all}
use Rattle.std.proofs.lemmas.Str.{IsUtf8-from_ascii}
use Rattle.std.proofs.lemmas.Str.Ascii.{IsAscii-from_all}
use Rattle.schedule.specs.Calendar.{date_of}
use Rattle.schedule.specs.Text.{day_text}
use Rattle.deposit_name.proofs.IdentifierLemmas.{is_tld-IsTld}
use Rattle.desk.specs.declared.grounds.Ground.TheVariants.{Operator}
use Rattle.custody_machine.specs.Machine.{Register, Receive, Statement, Check, Release, Hold, Lift, Purge}
use Rattle.custody_machine.specs.ExampleLife.{example_tld, example_file_name, example_statement}
use Rattle.httparse.specs.Grammar.{crlf, Field, IsField, IsRequestHead, ReadsRequest, RequestHead, is_token_byte, is_uri_byte, is_value_byte}
use Rattle.httparse.proofs.OnLiterals.{httparse_on_literals}
use Rattle.serde_json.proofs.OnLiterals.{serde_json_on_literals}
use Rattle.http_request.specs.Head.{IsShortHead}
use Rattle.http_request.specs.RequestMeaning.{RequestMeans, SendsPart, asks_for, bad, content_lengths, transfer_codings}
use Rattle.http_request.specs.declared.faults.RequestFault.TheVariants as fault
use Rattle.http_request.specs.Paths.{Target, NamesTarget, is_target_byte, limit_of, target_at}
use Rattle.http_request.specs.declared.routes.Route.TheVariants as route
use Rattle.http_request.specs.Plans.{IsReached, FitsLength}
use Rattle.http_request.specs.Body.{IsDeclaredBody}
use Rattle.http_request.specs.Bodies.{IsJsonOf, registration_json, statement_json, release_json, hold_json}
use Rattle.http_request.specs.Action.{RequestAction, Do, Explain, Fetch, Means, IsStatement, texts_of_statement, handover_texts, held_day_texts}
use Rattle.theorems.specs.ExampleService.{registration_request, part_request, statement_request, reasons_request, check_request, release_request, hold_request, fetch_request, lift_request, purge_request}
use Rattle.http_request.proofs.Finding.{target_text_utf8}
use Rattle.http_request.proofs.PlanLemmas.{below_nine, short_asked, wanted_asked}

-- ---- a request that has no fault in its head

pub record IsPlain (input : List ℕ) (h : RequestHead) (rest : List ℕ) (target : Target) (declared : Option ℕ) : Type 0 where
  pub reads : ReadsRequest input h rest
  pub short : IsShortHead h
  pub reached : IsReached h target
  pub uncoded : transfer_codings h ≡ []
  pub fits : FitsLength (limit_of target) (content_lengths h) declared

module _ (input : List ℕ) (h : RequestHead) (rest : List ℕ) (target : Target) (declared : Option ℕ) (plain : IsPlain input h rest target declared) where
  below : (behind : List ℕ) → Rattle.http_request.specs.RequestMeaning.HasNoFaultBelow 9 h behind
  below behind = below_nine h target plain.reached behind plain.uncoded declared plain.fits

  pub asks : (body : List ℕ) (wanted : RequestAction) → IsDeclaredBody rest declared body → Means target body wanted → RequestMeans input (asks_for wanted)
  asks body wanted has means =
      inr (h, rest, plain.reads, plain.short, wanted_asked h target plain.reached.bytes plain.reached.names rest declared body wanted (below rest) plain.fits has means)

  pub falls_short : (n : ℕ) → declared ≡ Some n → length rest < n → RequestMeans input (bad fault.BodyShort)
  falls_short n told less = inr (h, rest, plain.reads, plain.short, short_asked h target plain.reached.bytes plain.reached.names rest declared n told (below rest) plain.fits less)

  pub sends_part : (name : List ℕ) → target ≡ target_at route.Deposit (name ∷ []) → SendsPart input
  sends_part name is = (h, rest, plain.reads, plain.short, (name, subst (NamesTarget h.target) is plain.reached.names), below rest)

-- ---- heads of one line and at most one field

abbrev head_of_request : List ℕ → List ℕ → List Field → RequestHead
head_of_request method target fields = record { blank = []; method = method; target = target; minor = 1; line_end = crlf; fields = fields; last = crlf }

abbrev length_field : List ℕ → Field
length_field digits = record { name = codes "Content-Length"; raw = codes " " ++ digits; end = crlf }

passing : (test : ℕ → Rattle.std.specs.Prelude.Bool) (bytes : List ℕ) → list_all test bytes ≡ true → All (λ b. test b ≡ true) bytes
passing test bytes passes = AllPass-from_list_all test bytes passes

no_fields : All IsField []
no_fields k d lt = absurd (omega (arith, lt))

one_field : (field : Field) → IsField field → All IsField (field ∷ [])
one_field field is zero d lt = is
one_field field is (suc k) d lt = absurd (omega (arith, lt))

length_in_form : (digits : List ℕ) → list_all is_value_byte (codes " " ++ digits) ≡ true → IsField (length_field digits)
unfolding httparse_on_literals
length_in_form digits passes = record { name = (omega arith, passing is_token_byte (codes "Content-Length") refl); raw = passing is_value_byte (codes " " ++ digits) passes }

head_in_form : (method target : List ℕ) (fields : List Field) → 0 < length method → list_all is_token_byte method ≡ true → 0 < length target → list_all is_uri_byte target ≡ true → list_all is_target_byte target ≡ true → All IsField fields
    → IsRequestHead (head_of_request method target fields)
head_in_form method target fields some token part uri bytes all = record {
  method = (some, passing is_token_byte method token);
  target = (part, passing is_uri_byte target uri);
  target_text = target_text_utf8 target bytes;
  minor = omega arith;
  fields = all;
}

abbrev length_head : (method target digits : List ℕ) → RequestHead
length_head method target digits = head_of_request method target (length_field digits ∷ [])

length_head_in_form : (method target digits : List ℕ) → 0 < length method → list_all is_token_byte method ≡ true → 0 < length target → list_all is_uri_byte target ≡ true → list_all is_target_byte target ≡ true → list_all is_value_byte (codes " " ++ digits) ≡ true
    → IsRequestHead (length_head method target digits)
length_head_in_form method target digits some token part uri bytes value = head_in_form method target (length_field digits ∷ []) some token part uri bytes (one_field (length_field digits) (length_in_form digits value))

-- ---- the part

abbrev part_path : List ℕ
part_path = codes "/deposits/example_2026-08-02_full_S1_R0.ryde"

part_plain : (body : List ℕ) → IsPlain (part_request body) (length_head (codes "PUT") part_path (codes "5")) body (target_at route.Deposit (example_file_name ∷ [])) (Some 5)
unfolding httparse_on_literals
part_plain body = record {
  reads = (length_head_in_form (codes "PUT") part_path (codes "5") (omega arith) refl (omega arith) refl refl refl, refl);
  short = (omega arith, omega arith);
  reached = record { bytes = refl; names = ((record { some = omega arith; no_slash = refl }, tt), refl); method = refl };
  uncoded = refl;
  fits = ((codes "5", refl, (omega arith, omega arith), refl, refl), omega arith);
}

pub part_asks : RequestMeans (part_request (codes "hello")) (asks_for (Do (Receive example_file_name (codes "hello"))))
part_asks = asks _ _ _ _ _ (part_plain (codes "hello")) (codes "hello") (Do (Receive example_file_name (codes "hello"))) (omega arith, refl) refl

pub part_short : RequestMeans (part_request (codes "he")) (bad fault.BodyShort)
part_short = falls_short _ _ _ _ _ (part_plain (codes "he")) 5 refl (omega arith)

pub part_sent : SendsPart (part_request (codes "he"))
part_sent = sends_part _ _ _ _ _ (part_plain (codes "he")) example_file_name refl

-- ---- bodies that are JSON

ascii_text : (bytes : List ℕ) → list_all (λ b. ltb b 128) bytes ≡ true → IsUtf8 bytes
ascii_text bytes small = IsUtf8-from_ascii bytes (IsAscii-from_all bytes (λ k d lt. ltb-true _ 128 (AllPass-from_list_all (λ b. ltb b 128) bytes small k d lt)))

abbrev registration_json_text : List ℕ
registration_json_text = codes "{\"first\":\"2026-08-02\"}"

abbrev statement_json_text : List ℕ
statement_json_text = codes "{\"date\":\"2026-08-02\",\"id\":\"X\",\"kind\":\"full\",\"parts\":1,\"revision\":0,\"tld\":\"example\"}"

abbrev release_json_text : List ℕ
release_json_text = codes "{\"ground\":\"operator\",\"tld\":\"example\"}"

abbrev hold_json_text : List ℕ
hold_json_text = codes "{\"date\":\"2026-08-02\",\"tld\":\"example\"}"

registration_body : IsJsonOf registration_json_text (registration_json (day_text 20_667))
unfolding serde_json_on_literals date_of
registration_body = (ascii_text _ refl, refl)

statement_body : IsJsonOf statement_json_text (statement_json (texts_of_statement example_statement))
unfolding serde_json_on_literals date_of
statement_body = (ascii_text _ refl, refl)

release_body : IsJsonOf release_json_text (release_json (handover_texts example_tld Operator))
unfolding serde_json_on_literals
release_body = (ascii_text _ refl, refl)

hold_body : IsJsonOf hold_json_text (hold_json (held_day_texts example_tld 20_667))
unfolding serde_json_on_literals date_of
hold_body = (ascii_text _ refl, refl)

-- ---- the other requests

in_form : IsStatement example_statement
in_form = record {
  tld = (is_tld-IsTld example_tld).0 refl;
  day = omega arith;
  rev = omega arith;
  parts = (omega arith, omega arith);
  id = record { length_in = (omega arith, omega arith); bytes = refl };
}

check_day : codes "2026-08-03" ≡ day_text 20_668
unfolding date_of
check_day = refl

registration_plain : IsPlain registration_request (length_head (codes "PUT") (codes "/registries/example") (codes "22")) registration_json_text (target_at route.Registry (example_tld ∷ [])) (Some 22)
unfolding httparse_on_literals
registration_plain = record {
  reads = (length_head_in_form (codes "PUT") (codes "/registries/example") (codes "22") (omega arith) refl (omega arith) refl refl refl, refl);
  short = (omega arith, omega arith);
  reached = record { bytes = refl; names = ((record { some = omega arith; no_slash = refl }, tt), refl); method = refl };
  uncoded = refl;
  fits = ((codes "22", refl, (omega arith, omega arith), refl, refl), omega arith);
}

pub registration_asks : RequestMeans registration_request (asks_for (Do (Register example_tld 20_667)))
registration_asks = asks _ _ _ _ _ registration_plain registration_json_text (Do (Register example_tld 20_667)) (omega arith, refl) ((is_tld-IsTld example_tld).0 refl, (20_667, omega arith, registration_body, refl))

statement_plain : IsPlain statement_request (length_head (codes "POST") (codes "/statements") (codes "83")) statement_json_text (target_at route.Statements []) (Some 83)
unfolding httparse_on_literals
statement_plain = record {
  reads = (length_head_in_form (codes "POST") (codes "/statements") (codes "83") (omega arith) refl (omega arith) refl refl refl, refl);
  short = (omega arith, omega arith);
  reached = record { bytes = refl; names = (tt, refl); method = refl };
  uncoded = refl;
  fits = ((codes "83", refl, (omega arith, omega arith), refl, refl), omega arith);
}

pub statement_asks : RequestMeans statement_request (asks_for (Do (Statement example_statement)))
statement_asks = asks _ _ _ _ _ statement_plain statement_json_text (Do (Statement example_statement)) (omega arith, refl) (example_statement, in_form, statement_body, refl)

reasons_day : codes "2026-08-02" ≡ day_text 20_667
unfolding date_of
reasons_day = refl

reasons_revision : codes "0" ≡ decimal 0
unfolding digits
reasons_revision = refl

reasons_plain : IsPlain reasons_request (head_of_request (codes "GET") (codes "/reasons/example/2026-08-02/0") []) [] (target_at route.Reasons (example_tld ∷ codes "2026-08-02" ∷ codes "0" ∷ [])) None
unfolding httparse_on_literals
reasons_plain = record {
  reads = (head_in_form (codes "GET") (codes "/reasons/example/2026-08-02/0") [] (omega arith) refl (omega arith) refl refl no_fields, refl);
  short = (omega arith, omega arith);
  reached = record { bytes = refl; names = ((record { some = omega arith; no_slash = refl }, (record { some = omega arith; no_slash = refl }, (record { some = omega arith; no_slash = refl }, tt))), refl); method = refl };
  uncoded = refl;
  fits = refl;
}

pub reasons_asks : RequestMeans reasons_request (asks_for (Explain example_tld 20_667 0))
reasons_asks = asks _ _ _ _ _ reasons_plain [] (Explain example_tld 20_667 0) refl ((is_tld-IsTld example_tld).0 refl, (20_667, 0, omega arith, omega arith, reasons_day, reasons_revision, refl))

check_plain : IsPlain check_request (length_head (codes "POST") (codes "/checks/example/2026-08-03") (codes "0")) [] (target_at route.Check (example_tld ∷ codes "2026-08-03" ∷ [])) (Some 0)
unfolding httparse_on_literals
check_plain = record {
  reads = (length_head_in_form (codes "POST") (codes "/checks/example/2026-08-03") (codes "0") (omega arith) refl (omega arith) refl refl refl, refl);
  short = (omega arith, omega arith);
  reached = record { bytes = refl; names = ((record { some = omega arith; no_slash = refl }, (record { some = omega arith; no_slash = refl }, tt)), refl); method = refl };
  uncoded = refl;
  fits = ((codes "0", refl, (omega arith, omega arith), refl, refl), omega arith);
}

pub check_asks : RequestMeans check_request (asks_for (Do (Check example_tld 20_668)))
check_asks = asks _ _ _ _ _ check_plain [] (Do (Check example_tld 20_668)) (omega arith, refl) ((is_tld-IsTld example_tld).0 refl, (20_668, omega arith, check_day, refl))

release_plain : IsPlain release_request (length_head (codes "PUT") (codes "/releases/R-1") (codes "37")) release_json_text (target_at route.Release (codes "R-1" ∷ [])) (Some 37)
unfolding httparse_on_literals
release_plain = record {
  reads = (length_head_in_form (codes "PUT") (codes "/releases/R-1") (codes "37") (omega arith) refl (omega arith) refl refl refl, refl);
  short = (omega arith, omega arith);
  reached = record { bytes = refl; names = ((record { some = omega arith; no_slash = refl }, tt), refl); method = refl };
  uncoded = refl;
  fits = ((codes "37", refl, (omega arith, omega arith), refl, refl), omega arith);
}

pub release_asks : RequestMeans release_request (asks_for (Do (Release (codes "R-1") example_tld Operator)))
release_asks = asks _ _ _ _ _ release_plain release_json_text (Do (Release (codes "R-1") example_tld Operator)) (omega arith, refl) (record { length_in = (omega arith, omega arith); bytes = refl }, (example_tld, Operator, (is_tld-IsTld example_tld).0 refl, release_body, refl))

hold_plain : IsPlain hold_request (length_head (codes "PUT") (codes "/holds/H-1") (codes "37")) hold_json_text (target_at route.Hold (codes "H-1" ∷ [])) (Some 37)
unfolding httparse_on_literals
hold_plain = record {
  reads = (length_head_in_form (codes "PUT") (codes "/holds/H-1") (codes "37") (omega arith) refl (omega arith) refl refl refl, refl);
  short = (omega arith, omega arith);
  reached = record { bytes = refl; names = ((record { some = omega arith; no_slash = refl }, tt), refl); method = refl };
  uncoded = refl;
  fits = ((codes "37", refl, (omega arith, omega arith), refl, refl), omega arith);
}

pub hold_asks : RequestMeans hold_request (asks_for (Do (Hold (codes "H-1") example_tld 20_667)))
hold_asks = asks _ _ _ _ _ hold_plain hold_json_text (Do (Hold (codes "H-1") example_tld 20_667)) (omega arith, refl) (record { length_in = (omega arith, omega arith); bytes = refl }, (example_tld, 20_667, (is_tld-IsTld example_tld).0 refl, omega arith, hold_body, refl))

lift_plain : IsPlain lift_request (length_head (codes "POST") (codes "/lifts/H-1") (codes "0")) [] (target_at route.Lift (codes "H-1" ∷ [])) (Some 0)
unfolding httparse_on_literals
lift_plain = record {
  reads = (length_head_in_form (codes "POST") (codes "/lifts/H-1") (codes "0") (omega arith) refl (omega arith) refl refl refl, refl);
  short = (omega arith, omega arith);
  reached = record { bytes = refl; names = ((record { some = omega arith; no_slash = refl }, tt), refl); method = refl };
  uncoded = refl;
  fits = ((codes "0", refl, (omega arith, omega arith), refl, refl), omega arith);
}

pub lift_asks : RequestMeans lift_request (asks_for (Do (Lift (codes "H-1"))))
lift_asks = asks _ _ _ _ _ lift_plain [] (Do (Lift (codes "H-1"))) (omega arith, refl) (record { length_in = (omega arith, omega arith); bytes = refl }, refl)

purge_plain : IsPlain purge_request (length_head (codes "POST") (codes "/purges") (codes "0")) [] (target_at route.Purges []) (Some 0)
unfolding httparse_on_literals
purge_plain = record {
  reads = (length_head_in_form (codes "POST") (codes "/purges") (codes "0") (omega arith) refl (omega arith) refl refl refl, refl);
  short = (omega arith, omega arith);
  reached = record { bytes = refl; names = (tt, refl); method = refl };
  uncoded = refl;
  fits = ((codes "0", refl, (omega arith, omega arith), refl, refl), omega arith);
}

pub purge_asks : RequestMeans purge_request (asks_for (Do Purge))
purge_asks = asks _ _ _ _ _ purge_plain [] (Do Purge) (omega arith, refl) refl

fetch_plain : IsPlain fetch_request (head_of_request (codes "GET") (codes "/releases/R-1/example_2026-08-02_full_S1_R0.ryde") []) [] (target_at route.ReleasedPart (codes "R-1" ∷ example_file_name ∷ [])) None
unfolding httparse_on_literals
fetch_plain = record {
  reads = (head_in_form (codes "GET") (codes "/releases/R-1/example_2026-08-02_full_S1_R0.ryde") [] (omega arith) refl (omega arith) refl refl no_fields, refl);
  short = (omega arith, omega arith);
  reached = record { bytes = refl; names = ((record { some = omega arith; no_slash = refl }, (record { some = omega arith; no_slash = refl }, tt)), refl); method = refl };
  uncoded = refl;
  fits = refl;
}

pub fetch_asks : RequestMeans fetch_request (asks_for (Fetch (codes "R-1") example_file_name))
fetch_asks = asks _ _ _ _ _ fetch_plain [] (Fetch (codes "R-1") example_file_name) refl (record { length_in = (omega arith, omega arith); bytes = refl }, refl)
