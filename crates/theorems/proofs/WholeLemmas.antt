-- No response is the beginning of another: its lines are told apart one after the other, and the last tells the length of the body.
use Rattle.std.proofs.Common.{◌≡◌, ℕ, List, [], ◌∷◌, ◌++◌, length, Option, Some, None, Bool, true, false, not, ◌==◌, refl, sym, ◌∙◌, ap, if◌then◌else◌, arith, append_assoc, append-nil}
use Rattle.std.specs.Prelude.{codes, decimal, bytes_eq}
use Rattle.std.specs.Fmt.{digits}
use Rattle.std.specs.List.{list_all}
use Rattle.std.specs.Str.Parse.{AllDigits}
use Rattle.std.specs.Cmp.Derive.{both_true}
use Rattle.std.proofs.lemmas.Str.Parse.{digit_from_value}
use Rattle.std.proofs.lemmas.Fmt.{decimal_injective, decimal_is_IsNumeral}
use Rattle.std.proofs.lemmas.List.{append_cancel_left, length-append}
use Rattle.std.proofs.lemmas.Bool.Decides.{Decides-eqb}
use Rattle.custody_machine.proofs.Continuing.{and_both}
use Rattle.custody_machine.specs.declared.codes.HttpStatus.TheVariants.{BadRequest, NotFound, Conflict, Gone, ContentTooLarge, InternalServerError, ServiceUnavailable, InsufficientStorage}
use Rattle.http_request.specs.declared.faults.Method.{Method}
use Rattle.http_request.specs.declared.faults.Method.TheVariants.{Get, Post, Put}
use Rattle.http_request.specs.RequestMeaning.{method_text}
use Rattle.http_api.specs.declared.status.ResponseStatus.{ResponseStatus}
use Rattle.http_api.specs.declared.status.ResponseStatus.TheVariants.{Done, Created, MethodNotAllowed, LengthRequired, NotImplemented, Coded}
use Rattle.http_api.specs.declared.response.Media.{Media}
use Rattle.http_api.specs.declared.response.Media.TheVariants.{Text, Bytes}
use Rattle.http_api.specs.Responses.{HttpResponse, allow_line, media_text, response_bytes}
use Rattle.http_api.specs.Statuses.{status_text}
use Rattle.theorems.proofs.Beginnings.{behind}
use Rattle.theorems.specs.WholeResponses.{ClientsCanTell, NoResponseBeginsAnother}

-- ---- lines

-- no byte is that before a line feed
abbrev IsInLine : List ℕ → Type 0
IsInLine text = list_all (λ c. not (c == 13)) text ≡ true

not_13 : (c : ℕ) → c ≡ 13 → not (c == 13) ≡ true → ⊥
not_13 c is h = let yes = (Decides-eqb c 13).1 is in let clash : false ≡ true = sym (ap not yes) ∙ h in cc

-- two texts that end at the same bytes are told apart by them
ends_alike : (xs us gap ys vs : List ℕ) → IsInLine xs → IsInLine us → xs ++ ((13 ∷ gap) ++ ys) ≡ us ++ ((13 ∷ gap) ++ vs) → (xs ≡ us) × (ys ≡ vs)
ends_alike [] [] gap ys vs p q e = (refl, append_cancel_left (13 ∷ gap) ys vs e)
ends_alike [] (u ∷ us) gap ys vs p q e = let is : u ≡ 13 = cc in absurd (not_13 u is (and_both _ _ q).0)
ends_alike (x ∷ xs) [] gap ys vs p q e = let is : x ≡ 13 = cc in absurd (not_13 x is (and_both _ _ p).0)
ends_alike (x ∷ xs) (u ∷ us) gap ys vs p q e =
    let head : x ≡ u = cc in
    let rest = ends_alike xs us gap ys vs (and_both _ _ p).1 (and_both _ _ q).1 cc in
    ((λ i. head i ∷ rest.0 i), rest.1)

-- ---- what the lines have

status_in_line : (status : ResponseStatus) → IsInLine (status_text status)
unfolding digits
status_in_line (Coded BadRequest) = refl
status_in_line _ = refl

-- the first of some whose text is this one, or else the last
reading : {X : Type 0} → (X → List ℕ) → List X → X → List ℕ → X
reading text_of [] last text = last
reading text_of (x ∷ others) last text = if bytes_eq text (text_of x) then x else reading text_of others last text

-- so where each is read from its text, the text tells it
told_by_text : {X : Type 0} (text_of : X → List ℕ) (others : List X) (last : X)
    → ((x : X) → reading text_of others last (text_of x) ≡ x) → (x y : X) → text_of x ≡ text_of y → x ≡ y
told_by_text text_of others last back x y e = sym (back x) ∙ ap (reading text_of others last) e ∙ back y

statuses : List ResponseStatus
statuses =
    Done ∷ Created ∷ MethodNotAllowed ∷ LengthRequired ∷ NotImplemented ∷ Coded BadRequest ∷ Coded NotFound ∷ Coded Conflict ∷ Coded Gone
    ∷ Coded ContentTooLarge ∷ Coded InternalServerError ∷ Coded ServiceUnavailable ∷ []

status_back : (status : ResponseStatus) → reading status_text statuses (Coded InsufficientStorage) (status_text status) ≡ status
unfolding digits statuses reading
status_back (Coded BadRequest) = refl
status_back _ = refl

media_in_line : (media : Media) → IsInLine (media_text media)
media_in_line Text = refl
media_in_line Bytes = refl

media_back : (media : Media) → reading media_text (Text ∷ []) Bytes (media_text media) ≡ media
unfolding reading
media_back Text = refl
media_back Bytes = refl

method_in_line : (method : Method) → IsInLine (method_text method)
method_in_line Get = refl
method_in_line _ = refl

method_back : (method : Method) → reading method_text (Get ∷ Post ∷ []) Put (method_text method) ≡ method
unfolding reading
method_back Get = refl
method_back _ = refl

digits_in_line : (ds : List ℕ) → AllDigits 10 ds → IsInLine ds
digits_in_line [] d = refl
digits_in_line (c ∷ cs) d = both_true (other (c == 13) refl) (digits_in_line cs d.1)
  where
    other : (b : Bool) → (c == 13) ≡ b → not b ≡ true
    other true e = let is : c ≡ 13 = (Decides-eqb c 13).0 e in absurd (omega (arith, digit_from_value c d.0))
    other false e = refl

-- ---- the field of a 405, and what is behind it

same_head : {x y : ℕ} {xs ys : List ℕ} → x ∷ xs ≡ y ∷ ys → x ≡ y
same_head e = cc

allow_apart : (a b : Option Method) (x y : List ℕ) → allow_line b ++ (codes "\r\n" ++ y) ≡ allow_line a ++ (codes "\r\n" ++ x) → (b ≡ a) × (y ≡ x)
allow_apart None None x y e = (refl, append_cancel_left (codes "\r\n") y x e)
allow_apart None (Some m) x y e = let clash = same_head e in absurd (omega arith)
allow_apart (Some m) None x y e = let clash = same_head e in absurd (omega arith)
allow_apart (Some m) (Some n) x y e =
    let joined = append_cancel_left (codes "Allow: ") (method_text n ++ (codes "\r\n" ++ (codes "\r\n" ++ y))) (method_text m ++ (codes "\r\n" ++ (codes "\r\n" ++ x))) (sym (three n y) ∙ e ∙ three m x) in
    let parts = ends_alike (method_text n) (method_text m) (codes "\n") (codes "\r\n" ++ y) (codes "\r\n" ++ x) (method_in_line n) (method_in_line m) joined in
    (ap Some (told_by_text method_text (Get ∷ Post ∷ []) Put method_back n m parts.0), append_cancel_left (codes "\r\n") y x parts.1)
  where
    three : (k : Method) (z : List ℕ) → allow_line (Some k) ++ (codes "\r\n" ++ z) ≡ codes "Allow: " ++ (method_text k ++ (codes "\r\n" ++ (codes "\r\n" ++ z)))
    three k z = append_assoc (codes "Allow: " ++ method_text k) (codes "\r\n") (codes "\r\n" ++ z) ∙ append_assoc (codes "Allow: ") (method_text k) (codes "\r\n" ++ (codes "\r\n" ++ z))

-- ---- responses

pub none_begins_another : NoResponseBeginsAnother
none_begins_another a b rest short_a short_b e =
    let start = append_cancel_left (codes "HTTP/1.1 ") _ _ (sym (lines b []) ∙ append-nil (response_bytes b) ∙ e ∙ lines a rest) in
    let status_lines = ends_alike (status_text b.status) (status_text a.status) (codes "\nContent-Type: ") _ _ (status_in_line b.status) (status_in_line a.status) start in
    let medias = ends_alike (media_text b.media) (media_text a.media) (codes "\nContent-Length: ") _ _ (media_in_line b.media) (media_in_line a.media) status_lines.1 in
    let lengths = ends_alike (decimal (length b.body)) (decimal (length a.body)) (codes "\nConnection: close\r\n") _ _
    (digits_in_line (decimal (length b.body)) (decimal_is_IsNumeral (length b.body) short_b).0.1) (digits_in_line (decimal (length a.body)) (decimal_is_IsNumeral (length a.body) short_a).0.1) medias.1 in
    let fields = allow_apart a.allow b.allow (a.body ++ rest) (b.body ++ []) lengths.1 in
    let status : b.status ≡ a.status = told_by_text status_text statuses (Coded InsufficientStorage) status_back b.status a.status status_lines.0 in
    let media : b.media ≡ a.media = told_by_text media_text (Text ∷ []) Bytes media_back b.media a.media medias.0 in
    let none = nothing_more a.body b.body rest (decimal_injective (length b.body) (length a.body) short_b short_a lengths.0) (sym (append-nil b.body) ∙ fields.1) in
    ((λ i. record { status = status i; media = media i; allow = fields.0 i; body = none.0 i }), none.1)
  where
    lines : (x : HttpResponse) (z : List ℕ) → response_bytes x ++ z ≡ codes "HTTP/1.1 " ++ (status_text x.status ++ (codes "\r\nContent-Type: " ++ (media_text x.media ++ (codes "\r\nContent-Length: " ++ (decimal (length x.body) ++ (codes "\r\nConnection: close\r\n" ++ (allow_line x.allow ++ (codes "\r\n" ++ (x.body ++ z)))))))))
    lines x z = simp append_assoc

    nothing_more : (x y rest : List ℕ) → length y ≡ length x → y ≡ x ++ rest → (y ≡ x) × (rest ≡ [])
    nothing_more x y [] long is = (is ∙ append-nil x, refl)
    nothing_more x y (r ∷ rest) long is = let more = ap length is ∙ length-append x (r ∷ rest) in absurd (omega arith)

-- ---- what a client has read

nothing_before : (xs ys : List ℕ) → xs ++ ys ≡ [] → xs ≡ []
nothing_before [] ys e = refl
nothing_before (x ∷ xs) ys e = cc

pub clients_can_tell : ClientsCanTell
clients_can_tell old new x read answer s begins is short_a short_x =
    let unread = behind x.written read begins in
    let unwritten = behind (response_bytes x.answer) x.written s.2 in
    let joined : response_bytes x.answer ≡ response_bytes answer ++ (unread.0 ++ unwritten.0) = unwritten.1 ∙ ap (λ l. l ++ unwritten.0) unread.1 ∙ append_assoc read unread.0 unwritten.0 ∙ ap (λ l. l ++ (unread.0 ++ unwritten.0)) is in
    let one = none_begins_another answer x.answer (unread.0 ++ unwritten.0) short_a short_x joined in
    (one.0, unread.1 ∙ ap (λ l. read ++ l) (nothing_before unread.0 unwritten.0 one.1) ∙ append-nil read ∙ is ∙ ap response_bytes (sym one.0))
