-- What the routes find at a path.
use Rattle.std.proofs.Common.{◌≡◌, ◌<◌, ◌≤◌, ℕ, zero, suc, List, [], ◌∷◌, ◌++◌, codes, length, map, take, Some, None, Bool, true, ltb, refl, sym, ap, ap₂, ◌∙◌, subst, arith}
use Rattle.std.specs.List.{list_all, AllByRecursion}
use Rattle.std.specs.Str.{IsAscii, IsUtf8}
use Rattle.std.proofs.lemmas.Bool.{and_parts, ltb-true, lt-ltb}
use Rattle.std.proofs.lemmas.Bool.Decides.{nat_tests}
use Rattle.std.proofs.lemmas.Str.{IsUtf8-from_ascii}
use Rattle.std.proofs.lemmas.List.Folds.{list_all-append}
use Rattle.matchit.specs.Seek.{first}
use Rattle.matchit.specs.Router.{RouteOf}
use Rattle.matchit.specs.Level.{IsText}
use Rattle.http_request.specs.declared.routes.Route.{Route}
use Rattle.http_request.specs.declared.routes.Target as code
use Rattle.http_request.specs.Paths.{Target, NamesTarget, path_text, is_target_byte, row_of, target_at, with_slashes}
use Rattle.http_request.specs.RouteTable.{entry_of, route_table}
use Rattle.http_request.specs.Targets.{target_of, target_view, IsNextValue, IsTargetOf}
use Rattle.http_request.proofs.BodyLemmas.{some_same}
use Rattle.http_request.proofs.Targets.{AreSegments, few_parameters, read_at, found_target, target_found, target_walked}

target_byte_small : (b : ℕ) → is_target_byte b ≡ true → b < 128
target_byte_small b h = grind (arith, nat_tests)

text_of : (path : List ℕ) → list_all is_target_byte path ≡ true → IsText path
text_of [] h = tt
text_of (b ∷ path) h =
    let parts = and_parts (is_target_byte b) (list_all is_target_byte path) h in
    let small = target_byte_small b parts.0 in
    (omega arith, text_of path parts.1)

abbrev is_small : ℕ → Bool
is_small b = ltb b 128

small_of : (path : List ℕ) → list_all is_target_byte path ≡ true → list_all is_small path ≡ true
small_of [] h = refl
small_of (b ∷ path) h =
    let parts = and_parts (is_target_byte b) (list_all is_target_byte path) h in
    rw (lt-ltb b 128 (target_byte_small b parts.0)) (small_of path parts.1)

ascii_of : (bytes : List ℕ) → list_all is_small bytes ≡ true → IsAscii bytes
ascii_of [] h i = omega arith
ascii_of (b ∷ bytes) h zero = ltb-true b 128 (and_parts (is_small b) (list_all is_small bytes) h).0
ascii_of (b ∷ bytes) h (suc i) = ascii_of bytes (and_parts (is_small b) (list_all is_small bytes) h).1 i

utf8_of : (bytes : List ℕ) → list_all is_small bytes ≡ true → IsUtf8 bytes
utf8_of bytes h = IsUtf8-from_ascii bytes (ascii_of bytes h)

small_parts : (a b : List ℕ) → list_all is_small (a ++ b) ≡ true → (list_all is_small a ≡ true) × (list_all is_small b ≡ true)
small_parts a b h = and_parts (list_all is_small a) (list_all is_small b) (sym (list_all-append is_small a b) ∙ h)

all_text : (parts : List (List ℕ)) → list_all is_small (with_slashes parts) ≡ true → AllByRecursion IsUtf8 parts
all_text [] h = tt
all_text (part ∷ []) h = (utf8_of part h, tt)
all_text (part ∷ next ∷ parts) h =
    let p = small_parts part (codes "/" ++ with_slashes (next ∷ parts)) h in
    (utf8_of part p.0, all_text (next ∷ parts) (small_parts (codes "/") (with_slashes (next ∷ parts)) p.1).1)

module _ (path : List ℕ) (bytes : list_all is_target_byte path ≡ true) where
  pub target_read : (found : RouteOf Route) (t : code.Target) → first route_table path ≡ Some found → IsTargetOf found.value (read_at found path) (target_view t) → NamesTarget path (target_view t)
  target_read found t e read =
      let (target, names, is) = found_target path (text_of path bytes) found e in
      let route : found.value ≡ target.route = ap (λ (x : RouteOf Route). x.value) is in
      let parts = ap (λ (x : RouteOf Route). read_at x path) is ∙ ap (read_at (entry_of target.route)) names.1 ∙ target_walked target names.0 in
      let small = small_parts (row_of target.route).front (with_slashes target.parameters) (ap (list_all is_small) (sym names.1) ∙ small_of path bytes) in
      let at = subst (λ (ps : List (List ℕ)). IsTargetOf target.route ps (target_view t)) parts (subst (λ (r : Route). IsTargetOf r (read_at found path) (target_view t)) route read) in
      subst (NamesTarget path) (sym (at names.0 (all_text target.parameters small.1))) names

  pub none_named : first route_table path ≡ None → (target : Target) → ¬ NamesTarget path target
  none_named e target names =
      let is_found = target_found target names.0 (subst IsText names.1 (text_of path bytes)) in
      let same : first route_table path ≡ first route_table (path_text target.route target.parameters) = ap (first route_table) names.1 in
      cc (e, is_found, same)

pub target_text_utf8 : (bytes : List ℕ) → list_all is_target_byte bytes ≡ true → IsUtf8 bytes
target_text_utf8 bytes h = utf8_of bytes (small_of bytes h)

-- a path names one target
pub one_named : (path : List ℕ) → list_all is_target_byte path ≡ true → (t u : Target) → NamesTarget path t → NamesTarget path u → t ≡ u
one_named path bytes t u nt nu =
    let found : (v : Target) → NamesTarget path v → first route_table path ≡ Some (entry_of v.route) =
    λ v n. ap (first route_table) n.1 ∙ target_found v n.0 (subst IsText n.1 (text_of path bytes)) in
    let read : (v : Target) → NamesTarget path v → read_at (entry_of v.route) path ≡ v.parameters = λ v n. ap (read_at (entry_of v.route)) n.1 ∙ target_walked v n.0 in
    let same : entry_of t.route ≡ entry_of u.route = some_same _ _ (sym (found t nt) ∙ found u nu) in
    let route : t.route ≡ u.route = ap (λ (x : RouteOf Route). x.value) same in
    let parts : t.parameters ≡ u.parameters = sym (read t nt) ∙ ap (λ (x : RouteOf Route). read_at x path) same ∙ read u nu in
    ap₂ target_at route parts

-- what the code takes of a match's parameters
pub three_taken : (route : Route) (taken mid late rest : List (List ℕ × List ℕ)) (a b c : List ℕ) → IsNextValue taken a mid → IsNextValue mid b late → IsNextValue late c rest
    → IsTargetOf route (map (λ p. p.1) taken) (target_of route a b c)
three_taken route taken mid late rest a b c one two three s text = ap (target_at route) (by (row_of route).names (few_parameters route) taken one s text)
  where
    by : (names : List (List ℕ)) → length names ≤ 3 → (taken : List (List ℕ × List ℕ)) → IsNextValue taken a mid → AreSegments names (map (λ p. p.1) taken)
        → AllByRecursion IsUtf8 (map (λ p. p.1) taken) → take (length names) (a ∷ b ∷ c ∷ []) ≡ map (λ p. p.1) taken
    by [] small [] one s text = refl
    by [] small (p ∷ ps) one s text = absurd s
    by (name ∷ names) small [] one s text = absurd s
    by (name ∷ []) small (p ∷ []) one s text = ap (λ x. x ∷ []) (one.1 text.0)
    by (name ∷ []) small (p ∷ q ∷ ps) one s text = absurd s.1
    by (name ∷ next ∷ names) small (p ∷ []) one s text = absurd s.1
    by (name ∷ next ∷ []) small (p ∷ q ∷ []) one s text =
        let second = subst (λ (l : List (List ℕ × List ℕ)). IsNextValue l b late) one.0 two in
        ap₂ (λ (x y : List ℕ). x ∷ y ∷ []) (one.1 text.0) (second.1 text.1.0)
    by (name ∷ next ∷ []) small (p ∷ q ∷ r ∷ ps) one s text = absurd s.1.1
    by (name ∷ next ∷ last ∷ names) small (p ∷ q ∷ []) one s text = absurd s.1.1
    by (name ∷ next ∷ last ∷ []) small (p ∷ q ∷ r ∷ []) one s text =
        let second = subst (λ (l : List (List ℕ × List ℕ)). IsNextValue l b late) one.0 two in
        let third = subst (λ (l : List (List ℕ × List ℕ)). IsNextValue l c rest) second.0 three in
        ap₂ (λ (x : List ℕ) (ys : List (List ℕ)). x ∷ ys) (one.1 text.0) (ap₂ (λ (x y : List ℕ). x ∷ y ∷ []) (second.1 text.1.0) (third.1 text.1.1.0))
    by (name ∷ next ∷ last ∷ []) small (p ∷ q ∷ r ∷ t ∷ ps) one s text = absurd s.1.1.1
    by (name ∷ next ∷ last ∷ more ∷ names) small (p ∷ q ∷ r ∷ ps) one s text = absurd (omega arith)
