-- A route that a router finds is one of its rows, and the path has the row's form.
use Rattle.std.proofs.Common.{◌≡◌, ◌<◌, ℕ, zero, suc, ◌-◌, List, [], ◌∷◌, ◌++◌, length, take, drop, Option, Some, None, Bool, true, false, cond, ltb, ◌==◌, ◌⊎◌, inl, inr, refl, sym, ap, ◌∙◌, arith, ◌&&◌, ◌||◌, subst}
use Rattle.std.specs.Prelude.{MatchBool}
use Rattle.std.specs.List.{list_any}
use Rattle.std.proofs.lemmas.Bool.{cond_both, and_parts, ltb-true, eqb-true, ne_eqb}
use Rattle.std.proofs.lemmas.Bool.Decides.{nat_tests}
use Rattle.std.proofs.lemmas.List.{take_all, take-append-drop}
use Rattle.matchit.specs.Rows.{RowsOf, param_token, catch_all_token}
use Rattle.matchit.specs.Seek.{cuts, better, segment, has_slash, slash, longest_from, longest_suffix, with_suffix, same_text, own, step, or_else, seek, param_step}
use Rattle.matchit.specs.Level.{IsText}
use Rattle.http_request.specs.Paths.{IsSegment}

abbrev pub TakesByte : ℕ → (List ℕ → Type 0) → List ℕ → Type 0
TakesByte x P [] = ⊥
TakesByte x P (b ∷ rest) = (b ≡ x) × P rest

abbrev pub TakesPart : (List ℕ → Type 0) → List ℕ → Type 0
TakesPart P path = (part : List ℕ) × (rest : List ℕ) × IsSegment part × (path ≡ part ++ rest) × P rest

-- a path has the form of a pattern
abbrev pub Fits : List ℕ → List ℕ → Type 0
Fits [] path = path ≡ []
Fits (x ∷ t) path = MatchBool (x == param_token) (TakesPart (Fits t) path) (MatchBool (x == catch_all_token) (Unit {0}) (TakesByte x (Fits t) path))

module _ {K : Type 0} where
  abbrev pub SomeRow : (List ℕ → K → Type 0) → RowsOf K → Type 0
  SomeRow P [] = ⊥
  SomeRow P ((t, k) ∷ rest) = P t k ⊎ SomeRow P rest

module _ {K : Type 0} (P Q : List ℕ → K → Type 0) where
  pub SomeRow-map : ((t : List ℕ) (k : K) → P t k → Q t k) → (rs : RowsOf K) → SomeRow P rs → SomeRow Q rs
  SomeRow-map f [] h = h
  SomeRow-map f ((t, k) ∷ rest) (inl h) = inl (f t k h)
  SomeRow-map f ((t, k) ∷ rest) (inr h) = inr (SomeRow-map f rest h)

module _ {K : Type 0} where
  own_row : (rs : RowsOf K) (found : K) → own rs ≡ Some found → SomeRow (λ t k. (t ≡ []) × (k ≡ found)) rs
  own_row [] found e = cc
  own_row (([], k) ∷ rest) found e = inl (refl, cc)
  own_row ((x ∷ t, k) ∷ rest) found e = inr (own_row rest found e)

  step_row : (P : List ℕ → K → Type 0) (b : ℕ) (rs : RowsOf K) → SomeRow P (step b rs) → SomeRow (λ t k. (rest : List ℕ) × (t ≡ b ∷ rest) × P rest k) rs
  step_row P b [] h = h
  step_row P b (([], k) ∷ rest) h = inr (step_row P b rest h)
  step_row P b ((x ∷ t, k) ∷ rest) h = by (x == b) refl (step_row P b rest) h
    where
      by : (v : Bool) → (x == b) ≡ v → (SomeRow P (step b rest) → SomeRow (λ t k. (u : List ℕ) × (t ≡ b ∷ u) × P u k) rest)
          → SomeRow P (cond v ((t, k) ∷ step b rest) (step b rest)) → SomeRow (λ t k. (u : List ℕ) × (t ≡ b ∷ u) × P u k) ((x ∷ t, k) ∷ rest)
      by true e more (inl p) = inl (t, ap (λ y. y ∷ t) (eqb-true x b e), p)
      by true e more (inr p) = inr (more p)
      by false e more p = inr (more p)

  suffix_row : (P : List ℕ → K → Type 0) (suffix : List ℕ) (rs : RowsOf K) → SomeRow P (with_suffix suffix rs) → SomeRow P rs
  suffix_row P suffix [] h = h
  suffix_row P suffix ((t, k) ∷ rest) h = by (same_text (segment t) suffix) (suffix_row P suffix rest) h
    where
      by : (v : Bool) → (SomeRow P (with_suffix suffix rest) → SomeRow P rest) → SomeRow P (cond v ((t, k) ∷ with_suffix suffix rest) (with_suffix suffix rest)) → SomeRow P ((t, k) ∷ rest)
      by true more (inl p) = inl p
      by true more (inr p) = inr (more p)
      by false more p = inr (more p)

  longest_cuts : (seg best : List ℕ) (rs : RowsOf K) → (0 < length best → cuts seg best ≡ true) → 0 < length (longest_from seg best rs) → cuts seg (longest_from seg best rs) ≡ true
  longest_cuts seg best [] h = h
  longest_cuts seg best ((t, k) ∷ rest) h =
      longest_cuts seg (better seg best (segment t)) rest
      (cond_both (ltb (length best) (length (segment t)) && cuts seg (segment t)) (segment t) best (λ l. 0 < length l → cuts seg l ≡ true)
      (λ e. λ _. (and_parts (ltb (length best) (length (segment t))) (cuts seg (segment t)) e).1) (λ _. h))

-- less than a segment has no slash
short_part : (n : ℕ) (path : List ℕ) → n < length (segment path) → has_slash (take n path) ≡ false
short_part zero path h = refl
short_part (suc n) [] h = refl
short_part (suc n) (b ∷ path) h = by (b == slash) refl (short_part n path) h
  where
    by : (v : Bool) → (b == slash) ≡ v → (n < length (segment path) → has_slash (take n path) ≡ false) → suc n < length (cond v (b ∷ []) (b ∷ segment path)) → cond v true (has_slash (take n path)) ≡ false
    by true e more l = absurd (omega arith)
    by false e more l = more (omega arith)

pub slash_any : (bytes : List ℕ) → has_slash bytes ≡ list_any (λ b. b == 47) bytes
slash_any [] = refl
slash_any (b ∷ bytes) =
    let more = slash_any bytes in
    elim (b == 47) as (λ v. cond v true (has_slash bytes) ≡ (v || list_any (λ x. x == 47) bytes)) [
      | true ↦ refl
      | false ↦ more
    ]

module _ {K : Type 0} where
  -- what a parameter takes of a path
  param_row : (P : List ℕ → K → Type 0) (rs : RowsOf K) (b : ℕ) (path : List ℕ) → SomeRow P (param_step rs (b ∷ path)).1
      → SomeRow P rs × (0 < (param_step rs (b ∷ path)).0) × (has_slash (take (param_step rs (b ∷ path)).0 (b ∷ path)) ≡ false)
  unfolding param_step
  param_row P rs b path =
      let whole : List ℕ = b ∷ path in
      let suffix = longest_suffix (segment whole) rs in
      let Good : ℕ × RowsOf K → Type 0 = λ p. SomeRow P p.1 → SomeRow P rs × (0 < p.0) × (has_slash (take p.0 whole) ≡ false) in
      cond_both (ltb 0 (length suffix)) (length (segment whole) - length suffix, with_suffix suffix rs) (cond (has_slash whole) (0, []) (length whole, rs)) Good
      (λ e. λ h.
      let some : 0 < length suffix = ltb-true 0 (length suffix) e in
      let cut = longest_cuts (segment whole) [] rs (λ z. absurd (omega arith)) some in
      let shorter : length suffix < length (segment whole) = grind (arith, nat_tests) in
      (suffix_row P suffix rs h, omega arith, short_part (length (segment whole) - length suffix) whole (omega arith)))
      (λ _. cond_both (has_slash whole) (0, []) (length whole, rs) Good (λ _. λ h. absurd h) (λ e. λ h.
      (h, omega arith, ap has_slash (take_all (length whole) whole (omega arith)) ∙ e)))

or_else_cases : {K : Type 0} (a b : Option K) (k : K) → or_else a b ≡ Some k → (a ≡ Some k) ⊎ (b ≡ Some k)
or_else_cases None b k e = inr e
or_else_cases (Some x) b k e = inl e

drop_less : (n : ℕ) (b : ℕ) (path : List ℕ) → 0 < n → drop (n - 1) path ≡ drop n (b ∷ path)
drop_less zero b path h = absurd (omega arith)
drop_less (suc n) b path h = let e : suc n - 1 ≡ n = omega arith in ap (λ m. drop m path) e

byte_fits : (b : ℕ) (t path : List ℕ) → b < 256 → Fits t path → Fits (b ∷ t) (b ∷ path)
byte_fits b t path small h =
    let no_param : (b == param_token) ≡ false = ne_eqb b 256 (λ e. omega arith) in
    let no_catch_all : (b == catch_all_token) ≡ false = ne_eqb b 257 (λ e. omega arith) in
    rw (no_param, no_catch_all) (refl, h)

part_some : (n : ℕ) (b : ℕ) (path : List ℕ) → 0 < n → 0 < length (take n (b ∷ path))
part_some zero b path h = absurd (omega arith)
part_some (suc n) b path h = omega arith

part_fits : (n b : ℕ) (t path : List ℕ) → 0 < n → has_slash (take n (b ∷ path)) ≡ false → Fits t (drop (n - 1) path) → Fits (param_token ∷ t) (b ∷ path)
part_fits n b t path some plain h =
    let whole : List ℕ = b ∷ path in (
      take n whole,
      drop n whole,
      record { some = part_some n b path some; no_slash = sym (slash_any (take n whole)) ∙ plain },
      sym (take-append-drop n whole),
      subst (Fits t) (drop_less n b path some) h,
    )

module _ {K : Type 0} where
  abbrev Found : K → List ℕ → List ℕ → K → Type 0
  Found found path t k = Fits t path × (k ≡ found)

  by_token : (rs : RowsOf K) (b : ℕ) (path : List ℕ) (found : K) → b < 256
      → (seek 0 (step b rs) path ≡ Some found → SomeRow (Found found path) (step b rs))
      → (seek ((param_step (step param_token rs) (b ∷ path)).0 - 1) (param_step (step param_token rs) (b ∷ path)).1 path ≡ Some found
      → SomeRow (Found found (drop ((param_step (step param_token rs) (b ∷ path)).0 - 1) path)) (param_step (step param_token rs) (b ∷ path)).1)
      → (seek 0 (step b rs) path ≡ Some found) ⊎ (or_else (seek ((param_step (step param_token rs) (b ∷ path)).0 - 1) (param_step (step param_token rs) (b ∷ path)).1 path) (own (step catch_all_token rs)) ≡ Some found)
      → SomeRow (Found found (b ∷ path)) rs
  by_token rs b path found small literal part (inl e) =
      SomeRow-map _ _ (λ t k h. (rw h.1 (byte_fits b h.0 path small h.2.0), h.2.1)) rs (step_row (Found found path) b rs (literal e))
  by_token rs b path found small literal part (inr e) = by (or_else_cases _ _ found e)
    where
      by : (seek ((param_step (step param_token rs) (b ∷ path)).0 - 1) (param_step (step param_token rs) (b ∷ path)).1 path ≡ Some found) ⊎ (own (step catch_all_token rs) ≡ Some found) → SomeRow (Found found (b ∷ path)) rs
      by (inl h) =
          let taken = param_row (Found found (drop ((param_step (step param_token rs) (b ∷ path)).0 - 1) path)) (step param_token rs) b path (part h) in
          SomeRow-map _ _ (λ t k g. (rw g.1 (part_fits _ b g.0 path taken.1 taken.2 g.2.0), g.2.1)) rs
          (step_row (Found found (drop ((param_step (step param_token rs) (b ∷ path)).0 - 1) path)) param_token rs taken.0)
      by (inr h) = SomeRow-map _ _ (λ t k g. (rw g.1 tt, g.2.1)) rs (step_row _ catch_all_token rs (own_row (step catch_all_token rs) found h))

  pub seek_row : (n : ℕ) (rs : RowsOf K) (path : List ℕ) (found : K) → IsText path → seek n rs path ≡ Some found → SomeRow (Found found (drop n path)) rs
  unfolding seek
  seek_row zero rs [] found text e = SomeRow-map _ _ (λ t k h. (rw h.0 refl, h.1)) rs (own_row rs found e)
  seek_row (suc n) rs [] found text e = SomeRow-map _ _ (λ t k h. (rw h.0 refl, h.1)) rs (own_row rs found e)
  seek_row (suc n) rs (b ∷ path) found text e = seek_row n rs path found text.1 e
  seek_row zero rs (b ∷ path) found text e =
      by_token rs b path found text.0 (seek_row 0 (step b rs) path found text.1)
      (seek_row ((param_step (step param_token rs) (b ∷ path)).0 - 1) (param_step (step param_token rs) (b ∷ path)).1 path found text.1)
      (or_else_cases _ _ found e)
