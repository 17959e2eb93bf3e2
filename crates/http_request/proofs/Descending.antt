-- What a router finds at a path that has the form of a row.
use Rattle.std.proofs.Common.{◌≡◌, ◌<◌, ◌≤◌, ℕ, zero, suc, ◌+◌, ◌-◌, List, [], ◌∷◌, ◌++◌, length, drop, Option, Some, None, Bool, true, false, cond, ltb, nat_eq, ◌==◌, refl, ap, ◌∙◌, arith, ◌&&◌, length-append}
use Rattle.std.specs.List.{ends_with}
use Rattle.std.specs.Cmp.Lexicographic.{pointwise}
use Rattle.std.proofs.lemmas.Bool.{and_parts, and_left, and_right, ne_eqb, lt-ltb}
use Rattle.std.proofs.lemmas.Bool.Decides.{nat_tests}
use Rattle.std.proofs.lemmas.List.{drop_at}
use Rattle.matchit.specs.Rows.{RowsOf, param_token, catch_all_token}
use Rattle.matchit.specs.Seek.{cuts, segment, has_slash, slash, longest_suffix, with_suffix, own, step, or_else, seek, param_step}
use Rattle.matchit.specs.Level.{IsText}
use Rattle.http_request.specs.Paths.{IsSegment}
use Rattle.http_request.proofs.Seeking.{slash_any}

module _ {K : Type 0} where
  -- no row ends here or goes on with a parameter
  abbrev pub is_literal : RowsOf K → Bool
  is_literal [] = true
  is_literal (([], k) ∷ rest) = is_literal rest
  is_literal ((x ∷ t, k) ∷ rest) = ltb x 256 && is_literal rest

  step_none : (n : ℕ) (rs : RowsOf K) → 256 ≤ n → is_literal rs ≡ true → step n rs ≡ []
  step_none n [] high h = refl
  step_none n (([], k) ∷ rest) high h = step_none n rest high h
  step_none n ((x ∷ t, k) ∷ rest) high h =
      let parts = and_parts (ltb x 256) (is_literal rest) h in
      let differs : (x == n) ≡ false = grind (arith, nat_tests) in
      rw differs (step_none n rest high parts.1)

  no_rows : (path : List ℕ) → (param_step {K = K} [] path).1 ≡ []
  unfolding param_step
  no_rows path =
      elim (has_slash path) as (λ v. (cond {A = ℕ × RowsOf K} v (0, []) (length path, [])).1 ≡ []) [
        | true ↦ refl
        | false ↦ refl
      ]

  pub seek_none : (n : ℕ) (path : List ℕ) → seek {K = K} n [] path ≡ None
  unfolding seek
  seek_none zero [] = refl
  seek_none (suc n) [] = refl
  seek_none (suc n) (b ∷ path) = seek_none n path
  seek_none zero (b ∷ path) = simp (seek_none 0 path, no_rows (b ∷ path), seek_none (((param_step {K = K} [] (b ∷ path)).0) - 1) path)

  or_none : (a : Option K) → or_else a None ≡ a
  or_none None = refl
  or_none (Some k) = refl

  pub seek_byte : (rs : RowsOf K) (b : ℕ) (path : List ℕ) → is_literal rs ≡ true → seek 0 rs (b ∷ path) ≡ seek 0 (step b rs) path
  unfolding seek
  seek_byte rs b path h =
      simp (step_none param_token rs (omega arith) h, step_none catch_all_token rs (omega arith) h, no_rows (b ∷ path), seek_none ((param_step {K = K} [] (b ∷ path)).0 - 1) path, or_none)

  -- the rows behind some bytes
  abbrev pub behind : List ℕ → RowsOf K → RowsOf K
  behind [] rs = rs
  behind (b ∷ bytes) rs = behind bytes (step b rs)

  -- rows that go on with bytes as far as these
  abbrev pub are_literal : List ℕ → RowsOf K → Bool
  are_literal [] rs = true
  are_literal (b ∷ bytes) rs = is_literal rs && are_literal bytes (step b rs)

  pub seek_bytes : (bytes path : List ℕ) (rs : RowsOf K) → are_literal bytes rs ≡ true → seek 0 rs (bytes ++ path) ≡ seek 0 (behind bytes rs) path
  seek_bytes [] path rs h = refl
  seek_bytes (b ∷ bytes) path rs h =
      let parts = and_parts (is_literal rs) (are_literal bytes (step b rs)) h in
      seek_byte rs b (bytes ++ path) parts.0 ∙ seek_bytes bytes path (step b rs) parts.1

  seek_all : (n : ℕ) (rs : RowsOf K) (path : List ℕ) → length path ≤ n → seek n rs path ≡ own rs
  unfolding seek
  seek_all zero rs [] h = refl
  seek_all (suc n) rs [] h = refl
  seek_all zero rs (b ∷ path) h = absurd (omega arith)
  seek_all (suc n) rs (b ∷ path) h = seek_all n rs path (omega arith)

  -- bytes are skipped
  seek_over : (part path : List ℕ) (rs : RowsOf K) → seek (length part) rs (part ++ path) ≡ seek 0 rs path
  unfolding seek
  seek_over [] path rs = refl
  seek_over (b ∷ part) path rs = seek_over part path rs

segment_plain : (part : List ℕ) → has_slash part ≡ false → segment part ≡ part
segment_plain [] h = refl
segment_plain (b ∷ part) h = by (b == slash) h (segment_plain part)
  where
    by : (v : Bool) → cond v true (has_slash part) ≡ false → (has_slash part ≡ false → segment part ≡ part) → cond v (b ∷ []) (b ∷ segment part) ≡ b ∷ part
    by true e more = cc
    by false e more = ap (λ l. b ∷ l) (more e)

pub segment_to : (part rest : List ℕ) → has_slash part ≡ false → segment (part ++ slash ∷ rest) ≡ part ++ slash ∷ []
segment_to [] rest h = refl
segment_to (b ∷ part) rest h = by (b == slash) h (segment_to part rest)
  where
    by : (v : Bool) → cond v true (has_slash part) ≡ false → (has_slash part ≡ false → segment (part ++ slash ∷ rest) ≡ part ++ slash ∷ []) → cond v (b ∷ []) (b ∷ segment (part ++ slash ∷ rest)) ≡ b ∷ (part ++ slash ∷ [])
    by true e more = cc
    by false e more = ap (λ l. b ∷ l) (more e)

module _ (part : List ℕ) (some : 0 < length part) (plain : has_slash part ≡ false) where
  cuts_slash : cuts (part ++ slash ∷ []) (slash ∷ []) ≡ true
  cuts_slash =
      let counted : length (part ++ slash ∷ []) ≡ length part + 1 = length-append part (slash ∷ []) in
      let longer : ltb 1 (length (part ++ slash ∷ [])) ≡ true = lt-ltb 1 (length (part ++ slash ∷ [])) (omega (arith, counted)) in
      let at_end : drop (length (part ++ slash ∷ []) - 1) (part ++ slash ∷ []) ≡ slash ∷ [] = drop_at part (slash ∷ []) (length (part ++ slash ∷ []) - 1) (omega (arith, counted)) in
      rw (longer, at_end) refl

plain_parts : (b : ℕ) (part : List ℕ) → has_slash (b ∷ part) ≡ false → ((b == slash) ≡ false) × (has_slash part ≡ false)
plain_parts b part h = by (b == slash) refl h
  where
    by : (v : Bool) → (b == slash) ≡ v → cond v true (has_slash part) ≡ false → ((b == slash) ≡ false) × (has_slash part ≡ false)
    by true e l = cc
    by false e l = (e, l)

last_plain : (n : ℕ) (part : List ℕ) → has_slash part ≡ false → pointwise nat_eq (slash ∷ []) (drop n part) ≡ false
last_plain zero [] h = refl
last_plain (suc n) [] h = refl
last_plain zero (b ∷ part) h =
    let parts = plain_parts b part h in
    let differs : nat_eq 47 b ≡ false = grind (arith, nat_tests) in
    and_left (nat_eq 47 b) (pointwise nat_eq [] part) differs
last_plain (suc n) (b ∷ part) h = last_plain n part (plain_parts b part h).1

cuts_plain : (part : List ℕ) → has_slash part ≡ false → cuts part (slash ∷ []) ≡ false
cuts_plain part h = and_right (ltb 1 (length part)) (ends_with nat_eq part (slash ∷ [])) (last_plain (length part - 1) part h)

module _ {K : Type 0} where
  seek_param : (rs tails : RowsOf K) (b : ℕ) (path : List ℕ) → step b rs ≡ [] → step param_token rs ≡ tails → step catch_all_token rs ≡ []
      → seek 0 rs (b ∷ path) ≡ seek ((param_step tails (b ∷ path)).0 - 1) (param_step tails (b ∷ path)).1 path
  unfolding seek
  seek_param rs tails b path bytes params rest = simp (bytes, params, rest, seek_none {K = K} 0 path, or_none {K = K})

  all_taken : (tails : RowsOf K) (whole : List ℕ) → longest_suffix whole tails ≡ [] → has_slash whole ≡ false → param_step tails whole ≡ (length whole, tails)
  unfolding param_step
  all_taken tails whole none plain = rw (segment_plain whole plain, none, plain) refl

  some_taken : (tails inner : RowsOf K) (part path : List ℕ) → longest_suffix (part ++ slash ∷ []) tails ≡ slash ∷ [] → with_suffix (slash ∷ []) tails ≡ inner → has_slash part ≡ false
      → param_step tails (part ++ slash ∷ path) ≡ (length part, inner)
  unfolding param_step
  some_taken tails inner part path one within plain =
      let counted : length (part ++ slash ∷ []) - 1 ≡ length part = omega (arith, length-append part (slash ∷ [])) in
      rw (segment_to part path plain, one, within, counted) refl

  -- a parameter that takes the rest of a path
  take_rest : (rs tails : RowsOf K) (b : ℕ) (part : List ℕ) (k : K) → step b rs ≡ [] → step param_token rs ≡ tails → step catch_all_token rs ≡ []
      → longest_suffix (b ∷ part) tails ≡ [] → has_slash (b ∷ part) ≡ false → own tails ≡ Some k → seek 0 rs (b ∷ part) ≡ Some k
  take_rest rs tails b part k bytes params rest none plain ends =
      let whole : List ℕ = b ∷ part in
      let taken = all_taken tails whole none plain in
      seek_param rs tails b part bytes params rest ∙ ap (λ (p : ℕ × RowsOf K). seek (p.0 - 1) p.1 part) taken ∙ seek_all (length whole - 1) tails part (omega arith) ∙ ends

  -- a parameter that takes a path as far as a slash
  take_segment : (rs tails inner : RowsOf K) (b : ℕ) (part path : List ℕ) → step b rs ≡ [] → step param_token rs ≡ tails → step catch_all_token rs ≡ []
      → longest_suffix (b ∷ (part ++ slash ∷ [])) tails ≡ slash ∷ [] → with_suffix (slash ∷ []) tails ≡ inner → has_slash (b ∷ part) ≡ false
      → seek 0 rs (b ∷ (part ++ slash ∷ path)) ≡ seek 0 inner (slash ∷ path)
  take_segment rs tails inner b part path bytes params rest one within plain =
      let whole : List ℕ = b ∷ (part ++ slash ∷ path) in
      let taken = some_taken tails inner (b ∷ part) path one within plain in
      let less : length (b ∷ part) - 1 ≡ length part = omega arith in
      seek_param rs tails b (part ++ slash ∷ path) bytes params rest ∙ ap (λ (p : ℕ × RowsOf K). seek (p.0 - 1) p.1 (part ++ slash ∷ path)) taken
      ∙ ap (λ n. seek n inner (part ++ slash ∷ path)) less ∙ seek_over part (slash ∷ path) inner

-- ---- the rows that are met behind the bytes of the routes

pub plain_segment : (part : List ℕ) → IsSegment part → has_slash part ≡ false
plain_segment part s = slash_any part ∙ s.no_slash

first_small : (b : ℕ) (part : List ℕ) → IsText (b ∷ part) → ((param_token == b) ≡ false)
first_small b part text = let small : b < 256 = text.0 in ne_eqb 256 b (λ e. omega arith)

module _ {K : Type 0} where
  abbrev pub one_part : K → List ℕ × K
  one_part k = (param_token ∷ [], k)

  abbrev pub two_parts : K → List ℕ × K
  two_parts k = (param_token ∷ slash ∷ param_token ∷ [], k)

  abbrev pub three_parts : K → List ℕ × K
  three_parts k = (param_token ∷ slash ∷ param_token ∷ slash ∷ param_token ∷ [], k)

  -- one route, with a parameter
  pub part_found : (k : K) (part : List ℕ) → IsSegment part → IsText part → seek 0 (one_part k ∷ []) part ≡ Some k
  part_found k [] s text = absurd (let some = s.some in omega arith)
  part_found k (b ∷ part) s text =
      take_rest (one_part k ∷ []) (([], k) ∷ []) b part k (rw (first_small b part text) refl) refl refl refl (plain_segment (b ∷ part) s) refl

  behind_slash : (k : K) (part : List ℕ) → IsSegment part → IsText part → seek 0 ((slash ∷ param_token ∷ [], k) ∷ []) (slash ∷ part) ≡ Some k
  behind_slash k part s text = seek_byte ((slash ∷ param_token ∷ [], k) ∷ []) slash part refl ∙ part_found k part s text

  -- one route, with two parameters
  pub pair_found : (k : K) (part rest : List ℕ) → IsSegment part → IsText part → IsSegment rest → IsText rest → seek 0 (two_parts k ∷ []) (part ++ slash ∷ rest) ≡ Some k
  pair_found k [] rest s text s2 text2 = absurd (let some = s.some in omega arith)
  pair_found k (b ∷ part) rest s text s2 text2 =
      let plain = plain_segment (b ∷ part) s in
      let tails : RowsOf K = (slash ∷ param_token ∷ [], k) ∷ [] in
      take_segment (two_parts k ∷ []) tails tails b part rest (rw (first_small b part text) refl) refl refl (rw (cuts_slash (b ∷ part) s.some plain) refl) refl plain
      ∙ behind_slash k rest s2 text2

  -- one route, with three parameters
  pub triple_found : (k : K) (part next rest : List ℕ) → IsSegment part → IsText part → IsSegment next → IsText next → IsSegment rest → IsText rest
      → seek 0 (three_parts k ∷ []) (part ++ slash ∷ (next ++ slash ∷ rest)) ≡ Some k
  triple_found k [] next rest s text s2 text2 s3 text3 = absurd (let some = s.some in omega arith)
  triple_found k (b ∷ part) next rest s text s2 text2 s3 text3 =
      let plain = plain_segment (b ∷ part) s in
      let tails : RowsOf K = (slash ∷ param_token ∷ slash ∷ param_token ∷ [], k) ∷ [] in
      take_segment (three_parts k ∷ []) tails tails b part (next ++ slash ∷ rest) (rw (first_small b part text) refl) refl refl (rw (cuts_slash (b ∷ part) s.some plain) refl) refl plain
      ∙ seek_byte tails slash (next ++ slash ∷ rest) refl ∙ pair_found k next rest s2 text2 s3 text3

  -- two routes, of which the second ends where the first has its second parameter
  pub first_found : (k m : K) (part rest : List ℕ) → IsSegment part → IsText part → IsSegment rest → IsText rest → seek 0 (two_parts k ∷ one_part m ∷ []) (part ++ slash ∷ rest) ≡ Some k
  first_found k m [] rest s text s2 text2 = absurd (let some = s.some in omega arith)
  first_found k m (b ∷ part) rest s text s2 text2 =
      let plain = plain_segment (b ∷ part) s in
      let tails : RowsOf K = (slash ∷ param_token ∷ [], k) ∷ ([], m) ∷ [] in
      take_segment (two_parts k ∷ one_part m ∷ []) tails ((slash ∷ param_token ∷ [], k) ∷ []) b part rest (rw (first_small b part text) refl) refl refl
      (rw (cuts_slash (b ∷ part) s.some plain) refl) refl plain
      ∙ behind_slash k rest s2 text2

  pub second_found : (k m : K) (part : List ℕ) → IsSegment part → IsText part → seek 0 (two_parts k ∷ one_part m ∷ []) part ≡ Some m
  second_found k m [] s text = absurd (let some = s.some in omega arith)
  second_found k m (b ∷ part) s text =
      let plain = plain_segment (b ∷ part) s in
      let tails : RowsOf K = (slash ∷ param_token ∷ [], k) ∷ ([], m) ∷ [] in
      take_rest (two_parts k ∷ one_part m ∷ []) tails b part m (rw (first_small b part text) refl) refl refl (rw (cuts_plain (b ∷ part) plain) refl) plain refl
