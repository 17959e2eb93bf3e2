-- The router finds a path's row exactly where the path names a target.
use Rattle.std.proofs.Common.{◌≡◌, ◌<◌, ◌≤◌, ℕ, List, [], ◌∷◌, ◌++◌, codes, length, map, Some, true, false, ltb, inl, inr, refl, ap, ap₂, ◌∙◌, subst, arith, append-nil, ◌==◌}
use Rattle.std.specs.List.{list_all, AllZip}
use Rattle.std.proofs.lemmas.Bool.{and_parts, ne_eqb, ltb-true}
use Rattle.matchit.specs.Rows.{RowsOf, param_token, catch_all_token}
use Rattle.matchit.specs.Seek.{own, seek, first, slash}
use Rattle.matchit.specs.Router.{RouteOf}
use Rattle.matchit.specs.Level.{IsText}
use Rattle.matchit.specs.Params.{walk}
use Rattle.matchit.proofs.OnLiterals.{matchit_on_literals}
use Rattle.http_request.specs.declared.routes.Route.{Route}
use Rattle.http_request.specs.declared.routes.Route.TheVariants.{Registry, Deposit, Statements, Check, Release, ReleasedPart, Hold, Lift, Notices, Reasons, Digests, State, Due, Purges}
use Rattle.http_request.specs.Paths.{Target, IsSegment, NamesTarget, path_text, row_of, target_at, with_slashes}
use Rattle.http_request.specs.RouteTable.{entry_of, route_table}
use Rattle.http_request.proofs.Seeking.{Fits, SomeRow, TakesByte, seek_row}
use Rattle.http_request.proofs.Descending.{are_literal, behind, seek_bytes, part_found, pair_found, triple_found, first_found, second_found, plain_segment}
use Rattle.http_request.proofs.Walks.{one_walked, two_walked, three_walked}

abbrev pub AreSegments : List (List ℕ) → List (List ℕ) → Type 0
AreSegments names parts = AllZip (λ name part. IsSegment part) names parts

-- the parameters of a pattern
abbrev pub tokens : List (List ℕ) → List ℕ
tokens [] = []
tokens (name ∷ []) = param_token ∷ []
tokens (name ∷ next ∷ names) = param_token ∷ slash ∷ tokens (next ∷ names)

module _ (P : List (List ℕ) → Type 0) where
  with_none : P [] → (parts : List (List ℕ)) → AreSegments [] parts → P parts
  with_none h [] s = h
  with_none h (part ∷ parts) s = absurd s

  module _ (name : List ℕ) where
    with_one : ((part : List ℕ) → IsSegment part → P (part ∷ [])) → (parts : List (List ℕ)) → AreSegments (name ∷ []) parts → P parts
    with_one h [] s = absurd s
    with_one h (part ∷ []) s = h part s.0
    with_one h (part ∷ next ∷ parts) s = absurd s.1

    with_two : (other : List ℕ) → ((part rest : List ℕ) → IsSegment part → IsSegment rest → P (part ∷ rest ∷ [])) → (parts : List (List ℕ)) → AreSegments (name ∷ other ∷ []) parts → P parts
    with_two other h [] s = absurd s
    with_two other h (part ∷ []) s = absurd s.1
    with_two other h (part ∷ rest ∷ []) s = h part rest s.0 s.1.0
    with_two other h (part ∷ rest ∷ more ∷ parts) s = absurd s.1.1

    with_three : (other last : List ℕ) → ((part next rest : List ℕ) → IsSegment part → IsSegment next → IsSegment rest → P (part ∷ next ∷ rest ∷ [])) → (parts : List (List ℕ))
        → AreSegments (name ∷ other ∷ last ∷ []) parts → P parts
    with_three other last h [] s = absurd s
    with_three other last h (part ∷ []) s = absurd s.1
    with_three other last h (part ∷ next ∷ []) s = absurd s.1.1
    with_three other last h (part ∷ next ∷ rest ∷ []) s = h part next rest s.0 s.1.0 s.1.1.0
    with_three other last h (part ∷ next ∷ rest ∷ more ∷ parts) s = absurd s.1.1.1

IsText-append : (a b : List ℕ) → IsText (a ++ b) → IsText a × IsText b
IsText-append [] b h = (tt, h)
IsText-append (x ∷ a) b h = let r = IsText-append a b h.1 in ((h.0, r.0), r.1)

-- ---- what has its form is found, and its parameters are read

abbrev values : List (List ℕ × List ℕ) → List (List ℕ)
values taken = map (λ p. p.1) taken

-- what the parameters of a route take of a path
abbrev pub read_at : RouteOf Route → List ℕ → List (List ℕ)
read_at k path = values (walk k.pattern k.text path k.names 0 0)

module _ (front : List ℕ) (k : RouteOf Route) where
  abbrev IsReadAt : List (List ℕ) → Type 0
  IsReadAt parts = (read_at k (front ++ with_slashes parts) ≡ parts) × (IsText (front ++ with_slashes parts) → first route_table (front ++ with_slashes parts) ≡ Some k)

  -- what the router keeps of a route
  record IsKept (names : List (List ℕ)) : Type 0 where
    few : length names ≤ 3
    text : list_all (λ b. ltb b 256) front ≡ true
    pattern : k.pattern ≡ front ++ tokens names
    reads : (parts : List (List ℕ)) → AreSegments names parts → IsReadAt parts

  module _ (small : list_all (λ b. ltb b 256) front ≡ true) (literal : are_literal front route_table ≡ true) where
    -- by the rows behind what the path begins with
    by_rows : (rs : RowsOf (RouteOf Route)) (path : List ℕ) → behind front route_table ≡ rs → seek 0 rs path ≡ Some k → first route_table (front ++ path) ≡ Some k
    by_rows rs path is found = seek_bytes front path route_table literal ∙ ap (λ (rs : RowsOf (RouteOf Route)). seek 0 rs path) is ∙ found

    walk_same : (pattern : List ℕ) (places : List (ℕ × ℕ)) (path : List ℕ) → k.pattern ≡ pattern → k.names ≡ places → read_at k path ≡ values (walk pattern k.text path places 0 0)
    walk_same pattern places path p n = ap₂ (λ (q : List ℕ) (m : List (ℕ × ℕ)). values (walk q k.text path m 0 0)) p n

    none_kept : k.pattern ≡ front ++ [] → k.names ≡ [] → (rs : RowsOf (RouteOf Route)) → behind front route_table ≡ rs → own rs ≡ Some k → IsKept []
    unfolding seek
    none_kept pattern places rs is ends = record {
      few = omega arith;
      text = small;
      pattern = pattern;
      reads = with_none IsReadAt (walk_same _ [] (front ++ []) pattern places, λ text. by_rows rs [] is ends);
    }

    module _ (name : List ℕ) (place : ℕ × ℕ) where
      one_kept : k.pattern ≡ front ++ param_token ∷ [] → k.names ≡ place ∷ [] → (rs : RowsOf (RouteOf Route)) → behind front route_table ≡ rs
          → ((part : List ℕ) → IsSegment part → IsText part → seek 0 rs part ≡ Some k) → IsKept (name ∷ [])
      one_kept pattern places rs is finds = record {
        few = omega arith;
        text = small;
        pattern = pattern;
        reads = with_one IsReadAt name (λ part s. (
          walk_same _ (place ∷ []) (front ++ part) pattern places ∙ ap values (one_walked front k.text small part place s.some),
          λ text. by_rows rs part is (finds part s (IsText-append front part text).1),
        ));
      }

      module _ (other : List ℕ) (next : ℕ × ℕ) (short : length front < 100) where
        two_kept : k.pattern ≡ front ++ param_token ∷ slash ∷ param_token ∷ [] → k.names ≡ place ∷ next ∷ [] → (rs : RowsOf (RouteOf Route)) → behind front route_table ≡ rs
            → ((part rest : List ℕ) → IsSegment part → IsText part → IsSegment rest → IsText rest → seek 0 rs (part ++ slash ∷ rest) ≡ Some k) → IsKept (name ∷ other ∷ [])
        two_kept pattern places rs is finds = record {
          few = omega arith;
          text = small;
          pattern = pattern;
          reads = with_two IsReadAt name other (λ part rest s t. (
            walk_same _ (place ∷ next ∷ []) (front ++ (part ++ slash ∷ rest)) pattern places ∙ ap values (two_walked front k.text small short part s.some (plain_segment part s) place next rest t.some),
            λ text.
                let u = (IsText-append front (part ++ slash ∷ rest) text).1 in
                let v = IsText-append part (slash ∷ rest) u in
                by_rows rs (part ++ slash ∷ rest) is (finds part rest s v.0 t v.1.1),
          ));
        }

        three_kept : (last : List ℕ) (final : ℕ × ℕ) → k.pattern ≡ front ++ param_token ∷ slash ∷ param_token ∷ slash ∷ param_token ∷ [] → k.names ≡ place ∷ next ∷ final ∷ []
            → (rs : RowsOf (RouteOf Route)) → behind front route_table ≡ rs
            → ((part more rest : List ℕ) → IsSegment part → IsText part → IsSegment more → IsText more → IsSegment rest → IsText rest → seek 0 rs (part ++ slash ∷ (more ++ slash ∷ rest)) ≡ Some k)
            → IsKept (name ∷ other ∷ last ∷ [])
        three_kept last final pattern places rs is finds = record {
          few = omega arith;
          text = small;
          pattern = pattern;
          reads = with_three IsReadAt name other last (λ part more rest s t u. (
            walk_same _ (place ∷ next ∷ final ∷ []) (front ++ (part ++ slash ∷ (more ++ slash ∷ rest))) pattern places
                ∙ ap values (three_walked front k.text small short part s.some (plain_segment part s) place next more rest final t.some (plain_segment more t) u.some),
            λ text.
                let v = (IsText-append front (part ++ slash ∷ (more ++ slash ∷ rest)) text).1 in
                let w = IsText-append part (slash ∷ (more ++ slash ∷ rest)) v in
                let x = IsText-append more (slash ∷ rest) w.1.1 in
                by_rows rs (part ++ slash ∷ (more ++ slash ∷ rest)) is (finds part more rest s w.0 t x.0 u x.1.1),
          ));
        }

row_kept : (route : Route) → IsKept (row_of route).front (entry_of route) (row_of route).names
unfolding matchit_on_literals
row_kept Registry = one_kept _ _ refl refl _ _ refl refl _ refl (part_found _)
row_kept Deposit = one_kept _ _ refl refl _ _ refl refl _ refl (part_found _)
row_kept Statements = none_kept _ _ refl refl refl refl _ refl refl
row_kept Check = two_kept _ _ refl refl _ _ _ _ (omega arith) refl refl _ refl (pair_found _)
row_kept Release = one_kept _ _ refl refl _ _ refl refl _ refl (second_found _ _)
row_kept ReleasedPart = two_kept _ _ refl refl _ _ _ _ (omega arith) refl refl _ refl (first_found _ _)
row_kept Hold = one_kept _ _ refl refl _ _ refl refl _ refl (part_found _)
row_kept Lift = one_kept _ _ refl refl _ _ refl refl _ refl (part_found _)
row_kept Notices = one_kept _ _ refl refl _ _ refl refl _ refl (part_found _)
row_kept Reasons = three_kept _ _ refl refl _ _ _ _ (omega arith) _ _ refl refl _ refl (triple_found _)
row_kept Digests = one_kept _ _ refl refl _ _ refl refl _ refl (part_found _)
row_kept State = none_kept _ _ refl refl refl refl _ refl refl
row_kept Due = none_kept _ _ refl refl refl refl _ refl refl
row_kept Purges = none_kept _ _ refl refl refl refl _ refl refl

pub target_found : (target : Target) → AreSegments (row_of target.route).names target.parameters → IsText (path_text target.route target.parameters)
    → first route_table (path_text target.route target.parameters) ≡ Some (entry_of target.route)
target_found target s text = ((row_kept target.route).reads target.parameters s).1 text

pub target_walked : (target : Target) → AreSegments (row_of target.route).names target.parameters
    → read_at (entry_of target.route) (path_text target.route target.parameters) ≡ target.parameters
target_walked target s = ((row_kept target.route).reads target.parameters s).0

pub few_parameters : (route : Route) → length (row_of route).names ≤ 3
few_parameters route = (row_kept route).few

-- ---- what is found has its form

fits_bytes : (bytes t path : List ℕ) → list_all (λ b. ltb b 256) bytes ≡ true → Fits (bytes ++ t) path → (rest : List ℕ) × (path ≡ bytes ++ rest) × Fits t rest
fits_bytes [] t path small h = (path, refl, h)
fits_bytes (x ∷ bytes) t path small h =
    let parts = and_parts (ltb x 256) (list_all (λ b. ltb b 256) bytes) small in
    let below : x < 256 = ltb-true x 256 parts.0 in
    let no_param : (x == param_token) ≡ false = ne_eqb x 256 (λ e. omega arith) in
    let no_catch_all : (x == catch_all_token) ≡ false = ne_eqb x 257 (λ e. omega arith) in
    by path (rw (no_param, no_catch_all) at h) (λ rest f. fits_bytes bytes t rest parts.1 f)
  where
    by : (path : List ℕ) → TakesByte x (Fits (bytes ++ t)) path → ((rest : List ℕ) → Fits (bytes ++ t) rest → (u : List ℕ) × (rest ≡ bytes ++ u) × Fits t u)
        → (u : List ℕ) × (path ≡ (x ∷ bytes) ++ u) × Fits t u
    by [] f more = absurd f
    by (b ∷ rest) f more =
        let g = more rest f.1 in
        let same : b ∷ rest ≡ x ∷ (bytes ++ g.0) = ap (λ y. y ∷ rest) f.0 ∙ ap (λ l. x ∷ l) g.1 in
        (g.0, same, g.2)

fits_tokens : (names : List (List ℕ)) (path : List ℕ) → Fits (tokens names) path → (parts : List (List ℕ)) × AreSegments names parts × (path ≡ with_slashes parts)
fits_tokens [] path h = ([], tt, h)
fits_tokens (name ∷ []) path (part, rest, s, e, h) = (part ∷ [], (s, tt), e ∙ ap (λ l. part ++ l) h ∙ append-nil part)
fits_tokens (name ∷ next ∷ names) path (part, rest, s, e, h) =
    let f = fits_bytes (codes "/") (tokens (next ∷ names)) rest refl h in
    by f.0 (fits_tokens (next ∷ names) f.0 f.2) (e ∙ ap (λ l. part ++ l) f.1)
  where
    by : (more : List ℕ) → ((parts : List (List ℕ)) × AreSegments (next ∷ names) parts × (more ≡ with_slashes parts)) → path ≡ part ++ (codes "/" ++ more)
        → (parts : List (List ℕ)) × AreSegments (name ∷ next ∷ names) parts × (path ≡ with_slashes parts)
    by more ([], t, g) e2 = absurd t
    by more (other ∷ others, t, g) e2 = (part ∷ other ∷ others, (s, t), e2 ∙ ap (λ l. part ++ (codes "/" ++ l)) g)

abbrev pub IsFoundAt : List ℕ → RouteOf Route → Type 0
IsFoundAt path found = (target : Target) × NamesTarget path target × (found ≡ entry_of target.route)

-- each row is that of its route
abbrev AreEntries : RowsOf (RouteOf Route) → Type 0
AreEntries [] = Unit {0}
AreEntries ((t, k) ∷ rest) = (t ≡ k.pattern) × (k ≡ entry_of k.value) × AreEntries rest

fitting_entry : (path : List ℕ) (found : RouteOf Route) (rs : RowsOf (RouteOf Route)) → AreEntries rs → SomeRow (λ t k. Fits t path × (k ≡ found)) rs
    → Fits found.pattern path × (found ≡ entry_of found.value)
fitting_entry path found [] all h = absurd h
fitting_entry path found ((t, k) ∷ rest) (is, of, all) (inl (fits, same)) =
    subst (λ (x : RouteOf Route). Fits x.pattern path × (x ≡ entry_of x.value)) same (subst (λ (p : List ℕ). Fits p path) is fits, of)
fitting_entry path found ((t, k) ∷ rest) (is, of, all) (inr h) = fitting_entry path found rest all h

entries : AreEntries route_table
unfolding matchit_on_literals
entries = (refl, refl, (refl, refl, (refl, refl, (refl, refl, (refl, refl, (refl, refl, (refl, refl, (refl, refl, (refl, refl, (refl, refl, (refl, refl, (refl, refl, (refl, refl, (refl, refl, tt))))))))))))))

pub found_target : (path : List ℕ) → IsText path → (found : RouteOf Route) → first route_table path ≡ Some found → IsFoundAt path found
found_target path text found e =
    let is = fitting_entry path found route_table entries (seek_row 0 route_table path found text e) in
    let row = row_kept found.value in
    let pattern = ap (λ (x : RouteOf Route). x.pattern) is.1 ∙ row.pattern in
    let f = fits_bytes (row_of found.value).front (tokens (row_of found.value).names) path row.text (subst (λ (p : List ℕ). Fits p path) pattern is.0) in
    let g = fits_tokens (row_of found.value).names f.0 f.2 in
    (target_at found.value g.0, (g.1, f.1 ∙ ap (λ l. (row_of found.value).front ++ l) g.2), is.1)
