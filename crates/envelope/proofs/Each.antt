-- Reading the items of an array one after the other, as a loop does.
use Rattle.std.proofs.Common.{◌≡◌, ℕ, ◌+◌, ◌<◌, ◌≤◌, List, [], ◌∷◌, ◌++◌, length, drop, get_or, map, Option, Some, None, option_map, String, Global, string_bytes, refl, sym, ap, ◌∙◌, append_assoc, subst, Less}
use Rattle.std.proofs.lemmas.Option.{cond_some, option_and_then_some, same_Some}
use Rattle.std.specs.Prelude.{All}
use Rattle.std.proofs.lemmas.List.Elements.{All-push}
use Rattle.std.specs.List.{AllByRecursion}
use Rattle.std.specs.List.Sorted.{IsStrictlySortedBy}
use Rattle.std.specs.Map.{keys_of}
use Rattle.std.specs.String.{string_cmp}
use Rattle.std.specs.Cmp.Lexicographic.{slice_cmp}
use Rattle.std.specs.Ordering.{nat_cmp}
use Rattle.deposit_name.specs.Identifiers.{passing_text}
use Rattle.envelope.specs.Uri.{is_uri}
use Rattle.envelope.specs.Envelope.{IsCount, UrisRise}
use Rattle.std.proofs.lemmas.List.{append-nil, drop_more, drop_all, map_push}
use Rattle.serde_json.specs.Data.{Data}
use Rattle.serde_json.specs.View.{view, items_view, members_view}
use Rattle.serde_json.specs.declared.value.Value.{Value}
use Rattle.envelope.specs.declared.envelope.Count.{Count}
use Rattle.envelope.specs.JsonReading.{◌>>=◌, each_at, counts_of, count_at, number_at}

-- what was read before, and what is still read
abbrev pub with_front : {X : Type 0} → List X → Option (List X) → Option (List X)
with_front front read = option_map (λ xs. front ++ xs) read

regroup : {X : Type 0} (front : List X) (x : X) (read : Option (List X)) → with_front front (read >>= λ xs. Some (x ∷ xs)) ≡ with_front (front ++ x ∷ []) read
regroup front x (Some xs) = ap Some (sym (append_assoc front (x ∷ []) xs))
regroup front x None = refl

nothing_more : {X : Type 0} (front : List X) → with_front front (Some []) ≡ Some front
nothing_more front = ap Some (append-nil front)

-- the first so many items have been read, and each is in form
pub record ReadSoFar {X : Type 0} (f : Data → Option X) (P : X → Type 0) (vs : List Value) (i : ℕ) (front : List X) : Type 0 where
  pub so_far : with_front front (each_at f (items_view (drop i vs))) ≡ each_at f (items_view vs)
  pub valid : All P front

module _ {X : Type 0} {f : Data → Option X} {P : X → Type 0} {vs : List Value} {i : ℕ} {front : List X} (read : ReadSoFar f P vs i front) where
  pub each_more : {v : Value} {x : X} → i < length vs → v ≡ get_or vs i v → Some x ≡ f (view v) → P x → ReadSoFar f P vs (i + 1) (front ++ x ∷ [])
  unfolding each_at
  each_more {v} {x} within is found in_form =
      let left = each_at f (items_view (drop (i + 1) vs)) in
      let here : with_front front (each_at f (items_view (drop i vs))) ≡ with_front (front ++ x ∷ []) left = rw (drop_more vs i v within, ← is, ← found) (regroup front x left) in
      record { so_far = sym here ∙ read.so_far; valid = All-push P front x read.valid in_form }

  pub each_stops : {v : Value} → i < length vs → v ≡ get_or vs i v → None ≡ f (view v) → each_at f (items_view vs) ≡ None
  unfolding each_at
  each_stops {v} within is found = sym read.so_far ∙ rw (drop_more vs i v within, ← is, ← found) refl

  pub each_done : length vs ≤ i → each_at f (items_view vs) ≡ Some front
  unfolding each_at
  each_done past = sym read.so_far ∙ rw (drop_all i vs past) (nothing_more front)

-- ---- the members of an object

abbrev pub Entry : Type 0
Entry = String Global × Value

-- a count that was read has its name's URI
count_at-uri : (k : List ℕ) (d : Data) (x : Count) → Some x ≡ count_at k d → x.uri ≡ k
unfolding count_at
count_at-uri k d x e =
    option_and_then_some (λ u. number_at 4294967295 d >>= λ n. Some (record { uri = u; count = n })) (passing_text is_uri k) x (sym e) (λ u passed more.
    option_and_then_some (λ n. Some (record { uri = u; count = n })) (number_at 4294967295 d) x more (λ n _ last.
    sym ((cond_some (is_uri k) k u passed).1 ∙ ap (λ c. c.uri) (same_Some _ x last))))

-- the names of a map rise
above : (k : String Global) (es : List Entry) → AllByRecursion (λ y. string_cmp k y ≡ Less) (keys_of es) → AllByRecursion (λ y. slice_cmp nat_cmp (string_bytes k) y ≡ Less) (map (λ e. string_bytes e.0) es)
above k [] h = tt
above k (e ∷ es) h = (h.0, above k es h.1)

sorted_names : (es : List Entry) → IsStrictlySortedBy string_cmp (keys_of es) → IsStrictlySortedBy (slice_cmp nat_cmp) (map (λ e. string_bytes e.0) es)
unfolding IsStrictlySortedBy
sorted_names [] h = tt
sorted_names (e ∷ es) h = (above e.0 es h.0, sorted_names es h.1)

-- the members before those that are left have been read: each in form, and under its name
pub record CountsSoFar (members left : List Entry) (front : List Count) : Type 0 where
  pub so_far : with_front front (counts_of (members_view left)) ≡ counts_of (members_view members)
  pub done : List Entry
  pub parts : members ≡ done ++ left
  pub named : map (λ c. c.uri) front ≡ map (λ e. string_bytes e.0) done
  pub valid : All IsCount front

module _ {members left : List Entry} {front : List Count} (read : CountsSoFar members left front) where
  pub counts_more : {e : Entry} {rest : List Entry} {x : Count} {name : List ℕ} → left ≡ e ∷ rest → name ≡ string_bytes e.0 → Some x ≡ count_at name (view e.1) → IsCount x
      → CountsSoFar members rest (front ++ x ∷ [])
  unfolding counts_of
  counts_more {e} {rest} {x} is named found in_form =
      let found_there = rw named at found in
      let here : with_front front (counts_of (members_view left)) ≡ with_front (front ++ x ∷ []) (counts_of (members_view rest)) = rw (is, ← found_there) (regroup front x (counts_of (members_view rest))) in
      record {
        so_far = sym here ∙ read.so_far;
        done = read.done ++ e ∷ [];
        parts = read.parts ∙ ap (λ es. read.done ++ es) is ∙ sym (append_assoc read.done (e ∷ []) rest);
        named = map_push (λ c. c.uri) front x ∙ ap (λ us. us ++ x.uri ∷ []) read.named
            ∙ ap (λ u. map (λ m. string_bytes m.0) read.done ++ u ∷ []) (count_at-uri (string_bytes e.0) (view e.1) x found_there) ∙ sym (map_push (λ m. string_bytes m.0) read.done e);
        valid = All-push IsCount front x read.valid in_form;
      }

  pub counts_stop : {e : Entry} {rest : List Entry} {name : List ℕ} → left ≡ e ∷ rest → name ≡ string_bytes e.0 → None ≡ count_at name (view e.1) → counts_of (members_view members) ≡ None
  unfolding counts_of
  counts_stop is named found = let found_there = rw named at found in sym read.so_far ∙ rw (is, ← found_there) refl

  pub counts_done : left ≡ [] → counts_of (members_view members) ≡ Some front
  unfolding counts_of
  counts_done is = sym read.so_far ∙ rw is (nothing_more front)

  pub counts_rise : left ≡ [] → IsStrictlySortedBy string_cmp (keys_of members) → UrisRise front
  counts_rise is sorted = rw read.named (sorted_names read.done (subst (λ es. IsStrictlySortedBy string_cmp (keys_of es)) (read.parts ∙ rw is (append-nil read.done)) sorted))
