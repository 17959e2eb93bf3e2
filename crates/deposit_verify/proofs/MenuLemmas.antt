-- The first place at which a list is not the wanted one.
use Rattle.std.proofs.Common.{◌≡◌, ◌≢◌, ◌≤◌, ◌<◌, ◌+◌, ◌-◌, ◌∷◌, ◌∙◌, [], Bool, true, false, not, Bor, MatchOption, ℕ, zero, suc, List, Option, Some, None, add-one, ap, arith, get_or, length, map, option_map, refl, slice_get, subst, sym, take}
use Rattle.std.specs.Bool.{Decides}
use Rattle.std.specs.Option.{is_some}
use Rattle.std.specs.List.Sorted.{IsStrictlyIncreasing}
use Rattle.std.specs.Slice.{IsItemAt}
use Rattle.std.proofs.lemmas.List.{get_or-take, length-map, length-take, take-map}
use Rattle.std.proofs.lemmas.Option.{get_or_from_slice_get, slice_get-get_or, slice_get-map, slice_get_past, slice_get_read, slice_get_within}
use Rattle.deposit_name.specs.declared.kinds.Kind.{Kind}
use Rattle.deposit_name.specs.declared.kinds.Kind.TheVariants.{Full}
use Rattle.deposit_name.specs.declared.table.TableName.{TableName}
use Rattle.envelope.specs.Envelope.{Env}
use Rattle.envelope.specs.declared.envelope.FileEntry.{FileEntry}
use Rattle.deposit_verify.specs.declared.files_reason.FileList.TheVariants as list
use Rattle.deposit_verify.specs.declared.header_reason.MenuReason.{MenuReason}
use Rattle.deposit_verify.specs.declared.header_reason.MenuReason.TheVariants as menu
use Rattle.deposit_verify.specs.Checks.{HasContents, HasMenu, StandInOrder, counted_uris, object_uris}
use Rattle.deposit_verify.specs.Deposit.{deletes_of}
use Rattle.deposit_verify.specs.HeaderReasons.{FirstDiffers, IsMenuReason, IsOutOfOrder}
use Rattle.deposit_verify.specs.Places.{all_tables, table_place}
use Rattle.deposit_verify.proofs.Lists.{same_whole}
use Rattle.deposit_verify.proofs.TableLemmas.{RisesAt}

-- what stands at a place, copied
pub copied_at : {X : Type 0} (xs : List X) (i : ℕ) (r : Option (Bor X)) → IsItemAt xs i r → option_map (λ x. x.now) r ≡ slice_get xs i
copied_at xs i None is = sym (slice_get_past xs i is.3)
copied_at xs i (Some x) is = sym (slice_get_read xs (length xs) i x.now refl is.3.0 is.1)

same_next : {X : Type 0} (xs ys : List X) (i : ℕ) → take i xs ≡ take i ys → slice_get xs i ≡ slice_get ys i → take (suc i) xs ≡ take (suc i) ys
same_next [] [] i before here = refl
same_next [] (y ∷ ys) zero before here = cc here
same_next [] (y ∷ ys) (suc i) before here = cc before
same_next (x ∷ xs) [] zero before here = cc here
same_next (x ∷ xs) [] (suc i) before here = cc before
same_next (x ∷ xs) (y ∷ ys) zero before here = let head : x ≡ y = cc here in λ k. head k ∷ []
same_next (x ∷ xs) (y ∷ ys) (suc i) before here =
    let head : x ≡ y = cc before in
    let tail : take i xs ≡ take i ys = cc before in
    let rest = same_next xs ys i tail here in
    λ k. head k ∷ rest k

-- one place more is the same
pub same_place_more : {X : Type 0} (xs ys : List X) (i : ℕ) → take i xs ≡ take i ys → slice_get xs i ≡ slice_get ys i → take (i + 1) xs ≡ take (i + 1) ys
same_place_more xs ys i before here = rw add-one (same_next xs ys i before here)

-- the same up to a place behind the end of the second
pub same_to_end : {X : Type 0} (xs ys : List X) (n : ℕ) → length ys < n → take n xs ≡ take n ys → xs ≡ ys
same_to_end xs ys n over same = same_whole xs ys n (omega (arith, length-take n xs, length-take n ys, ap length same)) (omega arith) same

-- lists that differ are not the same
pub differ : {X : Type 0} (xs ys : List X) (place : ℕ) → FirstDiffers xs ys place → xs ≢ ys
differ xs ys place differs same = differs.1 (λ i. slice_get (same i) place)

-- ---- the order of tables

name_at : (files : List FileEntry) (i : ℕ) (d : FileEntry) → i < length files → slice_get (map (λ f. f.name) files) i ≡ Some (get_or files i d).name
name_at files i d inside = slice_get-map (λ f. f.name) files i ∙ ap (option_map (λ f. f.name)) (slice_get-get_or files i d inside)

in_order_before : (files : List FileEntry) (i : ℕ) → i ≤ length files → ((k : ℕ) → k + 1 < i → RisesAt files k (k + 1)) → StandInOrder (take i (map (λ f. f.name) files))
in_order_before files i within rises =
    let places = map table_place (map (λ (f : FileEntry). f.name) files) in
    let same : take i places ≡ map table_place (take i (map (λ (f : FileEntry). f.name) files)) = take-map table_place i (map (λ (f : FileEntry). f.name) files) in
    let front : IsStrictlyIncreasing (take i places) = λ k inside.
    let below : k + 1 < i = omega (arith, inside, length-take i places) in
    omega (arith, rises k below, get_or-take i places k 0 (omega arith), get_or-take i places (k + 1) 0 below) in
    subst IsStrictlyIncreasing same front

-- a table that does not stand behind the one before it
pub out_of_order : (files : List FileEntry) (i : ℕ) (d e : FileEntry) (before here : ℕ) → before ≡ table_place (get_or files (i - 1) d).name → here ≡ table_place (get_or files i e).name
    → 1 ≤ i → i < length files → here ≤ before → ((k : ℕ) → k + 1 < i → RisesAt files k (k + 1)) → IsOutOfOrder (map (λ f. f.name) files) i (get_or files (i - 1) d).name (get_or files i e).name
out_of_order files i d e before here p q some inside falls rises = record {
  later = some;
  in_order = in_order_before files i (omega arith) rises;
  before_told = name_at files (i - 1) d (omega arith);
  here_told = name_at files i e inside;
  not_behind = omega arith;
}

place_of_name : (names : List TableName) (i : ℕ) (name : TableName) → slice_get names i ≡ Some name → get_or (map table_place names) i 0 ≡ table_place name
place_of_name names i name is = get_or_from_slice_get (map table_place names) i (table_place name) 0 (slice_get-map table_place names i ∙ ap (option_map table_place) is)

not_in_order : (names : List TableName) (place : ℕ) (before here : TableName) → IsOutOfOrder names place before here → StandInOrder names → ⊥
not_in_order names place before here lacks rises =
    let next : place - 1 + 1 ≡ place = omega (arith, lacks.later) in
    let within = slice_get_within names place here lacks.here_told in
    let rise = rises (place - 1) (omega (arith, lacks.later, within, length-map names table_place)) in
    let at : get_or (map table_place names) (place - 1) 0 < get_or (map table_place names) place 0 = rw next at rise in
    omega (arith, at, lacks.not_behind, place_of_name names (place - 1) before lacks.before_told, place_of_name names place here lacks.here_told)

-- ---- the menu

ordered_contents : (kind : Kind) (names : List TableName) → kind ≢ Full → HasContents kind names → StandInOrder names
ordered_contents Full names partial has = absurd (partial refl)
ordered_contents _ names partial has = has

full_contents : (kind : Kind) (names : List TableName) → kind ≡ Full → HasContents kind names → names ≡ all_tables
full_contents kind names full has = subst (λ (k : Kind). HasContents k names) full has

-- a menu with such a place is not right
pub menu_fails : (v : Env) (reason : MenuReason) → IsMenuReason v reason → HasMenu v → ⊥
menu_fails v (menu.ObjectUri place here) is has = differ v.object_uris object_uris place is.0 has.objects
menu_fails v (menu.Count place here) is has = differ (map (λ c. c.uri) v.count) counted_uris place is.1.0 has.counted
menu_fails v (menu.Contents place here) is has =
    differ (map (λ f. f.name) v.contents) all_tables place is.2.0 (full_contents v.kind (map (λ f. f.name) v.contents) is.1 has.contents)
menu_fails v (menu.Order list.Contents place before here) is has =
    not_in_order (map (λ f. f.name) v.contents) place before here is.2 (ordered_contents v.kind (map (λ f. f.name) v.contents) is.1 has.contents)
menu_fails v (menu.Order list.Deletes place before here) is has = not_in_order (map (λ f. f.name) (deletes_of v)) place before here is.2 has.deletes

pub menu_decided : (v : Env) (found : Option MenuReason) (none : Bool) → MatchOption found (HasMenu v) (IsMenuReason v) → is_some found ≡ not none → Decides none (HasMenu v)
menu_decided v None true says is = (λ _. says, λ _. refl)
menu_decided v (Some reason) false says is = (λ e. cc e, λ has. absurd (menu_fails v reason says has))
menu_decided v None false says is = cc is
menu_decided v (Some reason) true says is = cc is
