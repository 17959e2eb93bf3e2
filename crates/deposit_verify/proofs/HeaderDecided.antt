-- The tests of what an envelope says decide the checks from that of the name to that of the menu.
use Rattle.std.specs.Prelude.{IsTrue, is_none}
use Rattle.std.proofs.Common.{◌≡◌, ◌<◌, ◌+◌, ◌||◌, ◌∷◌, ◌∙◌, [], ℕ, zero, suc, Bool, true, false, not, List, Option, Some, None, Contains, ap, arith, get_or, map, refl, sym}
use Rattle.std.specs.Bool.{Decides}
use Rattle.std.specs.Cmp.Lexicographic.{pointwise}
use Rattle.std.specs.List.{list_any}
use Rattle.std.specs.List.Sorted.{IsStrictlyIncreasing}
use Rattle.std.specs.Str.{bytes_eq}
use Rattle.std.proofs.lemmas.Bool.Decides.{Decides-and, Decides-by_or, Decides-eqb, Decides-like, Decides-ltb, not_from_Decides}
use Rattle.std.proofs.lemmas.List.Elements.{Decides-contains}
use Rattle.std.proofs.lemmas.Option.{same_Some}
use Rattle.std.proofs.lemmas.Slice.Eq.{bytes_eq-Decides, slice_eq-Decides}
use Rattle.schedule.specs.Schedule.{is_sunday}
use Rattle.deposit_name.specs.Name.{Name}
use Rattle.deposit_name.specs.declared.kinds.Kind.{Kind}
use Rattle.deposit_name.specs.declared.kinds.Kind.TheVariants.{Full, Diff, Incr}
use Rattle.deposit_name.proofs.KindLemmas.{same_kind_decides}
use Rattle.deposit_name.specs.declared.table.TableName.{TableName}
use Rattle.deposit_name.specs.declared.table.TableName.TheVariants.{Domain}
use Rattle.envelope.specs.Envelope.{Env}
use Rattle.deposit_verify.specs.Checks.{AgreesWithName, FollowsFull, FollowsPassed, HasContents, HasMenu, StandInOrder, counted_uris, object_uris}
use Rattle.deposit_verify.specs.Places.{all_tables, table_place}
use Rattle.deposit_verify.specs.Deposit.{deletes_of}
use Rattle.deposit_verify.specs.Known.{Known}
use Rattle.deposit_verify.specs.Verdict.{agrees_with_name, contains_text, follows_full, follows_passed, has_contents, has_menu, is_increasing, is_full, is_same_id, stand_in_order}
use Rattle.deposit_verify.proofs.Judged.{all_tables_right}

-- a fact that is asked only where another holds
pub implies_decides : {P Q : Type 0} (a b : Bool) → Decides a P → (P → Decides b Q) → Decides (not a || b) (P → Q)
implies_decides true b p q = let q = q (p.0 refl) in (λ e _. q.0 e, λ f. q.1 (f (p.0 refl)))
implies_decides false b p q = (λ _ h. absurd (not_from_Decides false p refl h), λ _. refl)

pub name_decides : (v : Env) (name : Name) → Decides (agrees_with_name v name) (AgreesWithName v name)
name_decides v name =
    Decides-like _ (λ h. record { kind = h.0; tld = h.1.0; day = h.1.1.0; resend = h.1.1.1 }) (λ h. (h.kind, (h.tld, (h.day, h.resend))))
    (Decides-and _ _ (same_kind_decides v.kind name.kind) (Decides-and _ _ (bytes_eq-Decides v.tld name.tld) (Decides-and _ _ (Decides-eqb v.watermark name.day) (Decides-eqb v.resend name.rev))))

pub weekday_decides : (v : Env) → Decides (not (is_sunday v.watermark) || is_full v.kind) (IsTrue (is_sunday v.watermark) → v.kind ≡ Full)
weekday_decides v = implies_decides _ _ (λ e. e, λ e. e) (λ _. same_kind_decides v.kind Full)

none_decides : {X : Type 0} (o : Option X) → Decides (is_none o) (o ≡ None)
none_decides None = (λ _. refl, λ _. refl)
none_decides (Some x) = (λ e. cc e, λ e. cc e)

same_id_decides : (one other : Option (List ℕ)) → Decides (is_same_id one other) ((id : List ℕ) × (one ≡ Some id) × (other ≡ Some id))
same_id_decides None other = (λ e. cc e, λ h. let clash = h.1 in cc clash)
same_id_decides (Some id) None = (λ e. cc e, λ h. let clash = h.2 in cc clash)
same_id_decides (Some id) (Some other) = (
  λ e. (id, refl, ap Some (sym ((bytes_eq-Decides id other).0 e))),
  λ h. (bytes_eq-Decides id other).1 (same_Some id h.0 h.1 ∙ sym (same_Some other h.0 h.2)),
)

full_decides : (prev_id full : Option (List ℕ)) → Decides (follows_full prev_id full) (FollowsFull prev_id full)
full_decides prev_id None = (λ e. cc e, λ h. let clash = h.1 in cc clash)
full_decides None (Some full) = (λ _. (full, refl, tt), λ _. refl)
full_decides (Some prev_id) (Some full) = (
  λ e. (full, refl, (bytes_eq-Decides prev_id full).0 e),
  λ h. (bytes_eq-Decides prev_id full).1 (h.2 ∙ sym (same_Some full h.0 h.1)),
)

pub passed_decides : (kind : Kind) (prev_id : Option (List ℕ)) (known : Known) → Decides (follows_passed kind prev_id known) (FollowsPassed kind prev_id known)
passed_decides Full prev_id known = none_decides prev_id
passed_decides Diff prev_id known = same_id_decides prev_id known.latest
passed_decides Incr prev_id known = full_decides prev_id known.full

pub contains_decides : (texts : List (List ℕ)) (text : List ℕ) → Decides (contains_text texts text) (Contains texts text)
contains_decides texts text =
    Decides-contains texts text (contains_text texts text)
    (Decides-by_or (λ one. bytes_eq one text) (λ one. one ≡ text) (list_any (λ one. bytes_eq one text)) (λ one. bytes_eq-Decides one text) refl (λ _ _. refl) texts)

-- ---- the menu

texts_decide : (one other : List (List ℕ)) → Decides (pointwise bytes_eq one other) (one ≡ other)
texts_decide one other = slice_eq-Decides bytes_eq-Decides one other (pointwise bytes_eq one other) refl

increase_decides : (ns : List ℕ) → Decides (is_increasing ns) (IsStrictlyIncreasing ns)
increase_decides [] = (λ _ k inside. absurd (omega (arith, inside)), λ _. refl)
increase_decides (n ∷ []) = (λ _ k inside. absurd (omega (arith, inside)), λ _. refl)
increase_decides (m ∷ n ∷ ns) = Decides-like _ there back (Decides-and _ _ (Decides-ltb m n) (increase_decides (n ∷ ns)))
  where
    there : (m < n) × IsStrictlyIncreasing (n ∷ ns) → IsStrictlyIncreasing (m ∷ n ∷ ns)
    there h zero inside = h.0
    there h (suc k) inside = let next : suc k + 1 ≡ suc (k + 1) = omega arith in rw next (h.1 k (omega (arith, inside)))

    back : IsStrictlyIncreasing (m ∷ n ∷ ns) → (m < n) × IsStrictlyIncreasing (n ∷ ns)
    back h = (h 0 (omega arith), λ k inside. let next : suc k + 1 ≡ suc (k + 1) = omega arith in rw next at (h (suc k) (omega (arith, inside))))

pub order_decides : (names : List TableName) → Decides (stand_in_order names) (StandInOrder names)
order_decides names = increase_decides (map table_place names)

pub same_place : (one other : TableName) → table_place one ≡ table_place other → one ≡ other
same_place one other same = sym (all_tables_right one Domain).1 ∙ ap (λ i. get_or all_tables i Domain) same ∙ (all_tables_right other Domain).1

same_places : (one other : List TableName) → map table_place one ≡ map table_place other → one ≡ other
same_places [] [] e = refl
same_places (x ∷ xs) (y ∷ ys) e =
    let head : table_place x ≡ table_place y = cc e in
    let tail : map table_place xs ≡ map table_place ys = cc e in
    let first = same_place x y head in
    let rest = same_places xs ys tail in
    λ i. first i ∷ rest i
same_places _ _ e = cc e

contents_decide : (kind : Kind) (names : List TableName) → Decides (has_contents kind names) (HasContents kind names)
contents_decide Full names = Decides-like _ (same_places names all_tables) (ap (map table_place)) (bytes_eq-Decides (map table_place names) (map table_place all_tables))
contents_decide _ names = order_decides names

pub menu_decides : (v : Env) → Decides (has_menu v) (HasMenu v)
menu_decides v =
    Decides-like _ (λ h. record { objects = h.0; counted = h.1.0; contents = h.1.1.0; deletes = h.1.1.1 }) (λ h. (h.objects, (h.counted, (h.contents, h.deletes))))
    (Decides-and _ _ (texts_decide v.object_uris object_uris) (Decides-and _ _ (texts_decide (map (λ c. c.uri) v.count) counted_uris)
    (Decides-and _ _ (contents_decide v.kind (map (λ f. f.name) v.contents)) (order_decides (map (λ f. f.name) (deletes_of v))))))
