-- The chain of a deposit as the records tell it is that of their state.
use Rattle.std.specs.Prelude.{bytes_eq}
use Rattle.std.proofs.Common.{◌≡◌, ℕ, List, [], ◌∷◌, map, Bool, true, false, ◌&&◌, ◌==◌, refl, sym, ◌∙◌, ap, cond}
use Rattle.std.specs.List.{filter, list_any}
use Rattle.std.specs.FinMap.{entries}
use Rattle.std.specs.Ordering.{is_eq}
use Rattle.std.proofs.lemmas.Bool.{and_parts}
use Rattle.std.proofs.lemmas.Map.Text.{is_eq-slice_cmp}
use Rattle.deposit_name.specs.Name.{Name}
use Rattle.desk.specs.declared.notices.Notice as desk
use Rattle.custody_records.specs.declared.parts.Part as typed
use Rattle.custody_records.specs.Keys.{PartKey, part_cmp, text_cmp}
use Rattle.custody_records.specs.Records.{PartRecord, Records, key_of, name_of, parts_of}
use Rattle.custody_records.specs.Tables.{row_entries}
use Rattle.custody_records.specs.TypedRecords.{key_of_part, part_value}
use Rattle.custody_records.proofs.GroupLemmas.{filter_entries}
use Rattle.custody_machine.specs.Machine.{chain_of, has_dropped_part, held_chain, is_receipt_of, latest_full, passed_first_names}
use Rattle.custody_machine.specs.Machine as machine
use Rattle.custody_machine.specs.declared.command.Statement as stated
use Rattle.custody_machine.specs.State.{State, Part, has_notice, is_notice_of}
use Rattle.custody_machine.specs.StoredState.{part_of, state_in}
use Rattle.custody_machine.specs.MapValues.{map_entries}
use Rattle.custody_machine.proofs.MapValues.{entries-map_values}
use Rattle.custody_rules.specs.declared.chain.PassedRevision.{PassedRevision}
use Rattle.custody_rules.specs.inside.Chains.{has_passed_by, revision_of_name}
use Rattle.custody_rules.specs.Explaining.{AreNoticesOf}
use Rattle.custody_rules.specs.Judging.{has_dropped_part_in}
use Rattle.custody_rules.proofs.Judged.{dropped_in_state}
use Rattle.custody_rules.proofs.Notices.{some_of_registry}

-- one test after another
pub filter_both : {X : Type 0} (p q : X → Bool) (xs : List X) → filter q (filter p xs) ≡ filter (λ x. p x && q x) xs
filter_both p q [] = refl
filter_both {X} p q (x ∷ xs) = by (p x) (filter_both p q xs)
  where
    by : (b : Bool) → filter q (filter p xs) ≡ filter (λ x. p x && q x) xs
        → filter q (cond b (x ∷ filter p xs) (filter p xs)) ≡ cond (b && q x) (x ∷ filter (λ x. p x && q x) xs) (filter (λ x. p x && q x) xs)
    by true rest = ap (λ (l : List X). cond (q x) (x ∷ l) l) rest
    by false rest = rest

module _ (records : Records) (tld : List ℕ) (image : List ℕ) where
  abbrev name_in : PartKey × PartRecord → Name
  name_in e = name_of e.0 e.1.kind

  -- a name is that of the first part of a deposit that passed
  abbrev is_first : Name → Bool
  is_first name = name.part == 1 && has_notice records.notices tld name.day (is_receipt_of name.rev)

  -- an entry, of the registry, is that of one
  abbrev leads : PartKey × PartRecord → Bool
  leads e = is_first (name_in e)

  abbrev leads_registry : PartKey × PartRecord → Bool
  leads_registry e = bytes_eq e.0.tld tld && leads e

  names_as_entries : (rows : List typed.Part) → map (λ (p : typed.Part). p.name) rows ≡ map name_in (row_entries key_of_part part_value rows)
  names_as_entries [] = refl
  names_as_entries (p ∷ rows) = ap (λ (l : List Name). p.name ∷ l) (names_as_entries rows)

  -- those of the records are those of the state
  in_state : (es : List (PartKey × PartRecord)) → map name_in (filter leads_registry es)
      ≡ map (λ (e : PartKey × Part). name_of e.0 e.1.kind) (filter (machine.is_first_of_passed (state_in records image) tld) (map_entries (part_of image) es))
  in_state [] = refl
  in_state (e ∷ es) = by (leads_registry e) (in_state es)
    where
      of_state : List (PartKey × Part)
      of_state = filter (machine.is_first_of_passed (state_in records image) tld) (map_entries (part_of image) es)

      by : (b : Bool) → map name_in (filter leads_registry es) ≡ map (λ (e : PartKey × Part). name_of e.0 e.1.kind) of_state
          → map name_in (cond b (e ∷ filter leads_registry es) (filter leads_registry es)) ≡ map (λ (e : PartKey × Part). name_of e.0 e.1.kind) (cond b ((e.0, part_of image e.1) ∷ of_state) of_state)
      by true rest = ap (λ (l : List Name). name_in e ∷ l) rest
      by false rest = rest

  module _ (notices : List desk.Notice) (told : AreNoticesOf records tld notices) where
    -- the rows of a registry's notices tell what those of the records do
    by_notices : (revision : PassedRevision) → has_passed_by notices tld revision ≡ has_notice records.notices tld revision.day (is_receipt_of revision.rev)
    by_notices revision = some_of_registry records tld notices told (is_notice_of tld revision.day (is_receipt_of revision.rev)) (λ e passed. (and_parts (bytes_eq e.0.tld tld) _ passed).0)

    -- the rows of a registry's parts and notices tell which of its deposits passed
    pub passed_in_state : (passed : PassedRevision → Bool) → ((revision : PassedRevision) → passed revision ≡ has_passed_by notices tld revision)
        → (rows : List typed.Part) → row_entries key_of_part part_value rows ≡ parts_of records tld
        → map (λ (p : typed.Part). p.name) (filter (λ (p : typed.Part). p.name.part == 1 && passed (revision_of_name p.name)) rows) ≡ passed_first_names (state_in records image) tld
    passed_in_state passed gathered rows is =
        (λ i. map (λ (p : typed.Part). p.name) (filter (λ (p : typed.Part). p.name.part == 1 && (gathered (revision_of_name p.name) ∙ by_notices (revision_of_name p.name)) i) rows))
        ∙ names_as_entries (filter (λ (p : typed.Part). is_first p.name) rows)
        ∙ ap (map name_in) (sym (filter_entries key_of_part part_value leads rows) ∙ ap (filter leads) is ∙ filter_both (λ (e : PartKey × PartRecord). is_eq (text_cmp e.0.tld tld)) leads (entries records.parts))
        ∙ (λ i. map name_in (filter (λ (e : PartKey × PartRecord). is_eq-slice_cmp e.0.tld tld i && leads e) (entries records.parts)))
        ∙ in_state (entries records.parts)
        ∙ ap (λ (es : List (PartKey × Part)). map (λ (e : PartKey × Part). name_of e.0 e.1.kind) (filter (machine.is_first_of_passed (state_in records image) tld) es)) (sym (entries-map_values part_cmp (part_of image) records.parts))

-- the bytes of a part of a chain are dropped, by the records as in their state
pub any_dropped : (records : Records) (image : List ℕ) (names : List Name)
    → list_any (λ (n : Name). has_dropped_part_in records (key_of n)) names ≡ list_any (has_dropped_part (state_in records image)) names
any_dropped records image names = λ i. list_any (λ (n : Name). sym (dropped_in_state records image n) i) names

-- the chain by the names of the deposits that passed
pub chain_is : (s : State) (st : stated.Statement) (names chain : List Name) → names ≡ passed_first_names s st.tld → chain ≡ chain_of st.kind names (latest_full names)
    → held_chain s st ≡ cond (list_any (has_dropped_part s) chain) [] chain
chain_is s st names chain passed is = ap (λ (c : List Name). cond (list_any (has_dropped_part s) c) [] c) (sym (is ∙ ap (λ (l : List Name). chain_of st.kind l (latest_full l)) passed))
