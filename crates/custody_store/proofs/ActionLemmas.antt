-- What the actions of foreign keys leave as it was: each table that has no such action itself, whatever other tables do.
use Rattle.std.proofs.Common.{◌≡◌, ◌≢◌, ◌⊎◌, inl, inr, ℕ, zero, suc, ◌+◌, ℤ, Bool, true, false, cond, List, [], ◌∷◌, ◌++◌, length, Option, None, Some, Ok, refl, sym, ap, subst, ◌∙◌}
use Rattle.std.specs.Prelude.{◌==◌, ◌&&◌, nat_lt}
use Rattle.std.specs.List.{AllByRecursion, list_any, flat_map, filter_map, cons_option}
use Rattle.std.proofs.lemmas.Bool.{cases_Bool}
use Rattle.sqlite.specs.Order.{Row}
use Rattle.sqlite.specs.Table.{Table}
use Rattle.sqlite.specs.Schema.{Schema}
use Rattle.sqlite.specs.Tree.{Trees}
use Rattle.custody_store.specs.StoreState.{HaveOwnTrees}
use Rattle.sqlite_schema.specs.declared.schema.Action.TheVariants.{NoAction}
use Rattle.sqlite_schema.specs.declared.schema.Keys.{Keys}
use Rattle.sqlite_schema.specs.declared.schema.Keys.TheVariants.{Enforced, Deferred, Off}
use Rattle.sqlite_schema.specs.declared.schema.Reference.{Reference}
use Rattle.sqlite_schema.specs.Rules.{ParentKey}
use Rattle.sqlite_rules.specs.declared.action.Deed.{Deed}
use Rattle.sqlite_rules.specs.Lists.{Has}
use Rattle.sqlite_rules.specs.Edit.{Edit, taken_by, Applies}
use Rattle.sqlite_rules.specs.Action.{Work, pairs, loses, work_by, work_for, works, deed_for, refuses, max_depth, ActsOn, Goes, Leads, Settles, Writes, action_edit}
use Rattle.sqlite_rules.proofs.ListLemmas.{all_has, has_left, has_right, has_either}
use Rattle.sqlite_rules.proofs.RuleLemmas.{same_table}

-- a reference that only refuses
abbrev pub HasNoAction : Reference → Type 0
HasNoAction ref = (ref.on_delete ≡ NoAction) × (ref.on_update ≡ NoAction)

abbrev pub IsQuiet : Table → Type 0
IsQuiet t = AllByRecursion HasNoAction t.references

-- ---- an edit, and then what it sets off

pub record Steps (schema : Schema) (keys : Keys) (db : Trees) (edit : Edit) (next : Trees) : Type 0 where
  pub mid : Trees
  pub applied : Applies schema keys db edit mid
  pub settled : Settles schema keys mid (works schema keys 0 edit.table.tree (taken_by db edit) edit.news) (Ok next)

pub steps : (schema : Schema) (keys : Keys) (db next : Trees) (edit : Edit) → Writes schema keys db edit (Ok next) → Steps schema keys db edit next
steps schema keys db next edit (inl refused) = absurd (let e = refused.2 in cc)
steps schema keys db next edit (inr (inl big)) = absurd (let e = big.3 in cc)
steps schema keys db next edit (inr (inr went)) = record { mid = went.0; applied = went.1; settled = went.2 }

-- ---- whose rows it acts on

has_mapped_to : {X Y : Type 0} (f : X → List Y) (xs : List X) (y : Y) → Has (flat_map f xs) y → (x : X) × Has xs x × Has (f x) y
has_mapped_to f [] y h = absurd h
has_mapped_to f (x ∷ xs) y h = elim (has_either (f x) (flat_map f xs) y h) [
  | inl here ↦ (x, inl refl, here)
  | inr later ↦ let it = has_mapped_to f xs y later in (it.0, inr it.1, it.2)
]

has_consed : {Y : Type 0} (o : Option Y) (ys : List Y) (y : Y) → Has (cons_option o ys) y → (o ≡ Some y) ⊎ Has ys y
has_consed None ys y h = inr h
has_consed (Some z) ys y (inl e) = inl (ap Some (sym e))
has_consed (Some z) ys y (inr h) = inr h

has_chosen : {X Y : Type 0} (f : X → Option Y) (xs : List X) (y : Y) → Has (filter_map f xs) y → (x : X) × Has xs x × (f x ≡ Some y)
has_chosen f [] y h = absurd h
has_chosen f (x ∷ xs) y h = elim (has_consed (f x) (filter_map f xs) y h) [
  | inl is ↦ (x, inl refl, is)
  | inr later ↦ let it = has_chosen f xs y later in (it.0, inr it.1, it.2)
]

some_work : (w v : Work) → Some v ≡ Some w → w.child ≡ v.child
some_work w v e = let same : v ≡ w = cc in ap (λ (x : Work). x.child) (sym same)

work_child : (depth tree : ℕ) (moves : List (Row × Row)) (child : Table) (ref : Reference) (deed : Option Deed) (key : Option ParentKey) (w : Work) → work_by depth tree moves child ref deed key ≡ Some w
    → (w.child ≡ child) × (deed ≢ None)
work_child depth tree moves child ref None key w e = absurd (let clash = e in cc)
work_child depth tree moves child ref (Some deed) None w e = absurd (let clash = e in cc)
work_child depth tree moves child ref (Some deed) (Some key) w e = (
  given ((key.0 == tree) && list_any (loses key.2 key.1) moves) (record { depth = depth; child = child; ref = ref; places = key.1; order = key.2; deed = deed; moves = moves }) e,
  λ none. let clash = none in cc,
)
  where
    given : (b : Bool) (v : Work) → cond b (Some v) None ≡ Some w → w.child ≡ v.child
    given true v e = some_work w v e
    given false v e = absurd (let clash = e in cc)

either_none : (keys : Keys) (deletes : Bool) (ref : Reference) → HasNoAction ref → deed_for keys deletes ref ≡ None
either_none Enforced true ref quiet = rw (quiet.0) refl
either_none Enforced false ref quiet = rw (quiet.1) refl
either_none Deferred true ref quiet = rw (quiet.0) refl
either_none Deferred false ref quiet = rw (quiet.1) refl
either_none Off deletes ref quiet = refl

module _ (schema : Schema) (keys : Keys) (apart : HaveOwnTrees schema.tables) (t : Table) (has : Has schema.tables t) (quiet : IsQuiet t) where
  -- none acts on its rows
  pub elsewhere : (depth tree : ℕ) (olds news : List Row) (w : Work) → Has (works schema keys depth tree olds news) w → w.child.tree ≢ t.tree
  elsewhere depth tree olds news w h same =
      let at = has_mapped_to (λ child. filter_map (work_for schema keys depth tree olds news child) child.references) schema.tables w h in
      let child = at.0 in
      let by = has_chosen (work_for schema keys depth tree olds news child) child.references w at.2 in
      let it = work_child depth tree (pairs olds news) child by.0 _ _ w by.2 in
      let is : child ≡ t = same_table schema.tables child t apart at.1 has (ap (λ (c : Table). c.tree) (sym it.0) ∙ same) in
      let no : HasNoAction by.0 = all_has HasNoAction t.references by.0 quiet (subst (λ (c : Table). Has c.references by.0) is by.1) in
      it.1 (either_none keys (length news == 0) by.0 no)

  abbrev AreElsewhere : List Work → Type 0
  AreElsewhere stack = (w : Work) → Has stack w → w.child.tree ≢ t.tree

  -- a stack of actions that are elsewhere keeps its rows, which is known of shorter runs
  abbrev Keeps : ℕ → Trees → Type 0
  Keeps n next = (db : Trees) (stack : List Work) → AreElsewhere stack → Leads schema keys n db stack (Ok next) → next t.tree ≡ db t.tree

  goes_keep : (n : ℕ) (next : Trees) → Keeps n next → (db : Trees) (edit : Edit) (depth : ℕ) (below : List Work) → AreElsewhere below → edit.table.tree ≢ t.tree
      → Goes schema keys (Leads schema keys n) db edit depth below (Ok next) → next t.tree ≡ db t.tree
  goes_keep n next shorter db edit depth below low other (inl refused) = absurd (let e = refused.2 in cc)
  goes_keep n next shorter db edit depth below low other (inr (inl big)) = absurd (let e = big.3 in cc)
  goes_keep n next shorter db edit depth below low other (inr (inr went)) =
      let mid = went.0 in
      let kept : mid t.tree ≡ db t.tree = all_has (λ (u : Table). u.tree ≢ edit.table.tree → mid u.tree ≡ db u.tree) schema.tables t went.1.tables has (λ e. other (sym e)) in
      let more : AreElsewhere (below ++ works schema keys depth edit.table.tree (taken_by db edit) edit.news) = λ v h. elim (has_either below _ v h) [
        | inl before ↦ low v before
        | inr new ↦ elsewhere depth edit.table.tree (taken_by db edit) edit.news v new
      ] in
      shorter mid _ more went.2 ∙ kept

  acts_keep : (n : ℕ) (next : Trees) → Keeps n next → (db : Trees) (w : Work) (below : List Work) → AreElsewhere below → w.child.tree ≢ t.tree → (ids : List ℤ)
      → ActsOn schema keys (Leads schema keys n) db w below (Ok next) ids → next t.tree ≡ db t.tree
  acts_keep n next shorter db w below low other [] h = shorter db below low h
  acts_keep n next shorter db w below low other (id ∷ ids) h = elim (cases_Bool (refuses w.deed)) [
    | inl is ↦ absurd (let e = rw is at h in cc)
    | inr not ↦ goes_keep n next shorter db (action_edit db w (id ∷ ids)) (w.depth + 1) below low other (rw not at h)
  ]

  leads_keep : (n : ℕ) (next : Trees) → Keeps n next
  leads_keep zero next db stack low h = let same : next ≡ db = let e = h.1 in cc in ap (λ (d : Trees). d t.tree) same
  leads_keep (suc n) next db stack low h =
      let below = h.0 in
      let w = h.1 in
      let all = λ (v : Work) (k : Has (below ++ w ∷ []) v). low v (subst (λ l. Has l v) (sym h.2) k) in
      elim (cases_Bool (nat_lt w.depth max_depth)) [
        | inl shallow ↦
            let acts = rw shallow at h.3 in
            acts_keep n next (leads_keep n next) db w below (λ v k. all v (has_left below (w ∷ []) v k)) (all w (has_right below (w ∷ []) w (inl refl))) acts.0 acts.2
        | inr deep ↦ absurd (let e = rw deep at h.3 in cc)
      ]

  -- so its rows are those after the edit itself
  pub actions_keep : (db next : Trees) (edit : Edit) (it : Steps schema keys db edit next) → next t.tree ≡ it.mid t.tree
  actions_keep db next edit it = leads_keep it.settled.0 next it.mid _ (elsewhere 0 edit.table.tree (taken_by db edit) edit.news) it.settled.1
