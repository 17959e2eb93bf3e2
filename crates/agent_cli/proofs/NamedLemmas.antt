-- Words that name a subcommand are read alike by each command that has it.
use Rattle.std.proofs.Common.{◌≡◌, ◌∙◌, ◌||◌, Bool, true, false, cond, List, [], ◌∷◌, ◌++◌, map, fold, codes, Some, Result, Ok, Err, IfOk, find, option_map, refl, sym, ap, ap₂, subst}
use Rattle.std.specs.Prelude.{slice_get, IsSomeAnd}
use Rattle.std.specs.Str.{bytes_eq}
use Rattle.std.specs.Option.{option_or}
use Rattle.std.proofs.lemmas.List.Folds.{find-append}
use Rattle.std.proofs.lemmas.Slice.Eq.{bytes_eq-Decides}
use Rattle.custody_records.proofs.FieldLemmas.{find_passes}
use Rattle.clap.specs.Words.{AddsSubcommand, App, Rule, Shape, Text, app_of, built, is_simple_and_free, new_app, shape_of, with_rule, with_subcommand}
use Rattle.clap.specs.declared.builder.Command.{Command}
use Rattle.clap.specs.declared.builder.Command.TheViews.{out-Command}
use Rattle.clap.specs.Faults.{built_fault, level_fault, turn_fault, walk_fault}
use Rattle.clap.specs.Kinds.{Kinds, or_else}
use Rattle.clap.specs.Simple.{built_leaf, entered, help_shape, inherited, label_of, names_of, rows_at, with_filled_rules, with_help_flag, with_leaf_noted, with_version_flag, marked_built}
use Rattle.clap.specs.Walk.{Walk, answers_to, idle, nothing_held, stop_after, subcommand_met, walk, walk_from, walked}
use Rattle.clap.proofs.WalkLemmas.{find-map, walk_stopped}
use Rattle.clap.proofs.FaultLemmas.{stopped_fault}
use Rattle.agent_cli.specs.Grammar.{ReadsAlike, bare_app, escrow_app, is_named, shape, subcommands, words_of}
use Rattle.agent_cli.specs.Order.{subcommand_named}
use Rattle.agent_cli.specs.declared.subcommands.Subcommand.{Subcommand}
use Rattle.agent_cli.specs.declared.subcommands.Subcommand.TheVariants.{Init, Register, Put, Preview, Verify, Due, Sweep, Purge, Hold, Lift, Release, Fetch, Report, Explain, Digests, State, Audit, Batch, Serve}

-- ---- a built command whose first word names a subcommand

-- the faults of the words, where the walk over them stops at the first one
abbrev faults_below : Shape → Shape → List Text → Kinds
faults_below top sub rest = or_else (level_fault sub [] nothing_held rest false []) (level_fault top [] nothing_held [] true [])

module _ (b : App) (word : Text) (sub : Shape) (rest : List Text) (met : subcommand_met (names_of b) idle word ≡ Some word) (found : find (λ s. answers_to word (label_of s)) b.subs ≡ Some sub) (other : bytes_eq word (codes "help") ≡ false) where
  first_word : walked b.top.rules (names_of b) (walk_from nothing_held) word ≡ record (walk_from nothing_held) { stopped = Some (word, []) }
  unfolding walked
  first_word = rw met refl

  walk_stops : walk b.top.rules (names_of b) nothing_held (word ∷ rest) ≡ record (walk_from nothing_held) { stopped = Some (word, rest) }
  walk_stops = ap (λ (w : Walk). fold (walked b.top.rules (names_of b)) w rest) first_word ∙ sym (walk_stopped b.top.rules (names_of b) (walk_from nothing_held) word [] rest)

  first_passes : turn_fault b.top (names_of b) (walk_from nothing_held) word ≡ []
  first_passes = rw (met, other) refl

  walk_passes : walk_fault b.top (names_of b) (walk_from nothing_held) (word ∷ rest) ≡ []
  unfolding walk_fault
  walk_passes = ap₂ or_else first_passes (ap (λ (w : Walk). walk_fault b.top (names_of b) w rest) first_word ∙ stopped_fault b.top (names_of b) (walk_from nothing_held) (word, []) rest)

  pub enters : entered b (stop_after b.top.rules (names_of b) (word ∷ rest)) ≡ Some (rows_at sub rest)
  enters = ap (λ (w : Walk). entered b w.stopped) walk_stops ∙ ap (λ o. option_map (λ s. rows_at s rest) o) found

  pub faults : built_fault b nothing_held (word ∷ rest) ≡ faults_below b.top sub rest
  unfolding walk_fault
  faults = rw (walk_stops, found) (ap (λ k. or_else k (faults_below b.top sub rest)) walk_passes)

-- ---- a subcommand among those of a command that has it

-- a subcommand as the command above it builds it
abbrev built_in : Shape → Subcommand → Shape
built_in above it = built_leaf (inherited above (shape it))

leaf_label : (s : Shape) → label_of (built_leaf s) ≡ label_of s
leaf_label s = by s.is_built
  where
    by : (b : Bool) → label_of (cond b s (with_filled_rules (with_version_flag (with_help_flag (with_leaf_noted (marked_built s)))))) ≡ label_of s
    by true = refl
    by false = refl

rules_label : (a : App) (rules : List Rule) → label_of (fold with_rule a rules).top ≡ label_of a.top
rules_label a [] = refl
rules_label a (r ∷ rules) = rules_label (with_rule a r) rules

label : (above : Shape) (it : Subcommand) → label_of (built_in above it) ≡ ((words_of it).0, [])
label above it = leaf_label (inherited above (shape it)) ∙ rules_label (new_app (words_of it).0) (words_of it).1

answers : (above : Shape) (name : Text) (it : Subcommand) → answers_to name (label_of (built_in above it)) ≡ is_named name it
answers above name it = ap (answers_to name) (label above it) ∙ no_other (bytes_eq (words_of it).0 name)
  where
    no_other : (b : Bool) → (b || false) ≡ b
    no_other true = refl
    no_other false = refl

module _ (above : Shape) (its : List Subcommand) (name : Text) (it : Subcommand) (named : find (is_named name) its ≡ Some it) where
  same_test : (λ (x : Subcommand). answers_to name (label_of (built_in above x))) ≡ is_named name
  same_test = λ i x. answers above name x i

  found_among : (more : List Shape) → find (λ s. answers_to name (label_of s)) (map (built_in above) its ++ more) ≡ Some (built_in above it)
  found_among more =
      find-append (λ s. answers_to name (label_of s)) (map (built_in above) its) more
      ∙ ap (λ o. option_or o (find (λ s. answers_to name (label_of s)) more)) (sym (find-map (λ (s : Shape). answers_to name (label_of s)) (built_in above) its) ∙ ap (λ p. option_map (built_in above) (find p its)) same_test ∙ ap (option_map (built_in above)) named)

  is_name : (words_of it).0 ≡ name
  is_name = (bytes_eq-Decides (words_of it).0 name).0 (find_passes (is_named name) its it named)

  met_among : (more : List Shape) → subcommand_met (map label_of (map (built_in above) its ++ more)) idle name ≡ Some name
  met_among more =
      ap (option_map (λ (s : Text × List Text). s.0)) (sym (find-map (answers_to name) label_of (map (built_in above) its ++ more)) ∙ ap (option_map label_of) (found_among more))
      ∙ ap (λ (l : Text × List Text). Some l.0) (label above it) ∙ ap Some is_name

-- ---- the whole command, and the command with one subcommand

abbrev only : Subcommand → App
only it = with_subcommand bare_app (shape it)

abbrev above_all : Shape
above_all = with_leaf_noted (marked_built escrow_app.top)

only_simple : (it : Subcommand) → is_simple_and_free (only it) ≡ true
only_simple Init = refl
only_simple Register = refl
only_simple Put = refl
only_simple Preview = refl
only_simple Verify = refl
only_simple Due = refl
only_simple Sweep = refl
only_simple Purge = refl
only_simple Hold = refl
only_simple Lift = refl
only_simple Release = refl
only_simple Fetch = refl
only_simple Report = refl
only_simple Explain = refl
only_simple Digests = refl
only_simple State = refl
only_simple Audit = refl
only_simple Batch = refl
only_simple Serve = refl

not_help : (it : Subcommand) → bytes_eq (words_of it).0 (codes "help") ≡ false
not_help Init = refl
not_help Register = refl
not_help Put = refl
not_help Preview = refl
not_help Verify = refl
not_help Due = refl
not_help Sweep = refl
not_help Purge = refl
not_help Hold = refl
not_help Lift = refl
not_help Release = refl
not_help Fetch = refl
not_help Report = refl
not_help Explain = refl
not_help Digests = refl
not_help State = refl
not_help Audit = refl
not_help Batch = refl
not_help Serve = refl

named_alone : (name : Text) (it : Subcommand) → (words_of it).0 ≡ name → find (is_named name) (it ∷ []) ≡ Some it
named_alone name it is = rw ((bytes_eq-Decides (words_of it).0 name).1 is) refl

only_reads : (program name : Text) (rest : List Text) (it : Subcommand) → subcommand_named name ≡ Some it → ReadsAlike (only it) (program ∷ name ∷ rest)
only_reads program name rest it named =
    let is = is_name above_all subcommands name it named in
    let alone = named_alone name it is in
    let other = ap (λ n. bytes_eq n (codes "help")) (sym is) ∙ not_help it in
    let help = built_leaf help_shape ∷ [] in
    let sub = built_in above_all it in
    let one = built (only it) in
    let whole = built escrow_app in
    let one_met = met_among above_all (it ∷ []) name it alone help in
    let one_found = found_among above_all (it ∷ []) name it alone help in
    let whole_met = met_among above_all subcommands name it named help in
    let whole_found = found_among above_all subcommands name it named help in
    record {
      top = refl;
      simple = only_simple it;
      fault = faults one name sub rest one_met one_found other ∙ sym (faults whole name sub rest whole_met whole_found other);
      met = enters one name sub rest one_met one_found other ∙ sym (enters whole name sub rest whole_met whole_found other);
    }

pub named_reads : {X : Type 0} (text : X → Text) (words : List X) (it : Subcommand) → IsSomeAnd (slice_get words 1) (λ word. subcommand_named (text word) ≡ Some it) → ReadsAlike (only it) (map text words)
named_reads text [] it named = absurd named
named_reads text (program ∷ []) it named = absurd named
named_reads text (program ∷ name ∷ rest) it named = only_reads (text program) (text name) (map text rest) it named

pub added_reads : {E : Type 0} (words : List Text) (it : Subcommand) (before added : Command) (r : Result Command E) → IfOk r (AddsSubcommand before added) → app_of before ≡ bare_app → shape_of added ≡ shape it → (out-Command added).has_globals ≡ false
    → ReadsAlike (only it) words → IfOk r (λ c. ReadsAlike (app_of c) words)
added_reads words it before added (Ok c) adds bare is local reads = subst (λ a. ReadsAlike a words) (sym (adds.shape local ∙ ap₂ with_subcommand bare is)) reads
added_reads words it before added (Err e) adds bare is local reads = tt

pub whole_reads : {E : Type 0} (words : List Text) (r : Result Command E) → IfOk r (λ c. app_of c ≡ escrow_app) → IfOk r (λ c. ReadsAlike (app_of c) words)
whole_reads words (Ok c) is = subst (λ a. ReadsAlike a words) (sym is) (record { top = refl; simple = refl; fault = refl; met = refl })
whole_reads words (Err e) is = tt
