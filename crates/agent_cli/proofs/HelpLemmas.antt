-- Words that pass name a subcommand that is not `help`.
use Rattle.std.proofs.Common.{◌≡◌, sym, refl, List, Bool, ℕ, [], ◌∷◌, true, false, Option, Some, None, IfSome, fold, codes, cond}
use Rattle.std.specs.Str.{bytes_eq}
use Rattle.std.proofs.lemmas.Slice.Eq.{bytes_eq-Decides}
use Rattle.clap.specs.Words.{Shape, Text}
use Rattle.clap.specs.Kinds.{Kinds, or_else}
use Rattle.clap.specs.Faults.{other_fault, turn_fault, walk_fault}
use Rattle.clap.specs.Walk.{Held, Names, Outcome, Rule, Step, Waiting, Walk, after_flag, after_step, arg_by_index, bundle, arg_by_long, long_met, long_or_other, plain_word, short_or_plain, subcommand_met, subcommand_or_other, to_positional, walked}
use Rattle.clap.specs.declared.error.kind.ErrorKind.TheVariants.{DisplayHelp, InvalidSubcommand}
use Rattle.clap.specs.Lexer.{long_of, short_of}
use Rattle.clap.specs.Walk.{done, waits, plain, refused, idle, option, positional, next, trailing, subcommand, value}

abbrev pub IsNotHelp : Option (Text × List Text) → Type 0
IsNotHelp stopped = IfSome stopped (λ p. bytes_eq p.0 (codes "help") ≡ false)

pub other_way : (name : Text) → bytes_eq name (codes "help") ≡ false → bytes_eq (codes "help") name ≡ false
other_way name other = go (bytes_eq (codes "help") name) refl
  where
    go : (b : Bool) → bytes_eq (codes "help") name ≡ b → b ≡ false
    go false is = refl
    go true is =
        let same : codes "help" ≡ name = (bytes_eq-Decides (codes "help") name).0 is in
        let help : bytes_eq name (codes "help") ≡ true = (bytes_eq-Decides name (codes "help")).1 (sym same) in
        absurd (cc)

pub first_empty : (xs ys : Kinds) → or_else xs ys ≡ [] → xs ≡ []
first_empty [] ys e = refl
first_empty (x ∷ xs) ys e = e

then_empty : (xs ys : Kinds) → or_else xs ys ≡ [] → ys ≡ []
then_empty [] ys e = e
then_empty (x ∷ xs) ys e = absurd (cc)

-- the step names no subcommand
abbrev NamesNone : Step → Type 0
NamesNone (subcommand name) = ⊥
NamesNone _ = Unit {0}

plain_none : (c : List Rule) (waiting : Waiting) (word : Text) (h : Held) → NamesNone (plain_word c waiting word h).1
plain_none c idle word h = tt
plain_none c (option id) word h = tt
plain_none c positional word h = tt

flag_none : (c : List Rule) (waiting : Waiting) (word : Text) (h : Held) (o : Outcome) → NamesNone (after_flag c waiting word h o).1
flag_none c waiting word h done = tt
flag_none c waiting word h (waits id) = tt
flag_none c waiting word h plain = plain_none c waiting word h
flag_none c waiting word h refused = plain_none c waiting word h

short_none : (c : List Rule) (waiting : Waiting) (word : Text) (flags : Option Text) (h : Held) → NamesNone (short_or_plain c waiting word flags h).1
short_none c waiting word (Some flags) h = flag_none c waiting word (bundle c flags h).0 (bundle c flags h).1
short_none c waiting word None h = plain_none c waiting word h

long_none : (c : List Rule) (waiting : Waiting) (word : Text) (p : Option (Text × Option Text)) (h : Held) → NamesNone (long_or_other c waiting word p h).1
long_none c waiting word (Some p) h = flag_none c waiting word (long_met c (arg_by_long c p.0) p.1 h).0 (long_met c (arg_by_long c p.0) p.1 h).1
long_none c waiting word None h = short_none c waiting word (short_of word) h

-- a walk that goes on has met what it had met
goes_on : (c : List Rule) (word : Text) (w : Walk) (h : Held) (s : Step) → NamesNone s → IsNotHelp w.stopped → IsNotHelp (after_step c word w h s).stopped
goes_on c word w h (next waiting) none before = before
goes_on c word w h (trailing position) none before = before
goes_on c word w h (subcommand name) none before = absurd none
goes_on c word w h value none before = to (arg_by_index c w.position)
  where
    to : (a : Option Rule) → IsNotHelp (to_positional c a word w h).stopped
    to None = before
    to (Some a) = tt

module _ (s : Shape) (names : Names) (enabled : s.disable_help_subcommand ≡ false) where
  not_help : (name word : Text) (h : Held) → other_fault s (Some name) word h ≡ [] → bytes_eq name (codes "help") ≡ false
  not_help name word h e = go (bytes_eq name (codes "help")) refl
    where
      go : (b : Bool) → bytes_eq name (codes "help") ≡ b → b ≡ false
      go false is = refl
      go true is =
          let help : other_fault s (Some name) word h ≡ DisplayHelp ∷ InvalidSubcommand ∷ [] = rw (is, enabled) refl in
          absurd (cc)

  met_none : (w : Walk) (word : Text) (met : Option Text) → IsNotHelp w.stopped → other_fault s met word w.held ≡ []
      → IsNotHelp (after_step s.rules word w (subcommand_or_other s.rules met w.waiting w.position word w.held).0 (subcommand_or_other s.rules met w.waiting w.position word w.held).1).stopped
  met_none w word (Some name) before e = not_help name word w.held e
  met_none w word None before e = go (bytes_eq word (45 ∷ 45 ∷ []))
    where
      it : Bool → Held × Step
      it b = cond b (w.held, trailing w.position) (long_or_other s.rules w.waiting word (long_of word) w.held)

      go : (b : Bool) → IsNotHelp (after_step s.rules word w (it b).0 (it b).1).stopped
      go true = before
      go false = goes_on s.rules word w _ _ (long_none s.rules w.waiting word (long_of word) w.held) before

  turn_none : (word : Text) (h : Held) (waiting : Waiting) (position : ℕ) (is_trailing : Bool) (stopped : Option (Text × List Text))
      → IsNotHelp stopped → turn_fault s names (record { held = h; waiting = waiting; position = position; is_trailing = is_trailing; stopped = stopped }) word ≡ []
      → IsNotHelp (walked s.rules names (record { held = h; waiting = waiting; position = position; is_trailing = is_trailing; stopped = stopped }) word).stopped
  unfolding walked
  turn_none word h waiting position is_trailing (Some p) before e = before
  turn_none word h waiting position true None before e =
      goes_on s.rules word (record { held = h; waiting = waiting; position = position; is_trailing = true; stopped = None }) h value tt before
  turn_none word h waiting position false None before e =
      met_none (record { held = h; waiting = waiting; position = position; is_trailing = false; stopped = None }) word (subcommand_met names waiting word) before (first_empty _ _ e)

  -- a walk without a fault stops at no `help`
  pub walk_none : (words : List Text) (w : Walk) → IsNotHelp w.stopped → walk_fault s names w words ≡ [] → IsNotHelp (fold (walked s.rules names) w words).stopped
  unfolding walk_fault
  walk_none [] w before e = before
  walk_none (x ∷ xs) w before e =
      walk_none xs (walked s.rules names w x) (turn_none x w.held w.waiting w.position w.is_trailing w.stopped before (first_empty _ _ e)) (then_empty _ _ e)
