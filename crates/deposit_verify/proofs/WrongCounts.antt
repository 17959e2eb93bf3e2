-- The first count that is wrong.
use Rattle.std.specs.Prelude.{MatchOption, is_none}
use Rattle.std.proofs.Common.{◌≡◌, ◌==◌, ◌&&◌, ◌∷◌, ◌∙◌, [], ℕ, List, Option, Some, None, ap, length, map, refl, slice_get, sym}
use Rattle.std.specs.Cmp.Lexicographic.{pointwise}
use Rattle.std.specs.Str.{bytes_eq}
use Rattle.std.proofs.lemmas.List.{length-map}
use Rattle.std.proofs.lemmas.Option.{same_Some}
use Rattle.std.proofs.lemmas.Slice.Eq.{bytes_eq-Decides}
use Rattle.deposit_name.specs.declared.table.TableName.{TableName}
use Rattle.envelope.specs.Envelope.{Env}
use Rattle.envelope.specs.declared.envelope.Count.{Count}
use Rattle.deposit_verify.specs.declared.base.Base.{Base}
use Rattle.deposit_verify.specs.declared.tables_reason.WrongCount.{WrongCount}
use Rattle.deposit_verify.specs.Checks.{HasMenu}
use Rattle.deposit_verify.specs.TablesReasons.{IsFirstWrong, said_counts}
use Rattle.deposit_verify.specs.Verdict.{are_key_counts, key_numbers}
use Rattle.deposit_verify.proofs.KeyCounts.{false_from}

-- a deposit that has its menu has four counts
pub four_counts : (v : Env) → HasMenu v → length v.count ≡ 4
four_counts v menu = sym (length-map v.count (λ c. c.uri)) ∙ ap length menu.counted

-- counts are compared as numbers
counts_as_numbers : (f : TableName → ℕ) (counts : List Count) (names : List TableName)
    → pointwise (λ count name. count.count == f name) counts names ≡ bytes_eq (map (λ c. c.count) counts) (map f names)
counts_as_numbers f [] [] = refl
counts_as_numbers f [] (name ∷ names) = refl
counts_as_numbers f (c ∷ counts) [] = refl
counts_as_numbers f (c ∷ counts) (name ∷ names) = ap (λ b. (c.count == f name) && b) (counts_as_numbers f counts names)

-- where one is wrong, they are not the numbers that are there
pub one_wrong : (there said : List ℕ) (wrong : WrongCount) → IsFirstWrong there said wrong → ¬ (said ≡ there)
one_wrong there said wrong is same =
    is.differs (same_Some wrong.said wrong.there (sym is.said_right ∙ ap (λ (ns : List ℕ). slice_get ns wrong.place) same ∙ is.there_right))

-- the counts are those of the keys where none is wrong
pub none_wrong : (v : Env) (base : Base) (tables deleted : List (List (List (List ℕ)))) (counts : List Count) (there : List ℕ) (found : Option WrongCount)
    → counts ≡ v.count → there ≡ key_numbers v base tables deleted → MatchOption found (said_counts counts ≡ there) (IsFirstWrong there (said_counts counts)) → is_none found ≡ are_key_counts v base tables deleted
none_wrong v base tables deleted counts there found said are is = by found is ∙ ap (λ (ns : List ℕ). bytes_eq (said_counts counts) ns) are ∙ ap (λ (cs : List Count). bytes_eq (said_counts cs) (key_numbers v base tables deleted)) said ∙ sym (counts_as_numbers _ v.count _)
  where
    by : (found : Option WrongCount) → MatchOption found (said_counts counts ≡ there) (IsFirstWrong there (said_counts counts)) → is_none found ≡ bytes_eq (said_counts counts) there
    by None same = sym ((bytes_eq-Decides (said_counts counts) there).1 same)
    by (Some wrong) first = sym (false_from _ (bytes_eq-Decides (said_counts counts) there) (one_wrong there (said_counts counts) wrong first))
