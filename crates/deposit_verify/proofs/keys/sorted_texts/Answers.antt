use Rattle.std.proofs.Common.{◌≡◌, ◌↔◌, ◌++◌, ◌∙◌, Bor, Contains, List, ℕ, ap, subst}
use Rattle.std.proofs.lemmas.List.{map-append}
use Rattle.dnrd_csv.specs.inside.RowKeys.{borrowed_texts}
use Rattle.deposit_verify.proofs.Searches.{permuted_texts}
use Rattle.deposit_verify.proofs.keys.sorted_texts.Goals as goal

pub returns : goal.returns
returns c =
    let one = c.args.one.now in
    let other = c.args.other.now in
    let whole : c.extend_from_slice-2.new.self.items ≡ one ++ other =
    c.in_ok-extend_from_slice-2.ensures.items ∙ ap (λ (ts : List (Bor (List ℕ))). ts ++ other) (c.in_ok-extend_from_slice.ensures.items ∙ ap (λ (ts : List (Bor (List ℕ))). ts ++ one) c.in_ok-keys.ensures.items) in
    record {
      sorted = c.sort_unstable.ensures.sorted;
      same = subst (λ (ts : List (List ℕ)). (text : List ℕ) → Contains (borrowed_texts c.sort_unstable.new.self.items) text ↔ Contains ts text)
          (ap borrowed_texts whole ∙ map-append (λ (t : Bor (List ℕ)). t.now) one other)
          (permuted_texts c.extend_from_slice-2.new.self.items c.sort_unstable.new.self.items c.sort_unstable.ensures.permutation);
    }
