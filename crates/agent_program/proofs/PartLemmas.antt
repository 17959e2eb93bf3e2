-- What is read of a file: its bytes up to the limit.
use Rattle.std.proofs.Common.{◌≡◌, ◌++◌, [], List, ℕ, Option, None, Some, IfSome, option_map, subst, take}
use Rattle.agent_program.specs.Parts.{IsPartRead}

first_of : (known : Option (List ℕ)) (bytes : List ℕ) → IfSome (option_map (take 1048577) known) (λ first. bytes ≡ [] ++ first) → IsPartRead known bytes
first_of None bytes read = tt
first_of (Some all) bytes read = read

pub part_read : {R : Type 0} (remaining : R → Option (List ℕ)) (file inner : R) (limit : ℕ) (start bytes : List ℕ) → inner ≡ file → limit ≡ 1048577 → start ≡ []
    → IfSome (option_map (take limit) (remaining inner)) (λ first. bytes ≡ start ++ first) → IsPartRead (remaining file) bytes
part_read remaining file inner limit start bytes same limited none read =
    let here = subst (λ n. IfSome (option_map (take n) (remaining inner)) (λ first. bytes ≡ start ++ first)) limited read in
    let of_file = subst (λ r. IfSome (option_map (take 1048577) (remaining r)) (λ first. bytes ≡ start ++ first)) same here in
    let all = subst (λ (s : List ℕ). IfSome (option_map (take 1048577) (remaining file)) (λ first. bytes ≡ s ++ first)) none of_file in
    first_of (remaining file) bytes all

-- a file that gives what is held is read as that
pub held_read : (known remaining : Option (List ℕ)) (bytes : List ℕ) → IfSome known (λ all. remaining ≡ Some all) → IsPartRead remaining bytes → IsPartRead known bytes
held_read None remaining bytes gives read = tt
held_read (Some all) None bytes gives read = cc
held_read (Some all) (Some other) bytes gives read = let same : other ≡ all = cc in subst (λ it. bytes ≡ take 1048577 it) same read
