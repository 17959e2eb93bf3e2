use Rattle.std.proofs.Common.{◌∙◌, subst, arith}
use Rattle.vault_volume.specs.Extents.{AreUsed}
use Rattle.extent_map.specs.Map as map
use Rattle.vault_volume.proofs.FreeLemmas.{few_extents, of_some, taken_used}
use Rattle.vault_volume.proofs.vault.Vault.begin.Goals as goal

pub returns-clause-opened : goal.returns-clause-opened
returns-clause-opened g c =
    let chosen = of_some _ _ _ c.in-Some.is c.in_ok-extents.ensures.chosen in
    let taken = of_some _ _ _ c.in-Some.is c.in_ok-extents.ensures.taken in
    record {
      used = subst (λ n. AreUsed n (map.IsFree c.place_all.new.self) c.in-Some.extents.items) c.args.self.now.same_size (taken_used _ _ _ _ chosen.within taken);
      apart = chosen.apart;
      counts = chosen.adds_up ∙ c.blocks_for.ensures;
    }

pub invariant_of-result : goal.invariant_of-result
invariant_of-result g c =
    let chosen = of_some _ _ _ c.in-Some.is c.in_ok-extents.ensures.chosen in
    let least = few_extents _ _ chosen.within in
    omega (arith, least, chosen.adds_up, c.requires.size, c.blocks_for.ensures)
