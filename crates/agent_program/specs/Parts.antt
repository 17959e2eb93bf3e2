-- What is read of the file that a `put` names.
use Rattle.std.specs.Prelude.{◌≡◌, ℕ, List, [], Option, take, IfSome}
use Rattle.agent_cli.specs.declared.order.Deed.{Deed}
use Rattle.agent_cli.specs.declared.order.Deed.TheVariants.{Put}

-- of a file with these bytes, where they are known, the first 1,048,577
abbrev pub IsPartRead : (known : Option (List ℕ)) → List ℕ → Type 0
IsPartRead known bytes = IfSome known (λ all. bytes ≡ take 1048577 all)

-- of the file that an order names, as the host holds it; no other order reads any
abbrev pub IsOrderRead : (held : List ℕ → Option (List ℕ)) → Deed → List ℕ → Type 0
IsOrderRead held (Put file) bytes = IsPartRead (held file.now) bytes
IsOrderRead held other bytes = bytes ≡ []
