-- The rows of a table by registry: those of all registries, in the order of their keys.
use Rattle.std.specs.Prelude.{◌≡◌, ◌++◌, ℕ, List, flat_map}
use Rattle.std.specs.List.{Contains}
use Rattle.custody_records.specs.declared.tables.Keyed as keyed
use Rattle.custody_records.specs.declared.tables.OfRegistry as of_registry
use Rattle.custody_records.specs.declared.registry_rows.AllRows.{AllRows}
use Rattle.custody_records.specs.declared.registry_rows.RegistryRows.{RegistryRows}
use Rattle.custody_records.specs.declared.registry_rows.RowsByRegistry.{RowsByRegistry}
use Rattle.custody_records.specs.Tables.{HasRoom}

module _ {T K : Type 0} {r : of_registry.Ghosts T K} {k : keyed.Ghosts T K} where
  abbrev pub all_rows : RowsByRegistry T K r k → List T
  all_rows table = flat_map (λ registry. registry.rows.rows.items) table.registries.items

  -- those that an iterator has left
  abbrev pub rows_left : AllRows T K r k → List T
  rows_left it = it.rows.now ++ flat_map (λ registry. registry.rows.rows.items) it.others.now

  -- room for one row more of a registry, which is taken without memory
  abbrev pub HasRoomOf : List ℕ → RowsByRegistry T K r k → Type 0
  HasRoomOf tld table = (registry : RegistryRows T K r k) × Contains table.registries.items registry × (registry.tld ≡ tld) × HasRoom registry.rows.rows
