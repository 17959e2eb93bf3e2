-- A database without tables.
use Rattle.std.proofs.Common.{◌≡◌, codes, ℕ, List, [], ◌∷◌, None, refl, subst, ◌∙◌}
use Rattle.std.specs.List.{AllZip}
use Rattle.sqlite.specs.Order.{Row}
use Rattle.sqlite.specs.Tree.{Trees}
use Rattle.sqlite.specs.Effect.{IsDatabase}
use Rattle.sqlite.specs.State.{State}
use Rattle.sqlite_catalog.specs.Listing.{IsTableRow}
use Rattle.custody_store.specs.Schema.{no_schema}
use Rattle.custody_store.specs.Reading.{rows_in, no_rows}
use Rattle.custody_store.specs.StoreState.{IsBare}
use Rattle.custody_store.proofs.TableLemmas.{named, named_in}

-- no table is listed
unlisted : (trees : Trees) (name : List ℕ) → (objects : List Row) → AllZip IsTableRow objects no_schema.tables → named_in name objects ≡ None
unlisted trees name [] h = refl
unlisted trees name (object ∷ objects) h = absurd h

-- a database without tables has no rows
pub rows_bare : (s : State) → IsBare s → rows_in s.now.trees ≡ no_rows
rows_bare s bare =
    let sound = subst (λ t. IsDatabase (record s.now { schema = t })) bare.schema bare.sound in
    let none = λ (name : List ℕ). named name s.now.trees ∙ unlisted s.now.trees name _ sound.lists.listed.tables in
    rw (none (codes "meta"), none (codes "registry"), none (codes "part"), none (codes "notice"), none (codes "handover"), none (codes "hold"))
