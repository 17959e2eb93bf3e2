-- What is known of a deposit before it is read.
use Rattle.std.specs.Prelude.{ℕ, List, Option}
use Rattle.deposit_name.specs.Name.{Name}
use Rattle.deposit_verify.specs.declared.about.About.{About}
use Rattle.deposit_verify.specs.declared.base.Base.{Base}

-- the name of the deposit, the id that its statement tells, the ids of the registry's latest deposit and of its latest full deposit that passed, the ids of all that passed, and the keys after the deposits of its chain, where these are known
pub record Known : Type 0 where
  pub name : Name
  pub id : List ℕ
  pub latest : Option (List ℕ)
  pub full : Option (List ℕ)
  pub passed : List (List ℕ)
  pub base : Option Base

-- the same without where it lies in memory
abbrev pub known_in : About → Known
known_in about = record { name = about.name; id = about.id; latest = about.latest; full = about.full; passed = about.passed.items; base = about.base }
