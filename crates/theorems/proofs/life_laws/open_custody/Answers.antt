use Rattle.std.specs.Prelude.{Ok, Err, MatchResult}
use Rattle.vault_volume.specs.declared.volume.Volume as volume
use Rattle.vault_volume.specs.Vault.{volume_of}
use Rattle.sqlite.specs.Store.{Ghosts}
use Rattle.sqlite.specs.Held.{Held}
use Rattle.custody.specs.Custody.{open_custody_of}
use Rattle.custody.specs.Opening.{OnlyReads, OnlyMigrates}
use Rattle.theorems.specs.Lives.{OpenResult, volume_after, database_after}
use Rattle.theorems.proofs.life_laws.open_custody.Goals as goal

-- what holds of volume and database after either answer
after_either : {V S : Type 0} (g : volume.Ghosts V) (database : Ghosts S) (P : V → Held S → OpenResult g database → Type 0) (result : OpenResult g database)
    → MatchResult result (λ custody. P (volume_of (open_custody_of custody).vault) (open_custody_of custody).store result) (λ e. P e.1 e.2 result) → P (volume_after g database result) (database_after g database result) result
after_either g database P (Ok custody) h = h
after_either g database P (Err e) h = h

pub returns : goal.returns
returns g c =
    let result = c.open.result in
    let h = c.open.ensures in
    record {
      opened = h.opened;
      loaded = h.loaded;
      cause = h.cause;
      damaged = h.damaged;
      reads = λ is. after_either g.V.Volume g.S.Store (λ later then result. OnlyReads g.V.Volume g.S.Store c.args.volume c.args.db later then result) result (h.reads is);
      migrates = λ is. after_either g.V.Volume g.S.Store (λ later then result. OnlyMigrates g.V.Volume g.S.Store c.args.volume c.args.db later then result) result (h.migrates is);
    }
