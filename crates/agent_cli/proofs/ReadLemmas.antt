-- What a deed that only reads leaves: all.
use Rattle.std.proofs.Common.{◌≡◌, refl, sym, subst}
use Rattle.vault_volume.specs.declared.volume.Volume as volume
use Rattle.vault_volume.proofs.Moments.{nothing_yet}
use Rattle.sqlite.specs.Store.{Ghosts}
use Rattle.custody.specs.declared.custody.Custody.{Custody}
use Rattle.custody.specs.Custody.{is_open, open_custody_of}
use Rattle.custody.specs.OpenCustody.{IsUnwritten}
use Rattle.custody.specs.OtherCalls.{RecordsNothing}
use Rattle.agent_cli.specs.Reads.{IsLeftAlone, ReadingLeavesAlone}
use Rattle.agent_cli.specs.declared.order.Deed.TheVariants as deed

module _ {V S : Type 0} {g : volume.Ghosts V} {database : Ghosts S} (old new : Custody V S g database) where
  same : new ≡ old → IsLeftAlone old new
  same is = subst (λ (it : Custody V S g database). IsLeftAlone old it) (sym is) (record {
    records = refl;
    store = refl;
    unwritten = λ tells. (refl, nothing_yet _ _ _ _ (λ c left. left));
  })

  rested : RecordsNothing database (open_custody_of old) (is_open new) (open_custody_of new) → (g.tells → IsUnwritten (open_custody_of old) (open_custody_of new)) → IsLeftAlone old new
  rested nothing unwritten = record { records = nothing.records; store = nothing.store; unwritten = unwritten }

  pub reading_leaves_alone : ReadingLeavesAlone old new
  reading_leaves_alone (deed.Preview stated) bytes now status output errors reads works acts = rested (acts.1.1.rested works) (acts.1.1.unwritten works)
  reading_leaves_alone deed.Due bytes now status output errors reads works acts = same acts.0
  reading_leaves_alone (deed.Fetch reference name) bytes now status output errors reads works acts = rested (acts.1.1.rested works) (acts.1.1.unwritten works)
  reading_leaves_alone (deed.Report tld) bytes now status output errors reads works acts = same acts.0
  reading_leaves_alone (deed.Explain tld day rev) bytes now status output errors reads works acts = rested (acts.1.1.rested works) (acts.1.1.unwritten works)
  reading_leaves_alone (deed.Digests tld) bytes now status output errors reads works acts = same acts.0
  reading_leaves_alone deed.State bytes now status output errors reads works acts = same acts.0
  reading_leaves_alone deed.Audit bytes now status output errors reads works acts = rested (acts.1.1.rested works) (acts.1.1.unwritten works)
  reading_leaves_alone (deed.Init blocks number) bytes now status output errors reads works acts = cc
  reading_leaves_alone (deed.Put file) bytes now status output errors reads works acts = cc
  reading_leaves_alone (deed.Do command) bytes now status output errors reads works acts = cc
  reading_leaves_alone (deed.Sweep at_most) bytes now status output errors reads works acts = cc
  reading_leaves_alone deed.Batch bytes now status output errors reads works acts = cc
  reading_leaves_alone (deed.Serve port requests until_closed) bytes now status output errors reads works acts = cc
