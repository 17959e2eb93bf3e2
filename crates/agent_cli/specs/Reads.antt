-- Deeds that only read.
use Rattle.std.specs.Prelude.{◌≡◌, ℕ, List, Bool, true, false}
use Rattle.vault_volume.specs.declared.volume.Volume as volume
use Rattle.sqlite.specs.Store.{Ghosts}
use Rattle.custody.specs.declared.custody.Custody.{Custody}
use Rattle.custody.specs.Custody.{is_open, open_custody_of}
use Rattle.custody.specs.OpenCustody.{current_records, IsUnwritten}
use Rattle.answer_lines.specs.Printing.{Writer}
use Rattle.agent_cli.specs.Acts.{Acts}
use Rattle.agent_cli.specs.declared.order.Deed.{Deed}
use Rattle.agent_cli.specs.declared.order.Deed.TheVariants as deed

-- it only reads
abbrev pub only_reads : Deed → Bool
only_reads (deed.Preview stated) = true
only_reads deed.Due = true
only_reads (deed.Fetch reference name) = true
only_reads (deed.Report tld) = true
only_reads (deed.Explain tld day rev) = true
only_reads (deed.Digests tld) = true
only_reads deed.State = true
only_reads deed.Audit = true
only_reads other = false

module _ {V S : Type 0} {g : volume.Ghosts V} {database : Ghosts S} where
  -- an agent was left alone: its records and its database are the same, and its volume, where it tells its images, was not written
  pub record IsLeftAlone (old new : Custody V S g database) : Type 0 where
    pub records : current_records (open_custody_of new) ≡ current_records (open_custody_of old)
    pub store : (open_custody_of new).store ≡ (open_custody_of old).store
    pub unwritten : g.tells → IsUnwritten (open_custody_of old) (open_custody_of new)

  -- a deed that only reads leaves an open agent alone
  abbrev pub ReadingLeavesAlone : Custody V S g database → Custody V S g database → Type 0
  ReadingLeavesAlone old new = (deed : Deed) (bytes : List ℕ) (now status : ℕ) (output errors : Writer) → only_reads deed ≡ true → is_open old ≡ true → Acts deed bytes now old new status output errors → IsLeftAlone old new
