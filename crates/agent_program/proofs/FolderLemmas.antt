-- What is said of a call over the files of a folder, said of an order that is done there.
use Rattle.std.proofs.Common.{◌≡◌, ◌∙◌, ℕ, Bool, List, Option, Result, IfOk, refl}
use Rattle.std.proofs.lemmas.Result.{IfOk-weaker}
use Rattle.vault_volume.specs.declared.volume.Volume as volume
use Rattle.vault_volume.specs.declared.block_file.BlockFile as block_file
use Rattle.vault_volume.specs.declared.file_volume.FileVolume.{FileVolume}
use Rattle.sqlite_disk.specs.declared.Disk as disk
use Rattle.sqlite.specs.Store.{Ghosts}
use Rattle.sqlite.specs.Held.{Held}
use Rattle.answer_lines.specs.Printing.{Writer}
use Rattle.agent_cli.specs.declared.order.Deed.{Deed}
use Rattle.agent_cli.specs.declared.order.Deed.TheVariants as deed
use Rattle.agent_cli.specs.declared.order.Order.{Order}
use Rattle.agent_program.specs.Parts.{IsOrderRead}
use Rattle.agent_program.specs.Folder.{ActsInFolder, BatchesFolder, HasActed, HasBatchedInFolder, HasBegunInFolder, HasEnded, HasServedInFolder, InitsFolder, IsCopySpared, IsFolderLeft, IsHeldOf, IsMadeOf, IsOpenOf, IsOrderDone, IsOverFolder, IsReadOf, ServesFolder}
use Rattle.agent_program.specs.declared.folder.FolderCallEnd.{FolderCallEnd}
use Rattle.agent_program.specs.declared.folder.FolderCallEnd.TheVariants as end
use Rattle.agent_program.specs.declared.folder.OpenFolder.{OpenFolder}

-- a deed that acts on the agent of a folder, and no other
abbrev pub IsActing : Deed → Type 0
IsActing (deed.Init blocks number) = ⊥
IsActing deed.Batch = ⊥
IsActing (deed.Serve port requests until_closed) = ⊥
IsActing other = Unit {0}

module _ {F D : Type 0} {f : block_file.Ghosts F} (g : volume.Ghosts (FileVolume F f)) (d : disk.Ghosts D) (reveals : Type 0) (held : List ℕ → Option (List ℕ)) (shown : Option ℕ) (output errors : Writer) (order : Order) (lines : Option (List ℕ)) where
  module _ (IsOpen : OpenFolder F D f d → Type 0) (P : (S : Type 0) → Ghosts S → FileVolume F f → Held S → ℕ → Bool → FileVolume F f → Held S → Type 0) where
    -- over whatever files, the order is done then
    abbrev IsDoneOverAny : Type 1
    IsDoneOverAny = (S : Type 0) (database : Ghosts S) (volume : FileVolume F f) (db : Held S) (status : ℕ) (has_vault : Bool) (later : FileVolume F f) (then : Held S)
        → P S database volume db status has_vault later then → IsOrderDone g database volume db status has_vault later then output errors reveals held shown lines order

    -- and those files are the order's
    abbrev AreItsFiles : Type 0
    AreItsFiles = (files : OpenFolder F D f d) → IsOpen files → IsOpenOf g d reveals held order files

    over : AreItsFiles → IsDoneOverAny → (ended : FolderCallEnd F D f d) → IsOverFolder IsOpen (IsReadOf g reveals held order) P order ended → HasEnded g d reveals held shown output errors lines order ended
    over its done (end.Open ended) (files, open_, works) = (files, its files open_, done _ _ _ _ _ _ _ _ works)
    over its done (end.ReadOnly ended) (reads, (files, read, works)) = (reads, (files, read, done _ _ _ _ _ _ _ _ works))

    IfOk-done : {E : Type 0} (r : Result (FolderCallEnd F D f d) E) → IfOk r (IsOverFolder IsOpen (IsReadOf g reveals held order) P order) → AreItsFiles → IsDoneOverAny → IfOk r (HasEnded g d reveals held shown output errors lines order)
    IfOk-done r acts its done = IfOk-weaker r (IsOverFolder IsOpen (IsReadOf g reveals held order) P order) (HasEnded g d reveals held shown output errors lines order) (over its done) acts

  -- what an order of such a deed does, with the bytes that it reads
  abbrev Acts : (S : Type 0) → Ghosts S → FileVolume F f → Held S → ℕ → Bool → FileVolume F f → Held S → Type 0
  Acts S database volume db status has_vault later then = (bytes : List ℕ) × IsOrderRead held order.deed bytes × ActsInFolder g database volume db status has_vault later then output errors shown order bytes

  its_files : IsActing order.deed → AreItsFiles (IsHeldOf g d reveals held order) Acts
  its_files acts files open_ = by order.deed refl acts
    where
      by : (it : Deed) → order.deed ≡ it → IsActing it → IsOpenOf g d reveals held order files
      by (deed.Put file) is acts = rw is open_
      by (deed.Preview statement) is acts = rw is open_
      by (deed.Do command) is acts = rw is open_
      by deed.Due is acts = rw is open_
      by (deed.Sweep limit) is acts = rw is open_
      by (deed.Fetch reference name) is acts = rw is open_
      by (deed.Report tld) is acts = rw is open_
      by (deed.Explain tld day rev) is acts = rw is open_
      by (deed.Digests tld) is acts = rw is open_
      by deed.State is acts = rw is open_
      by deed.Audit is acts = rw is open_
      by (deed.Init blocks number) is acts = absurd acts
      by deed.Batch is acts = absurd acts
      by (deed.Serve port requests until_closed) is acts = absurd acts

  its_deed : IsActing order.deed → IsDoneOverAny (IsHeldOf g d reveals held order) Acts
  its_deed acts S database volume db status has_vault later then works = by order.deed refl acts
    where
      by : (it : Deed) → order.deed ≡ it → IsActing it → IsOrderDone g database volume db status has_vault later then output errors reveals held shown lines order
      by (deed.Put file) is acts = rw is (rw is at works)
      by (deed.Preview statement) is acts = rw is (rw is at works)
      by (deed.Do command) is acts = rw is (rw is at works)
      by deed.Due is acts = rw is (rw is at works)
      by (deed.Sweep limit) is acts = rw is (rw is at works)
      by (deed.Fetch reference name) is acts = rw is (rw is at works)
      by (deed.Report tld) is acts = rw is (rw is at works)
      by (deed.Explain tld day rev) is acts = rw is (rw is at works)
      by (deed.Digests tld) is acts = rw is (rw is at works)
      by deed.State is acts = rw is (rw is at works)
      by deed.Audit is acts = rw is (rw is at works)
      by (deed.Init blocks number) is acts = absurd acts
      by deed.Batch is acts = absurd acts
      by (deed.Serve port requests until_closed) is acts = absurd acts

  read_first : (bytes : List ℕ) → IsOrderRead held order.deed bytes → (ended : FolderCallEnd F D f d) → HasActed g d reveals held shown output errors order bytes ended
      → IsOverFolder (IsHeldOf g d reveals held order) (IsReadOf g reveals held order) Acts order ended
  read_first bytes read (end.Open ended) (files, open_, works) = (files, open_, (bytes, read, works))
  read_first bytes read (end.ReadOnly ended) (reads, (files, found, works)) = (reads, (files, found, (bytes, read, works)))

  pub IfOk-acted : {E : Type 0} (bytes : List ℕ) (r : Result (FolderCallEnd F D f d) E) → IsActing order.deed → IsOrderRead held order.deed bytes → IfOk r (HasActed g d reveals held shown output errors order bytes)
      → IfOk r (HasEnded g d reveals held shown output errors lines order)
  IfOk-acted bytes r acting read acts =
      IfOk-done (IsHeldOf g d reveals held order) Acts r
      (IfOk-weaker r (HasActed g d reveals held shown output errors order bytes) (IsOverFolder (IsHeldOf g d reveals held order) (IsReadOf g reveals held order) Acts order) (read_first bytes read) acts)
      (its_files acting) (its_deed acting)

  pub IfOk-begun : {E : Type 0} (blocks number : ℕ) (r : Result (FolderCallEnd F D f d) E) → order.deed ≡ deed.Init blocks number → IfOk r (HasBegunInFolder g d reveals held shown output errors order blocks number)
      → IfOk r (HasEnded g d reveals held shown output errors lines order)
  IfOk-begun blocks number r is begins =
      IfOk-done (IsMadeOf g d reveals held order blocks) (λ S database volume db status has_vault later then. InitsFolder g database volume db status has_vault later then output errors blocks number) r begins
      (λ files made. rw is made) (λ S database volume db status has_vault later then works. rw is works)

  pub IfOk-batched : {E : Type 0} (r : Result (FolderCallEnd F D f d) E) → order.deed ≡ deed.Batch → IfOk r (HasBatchedInFolder g d reveals held shown output errors order lines) → IfOk r (HasEnded g d reveals held shown output errors lines order)
  IfOk-batched r is does =
      IfOk-done (IsHeldOf g d reveals held order) (λ S database volume db status has_vault later then. BatchesFolder g database volume db status has_vault later then output errors reveals held shown order.folder.now lines) r does
      (λ files found. rw is found) (λ S database volume db status has_vault later then works. rw is works)

  pub IfOk-served : {E : Type 0} (port requests : ℕ) (until_closed : Bool) (r : Result (FolderCallEnd F D f d) E) → order.deed ≡ deed.Serve port requests until_closed → IfOk r (HasServedInFolder g d reveals held shown output errors order port requests until_closed)
      → IfOk r (HasEnded g d reveals held shown output errors lines order)
  IfOk-served port requests until_closed r is serves =
      IfOk-done (IsHeldOf g d reveals held order) (λ S database volume db status has_vault later then. ServesFolder g database volume db status has_vault later then output errors port requests until_closed order.now) r serves
      (λ files found. rw is found) (λ S database volume db status has_vault later then works. rw is works)

-- What a folder holds once its files are closed: a database that was only copied is as it was before they were opened.
pub left_since : {F D : Type 0} {f : block_file.Ghosts F} {d : disk.Ghosts D} (g : volume.Ghosts (FileVolume F f)) (held then later : List ℕ → Option (List ℕ)) (volume database : List ℕ) (ended : FolderCallEnd F D f d)
    → IsCopySpared held then database ended → IsFolderLeft g then later volume database ended → IsFolderLeft g held later volume database ended
left_since g held then later volume database (end.Open ended) spared left = left
left_since g held then later volume database (end.ReadOnly ended) spared left = (left.0, (left.1.0 ∙ spared.0, left.1.1 ∙ spared.1))
