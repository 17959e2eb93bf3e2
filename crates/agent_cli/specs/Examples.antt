-- Words of each subcommand, and the order that they give: with all of its options, and without the one that may be left out.
use Rattle.std.specs.Prelude.{ℕ, true, false, List, [], ◌∷◌, Option, None, Some, Ok, codes}
use Rattle.clap.specs.Words.{Text}
use Rattle.deposit_name.specs.declared.kinds.Kind.TheVariants.{Full, Incr}
use Rattle.desk.specs.declared.grounds.Ground.TheVariants.{Operator}
use Rattle.custody_machine.specs.Machine.{Register, Statement, Release, Hold, Lift, Purge}
use Rattle.agent_cli.specs.Order.{ReadsWords, DeedMeaning, Init, Put, Preview, Do, Due, Sweep, Fetch, Report, Explain, Digests, State, Audit, Batch, Serve}

-- these words, behind the name of the program, ask for this, in the folder `vault` and at a moment that they may name
abbrev pub GivesOrder : List Text → Option ℕ → DeedMeaning → Type 0
GivesOrder words now deed = ReadsWords (codes "escrow" ∷ words) (Some (Ok (record { folder = codes "vault"; now = now; deed = deed })))

-- 2026-08-02 is day 20667, and ten o'clock of it second 1785664800
pub record WordsGiveOrders : Type 0 where
  pub of_init : GivesOrder (codes "init" ∷ codes "vault" ∷ codes "--blocks" ∷ codes "8" ∷ codes "--number" ∷ codes "0000000000000001" ∷ []) None (Init 8 1)
  pub of_register : GivesOrder (codes "register" ∷ codes "vault" ∷ codes "example" ∷ codes "--first" ∷ codes "2026-08-02" ∷ []) None (Do (Register (codes "example") 20_667))
  pub of_put : GivesOrder (codes "put" ∷ codes "vault" ∷ codes "part.ryde" ∷ codes "--now" ∷ codes "2026-08-02T10:00:00Z" ∷ []) (Some 1_785_664_800) (Put (codes "part.ryde"))
  pub of_put_now : GivesOrder (codes "put" ∷ codes "vault" ∷ codes "part.ryde" ∷ []) None (Put (codes "part.ryde"))
  pub of_preview : GivesOrder (codes "preview" ∷ codes "vault" ∷ codes "example" ∷ codes "--date" ∷ codes "2026-08-02" ∷ codes "--kind" ∷ codes "full" ∷ codes "--revision" ∷ codes "3" ∷ codes "--parts" ∷ codes "2" ∷ codes "--id" ∷ codes "X" ∷ codes "--now" ∷ codes "2026-08-02T10:00:00Z" ∷ [])
      (Some 1_785_664_800) (Preview (record { tld = codes "example"; day = 20_667; kind = Full; rev = 3; parts = 2; id = codes "X" }))
  pub of_preview_now : GivesOrder (codes "preview" ∷ codes "vault" ∷ codes "example" ∷ codes "--date" ∷ codes "2026-08-02" ∷ codes "--kind" ∷ codes "full" ∷ codes "--revision" ∷ codes "3" ∷ codes "--parts" ∷ codes "2" ∷ codes "--id" ∷ codes "X" ∷ [])
      None (Preview (record { tld = codes "example"; day = 20_667; kind = Full; rev = 3; parts = 2; id = codes "X" }))
  pub of_verify : GivesOrder (codes "verify" ∷ codes "vault" ∷ codes "example" ∷ codes "--date" ∷ codes "2026-08-02" ∷ codes "--kind" ∷ codes "full" ∷ codes "--revision" ∷ codes "3" ∷ codes "--parts" ∷ codes "2" ∷ codes "--id" ∷ codes "X" ∷ codes "--now" ∷ codes "2026-08-02T10:00:00Z" ∷ [])
      (Some 1_785_664_800) (Do (Statement (record { tld = codes "example"; day = 20_667; kind = Full; rev = 3; parts = 2; id = codes "X" })))
  pub of_verify_now : GivesOrder (codes "verify" ∷ codes "vault" ∷ codes "example" ∷ codes "--date" ∷ codes "2026-08-02" ∷ codes "--kind" ∷ codes "full" ∷ codes "--revision" ∷ codes "3" ∷ codes "--parts" ∷ codes "2" ∷ codes "--id" ∷ codes "X" ∷ [])
      None (Do (Statement (record { tld = codes "example"; day = 20_667; kind = Full; rev = 3; parts = 2; id = codes "X" })))
  pub of_verify_partial : GivesOrder (codes "verify" ∷ codes "vault" ∷ codes "example" ∷ codes "--date" ∷ codes "2026-08-02" ∷ codes "--kind" ∷ codes "incr" ∷ codes "--revision" ∷ codes "3" ∷ codes "--parts" ∷ codes "2" ∷ codes "--id" ∷ codes "X" ∷ [])
      None (Do (Statement (record { tld = codes "example"; day = 20_667; kind = Incr; rev = 3; parts = 2; id = codes "X" })))
  pub of_due : GivesOrder (codes "due" ∷ codes "vault" ∷ codes "--now" ∷ codes "2026-08-02T10:00:00Z" ∷ []) (Some 1_785_664_800) Due
  pub of_due_now : GivesOrder (codes "due" ∷ codes "vault" ∷ []) None Due
  pub of_sweep : GivesOrder (codes "sweep" ∷ codes "vault" ∷ codes "--now" ∷ codes "2026-08-02T10:00:00Z" ∷ []) (Some 1_785_664_800) (Sweep None)
  pub of_sweep_now : GivesOrder (codes "sweep" ∷ codes "vault" ∷ []) None (Sweep None)
  pub of_sweep_at_most : GivesOrder (codes "sweep" ∷ codes "vault" ∷ codes "--at-most" ∷ codes "20" ∷ codes "--now" ∷ codes "2026-08-02T10:00:00Z" ∷ []) (Some 1_785_664_800) (Sweep (Some 20))
  pub of_purge : GivesOrder (codes "purge" ∷ codes "vault" ∷ codes "--now" ∷ codes "2026-08-02T10:00:00Z" ∷ []) (Some 1_785_664_800) (Do Purge)
  pub of_purge_now : GivesOrder (codes "purge" ∷ codes "vault" ∷ []) None (Do Purge)
  pub of_hold : GivesOrder (codes "hold" ∷ codes "vault" ∷ codes "H-1" ∷ codes "example" ∷ codes "--date" ∷ codes "2026-08-02" ∷ codes "--now" ∷ codes "2026-08-02T10:00:00Z" ∷ []) (Some 1_785_664_800) (Do (Hold (codes "H-1") (codes "example") 20_667))
  pub of_hold_now : GivesOrder (codes "hold" ∷ codes "vault" ∷ codes "H-1" ∷ codes "example" ∷ codes "--date" ∷ codes "2026-08-02" ∷ []) None (Do (Hold (codes "H-1") (codes "example") 20_667))
  pub of_lift : GivesOrder (codes "lift" ∷ codes "vault" ∷ codes "H-1" ∷ codes "--now" ∷ codes "2026-08-02T10:00:00Z" ∷ []) (Some 1_785_664_800) (Do (Lift (codes "H-1")))
  pub of_lift_now : GivesOrder (codes "lift" ∷ codes "vault" ∷ codes "H-1" ∷ []) None (Do (Lift (codes "H-1")))
  pub of_release : GivesOrder (codes "release" ∷ codes "vault" ∷ codes "R-1" ∷ codes "example" ∷ codes "operator" ∷ codes "--now" ∷ codes "2026-08-02T10:00:00Z" ∷ []) (Some 1_785_664_800) (Do (Release (codes "R-1") (codes "example") Operator))
  pub of_release_now : GivesOrder (codes "release" ∷ codes "vault" ∷ codes "R-1" ∷ codes "example" ∷ codes "operator" ∷ []) None (Do (Release (codes "R-1") (codes "example") Operator))
  pub of_fetch : GivesOrder (codes "fetch" ∷ codes "vault" ∷ codes "R-1" ∷ codes "part.ryde" ∷ []) None (Fetch (codes "R-1") (codes "part.ryde"))
  pub of_report : GivesOrder (codes "report" ∷ codes "vault" ∷ codes "example" ∷ []) None (Report (codes "example"))
  pub of_explain : GivesOrder (codes "explain" ∷ codes "vault" ∷ codes "example" ∷ codes "--date" ∷ codes "2026-08-02" ∷ codes "--revision" ∷ codes "3" ∷ []) None (Explain (codes "example") 20_667 3)
  pub of_digests : GivesOrder (codes "digests" ∷ codes "vault" ∷ codes "example" ∷ []) None (Digests (codes "example"))
  pub of_state : GivesOrder (codes "state" ∷ codes "vault" ∷ []) None State
  pub of_audit : GivesOrder (codes "audit" ∷ codes "vault" ∷ []) None Audit
  pub of_batch : GivesOrder (codes "batch" ∷ codes "vault" ∷ []) None Batch
  pub of_serve : GivesOrder (codes "serve" ∷ codes "vault" ∷ codes "--port" ∷ codes "8080" ∷ codes "--requests" ∷ codes "2" ∷ codes "--now" ∷ codes "2026-08-02T10:00:00Z" ∷ []) (Some 1_785_664_800) (Serve 8080 2 false)
  pub of_serve_now : GivesOrder (codes "serve" ∷ codes "vault" ∷ codes "--port" ∷ codes "8080" ∷ codes "--requests" ∷ codes "2" ∷ []) None (Serve 8080 2 false)
  pub of_serve_until_closed : GivesOrder (codes "serve" ∷ codes "vault" ∷ codes "--port" ∷ codes "8080" ∷ codes "--requests" ∷ codes "2" ∷ codes "--until-closed" ∷ []) None (Serve 8080 2 true)
