-- The calls of deeds, written out, so that the law of deeds speaks of something.
use Rattle.std.specs.Prelude.{◌≡◌, ℕ, List, [], ◌∷◌, None, Some, codes, Result}
use Rattle.std.specs.Borrow.{Bor}
use Rattle.std.specs.FinMap.{empty}
use Rattle.custody_records.specs.Records.{Records}
use Rattle.custody_machine.specs.Machine.{Check}
use Rattle.custody_machine.specs.ExampleLife.{clock_moment, example_tld}
use Rattle.custody.specs.declared.answers.Reply.{Reply}
use Rattle.custody.specs.declared.answers.Refused.{Refused}
use Rattle.agent_cli.specs.declared.order.Deed.TheVariants as deed
use Rattle.theorems.specs.CustodyCalls.{CustodyCall, Applies}
use Rattle.theorems.specs.Deeds.{AreDeedCalls}
use Rattle.theorems.specs.ExampleService.{receive_hello, state_of_registry}

-- a registry whose first day is 2026-08-02, and nothing else
abbrev pub registry_records : Records
registry_records = record { number = 1; blocks = 2; registries = state_of_registry.registries; parts = empty; notices = empty; releases = empty; holds = empty }

-- on 2026-08-04, when two of its days are due
abbrev pub sweep_moment : ℕ
sweep_moment = clock_moment 20_669 0 0

abbrev pub checks_of_both : (first second : Result Reply Refused) → List CustodyCall
checks_of_both first second = Applies (Check example_tld 20_667) sweep_moment first ∷ Applies (Check example_tld 20_668) sweep_moment second ∷ []

pub record DeedsHappen : Type 0 where
  -- A sweep checks both, in order, or the first alone.
  pub sweep : (first second : Result Reply Refused) → AreDeedCalls (deed.Sweep None) [] sweep_moment registry_records (checks_of_both first second)
  pub first_alone : (first : Result Reply Refused) → AreDeedCalls (deed.Sweep None) [] sweep_moment registry_records (Applies (Check example_tld 20_667) sweep_moment first ∷ [])
  -- One that may record only one absence checks none.
  pub too_many : (calls : List CustodyCall) → AreDeedCalls (deed.Sweep (Some 1)) [] sweep_moment registry_records calls → calls ≡ []
  -- A part is put under the end of its path.
  pub put : (file : Bor (List ℕ)) (answer : Result Reply Refused) → file.now ≡ codes "sent/example_2026-08-02_full_S1_R0.ryde"
      → AreDeedCalls (deed.Put file) (codes "hello") (clock_moment 20_667 10 0) registry_records (Applies receive_hello (clock_moment 20_667 10 0) answer ∷ [])
  -- The state is printed without a call.
  pub state : (calls : List CustodyCall) → AreDeedCalls deed.State [] (clock_moment 20_667 10 0) registry_records calls → calls ≡ []
