-- The words of each subcommand, computed.
use Rattle.std.proofs.Common.{None, Some, codes, refl, sym, inl, arith}
use Rattle.clap.specs.Faults.{flags_fault, walk_fault, defaults_fault}
use Rattle.clap.specs.Walk.{bundle_met, walked}
use Rattle.schedule.specs.Calendar.{date_of}
use Rattle.deposit_name.specs.Identifiers.{IsDepositId, IsReference, IsTld}
use Rattle.deposit_name.specs.declared.kinds.Kind.TheVariants.{Full, Incr}
use Rattle.deposit_name.proofs.IdentifierLemmas.{is_tld-IsTld, is_deposit_id-IsDepositId, is_reference-IsReference}
use Rattle.desk.specs.declared.grounds.Ground.TheVariants.{Operator}
use Rattle.answer_lines.proofs.NumberLemmas.{number_one}
use Rattle.agent_cli.specs.Order.{ReadsWords}
use Rattle.agent_cli.specs.Examples.{WordsGiveOrders}

example_is_tld : IsTld (codes "example")
example_is_tld = (is_tld-IsTld (codes "example")).0 refl

x_is_id : IsDepositId (codes "X")
x_is_id = (is_deposit_id-IsDepositId (codes "X")).0 refl

r_1_is_reference : IsReference (codes "R-1")
r_1_is_reference = (is_reference-IsReference (codes "R-1")).0 refl

h_1_is_reference : IsReference (codes "H-1")
h_1_is_reference = (is_reference-IsReference (codes "H-1")).0 refl

pub words_give_orders : WordsGiveOrders
unfolding ReadsWords date_of flags_fault walk_fault defaults_fault bundle_met walked
words_give_orders = record {
  of_init = inl (_, inl (1, (omega arith, sym number_one), refl), inl (None, refl, refl));
  of_register = inl (_, inl (codes "example", (refl, example_is_tld), inl (20_667, (omega arith, refl), refl)), inl (None, refl, refl));
  of_put = inl (_, refl, inl (Some 1_785_664_800, (omega arith, refl), refl));
  of_put_now = inl (_, refl, inl (None, refl, refl));
  of_preview = inl (_, inl (_, inl (codes "example", (refl, example_is_tld), inl (20_667, (omega arith, refl), inl (Full, refl, inl (codes "X", (refl, x_is_id), refl)))), refl), inl (Some 1_785_664_800, (omega arith, refl), refl));
  of_preview_now = inl (_, inl (_, inl (codes "example", (refl, example_is_tld), inl (20_667, (omega arith, refl), inl (Full, refl, inl (codes "X", (refl, x_is_id), refl)))), refl), inl (None, refl, refl));
  of_verify = inl (_, inl (_, inl (codes "example", (refl, example_is_tld), inl (20_667, (omega arith, refl), inl (Full, refl, inl (codes "X", (refl, x_is_id), refl)))), refl), inl (Some 1_785_664_800, (omega arith, refl), refl));
  of_verify_now = inl (_, inl (_, inl (codes "example", (refl, example_is_tld), inl (20_667, (omega arith, refl), inl (Full, refl, inl (codes "X", (refl, x_is_id), refl)))), refl), inl (None, refl, refl));
  of_verify_partial = inl (_, inl (_, inl (codes "example", (refl, example_is_tld), inl (20_667, (omega arith, refl), inl (Incr, refl, inl (codes "X", (refl, x_is_id), refl)))), refl), inl (None, refl, refl));
  of_due = inl (_, refl, inl (Some 1_785_664_800, (omega arith, refl), refl));
  of_due_now = inl (_, refl, inl (None, refl, refl));
  of_sweep = inl (_, refl, inl (Some 1_785_664_800, (omega arith, refl), refl));
  of_sweep_now = inl (_, refl, inl (None, refl, refl));
  of_sweep_at_most = inl (_, refl, inl (Some 1_785_664_800, (omega arith, refl), refl));
  of_purge = inl (_, refl, inl (Some 1_785_664_800, (omega arith, refl), refl));
  of_purge_now = inl (_, refl, inl (None, refl, refl));
  of_hold = inl (_, inl (codes "example", (refl, example_is_tld), inl (20_667, (omega arith, refl), inl (codes "H-1", (refl, h_1_is_reference), refl))), inl (Some 1_785_664_800, (omega arith, refl), refl));
  of_hold_now = inl (_, inl (codes "example", (refl, example_is_tld), inl (20_667, (omega arith, refl), inl (codes "H-1", (refl, h_1_is_reference), refl))), inl (None, refl, refl));
  of_lift = inl (_, inl (codes "H-1", (refl, h_1_is_reference), refl), inl (Some 1_785_664_800, (omega arith, refl), refl));
  of_lift_now = inl (_, inl (codes "H-1", (refl, h_1_is_reference), refl), inl (None, refl, refl));
  of_release = inl (_, inl (codes "example", (refl, example_is_tld), inl (codes "R-1", (refl, r_1_is_reference), inl (Operator, refl, refl))), inl (Some 1_785_664_800, (omega arith, refl), refl));
  of_release_now = inl (_, inl (codes "example", (refl, example_is_tld), inl (codes "R-1", (refl, r_1_is_reference), inl (Operator, refl, refl))), inl (None, refl, refl));
  of_fetch = inl (_, inl (codes "R-1", (refl, r_1_is_reference), refl), inl (None, refl, refl));
  of_report = inl (_, inl (codes "example", (refl, example_is_tld), refl), inl (None, refl, refl));
  of_explain = inl (_, inl (codes "example", (refl, example_is_tld), inl (20_667, (omega arith, refl), refl)), inl (None, refl, refl));
  of_digests = inl (_, inl (codes "example", (refl, example_is_tld), refl), inl (None, refl, refl));
  of_state = inl (_, refl, inl (None, refl, refl));
  of_audit = inl (_, refl, inl (None, refl, refl));
  of_batch = inl (_, refl, inl (None, refl, refl));
  of_serve = inl (_, refl, inl (Some 1_785_664_800, (omega arith, refl), refl));
  of_serve_now = inl (_, refl, inl (None, refl, refl));
  of_serve_until_closed = inl (_, refl, inl (None, refl, refl));
}
