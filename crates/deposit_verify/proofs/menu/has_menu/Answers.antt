use Rattle.envelope.specs.Envelope.{env_of}
use Rattle.deposit_verify.proofs.MenuLemmas.{menu_decided}
use Rattle.deposit_verify.proofs.menu.has_menu.Goals as goal

pub returns : goal.returns
returns c = menu_decided (env_of c.args.envelope.now) c.menu_reason.result c.is_none.result c.menu_reason.ensures c.is_none.ensures
