-- What the code asks of the agent, as the definitions have it.
use Rattle.custody_machine.specs.Commands.{command_of}
use Rattle.http_request.specs.Action as asked
use Rattle.http_request.specs.declared.action.RequestAction.{RequestAction}
use Rattle.http_request.specs.declared.action.RequestAction.TheVariants.{Do, Report, Explain, State, Due, Digests, Fetch}

abbrev pub action_view : RequestAction → asked.RequestAction
action_view (Do command) = asked.Do (command_of command)
action_view (Report tld) = asked.Report tld
action_view (Explain tld day rev) = asked.Explain tld day rev
action_view State = asked.State
action_view Due = asked.Due
action_view (Digests tld) = asked.Digests tld
action_view (Fetch reference name) = asked.Fetch reference name.now
