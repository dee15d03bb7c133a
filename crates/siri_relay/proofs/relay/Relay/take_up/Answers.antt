use Rattle.siri_relay.proofs.Goings.{on_err, some_none}
use Rattle.siri_relay.proofs.Steps.{heard_steps}
use Rattle.siri_relay.proofs.relay.Relay.take_up.Goals as goal

pub returns-in_err-named-clause-behind : goal.returns-in_err-named-clause-behind
returns-in_err-named-clause-behind c =
    on_err c.from_residual.result _ (some_none c.args.self.now.producer (heard_steps c.args.self.now c.args.message))
