use Rattle.siri_relay.proofs.Goings.{on_err, some_none}
use Rattle.siri_relay.specs.Relaying.{take_steps}
use Rattle.siri_relay.proofs.relay.Relay.take.Goals as goal

pub returns-in_err-message-clause-behind : goal.returns-in_err-message-clause-behind
returns-in_err-message-clause-behind c =
    on_err c.from_residual.result _ (some_none c.args.self.now.producer (take_steps c.args.self.now c.args.message.now))
