use Rattle.std.proofs.Common.{◌∙◌, sym}
use Rattle.siri_relay.proofs.Goings.{on_err}
use Rattle.siri_relay.proofs.Steps.{caught_some, down_some, up_some}
use Rattle.siri_relay.proofs.relay.Relay.take_owned.Goals as goal

pub returns-in_err-catch_up-clause-behind : goal.returns-in_err-catch_up-clause-behind
returns-in_err-catch_up-clause-behind c =
    on_err c.from_residual.result _
    (caught_some c.args.self.now c.catch_up.new.self.producer c.args.message c.in_err-catch_up.ensures.behind)

pub returns-in_err-take_up-clause-behind : goal.returns-in_err-take_up-clause-behind
returns-in_err-take_up-clause-behind c =
    on_err c.from_residual-in_err-take_up.result _
    (up_some c.args.self.now c.catch_up.new.self c.take_up.new.self.producer c.args.message (sym c.is_up.ensures ∙ c.if-is_up.true)
    c.in_ok-catch_up.ensures.ok c.in_ok-catch_up.ensures.producer c.in_err-take_up.ensures.behind)

pub returns-in_err-take_down-clause-behind : goal.returns-in_err-take_down-clause-behind
returns-in_err-take_down-clause-behind c =
    on_err c.from_residual-in_err-take_down.result _
    (down_some c.args.self.now c.catch_up.new.self c.take_down.new.self.producer c.args.message (sym c.is_up.ensures ∙ c.if-is_up.false)
    c.in_ok-catch_up.ensures.producer c.in_err-take_down.ensures.err)
