use Rattle.std.proofs.Common.{subst}
use Rattle.siri_relay.specs.Feeds.{feeds_of}
use Rattle.siri_relay.specs.Goes.{GoesBy, GoesSome}
use Rattle.siri_relay.proofs.Goings.{feeds_are, on_err, some_none}
use Rattle.siri_relay.proofs.feeding.feed_view.Goals as goal

pub returns-in_err-feeds-clause-err : goal.returns-in_err-feeds-clause-err
returns-in_err-feeds-clause-err c =
    on_err c.from_residual.result _ (some_none c.args.producer.now (feeds_of c.args.is_level c.args.fed.now c.args.view.now))

pub returns-in_err-feed_both-clause-err : goal.returns-in_err-feed_both-clause-err
returns-in_err-feed_both-clause-err c =
    let steps = feeds_are c.args.is_level c.args.fed.now c.args.view.now _ _ c.in_ok-feeds.ensures.removals c.in_ok-feeds.ensures.items in
    on_err c.from_residual-in_err-feed_both.result _
    (subst (GoesSome c.args.producer.now c.feed_both.new.producer) steps c.in_err-feed_both.ensures.err)

pub returns-clause-ok : goal.returns-clause-ok
returns-clause-ok c =
    let steps = feeds_are c.args.is_level c.args.fed.now c.args.view.now _ _ c.in_ok-feeds.ensures.removals c.in_ok-feeds.ensures.items in
    subst (GoesBy c.args.producer.now c.feed_both.new.producer) steps c.in_ok-feed_both.ensures.ok
