use Rattle.siri_relay.proofs.Goings.{cut_first, cut_second, goes_both, on_err}
use Rattle.siri_relay.proofs.feeding.feed_both.Goals as goal

pub returns-in_err-feed_owned-clause-err : goal.returns-in_err-feed_owned-clause-err
returns-in_err-feed_owned-clause-err c =
    on_err c.from_residual.result _
    (cut_first c.args.producer.now c.feed_owned.new.self _ _ c.in_err-feed_owned.ensures.err c.feed_owned.ensures.name)

pub returns-in_err-feed_owned-2-clause-err : goal.returns-in_err-feed_owned-2-clause-err
returns-in_err-feed_owned-2-clause-err c =
    on_err c.from_residual-in_err-feed_owned-2.result _
    (cut_second c.args.producer.now c.feed_owned.new.self c.feed_owned-2.new.self _ _ c.in_ok-feed_owned.ensures.ok
    c.feed_owned.ensures.name c.in_err-feed_owned-2.ensures.err c.feed_owned-2.ensures.name)

pub returns-clause-ok : goal.returns-clause-ok
returns-clause-ok c =
    goes_both c.args.producer.now c.feed_owned.new.self c.feed_owned-2.new.self _ _ c.in_ok-feed_owned.ensures.ok
    c.feed_owned.ensures.name c.in_ok-feed_owned-2.ensures.ok c.feed_owned-2.ensures.name
