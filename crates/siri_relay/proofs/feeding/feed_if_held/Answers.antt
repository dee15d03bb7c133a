use Rattle.std.proofs.Common.{OnErr, subst}
use Rattle.siri_records.specs.Keyed.{Items}
use Rattle.siri_relay.specs.Feeds.{feeds_of}
use Rattle.siri_relay.specs.Goes.{GoesSome}
use Rattle.siri_relay.proofs.feeding.feed_if_held.Goals as goal

pub returns-in-Some-clause-err : goal.returns-in-Some-clause-err
returns-in-Some-clause-err c = rw c.in-Some.is c.feed_view.ensures.err

pub returns-in-None-clause-err : goal.returns-in-None-clause-err
returns-in-None-clause-err c =
    let empty = subst (λ (view : Items). OnErr c.feed_view-in-None.result (GoesSome c.args.producer.now c.feed_view-in-None.new.producer
    (feeds_of c.args.is_level c.args.fed.now view))) c.new.ensures c.feed_view-in-None.ensures.err in
    rw c.in-None.is empty
