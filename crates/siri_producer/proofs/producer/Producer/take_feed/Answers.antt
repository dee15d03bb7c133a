use Rattle.std.proofs.Common.{◌≡◌, ℕ, List, Option, IfOk, subst}
use Rattle.siri_producer.specs.Answers.{fed_reply}
use Rattle.siri_producer.proofs.Takes.{takes_fed}
use Rattle.siri_producer.proofs.producer.Producer.take_feed.Goals as goal

pub returns-clause-takes : goal.returns-clause-takes
returns-clause-takes c =
    let new = c.feed_owned.new.self in
    takes_fed c.args.self.now new c.args.delivery c.in_ok-fed.fed c.acknowledge_feed.result c.requires
    c.in_ok-fed.ensures.ok c.in_ok-fed.ensures.counts c.feed_owned.ensures.name
    (subst (λ (identifier : Option (List ℕ)). IfOk c.acknowledge_feed.result
    (λ answer. answer ≡ fed_reply new.responder.name new.responder.moment identifier c.in_ok-fed.fed))
    c.take-identifier.ensures.value c.acknowledge_feed.ensures)
