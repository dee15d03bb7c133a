use Rattle.std.proofs.lemmas.Result.{IfOk-weaker}
use Rattle.siri_world.proofs.Found.{at_within}
use Rattle.siri_world.proofs.Listed.{both_ok}
use Rattle.siri_world.proofs.Requests.{takes_at}
use Rattle.siri_world.proofs.world.take.Goals as goal

pub take-requires : goal.take-requires
take-requires c = at_within _ _ _ _ c.in-Some.ensures.1

pub returns-in_ok-take-in-Some : goal.returns-in_ok-take-in-Some
returns-in_ok-take-in-Some c =
    let consumer = c.in-Some.ensures.0 in
    let here = c.in-Some.ensures.1 in
    let receiver = c.args.receiver.now in
    let facts = c.in_ok-take-in-Some.ensures in
    IfOk-weaker c.replied.result _ _ (λ happened told. takes_at receiver c.args.message.now c.args.consumers.now
    c.take.new.self c.in-Some.place consumer c.in_ok-take-in-Some.field-0 happened here
    (facts.seen receiver consumer here) (facts.ok receiver consumer here) told.0 told.1)
    (both_ok c.replied.result _ _ c.replied.ensures.lines c.replied.ensures.packets)
