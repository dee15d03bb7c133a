use Rattle.std.proofs.Common.{◌≡◌, length, arith, ap, ◌∙◌}
use Rattle.siri_producer.specs.Holding.{subscribed_of}
use Rattle.siri_keeping.specs.Keeping.{places_to}
use Rattle.siri_keep.proofs.Placed.{no_more, places_step, puts_step, puts_whole}
use Rattle.siri_keep.proofs.plans.append_subscriptions.Goals as goal
use Rattle.siri_keep.proofs.plans.append_subscriptions.Goals.{else-loop-at-test, then-loop-at-test+in_default}

pub loop-at-preserved : goal.loop-at-preserved
loop-at-preserved c =
    let table = c.args.producer.now.table in
    record {
      puts = puts_step c.args.into.now c.loop-at.into c.append_kept.new.into table c.loop-at.at (subscribed_of c.in-Some.row)
          c.in_ok-place.place c.in-Some.ensures c.in_ok-place.ensures c.loop-at.invariant.puts c.in_ok-append_kept.ensures;
      places = places_step c.loop-at.places c.push.new.self c.loop-at.at c.in_ok-place.place c.loop-at.invariant.places
          c.in_ok-place.ensures c.in_ok-push.ensures.ok;
    }

pub returns-clause-puts : goal.returns-clause-puts
returns-clause-puts c =
    let table = c.args.producer.now.table in
    let end : c.loop-at.at ≡ length table = elim c.loop-at-test.branch [
      | else-loop-at-test w ↦ omega (arith, w.loop-at-test.false, c.loop-at.auto.at-end, c.subscriptions-at-end.ensures.number)
      | then-loop-at-test+in_default w ↦
          let past = no_more table c.loop-at.at w.in_default.ensures in
          omega (arith, past, c.loop-at.auto.at-end, c.subscriptions-at-end.ensures.number)
    ] in
    puts_whole c.args.into.now c.loop-at.into table c.loop-at.at end c.loop-at.invariant.puts

pub returns-clause-places : goal.returns-clause-places
returns-clause-places c =
    let table = c.args.producer.now.table in
    let end : c.loop-at.at ≡ length table = elim c.loop-at-test.branch [
      | else-loop-at-test w ↦ omega (arith, w.loop-at-test.false, c.loop-at.auto.at-end, c.subscriptions-at-end.ensures.number)
      | then-loop-at-test+in_default w ↦
          let past = no_more table c.loop-at.at w.in_default.ensures in
          omega (arith, past, c.loop-at.auto.at-end, c.subscriptions-at-end.ensures.number)
    ] in
    c.loop-at.invariant.places ∙ ap places_to end
