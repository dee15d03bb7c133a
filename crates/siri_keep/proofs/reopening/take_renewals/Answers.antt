use Rattle.std.proofs.Common.{◌∙◌, refl, map, take, ◌+◌}
use Rattle.siri_model.specs.History.{Take}
use Rattle.siri_keep.proofs.SaidRequests.{goes_all, goes_more, goes_none, step_more}
use Rattle.siri_keep.proofs.reopening.take_renewals.Goals as goal

pub loop-renewal-init : goal.loop-renewal-init
loop-renewal-init c = record { goes = goes_none c.args.producer.now; name = refl }

pub loop-renewal-preserved : goal.loop-renewal-preserved
loop-renewal-preserved c = record {
  goes = goes_more c.args.producer.now c.loop-renewal.producer c.take.new.self
      (map Take (take c.loop-renewal.renewal-index c.args.renewals.now))
      (map Take (take (c.loop-renewal.renewal-index + 1) c.args.renewals.now))
      (Take c.renewal-item.result)
      (step_more Take c.args.renewals.now c.loop-renewal.renewal-index c.renewal-item.result c.loop-renewal-test.true
      c.renewal-item.is) c.loop-renewal.invariant.goes c.in_ok-take.ensures.ok;
  name = c.take.ensures.name ∙ c.loop-renewal.invariant.name;
}

pub returns-clause-ok : goal.returns-clause-ok
returns-clause-ok c =
    goes_all Take c.args.renewals.now c.loop-renewal.renewal-index c.args.producer.now c.loop-renewal.producer
    c.loop-renewal-test.false c.loop-renewal.invariant.goes
