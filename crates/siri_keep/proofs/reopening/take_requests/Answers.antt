use Rattle.std.proofs.Common.{◌∙◌, refl, map, take, ◌+◌}
use Rattle.siri_model.specs.History.{Take}
use Rattle.siri_keep.specs.declared.opening.KeptRequest.{KeptRequest}
use Rattle.siri_keep.proofs.SaidRequests.{goes_all, goes_more, goes_none, step_more}
use Rattle.siri_keep.proofs.reopening.take_requests.Goals as goal

pub loop-kept-init : goal.loop-kept-init
loop-kept-init c = record { goes = goes_none c.args.producer.now; name = refl }

pub loop-kept-preserved : goal.loop-kept-preserved
loop-kept-preserved c = record {
  goes = goes_more c.args.producer.now c.loop-kept.producer c.take.new.self
      (map (λ (r : KeptRequest). Take r.request) (take c.loop-kept.kept-index c.args.requests.now))
      (map (λ (r : KeptRequest). Take r.request) (take (c.loop-kept.kept-index + 1) c.args.requests.now))
      (Take c.kept-item.result.request)
      (step_more (λ (r : KeptRequest). Take r.request) c.args.requests.now c.loop-kept.kept-index c.kept-item.result c.loop-kept-test.true
      c.kept-item.is) c.loop-kept.invariant.goes c.in_ok-take.ensures.ok;
  name = c.take.ensures.name ∙ c.loop-kept.invariant.name;
}

pub returns-clause-ok : goal.returns-clause-ok
returns-clause-ok c =
    goes_all (λ (r : KeptRequest). Take r.request) c.args.requests.now c.loop-kept.kept-index c.args.producer.now c.loop-kept.producer
    c.loop-kept-test.false c.loop-kept.invariant.goes
