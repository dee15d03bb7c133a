use Rattle.std.proofs.Common.{Ok, Err, ap, ◌∙◌}
use Rattle.std.proofs.lemmas.Result.{err_from_is_err_and}
use Rattle.siri_load.specs.Load.{opens, goes_on}
use Rattle.siri_load.proofs.Steps.{brings_on, gives_as}
use Rattle.siri_load.proofs.Turns.{going_first, going_next, going_stops, going_ends}
use Rattle.siri_load.proofs.player.Player.play.Goals as goal

pub loop-init : goal.loop-init
loop-init c = λ first plays. going_first c.args.count first c.open.new.self plays

pub loop-preserved : goal.loop-preserved
loop-preserved c = λ first plays.
    going_next c.args.count first c.loop.counter c.loop.self c.happen.new.self c.in_ok-happen.field-0
    (c.loop.invariant first plays) c.loop-test.true (c.in_ok-happen.ensures {u = tt})

pub returns-in_err-happen : goal.returns-in_err-happen
returns-in_err-happen c = λ progress plays.
    let p = err_from_is_err_and c.from_residual-in_err-happen.result c.from_residual-in_err-happen.ensures.1 in
    brings_on c.open.new.self c.happen.new.self c.in_ok-open.field-0 c.from_residual-in_err-happen.result
    (goes_on c.args.count) (opens progress) (c.in_ok-open.ensures {u = tt} progress plays)
    (λ first plays. gives_as c.happen.new.self c.from_residual-in_err-happen.result c.in_err-happen.field-0.0 _ (p.1 ∙ ap Err p.2)
    (going_stops c.args.count first c.loop.counter c.loop.self c.happen.new.self c.in_err-happen.field-0.0
    (c.loop.invariant first plays) c.loop-test.true (c.in_err-happen.ensures {u = tt})))

pub returns : goal.returns
returns c = λ progress plays.
    brings_on c.open.new.self c.loop.self c.in_ok-open.field-0 (Ok tt) (goes_on c.args.count) (opens progress) (c.in_ok-open.ensures {u = tt} progress plays)
    (λ first plays. going_ends c.args.count first c.loop.counter c.loop.self c.loop-test.false (c.loop.invariant first plays))
