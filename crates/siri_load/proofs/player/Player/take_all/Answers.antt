use Rattle.std.proofs.Common.{◌≡◌, Err, length, ap, ◌∙◌, arith}
use Rattle.std.proofs.lemmas.Result.{err_from_is_err_and}
use Rattle.siri_load.specs.Playing.{Playing, takes}
use Rattle.siri_load.proofs.Steps.{gives_as}
use Rattle.siri_load.proofs.Turns.{taking_first, taking_next, taking_stops, taking_ends}
use Rattle.siri_load.proofs.player.Player.take_all.Goals as goal

pub loop-self-init : goal.loop-self-init
loop-self-init c = λ first plays. taking_first (takes c.args.network) first c.args.self.now plays

pub loop-self-preserved : goal.loop-self-preserved
loop-self-preserved c = λ first plays.
    let looked : c.self.inside.looked ≡ c.loop-self.self.looked = ap (λ (v : Playing). v.looked) c.self.view_is in
    let packets : length c.self.inside.world.packets ≡ length c.loop-self.self.world.packets = ap (λ (v : Playing). length v.world.packets) c.self.view_is in
    taking_next (takes c.args.network) first c.loop-self.self c.take.new.self c.in_ok-take.field-0
    (c.loop-self.invariant first plays) (omega (arith, looked)) (omega (arith, looked, packets))
    (c.in_ok-take.ensures {u = tt}).looked (c.in_ok-take.ensures {u = tt}).done

pub returns-in_err-take : goal.returns-in_err-take
returns-in_err-take c = λ first plays.
    let looked : c.self.inside.looked ≡ c.loop-self.self.looked = ap (λ (v : Playing). v.looked) c.self.view_is in
    let packets : length c.self.inside.world.packets ≡ length c.loop-self.self.world.packets = ap (λ (v : Playing). length v.world.packets) c.self.view_is in
    let p = err_from_is_err_and c.from_residual.result c.from_residual.ensures.1 in
    gives_as c.take.new.self c.from_residual.result c.in_err-take.field-0.0 _ (p.1 ∙ ap Err p.2)
    (taking_stops (takes c.args.network) first c.loop-self.self c.take.new.self c.in_err-take.field-0.0
    (c.loop-self.invariant first plays) (omega (arith, looked)) (omega (arith, looked, packets))
    (c.in_err-take.ensures {u = tt}).done)

pub returns : goal.returns
returns c = λ first plays.
    let looked : c.self.inside.looked ≡ c.loop-self.self.looked = ap (λ (v : Playing). v.looked) c.self.view_is in
    let packets : length c.self.inside.world.packets ≡ length c.loop-self.self.world.packets = ap (λ (v : Playing). length v.world.packets) c.self.view_is in
    taking_ends (takes c.args.network) first c.loop-self.self (c.loop-self.invariant first plays) (omega (arith, looked, packets))
