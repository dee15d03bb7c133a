use Rattle.std.proofs.Common.{◌∙◌, sym}
use Rattle.siri_world_model.specs.Told.{world_after}
use Rattle.siri_world.proofs.Deeds.{refused_first, refuses, step_lines, step_refused, step_stands, told_refused}
use Rattle.siri_world_model.proofs.Views.{view_is_goal}
use Rattle.siri_world.proofs.world.World.step.Goals as goal

pub returns-in-Some-clause-refused : goal.returns-in-Some-clause-refused
returns-in-Some-clause-refused c = λ es s.
    let w = world_after es in
    let e = c.args.event in
    let first = sym (c.refusal.ensures.first w s) ∙ c.in-Some.is in
    refuses w e c.in-Some.error first (told_refused w e c.in-Some.error (refused_first w e c.in-Some.error first))

pub returns-clause-lines : goal.returns-clause-lines
returns-clause-lines c = step_lines c.args.self.now c.happen.new.self c.args.event c.in_ok-happened.happened
    (λ w k. sym c.in_default.is ∙ c.refusal.ensures.first w k) c.in_ok-happened.ensures view_is_goal c.send.result
    c.send.ensures.lines c.send.ensures.room

pub returns-clause-ok : goal.returns-clause-ok
returns-clause-ok c = step_stands c.args.self.now c.happen.new.self c.args.event c.in_ok-happened.happened
    (λ w k. sym c.in_default.is ∙ c.refusal.ensures.first w k) c.in_ok-happened.ensures view_is_goal c.send.result
    c.send.new.self c.send.ensures.ok c.send.ensures.room

pub returns-clause-refused : goal.returns-clause-refused
returns-clause-refused c = step_refused c.args.self.now c.happen.new.self c.args.event c.in_ok-happened.happened
    (λ w k. sym c.in_default.is ∙ c.refusal.ensures.first w k) c.in_ok-happened.ensures view_is_goal c.send.result
    c.send.ensures.full
