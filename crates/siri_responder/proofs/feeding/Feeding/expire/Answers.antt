use Rattle.std.proofs.Common.{length, ap, arith, ◌∙◌}
use Rattle.siri_store.specs.Held.{Held}
use Rattle.siri_responder.proofs.Leaving.{leaving_none, one_leaves, leaving_more, left_store, left_marked}
use Rattle.siri_responder.proofs.feeding.Feeding.expire.Goals as goal

pub loop-left-init : goal.loop-left-init
loop-left-init c = leaving_none c.args.self.now c.requires.ordered c.requires.room

pub loop-left-smaller : goal.loop-left-smaller
loop-left-smaller c =
    let now = ap (λ (s : Held). length s.entries) c.in-Some.ensures.rest in
    let one = one_leaves c.args.self.now c.loop-left.self c.loop-left.self c.in-Some.left c.loop-left.invariant c.in-Some.ensures.key in
    omega (arith, now, one)

pub loop-left-preserved : goal.loop-left-preserved
loop-left-preserved c =
    leaving_more c.args.self.now c.loop-left.self _ c.in-Some.left c.loop-left.invariant c.in-Some.ensures.key c.in-Some.ensures.rest
    c.mark.ensures.mark c.mark.ensures.room

pub returns-clause-store : goal.returns-clause-store
returns-clause-store c = c.in_default.ensures.rest ∙ left_store c.args.self.now c.loop-left.self c.loop-left.invariant c.in_default.ensures.key

pub returns-clause-marked : goal.returns-clause-marked
returns-clause-marked c = left_marked c.args.self.now c.loop-left.self c.loop-left.invariant c.in_default.ensures.key
