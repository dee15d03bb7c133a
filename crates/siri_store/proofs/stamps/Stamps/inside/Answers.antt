use Rattle.std.proofs.Common.{◌≡◌, rules, ◌∙◌}
use Rattle.siri_store.specs.Between.{between, since}
use Rattle.siri_store.proofs.Firsts.{inside_since, inside_to}
use Rattle.siri_store.proofs.stamps.Stamps.inside.Goals as goal

pub returns-in-Some-clause-stamps : goal.returns-in-Some-clause-stamps
returns-in-Some-clause-stamps c =
    let there : c.between.result ≡ between c.args.order c.args.window.from c.in-Some.to c.args.self.now = search rules in
    there ∙ inside_to c.args.order c.args.window c.in-Some.to c.args.self.now c.in-Some.is

pub returns-in-None-clause-stamps : goal.returns-in-None-clause-stamps
returns-in-None-clause-stamps c =
    let there : c.since.result ≡ since c.args.order c.args.window.from c.args.self.now = search rules in
    there ∙ inside_since c.args.order c.args.window c.args.self.now c.in-None.is
