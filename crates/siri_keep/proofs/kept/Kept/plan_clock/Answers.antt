use Rattle.std.proofs.Common.{◌≤◌, length, refl, arith}
use Rattle.siri_keep.specs.declared.kept.Kept.{Kept}
use Rattle.siri_keep.proofs.Making.{clock_plans, clock_plans_all}
use Rattle.siri_keep.proofs.kept.Kept.plan_clock.Goals as goal
use Rattle.siri_keep.proofs.kept.Kept.plan_clock.Goals.{then-subscriptions-before+in_ok-put_subscriptions, else-subscriptions-before}

pub returns-clause-ok : goal.returns-clause-ok
returns-clause-ok c =
    let old : Kept = c.args.self.now in
    let mid : Kept = record old { producer = c.clock.new.self } in
    let first = c.in_ok-put_moment.ensures in
    elim c.if-subscriptions-before.branch [
      | then-subscriptions-before+in_ok-put_subscriptions w ↦
          let put = w.in_ok-put_subscriptions.ensures in
          rw (w.self-is, w.puts-is, put.puts, first.puts, c.new-puts.ensures)
          (clock_plans_all old mid c.args.now refl c.clock.ensures.name c.clock.ensures.stands first.read
          w.put_subscriptions.new.self put.kept put.few)
      | else-subscriptions-before w ↦
          let more : length old.producer.table ≤ length mid.producer.table =
          omega (arith, w.if-subscriptions-before.false, c.subscriptions.ensures.number, c.subscriptions-before.ensures.number) in
          rw (w.self-is, w.puts-is, first.puts, c.new-puts.ensures)
          (clock_plans old mid c.args.now refl c.clock.ensures.name c.clock.ensures.stands first.read more)
    ]
