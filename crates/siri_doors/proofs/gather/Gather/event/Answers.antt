use Rattle.std.specs.Prelude.{OnErr}
use Rattle.std.proofs.Common.{sym, ◌∙◌, subst}
use Rattle.siri_doors.specs.Gathers.{IsOver, Stays, prospect}
use Rattle.siri_doors.proofs.Prospects.{event_comes, event_over, event_stays}
use Rattle.siri_doors.proofs.gather.Gather.event.Goals as goal

pub returns-in-None-clause-ok : goal.returns-in-None-clause-ok
returns-in-None-clause-ok g c =
    event_comes (g.P.Patience.whole c.args.self.now.patience) c.args.self.now.queue (g.D.Doors.tells c.args.self.now.doors) (g.D.Doors.tells c.next.new.self)
    c.next.result (sym c.take.ensures.value ∙ c.in-None.is) c.next.ensures.told

pub returns-in-None-clause-err : goal.returns-in-None-clause-err
returns-in-None-clause-err g c =
    let whole = g.P.Patience.whole c.args.self.now.patience in
    let queue = c.args.self.now.queue in
    let old = g.D.Doors.tells c.args.self.now.doors in
    let new = g.D.Doors.tells c.next.new.self in
    subst (λ u. OnErr c.next.result (Stays (prospect whole queue old) (prospect whole (record queue { unseen = u }) new)))
    (sym c.take.ensures.value ∙ c.in-None.is ∙ sym c.take.ensures.after)
    (event_stays whole queue old new c.next.result c.next.ensures.told)

pub returns-in-None-clause-none : goal.returns-in-None-clause-none
returns-in-None-clause-none g c failed =
    let whole = g.P.Patience.whole c.args.self.now.patience in
    let queue = c.args.self.now.queue in
    let old = g.D.Doors.tells c.args.self.now.doors in
    let new = g.D.Doors.tells c.next.new.self in
    subst (λ u. IsOver (prospect whole queue old) (prospect whole (record queue { unseen = u }) new))
    (sym c.take.ensures.value ∙ c.in-None.is ∙ sym c.take.ensures.after)
    (event_over whole queue old new c.next.result (sym c.take.ensures.value ∙ c.in-None.is) c.requires c.next.ensures.told failed)
