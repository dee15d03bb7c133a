use Rattle.siri_doors.specs.Gathers.{prospect}
use Rattle.siri_doors.proofs.Wiring.{reads_gathered}
use Rattle.siri_outside.specs.declared.errors.Failed.{Failed}
use Rattle.siri_doors.proofs.gather.GatherWire.read.Goals as goal

pub returns-in-Asked-clause-told : goal.returns-in-Asked-clause-told
returns-in-Asked-clause-told g c =
    let to_come = prospect (g.P.Patience.whole c.args.self.now.patience) c.args.self.now.queue (g.D.Doors.tells c.args.self.now.doors) in
    rw c.in-Asked.is (reads_gathered c.in-Asked.asking c.in-Asked.given c.give.new.given c.give.result c.give.new.into Failed to_come
    c.give.ensures.count c.give.ensures.bytes c.give.ensures.given)
