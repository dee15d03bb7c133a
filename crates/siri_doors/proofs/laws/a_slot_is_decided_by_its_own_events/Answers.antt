use Rattle.std.proofs.Common.{[]}
use Rattle.siri_doors.proofs.Slots.{by_slot}
use Rattle.siri_doors.proofs.laws.a_slot_is_decided_by_its_own_events.Goals as goal

pub returns : goal.returns
returns c whole slot events room = by_slot slot whole [] events room
