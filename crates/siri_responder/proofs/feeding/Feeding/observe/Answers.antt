use Rattle.std.proofs.Common.{length, ap, arith}
use Rattle.siri_store.specs.Held.{Held}
use Rattle.siri_responder.proofs.Room.{few_observed, one_more}
use Rattle.siri_responder.proofs.feeding.Feeding.observe.Goals as goal

pub returns-in-Ok-clause-room : goal.returns-in-Ok-clause-room
returns-in-Ok-clause-room c =
    let store = c.args.self.now.store in
    let item = c.into_inner-item.result.value in
    let now = ap (λ (s : Held). length s.entries) c.in-Ok.ensures.ok in
    record {
      few = omega (arith, now, few_observed store item c.held.ensures.ordered c.in-Ok.ensures.taken c.requires.room.few);
      room = omega (arith, now, one_more store item c.held.ensures.ordered, c.in_ok-reserve.ensures.ok, c.held.ensures.number, c.mark.ensures.room);
    }
