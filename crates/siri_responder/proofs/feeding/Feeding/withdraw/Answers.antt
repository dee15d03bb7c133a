use Rattle.std.proofs.Common.{length, ap, arith}
use Rattle.siri_store.specs.Held.{Held}
use Rattle.siri_responder.proofs.Room.{shorter}
use Rattle.siri_responder.proofs.feeding.Feeding.withdraw.Goals as goal

pub returns-clause-room : goal.returns-clause-room
returns-clause-room c =
    let fewer = shorter c.args.self.now.store c.args.key.now in
    let now = ap (λ (s : Held). length s.entries) c.withdraw.ensures.rest in
    record {
      few = omega (arith, now, fewer, c.requires.room.few);
      room = omega (arith, now, fewer, c.in_ok-reserve.ensures.ok, c.held.ensures.number, c.mark.ensures.room);
    }
