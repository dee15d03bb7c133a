use Rattle.std.proofs.Common.{◌-◌, ◌∙◌, ap}
use Rattle.std.specs.Prelude.{option_map, slice_get}
use Rattle.siri_world.specs.Kept.{sent_packet}
use Rattle.siri_world.proofs.Listed.{got, packet_there}
use Rattle.siri_world.proofs.packets.Packets.at.Goals as goal

pub returns : goal.returns
returns c =
    got (λ packet. packet.now) sent_packet c.deref.result.now (c.args.number - 1) c.get.result c.get.ensures.lookup.0 c.get.ensures.lookup.1
    ∙ ap (λ l. option_map sent_packet (slice_get l (c.args.number - 1))) c.deref.ensures.value
    ∙ packet_there c.args.number c.self.inside.list.items c.args.self.now c.if-number-eq0.false c.self.view_is
