use Rattle.std.proofs.Common.{◌≡◌, ◌+◌, ◌≤◌, ◌++◌, suc, length}
use Rattle.std.specs.Vec.Iter.{into_iter_items}
use Rattle.siri_world_model.specs.Lines.{told_lines}
use Rattle.siri_world_model.specs.Packets.{packet_lines}
use Rattle.siri_world.specs.Kept.{sent_packets}
use Rattle.siri_world.proofs.packets.Packets.send.Given as goal
use Rattle.siri_world_model.specs.Told.{most_packets}

-- what is left goes where all of them do, and there is room for it
abbrev pub invariant-loop-packet : goal.invariant-loop-packet
invariant-loop-packet l = record {
  can_next : (goal.iterator-loop-packet).can_next l.packet-iterator;
  is_finite : (goal.iterator-loop-packet).is_finite l.packet-iterator;
  packets : l.self ++ sent_packets (into_iter_items l.packet-iterator) ≡ l.fn.self ++ sent_packets l.fn.packets;
  lines : told_lines l.lines ++ packet_lines (suc (length l.self))
      (sent_packets (into_iter_items l.packet-iterator)) ≡ told_lines l.fn.lines
      ++ packet_lines (suc (length l.fn.self)) (sent_packets l.fn.packets);
  room : length l.self + length (into_iter_items l.packet-iterator) ≤ most_packets;
}
