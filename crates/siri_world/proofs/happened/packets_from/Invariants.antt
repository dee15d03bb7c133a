use Rattle.std.proofs.Common.{◌≡◌}
use Rattle.siri_world_model.specs.Packets.{packets_from}
use Rattle.siri_world.specs.Kept.{sent_packets}
use Rattle.siri_world.proofs.happened.packets_from.Given as goal

abbrev pub invariant-loop-message : goal.invariant-loop-message
invariant-loop-message l = sent_packets l.packets ≡ packets_from l.sender l.yielded
