use Rattle.std.proofs.Common.{◌≡◌, ◌++◌}
use Rattle.siri_world_model.specs.Packets.{packets_out}
use Rattle.siri_world.specs.Kept.{sent_packets}
use Rattle.siri_world.proofs.producing.push_outs.Given as goal

abbrev pub invariant-loop-out : goal.invariant-loop-out
invariant-loop-out l = sent_packets l.packets ≡ sent_packets l.fn.packets ++ packets_out l.yielded
