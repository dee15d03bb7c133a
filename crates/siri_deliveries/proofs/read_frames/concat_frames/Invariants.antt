use Rattle.std.proofs.Common.{◌≡◌, ◌++◌}
use Rattle.siri_deliveries.specs.Frames.{concat_frames}
use Rattle.siri_deliveries.proofs.read_frames.concat_frames.Given as goal

abbrev pub invariant-loop-frame : goal.invariant-loop-frame
invariant-loop-frame l = l.items.items ++ concat_frames l.frame-iterator.rest.items ≡ concat_frames l.fn.frames
