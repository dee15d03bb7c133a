use Rattle.std.proofs.Common.{◌≡◌, map, ◌++◌}
use Rattle.siri_deliveries.specs.Frames.{journey_of_frame}
use Rattle.siri_deliveries.proofs.read_frames.journeys_of_frame.Given as goal

abbrev pub invariant-loop-journey : goal.invariant-loop-journey
invariant-loop-journey l = l.items.items
    ++ map (journey_of_frame l.frame) l.journey-iterator.rest.items ≡ map (journey_of_frame l.frame) l.fn.journeys
