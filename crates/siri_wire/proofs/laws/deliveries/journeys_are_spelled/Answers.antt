use Rattle.siri_wire.proofs.ReadIffSpellsParts.{journeys_spelled, journeys_read, journeys_of_frames_spelled, journeys_of_frames_read}
use Rattle.siri_wire.proofs.laws.deliveries.journeys_are_spelled.Goals as goal

pub returns-clause-of_frame : goal.returns-clause-of_frame
returns-clause-of_frame c = λ d inside. (journeys_spelled d inside, journeys_read d inside)

pub returns-clause-of_frames : goal.returns-clause-of_frames
returns-clause-of_frames c = λ d items. (journeys_of_frames_spelled d items, journeys_of_frames_read d items)
