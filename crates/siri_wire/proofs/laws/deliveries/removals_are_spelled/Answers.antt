use Rattle.siri_wire.proofs.ReadIffSpellsParts.{visit_cancellation_spelled, visit_cancellation_read, removed_journey_spelled}
use Rattle.siri_wire.proofs.ReadIffSpellsParts.{removed_journey_read, vehicle_cancellation_spelled, vehicle_cancellation_read}
use Rattle.siri_wire.proofs.ReadIffSpellsParts.{removed_situation_spelled, removed_situation_read}
use Rattle.siri_wire.proofs.laws.deliveries.removals_are_spelled.Goals as goal

pub returns-clause-of_visit : goal.returns-clause-of_visit
returns-clause-of_visit c = λ d k. (visit_cancellation_spelled d k, visit_cancellation_read d k)

pub returns-clause-of_journey : goal.returns-clause-of_journey
returns-clause-of_journey c = λ d k. (removed_journey_spelled d k, removed_journey_read d k)

pub returns-clause-of_vehicle : goal.returns-clause-of_vehicle
returns-clause-of_vehicle c = λ d k. (vehicle_cancellation_spelled d k, vehicle_cancellation_read d k)

pub returns-clause-of_situation : goal.returns-clause-of_situation
returns-clause-of_situation c = λ d k. (removed_situation_spelled d k, removed_situation_read d k)
