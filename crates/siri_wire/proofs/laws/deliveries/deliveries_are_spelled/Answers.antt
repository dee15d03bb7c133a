use Rattle.siri_tables.proofs.TableLaws.{is_spelled}
use Rattle.siri_deliveries.specs.Deliveries.{stop_monitoring_delivery, estimated_timetable_delivery, vehicle_monitoring_delivery, situation_exchange_delivery}
use Rattle.siri_wire.proofs.DeliveryTables.{stop_delivery_laws, timetable_delivery_laws, vehicle_delivery_laws, situation_delivery_laws}
use Rattle.siri_wire.proofs.ReadIffSpellsParts.{frame_read, frame_spelled}
use Rattle.siri_wire.proofs.laws.deliveries.deliveries_are_spelled.Goals as goal

pub returns-clause-of_stop : goal.returns-clause-of_stop
unfolding stop_monitoring_delivery
returns-clause-of_stop c = λ d f. is_spelled stop_delivery_laws d f

pub returns-clause-of_timetable : goal.returns-clause-of_timetable
unfolding estimated_timetable_delivery
returns-clause-of_timetable c = λ d f. is_spelled timetable_delivery_laws d f

pub returns-clause-of_vehicle : goal.returns-clause-of_vehicle
unfolding vehicle_monitoring_delivery
returns-clause-of_vehicle c = λ d f. is_spelled vehicle_delivery_laws d f

pub returns-clause-of_situation : goal.returns-clause-of_situation
unfolding situation_exchange_delivery
returns-clause-of_situation c = λ d f. is_spelled situation_delivery_laws d f

pub returns-clause-of_frame : goal.returns-clause-of_frame
returns-clause-of_frame c = λ d items. (frame_spelled d items, frame_read d items)
