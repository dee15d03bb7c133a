-- What an item is known by.
use Rattle.siri_records.specs.declared.item.Item.{Item}
use Rattle.siri_records.specs.declared.item.Item.TheVariants as item
use Rattle.siri_records.specs.declared.key.Key.{Key}
use Rattle.siri_records.specs.declared.key.Key.TheVariants as key

-- the key of an item, made of elements that EN 15531-3 and CEN/TS 15531-5 have: of a visit MonitoringRef and
-- ItemIdentifier, of a journey LineRef, DirectionRef, DataFrameRef and DatedVehicleJourneyRef, of a vehicle VehicleRef, of
-- a situation ParticipantRef and SituationNumber
abbrev pub key_of : Item → Key
key_of (item.Visit v) = key.Visit v.monitoring_ref v.item_identifier
key_of (item.Journey j) = key.Journey j.line_ref j.direction_ref j.data_frame_ref j.dated_vehicle_journey_ref
key_of (item.Vehicle v) = key.Vehicle v.monitored_vehicle_journey.vehicle_ref
key_of (item.Situation s) = key.Situation s.participant_ref s.situation_number
