-- The relation of trees and items: the member of each row spells the field's value under the row's rule, or is absent
-- where there is none. Members that no row names are free.
use Rattle.std.specs.Prelude.{◌≡◌, true, ◌||◌, Some}
use Rattle.serde_json.specs.Data.{Data}
use Rattle.siri_json.specs.Values.{object_in}
use Rattle.siri_records.specs.declared.call.StopCall.{StopCall}
use Rattle.siri_records.specs.declared.visit.Visit.{Visit}
use Rattle.siri_records.specs.declared.visit.VisitJourney.{VisitJourney}
use Rattle.siri_records.specs.declared.visit.VehicleLocation.{VehicleLocation}
use Rattle.siri_records.specs.declared.vehicle.Vehicle.{Vehicle}
use Rattle.siri_records.specs.declared.vehicle.VehicleJourney.{VehicleJourney}
use Rattle.siri_records.specs.declared.journey.Journey.{Journey}
use Rattle.siri_records.specs.declared.situation.Situation.{Situation}
use Rattle.siri_records.specs.declared.situation.Period.{Period}
use Rattle.siri_records.specs.declared.item.Item.{Item}
use Rattle.siri_records.specs.declared.item.Item.TheVariants as item
use Rattle.siri_records.specs.declared.item.Service.{Service}
use Rattle.siri_records.specs.declared.item.Service.TheVariants as service
use Rattle.siri_items.specs.declared.names.TheConstants.{DATA_FRAME_REF, DATED_VEHICLE_JOURNEY_REF}
use Rattle.siri_items.specs.declared.read_call.RequiredJourneyRef.{RequiredJourneyRef}
use Rattle.siri_items.specs.declared.read_situation.Affected.{Affected}
use Rattle.siri_tables.specs.Rules.{name}
use Rattle.siri_tables.specs.Spelling.{Spells, IfFound}
use Rattle.siri_tables.specs.Tables.{AllSpelled}
use Rattle.siri_items.specs.Calls.{call_table, location_table}
use Rattle.siri_items.specs.Visits.{visit_journey_table, visit_table}
use Rattle.siri_items.specs.Vehicles.{vehicle_journey_table, vehicle_table}
use Rattle.siri_items.specs.Journeys.{journey_table, has_time}
use Rattle.siri_items.specs.Situations.{period_table, affected_table, situation_table}

-- a dated journey in its data frame, or by itself
pub record SpellsFramedRef (d : Data) (r : RequiredJourneyRef) : Type 0 where
  pub data_frame_ref : Spells name DATA_FRAME_REF.now d r.data_frame_ref
  pub dated_vehicle_journey_ref : Spells name DATED_VEHICLE_JOURNEY_REF.now d (Some r.dated_vehicle_journey_ref)

abbrev pub SpellsCall : Data → StopCall → Type 0
SpellsCall = AllSpelled call_table

abbrev pub SpellsLocation : Data → VehicleLocation → Type 0
SpellsLocation = AllSpelled location_table

abbrev pub SpellsVisitJourney : Data → VisitJourney → Type 0
SpellsVisitJourney = AllSpelled visit_journey_table

abbrev pub SpellsVisit : Data → Visit → Type 0
SpellsVisit = AllSpelled visit_table

abbrev pub SpellsVehicleJourney : Data → VehicleJourney → Type 0
SpellsVehicleJourney = AllSpelled vehicle_journey_table

abbrev pub SpellsVehicle : Data → Vehicle → Type 0
SpellsVehicle = AllSpelled vehicle_table

-- a journey, of whose calls one has a time
abbrev pub SpellsJourney : Data → Journey → Type 0
SpellsJourney d j = AllSpelled journey_table d j × (has_time j.recorded_calls || has_time j.estimated_calls ≡ true)

abbrev pub SpellsPeriod : Data → Period → Type 0
SpellsPeriod = AllSpelled period_table

abbrev pub SpellsAffected : Data → Affected → Type 0
SpellsAffected = AllSpelled affected_table

abbrev pub SpellsSituation : Data → Situation → Type 0
SpellsSituation = AllSpelled situation_table

-- an item: its object, or a list for its first entry, spells it
abbrev pub SpellsItem : Service → Data → Item → Type 0
SpellsItem service.Stop d (item.Visit v) = IfFound (object_in d) (λ o. SpellsVisit o v)
SpellsItem service.Timetable d (item.Journey j) = IfFound (object_in d) (λ o. SpellsJourney o j)
SpellsItem service.Vehicle d (item.Vehicle v) = IfFound (object_in d) (λ o. SpellsVehicle o v)
SpellsItem service.Situation d (item.Situation s) = IfFound (object_in d) (λ o. SpellsSituation o s)
SpellsItem service d i = ⊥
