-- The tables of cancellations and of removed journeys and situations: each names the key of an item.
use Rattle.std.specs.Prelude.{List, [], ◌∷◌, Option, Some, IfSome, option_and_then, Result, Ok}
use Rattle.serde_json.specs.Data.{Data}
use Rattle.siri_records.specs.declared.item.Service.{Service}
use Rattle.siri_records.specs.declared.item.Service.TheVariants as service
use Rattle.siri_records.specs.declared.key.Key.{Key}
use Rattle.siri_records.specs.declared.key.Key.TheVariants as key
use Rattle.siri_tables.specs.Refusals.{Refusal, ◌>>=◌}
use Rattle.siri_tables.specs.Rules.{name, table, row, required_row}
use Rattle.siri_tables.specs.Proper.{IsName}
use Rattle.siri_tables.specs.Writing.{Row, row_object, written_text}
use Rattle.siri_tables.specs.Tables.{Kind}
use Rattle.siri_items.specs.declared.names.TheConstants.{MONITORING_REF, LINE_REF, DIRECTION_REF, DATA_FRAME_REF}
use Rattle.siri_items.specs.declared.names.TheConstants.{DATED_VEHICLE_JOURNEY_REF}
use Rattle.siri_items.specs.declared.names.TheConstants.{PARTICIPANT_REF, SITUATION_NUMBER}
use Rattle.siri_deliveries.specs.declared.names.TheConstants.{ITEM_REF}

-- MonitoredStopVisitCancellation: a visit that is no more (EN 15531-3)
unfoldable pub visit_cancellation : Data → Result Key Refusal
visit_cancellation d = do
  item ← required_row name ITEM_REF.now d
  monitoring ← required_row name MONITORING_REF.now d
  Ok (key.Visit monitoring item)

-- VehicleActivityCancellation: a vehicle's activity that is no more (EN 15531-3)
unfoldable pub vehicle_cancellation : Data → Result Key Refusal
vehicle_cancellation d = do
  vehicle ← required_row name ITEM_REF.now d
  Ok (key.Vehicle vehicle)

-- Removed of a timetable: a journey that is shown no more (this profile's own)
unfoldable pub removed_journey : Data → Result Key Refusal
removed_journey d = do
  line ← required_row name LINE_REF.now d
  direction ← row name DIRECTION_REF.now d
  frame ← row name DATA_FRAME_REF.now d
  journey ← required_row name DATED_VEHICLE_JOURNEY_REF.now d
  Ok (key.Journey line direction frame journey)

-- Removed of situations: a situation that is shown no more (this profile's own)
unfoldable pub removed_situation : Data → Result Key Refusal
removed_situation d = do
  participant ← row name PARTICIPANT_REF.now d
  number ← required_row name SITUATION_NUMBER.now d
  Ok (key.Situation participant number)

-- the key of an item that a service tells of
abbrev pub IsProperRemoval : Service → Key → Type 0
IsProperRemoval service.Stop (key.Visit monitoring visit) = IsName monitoring × IsName visit
IsProperRemoval service.Timetable (key.Journey line direction frame journey) = IsName line × IfSome direction IsName
    × IfSome frame IsName × IsName journey
IsProperRemoval service.Vehicle (key.Vehicle vehicle) = IsName vehicle
IsProperRemoval service.Situation (key.Situation participant number) = IfSome participant IsName × IsName number
IsProperRemoval s k = ⊥

-- what is written of it
abbrev pub rows_of_removal : Key → List Row
rows_of_removal (key.Visit monitoring visit) =
    (ITEM_REF.now, written_text visit) ∷
    (MONITORING_REF.now, written_text monitoring) ∷ []
rows_of_removal (key.Journey line direction frame journey) =
    (LINE_REF.now, written_text line) ∷
    (DIRECTION_REF.now, option_and_then written_text direction) ∷
    (DATA_FRAME_REF.now, option_and_then written_text frame) ∷
    (DATED_VEHICLE_JOURNEY_REF.now, written_text journey) ∷ []
rows_of_removal (key.Vehicle vehicle) =
    (ITEM_REF.now, written_text vehicle) ∷ []
rows_of_removal (key.Situation participant number) =
    (PARTICIPANT_REF.now, option_and_then written_text participant) ∷
    (SITUATION_NUMBER.now, written_text number) ∷ []

unfoldable pub written_removal : Key → Option Data
written_removal k = Some (row_object (rows_of_removal k))

abbrev pub a_removal : (Data → Result Key Refusal) → Service → Kind Key
a_removal removed s = record { rule = table removed; writing = written_removal; Is = IsProperRemoval s }
