-- The tables of vehicle activities: a line a row.
use Rattle.std.specs.Prelude.{[], ◌∷◌, Some, Result}
use Rattle.serde_json.specs.Data.{Data}
use Rattle.siri_records.specs.declared.vehicle.Vehicle.{Vehicle}
use Rattle.siri_records.specs.declared.vehicle.VehicleJourney.{VehicleJourney}
use Rattle.siri_items.specs.declared.names.TheConstants.{LINE_REF, DIRECTION_REF, VEHICLE_REF, VEHICLE_LOCATION, MONITORED_CALL}
use Rattle.siri_items.specs.declared.names.TheConstants.{RECORDED_AT_TIME, ITEM_IDENTIFIER, VALID_UNTIL_TIME, MONITORED_VEHICLE_JOURNEY}
use Rattle.siri_tables.specs.Refusals.{Refusal}
use Rattle.siri_tables.specs.Rules.{table}
use Rattle.siri_tables.specs.Writing.{row_object}
use Rattle.siri_tables.specs.Tables.{Kind, optional, mandatory, a_name, a_moment, Table, Maker, read_all, AllProper, all_written, together}
use Rattle.siri_items.specs.Calls.{an_optional_call, a_location, optional_ref}
use Rattle.siri_items.specs.Parts.{service_info_table, make_service_info, service_info, progress_table, make_progress, progress}

-- MonitoredVehicleJourney: the journey of a vehicle, which names the vehicle (EN 15531-3)
abbrev pub vehicle_journey_table : Table VehicleJourney
vehicle_journey_table =
    optional a_name LINE_REF.now (λ j. j.line_ref) ∷
    optional a_name DIRECTION_REF.now (λ j. j.direction_ref) ∷
    optional_ref (λ j. record { data_frame_ref = j.data_frame_ref; dated_vehicle_journey_ref = j.dated_vehicle_journey_ref }) ∷
    together service_info_table service_info (λ j. make_service_info j.published_line_name j.operator_ref j.destination_ref j.destination_name) ∷
    mandatory a_name VEHICLE_REF.now (λ j. j.vehicle_ref) ∷
    together progress_table progress (λ j. make_progress j.monitored j.occupancy j.delay) ∷
    optional a_location VEHICLE_LOCATION.now (λ j. j.vehicle_location) ∷
    optional an_optional_call MONITORED_CALL.now (λ j. j.monitored_call) ∷ []

abbrev pub make_vehicle_journey : Maker vehicle_journey_table
make_vehicle_journey =
    λ line_ref direction_ref journey_ref service_info vehicle_ref progress vehicle_location monitored_call.
    record {
      line_ref = line_ref;
      direction_ref = direction_ref;
      data_frame_ref = journey_ref.data_frame_ref;
      dated_vehicle_journey_ref = journey_ref.dated_vehicle_journey_ref;
      published_line_name = service_info.published_line_name;
      operator_ref = service_info.operator_ref;
      destination_ref = service_info.destination_ref;
      destination_name = service_info.destination_name;
      vehicle_ref = vehicle_ref;
      monitored = progress.monitored;
      occupancy = progress.occupancy;
      delay = progress.delay;
      vehicle_location = vehicle_location;
      monitored_call = monitored_call;
    }

unfoldable pub vehicle_journey : Data → Result VehicleJourney Refusal
vehicle_journey d = read_all vehicle_journey_table make_vehicle_journey d

unfoldable pub written_vehicle_journey : VehicleJourney → Data
written_vehicle_journey j = row_object (all_written vehicle_journey_table j)

abbrev pub a_vehicle_journey : Kind VehicleJourney
a_vehicle_journey = record { rule = table vehicle_journey; writing = λ j. Some (written_vehicle_journey j); Is = AllProper vehicle_journey_table }

-- VehicleActivity: what a vehicle does (EN 15531-3)
abbrev pub vehicle_table : Table Vehicle
vehicle_table =
    optional a_moment RECORDED_AT_TIME.now (λ v. v.recorded_at_time) ∷
    optional a_name ITEM_IDENTIFIER.now (λ v. v.item_identifier) ∷
    optional a_moment VALID_UNTIL_TIME.now (λ v. v.valid_until_time) ∷
    mandatory a_vehicle_journey MONITORED_VEHICLE_JOURNEY.now (λ v. v.monitored_vehicle_journey) ∷ []

abbrev pub make_vehicle : Maker vehicle_table
make_vehicle =
    λ recorded_at_time item_identifier valid_until_time monitored_vehicle_journey.
    record {
      recorded_at_time = recorded_at_time;
      item_identifier = item_identifier;
      valid_until_time = valid_until_time;
      monitored_vehicle_journey = monitored_vehicle_journey;
    }

unfoldable pub vehicle : Data → Result Vehicle Refusal
vehicle d = read_all vehicle_table make_vehicle d

unfoldable pub written_vehicle : Vehicle → Data
written_vehicle v = row_object (all_written vehicle_table v)

abbrev pub a_vehicle : Kind Vehicle
a_vehicle = record { rule = table vehicle; writing = λ v. Some (written_vehicle v); Is = AllProper vehicle_table }
