-- The tables of visits: a line a row.
use Rattle.std.specs.Prelude.{ℕ, [], ◌∷◌, false, Option, Some, None, IsSome, Result, Ok, Err}
use Rattle.serde_json.specs.Data.{Data}
use Rattle.siri_base.specs.declared.reason.Reason.TheVariants.{NoMoment}
use Rattle.siri_json.specs.declared.path.Step.TheVariants.{Member}
use Rattle.siri_records.specs.declared.call.StopCall.{StopCall}
use Rattle.siri_records.specs.declared.visit.Visit.{Visit}
use Rattle.siri_records.specs.declared.visit.VisitJourney.{VisitJourney}
use Rattle.siri_records.specs.Ends.{call_moment}
use Rattle.siri_items.specs.declared.names.TheConstants.{LINE_REF, DIRECTION_REF, VEHICLE_REF, VEHICLE_LOCATION, MONITORED_CALL}
use Rattle.siri_items.specs.declared.names.TheConstants.{RECORDED_AT_TIME, ITEM_IDENTIFIER, MONITORING_REF, MONITORED_VEHICLE_JOURNEY}
use Rattle.siri_tables.specs.Refusals.{Refusal, ◌>>=◌}
use Rattle.siri_tables.specs.Rules.{table, required_row}
use Rattle.siri_tables.specs.Spelling.{Spells}
use Rattle.siri_tables.specs.Writing.{row_object}
use Rattle.siri_tables.specs.Tables.{Kind, Row, optional, mandatory, a_name, a_moment, Table, Maker, read_all, AllProper, all_written, together}
use Rattle.siri_items.specs.Calls.{stop_call, call_writing, a_call, a_location, optional_ref}
use Rattle.siri_items.specs.Parts.{service_info_table, make_service_info, service_info, progress_table, make_progress, progress}

-- a call that has a time
abbrev pub with_moment : StopCall → Option ℕ → Result StopCall Refusal
with_moment call None = Err (record { path = Member MONITORED_CALL.now ∷ []; reason = NoMoment })
with_moment call (Some m) = Ok call

-- the call at the monitored stop: it has to be there, and it has a time
unfoldable pub timed_call : Data → Result StopCall Refusal
timed_call d = do
  call ← required_row (table stop_call) MONITORED_CALL.now d
  with_moment call (call_moment call)

-- its row
abbrev pub mandatory_timed_call : {S : Type 0} → (S → StopCall) → Row S
mandatory_timed_call of = record {
  Of = StopCall;
  of = of;
  read = timed_call;
  Spelled = λ d c. Spells (table stop_call) MONITORED_CALL.now d (Some c) × IsSome (call_moment c);
  write = λ c. (MONITORED_CALL.now, call_writing c) ∷ [];
  Is = λ c. a_call.Is c × IsSome (call_moment c);
  blank = λ c. false;
}

-- MonitoredVehicleJourney: the journey of a visit (EN 15531-3)
abbrev pub visit_journey_table : Table VisitJourney
visit_journey_table =
    optional a_name LINE_REF.now (λ j. j.line_ref) ∷
    optional a_name DIRECTION_REF.now (λ j. j.direction_ref) ∷
    optional_ref (λ j. record { data_frame_ref = j.data_frame_ref; dated_vehicle_journey_ref = j.dated_vehicle_journey_ref }) ∷
    together service_info_table service_info (λ j. make_service_info j.published_line_name j.operator_ref j.destination_ref j.destination_name) ∷
    optional a_name VEHICLE_REF.now (λ j. j.vehicle_ref) ∷
    together progress_table progress (λ j. make_progress j.monitored j.occupancy j.delay) ∷
    optional a_location VEHICLE_LOCATION.now (λ j. j.vehicle_location) ∷
    mandatory_timed_call (λ j. j.monitored_call) ∷ []

abbrev pub make_visit_journey : Maker visit_journey_table
make_visit_journey =
    λ line_ref direction_ref journey_ref service_info vehicle_ref progress vehicle_location monitored_call.
    record {
      line_ref = line_ref;
      direction_ref = direction_ref;
      data_frame_ref = journey_ref.data_frame_ref;
      dated_vehicle_journey_ref = journey_ref.dated_vehicle_journey_ref;
      published_line_name = service_info.published_line_name;
      operator_ref = service_info.operator_ref;
      destination_ref = service_info.destination_ref;
      destination_name = service_info.destination_name;
      vehicle_ref = vehicle_ref;
      monitored = progress.monitored;
      occupancy = progress.occupancy;
      delay = progress.delay;
      vehicle_location = vehicle_location;
      monitored_call = monitored_call;
    }

unfoldable pub visit_journey : Data → Result VisitJourney Refusal
visit_journey d = read_all visit_journey_table make_visit_journey d

unfoldable pub written_visit_journey : VisitJourney → Data
written_visit_journey j = row_object (all_written visit_journey_table j)

abbrev pub a_visit_journey : Kind VisitJourney
a_visit_journey = record { rule = table visit_journey; writing = λ j. Some (written_visit_journey j); Is = AllProper visit_journey_table }

-- MonitoredStopVisit: a visit of a vehicle at a stop (EN 15531-3)
abbrev pub visit_table : Table Visit
visit_table =
    optional a_moment RECORDED_AT_TIME.now (λ v. v.recorded_at_time) ∷
    mandatory a_name ITEM_IDENTIFIER.now (λ v. v.item_identifier) ∷
    mandatory a_name MONITORING_REF.now (λ v. v.monitoring_ref) ∷
    mandatory a_visit_journey MONITORED_VEHICLE_JOURNEY.now (λ v. v.monitored_vehicle_journey) ∷ []

abbrev pub make_visit : Maker visit_table
make_visit =
    λ recorded_at_time item_identifier monitoring_ref monitored_vehicle_journey.
    record {
      recorded_at_time = recorded_at_time;
      item_identifier = item_identifier;
      monitoring_ref = monitoring_ref;
      monitored_vehicle_journey = monitored_vehicle_journey;
    }

unfoldable pub visit : Data → Result Visit Refusal
visit d = read_all visit_table make_visit d

unfoldable pub written_visit : Visit → Data
written_visit v = row_object (all_written visit_table v)

abbrev pub a_visit : Kind Visit
a_visit = record { rule = table visit; writing = λ v. Some (written_visit v); Is = AllProper visit_table }
