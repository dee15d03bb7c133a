-- The table of journeys: a line a row.
use Rattle.std.specs.Prelude.{◌≡◌, ℕ, List, [], ◌∷◌, ◌||◌, Bool, false, is_some, if◌then◌else◌, Option, option_and_then, Result, Ok}
use Rattle.std.specs.List.{list_any}
use Rattle.serde_json.specs.Data.{Data}
use Rattle.siri_base.specs.declared.reason.Reason.TheVariants.{NoMoment}
use Rattle.siri_records.specs.declared.call.StopCall.{StopCall}
use Rattle.siri_records.specs.declared.journey.Journey.{Journey}
use Rattle.siri_records.specs.Ends.{call_moment}
use Rattle.siri_items.specs.declared.names.TheConstants.{RECORDED_AT_TIME, LINE_REF, DIRECTION_REF, CANCELLATION, VEHICLE_REF}
use Rattle.siri_items.specs.declared.names.TheConstants.{RECORDED_CALLS, RECORDED_CALL, ESTIMATED_CALLS, ESTIMATED_CALL}
use Rattle.siri_tables.specs.Refusals.{Refusal, ◌>>=◌, refused}
use Rattle.siri_tables.specs.Rules.{table, list, list_inside}
use Rattle.siri_tables.specs.Proper.{IsListWithin}
use Rattle.siri_tables.specs.Writing.{Row as Written, row_object, written_moment}
use Rattle.siri_tables.specs.Tables.{Row, optional, mandatory, a_name, a_moment, a_flag, Table, Maker, read_all, all_written, together}
use Rattle.siri_items.specs.Calls.{stop_call, a_call, written_calls, mandatory_ref}
use Rattle.siri_items.specs.Parts.{service_info_table, make_service_info, service_info, progress_table, make_progress, progress}

-- at most 1,000 calls inside an object of their own
abbrev pub calls_inside : {S : Type 0} → List ℕ → List ℕ → (S → List StopCall) → Row S
calls_inside outer key of = record {
  Of = List StopCall;
  of = of;
  read = list_inside outer (list (table stop_call) 1000 key);
  Spelled = λ d cs. list_inside outer (list (table stop_call) 1000 key) d ≡ Ok cs;
  write = λ cs. (outer, written_calls key cs) ∷ [];
  Is = IsListWithin 1000 a_call.Is;
  blank = λ cs. false;
}

-- EstimatedVehicleJourney: a journey with its calls (EN 15531-3), but for its RecordedAtTime, which is written in its frame
abbrev pub untimed_table : Table Journey
untimed_table =
    mandatory a_name LINE_REF.now (λ j. j.line_ref) ∷
    optional a_name DIRECTION_REF.now (λ j. j.direction_ref) ∷
    mandatory_ref (λ j. record { data_frame_ref = j.data_frame_ref; dated_vehicle_journey_ref = j.dated_vehicle_journey_ref }) ∷
    optional a_flag CANCELLATION.now (λ j. j.cancellation) ∷
    together service_info_table service_info (λ j. make_service_info j.published_line_name j.operator_ref j.destination_ref j.destination_name) ∷
    optional a_name VEHICLE_REF.now (λ j. j.vehicle_ref) ∷
    together progress_table progress (λ j. make_progress j.monitored j.occupancy j.delay) ∷
    calls_inside RECORDED_CALLS.now RECORDED_CALL.now (λ j. j.recorded_calls) ∷
    calls_inside ESTIMATED_CALLS.now ESTIMATED_CALL.now (λ j. j.estimated_calls) ∷ []

abbrev pub journey_table : Table Journey
journey_table = optional a_moment RECORDED_AT_TIME.now (λ j. j.recorded_at_time) ∷ untimed_table

abbrev pub make_journey : Maker journey_table
make_journey =
    λ recorded_at_time line_ref direction_ref journey_ref cancellation service_info vehicle_ref progress recorded_calls estimated_calls.
    record {
      recorded_at_time = recorded_at_time;
      line_ref = line_ref;
      direction_ref = direction_ref;
      data_frame_ref = journey_ref.data_frame_ref;
      dated_vehicle_journey_ref = journey_ref.dated_vehicle_journey_ref;
      cancellation = cancellation;
      published_line_name = service_info.published_line_name;
      operator_ref = service_info.operator_ref;
      destination_ref = service_info.destination_ref;
      destination_name = service_info.destination_name;
      vehicle_ref = vehicle_ref;
      monitored = progress.monitored;
      occupancy = progress.occupancy;
      delay = progress.delay;
      recorded_calls = recorded_calls;
      estimated_calls = estimated_calls;
    }

unfoldable pub read_journey_rows : Data → Result Journey Refusal
read_journey_rows d = read_all journey_table make_journey d

-- some call has a time
abbrev pub has_time : List StopCall → Bool
has_time calls = list_any (λ call. is_some (call_moment call)) calls

abbrev pub with_time : Journey → Result Journey Refusal
with_time j = if has_time j.recorded_calls || has_time j.estimated_calls then Ok j else refused NoMoment

-- the same, of whose calls one has a time
unfoldable pub journey : Data → Result Journey Refusal
journey d = read_journey_rows d >>= with_time

abbrev pub rows_of_journey : Journey → List Written
rows_of_journey j = all_written untimed_table j

unfoldable pub written_journey : Journey → Data
written_journey j = row_object (rows_of_journey j)

-- a journey that carries a RecordedAtTime itself, where one is handed in
unfoldable pub written_timed_journey : Option ℕ → Journey → Data
written_timed_journey recorded_at_time j = row_object ((RECORDED_AT_TIME.now, option_and_then written_moment recorded_at_time) ∷ rows_of_journey j)
