-- The tables of calls and of a vehicle's location, and how a journey is named: a line a row.
use Rattle.std.specs.Prelude.{◌≡◌, ℕ, List, [], ◌∷◌, Bool, false, Option, Some, None, IfSome, IsSome, option_and_then, Result, Ok, Err}
use Rattle.serde_json.specs.Data.{Data, no_members}
use Rattle.siri_base.specs.declared.reason.Reason.TheVariants.{Missing}
use Rattle.siri_json.specs.declared.path.Step.TheVariants.{Member}
use Rattle.siri_json.specs.Values.{object_in}
use Rattle.siri_records.specs.declared.call.StopCall.{StopCall}
use Rattle.siri_records.specs.declared.visit.VehicleLocation.{VehicleLocation}
use Rattle.siri_items.specs.declared.names.TheConstants.{STOP_POINT_REF, ORDER, STOP_POINT_NAME, VEHICLE_AT_STOP, AIMED_ARRIVAL_TIME}
use Rattle.siri_items.specs.declared.names.TheConstants.{EXPECTED_ARRIVAL_TIME, ACTUAL_ARRIVAL_TIME, ARRIVAL_STATUS, ARRIVAL_PLATFORM_NAME}
use Rattle.siri_items.specs.declared.names.TheConstants.{AIMED_DEPARTURE_TIME, EXPECTED_DEPARTURE_TIME, ACTUAL_DEPARTURE_TIME}
use Rattle.siri_items.specs.declared.names.TheConstants.{DEPARTURE_STATUS, DEPARTURE_PLATFORM_NAME, FRAMED_VEHICLE_JOURNEY_REF}
use Rattle.siri_items.specs.declared.names.TheConstants.{DATA_FRAME_REF, DATED_VEHICLE_JOURNEY_REF, LONGITUDE, LATITUDE}
use Rattle.siri_items.specs.declared.read_call.CallTimes.{CallTimes}
use Rattle.siri_items.specs.declared.read_call.JourneyRef.{JourneyRef}
use Rattle.siri_items.specs.declared.read_call.RequiredJourneyRef.{RequiredJourneyRef}
use Rattle.siri_tables.specs.Refusals.{Refusal, ◌>>=◌}
use Rattle.siri_tables.specs.Rules.{name, table, unless_wrong, table_unless_blank, maybe, row, required_row}
use Rattle.siri_tables.specs.Proper.{IsName}
use Rattle.siri_tables.specs.Writing.{Row as Written, row_object, with_rows, object_unless_empty, written_list, written_text}
use Rattle.siri_tables.specs.Tables.{Kind, Row, optional, a_name, a_text, a_moment, a_number, a_decimal, a_flag, Table, Maker, read_all}
use Rattle.siri_tables.specs.Tables.{AllProper, all_written, all_blank, together}

-- the groups of a call's arrival and of its departure: when, and what is shown of it (EN 15531-3)
abbrev pub times_table : List ℕ → List ℕ → List ℕ → List ℕ → List ℕ → Table CallTimes
times_table aimed expected actual status platform_name =
    optional a_moment aimed (λ t. t.aimed) ∷
    optional a_moment expected (λ t. t.expected) ∷
    optional a_moment actual (λ t. t.actual) ∷
    optional a_text status (λ t. t.status) ∷
    optional a_text platform_name (λ t. t.platform_name) ∷ []

abbrev pub arrival_table : Table CallTimes
arrival_table = times_table AIMED_ARRIVAL_TIME.now EXPECTED_ARRIVAL_TIME.now ACTUAL_ARRIVAL_TIME.now ARRIVAL_STATUS.now ARRIVAL_PLATFORM_NAME.now

abbrev pub departure_table : Table CallTimes
departure_table = times_table AIMED_DEPARTURE_TIME.now EXPECTED_DEPARTURE_TIME.now ACTUAL_DEPARTURE_TIME.now DEPARTURE_STATUS.now DEPARTURE_PLATFORM_NAME.now

abbrev pub make_times : Option ℕ → Option ℕ → Option ℕ → Option (List ℕ) → Option (List ℕ) → CallTimes
make_times aimed expected actual status platform_name =
    record { aimed = aimed; expected = expected; actual = actual; status = status; platform_name = platform_name }

unfoldable pub arrival : Data → Result CallTimes Refusal
arrival d = read_all arrival_table make_times d

unfoldable pub departure : Data → Result CallTimes Refusal
departure d = read_all departure_table make_times d

abbrev pub arrival_of : StopCall → CallTimes
arrival_of c = make_times c.aimed_arrival_time c.expected_arrival_time c.actual_arrival_time c.arrival_status c.arrival_platform_name

abbrev pub departure_of : StopCall → CallTimes
departure_of c = make_times c.aimed_departure_time c.expected_departure_time c.actual_departure_time c.departure_status c.departure_platform_name

-- StopCall: a call at a stop (EN 15531-3, MonitoredCall, RecordedCall and EstimatedCall)
abbrev pub call_table : Table StopCall
call_table =
    optional a_name STOP_POINT_REF.now (λ c. c.stop_point_ref) ∷
    optional a_number ORDER.now (λ c. c.order) ∷
    optional a_text STOP_POINT_NAME.now (λ c. c.stop_point_name) ∷
    optional a_flag VEHICLE_AT_STOP.now (λ c. c.vehicle_at_stop) ∷
    together arrival_table arrival arrival_of ∷
    together departure_table departure departure_of ∷ []

abbrev pub make_call : Maker call_table
make_call =
    λ stop_point_ref order stop_point_name vehicle_at_stop arrival departure.
    record {
      stop_point_ref = stop_point_ref;
      order = order;
      stop_point_name = stop_point_name;
      vehicle_at_stop = vehicle_at_stop;
      aimed_arrival_time = arrival.aimed;
      expected_arrival_time = arrival.expected;
      actual_arrival_time = arrival.actual;
      arrival_status = arrival.status;
      arrival_platform_name = arrival.platform_name;
      aimed_departure_time = departure.aimed;
      expected_departure_time = departure.expected;
      actual_departure_time = departure.actual;
      departure_status = departure.status;
      departure_platform_name = departure.platform_name;
    }

unfoldable pub stop_call : Data → Result StopCall Refusal
stop_call d = read_all call_table make_call d

-- all its rows are absent
unfoldable pub call_is_blank : StopCall → Bool
call_is_blank c = all_blank call_table c

unfoldable pub written_call : StopCall → Data
written_call c = row_object (all_written call_table c)

abbrev pub call_writing : StopCall → Option Data
call_writing c = Some (written_call c)

abbrev pub a_call : Kind StopCall
a_call = record { rule = table stop_call; writing = call_writing; Is = AllProper call_table }

-- a call that need not be there: it counts as absent where all its rows are
abbrev pub optional_call : Data → Result (Option StopCall) Refusal
optional_call = table_unless_blank call_is_blank stop_call

abbrev pub an_optional_call : Kind StopCall
an_optional_call = record { rule = optional_call; writing = call_writing; Is = λ c. AllProper call_table c × (call_is_blank c ≡ false) }

-- calls inside an object of their own
unfoldable pub written_calls : List ℕ → List StopCall → Option Data
written_calls key calls = object_unless_empty (with_rows no_members ((key, written_list call_writing calls) ∷ []))

-- VehicleLocation: where a vehicle is
abbrev pub location_table : Table VehicleLocation
location_table =
    optional a_decimal LONGITUDE.now (λ l. l.longitude) ∷
    optional a_decimal LATITUDE.now (λ l. l.latitude) ∷ []

abbrev pub make_location : Maker location_table
make_location = λ longitude latitude. record { longitude = longitude; latitude = latitude }

unfoldable pub location : Data → Result VehicleLocation Refusal
location d = read_all location_table make_location d

-- both its rows are absent
unfoldable pub location_is_blank : VehicleLocation → Bool
location_is_blank l = all_blank location_table l

abbrev pub rows_of_location : VehicleLocation → List Written
rows_of_location l = all_written location_table l

-- it isn't written where it would be empty
unfoldable pub written_location : VehicleLocation → Option Data
written_location l = object_unless_empty (with_rows no_members (rows_of_location l))

-- a location need not be there: it counts as absent where all its rows are
abbrev pub optional_location : Data → Result (Option VehicleLocation) Refusal
optional_location = table_unless_blank location_is_blank location

abbrev pub a_location : Kind VehicleLocation
a_location = record { rule = optional_location; writing = written_location; Is = λ l. AllProper location_table l × (location_is_blank l ≡ false) }

-- ---- how a journey is named

-- absent where both rows are; otherwise the dated journey has to be there
abbrev pub framed_ref_of : Option (List ℕ) → Option (List ℕ) → Result (Option RequiredJourneyRef) Refusal
framed_ref_of None None = Ok None
framed_ref_of (Some frame) None = Err (record { path = Member DATED_VEHICLE_JOURNEY_REF.now ∷ []; reason = Missing })
framed_ref_of frame (Some dated) = Ok (Some (record { data_frame_ref = frame; dated_vehicle_journey_ref = dated }))

unfoldable pub read_framed_ref_rows : Data → Result (Option RequiredJourneyRef) Refusal
read_framed_ref_rows d = do
  frame ← row name DATA_FRAME_REF.now d
  dated ← row name DATED_VEHICLE_JOURNEY_REF.now d
  framed_ref_of frame dated

-- FramedVehicleJourneyRef: the dated journey in its data frame
unfoldable pub framed_ref : Data → Result (Option RequiredJourneyRef) Refusal
framed_ref d = unless_wrong (object_in d) >>= maybe read_framed_ref_rows

-- where there is no framed reference, the dated journey by itself
unfoldable pub plain_journey_ref : Data → Option RequiredJourneyRef → Result JourneyRef Refusal
plain_journey_ref d (Some r) = Ok (record { data_frame_ref = r.data_frame_ref; dated_vehicle_journey_ref = Some r.dated_vehicle_journey_ref })
plain_journey_ref d None = do
  dated ← row name DATED_VEHICLE_JOURNEY_REF.now d
  Ok (record { data_frame_ref = None; dated_vehicle_journey_ref = dated })

-- the journey reference, which need not be there
unfoldable pub journey_ref : Data → Result JourneyRef Refusal
journey_ref d = row framed_ref FRAMED_VEHICLE_JOURNEY_REF.now d >>= plain_journey_ref d

unfoldable pub plain_required_journey_ref : Data → Option RequiredJourneyRef → Result RequiredJourneyRef Refusal
plain_required_journey_ref d (Some r) = Ok r
plain_required_journey_ref d None = do
  dated ← required_row name DATED_VEHICLE_JOURNEY_REF.now d
  Ok (record { data_frame_ref = None; dated_vehicle_journey_ref = dated })

-- the journey reference, which has to be there
unfoldable pub required_journey_ref : Data → Result RequiredJourneyRef Refusal
required_journey_ref d = row framed_ref FRAMED_VEHICLE_JOURNEY_REF.now d >>= plain_required_journey_ref d

-- it is written as an object where there is a data frame, otherwise as a member of its own
abbrev pub rows_of_framed_ref : List ℕ → Option Data → List Written
rows_of_framed_ref frame dated =
    (DATA_FRAME_REF.now, written_text frame) ∷
    (DATED_VEHICLE_JOURNEY_REF.now, dated) ∷ []

unfoldable pub written_framed_ref : Option (List ℕ) → Option Data → Option Data
written_framed_ref None dated = None
written_framed_ref (Some frame) dated = Some (row_object (rows_of_framed_ref frame dated))

unfoldable pub written_dated : Option (List ℕ) → Option Data → Option Data
written_dated None dated = dated
written_dated (Some frame) dated = None

abbrev pub written_journey_ref : Option (List ℕ) → Option Data → List Written
written_journey_ref frame dated = (
  FRAMED_VEHICLE_JOURNEY_REF.now,
  written_framed_ref frame dated,
) ∷ (DATED_VEHICLE_JOURNEY_REF.now, written_dated frame dated) ∷ []

-- the row of a reference that need not be there; a data frame isn't there without its dated journey
abbrev pub optional_ref : {S : Type 0} → (S → JourneyRef) → Row S
optional_ref of = record {
  Of = JourneyRef;
  of = of;
  read = journey_ref;
  Spelled = λ d r. journey_ref d ≡ Ok r;
  write = λ r. written_journey_ref r.data_frame_ref (option_and_then written_text r.dated_vehicle_journey_ref);
  Is = λ r. IfSome r.data_frame_ref IsName × IfSome r.dated_vehicle_journey_ref IsName × (IsSome r.data_frame_ref → IsSome r.dated_vehicle_journey_ref);
  blank = λ r. false;
}

-- the row of one that has to be there
abbrev pub mandatory_ref : {S : Type 0} → (S → RequiredJourneyRef) → Row S
mandatory_ref of = record {
  Of = RequiredJourneyRef;
  of = of;
  read = required_journey_ref;
  Spelled = λ d r. required_journey_ref d ≡ Ok r;
  write = λ r. written_journey_ref r.data_frame_ref (written_text r.dated_vehicle_journey_ref);
  Is = λ r. IfSome r.data_frame_ref IsName × IsName r.dated_vehicle_journey_ref;
  blank = λ r. false;
}
