-- When two items are as good as equal to a subscriber: how this profile reads ChangeBeforeUpdates (EN 15531-3).
use Rattle.std.specs.Prelude.{ℕ, ℤ, pos, ◌-ℤ◌, unsigned_abs, int_lt, List, [], ◌∷◌, map, Option, None, Bool, true, false, ◌&&◌, ◌||◌, nat_eq}
use Rattle.std.specs.Bool.{beq}
use Rattle.std.specs.Ordering.{int_eq}
use Rattle.std.specs.Option.{option_eq, option_map}
use Rattle.std.specs.Cmp.Lexicographic.{pointwise}
use Rattle.siri_records.specs.declared.call.StopCall.{StopCall}
use Rattle.siri_records.specs.declared.item.Item.{Item}
use Rattle.siri_records.specs.declared.item.Item.TheVariants as item
use Rattle.siri_records.specs.declared.journey.Journey.{Journey}
use Rattle.siri_records.specs.declared.situation.Period.{Period}
use Rattle.siri_records.specs.declared.situation.Situation.{Situation}
use Rattle.siri_records.specs.declared.vehicle.Vehicle.{Vehicle}
use Rattle.siri_records.specs.declared.vehicle.VehicleJourney.{VehicleJourney}
use Rattle.siri_records.specs.declared.visit.VehicleLocation.{VehicleLocation}
use Rattle.siri_records.specs.declared.visit.Visit.{Visit}
use Rattle.siri_records.specs.declared.visit.VisitJourney.{VisitJourney}

-- names and texts are the same where their bytes are
abbrev pub same_text : List ℕ → List ℕ → Bool
same_text = pointwise nat_eq

-- two lengths of time in milliseconds are equal, or less than the slack apart
abbrev pub is_close : ℤ → ℤ → ℤ → Bool
is_close slack a b = int_eq a b || int_lt (pos (unsigned_abs (a -ℤ b))) slack

-- the same of two moments
abbrev pub are_close_moments : ℤ → ℕ → ℕ → Bool
are_close_moments slack a b = is_close slack (pos a) (pos b)

abbrev pub same_location : VehicleLocation → VehicleLocation → Bool
same_location a b = option_eq int_eq a.longitude b.longitude && option_eq int_eq a.latitude b.latitude

abbrev pub same_period : Period → Period → Bool
same_period a b = nat_eq a.start_time b.start_time && option_eq nat_eq a.end_time b.end_time

-- ---- tests of two values

-- whether two values pass, with a slack in milliseconds
abbrev pub Test : Type 0 → Type 0
Test A = ℤ → A → A → Bool

-- equal, whatever the slack
abbrev pub equal_text : Test (List ℕ)
equal_text slack = same_text

abbrev pub equal_number : Test ℕ
equal_number slack = nat_eq

abbrev pub equal_moment : Test ℕ
equal_moment slack = nat_eq

abbrev pub equal_flag : Test Bool
equal_flag slack = beq

abbrev pub equal_location : Test VehicleLocation
equal_location slack = same_location

abbrev pub equal_period : Test Period
equal_period slack = same_period

-- both absent, or both there and passing
abbrev pub optional : {A : Type 0} → Test A → Test (Option A)
optional test slack = option_eq (test slack)

-- lists of one length, passing place by place
abbrev pub each : {A : Type 0} → Test A → Test (List A)
each test slack = pointwise (test slack)

-- ---- tables of fields

-- a row of the table of S: a field, and the test that its two values have to pass
pub record Row (S : Type 0) : Type 1 where
  pub Of : Type 0
  pub of : S → Of
  pub test : Test Of

abbrev pub Table : Type 0 → Type 1
Table S = List (Row S)

abbrev pub row : {S A : Type 0} → Test A → (S → A) → Row S
row {A = A} test of = record { Of = A; of = of; test = test }

-- two values are compared field by field, and each row has to pass
abbrev pub all_pass : {S : Type 0} → Table S → Test S
all_pass [] slack a b = true
all_pass (r ∷ t) slack a b = r.test slack (r.of a) (r.of b) && all_pass t slack a b

-- two calls at stops
abbrev pub call_table : Table StopCall
call_table =
    row (optional equal_text) (λ c. c.stop_point_ref) ∷
    row (optional equal_number) (λ c. c.order) ∷
    row (optional equal_text) (λ c. c.stop_point_name) ∷
    row (optional equal_flag) (λ c. c.vehicle_at_stop) ∷
    row (optional equal_moment) (λ c. c.aimed_arrival_time) ∷
    row (optional are_close_moments) (λ c. c.expected_arrival_time) ∷
    row (optional equal_moment) (λ c. c.actual_arrival_time) ∷
    row (optional equal_text) (λ c. c.arrival_status) ∷
    row (optional equal_text) (λ c. c.arrival_platform_name) ∷
    row (optional equal_moment) (λ c. c.aimed_departure_time) ∷
    row (optional are_close_moments) (λ c. c.expected_departure_time) ∷
    row (optional equal_moment) (λ c. c.actual_departure_time) ∷
    row (optional equal_text) (λ c. c.departure_status) ∷
    row (optional equal_text) (λ c. c.departure_platform_name) ∷
    []

unfoldable pub is_near_call : ℤ → StopCall → StopCall → Bool
is_near_call = all_pass call_table

-- the journeys of two visits
abbrev pub visit_journey_table : Table VisitJourney
visit_journey_table =
    row (optional equal_text) (λ j. j.line_ref) ∷
    row (optional equal_text) (λ j. j.direction_ref) ∷
    row (optional equal_text) (λ j. j.data_frame_ref) ∷
    row (optional equal_text) (λ j. j.dated_vehicle_journey_ref) ∷
    row (optional equal_text) (λ j. j.published_line_name) ∷
    row (optional equal_text) (λ j. j.operator_ref) ∷
    row (optional equal_text) (λ j. j.destination_ref) ∷
    row (optional equal_text) (λ j. j.destination_name) ∷
    row (optional equal_text) (λ j. j.vehicle_ref) ∷
    row (optional equal_flag) (λ j. j.monitored) ∷
    row (optional equal_text) (λ j. j.occupancy) ∷
    row (optional is_close) (λ j. j.delay) ∷
    row (optional equal_location) (λ j. j.vehicle_location) ∷
    row is_near_call (λ j. j.monitored_call) ∷
    []

unfoldable pub is_near_visit_journey : ℤ → VisitJourney → VisitJourney → Bool
is_near_visit_journey = all_pass visit_journey_table

-- two visits
abbrev pub visit_table : Table Visit
visit_table =
    row equal_text (λ v. v.item_identifier) ∷
    row equal_text (λ v. v.monitoring_ref) ∷
    row is_near_visit_journey (λ v. v.monitored_vehicle_journey) ∷
    []

unfoldable pub is_near_visit : ℤ → Visit → Visit → Bool
is_near_visit = all_pass visit_table

-- two journeys, call by call
abbrev pub journey_table : Table Journey
journey_table =
    row equal_text (λ j. j.line_ref) ∷
    row (optional equal_text) (λ j. j.direction_ref) ∷
    row (optional equal_text) (λ j. j.data_frame_ref) ∷
    row equal_text (λ j. j.dated_vehicle_journey_ref) ∷
    row (optional equal_flag) (λ j. j.cancellation) ∷
    row (optional equal_text) (λ j. j.published_line_name) ∷
    row (optional equal_text) (λ j. j.operator_ref) ∷
    row (optional equal_text) (λ j. j.destination_ref) ∷
    row (optional equal_text) (λ j. j.destination_name) ∷
    row (optional equal_text) (λ j. j.vehicle_ref) ∷
    row (optional equal_flag) (λ j. j.monitored) ∷
    row (optional equal_text) (λ j. j.occupancy) ∷
    row (optional is_close) (λ j. j.delay) ∷
    row (each is_near_call) (λ j. j.recorded_calls) ∷
    row (each is_near_call) (λ j. j.estimated_calls) ∷
    []

unfoldable pub is_near_journey : ℤ → Journey → Journey → Bool
is_near_journey = all_pass journey_table

-- the journeys of two vehicles
abbrev pub vehicle_journey_table : Table VehicleJourney
vehicle_journey_table =
    row (optional equal_text) (λ j. j.line_ref) ∷
    row (optional equal_text) (λ j. j.direction_ref) ∷
    row (optional equal_text) (λ j. j.data_frame_ref) ∷
    row (optional equal_text) (λ j. j.dated_vehicle_journey_ref) ∷
    row (optional equal_text) (λ j. j.published_line_name) ∷
    row (optional equal_text) (λ j. j.operator_ref) ∷
    row (optional equal_text) (λ j. j.destination_ref) ∷
    row (optional equal_text) (λ j. j.destination_name) ∷
    row equal_text (λ j. j.vehicle_ref) ∷
    row (optional equal_flag) (λ j. j.monitored) ∷
    row (optional equal_text) (λ j. j.occupancy) ∷
    row (optional is_close) (λ j. j.delay) ∷
    row (optional equal_location) (λ j. j.vehicle_location) ∷
    row (optional is_near_call) (λ j. j.monitored_call) ∷
    []

unfoldable pub is_near_vehicle_journey : ℤ → VehicleJourney → VehicleJourney → Bool
is_near_vehicle_journey = all_pass vehicle_journey_table

-- two vehicles
abbrev pub vehicle_table : Table Vehicle
vehicle_table =
    row (optional equal_text) (λ v. v.item_identifier) ∷
    row (optional equal_moment) (λ v. v.valid_until_time) ∷
    row is_near_vehicle_journey (λ v. v.monitored_vehicle_journey) ∷
    []

unfoldable pub is_near_vehicle : ℤ → Vehicle → Vehicle → Bool
is_near_vehicle = all_pass vehicle_table

-- two situations, which are near where they are equal
abbrev pub situation_table : Table Situation
situation_table =
    row (optional equal_moment) (λ s. s.creation_time) ∷
    row (optional equal_text) (λ s. s.participant_ref) ∷
    row equal_text (λ s. s.situation_number) ∷
    row (optional equal_text) (λ s. s.version) ∷
    row (optional equal_moment) (λ s. s.versioned_at_time) ∷
    row (optional equal_text) (λ s. s.progress) ∷
    row (each equal_period) (λ s. s.validity_period) ∷
    row (optional equal_text) (λ s. s.severity) ∷
    row (optional equal_text) (λ s. s.summary) ∷
    row (optional equal_text) (λ s. s.description) ∷
    row (each equal_text) (λ s. s.affected_operators) ∷
    row (each equal_text) (λ s. s.affected_lines) ∷
    row (each equal_text) (λ s. s.affected_stop_points) ∷
    []

unfoldable pub is_near_situation : Situation → Situation → Bool
is_near_situation = all_pass situation_table (pos 0)

-- ---- items

-- Two items are near with a slack, in milliseconds: they are equal in every field but RecordedAtTime, and but for
-- ExpectedArrivalTime, ExpectedDepartureTime and Delay, each of which may differ by less than the slack.
abbrev pub is_near : ℤ → Item → Item → Bool
is_near slack (item.Visit a) (item.Visit b) = is_near_visit slack a b
is_near slack (item.Journey a) (item.Journey b) = is_near_journey slack a b
is_near slack (item.Vehicle a) (item.Vehicle b) = is_near_vehicle slack a b
is_near slack (item.Situation a) (item.Situation b) = is_near_situation a b
is_near slack a b = false

-- what no slack touches: an item without RecordedAtTime, ExpectedArrivalTime, ExpectedDepartureTime and Delay
abbrev pub steady_call : StopCall → StopCall
steady_call c = record c { expected_arrival_time = None; expected_departure_time = None }

abbrev pub steady_visit_journey : VisitJourney → VisitJourney
steady_visit_journey j = record j { delay = None; monitored_call = steady_call j.monitored_call }

abbrev pub steady_visit : Visit → Visit
steady_visit v = record v { recorded_at_time = None; monitored_vehicle_journey = steady_visit_journey v.monitored_vehicle_journey }

abbrev pub steady_journey : Journey → Journey
steady_journey j = record j {
  recorded_at_time = None;
  delay = None;
  recorded_calls = map steady_call j.recorded_calls;
  estimated_calls = map steady_call j.estimated_calls;
}

abbrev pub steady_vehicle_journey : VehicleJourney → VehicleJourney
steady_vehicle_journey j = record j { delay = None; monitored_call = option_map steady_call j.monitored_call }

abbrev pub steady_vehicle : Vehicle → Vehicle
steady_vehicle v = record v { recorded_at_time = None; monitored_vehicle_journey = steady_vehicle_journey v.monitored_vehicle_journey }

abbrev pub steady : Item → Item
steady (item.Visit v) = item.Visit (steady_visit v)
steady (item.Journey j) = item.Journey (steady_journey j)
steady (item.Vehicle v) = item.Vehicle (steady_vehicle v)
steady (item.Situation s) = item.Situation s
