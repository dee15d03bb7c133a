-- Calls and journeys of which nothing is said (EN 15531-3): what a call or a journey is made from where few of its members are told.
use Rattle.std.specs.Prelude.{ℕ, List, None}
use Rattle.siri_records.specs.declared.call.StopCall.{StopCall}
use Rattle.siri_records.specs.declared.vehicle.VehicleJourney.{VehicleJourney}
use Rattle.siri_records.specs.declared.visit.VisitJourney.{VisitJourney}

-- a call
abbrev pub blank_call : StopCall
blank_call = record {
  stop_point_ref = None;
  order = None;
  stop_point_name = None;
  vehicle_at_stop = None;
  aimed_arrival_time = None;
  expected_arrival_time = None;
  actual_arrival_time = None;
  arrival_status = None;
  arrival_platform_name = None;
  aimed_departure_time = None;
  expected_departure_time = None;
  actual_departure_time = None;
  departure_status = None;
  departure_platform_name = None;
}

-- a journey, but for its call at the monitored stop
abbrev pub blank_visit_journey : StopCall → VisitJourney
blank_visit_journey call = record {
  line_ref = None;
  direction_ref = None;
  data_frame_ref = None;
  dated_vehicle_journey_ref = None;
  published_line_name = None;
  operator_ref = None;
  destination_ref = None;
  destination_name = None;
  vehicle_ref = None;
  monitored = None;
  occupancy = None;
  delay = None;
  vehicle_location = None;
  monitored_call = call;
}

-- a journey, but for its vehicle
abbrev pub blank_vehicle_journey : List ℕ → VehicleJourney
blank_vehicle_journey vehicle = record {
  line_ref = None;
  direction_ref = None;
  data_frame_ref = None;
  dated_vehicle_journey_ref = None;
  published_line_name = None;
  operator_ref = None;
  destination_ref = None;
  destination_name = None;
  vehicle_ref = vehicle;
  monitored = None;
  occupancy = None;
  delay = None;
  vehicle_location = None;
  monitored_call = None;
}
