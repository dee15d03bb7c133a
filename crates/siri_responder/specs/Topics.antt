-- How much a request asks for.
use Rattle.std.specs.Prelude.{ℕ, ◌+◌, length}
use Rattle.siri_messages.specs.declared.requests.ServiceRequest.{ServiceRequest}

-- how many topics a request has
abbrev pub topics_in : ServiceRequest → ℕ
topics_in r =
    length r.stop_monitoring_request
    + length r.estimated_timetable_request
    + length r.vehicle_monitoring_request
    + length r.situation_exchange_request
