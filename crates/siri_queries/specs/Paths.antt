-- The paths of queries: a row a service. They are this profile's own.
use Rattle.std.specs.Prelude.{◌≡◌, ℕ, List, [], ◌∷◌, codes, nat_eq, Option}
use Rattle.std.specs.Cmp.Lexicographic.{pointwise}
use Rattle.std.specs.List.{find}
use Rattle.siri_records.specs.declared.item.Service.{Service}
use Rattle.siri_records.specs.declared.item.Service.TheVariants as service
use Rattle.siri_queries.specs.declared.paths.TheConstants.{STOP_MONITORING, ESTIMATED_TIMETABLE, VEHICLE_MONITORING}
use Rattle.siri_queries.specs.declared.paths.TheConstants.{SITUATION_EXCHANGE}

abbrev pub path_of : Service → List ℕ
path_of service.Stop = STOP_MONITORING.now
path_of service.Timetable = ESTIMATED_TIMETABLE.now
path_of service.Vehicle = VEHICLE_MONITORING.now
path_of service.Situation = SITUATION_EXCHANGE.now

abbrev pub services : List Service
services = service.Stop ∷ service.Timetable ∷ service.Vehicle ∷ service.Situation ∷ []

-- the service that a path is of
abbrev pub service_at : List ℕ → Option Service
service_at path = find (λ s. pointwise nat_eq path (path_of s)) services

abbrev pub PathsAreSpelled : Type 0
PathsAreSpelled =
    (STOP_MONITORING.now ≡ codes "/siri-lite/stop-monitoring.json") ×
    (ESTIMATED_TIMETABLE.now ≡ codes "/siri-lite/estimated-timetable.json") ×
    (VEHICLE_MONITORING.now ≡ codes "/siri-lite/vehicle-monitoring.json") ×
    (SITUATION_EXCHANGE.now ≡ codes "/siri-lite/situation-exchange.json")
