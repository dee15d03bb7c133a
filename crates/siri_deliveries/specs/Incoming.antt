-- The deliveries of an object, read as they come.
use Rattle.std.specs.Prelude.{◌≡◌, ℕ, List, [], ◌∷◌, Some, Result}
use Rattle.json.specs.Token.{Token}
use Rattle.json.specs.Json.{Members, object, value}
use Rattle.serde_json.specs.Data.{Data}
use Rattle.siri_json.specs.Values.{object_in}
use Rattle.siri_records.specs.declared.item.Item.{Item}
use Rattle.siri_tables.specs.Refusals.{Refusal, ◌>>=◌}
use Rattle.siri_tables.specs.Rules.{table, list, or_empty, unless_wrong}
use Rattle.siri_deliveries.specs.AsItComes.{entries, AreOthers, IsOwn}
use Rattle.siri_deliveries.specs.Deliveries.{stop_monitoring_delivery, estimated_timetable_delivery, vehicle_monitoring_delivery, situation_exchange_delivery, situation_item}
use Rattle.siri_deliveries.specs.Limits.{most_entries}
use Rattle.siri_deliveries.specs.declared.incoming_deliveries.Deliveries.{Deliveries}
use Rattle.siri_deliveries.specs.declared.names.TheConstants.{STOP_MONITORING_DELIVERY, ESTIMATED_TIMETABLE_DELIVERY}
use Rattle.siri_deliveries.specs.declared.names.TheConstants.{VEHICLE_MONITORING_DELIVERY, SITUATION_EXCHANGE_DELIVERY, PT_SITUATION_ELEMENT}

-- what the value of Situations is read as
abbrev pub situations_in : Data → Result (List Item) Refusal
situations_in d = unless_wrong (object_in d) >>= or_empty (list (table situation_item) most_entries PT_SITUATION_ELEMENT.now)

-- the names of the four services' deliveries
abbrev pub of_services : List (List ℕ)
of_services =
    STOP_MONITORING_DELIVERY.now ∷ ESTIMATED_TIMETABLE_DELIVERY.now ∷ VEHICLE_MONITORING_DELIVERY.now ∷
    SITUATION_EXCHANGE_DELIVERY.now ∷ []

-- none of any service
abbrev pub no_deliveries : Deliveries
no_deliveries = record { stop_monitoring = []; estimated_timetable = []; vehicle_monitoring = []; situation_exchange = [] }

-- what the members of these names are read as
pub record AreDeliveries (ms : Members) (d : Deliveries) : Type 0 where
  pub stop : IsOwn (entries stop_monitoring_delivery 100) STOP_MONITORING_DELIVERY.now ms d.stop_monitoring
  pub timetable : IsOwn (entries estimated_timetable_delivery 100) ESTIMATED_TIMETABLE_DELIVERY.now ms d.estimated_timetable
  pub vehicle : IsOwn (entries vehicle_monitoring_delivery 100) VEHICLE_MONITORING_DELIVERY.now ms d.vehicle_monitoring
  pub situation : IsOwn (entries situation_exchange_delivery 100) SITUATION_EXCHANGE_DELIVERY.now ms d.situation_exchange

-- an object stood next: its deliveries are these, and all else is in the tree
abbrev pub DeliveriesCome : ℕ → List Token → List Token → Data → Deliveries → Type 0
DeliveriesCome depth before after others d =
    (ms : Members) × (value depth before ≡ Some (object ms, after)) × AreOthers of_services ms others × AreDeliveries ms d
