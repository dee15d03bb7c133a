-- Which deliveries belong to a round (EN 15531-2: what tells a subscription's part from a feed).
use Rattle.std.specs.Prelude.{Bool, ◌||◌, List, ◌++◌, is_some}
use Rattle.std.specs.List.{list_any}
use Rattle.siri_messages.specs.declared.deliveries.ServiceDelivery.{ServiceDelivery}
use Rattle.siri_messages.specs.declared.deliveries.FunctionalDelivery.{FunctionalDelivery}

-- the functional deliveries of all four services
abbrev pub functional_deliveries : ServiceDelivery → List FunctionalDelivery
functional_deliveries d =
    d.stop_monitoring_delivery ++ d.estimated_timetable_delivery ++ d.vehicle_monitoring_delivery ++ d.situation_exchange_delivery

-- the functional delivery belongs to a round
abbrev pub in_a_round : FunctionalDelivery → Bool
in_a_round delivery = is_some delivery.round

-- some functional delivery of the four services belongs to a round
abbrev pub has_round : ServiceDelivery → Bool
has_round d =
    list_any in_a_round d.stop_monitoring_delivery
    || (list_any in_a_round d.estimated_timetable_delivery
    || (list_any in_a_round d.vehicle_monitoring_delivery
    || list_any in_a_round d.situation_exchange_delivery))
