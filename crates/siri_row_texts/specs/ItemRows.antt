-- The rows of a producer's moment and of its items.
use Rattle.std.specs.Prelude.{ℕ, List, [], ◌∷◌, ◌++◌}
use Rattle.std.specs.Fmt.{decimal}
use Rattle.siri_time.specs.MomentText.{moment_text}
use Rattle.siri_records.specs.declared.item.Item.{Item}
use Rattle.siri_records.specs.declared.item.Item.TheVariants as item
use Rattle.siri_records.specs.declared.key.Key.{Key}
use Rattle.siri_records.specs.declared.key.Key.TheVariants as key
use Rattle.siri_messages.specs.Blank.{blank_functional_delivery, blank_service_delivery}
use Rattle.siri_messages.specs.declared.deliveries.FunctionalDelivery.{FunctionalDelivery}
use Rattle.siri_messages.specs.declared.deliveries.ServiceDelivery.{ServiceDelivery}
use Rattle.siri_messages.specs.declared.message.Message.TheVariants as message
use Rattle.siri_wire.specs.Canonical.{canonical}

-- `MOMENT START NAME`, with one space between them
abbrev pub moment_row : (moment start : ℕ) (name : List ℕ) → List ℕ
moment_row moment start name = moment_text moment ++ 32 ∷ decimal start ++ 32 ∷ name

-- a delivery of one service with these entries, of which nothing else is said
abbrev pub functional_of : List Item → List Key → List FunctionalDelivery
functional_of items removals = record blank_functional_delivery { items = items; removals = removals } ∷ []

-- a delivery of each service with these entries and nothing else
abbrev pub of_visits : List Item → List Key → ServiceDelivery
of_visits items removals = record blank_service_delivery { stop_monitoring_delivery = functional_of items removals }

abbrev pub of_journeys : List Item → List Key → ServiceDelivery
of_journeys items removals =
    record blank_service_delivery { estimated_timetable_delivery = functional_of items removals }

abbrev pub of_vehicles : List Item → List Key → ServiceDelivery
of_vehicles items removals = record blank_service_delivery { vehicle_monitoring_delivery = functional_of items removals }

abbrev pub of_situations : List Item → List Key → ServiceDelivery
of_situations items removals =
    record blank_service_delivery { situation_exchange_delivery = functional_of items removals }

-- the delivery whose only entry is an item (EN 15531-3, CEN/TS 15531-5)
abbrev pub item_delivery : Item → ServiceDelivery
item_delivery (item.Visit v) = of_visits (item.Visit v ∷ []) []
item_delivery (item.Journey j) = of_journeys (item.Journey j ∷ []) []
item_delivery (item.Vehicle v) = of_vehicles (item.Vehicle v ∷ []) []
item_delivery (item.Situation s) = of_situations (item.Situation s ∷ []) []

-- the delivery whose only entry is the removal of what has a key
abbrev pub removal_delivery : Key → ServiceDelivery
removal_delivery (key.Visit monitoring visit) = of_visits [] (key.Visit monitoring visit ∷ [])
removal_delivery (key.Journey line direction frame journey) =
    of_journeys [] (key.Journey line direction frame journey ∷ [])
removal_delivery (key.Vehicle vehicle) = of_vehicles [] (key.Vehicle vehicle ∷ [])
removal_delivery (key.Situation participant number) = of_situations [] (key.Situation participant number ∷ [])

abbrev pub item_text : Item → List ℕ
item_text i = canonical (message.ServiceDelivery (item_delivery i))

abbrev pub key_text : Key → List ℕ
key_text k = canonical (message.ServiceDelivery (removal_delivery k))
