-- The item of a service that a tree is read as.
use Rattle.std.specs.Prelude.{Result, Ok}
use Rattle.serde_json.specs.Data.{Data}
use Rattle.siri_records.specs.declared.item.Item.{Item}
use Rattle.siri_records.specs.declared.item.Item.TheVariants as item
use Rattle.siri_records.specs.declared.item.Service.{Service}
use Rattle.siri_records.specs.declared.item.Service.TheVariants as service
use Rattle.siri_tables.specs.Refusals.{Refusal, ◌>>=◌}
use Rattle.siri_tables.specs.Rules.{table, required_value}
use Rattle.siri_items.specs.Visits.{visit}
use Rattle.siri_items.specs.Journeys.{journey}
use Rattle.siri_items.specs.Vehicles.{vehicle}
use Rattle.siri_items.specs.Situations.{situation}

-- the item that a tree is read as, or the first refusal
abbrev pub item_of : Service → Data → Result Item Refusal
item_of service.Stop d = required_value (table visit) d >>= λ v. Ok (item.Visit v)
item_of service.Timetable d = required_value (table journey) d >>= λ j. Ok (item.Journey j)
item_of service.Vehicle d = required_value (table vehicle) d >>= λ v. Ok (item.Vehicle v)
item_of service.Situation d = required_value (table situation) d >>= λ s. Ok (item.Situation s)
