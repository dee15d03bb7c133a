-- Proper items: each field has a value that its row can give, what has to be there is there, and no object that need not be
-- there is there with all its rows absent.
use Rattle.std.specs.Prelude.{◌≡◌, true, ◌||◌, None}
use Rattle.siri_records.specs.declared.journey.Journey.{Journey}
use Rattle.siri_records.specs.declared.item.Item.{Item}
use Rattle.siri_records.specs.declared.item.Item.TheVariants as items
use Rattle.siri_tables.specs.Tables.{AllProper}
use Rattle.siri_items.specs.Visits.{visit_table}
use Rattle.siri_items.specs.Vehicles.{vehicle_table}
use Rattle.siri_items.specs.Journeys.{journey_table, has_time}
use Rattle.siri_items.specs.Situations.{situation_table}

-- a journey, of whose calls one has a time
abbrev pub IsProperJourney : Journey → Type 0
IsProperJourney j = AllProper journey_table j × (has_time j.recorded_calls || has_time j.estimated_calls ≡ true)

abbrev pub IsProper : Item → Type 0
IsProper (items.Visit v) = AllProper visit_table v
IsProper (items.Journey j) = IsProperJourney j
IsProper (items.Vehicle v) = AllProper vehicle_table v
IsProper (items.Situation s) = AllProper situation_table s

-- what the written item says: a journey is written without its RecordedAtTime, which its frame carries
abbrev pub as_written : Item → Item
as_written (items.Visit v) = items.Visit v
as_written (items.Journey j) = items.Journey (record j { recorded_at_time = None })
as_written (items.Vehicle v) = items.Vehicle v
as_written (items.Situation s) = items.Situation s
