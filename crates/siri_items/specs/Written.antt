-- What is written of each item: the rows of its table. Members stand in byte order of their names.
use Rattle.serde_json.specs.Data.{Data}
use Rattle.siri_records.specs.declared.item.Item.{Item}
use Rattle.siri_records.specs.declared.item.Item.TheVariants as item
pub use Rattle.siri_items.specs.Calls.{written_call, call_writing, written_calls, rows_of_location, written_location, rows_of_framed_ref}
pub use Rattle.siri_items.specs.Calls.{written_framed_ref, written_dated}
pub use Rattle.siri_items.specs.Visits.{written_visit_journey, written_visit}
pub use Rattle.siri_items.specs.Vehicles.{written_vehicle_journey, written_vehicle}
pub use Rattle.siri_items.specs.Journeys.{rows_of_journey, written_journey, written_timed_journey}
pub use Rattle.siri_items.specs.Situations.{rows_of_period, written_period, written_names, written_network, written_networks}
pub use Rattle.siri_items.specs.Situations.{rows_of_affects, written_affects, written_situation}

abbrev pub written_item : Item → Data
written_item (item.Visit v) = written_visit v
written_item (item.Journey j) = written_journey j
written_item (item.Vehicle v) = written_vehicle v
written_item (item.Situation s) = written_situation s
