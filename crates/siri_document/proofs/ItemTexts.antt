-- What is written of an item in its line.
use Rattle.std.proofs.Common.{◌≡◌, [], ◌∷◌, ◌++◌, refl, sym, ap, ◌∙◌}
use Rattle.std.specs.Prelude.{option_and_then}
use Rattle.json.specs.Token.{key, begin_object, end_object}
use Rattle.json.specs.Print.{print}
use Rattle.serde_json.specs.Data.{object}
use Rattle.serde_json.proofs.Texts.{print-outline}
use Rattle.siri_json.specs.Tokens.{tokens_of}
use Rattle.siri_records.specs.declared.visit.Visit.{Visit}
use Rattle.siri_records.specs.declared.vehicle.Vehicle.{Vehicle}
use Rattle.siri_records.specs.declared.journey.Journey.{Journey}
use Rattle.siri_records.specs.declared.situation.Situation.{Situation}
use Rattle.siri_records.specs.declared.item.Item.{Item}
use Rattle.siri_records.specs.declared.item.Item.TheVariants as item
use Rattle.siri_tables.specs.Writing.{Row, written_moment}
use Rattle.siri_tables.proofs.Sorted.{with_rows_sorted}
use Rattle.siri_items.specs.Situations.{written_situation}
use Rattle.siri_items.specs.Vehicles.{written_vehicle}
use Rattle.siri_items.specs.Visits.{written_visit}
use Rattle.siri_items.specs.Journeys.{rows_of_journey, written_journey, written_timed_journey}
use Rattle.siri_items.specs.declared.names.TheConstants.{RECORDED_AT_TIME}
use Rattle.siri_document.specs.script.Items.{item_members, item_name, item_object, item_text}

time_row : Journey → Row
time_row j = (RECORDED_AT_TIME.now, option_and_then written_moment j.recorded_at_time)

pub members_of_journey : (j : Journey) → written_timed_journey j.recorded_at_time j ≡ item_members (item.Journey j)
unfolding written_timed_journey written_journey time_row
members_of_journey j = ap object (with_rows_sorted (time_row j ∷ rows_of_journey j) ∙ sym (with_rows_sorted (rows_of_journey j ++ time_row j ∷ [])))

pub members_of_visit : (v : Visit) → item_members (item.Visit v) ≡ written_visit v
unfolding written_visit
members_of_visit v = refl

pub members_of_vehicle : (v : Vehicle) → item_members (item.Vehicle v) ≡ written_vehicle v
unfolding written_vehicle
members_of_vehicle v = refl

pub members_of_situation : (s : Situation) → item_members (item.Situation s) ≡ written_situation s
unfolding written_situation
members_of_situation s = refl

pub item_said : (i : Item) → print (((([] ++ begin_object ∷ []) ++ key (item_name i) ∷ []) ++ tokens_of (item_members i)) ++ end_object ∷ []) ≡ item_text i
unfolding item_text item_object
item_said i = print-outline (item_object i)
