-- The line of an item.
use Rattle.std.specs.Prelude.{ℕ, List, [], ◌∷◌, codes, Some, option_and_then}
use Rattle.serde_json.specs.Data.{Data, object}
use Rattle.serde_json.specs.Written.{compact_text}
use Rattle.siri_records.specs.declared.item.Item.{Item}
use Rattle.siri_records.specs.declared.item.Item.TheVariants as item
use Rattle.siri_tables.specs.Writing.{Row, row_object, with_rows, written_moment}
use Rattle.siri_items.specs.Written.{written_item}
use Rattle.siri_items.specs.declared.names.TheConstants.{RECORDED_AT_TIME}
use Rattle.siri_deliveries.specs.declared.names.TheConstants.{ESTIMATED_VEHICLE_JOURNEY, MONITORED_STOP_VISIT, PT_SITUATION_ELEMENT, VEHICLE_ACTIVITY}
use Rattle.siri_deliveries.specs.Frames.{frame_time}
use Rattle.siri_document.specs.script.Spaced.{spaced}

-- the name under which a delivery lists items of its kind (EN 15531-3; CEN/TS 15531-5)
abbrev pub item_name : Item → List ℕ
item_name (item.Visit visit) = MONITORED_STOP_VISIT.now
item_name (item.Journey journey) = ESTIMATED_VEHICLE_JOURNEY.now
item_name (item.Vehicle vehicle) = VEHICLE_ACTIVITY.now
item_name (item.Situation situation) = PT_SITUATION_ELEMENT.now

-- the members of an object, and then these rows
abbrev pub with_more : Data → List Row → Data
with_more (object members) rows = object (with_rows members rows)
with_more other rows = other

-- its members, and the RecordedAtTime of a journey, for which there is no frame here
abbrev pub item_members : Item → Data
item_members item = with_more (written_item item) ((RECORDED_AT_TIME.now, option_and_then written_moment (frame_time item)) ∷ [])

-- `{NAME:ITEM}`, with members in byte order of their names
unfoldable pub item_object : Item → Data
item_object item = row_object ((item_name item, Some (item_members item)) ∷ [])

unfoldable pub item_text : Item → List ℕ
item_text item = compact_text (item_object item)

-- `item {NAME:ITEM}`
abbrev pub item_line : Item → List ℕ
item_line item = spaced (codes "item") (item_text item)
