-- The table of EstimatedJourneyVersionFrame (EN 15531-3): the journeys of all frames as one list.
use Rattle.std.specs.Prelude.{ℕ, List, [], ◌∷◌, length, map, flat_map, nat_le, if◌then◌else◌, Option, Some, None}
use Rattle.std.specs.Prelude.{option_and_then, Result, Ok}
use Rattle.serde_json.specs.Data.{Data}
use Rattle.siri_base.specs.declared.reason.Reason.TheVariants.{TooMany}
use Rattle.siri_json.specs.Values.{member_of}
use Rattle.siri_json.specs.declared.path.Step.TheVariants.{Member}
use Rattle.siri_records.specs.declared.item.Item.{Item}
use Rattle.siri_records.specs.declared.item.Item.TheVariants as item
use Rattle.siri_records.specs.declared.journey.Journey.{Journey}
use Rattle.siri_tables.specs.Refusals.{Refusal, ◌>>=◌, refused, below}
use Rattle.siri_tables.specs.Rules.{moment, table, row, list_of, or_empty}
use Rattle.siri_tables.specs.Writing.{Row, row_object, array_unless_empty, written_moment}
use Rattle.siri_items.specs.Written.{written_item}
use Rattle.siri_items.specs.Journeys.{journey}
use Rattle.siri_items.specs.declared.names.TheConstants.{RECORDED_AT_TIME}
use Rattle.siri_deliveries.specs.declared.names.TheConstants.{ESTIMATED_VEHICLE_JOURNEY}
use Rattle.siri_deliveries.specs.declared.names.TheConstants.{ESTIMATED_JOURNEY_VERSION_FRAME}
use Rattle.siri_deliveries.specs.Limits.{most_entries}

-- a journey's own RecordedAtTime, or its frame's where that is absent
abbrev pub own_or : Option ℕ → Option ℕ → Option ℕ
own_or (Some own) frame = Some own
own_or None frame = frame

-- a journey of a frame
abbrev pub journey_of_frame : Option ℕ → Journey → Item
journey_of_frame frame j = item.Journey (record j { recorded_at_time = own_or j.recorded_at_time frame })

-- the journeys of a frame, as many as there are
unfoldable pub journeys : Data → Result (List Journey) Refusal
journeys d = below (Member ESTIMATED_VEHICLE_JOURNEY.now)
    (or_empty (list_of (table journey)) (member_of ESTIMATED_VEHICLE_JOURNEY.now d))

-- EstimatedJourneyVersionFrame: its journeys, each with its own RecordedAtTime or the frame's
unfoldable pub frame : Data → Result (List Item) Refusal
frame d = do
  recorded_at_time ← row moment RECORDED_AT_TIME.now d
  journeys ← journeys d
  Ok (map (journey_of_frame recorded_at_time) journeys)

-- the journeys of all frames
abbrev pub concat_frames : List (List Item) → List Item
concat_frames frames = flat_map (λ items. items) frames

-- there may be 20,000 of them in all
abbrev pub few_in_all : List Item → Result (List Item) Refusal
few_in_all items = if nat_le (length items) most_entries then Ok items else refused TooMany

-- the bound is tested after the entries
unfoldable pub frames_of : Data → Result (List Item) Refusal
frames_of d = list_of (table frame) d >>= λ frames. few_in_all (concat_frames frames)

unfoldable pub journeys_of_frames : Data → Result (List Item) Refusal
journeys_of_frames d = below (Member ESTIMATED_JOURNEY_VERSION_FRAME.now)
    (or_empty frames_of (member_of ESTIMATED_JOURNEY_VERSION_FRAME.now d))

-- ---- what is written of it

-- the RecordedAtTime of a journey's frame
abbrev pub frame_time : Item → Option ℕ
frame_time (item.Journey j) = j.recorded_at_time
frame_time other = None

-- EstimatedJourneyVersionFrame: each journey in one of its own, whose RecordedAtTime is the journey's
abbrev pub rows_of_frame : Item → List Row
rows_of_frame i =
    (RECORDED_AT_TIME.now, option_and_then written_moment (frame_time i)) ∷
    (ESTIMATED_VEHICLE_JOURNEY.now, array_unless_empty (written_item i ∷ [])) ∷ []

unfoldable pub written_frame : Item → Option Data
written_frame i = Some (row_object (rows_of_frame i))
