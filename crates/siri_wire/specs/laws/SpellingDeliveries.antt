-- The relation of trees and of the messages by which rounds are fetched and delivered: the member of each row spells the field's
-- value under the row's rule, or is absent where there is none. Members that no row names are free.
use Rattle.std.specs.Prelude.{◌≡◌, ℕ, ◌≤◌, List, length, map, Option, Some, None, IsSome, Result, Ok}
use Rattle.serde_json.specs.Data.{Data}
use Rattle.siri_records.specs.declared.item.Item.{Item}
use Rattle.siri_records.specs.declared.item.Service.{Service}
use Rattle.siri_records.specs.declared.item.Service.TheVariants as service
use Rattle.siri_records.specs.declared.journey.Journey.{Journey}
use Rattle.siri_records.specs.declared.key.Key.{Key}
use Rattle.siri_records.specs.declared.key.Key.TheVariants as key
use Rattle.siri_messages.specs.declared.deliveries.FunctionalDelivery.{FunctionalDelivery}
use Rattle.siri_messages.specs.declared.supplies.Mark.{Mark}
use Rattle.siri_items.specs.declared.names.TheConstants.{DATA_FRAME_REF, DATED_VEHICLE_JOURNEY_REF, DIRECTION_REF, LINE_REF, MONITORING_REF}
use Rattle.siri_items.specs.declared.names.TheConstants.{PARTICIPANT_REF, RECORDED_AT_TIME, SITUATION_NUMBER}
use Rattle.siri_json.specs.Values.{member_of}
use Rattle.siri_tables.specs.Refusals.{Refusal}
use Rattle.siri_tables.specs.Rules.{name, moment, number, table, list}
use Rattle.siri_tables.specs.Spelling.{Spells}
use Rattle.siri_items.specs.Journeys.{journey}
use Rattle.siri_deliveries.specs.declared.names.TheConstants.{ESTIMATED_JOURNEY_VERSION_FRAME, ESTIMATED_VEHICLE_JOURNEY, ITEM_REF, PART, REMOVED, ROUND, START}
use Rattle.siri_deliveries.specs.declared.read_parts.DeliveryExtensions.{DeliveryExtensions}
use Rattle.siri_deliveries.specs.declared.read_parts.RoundPosition.{RoundPosition}
use Rattle.siri_deliveries.specs.Deliveries.{stop_delivery_table, timetable_delivery_table, vehicle_delivery_table, situation_delivery_table}
use Rattle.siri_deliveries.specs.Frames.{journey_of_frame, journeys, frame, concat_frames}
use Rattle.siri_wire.specs.laws.SpellingValues.{SpellsEntries}
use Rattle.siri_wire.specs.Supplies.{mark_table}
use Rattle.siri_tables.specs.Tables.{AllSpelled}
use Rattle.siri_deliveries.specs.Limits.{most_entries}

-- which part of which round of a subscription is meant
abbrev pub SpellsMark : Data → Mark → Type 0
SpellsMark d m = AllSpelled mark_table d m

-- ---- where in a round a delivery stands

-- a number that has to be there where Round is, and isn't looked at where it isn't
abbrev pub SpellsBeside : Option ℕ → List ℕ → Data → Option ℕ → Type 0
SpellsBeside None key d value = value ≡ None
SpellsBeside (Some round) key d value = Spells number key d value × IsSome value

pub record SpellsRoundPosition (d : Data) (s : RoundPosition) : Type 0 where
  pub round : Spells number ROUND.now d s.round
  pub start : SpellsBeside s.round START.now d s.start
  pub part : SpellsBeside s.round PART.now d s.part

-- the same, and what is shown no more
pub record SpellsDeliveryExtensions (removed : Data → Result Key Refusal) (d : Data) (e : DeliveryExtensions) : Type 0 where
  pub round_position : SpellsRoundPosition d e.round_position
  pub removals : list (table removed) most_entries REMOVED.now d ≡ Ok e.removals

-- ---- what is shown no more

-- the key of an item that is no more, under the names that its service has for the key's parts
abbrev pub SpellsRemoval : Service → Data → Key → Type 0
SpellsRemoval service.Stop d (key.Visit monitoring visit) = Spells name ITEM_REF.now d (Some visit) × Spells name MONITORING_REF.now d (Some monitoring)
SpellsRemoval service.Timetable d (key.Journey line direction frame journey) =
    Spells name LINE_REF.now d (Some line) × Spells name DIRECTION_REF.now d direction
    × Spells name DATA_FRAME_REF.now d frame × Spells name DATED_VEHICLE_JOURNEY_REF.now d (Some journey)
SpellsRemoval service.Vehicle d (key.Vehicle vehicle) = Spells name ITEM_REF.now d (Some vehicle)
SpellsRemoval service.Situation d (key.Situation participant number) =
    Spells name PARTICIPANT_REF.now d participant × Spells name SITUATION_NUMBER.now d (Some number)
SpellsRemoval s d k = ⊥

-- ---- functional deliveries

-- visits, and visits that are no more
abbrev pub SpellsStopDelivery : Data → FunctionalDelivery → Type 0
SpellsStopDelivery d f = AllSpelled stop_delivery_table d f

-- the journeys of frames, and journeys that are shown no more
abbrev pub SpellsTimetableDelivery : Data → FunctionalDelivery → Type 0
SpellsTimetableDelivery d f = AllSpelled timetable_delivery_table d f

-- vehicle activities, and those that are no more
abbrev pub SpellsVehicleDelivery : Data → FunctionalDelivery → Type 0
SpellsVehicleDelivery d f = AllSpelled vehicle_delivery_table d f

-- situations, and situations that are shown no more
abbrev pub SpellsSituationDelivery : Data → FunctionalDelivery → Type 0
SpellsSituationDelivery d f = AllSpelled situation_delivery_table d f

-- the journeys of a frame, entry by entry
abbrev pub SpellsJourneys : Data → List Journey → Type 0
SpellsJourneys d inside = SpellsEntries (table journey) (member_of ESTIMATED_VEHICLE_JOURNEY.now d) inside

-- the journeys of all frames, frame by frame: at most 20,000 together
pub record SpellsFrames (d : Data) (items : List Item) : Type 0 where
  pub frames : List (List Item)
  pub spelled : SpellsEntries (table frame) (member_of ESTIMATED_JOURNEY_VERSION_FRAME.now d) frames
  pub are : items ≡ concat_frames frames
  pub few : length items ≤ most_entries

-- a frame: each of its journeys with its own RecordedAtTime or the frame's
pub record SpellsFrame (d : Data) (items : List Item) : Type 0 where
  pub recorded_at_time : Option ℕ
  pub spelled : Spells moment RECORDED_AT_TIME.now d recorded_at_time
  pub inside : List Journey
  pub journeys : journeys d ≡ Ok inside
  pub are : items ≡ map (journey_of_frame recorded_at_time) inside
