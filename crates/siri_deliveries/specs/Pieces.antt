-- The text of a functional delivery, piece by piece: what is still to come at each stage.
use Rattle.std.specs.Prelude.{◌≡◌, ℕ, ◌+◌, List, [], ◌∷◌, ◌++◌, length, filter, filter_map, not, is_some, true, Option, Some, None}
use Rattle.std.specs.Prelude.{option_map, MatchOption}
use Rattle.std.specs.Map.{keys_of}
use Rattle.std.specs.Borrow.{Bor}
use Rattle.std.specs.declared.rc.Rc.{Rc}
use Rattle.std.specs.declared.alloc.Global.{Global}
use Rattle.json.specs.Print.{print_from}
use Rattle.json.specs.Token.{Token}
use Rattle.serde_json.specs.Data.{Data}
use Rattle.serde_json.specs.Written.{compact_text}
use Rattle.siri_records.specs.declared.item.Item.{Item}
use Rattle.siri_records.specs.declared.item.Service.{Service}
use Rattle.siri_records.specs.declared.item.Service.TheVariants as service
use Rattle.siri_records.specs.declared.key.Key.{Key}
use Rattle.siri_records.specs.Keyed.{KeyChange}
use Rattle.siri_messages.specs.declared.deliveries.FunctionalDelivery.{FunctionalDelivery}
use Rattle.siri_tables.specs.Appended.{entries_tokens}
use Rattle.siri_tables.specs.Tables.{all_written}
use Rattle.siri_tables.specs.Writing.{row_object}
use Rattle.siri_deliveries.specs.Deliveries.{stop_delivery_table, timetable_delivery_table, vehicle_delivery_table}
use Rattle.siri_deliveries.specs.Deliveries.{situation_delivery_table}
use Rattle.siri_deliveries.specs.Removals.{written_removal}
use Rattle.siri_deliveries.specs.Layout.{front, middle, back, items_begin, items_end, removals_begin, removals_end}
use Rattle.siri_deliveries.specs.Layout.{entry_writing, listed}
use Rattle.siri_deliveries.specs.declared.pieces.DeliveryHead.{DeliveryHead}
use Rattle.siri_deliveries.specs.declared.pieces.ItemStage.{ItemStage}
use Rattle.siri_deliveries.specs.declared.pieces.ItemStage.TheVariants as item_stage
use Rattle.siri_deliveries.specs.declared.pieces.Stage.{Stage}
use Rattle.siri_deliveries.specs.declared.pieces.Stage.TheVariants as stage
use Rattle.siri_deliveries.specs.declared.pieces.Listed.{Listed}
use Rattle.siri_deliveries.specs.declared.pieces.Listed.TheVariants as list
use Rattle.siri_deliveries.specs.declared.pieces.ChangePieces.{ChangePieces}

-- ---- the text of a functional delivery

-- its tree, by the table of its service
abbrev pub delivery_tree : Service → FunctionalDelivery → Data
delivery_tree service.Stop d = row_object (all_written stop_delivery_table d)
delivery_tree service.Timetable d = row_object (all_written timetable_delivery_table d)
delivery_tree service.Vehicle d = row_object (all_written vehicle_delivery_table d)
delivery_tree service.Situation d = row_object (all_written situation_delivery_table d)

-- its canonical text: compact, the members in byte order of their names
unfoldable pub delivery_text : Service → FunctionalDelivery → List ℕ
delivery_text s d = compact_text (delivery_tree s d)

-- where there is a subscriber, the delivery is a part of a round
abbrev pub in_a_part : DeliveryHead → ℕ → Option ℕ
in_a_part head number = option_map (λ subscriber. number) head.subscriber

-- the functional delivery of a head with these items and removals
abbrev pub delivery_of_head : DeliveryHead → List Item → List Key → FunctionalDelivery
delivery_of_head head items removals = record {
  response_timestamp = Some head.moment;
  subscriber_ref = head.subscriber;
  subscription_ref = head.subscription;
  status = true;
  error_condition = None;
  start = in_a_part head head.start;
  round = in_a_part head head.round;
  part = in_a_part head head.part;
  items = items;
  removals = removals;
}

-- ---- items that an iterator lends

-- what stands before and behind a list of items, where nothing is removed
abbrev pub before_items : Service → DeliveryHead → List Token
before_items service.Stop head = front service.Stop head
before_items service.Timetable head = front service.Timetable head
before_items service.Vehicle head = front service.Vehicle head
before_items service.Situation head = front service.Situation head ++ middle service.Situation head

abbrev pub after_items : Service → DeliveryHead → List Token
after_items service.Stop head = middle service.Stop head ++ back service.Stop head
after_items service.Timetable head = middle service.Timetable head ++ back service.Timetable head
after_items service.Vehicle head = middle service.Vehicle head ++ back service.Vehicle head
after_items service.Situation head = back service.Situation head

-- the text that is still to come, where these items are still to come
unfoldable pub item_text_left : Service → DeliveryHead → ItemStage → List Item → List ℕ
item_text_left s head item_stage.Begin items = delivery_text s (delivery_of_head head items [])
item_text_left s head item_stage.Later items =
    print_from true (entries_tokens (filter_map (entry_writing s) items) ++ (items_end s ++ after_items s head))
item_text_left s head item_stage.Ended items = []
item_text_left s head item_stage.Lost items = []

-- a shared item that is lent
abbrev pub LentItem : Type 0
LentItem = Bor (Rc Item Global)

module _ {S : Type 0} (gives : S → Option LentItem → S → Type 0) where
  -- a piece of what the iterator gave, whichever items it gives afterwards: the text of the item with what stands
  -- before it, or what stands behind the last item
  abbrev pub SaysOf : Service → DeliveryHead → ItemStage → Option LentItem → Option (List ℕ) → ItemStage → Type 0
  SaysOf s head now None piece next =
      (next ≡ item_stage.Ended) × (piece ≡ Some (item_text_left s head now []))
  SaysOf s head now (Some item) piece next =
      (next ≡ item_stage.Later) × MatchOption piece ⊥ (λ text.
      (items : List Item)
      → item_text_left s head now (item.now.value ∷ items) ≡ text ++ item_text_left s head item_stage.Later items)

  pub record GivesPiece (s : Service) (head : DeliveryHead) (now : ItemStage) (old : S) (piece : Option (List ℕ))
      (next : ItemStage) (new : S) : Type 0 where
    pub given : Option LentItem
    pub gave : gives old given new
    pub says : SaysOf s head now given piece next

  -- one piece, or none at the end; after want of memory never again
  abbrev pub StepsTo : Service → DeliveryHead → ItemStage → S → Option (List ℕ) → ItemStage → S → Type 0
  StepsTo s head item_stage.Begin old piece next new = GivesPiece s head item_stage.Begin old piece next new
  StepsTo s head item_stage.Later old piece next new = GivesPiece s head item_stage.Later old piece next new
  StepsTo s head item_stage.Ended old piece next new = (piece ≡ None) × (next ≡ item_stage.Ended) × (new ≡ old)
  StepsTo s head item_stage.Lost old piece next new = ⊥

-- ---- changes

-- the items of changes, and the keys that they remove
abbrev pub items_of_changes : List KeyChange → List Item
items_of_changes changes = filter_map (λ change. change.1) changes

abbrev pub removals_of_changes : List KeyChange → List Key
removals_of_changes changes = keys_of (filter (λ change. not (is_some change.1)) changes)

-- the list that stands first in the delivery of a service, and the other
abbrev pub first_list : Service → Listed
first_list service.Stop = list.Items
first_list service.Timetable = list.Items
first_list service.Vehicle = list.Items
first_list service.Situation = list.Removals

abbrev pub second_list : Service → Listed
second_list service.Stop = list.Removals
second_list service.Timetable = list.Removals
second_list service.Vehicle = list.Removals
second_list service.Situation = list.Items

abbrev pub list_begin : Listed → Service → DeliveryHead → List Token
list_begin list.Items s head = items_begin s
list_begin list.Removals s head = removals_begin s head

abbrev pub list_end : Listed → Service → DeliveryHead → List Token
list_end list.Items s head = items_end s
list_end list.Removals s head = removals_end s head

-- what a list has of a change
abbrev pub change_writing : Listed → Service → KeyChange → Option Data
change_writing list.Items s (key, None) = None
change_writing list.Items s (key, Some item) = entry_writing s item
change_writing list.Removals s (key, None) = written_removal key
change_writing list.Removals s (key, Some item) = None

abbrev pub entries_of_changes : Listed → Service → List KeyChange → List Data
entries_of_changes l s changes = filter_map (change_writing l s) changes

-- the entries, where this one leads them
abbrev pub Leads : Option Data → List Data → List Data → Type 0
Leads None later all = ⊥
Leads (Some entry) later all = all ≡ entry ∷ later

-- the second list of all changes, and what stands behind it
abbrev pub second_part : Service → DeliveryHead → List KeyChange → List Token
second_part s head changes =
    listed (list_begin (second_list s) s head) (list_end (second_list s) s head)
    (entries_of_changes (second_list s) s changes) ++ back s head

abbrev pub tokens_left : Service → DeliveryHead → List KeyChange → List KeyChange → Stage → List Token
tokens_left s head changes left stage.Begin = []
tokens_left s head changes left stage.First =
    entries_tokens (entries_of_changes (first_list s) s left)
    ++ (list_end (first_list s) s head ++ (middle s head ++ second_part s head changes))
tokens_left s head changes left stage.Second =
    entries_tokens (entries_of_changes (second_list s) s left) ++ (list_end (second_list s) s head ++ back s head)
tokens_left s head changes left stage.Ended = []
tokens_left s head changes left stage.Lost = []

abbrev pub text_at : Service → DeliveryHead → List KeyChange → List KeyChange → Stage → List ℕ
text_at s head changes left stage.Begin = delivery_text s
    (delivery_of_head head (items_of_changes changes) (removals_of_changes changes))
text_at s head changes left stage.First = print_from true (tokens_left s head changes left stage.First)
text_at s head changes left stage.Second = print_from true (tokens_left s head changes left stage.Second)
text_at s head changes left stage.Ended = []
text_at s head changes left stage.Lost = []

-- the text that is still to come
unfoldable pub text_left : ChangePieces → List ℕ
text_left p = text_at p.service p.head.now p.changes.now p.left.now p.stage

-- how many entries of the two lists are still to come
abbrev pub entries_at : Service → List KeyChange → List KeyChange → Stage → ℕ
entries_at s changes left stage.Begin =
    length (entries_of_changes (first_list s) s changes) + length (entries_of_changes (second_list s) s changes)
entries_at s changes left stage.First =
    length (entries_of_changes (first_list s) s left) + length (entries_of_changes (second_list s) s changes)
entries_at s changes left stage.Second = length (entries_of_changes (second_list s) s left)
entries_at s changes left stage.Ended = 0
entries_at s changes left stage.Lost = 0

unfoldable pub entries_left : ChangePieces → ℕ
entries_left p = entries_at p.service p.changes.now p.left.now p.stage
