-- The rows of a functional delivery lie as its layout says.
use Rattle.std.proofs.Common.{◌≡◌, ℕ, true, List, [], ◌∷◌, ◌++◌, Option, Some, None, refl, sym, ap, ◌∙◌, append_assoc}
use Rattle.std.proofs.Common.{append-nil, drop, filter_map}
use Rattle.std.specs.Prelude.{option_map, option_and_then}
use Rattle.json.specs.Token.{Token, key, begin_object, end_object, begin_array, end_array}
use Rattle.serde_json.specs.Data.{Data, array, no_members}
use Rattle.serde_json.specs.View.{items_of}
use Rattle.siri_json.specs.Tokens.{tokens_of}
use Rattle.siri_records.specs.declared.item.Item.{Item}
use Rattle.siri_records.specs.declared.item.Service.{Service}
use Rattle.siri_records.specs.declared.item.Service.TheVariants as service
use Rattle.siri_records.specs.declared.key.Key.{Key}
use Rattle.siri_tables.specs.Appended.{row_tokens, entries_tokens}
use Rattle.siri_tables.specs.Writing.{with_rows, array_unless_empty, object_unless_empty, written_flag, written_list}
use Rattle.siri_tables.specs.Writing.{written_number, written_text}
use Rattle.siri_tables.proofs.Appended.{list_appended}
use Rattle.siri_deliveries.specs.declared.names.TheConstants.{EXTENSIONS, PART, REMOVED, ROUND, START, SITUATIONS}
use Rattle.siri_deliveries.specs.declared.names.TheConstants.{PT_SITUATION_ELEMENT}
use Rattle.siri_deliveries.specs.declared.names.TheConstants.{STATUS, SUBSCRIBER_REF, SUBSCRIPTION_REF}
use Rattle.siri_deliveries.specs.declared.names.TheConstants.{MONITORED_STOP_VISIT, MONITORED_STOP_VISIT_CANCELLATION}
use Rattle.siri_deliveries.specs.declared.names.TheConstants.{ESTIMATED_JOURNEY_VERSION_FRAME, VEHICLE_ACTIVITY}
use Rattle.siri_deliveries.specs.declared.names.TheConstants.{VEHICLE_ACTIVITY_CANCELLATION}
use Rattle.siri_deliveries.specs.declared.pieces.DeliveryHead.{DeliveryHead}
use Rattle.siri_deliveries.specs.declared.read_parts.RoundPosition.{RoundPosition}
use Rattle.siri_deliveries.specs.Deliveries.{item_writing}
use Rattle.siri_deliveries.specs.Frames.{written_frame}
use Rattle.siri_deliveries.specs.Removals.{written_removal}
use Rattle.siri_deliveries.specs.Parts.{rows_of_position, written_position, written_extensions}
use Rattle.siri_deliveries.specs.Layout.{where_subscribed, where_unasked, place_begins, place_ends, moment_row}
use Rattle.siri_deliveries.specs.Layout.{front, middle, back, items_begin, items_end}
use Rattle.siri_deliveries.specs.Layout.{removals_begin, removals_end, entry_writing, listed}
use Rattle.siri_deliveries.specs.Pieces.{delivery_tree, delivery_of_head}
use Rattle.siri_deliveries.proofs.InOrder.{stop_delivery_in_order, timetable_delivery_in_order}
use Rattle.siri_deliveries.proofs.InOrder.{vehicle_delivery_in_order, situation_delivery_in_order}

-- ---- lists

array_is : (d : Data) (ds : List Data)
    → begin_array ∷ ((tokens_of d ++ entries_tokens ds) ++ end_array ∷ []) ≡ tokens_of (array (items_of (d ∷ ds)))
array_is d ds = ap (λ ts. drop 1 ts) (list_appended [] (Some d) ds [] (key [] ∷ begin_array ∷ tokens_of d) refl)

pub list_row : (name : List ℕ) (ds : List Data)
    → row_tokens name (array_unless_empty ds) ≡ listed (key name ∷ begin_array ∷ []) (end_array ∷ []) ds
list_row name [] = refl
list_row name (d ∷ ds) = ap (λ ts. key name ∷ ts) (sym (array_is d ds))

regroup_inside : (a b : List Token) (c e : Token) → ((a ++ b) ++ c ∷ []) ++ e ∷ [] ≡ (a ++ b) ++ c ∷ e ∷ []
regroup_inside a b c e = simp append_assoc

inside_row : (ds : List Data)
    → row_tokens SITUATIONS.now
    (object_unless_empty (with_rows no_members ((PT_SITUATION_ELEMENT.now, array_unless_empty ds) ∷ [])))
    ≡ listed (items_begin service.Situation) (items_end service.Situation) ds
inside_row [] = refl
inside_row (d ∷ ds) =
    ap (λ ts. key SITUATIONS.now ∷ begin_object ∷ key PT_SITUATION_ELEMENT.now ∷ (ts ++ end_object ∷ []))
    (sym (array_is d ds))
    ∙ ap (λ ts. key SITUATIONS.now ∷ begin_object ∷ key PT_SITUATION_ELEMENT.now ∷ begin_array ∷ ts)
    (regroup_inside (tokens_of d) (entries_tokens ds) end_array end_object)

-- ---- Extensions

abbrev position : Option (List ℕ) → (start round part : ℕ) → RoundPosition
position subscriber start round part = record {
  start = option_map (λ name. start) subscriber;
  round = option_map (λ name. round) subscriber;
  part = option_map (λ name. part) subscriber;
}

abbrev begins : Option (List ℕ) → ℕ → List Token
begins subscriber part = where_subscribed subscriber
    (key EXTENSIONS.now ∷ begin_object ∷ row_tokens PART.now (written_number part))

abbrev ends : Option (List ℕ) → (start round : ℕ) → List Token
ends subscriber start round = where_subscribed subscriber
    (row_tokens ROUND.now (written_number round) ++ (row_tokens START.now (written_number start) ++ end_object ∷ []))

place_row : (subscriber : Option (List ℕ)) (start round part : ℕ)
    → row_tokens EXTENSIONS.now (written_position (position subscriber start round part)) ≡ begins subscriber part
    ++ ends subscriber start round
unfolding written_position
place_row None start round part = refl
place_row (Some name) start round part = refl

abbrev removed_object : Option (List ℕ) → (start round part : ℕ) → List Data → Option Data
removed_object subscriber start round part ks =
    object_unless_empty
    (with_rows no_members
    (rows_of_position (position subscriber start round part) ((REMOVED.now, array_unless_empty ks) ∷ [])))

regroup_removed : (a b : List Token) (c e : Token) → ((a ++ b) ++ c ∷ []) ++ e ∷ [] ≡ ((a ++ b) ++ c ∷ e ∷ []) ++ []
regroup_removed a b c e = simp (append_assoc, append-nil)

removed_row : (subscriber : Option (List ℕ)) (start round part : ℕ) (ks : List Data)
    → row_tokens EXTENSIONS.now (removed_object subscriber start round part ks)
    ≡ begins subscriber part
    ++ (listed (where_unasked subscriber (key EXTENSIONS.now ∷ begin_object ∷ []) ++ key REMOVED.now ∷ begin_array ∷ [])
    (end_array ∷ where_unasked subscriber (end_object ∷ [])) ks ++ ends subscriber start round)
removed_row None start round part [] = refl
removed_row None start round part (d ∷ ds) =
    ap (λ ts. key EXTENSIONS.now ∷ begin_object ∷ key REMOVED.now ∷ (ts ++ end_object ∷ [])) (sym (array_is d ds))
    ∙ ap (λ ts. key EXTENSIONS.now ∷ begin_object ∷ key REMOVED.now ∷ begin_array ∷ ts)
    (regroup_removed (tokens_of d) (entries_tokens ds) end_array end_object)
removed_row (Some name) start round part [] = refl
removed_row (Some name) start round part (d ∷ ds) =
    ap (λ ts. begins (Some name) part ++ key REMOVED.now ∷ (ts ++ ends (Some name) start round)) (sym (array_is d ds))

-- ---- the deliveries

abbrev pub laid : Service → DeliveryHead → (items removals : List Token) → List Token
laid service.Stop h items removals = front service.Stop h
    ++ (items ++ (middle service.Stop h ++ (removals ++ back service.Stop h)))
laid service.Timetable h items removals = front service.Timetable h
    ++ (items ++ (middle service.Timetable h ++ (removals ++ back service.Timetable h)))
laid service.Vehicle h items removals = front service.Vehicle h
    ++ (items ++ (middle service.Vehicle h ++ (removals ++ back service.Vehicle h)))
laid service.Situation h items removals = front service.Situation h
    ++ (removals ++ (middle service.Situation h ++ (items ++ back service.Situation h)))

abbrev pub items_listed : Service → List Item → List Token
items_listed s items = listed (items_begin s) (items_end s) (filter_map (entry_writing s) items)

abbrev pub removals_listed : Service → DeliveryHead → List Key → List Token
removals_listed s h removals = listed (removals_begin s h) (removals_end s h) (filter_map written_removal removals)

regroup_stop : (p q rt st su sb xs ys : List Token) (e : Token)
    → (((((((p ++ q) ++ xs) ++ ys) ++ rt) ++ st) ++ su) ++ sb) ++ e ∷ []
    ≡ (p ++ q) ++ (xs ++ (ys ++ (rt ++ ((st ++ (su ++ sb)) ++ e ∷ []))))
regroup_stop p q rt st su sb xs ys e = simp append_assoc

regroup_timetable : (p q rt st su sb xs ys : List Token) (e : Token)
    → (((((xs ++ (p ++ (ys ++ q))) ++ rt) ++ st) ++ su) ++ sb) ++ e ∷ []
    ≡ xs ++ (p ++ (ys ++ (q ++ (rt ++ ((st ++ (su ++ sb)) ++ e ∷ [])))))
regroup_timetable p q rt st su sb xs ys e = simp append_assoc

regroup_vehicle : (p q rt st su sb xs ys : List Token) (e : Token)
    → (((((((p ++ q) ++ rt) ++ st) ++ su) ++ sb) ++ xs) ++ ys) ++ e ∷ []
    ≡ (p ++ (q ++ (rt ++ (st ++ (su ++ sb))))) ++ (xs ++ (ys ++ e ∷ []))
regroup_vehicle p q rt st su sb xs ys e = simp append_assoc

regroup_situation : (p q rt st su sb xs ys : List Token) (e : Token)
    → ((((((p ++ (ys ++ q)) ++ rt) ++ xs) ++ st) ++ su) ++ sb) ++ e ∷ []
    ≡ p ++ (ys ++ ((q ++ rt) ++ (xs ++ ((st ++ (su ++ sb)) ++ e ∷ []))))
regroup_situation p q rt st su sb xs ys e = simp append_assoc

stop_rows : (p q rt st su sb ext xs ys xs' ys' : List Token) (b e : Token) → ext ≡ p ++ q → xs ≡ xs' → ys ≡ ys'
    → b ∷ ((((((ext ++ xs) ++ ys) ++ rt) ++ st) ++ su) ++ sb) ++ e ∷ []
    ≡ b ∷ ((p ++ q) ++ (xs' ++ (ys' ++ (rt ++ ((st ++ (su ++ sb)) ++ e ∷ [])))))
stop_rows p q rt st su sb ext xs ys xs' ys' b e is items removals =
    ap (λ ts. b ∷ ts)
    ((λ i. ((((((is i ++ items i) ++ removals i) ++ rt) ++ st) ++ su) ++ sb) ++ e ∷ [])
    ∙ regroup_stop p q rt st su sb xs' ys' e)

timetable_rows : (p q rt st su sb ext xs ys xs' : List Token) (b e : Token) → ext ≡ p ++ (ys ++ q) → xs ≡ xs'
    → b ∷ (((((xs ++ ext) ++ rt) ++ st) ++ su) ++ sb) ++ e ∷ []
    ≡ b ∷ (xs' ++ (p ++ (ys ++ (q ++ (rt ++ ((st ++ (su ++ sb)) ++ e ∷ []))))))
timetable_rows p q rt st su sb ext xs ys xs' b e is items =
    ap (λ ts. b ∷ ts)
    ((λ i. (((((items i ++ is i) ++ rt) ++ st) ++ su) ++ sb) ++ e ∷ [])
    ∙ regroup_timetable p q rt st su sb xs' ys e)

vehicle_rows : (p q rt st su sb ext xs ys xs' ys' : List Token) (b e : Token) → ext ≡ p ++ q → xs ≡ xs' → ys ≡ ys'
    → b ∷ ((((((ext ++ rt) ++ st) ++ su) ++ sb) ++ xs) ++ ys) ++ e ∷ []
    ≡ b ∷ ((p ++ (q ++ (rt ++ (st ++ (su ++ sb))))) ++ (xs' ++ (ys' ++ e ∷ [])))
vehicle_rows p q rt st su sb ext xs ys xs' ys' b e is items removals =
    ap (λ ts. b ∷ ts)
    ((λ i. ((((((is i ++ rt) ++ st) ++ su) ++ sb) ++ items i) ++ removals i) ++ e ∷ [])
    ∙ regroup_vehicle p q rt st su sb xs' ys' e)

situation_rows : (p q rt st su sb ext xs ys xs' : List Token) (b e : Token) → ext ≡ p ++ (ys ++ q) → xs ≡ xs'
    → b ∷ (((((ext ++ rt) ++ xs) ++ st) ++ su) ++ sb) ++ e ∷ []
    ≡ b ∷ (p ++ (ys ++ ((q ++ rt) ++ (xs' ++ ((st ++ (su ++ sb)) ++ e ∷ [])))))
situation_rows p q rt st su sb ext xs ys xs' b e is items =
    ap (λ ts. b ∷ ts)
    ((λ i. (((((is i ++ rt) ++ items i) ++ st) ++ su) ++ sb) ++ e ∷ [])
    ∙ regroup_situation p q rt st su sb xs' ys e)

abbrev flag_row : List Token
flag_row = row_tokens STATUS.now (written_flag true)

abbrev subscriber_row : DeliveryHead → List Token
subscriber_row h = row_tokens SUBSCRIBER_REF.now (option_and_then written_text h.subscriber)

abbrev subscription_row : DeliveryHead → List Token
subscription_row h = row_tokens SUBSCRIPTION_REF.now (option_and_then written_text h.subscription)

abbrev array_row : List ℕ → List Data → List Token
array_row name ds = row_tokens name (array_unless_empty ds)

abbrev extensions_row : DeliveryHead → List Key → List Token
extensions_row h removals = row_tokens EXTENSIONS.now
    (removed_object h.subscriber h.start h.round h.part (filter_map written_removal removals))

abbrev own_place : DeliveryHead → List Token
own_place h = row_tokens EXTENSIONS.now (written_position (position h.subscriber h.start h.round h.part))

abbrev situations_row : List Item → List Token
situations_row items =
    row_tokens SITUATIONS.now
    (object_unless_empty
    (with_rows no_members ((PT_SITUATION_ELEMENT.now, array_unless_empty (filter_map item_writing items)) ∷ [])))

-- the tokens of a delivery with a head, by its two lists
pub layout : (s : Service) (h : DeliveryHead) (items : List Item) (removals : List Key)
    → tokens_of (delivery_tree s (delivery_of_head h items removals))
    ≡ laid s h (items_listed s items) (removals_listed s h removals)
unfolding written_list written_extensions
layout service.Stop h items removals =
    sym (stop_delivery_in_order [] (delivery_of_head h items removals))
    ∙ stop_rows (place_begins h) (place_ends h) (moment_row h) flag_row (subscriber_row h) (subscription_row h)
    (own_place h)
    (array_row MONITORED_STOP_VISIT.now (filter_map item_writing items))
    (array_row MONITORED_STOP_VISIT_CANCELLATION.now (filter_map written_removal removals))
    (items_listed service.Stop items) (removals_listed service.Stop h removals) begin_object end_object
    (place_row h.subscriber h.start h.round h.part)
    (list_row MONITORED_STOP_VISIT.now (filter_map item_writing items))
    (list_row MONITORED_STOP_VISIT_CANCELLATION.now (filter_map written_removal removals))
layout service.Timetable h items removals =
    sym (timetable_delivery_in_order [] (delivery_of_head h items removals))
    ∙ timetable_rows (place_begins h) (place_ends h) (moment_row h) flag_row (subscriber_row h) (subscription_row h)
    (extensions_row h removals)
    (array_row ESTIMATED_JOURNEY_VERSION_FRAME.now (filter_map written_frame items))
    (removals_listed service.Timetable h removals) (items_listed service.Timetable items) begin_object end_object
    (removed_row h.subscriber h.start h.round h.part (filter_map written_removal removals))
    (list_row ESTIMATED_JOURNEY_VERSION_FRAME.now (filter_map written_frame items))
layout service.Vehicle h items removals =
    sym (vehicle_delivery_in_order [] (delivery_of_head h items removals))
    ∙ vehicle_rows (place_begins h) (place_ends h) (moment_row h) flag_row (subscriber_row h) (subscription_row h)
    (own_place h)
    (array_row VEHICLE_ACTIVITY.now (filter_map item_writing items))
    (array_row VEHICLE_ACTIVITY_CANCELLATION.now (filter_map written_removal removals))
    (items_listed service.Vehicle items) (removals_listed service.Vehicle h removals) begin_object end_object
    (place_row h.subscriber h.start h.round h.part)
    (list_row VEHICLE_ACTIVITY.now (filter_map item_writing items))
    (list_row VEHICLE_ACTIVITY_CANCELLATION.now (filter_map written_removal removals))
layout service.Situation h items removals =
    sym (situation_delivery_in_order [] (delivery_of_head h items removals))
    ∙ situation_rows (place_begins h) (place_ends h) (moment_row h) flag_row (subscriber_row h) (subscription_row h)
    (extensions_row h removals)
    (situations_row items) (removals_listed service.Situation h removals)
    (items_listed service.Situation items) begin_object end_object
    (removed_row h.subscriber h.start h.round h.part (filter_map written_removal removals))
    (inside_row (filter_map item_writing items))
