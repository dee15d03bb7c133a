-- Each piece of a functional delivery, and what is still to come behind it.
use Rattle.std.proofs.Common.{◌≡◌, ◌<◌, true, false, List, [], ◌∷◌, ◌++◌, Option, Some, None, refl, sym, ap}
use Rattle.std.proofs.Common.{◌∙◌, append_assoc, filter_map, length, subst, arith}
use Rattle.json.specs.Token.{Token, end_object}
use Rattle.json.specs.Print.{print, print_from}
use Rattle.serde_json.proofs.Texts.{print-outline}
use Rattle.serde_json.specs.Data.{Data}
use Rattle.siri_json.specs.Tokens.{tokens_of}
use Rattle.siri_records.specs.declared.item.Item.{Item}
use Rattle.siri_records.specs.declared.item.Service.{Service}
use Rattle.siri_records.specs.declared.item.Service.TheVariants as service
use Rattle.siri_records.specs.declared.key.Key.{Key}
use Rattle.siri_tables.specs.Appended.{entries_tokens, Appends}
use Rattle.siri_deliveries.specs.Layout.{front, middle, back, items_begin, items_end}
use Rattle.siri_deliveries.specs.Layout.{entry_writing}
use Rattle.siri_deliveries.specs.Pieces.{delivery_text, delivery_tree, delivery_of_head, before_items, after_items}
use Rattle.siri_deliveries.specs.Pieces.{item_text_left}
use Rattle.siri_deliveries.specs.declared.pieces.DeliveryHead.{DeliveryHead}
use Rattle.siri_deliveries.specs.declared.pieces.ItemStage.TheVariants as item_stage
use Rattle.siri_deliveries.proofs.Joined.{cut_behind, cut_later, ends_list, longer}
use Rattle.siri_deliveries.proofs.Layouts.{laid, items_listed, removals_listed, layout}

-- ---- the text of a delivery

pub text_is : (s : Service) (h : DeliveryHead) (items : List Item) (removals : List Key)
    → delivery_text s (delivery_of_head h items removals)
    ≡ print (laid s h (items_listed s items) (removals_listed s h removals))
unfolding delivery_text
text_is s h items removals =
    sym (print-outline (delivery_tree s (delivery_of_head h items removals))) ∙ ap print (layout s h items removals)

-- ---- items that an iterator lends

regroup_before : (f m xs b : List Token) → f ++ (m ++ (xs ++ b)) ≡ (f ++ m) ++ (xs ++ b)
regroup_before f m xs b = sym (append_assoc f m (xs ++ b))

laid_items : (s : Service) (h : DeliveryHead) (xs : List Token)
    → laid s h xs [] ≡ before_items s h ++ (xs ++ after_items s h)
laid_items service.Stop h xs = refl
laid_items service.Timetable h xs = refl
laid_items service.Vehicle h xs = refl
laid_items service.Situation h xs = regroup_before (front service.Situation h) (middle service.Situation h) xs
    (back service.Situation h)

-- a delivery of no items
pub no_items_said : (s : Service) (h : DeliveryHead)
    → print (([] ++ before_items s h) ++ after_items s h) ≡ item_text_left s h item_stage.Begin []
unfolding item_text_left
no_items_said s h = sym (text_is s h [] [] ∙ ap print (laid_items s h []))

regroup_first : (before begin d ds end after : List Token)
    → before ++ ((begin ++ ((d ++ ds) ++ end)) ++ after) ≡ (((before ++ begin) ++ d) ++ (ds ++ (end ++ after)))
regroup_first before begin d ds end after = simp append_assoc

-- the first item, with what stands before it
first_with : (s : Service) (h : DeliveryHead) (w : Option Data) (i : Item) → entry_writing s i ≡ w → (new : List Token)
    → Appends w (([] ++ before_items s h) ++ items_begin s) new → (items : List Item)
    → item_text_left s h item_stage.Begin (i ∷ items) ≡ print new ++ item_text_left s h item_stage.Later items
unfolding item_text_left
first_with s h None i is new appends items = absurd appends
first_with s h (Some d) i is new appends items =
    let before = before_items s h in
    let begin = items_begin s in
    let ds = filter_map (entry_writing s) items in
    let lay = text_is s h (i ∷ items) [] ∙ ap print (laid_items s h (items_listed s (i ∷ items))) in
    let rest = entries_tokens ds ++ (items_end s ++ after_items s h) in
    rw appends
    (lay ∙ rw is
    (ap print (regroup_first before begin (tokens_of d) (entries_tokens ds) (items_end s) (after_items s h))
    ∙ cut_behind false (before ++ begin) d rest))

pub first_said : (s : Service) (h : DeliveryHead) (i : Item) (new : List Token)
    → Appends (entry_writing s i) (([] ++ before_items s h) ++ items_begin s) new
    → (items : List Item)
    → item_text_left s h item_stage.Begin (i ∷ items) ≡ print new ++ item_text_left s h item_stage.Later items
first_said s h i new appends items = first_with s h (entry_writing s i) i refl new appends items

-- a further item, behind its comma
later_with : (s : Service) (h : DeliveryHead) (w : Option Data) (i : Item) → entry_writing s i ≡ w → (new : List Token)
    → Appends w [] new → (items : List Item)
    → item_text_left s h item_stage.Later (i ∷ items) ≡ (44 ∷ print new) ++ item_text_left s h item_stage.Later items
unfolding item_text_left
later_with s h None i is new appends items = absurd appends
later_with s h (Some d) i is new appends items =
    let ds = filter_map (entry_writing s) items in
    let behind = items_end s ++ after_items s h in
    rw (appends, is)
    (ap (print_from true) (append_assoc (tokens_of d) (entries_tokens ds) behind)
    ∙ cut_later d (entries_tokens ds ++ behind))

pub later_said : (s : Service) (h : DeliveryHead) (i : Item) (new : List Token) → Appends (entry_writing s i) [] new
    → (items : List Item)
    → item_text_left s h item_stage.Later (i ∷ items) ≡ (44 ∷ print new) ++ item_text_left s h item_stage.Later items
later_said s h i new appends items = later_with s h (entry_writing s i) i refl new appends items

-- what stands behind the last item
pub last_said : (s : Service) (h : DeliveryHead)
    → print (([] ++ items_end s) ++ after_items s h) ≡ item_text_left s h item_stage.Later []
unfolding item_text_left
last_said service.Stop h = sym (ends_list true (after_items service.Stop h))
last_said service.Timetable h = sym (ends_list true (after_items service.Timetable h))
last_said service.Vehicle h = sym (ends_list true (after_items service.Vehicle h))
last_said service.Situation h = sym (ends_list true ((end_object ∷ []) ++ after_items service.Situation h))

-- ---- no piece is empty

before_filled : (s : Service) (h : DeliveryHead) → 0 < length (print (before_items s h))
unfolding print_from
before_filled service.Stop h = omega arith
before_filled service.Timetable h = omega arith
before_filled service.Vehicle h = omega arith
before_filled service.Situation h = omega arith

first_filled_with : (s : Service) (h : DeliveryHead) (w : Option Data) (new : List Token)
    → Appends w (([] ++ before_items s h) ++ items_begin s) new → 0 < length (print new)
first_filled_with s h None new appends = absurd appends
first_filled_with s h (Some d) new appends =
    subst (λ (ts : List Token). 0 < length (print ts)) (sym appends)
    (longer (before_items s h ++ items_begin s) (tokens_of d)
    (longer (before_items s h) (items_begin s) (before_filled s h)))

pub first_filled : (s : Service) (h : DeliveryHead) (i : Item) (new : List Token)
    → Appends (entry_writing s i) (([] ++ before_items s h) ++ items_begin s) new
    → 0 < length (print new)
first_filled s h i new appends = first_filled_with s h (entry_writing s i) new appends

pub no_items_filled : (s : Service) (h : DeliveryHead)
    → 0 < length (print (([] ++ before_items s h) ++ after_items s h))
no_items_filled s h = longer (before_items s h) (after_items s h) (before_filled s h)

pub last_filled : (s : Service) (h : DeliveryHead) → 0 < length (print (([] ++ items_end s) ++ after_items s h))
unfolding print_from
last_filled service.Stop h = omega arith
last_filled service.Timetable h = omega arith
last_filled service.Vehicle h = omega arith
last_filled service.Situation h = omega arith
