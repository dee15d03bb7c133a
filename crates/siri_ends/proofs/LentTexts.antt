-- The texts of what is lent: piece after piece they are the documents of the messages.
use Rattle.std.proofs.Common.{◌≡◌, ◌<◌, ℕ, zero, suc, List, [], ◌∷◌, ◌++◌, Bool, true, false, cond, map, length}
use Rattle.std.proofs.Common.{Option, None, Some, Result, Ok, Err, slice_get, refl, sym, ap, ◌∙◌, subst, append-nil}
use Rattle.std.proofs.Common.{arith}
use Rattle.std.specs.Prelude.{IfOk, MatchOption, flat_map, nat_lt, option_map, unwrap_or, option_and_then}
use Rattle.std.specs.List.{list_all}
use Rattle.std.proofs.lemmas.Bool.{and_parts, ltb-true}
use Rattle.std.proofs.lemmas.Option.{slice_get-map}
use Rattle.std.specs.declared.alloc.Global.{Global}
use Rattle.std.specs.declared.vec.Vec.{Vec}
use Rattle.siri_records.specs.declared.item.Item.{Item}
use Rattle.siri_records.specs.declared.item.Service.{Service}
use Rattle.siri_records.specs.declared.item.Service.TheVariants as service
use Rattle.siri_records.specs.Keyed.{Items, KeyChange}
use Rattle.siri_topic.specs.declared.topics.Topic.{Topic}
use Rattle.siri_topic.specs.declared.topics.Topic.TheVariants as topic
use Rattle.siri_topic.specs.declared.subscription.Subscription.{Subscription}
use Rattle.siri_base.specs.declared.errors.OutOfMemory.{OutOfMemory}
use Rattle.siri_messages.specs.declared.message.Message.TheVariants as message
use Rattle.siri_messages.specs.declared.deliveries.FunctionalDelivery.{FunctionalDelivery}
use Rattle.siri_messages.specs.declared.deliveries.ServiceDelivery.{ServiceDelivery}
use Rattle.siri_messages.specs.declared.requests.ServiceRequest.{ServiceRequest}
use Rattle.siri_store.specs.Walk.{Steps, steps, to_lend}
use Rattle.siri_store.specs.declared.selected.Selected.{Selected}
use Rattle.siri_model.specs.Direct.{answer, response}
use Rattle.siri_change.specs.Parts.{Carried, carried}
use Rattle.siri_subs.specs.rounds.Wanted.{WantedPart, part_sent}
use Rattle.siri_subscriptions.specs.replies.Parts.{in_estimated_timetable, in_situation_exchange, in_stop_monitoring}
use Rattle.siri_subscriptions.specs.replies.Parts.{in_vehicle_monitoring, part_delivery, part_functional}
use Rattle.siri_producer.specs.Lent.{has_all, if_it_has_all, is_lent, topics_of, without_items}
use Rattle.siri_producer.specs.Lent.{without_own_items}
use Rattle.siri_producer.specs.declared.lending.LentPart.{LentPart}
use Rattle.siri_producer.proofs.Lends.{all_lent, answer_lent}
use Rattle.siri_wire.specs.Canonical.{canonical}
use Rattle.siri_deliveries.specs.Pieces.{LentItem, SaysOf, StepsTo, delivery_of_head, delivery_text, item_text_left}
use Rattle.siri_deliveries.specs.Pieces.{items_of_changes, removals_of_changes}
use Rattle.siri_deliveries.specs.Frame.{deliveries_of, filled, filled_text, is_of, without_entries, without_own_entries}
use Rattle.siri_deliveries.proofs.Framed.{of_bare_head}
use Rattle.siri_deliveries.specs.declared.pieces.DeliveryHead.{DeliveryHead}
use Rattle.siri_deliveries.specs.declared.pieces.ItemPieces.{ItemPieces}
use Rattle.siri_deliveries.specs.declared.pieces.ItemStage.{ItemStage}
use Rattle.siri_deliveries.specs.declared.pieces.ItemStage.TheVariants as item_stage
use Rattle.siri_deliveries.specs.declared.frame.FramePiece.{FramePiece}
use Rattle.siri_deliveries.specs.declared.frame.FramePiece.TheVariants as piece
use Rattle.siri_ends.specs.Pieces.{FramesPart, direct_piece, direct_text, items_left, part_head, part_piece, part_text}

-- ---- a delivery whose items are lent

ended : (s : Service) (head : DeliveryHead) (next : ItemStage) (items : List Item) → next ≡ item_stage.Ended
    → item_text_left s head next items ≡ []
unfolding item_text_left
ended s head next items is = ap (λ n. item_text_left s head n items) is

-- what is left after a piece
abbrev pub Leaves : Service → DeliveryHead → ItemStage → Selected → Option (List ℕ) → ItemStage → Selected → Type 0
Leaves s head now old piece next new = MatchOption piece (item_text_left s head now (to_lend old) ≡ [])
    (λ text. item_text_left s head now (to_lend old) ≡ text ++ item_text_left s head next (to_lend new))

gives_leaves : (s : Service) (head : DeliveryHead) (now : ItemStage) (old : Selected) (piece : Option (List ℕ))
    (next : ItemStage) (new : Selected)
    (given : Option LentItem) → Steps old given new → SaysOf steps s head now given piece next
    → Leaves s head now old piece next new
gives_leaves s head now old None next new None gave says = let no = says.1 in absurd (cc no)
gives_leaves s head now old (Some text) next new None gave says =
    let is = says.1 in
    let same : text ≡ item_text_left s head now [] = cc is in
    ap (item_text_left s head now) gave.lent.0
    ∙ sym same
    ∙ sym (append-nil text)
    ∙ ap (λ l. text ++ l) (sym (ended s head next (to_lend new) says.0))
gives_leaves s head now old None next new (Some item) gave says = absurd says.1
gives_leaves s head now old (Some text) next new (Some item) gave says =
    ap (item_text_left s head now) gave.lent
    ∙ says.1 (to_lend new)
    ∙ ap (λ n. text ++ item_text_left s head n (to_lend new)) (sym says.0)

at_the_end : (s : Service) (head : DeliveryHead) (old new : Selected) (piece : Option (List ℕ)) (next : ItemStage)
    → piece ≡ None → Leaves s head item_stage.Ended old piece next new
at_the_end s head old new None next is = ended s head item_stage.Ended (to_lend old) refl
at_the_end s head old new (Some text) next is = absurd (cc is)

pub step_leaves : (s : Service) (head : DeliveryHead) (now : ItemStage) (old : Selected) (piece : Option (List ℕ))
    (next : ItemStage) (new : Selected)
    → StepsTo steps s head now old piece next new → Leaves s head now old piece next new
step_leaves s head item_stage.Begin old piece next new step = gives_leaves s head item_stage.Begin old piece next new
    step.given step.gave step.says
step_leaves s head item_stage.Later old piece next new step = gives_leaves s head item_stage.Later old piece next new
    step.given step.gave step.says
step_leaves s head item_stage.Ended old piece next new step = at_the_end s head old new piece next step.0
step_leaves s head item_stage.Lost old piece next new step = absurd step

-- the same of the pieces themselves
pub items_next : (old new : ItemPieces Selected) (piece : Option (Vec ℕ Global))
    → StepsTo steps old.service old.head.now old.stage old.items
    (option_map (λ text. text.items) piece) new.stage new.items
    → new.service ≡ old.service → new.head.now ≡ old.head.now
    → MatchOption piece (items_left old ≡ []) (λ text. items_left old ≡ text.items ++ items_left new)
items_next old new None step service head = step_leaves old.service old.head.now old.stage old.items None new.stage
    new.items step
items_next old new (Some text) step service head =
    step_leaves old.service old.head.now old.stage old.items (Some text.items) new.stage new.items step
    ∙ (λ i. text.items ++ item_text_left (sym service i) (sym head i) new.stage (to_lend new.items))

-- all of it
whole_left : (s : Service) (head : DeliveryHead) (items : List Item)
    → item_text_left s head item_stage.Begin items ≡ delivery_text s (delivery_of_head head items [])
unfolding item_text_left
whole_left s head items = refl

pub items_first : (pieces : ItemPieces Selected) (s : Service) (head : DeliveryHead) (items : List Item)
    → pieces.service ≡ s
    → pieces.head.now ≡ head → pieces.stage ≡ item_stage.Begin → to_lend pieces.items ≡ items
    → items_left pieces ≡ delivery_text s (delivery_of_head head items [])
items_first pieces s head items service is stage lends =
    (λ i. item_text_left (service i) (is i) (stage i) (lends i)) ∙ whole_left s head items

-- ---- frames

same_pieces : (f g : FramePiece → List ℕ) → ((piece : FramePiece) → f piece ≡ g piece) → (frame : List FramePiece)
    → flat_map f frame ≡ flat_map g frame
same_pieces f g same [] = refl
same_pieces f g same (first ∷ rest) = λ i. same first i ++ same_pieces f g same rest i

-- ---- a direct response

answers_of : (name : List ℕ) (now : ℕ) (items : Items) (request : ServiceRequest) (s : Service)
    → deliveries_of s (response name now items request) ≡ map (answer now items) (topics_of request s)
unfolding response
answers_of name now items request service.Stop = refl
answers_of name now items request service.Timetable = refl
answers_of name now items request service.Vehicle = refl
answers_of name now items request service.Situation = refl

has_all_if : (topic : Topic) (b : Bool) → has_all topic ≡ b → cond b (Some topic) None ≡ Some topic
    → has_all topic ≡ true
has_all_if topic true is some = is
has_all_if topic false is some = absurd (cc some)

module _ (name : List ℕ) (now : ℕ) (items : Items) (request : ServiceRequest) (all : is_lent request ≡ true) where
  topic_filled : (s : Service) (place : ℕ) (found : Option Topic) → slice_get (topics_of request s) place ≡ found
      → option_and_then if_it_has_all found ≡ found
      → direct_piece now items request (piece.Delivery s place)
      ≡ unwrap_or (option_map (delivery_text s) (option_map (answer now items) found)) []
  topic_filled s place None is lent = rw (is) refl
  topic_filled s place (Some topic) is lent =
      let has : has_all topic ≡ true = has_all_if topic (has_all topic) refl lent in
      rw (is, lent) (sym (ap (delivery_text s) (answer_lent now items topic has)))

  pub piece_filled : (p : FramePiece) → direct_piece now items request p ≡ filled (response name now items request) p
  piece_filled (piece.Text text) = refl
  piece_filled (piece.Delivery s place) =
      let lent = all_lent request s place all in
      topic_filled s place (slice_get (topics_of request s) place) refl lent
      ∙ ap (λ found. unwrap_or (option_map (delivery_text s) found) [])
      (sym (slice_get-map (answer now items) (topics_of request s) place))
      ∙ ap (λ list. unwrap_or (option_map (delivery_text s) (slice_get list place)) [])
      (sym (answers_of name now items request s))

  pub direct_filled : (frame : List FramePiece)
      → direct_text now items request frame ≡ filled_text (response name now items request) frame
  direct_filled frame = same_pieces (direct_piece now items request)
      (filled (response name now items request)) piece_filled frame

-- ---- a part

-- the list of a service in the delivery of a part
abbrev list_of : Service → Topic → FunctionalDelivery → List FunctionalDelivery
list_of service.Stop topic d = in_stop_monitoring topic d
list_of service.Timetable topic d = in_estimated_timetable topic d
list_of service.Vehicle topic d = in_vehicle_monitoring topic d
list_of service.Situation topic d = in_situation_exchange topic d

part_list : (name : List ℕ) (wanted : Subscription) (number start : ℕ) (part : WantedPart) (s : Service)
    → deliveries_of s (part_delivery name wanted number start part)
    ≡ list_of s wanted.topic (part_functional wanted start part)
unfolding part_delivery
part_list name wanted number start part service.Stop = refl
part_list name wanted number start part service.Timetable = refl
part_list name wanted number start part service.Vehicle = refl
part_list name wanted number start part service.Situation = refl

-- where a delivery stands in a list, it is the one
text_in : Service → List FunctionalDelivery → ℕ → List ℕ
text_in s list place = unwrap_or (option_map (delivery_text s) (slice_get list place)) []

only_one : (s : Service) (d : FunctionalDelivery) (place : ℕ) → place < 1
    → delivery_text s d ≡ unwrap_or (option_map (delivery_text s) (slice_get (d ∷ []) place)) []
only_one s d zero less = refl
only_one s d (suc place) less = absurd (omega (arith, less))

one_of : (s : Service) (topic : Topic) (d other : FunctionalDelivery) (place : ℕ)
    → place < length (list_of s topic other)
    → delivery_text s d ≡ unwrap_or (option_map (delivery_text s) (slice_get (list_of s topic d) place)) []
one_of service.Stop (topic.Stop t) d other place less = only_one service.Stop d place less
one_of service.Stop (topic.Timetable t) d other place less = absurd (omega (arith, less))
one_of service.Stop (topic.Vehicle t) d other place less = absurd (omega (arith, less))
one_of service.Stop (topic.Situation t) d other place less = absurd (omega (arith, less))
one_of service.Timetable (topic.Stop t) d other place less = absurd (omega (arith, less))
one_of service.Timetable (topic.Timetable t) d other place less = only_one service.Timetable d place less
one_of service.Timetable (topic.Vehicle t) d other place less = absurd (omega (arith, less))
one_of service.Timetable (topic.Situation t) d other place less = absurd (omega (arith, less))
one_of service.Vehicle (topic.Stop t) d other place less = absurd (omega (arith, less))
one_of service.Vehicle (topic.Timetable t) d other place less = absurd (omega (arith, less))
one_of service.Vehicle (topic.Vehicle t) d other place less = only_one service.Vehicle d place less
one_of service.Vehicle (topic.Situation t) d other place less = absurd (omega (arith, less))
one_of service.Situation (topic.Stop t) d other place less = absurd (omega (arith, less))
one_of service.Situation (topic.Timetable t) d other place less = absurd (omega (arith, less))
one_of service.Situation (topic.Vehicle t) d other place less = absurd (omega (arith, less))
one_of service.Situation (topic.Situation t) d other place less = only_one service.Situation d place less

-- the functional delivery that the pieces say is that of the part
functional_said : (wanted : Subscription) (start : ℕ) (part : WantedPart) (changes : List KeyChange)
    → part.carried ≡ carried changes
    → delivery_of_head (part_head wanted start part) (items_of_changes changes) (removals_of_changes changes)
    ≡ part_functional wanted start part
unfolding part_functional
functional_said wanted start part changes is =
    ap (λ (c : Carried). delivery_of_head (part_head wanted start part) c.items c.removals) (sym is)

module _ (name : List ℕ) (wanted : Subscription) (number start : ℕ) (part other : WantedPart) (changes : List KeyChange)
    (is : part.carried ≡ carried changes) where
  part_piece_filled : (p : FramePiece) → is_of (part_delivery name wanted number start other) p ≡ true
      → part_piece (part_head wanted start part) changes p ≡ filled (part_delivery name wanted number start part) p
  part_piece_filled (piece.Text text) there = refl
  part_piece_filled (piece.Delivery s place) there =
      let less : place < length (list_of s wanted.topic (part_functional wanted start other)) =
      ltb-true place _
      (ap (λ list. nat_lt place (length list)) (sym (part_list name wanted number start other s)) ∙ there) in
      ap (delivery_text s) (functional_said wanted start part changes is)
      ∙ one_of s wanted.topic (part_functional wanted start part) (part_functional wanted start other) place less
      ∙ ap (λ list. unwrap_or (option_map (delivery_text s) (slice_get list place)) [])
      (sym (part_list name wanted number start part s))

  pub part_filled : (frame : List FramePiece)
      → list_all (is_of (part_delivery name wanted number start other)) frame ≡ true
      → part_text (part_head wanted start part) changes frame
      ≡ filled_text (part_delivery name wanted number start part) frame
  part_filled [] there = refl
  part_filled (first ∷ rest) there =
      let parts = and_parts (is_of (part_delivery name wanted number start other) first)
      (list_all (is_of (part_delivery name wanted number start other)) rest) there in
      λ i. part_piece_filled first parts.0 i ++ part_filled rest parts.1 i

-- ---- heads

-- a direct response without its entries is it without its items: nothing is removed in it
bare_answers : (now : ℕ) (items : Items) (topics : List Topic)
    → map without_own_entries (map (answer now items) topics) ≡ map without_own_items (map (answer now items) topics)
unfolding answer
bare_answers now items [] = refl
bare_answers now items (topic ∷ topics) = ap (λ rest. without_own_items (answer now items topic) ∷ rest)
    (bare_answers now items topics)

pub bare_response : (name : List ℕ) (now : ℕ) (items : Items) (request : ServiceRequest)
    → without_entries (response name now items request) ≡ without_items (response name now items request)
unfolding response
bare_response name now items request = λ i. record (response name now items request) {
  stop_monitoring_delivery = bare_answers now items request.stop_monitoring_request i;
  estimated_timetable_delivery = bare_answers now items request.estimated_timetable_request i;
  vehicle_monitoring_delivery = bare_answers now items request.vehicle_monitoring_request i;
  situation_exchange_delivery = bare_answers now items request.situation_exchange_request i;
}

bare_stop : (topic : Topic) (d : FunctionalDelivery)
    → map without_own_entries (in_stop_monitoring topic d) ≡ in_stop_monitoring topic (without_own_entries d)
bare_stop (topic.Stop t) d = refl
bare_stop (topic.Timetable t) d = refl
bare_stop (topic.Vehicle t) d = refl
bare_stop (topic.Situation t) d = refl

bare_timetable : (topic : Topic) (d : FunctionalDelivery)
    → map without_own_entries (in_estimated_timetable topic d) ≡ in_estimated_timetable topic (without_own_entries d)
bare_timetable (topic.Stop t) d = refl
bare_timetable (topic.Timetable t) d = refl
bare_timetable (topic.Vehicle t) d = refl
bare_timetable (topic.Situation t) d = refl

bare_vehicle : (topic : Topic) (d : FunctionalDelivery)
    → map without_own_entries (in_vehicle_monitoring topic d) ≡ in_vehicle_monitoring topic (without_own_entries d)
bare_vehicle (topic.Stop t) d = refl
bare_vehicle (topic.Timetable t) d = refl
bare_vehicle (topic.Vehicle t) d = refl
bare_vehicle (topic.Situation t) d = refl

bare_situation : (topic : Topic) (d : FunctionalDelivery)
    → map without_own_entries (in_situation_exchange topic d) ≡ in_situation_exchange topic (without_own_entries d)
bare_situation (topic.Stop t) d = refl
bare_situation (topic.Timetable t) d = refl
bare_situation (topic.Vehicle t) d = refl
bare_situation (topic.Situation t) d = refl

-- a part that carries nothing
abbrev pub bare : WantedPart → WantedPart
bare part = record part { carried = record { items = []; removals = [] } }

pub bare_part : (name : List ℕ) (wanted : Subscription) (number start : ℕ) (part : WantedPart)
    → without_entries (part_delivery name wanted number start part) ≡ part_delivery name wanted number start (bare part)
unfolding part_delivery part_functional
bare_part name wanted number start part =
    let d = part_functional wanted start part in
    λ i. record (part_delivery name wanted number start (bare part)) {
      stop_monitoring_delivery = bare_stop wanted.topic d i;
      estimated_timetable_delivery = bare_timetable wanted.topic d i;
      vehicle_monitoring_delivery = bare_vehicle wanted.topic d i;
      situation_exchange_delivery = bare_situation wanted.topic d i;
    }

-- the frame of a part that carries nothing is that of the part
pub frames_part : (producer : List ℕ) (start : ℕ) (lent : LentPart) (head : ServiceDelivery)
    (result : Result (List FramePiece) OutOfMemory)
    → head ≡ part_delivery producer lent.wanted.now lent.number start (bare (part_sent lent.part))
    → IfOk result
    (λ pieces. (d : ServiceDelivery) → without_entries d ≡ without_entries head
    → filled_text d pieces ≡ canonical (message.ServiceDelivery d))
    → IfOk result (λ pieces. list_all (is_of head) pieces ≡ true)
    → IfOk result (FramesPart producer start lent)
frames_part producer start lent head (Err error) is text there = tt
frames_part producer start lent head (Ok frame) is text there =
    let wanted = lent.wanted.now in
    let part = part_sent lent.part in
    part_filled producer wanted lent.number start part (bare part) lent.part.changes.now refl frame
    (subst (λ d. list_all (is_of d) frame ≡ true) is there)
    ∙ text (part_delivery producer wanted lent.number start part)
    (of_bare_head (part_delivery producer wanted lent.number start part) head
    (bare_part producer wanted lent.number start part ∙ sym is))
