-- Inner words: cited by private functions alone. The text of an answer whose items or changes are lent, piece by piece.
use Rattle.std.specs.Prelude.{◌≡◌, ℕ, List, [], map, flat_map, None, Some}
use Rattle.std.specs.Option.{option_map_or}
use Rattle.siri_records.specs.declared.item.Service.{Service}
use Rattle.siri_records.specs.Keyed.{Items, KeyChange}
use Rattle.siri_topic.specs.declared.subscription.Subscription.{Subscription}
use Rattle.siri_topic.specs.declared.topics.Topic.{Topic}
use Rattle.siri_messages.specs.declared.message.Message.TheVariants as message
use Rattle.siri_messages.specs.declared.requests.ServiceRequest.{ServiceRequest}
use Rattle.siri_store.specs.Walk.{to_lend}
use Rattle.siri_store.specs.declared.selected.Selected.{Selected}
use Rattle.siri_model.specs.Direct.{response, shown}
use Rattle.siri_subs.specs.rounds.Wanted.{WantedPart, part_sent}
use Rattle.siri_subscriptions.specs.replies.Parts.{part_delivery}
use Rattle.siri_producer.specs.Lent.{lent_topic}
use Rattle.siri_producer.specs.declared.lending.LentPart.{LentPart}
use Rattle.siri_deliveries.specs.Pieces.{delivery_of_head, delivery_text, item_text_left, items_of_changes}
use Rattle.siri_deliveries.specs.Pieces.{removals_of_changes}
use Rattle.siri_deliveries.specs.declared.pieces.DeliveryHead.{DeliveryHead}
use Rattle.siri_deliveries.specs.declared.pieces.ItemPieces.{ItemPieces}
use Rattle.siri_deliveries.specs.declared.frame.FramePiece.{FramePiece}
use Rattle.siri_deliveries.specs.declared.frame.FramePiece.TheVariants as piece
use Rattle.siri_wire.specs.Canonical.{canonical}

-- the text that is still to come of a delivery whose items are lent
abbrev pub items_left : ItemPieces Selected → List ℕ
items_left pieces = item_text_left pieces.service pieces.head.now pieces.stage (to_lend pieces.items)

-- ---- a direct response

-- the head of each functional delivery at a moment
abbrev pub direct_head : ℕ → DeliveryHead
direct_head now = record { moment = now; subscriber = None; subscription = None; start = 0; round = 0; part = 0 }

-- the functional delivery of the items that are shown to a topic
abbrev pub topic_text : ℕ → Items → Service → Topic → List ℕ
topic_text now items service topic =
    delivery_text service (delivery_of_head (direct_head now) (map (λ entry. entry.1) (shown now items topic)) [])

-- a piece of the frame, where a functional delivery has the text of the topic that is lent at its place
abbrev pub direct_piece : ℕ → Items → ServiceRequest → FramePiece → List ℕ
direct_piece now items request (piece.Text text) = text
direct_piece now items request (piece.Delivery service place) =
    option_map_or (topic_text now items service) (lent_topic request service place) []

abbrev pub direct_text : ℕ → Items → ServiceRequest → List FramePiece → List ℕ
direct_text now items request frame = flat_map (direct_piece now items request) frame

-- with these texts a frame is the response
abbrev pub FramesResponse : (name : List ℕ) → ℕ → Items → ServiceRequest → List FramePiece → Type 0
FramesResponse name now items request frame =
    direct_text now items request frame ≡ canonical (message.ServiceDelivery (response name now items request))

-- ---- a part

-- the head of the functional delivery of a subscription's part, in a start
abbrev pub part_head : Subscription → (start : ℕ) → WantedPart → DeliveryHead
part_head wanted start part = record {
  moment = part.moment;
  subscriber = Some wanted.subscriber;
  subscription = Some wanted.identifier;
  start = start;
  round = part.place.round;
  part = part.place.part;
}

-- a piece of the frame, where the functional delivery has the text of the changes
abbrev pub part_piece : DeliveryHead → List KeyChange → FramePiece → List ℕ
part_piece head changes (piece.Text text) = text
part_piece head changes (piece.Delivery service place) =
    delivery_text service (delivery_of_head head (items_of_changes changes) (removals_of_changes changes))

abbrev pub part_text : DeliveryHead → List KeyChange → List FramePiece → List ℕ
part_text head changes frame = flat_map (part_piece head changes) frame

-- with these texts a frame is the delivery of a part that is lent
abbrev pub FramesPart : (producer : List ℕ) → (start : ℕ) → LentPart → List FramePiece → Type 0
FramesPart producer start lent frame =
    part_text (part_head lent.wanted.now start (part_sent lent.part)) lent.part.changes.now frame
    ≡ canonical
    (message.ServiceDelivery (part_delivery producer lent.wanted.now lent.number start (part_sent lent.part)))
