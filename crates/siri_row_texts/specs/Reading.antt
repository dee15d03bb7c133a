-- Rows read back: a text says what a row with that text would be written of.
use Rattle.std.specs.Prelude.{ℕ, List, length, Bool, false, ◌&&◌, ◌==◌, nat_le, nat_lt, if◌then◌else◌, Option, Some, None, slice_get}
use Rattle.std.specs.List.{before_first, after_first}
use Rattle.std.specs.Option.{option_or, option_and_then, option_eq}
use Rattle.std.specs.Result.{result_ok}
use Rattle.std.specs.Str.{bytes_eq, is_utf8}
use Rattle.siri_base.specs.Numbers.{number_of}
use Rattle.siri_time.specs.Moment.{moment_of}
use Rattle.siri_time.specs.Scan.{◌>>=◌}
use Rattle.siri_records.specs.declared.item.Item.{Item}
use Rattle.siri_records.specs.Keys.{key_of}
use Rattle.siri_topic.specs.declared.subscription.Subscription.{Subscription}
use Rattle.siri_messages.specs.Asked.{asked_with}
use Rattle.siri_messages.specs.declared.deliveries.FunctionalDelivery.{FunctionalDelivery}
use Rattle.siri_messages.specs.declared.deliveries.ServiceDelivery.{ServiceDelivery}
use Rattle.siri_messages.specs.declared.message.Message.{Message}
use Rattle.siri_messages.specs.declared.message.Message.TheVariants as message
use Rattle.siri_messages.specs.declared.subscriptions.SubscriptionRequest.{SubscriptionRequest}
use Rattle.siri_wire.specs.Documents.{message_of}
use Rattle.siri_row_texts.specs.declared.moments.Began.{Began}
use Rattle.siri_row_texts.specs.ItemRows.{item_text, key_text, moment_row}
use Rattle.siri_row_texts.specs.SubscriptionRows.{request_text, renewal_text}

-- the first of four
abbrev pub first_of_four : {T : Type 0} → (a b c d : Option T) → Option T
first_of_four a b c d = option_or (option_or (option_or a b) c) d

-- ---- the moment, the start and the name

abbrev pub is_space : ℕ → Bool
is_space byte = byte == 32

-- a text is a name: it has 1 to 255 bytes
abbrev pub name_in : List ℕ → Option (List ℕ)
name_in text = if nat_le 1 (length text) && nat_le (length text) 255 then Some text else None

-- what was begun, where the start is from 1 on and this is its row
abbrev pub if_begun : List ℕ → Began → Option Began
if_begun text began =
    if nat_le 1 began.start && bytes_eq (moment_row began.moment began.start began.name) text then Some began else None

-- a moment, a start and a name, parted by the first space and by the one that follows it
abbrev pub parted : List ℕ → Option Began
parted text = do
  let rest = after_first is_space text
  moment ← result_ok (moment_of (before_first is_space text))
  start ← number_of (before_first is_space rest)
  name ← name_in (after_first is_space rest)
  Some (record { moment = moment; start = start; name = name })

-- the moment, the start and the name whose row this is: the text is UTF-8, and is what would be written of them
unfoldable pub began_of_row : List ℕ → Option Began
began_of_row text = if is_utf8 text then option_and_then (if_begun text) (parted text) else None

-- ---- items

-- the item with which a service's deliveries begin
abbrev pub first_item : List FunctionalDelivery → Option Item
first_item list = option_and_then (λ f. slice_get f.items 0) (slice_get list 0)

-- the item with which a delivery begins, service by service
abbrev pub delivered : ServiceDelivery → Option Item
delivered d =
    first_of_four (first_item d.stop_monitoring_delivery) (first_item d.estimated_timetable_delivery)
    (first_item d.vehicle_monitoring_delivery) (first_item d.situation_exchange_delivery)

abbrev pub item_in : Message → Option Item
item_in (message.ServiceDelivery d) = delivered d
item_in other = None

-- an item, where this is its row
abbrev pub if_written : (key text : List ℕ) → Item → Option Item
if_written key text i = if bytes_eq (item_text i) text && bytes_eq (key_text (key_of i)) key then Some i else None

-- the item whose row this is: the text is a document, and is what would be written of the item in it, and so is the key
unfoldable pub item_of_row : (key text : List ℕ) → Option Item
item_of_row key text = option_and_then (if_written key text) (option_and_then item_in (result_ok (message_of text)))

-- ---- subscriptions

-- the subscription with which a request begins
abbrev pub first_asked : SubscriptionRequest → Option Subscription
first_asked r =
    first_of_four (slice_get r.stop_monitoring_subscription_request 0) (slice_get r.estimated_timetable_subscription_request 0)
    (slice_get r.vehicle_monitoring_subscription_request 0) (slice_get r.situation_exchange_subscription_request 0)

-- whether a text would be written of a subscription of a request, under the request's number
abbrev pub asks_with : SubscriptionRequest → List ℕ → Subscription → Bool
asks_with r text s = bytes_eq (request_text (asked_with r s) r.message_identifier) text

abbrev pub is_asked : List ℕ → SubscriptionRequest → Option Subscription → Bool
is_asked text r None = false
is_asked text r (Some s) = asks_with r text s

abbrev pub is_request : List ℕ → Message → Bool
is_request text (message.SubscriptionRequest r) = is_asked text r (first_asked r)
is_request text other = false

-- a message, where a test of it holds
abbrev pub if_holds : (Message → Bool) → Message → Option Message
if_holds holds m = if holds m then Some m else None

-- the SubscriptionRequest whose row this is: the text is a document, and is what would be written of the request's one
-- subscription
unfoldable pub request_of_row : List ℕ → Option Message
request_of_row text = option_and_then (if_holds (is_request text)) (result_ok (message_of text))

-- whether a text would be written of a subscription and a number above its base
abbrev pub renews : Subscription → ℕ → List ℕ → ℕ → Bool
renews s base text number = nat_lt base number && option_eq bytes_eq (renewal_text s number base) (Some text)

abbrev pub is_renewal : Subscription → ℕ → List ℕ → Message → Bool
is_renewal s base text (message.DataSupplyRequest r) = renews s base text r.extensions.number
is_renewal s base text other = false

-- the DataSupplyRequest whose row this is, for a subscription and its base: the text is a document, and is what would be
-- written of them and of the request's number, which is above the base
unfoldable pub renewal_of_row : Subscription → ℕ → List ℕ → Option Message
renewal_of_row s base text = option_and_then (if_holds (is_renewal s base text)) (result_ok (message_of text))
