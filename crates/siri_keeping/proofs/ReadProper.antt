-- What is read of rows is proper, as what any document says is.
use Rattle.std.proofs.Common.{◌≡◌, ℕ, List, [], ◌∷◌, Bool, true, false, Option, None, Some, Result, Ok, Err, refl, subst}
use Rattle.std.specs.Prelude.{if◌then◌else◌, ◌&&◌, slice_get}
use Rattle.std.specs.List.{AllByRecursion as All}
use Rattle.std.specs.Option.{option_and_then}
use Rattle.std.specs.Result.{result_ok}
use Rattle.std.specs.Str.{bytes_eq}
use Rattle.std.proofs.lemmas.Option.{none-some, option_and_then_some, same_Some}
use Rattle.siri_records.specs.declared.item.Item.{Item}
use Rattle.siri_records.specs.declared.item.Item.TheVariants as item
use Rattle.siri_records.specs.declared.item.Service.{Service}
use Rattle.siri_records.specs.declared.item.Service.TheVariants as service
use Rattle.siri_records.specs.Keys.{key_of}
use Rattle.siri_topic.specs.declared.subscription.Subscription.{Subscription}
use Rattle.siri_messages.specs.declared.deliveries.FunctionalDelivery.{FunctionalDelivery}
use Rattle.siri_messages.specs.declared.message.Message.{Message}
use Rattle.siri_messages.specs.declared.message.Message.TheVariants as message
use Rattle.siri_tables.specs.Refusals.{Refusal}
use Rattle.siri_items.specs.Proper.{IsProper}
use Rattle.siri_deliveries.specs.Deliveries.{IsProperDelivery, IsProperOf}
use Rattle.siri_wire.specs.Documents.{message_of}
use Rattle.siri_wire.specs.laws.ProperMessages.{IsProper as IsProperMessage}
use Rattle.siri_wire.proofs.ProperReadMessages.{document_proper}
use Rattle.siri_row_texts.specs.ItemRows.{item_text, key_text}
use Rattle.siri_row_texts.specs.Reading.{first_item, first_of_four, if_holds, if_written, is_renewal, is_request, item_in, item_of_row, renewal_of_row, request_of_row}
use Rattle.siri_keeping.specs.Keeping.{IsProperKey}

-- what is given where a test holds
if_given : {A : Type 0} (b : Bool) (x y : A) → (if b then Some x else None) ≡ Some y → x ≡ y
if_given true x y e = same_Some x y e
if_given false x y e = absurd (none-some y e)

-- the message that a text says
said_proper : (text : List ℕ) (said : Result Message Refusal) (m : Message) → message_of text ≡ said → result_ok said ≡ Some m → IsProperMessage m
said_proper text (Ok n) m is e = subst IsProperMessage (same_Some n m e) (document_proper text n is)
said_proper text (Err refusal) m is e = absurd (none-some m e)

-- ---- items

first_of : (s : Service) (items : List Item) (i : Item) → All (IsProperOf s) items → slice_get items 0 ≡ Some i → IsProper i
first_of s [] i are e = absurd (none-some i e)
first_of s (j ∷ items) i are e = subst IsProper (same_Some j i e) are.0.proper

first_proper : (s : Service) (list : List FunctionalDelivery) (i : Item) → All (IsProperDelivery s) list → first_item list ≡ Some i → IsProper i
first_proper s [] i are e = absurd (none-some i e)
first_proper s (f ∷ list) i are e = first_of s f.items i are.0.1.1.0.each e

-- the first of four has what each of them has
of_four : {A : Type 0} (P : A → Type 0) (a b c d : Option A) (x : A) → (a ≡ Some x → P x) → (b ≡ Some x → P x) → (c ≡ Some x → P x)
    → (d ≡ Some x → P x) → first_of_four a b c d ≡ Some x → P x
of_four P (Some y) b c d x in_a in_b in_c in_d e = in_a e
of_four P None (Some y) c d x in_a in_b in_c in_d e = in_b e
of_four P None None (Some y) d x in_a in_b in_c in_d e = in_c e
of_four P None None None d x in_a in_b in_c in_d e = in_d e

delivered_proper : (m : Message) (i : Item) → IsProperMessage m → item_in m ≡ Some i → IsProper i
delivered_proper (message.ServiceDelivery d) i p e =
    let lists = p.1.1.1.1.1.1.1 in
    of_four IsProper (first_item d.stop_monitoring_delivery) (first_item d.estimated_timetable_delivery)
    (first_item d.vehicle_monitoring_delivery) (first_item d.situation_exchange_delivery) i
    (first_proper service.Stop d.stop_monitoring_delivery i lists.0.each)
    (first_proper service.Timetable d.estimated_timetable_delivery i lists.1.0.each)
    (first_proper service.Vehicle d.vehicle_monitoring_delivery i lists.1.1.0.each)
    (first_proper service.Situation d.situation_exchange_delivery i lists.1.1.1.0.each) e
delivered_proper other i p e = absurd (none-some i e)

pub read_item_proper : (key text : List ℕ) (i : Item) → item_of_row key text ≡ Some i → IsProper i
unfolding item_of_row
read_item_proper key text i e =
    option_and_then_some (if_written key text) (option_and_then item_in (result_ok (message_of text))) i e (λ j at written.
    option_and_then_some item_in (result_ok (message_of text)) j at (λ m read delivers.
    subst IsProper (if_given (bytes_eq (item_text j) text && bytes_eq (key_text (key_of j)) key) j i written)
    (delivered_proper m j (said_proper text (message_of text) m refl read) delivers)))

-- a proper item's key is one that a document can name
pub key_is_proper : (i : Item) → IsProper i → IsProperKey (key_of i)
key_is_proper (item.Visit v) p = (service.Stop, (p.1.1.0, p.1.0))
key_is_proper (item.Journey j) p = (service.Timetable, (p.0.1.0, p.0.1.1.0, p.0.1.1.1.0.0, p.0.1.1.1.0.1))
key_is_proper (item.Vehicle v) p = (service.Vehicle, p.1.1.1.0.1.1.1.1.0)
key_is_proper (item.Situation s) p = (service.Situation, (p.1.0, p.1.1.0))

-- ---- requests

held_proper : (holds : Message → Bool) (text : List ℕ) (m : Message) → option_and_then (if_holds holds) (result_ok (message_of text)) ≡ Some m
    → IsProperMessage m
held_proper holds text m e =
    option_and_then_some (if_holds holds) (result_ok (message_of text)) m e (λ n read is.
    subst IsProperMessage (if_given (holds n) n m is) (said_proper text (message_of text) n refl read))

pub read_request_proper : (text : List ℕ) (m : Message) → request_of_row text ≡ Some m → IsProperMessage m
unfolding request_of_row
read_request_proper text m e = held_proper (is_request text) text m e

pub read_renewal_proper : (s : Subscription) (base : ℕ) (text : List ℕ) (m : Message) → renewal_of_row s base text ≡ Some m → IsProperMessage m
unfolding renewal_of_row
read_renewal_proper s base text m e = held_proper (is_renewal s base text) text m e
