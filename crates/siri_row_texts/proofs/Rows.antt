-- The row of an item is read as that item, and keys with one text are equal.
use Rattle.std.proofs.Common.{◌≡◌, ◌≤◌, ℕ, Bool, true, false, ◌&&◌, List, length, Option, Some, None, refl, sym, ap, ◌∙◌}
use Rattle.std.specs.Prelude.{if◌then◌else◌, slice_get}
use Rattle.std.specs.Option.{option_and_then}
use Rattle.std.specs.Result.{result_ok}
use Rattle.std.specs.Str.{bytes_eq}
use Rattle.std.proofs.lemmas.Option.{none-some, same_Some}
use Rattle.std.proofs.lemmas.Slice.Eq.{bytes_eq-Decides}
use Rattle.siri_json.specs.Canonical.{as_texts}
use Rattle.siri_json.specs.Tree.{longest_document, tree_of}
use Rattle.siri_records.specs.declared.item.Item.{Item}
use Rattle.siri_records.specs.declared.item.Item.TheVariants as item
use Rattle.siri_records.specs.declared.item.Service.{Service}
use Rattle.siri_records.specs.declared.key.Key.{Key}
use Rattle.siri_records.specs.declared.key.Key.TheVariants as key
use Rattle.siri_records.specs.Keys.{key_of}
use Rattle.siri_messages.specs.declared.deliveries.FunctionalDelivery.{FunctionalDelivery}
use Rattle.siri_messages.specs.declared.message.Message.{Message}
use Rattle.siri_messages.specs.declared.message.Message.TheVariants as message
use Rattle.siri_items.specs.Proper.{IsProper}
use Rattle.siri_deliveries.specs.Removals.{IsProperRemoval}
use Rattle.siri_wire.specs.Canonical.{canonical, written_message}
use Rattle.siri_wire.specs.Documents.{message_of, root}
use Rattle.siri_wire.specs.laws.ProperMessages.{IsProper as IsProperMessage}
use Rattle.siri_wire.proofs.BackDocuments.{canonical_read, message_back, message_text}
use Rattle.siri_row_texts.specs.ItemRows.{item_delivery, item_text, key_text, removal_delivery}
use Rattle.siri_row_texts.specs.Reading.{first_of_four, if_written, item_in, item_of_row}
use Rattle.siri_row_texts.proofs.Alone.{item_alone, key_alone}

pub itself : (t : List ℕ) → bytes_eq t t ≡ true
itself t = (bytes_eq-Decides t t).1 refl

-- ---- tests

both : (a b : Bool) → (a && b) ≡ true → (a ≡ true) × (b ≡ true)
both true true e = (refl, refl)
both true false e = cc
both false b e = cc

if_some : {A : Type 0} (b : Bool) (x y : A) → (if b then Some x else None) ≡ Some y → (b ≡ true) × (x ≡ y)
if_some true x y e = (refl, same_Some x y e)
if_some false x y e = absurd (none-some y e)

some_of : {A B : Type 0} (f : A → Option B) (o : Option A) (y : B) → option_and_then f o ≡ Some y → (x : A) × (f x ≡ Some y)
some_of f (Some x) y e = (x, e)
some_of f None y e = absurd (none-some y e)

-- ---- items

item_back : (i : Item) → item_in (message.ServiceDelivery (item_delivery i)) ≡ Some i
item_back (item.Visit v) = refl
item_back (item.Journey j) = refl
item_back (item.Vehicle v) = refl
item_back (item.Situation s) = refl

own_row : (i : Item) → if_written (key_text (key_of i)) (item_text i) i ≡ Some i
own_row i = rw (itself (item_text i), itself (key_text (key_of i))) refl

pub item_row_read : (i : Item) → IsProper i → length (item_text i) ≤ longest_document
    → item_of_row (key_text (key_of i)) (item_text i) ≡ Some i
unfolding item_of_row
item_row_read i p le =
    ap (λ r. option_and_then (if_written (key_text (key_of i)) (item_text i)) (option_and_then item_in (result_ok r)))
    (canonical_read (message.ServiceDelivery (item_delivery i)) (item_alone i p) le)
    ∙ ap (option_and_then (if_written (key_text (key_of i)) (item_text i))) (item_back i)
    ∙ own_row i

says : (key text : List ℕ) (j i : Item) → if_written key text j ≡ Some i → (text ≡ item_text i) × (key ≡ key_text (key_of i))
says key text j i e =
    let found = if_some (bytes_eq (item_text j) text && bytes_eq (key_text (key_of j)) key) j i e in
    let tests = both (bytes_eq (item_text j) text) (bytes_eq (key_text (key_of j)) key) found.0 in (
      sym ((bytes_eq-Decides (item_text j) text).0 tests.0) ∙ ap item_text found.1,
      sym ((bytes_eq-Decides (key_text (key_of j)) key).0 tests.1) ∙ ap (λ x. key_text (key_of x)) found.1,
    )

pub read_row_says : (key text : List ℕ) (i : Item) → item_of_row key text ≡ Some i
    → (text ≡ item_text i) × (key ≡ key_text (key_of i))
unfolding item_of_row
read_row_says key text i e =
    let found = some_of (if_written key text) (option_and_then item_in (result_ok (message_of text))) i e in
    says key text found.0 i found.1

-- ---- keys

abbrev first_removal : List FunctionalDelivery → Option Key
first_removal list = option_and_then (λ f. slice_get f.removals 0) (slice_get list 0)

abbrev removal_in : Message → Option Key
removal_in (message.ServiceDelivery d) =
    first_of_four (first_removal d.stop_monitoring_delivery) (first_removal d.estimated_timetable_delivery)
    (first_removal d.vehicle_monitoring_delivery) (first_removal d.situation_exchange_delivery)
removal_in other = None

key_back : (k : Key) → removal_in (message.ServiceDelivery (removal_delivery k)) ≡ Some k
key_back (key.Visit m v) = refl
key_back (key.Journey l d f j) = refl
key_back (key.Vehicle v) = refl
key_back (key.Situation q n) = refl

-- proper messages with one text are one: it is the text of one tree
pub one_text_one_message : (m n : Message) → IsProperMessage m → IsProperMessage n → canonical m ≡ canonical n → m ≡ n
one_text_one_message m n p q e =
    let tree : as_texts (written_message m) ≡ as_texts (written_message n) = same_Some _ _ (sym (message_text m p) ∙ ap tree_of e ∙ message_text n q) in
    same_Some m n (ap result_ok (sym (message_back m p) ∙ ap root tree ∙ message_back n q))

pub one_text_one_key : (s t : Service) (k j : Key) → IsProperRemoval s k → IsProperRemoval t j → key_text k ≡ key_text j → k ≡ j
one_text_one_key s t k j p q e =
    let same = one_text_one_message (message.ServiceDelivery (removal_delivery k)) (message.ServiceDelivery (removal_delivery j)) (key_alone s k p) (key_alone t j q) e in
    same_Some k j (sym (key_back k) ∙ ap removal_in same ∙ key_back j)
