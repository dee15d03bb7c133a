-- The rows of a subscription are read as the requests that they are written of.
use Rattle.std.proofs.Common.{◌≡◌, ◌≤◌, ◌<◌, ℕ, ℤ, pos, Bool, true, false, List, length, Some, None, refl, sym, ap, ◌∙◌, arith}
use Rattle.std.specs.Prelude.{if◌then◌else◌, ◌==◌, nat_lt, unwrap_or}
use Rattle.std.specs.Option.{option_and_then}
use Rattle.std.specs.Ordering.{int_eq}
use Rattle.std.specs.Result.{result_ok}
use Rattle.std.specs.Str.{bytes_eq}
use Rattle.std.proofs.lemmas.Bool.{eqb-false}
use Rattle.std.proofs.lemmas.Bool.Decides.{Decides-int_eq, nat_tests}
use Rattle.std.proofs.lemmas.Option.{none-some, same_Some}
use Rattle.serde_json.specs.Written.{compact_text}
use Rattle.siri_json.specs.Tree.{longest_document}
use Rattle.siri_topic.specs.declared.subscription.Subscription.{Subscription}
use Rattle.siri_topic.specs.declared.topics.Topic.{Topic}
use Rattle.siri_topic.specs.declared.topics.Topic.TheVariants as topic
use Rattle.siri_messages.specs.Asked.{AskedFor}
use Rattle.siri_messages.specs.Blank.{blank_subscription_request}
use Rattle.siri_messages.specs.declared.message.Message.{Message}
use Rattle.siri_messages.specs.declared.message.Message.TheVariants as message
use Rattle.siri_tables.specs.Proper.{IsName, IsNumber}
use Rattle.siri_wire.specs.Canonical.{canonical, written_body, written_message}
use Rattle.siri_wire.specs.Supplies.{written_mark, written_supply}
use Rattle.siri_wire.specs.laws.ProperMessages.{IsProper as IsProperMessage}
use Rattle.siri_wire.proofs.BackDocuments.{canonical_read}
use Rattle.siri_row_texts.specs.SubscriptionRows.{asks_for, interval_of, renewal_of, renewal_text, request_of, request_text}
use Rattle.siri_row_texts.specs.Reading.{if_holds, is_renewal, is_request, renewal_of_row, request_of_row}
use Rattle.siri_row_texts.proofs.Bounds.{decimal_within, text_within, weight}
use Rattle.siri_row_texts.proofs.Rows.{itself}

-- ---- the request of one subscription

beat_at : (beat : ℤ) (is : Bool) → int_eq beat (pos 0) ≡ is → unwrap_or (if is then None else Some beat) (pos 0) ≡ beat
beat_at beat true is = sym ((Decides-int_eq beat (pos 0)).0 is)
beat_at beat false is = refl

beat_back : (beat : ℤ) → unwrap_or (interval_of beat) (pos 0) ≡ beat
beat_back beat = beat_at beat (int_eq beat (pos 0)) refl

-- what is read of it is asked for again
back : AskedFor → AskedFor
back a = record { subscription = a.subscription; address = a.address; beat = unwrap_or (interval_of a.beat) (pos 0) }

back_is : (a : AskedFor) → back a ≡ a
unfolding back
back_is a = λ i. record { subscription = a.subscription; address = a.address; beat = beat_back a.beat i }

asked_by_topic : (t : Topic) (a : AskedFor) (base : ℕ) (text : List ℕ)
    → is_request text (message.SubscriptionRequest (asks_for t a.subscription (record (blank_subscription_request base) {
      consumer_address = a.address;
      heartbeat_interval = interval_of a.beat;
    })))
    ≡ bytes_eq (request_text (back a) base) text
unfolding back
asked_by_topic (topic.Stop t) a base text = refl
asked_by_topic (topic.Timetable t) a base text = refl
asked_by_topic (topic.Vehicle t) a base text = refl
asked_by_topic (topic.Situation t) a base text = refl

own_request : (a : AskedFor) (base : ℕ) → is_request (request_text a base) (message.SubscriptionRequest (request_of a base)) ≡ true
own_request a base =
    asked_by_topic a.subscription.topic a base (request_text a base)
    ∙ ap (λ b. bytes_eq (request_text b base) (request_text a base)) (back_is a)
    ∙ itself (request_text a base)

holds_some : (holds : Message → Bool) (m : Message) → holds m ≡ true → if_holds holds m ≡ Some m
holds_some holds m is = rw is refl

pub request_row_read : (a : AskedFor) (base : ℕ) → IsProperMessage (message.SubscriptionRequest (request_of a base))
    → length (request_text a base) ≤ longest_document
    → request_of_row (request_text a base) ≡ Some (message.SubscriptionRequest (request_of a base))
unfolding request_of_row
request_row_read a base p le =
    let m : Message = message.SubscriptionRequest (request_of a base) in
    ap (λ r. option_and_then (if_holds (is_request (request_text a base))) (result_ok r)) (canonical_read m p le)
    ∙ holds_some (is_request (request_text a base)) m (own_request a base)

-- ---- the request for all of it

pub renewal_proper : (s : Subscription) (number base : ℕ) → IsName s.subscriber → IsName s.identifier → IsNumber number → IsNumber base
    → IsProperMessage (message.DataSupplyRequest (renewal_of s number base))
renewal_proper s number base subscriber identifier n b = (tt, (subscriber, (tt, ((identifier, (n, (omega arith, (b, (omega arith, tt))))), tt))))

-- its text is short: it has two names and two numbers
renewal_weight : (s : Subscription) (number base : ℕ) → IsName s.subscriber → IsName s.identifier → IsNumber number → IsNumber base
    → weight (written_message (message.DataSupplyRequest (renewal_of s number base))) ≤ 100000
unfolding written_message written_body written_supply written_mark
renewal_weight s number base subscriber identifier n b =
    let numbers = decimal_within number n in
    let bases = decimal_within base b in
    let zeros = decimal_within 0 (omega arith) in
    let subscribers = subscriber.bound in
    let identifiers = identifier.bound in
    omega arith

is_short : (long most : ℕ) → long ≤ most → most ≤ 100000 → long ≤ longest_document
is_short long most within few = omega arith

renewal_within : (s : Subscription) (number base : ℕ) → IsName s.subscriber → IsName s.identifier → IsNumber number → IsNumber base
    → length (canonical (message.DataSupplyRequest (renewal_of s number base))) ≤ longest_document
unfolding canonical
renewal_within s number base subscriber identifier n b =
    let tree = written_message (message.DataSupplyRequest (renewal_of s number base)) in
    is_short (length (compact_text tree)) (weight tree) (text_within tree) (renewal_weight s number base subscriber identifier n b)

module _ (s : Subscription) (number base : ℕ) where
  abbrev m : Message
  m = message.DataSupplyRequest (renewal_of s number base)

  own_renewal : base < number → is_renewal s base (canonical m) m ≡ true
  own_renewal above =
      let apart : (number == base) ≡ false = grind (arith, nat_tests) in
      let greater : nat_lt base number ≡ true = grind (arith, nat_tests) in
      rw (greater, apart) (itself (canonical m))

  read_at : (text : List ℕ) → text ≡ canonical m → base < number → IsName s.subscriber → IsName s.identifier → IsNumber number → IsNumber base
      → renewal_of_row s base text ≡ Some m
  unfolding renewal_of_row
  read_at text is above subscriber identifier n b =
      let p = renewal_proper s number base subscriber identifier n b in
      let le = renewal_within s number base subscriber identifier n b in
      ap (λ t. renewal_of_row s base t) is
      ∙ ap (λ r. option_and_then (if_holds (is_renewal s base (canonical m))) (result_ok r)) (canonical_read m p le)
      ∙ holds_some (is_renewal s base (canonical m)) m (own_renewal above)

  written_at : (text : List ℕ) (same : Bool) → (number == base) ≡ same → renewal_text s number base ≡ Some text
      → (text ≡ canonical m) × (number ≡ base → ⊥)
  written_at text true e is = absurd (none-some text (rw e at is))
  written_at text false e is = (sym (same_Some (canonical m) text (rw e at is)), eqb-false number base e)

pub renewal_row_read : (s : Subscription) (number base : ℕ) → base ≤ number → IsName s.subscriber → IsName s.identifier → IsNumber number
    → IsNumber base → (text : List ℕ) → renewal_text s number base ≡ Some text
    → renewal_of_row s base text ≡ Some (message.DataSupplyRequest (renewal_of s number base))
renewal_row_read s number base above subscriber identifier n b text is =
    let wrote = written_at s number base text (number == base) refl is in
    let apart = wrote.1 in
    read_at s number base text wrote.0 (omega (arith, apart)) subscriber identifier n b
