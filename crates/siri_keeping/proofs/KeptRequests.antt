-- The request that is kept of a subscription asks for it alone, under its base.
use Rattle.std.proofs.Common.{◌≡◌, ℕ, ℤ, pos, [], ◌∷◌, Bool, true, false, Some, None, refl, sym, ◌∙◌}
use Rattle.std.specs.Prelude.{if◌then◌else◌, unwrap_or}
use Rattle.std.specs.Ordering.{int_eq}
use Rattle.std.proofs.lemmas.Bool.Decides.{Decides-int_eq}
use Rattle.siri_topic.specs.declared.topics.Topic.{Topic}
use Rattle.siri_topic.specs.declared.topics.Topic.TheVariants as topic
use Rattle.siri_messages.specs.Asked.{AskedFor, asked_in}
use Rattle.siri_messages.specs.Blank.{blank_subscription_request}
use Rattle.siri_messages.specs.declared.subscriptions.SubscriptionRequest.{SubscriptionRequest}
use Rattle.siri_row_texts.specs.Reading.{first_asked}
use Rattle.siri_row_texts.specs.SubscriptionRows.{asks_for, interval_of, request_of}

-- a heartbeat that is asked for never is one that isn't asked for
beat_by : (beat : ℤ) (never : Bool) → int_eq beat (pos 0) ≡ never → unwrap_or (if never then None else Some beat) (pos 0) ≡ beat
beat_by beat true is = sym ((Decides-int_eq beat (pos 0)).0 is)
beat_by beat false is = refl

beat_is : (beat : ℤ) → unwrap_or (interval_of beat) (pos 0) ≡ beat
beat_is beat = beat_by beat (int_eq beat (pos 0)) refl

abbrev plain : AskedFor → ℕ → SubscriptionRequest
plain a base = record (blank_subscription_request base) { consumer_address = a.address; heartbeat_interval = interval_of a.beat }

first_by : (t : Topic) (a : AskedFor) (base : ℕ) → first_asked (asks_for t a.subscription (plain a base)) ≡ Some a.subscription
first_by (topic.Stop t) a base = refl
first_by (topic.Timetable t) a base = refl
first_by (topic.Vehicle t) a base = refl
first_by (topic.Situation t) a base = refl

number_by : (t : Topic) (a : AskedFor) (base : ℕ) → (asks_for t a.subscription (plain a base)).message_identifier ≡ base
number_by (topic.Stop t) a base = refl
number_by (topic.Timetable t) a base = refl
number_by (topic.Vehicle t) a base = refl
number_by (topic.Situation t) a base = refl

abbrev again : AskedFor → AskedFor
again a = record { subscription = a.subscription; address = a.address; beat = unwrap_or (interval_of a.beat) (pos 0) }

alone_by : (t : Topic) (a : AskedFor) (base : ℕ) → asked_in (asks_for t a.subscription (plain a base)) ≡ again a ∷ []
alone_by (topic.Stop t) a base = refl
alone_by (topic.Timetable t) a base = refl
alone_by (topic.Vehicle t) a base = refl
alone_by (topic.Situation t) a base = refl

pub first_is : (a : AskedFor) (base : ℕ) → first_asked (request_of a base) ≡ Some a.subscription
first_is a base = first_by a.subscription.topic a base

pub number_is : (a : AskedFor) (base : ℕ) → (request_of a base).message_identifier ≡ base
number_is a base = number_by a.subscription.topic a base

pub asks_alone : (a : AskedFor) (base : ℕ) → asked_in (request_of a base) ≡ a ∷ []
asks_alone a base = alone_by a.subscription.topic a base ∙ (λ i. (record { subscription = a.subscription; address = a.address; beat = beat_is a.beat i }) ∷ [])
