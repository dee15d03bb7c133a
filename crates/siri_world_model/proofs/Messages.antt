-- The messages of a part as letters (EN 15531-2, ServiceDelivery, DataReadyNotification).
use Rattle.std.proofs.Common.{◌≡◌, ℕ, ◌<◌, List, ◌++◌, Option, Some, None, refl, sym, ap, ◌∙◌, subst}
use Rattle.siri_topic.specs.declared.subscription.Subscription.{Subscription}
use Rattle.siri_topic.specs.declared.topics.Topic.{Topic}
use Rattle.siri_topic.specs.declared.topics.Topic.TheVariants as topic
use Rattle.siri_messages.specs.declared.deliveries.FunctionalDelivery.{FunctionalDelivery}
use Rattle.siri_messages.specs.declared.message.Message.TheVariants as message
use Rattle.siri_life.specs.Life.{Mark, Notify, Delivery}
use Rattle.siri_life.specs.Serving.{Carries, ToConsumer}
use Rattle.siri_subs.specs.declared.rounds.answers.SupplyError.{SupplyError}
use Rattle.siri_subs.specs.rounds.Wanted.{WantedPart}
use Rattle.siri_subscriptions.specs.replies.Parts.{part_functional, part_delivery, part_notification, refused_supply, in_stop_monitoring}
use Rattle.siri_subscriptions.specs.replies.Parts.{in_estimated_timetable, in_vehicle_monitoring, in_situation_exchange}
use Rattle.siri_subscriptions.specs.replies.Responses.{number_text}
use Rattle.siri_base.specs.Numbers.{number_of}
use Rattle.siri_view.specs.Hearing.{Delivered, Heard, only, heard, placed}
use Rattle.siri_world_model.specs.laws.Letters.{letter_heard, letter_to_consumer, moment_in, of_none, of_one}
use Rattle.siri_world_model.proofs.Well.{IsFor}
use Rattle.siri_world_model.proofs.Texts.{number_read_back}

-- the mark of a part
abbrev pub mark_at : (number start : ℕ) → WantedPart → Mark
mark_at number start part = record { number = number; start = start; round = part.place.round; part = part.place.part }

-- of whatever service a topic is, its delivery stands alone
alone : (which : Topic) (d : FunctionalDelivery)
    → only (in_stop_monitoring which d ++ in_estimated_timetable which d ++ in_vehicle_monitoring which d ++ in_situation_exchange which d)
    ≡ Some d
alone (topic.Stop t) d = refl
alone (topic.Timetable t) d = refl
alone (topic.Vehicle t) d = refl
alone (topic.Situation t) d = refl

module _ (producer : List ℕ) (wanted : Subscription) (number start : ℕ) (part : WantedPart) where
  -- what the delivery of a part says, by its number
  abbrev said : Option ℕ → Heard
  said n = placed n (Some (part_functional wanted start part)) part.more

  delivery_says : heard (message.ServiceDelivery (part_delivery producer wanted number start part)) ≡ said (number_of (number_text number))
  unfolding part_delivery
  delivery_says = ap (λ (d : Option FunctionalDelivery). placed (number_of (number_text number)) d part.more)
      (alone wanted.topic (part_functional wanted start part))

  said_of : (n : ℕ) → said (Some n) ≡ Delivered wanted.subscriber wanted.identifier (mark_at n start part) part.more part.carried
  unfolding part_functional
  said_of n = refl

  said_to : (n : Option ℕ) → IsFor wanted.subscriber (said n)
  unfolding part_functional
  said_to (Some n) = refl
  said_to None = tt

  -- a part that is delivered is a letter of its subscription
  pub delivery_letter : number < 1000000000000000000 → letter_to_consumer wanted.subscriber
      (message.ServiceDelivery (part_delivery producer wanted number start part)) ≡ of_one wanted.subscriber
      wanted.identifier (Carries (Delivery (mark_at number start part) part.moment part.more part.carried))
  unfolding part_delivery moment_in
  delivery_letter small = ap (letter_heard wanted.subscriber part.moment) (delivery_says ∙ ap said (number_read_back number small) ∙ said_of number)

  pub delivery_made : IsFor wanted.subscriber (heard (message.ServiceDelivery (part_delivery producer wanted number start part)))
  delivery_made = subst (IsFor wanted.subscriber) (sym delivery_says) (said_to (number_of (number_text number)))

  -- so is one that is announced
  pub notification_letter : letter_to_consumer wanted.subscriber
      (message.DataReadyNotification (part_notification producer wanted number start part)) ≡ of_one wanted.subscriber
      wanted.identifier (Carries (Notify (mark_at number start part) part.moment))
  unfolding part_notification moment_in
  notification_letter = refl

-- where there is no part, the answer is of no subscription
pub refused_letter : (producer receiver : List ℕ) (now : ℕ) (why : SupplyError)
    → letter_to_consumer receiver (message.ServiceDelivery (refused_supply producer now why)) ≡ of_none receiver
    ToConsumer
unfolding refused_supply moment_in
refused_letter producer receiver now why = refl

pub refused_made : (producer receiver : List ℕ) (now : ℕ) (why : SupplyError)
    → IsFor receiver (heard (message.ServiceDelivery (refused_supply producer now why)))
unfolding refused_supply
refused_made producer receiver now why = tt
