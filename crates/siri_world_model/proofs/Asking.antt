-- The messages that a consumer makes, as letters: a request for one subscription, one to end one, a question, and its replies.
use Rattle.std.proofs.Common.{◌≡◌, ◌≤◌, List, [], ◌∷◌, ◌++◌, map, Bool, true, false, cond, None, Some, refl, sym, ap, arith}
use Rattle.std.specs.Prelude.{ℤ, pos, unwrap_or}
use Rattle.std.specs.Ordering.{int_eq}
use Rattle.std.proofs.lemmas.Bool.Decides.{Decides-int_eq}
use Rattle.siri_records.specs.declared.item.Service.{Service}
use Rattle.siri_records.specs.declared.item.Service.TheVariants as service
use Rattle.siri_topic.specs.declared.subscription.Subscription.{Subscription}
use Rattle.siri_topic.specs.declared.topics.Topic.{Topic}
use Rattle.siri_topic.specs.declared.topics.Topic.TheVariants as topic
use Rattle.siri_messages.specs.Asked.{AskedFor}
use Rattle.siri_life.specs.Life.{Subscribe, Terminate}
use Rattle.siri_life.specs.Named.{Name}
use Rattle.siri_life.specs.Serving.{Carries, ToProducer}
use Rattle.siri_base.specs.Numbers.{greatest_number}
use Rattle.siri_view.specs.Consuming.{Consuming, request_for, termination_of}
use Rattle.siri_view.specs.Sending.{check_request, interval, is_topic_of, of_service, own, ready_acknowledgement}
use Rattle.siri_world_model.specs.laws.Happenings.{asked_by}
use Rattle.siri_world_model.specs.laws.Letters.{of_one, of_none, asking, letter_to_producer}
use Rattle.siri_world_model.proofs.Well.{IsOfConsumer}

-- ---- a request for one subscription

-- a topic is of one service
module _ (s : Subscription) where
  abbrev of : Service → Topic → List Subscription
  of which t = cond (is_topic_of which t) (s ∷ []) []

  of_one_service : (t : Topic) → of service.Stop t ++ of service.Timetable t ++ of service.Vehicle t ++ of service.Situation t ≡ s ∷ []
  of_one_service (topic.Stop t) = refl
  of_one_service (topic.Timetable t) = refl
  of_one_service (topic.Vehicle t) = refl
  of_one_service (topic.Situation t) = refl

  by_services : of_service service.Stop (s ∷ []) ++ of_service service.Timetable (s ∷ [])
      ++ of_service service.Vehicle (s ∷ []) ++ of_service service.Situation (s ∷ []) ≡ s ∷ []
  by_services = of_one_service s.topic

-- no interval is zero
beat_kept : (beat : ℤ) → unwrap_or (interval beat) (pos 0) ≡ beat
beat_kept beat = by (int_eq beat (pos 0)) refl
  where
    by : (b : Bool) → int_eq beat (pos 0) ≡ b → unwrap_or (cond b None (Some beat)) (pos 0) ≡ beat
    by true zero = sym ((Decides-int_eq beat (pos 0)).0 zero)
    by false some = refl

module _ (c : Consuming) (wanted : Subscription) (beat : ℤ) where
  abbrev requested : List Subscription → ℤ → List AskedFor
  requested list beat = map (λ s. record { subscription = s; address = c.address; beat = beat }) list

  -- what the request asks for
  asked_is : requested (of_service service.Stop (own c.name wanted ∷ [])
      ++ of_service service.Timetable (own c.name wanted ∷ []) ++ of_service service.Vehicle (own c.name wanted ∷ [])
      ++ of_service service.Situation (own c.name wanted ∷ []))
      (unwrap_or (interval beat) (pos 0)) ≡ asked_by c wanted beat ∷ []
  asked_is = λ i. requested (by_services (own c.name wanted) i) (beat_kept beat i)

  pub request_is : letter_to_producer c.name (request_for c (wanted ∷ []) beat) ≡ of_one c.name wanted.identifier
      (Carries (Subscribe c.next_number (asked_by c wanted beat)))
  unfolding letter_to_producer
  request_is = ap (asking c.name c.next_number) asked_is

  pub request_made : c.next_number ≤ greatest_number → IsOfConsumer c.name (request_for c (wanted ∷ []) beat)
  unfolding IsOfConsumer
  request_made few = (asked_by c wanted beat, asked_is, refl, omega arith)

-- ---- others

pub termination_is : (c : Consuming) (identifier : Name)
    → letter_to_producer c.name (termination_of c identifier) ≡ of_one c.name identifier
    (Carries (Terminate c.next_number))
unfolding letter_to_producer
termination_is c identifier = refl

pub termination_made : (c : Consuming) (identifier : Name) → IsOfConsumer c.name (termination_of c identifier)
unfolding IsOfConsumer
termination_made c identifier = (refl, (identifier, refl))

pub check_is : (c : Consuming) → letter_to_producer c.name (check_request c.name c.moment) ≡ of_none c.name (ToProducer true)
unfolding letter_to_producer
check_is c = refl

pub check_made : (c : Consuming) → IsOfConsumer c.name (check_request c.name c.moment)
unfolding IsOfConsumer
check_made c = tt

pub ready_made : (c : Consuming) → IsOfConsumer c.name (ready_acknowledgement c.name c.moment)
unfolding IsOfConsumer
ready_made c = tt
