-- What a message says to a consumer (EN 15531-2; MessageIdentifier, RequestMessageRef and the marks of parts are those of
-- this profile).
use Rattle.std.specs.Prelude.{ℕ, Bool, List, [], ◌∷◌, Option, Some, None, option_and_then}
use Rattle.siri_base.specs.Numbers.{number_of}
use Rattle.siri_change.specs.Parts.{Carried}
use Rattle.siri_messages.specs.declared.deliveries.ServiceDelivery.{ServiceDelivery}
use Rattle.siri_messages.specs.declared.deliveries.FunctionalDelivery.{FunctionalDelivery}
use Rattle.siri_messages.specs.declared.supplies.Mark as sent
use Rattle.siri_messages.specs.Rounds.{functional_deliveries}
use Rattle.siri_messages.specs.declared.message.Message.{Message}
use Rattle.siri_messages.specs.declared.message.Message.TheVariants as message
use Rattle.siri_life.specs.Life.{Mark}
use Rattle.siri_life.specs.Named.{Name}

-- what a message says to a consumer
pub data Heard : Type 0 where
  Delivered : (subscriber identifier : Name) → Mark → (more : Bool) → Carried → Heard  -- a part of a round, and whether further ones follow
  Notified : (identifier : Name) → Mark → Heard  -- a part can be fetched
  Noted : Heard  -- it says nothing of a part: a response, a heartbeat, a delivery that has no place in a round
  Foreign : Heard  -- it is none for a consumer

-- the element of a list of one
abbrev pub only : {A : Type 0} → List A → Option A
only [] = None
only (x ∷ []) = Some x
only (x ∷ y ∷ more) = None

-- what a functional delivery carries
abbrev pub carried_by : FunctionalDelivery → Carried
carried_by d = record { items = d.items; removals = d.removals }

-- a delivery has a place where both names, the start, the round and the part are there
abbrev pub placed_at : (number : ℕ) (subscriber identifier : Option Name) (start round part : Option ℕ) → Bool → Carried → Heard
placed_at number (Some subscriber) (Some identifier) (Some start) (Some round) (Some part) more carried =
    Delivered subscriber identifier (record { number = number; start = start; round = round; part = part }) more carried
placed_at number _ _ _ _ _ more carried = Noted

-- and its number is one, and it has one functional delivery
abbrev pub placed : Option ℕ → Option FunctionalDelivery → Bool → Heard
placed (Some number) (Some d) more = placed_at number d.subscriber_ref d.subscription_ref d.start d.round d.part more (carried_by d)
placed _ _ more = Noted

-- what a ServiceDelivery says
abbrev pub delivery_heard : ServiceDelivery → Heard
delivery_heard d = placed (option_and_then number_of d.request_message_ref) (only (functional_deliveries d)) d.more_data

-- the four numbers of a mark
abbrev pub numbers_of : sent.Mark → Mark
numbers_of m = record { number = m.number; start = m.start; round = m.round; part = m.part }

-- what a message says
abbrev pub heard : Message → Heard
heard (message.ServiceDelivery m) = delivery_heard m
heard (message.DataReadyNotification m) = Notified m.extensions.subscription (numbers_of m.extensions)
heard (message.SubscriptionResponse m) = Noted
heard (message.TerminateSubscriptionResponse m) = Noted
heard (message.CheckStatusResponse m) = Noted
heard (message.HeartbeatNotification m) = Noted
heard (message.ServiceRequest m) = Foreign
heard (message.SubscriptionRequest m) = Foreign
heard (message.TerminateSubscriptionRequest m) = Foreign
heard (message.DataReadyAcknowledgement m) = Foreign
heard (message.DataSupplyRequest m) = Foreign
heard (message.DataReceivedAcknowledgement m) = Foreign
heard (message.CheckStatusRequest m) = Foreign
