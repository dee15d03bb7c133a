-- The subscriptions of a producer after its history, and the life of each (EN 15531-2, subscriptions and deliveries).
use Rattle.std.specs.Prelude.{ℕ, List, [], ◌∷◌, map, fold, Bool, true, false, Option, Some, None, if◌then◌else◌}
use Rattle.std.specs.List.{last_or}
use Rattle.siri_records.specs.Keyed.{Items}
use Rattle.siri_messages.specs.Asked.{AskedFor, asked_in}
use Rattle.siri_messages.specs.Rounds.{has_round}
use Rattle.siri_messages.specs.declared.message.Message.{Message}
use Rattle.siri_messages.specs.declared.message.Message.TheVariants as message
use Rattle.siri_messages.specs.declared.supplies.Mark.{Mark}
use Rattle.siri_change.specs.Parts.{Carried}
use Rattle.siri_life.specs.Life as life
use Rattle.siri_life.specs.Life.{Life, Packet, Subscribe, Terminate, AllData, Supply, Acknowledge, is_quiet}
use Rattle.siri_life.specs.Named.{Name, Of, find}
use Rattle.siri_life.specs.Serving.{Serving, Act, Clocked, Fed, Heard, Settled, opening_serving, serving_after}
use Rattle.siri_model.specs.History.{Entry, Step, Start, Clock, Feed, Take, Settle, History, entries_of}
use Rattle.siri_model.specs.Meaning.{direct_of, meaning}

-- ---- what a message says, subscription by subscription

-- the part that a mark names
abbrev pub mark_of : Mark → life.Mark
mark_of m = record { number = m.number; start = m.start; round = m.round; part = m.part }

-- a DataSupplyRequest: it fetches a part; or with AllData it asks for all of an acceptance, and its mark has the request's
-- number as Number and the base of the acceptance as Round
abbrev pub supply_of : (all_data : Bool) → Mark → Packet Carried AskedFor
supply_of true mark = AllData mark.number mark.round
supply_of false mark = Supply (mark_of mark)

-- the acknowledgement of a part: it has Status true, a ConsumerRef and a mark
abbrev pub acknowledgement_of : Bool → Option Name → Option Mark → List (Act Carried AskedFor Entry)
acknowledgement_of true (Some consumer) (Some mark) = Heard consumer mark.subscription (Acknowledge (mark_of mark)) ∷ []
acknowledgement_of status consumer mark = []

-- a message that is taken, as each subscription hears it; a ServiceDelivery of no round is a feed
unfoldable pub acts_in : Message → List (Act Carried AskedFor Entry)
acts_in (message.SubscriptionRequest r) =
    map (λ asked. Heard asked.subscription.subscriber asked.subscription.identifier (Subscribe r.message_identifier asked)) (asked_in r)
acts_in (message.TerminateSubscriptionRequest r) = map (λ identifier. Heard r.subscriber_ref identifier (Terminate r.message_identifier)) r.subscription_ref
acts_in (message.DataReceivedAcknowledgement a) = acknowledgement_of a.status a.consumer_ref a.extensions
acts_in (message.DataSupplyRequest r) = Heard r.consumer_ref r.extensions.subscription (supply_of r.all_data r.extensions) ∷ []
acts_in (message.ServiceDelivery d) = if has_round d then [] else Fed (entries_of d) ∷ []
acts_in other = []

-- a step, as each subscription hears it
abbrev pub acts_of : Step → List (Act Carried AskedFor Entry)
acts_of (Start number moment) = []
acts_of (Clock moment) = Clocked moment ∷ []
acts_of (Feed entries) = Fed entries ∷ []
acts_of (Take message) = acts_in message
acts_of Settle = Settled ∷ []

-- ---- what a producer serves

-- a producer's side: its table, and the lives that ended
abbrev pub Served : Type 0
Served = Serving Items Carried AskedFor History

-- the life of a subscription that is held
abbrev pub Living : Type 0
Living = Life Items Carried AskedFor

-- after one step: a start starts anew, wherever it stands
unfoldable pub served_after : Served → Step → Served
served_after served (Start number moment) = opening_serving meaning number moment
served_after served step = serving_after meaning (acts_of step) served

-- before its first step nothing is held
abbrev pub none_served : Served
none_served = opening_serving meaning 0 0

-- what a producer serves after its history
abbrev pub serving_of : History → Served
serving_of history = fold served_after none_served history

-- the table: the subscriptions that are held, in order of first acceptance, each with its life
abbrev pub table_of : History → List (Of Living)
table_of history = (serving_of history).table

-- the life of a subscription, where it is held
abbrev pub life_of : Name → Name → History → Option Living
life_of subscriber identifier history = find subscriber identifier (table_of history)

-- ---- quiet

abbrev pub is_settle : Option Step → Bool
is_settle (Some Settle) = true
is_settle other = false

-- the last step of a history is a settle
abbrev pub is_settled : History → Bool
is_settled history = is_settle (last_or None history)

-- the number of a life, where it is quiet
abbrev pub number_if_quiet : History → Option Living → Option ℕ
number_if_quiet history None = None
number_if_quiet history (Some living) = if is_quiet meaning living (direct_of history living.wanted) then Some living.number else None

-- the number under which a subscription is held, where it is quiet; it is told right after a settle alone
abbrev pub quiet_number : History → Name → Name → Option ℕ
quiet_number history subscriber identifier = if is_settled history then number_if_quiet history (life_of subscriber identifier history) else None
