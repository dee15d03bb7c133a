-- Small histories of visits at one stop, run: what the table has of one subscription after them.
use Rattle.std.specs.Prelude.{ℕ, pos, ◌*◌, Bool, true, false, cond, List, [], ◌∷◌, ◌++◌, length, map, flat_map, Option, Some, None, is_some, unwrap_or}
use Rattle.siri_records.specs.Blank.{blank_call, blank_visit_journey}
use Rattle.siri_records.specs.declared.call.StopCall.{StopCall}
use Rattle.siri_records.specs.declared.item.Item.{Item}
use Rattle.siri_records.specs.declared.item.Item.TheVariants as item
use Rattle.siri_records.specs.Ends.{entry_of}
use Rattle.siri_records.specs.Keyed.{Items}
use Rattle.siri_topic.specs.declared.subscription.Subscription.{Subscription}
use Rattle.siri_topic.specs.declared.topics.Topic.TheVariants as topic
use Rattle.siri_messages.specs.Blank.{blank_subscription_request}
use Rattle.siri_messages.specs.declared.message.Message.TheVariants as message
use Rattle.siri_change.specs.Parts.{Carried}
use Rattle.siri_life.specs.Life.{Outstanding}
use Rattle.siri_model.specs.History.{Step, Start, Feed, Take, Settle, Observed, History}
use Rattle.siri_model.specs.Lives.{Living, life_of, quiet_number}

-- ---- names and moments

abbrev pub c1 : List ℕ
c1 = 99 ∷ 49 ∷ []

abbrev pub s1 : List ℕ
s1 = 83 ∷ []

abbrev pub stop : List ℕ
stop = 80 ∷ []

-- seconds after the start
abbrev pub at : ℕ → ℕ
at seconds = 1000 * seconds

-- ---- visits, by their identifier and their departure

abbrev pub call_at : ℕ → StopCall
call_at moment = record blank_call { expected_departure_time = Some moment }

abbrev pub visit : ℕ → ℕ → Item
visit identifier moment = item.Visit (record {
  recorded_at_time = None;
  item_identifier = identifier ∷ [];
  monitoring_ref = stop;
  monitored_vehicle_journey = blank_visit_journey (call_at moment);
})

-- ---- messages

-- a subscription of visits at the stop: its last second, its slack in seconds, whether it is incremental
abbrev pub subscription : ℕ → ℕ → Bool → Subscription
subscription last slack incremental = record {
  subscriber = c1;
  identifier = s1;
  termination = at last;
  topic = topic.Stop (record {
    monitoring_ref = stop;
    line_ref = None;
    direction_ref = None;
    operator_ref = None;
    destination_ref = None;
    preview_interval = None;
    start_time = None;
    maximum_stop_visits = None;
  });
  slack = pos (at slack);
  incremental = incremental;
  fetched = false;
}

-- the request for it under a number
abbrev pub request : ℕ → Subscription → Step
request number wanted =
    Take (message.SubscriptionRequest (record (blank_subscription_request number) { stop_monitoring_subscription_request = wanted ∷ [] }))

-- its termination under a number
abbrev pub termination : ℕ → Step
termination number = Take (message.TerminateSubscriptionRequest (record {
  request_timestamp = None;
  requestor_ref = None;
  message_identifier = number;
  subscriber_ref = c1;
  subscription_ref = s1 ∷ [];
}))

-- the acknowledgement of part 1 of a round, under a number, of a start
abbrev pub acknowledgement : ℕ → ℕ → ℕ → Step
acknowledgement number start round = Take (message.DataReceivedAcknowledgement (record {
  response_timestamp = None;
  consumer_ref = Some c1;
  request_message_ref = None;
  status = true;
  error_condition = None;
  extensions = Some (record { number = number; start = start; round = round; part = 1; subscription = s1 });
}))

-- ---- what the table has

-- the departure of a visit
abbrev pub departure : Item → ℕ
departure i = unwrap_or (entry_of i) 0

-- what the outstanding round carries: of each part the number of its removals, and the departures of its items
abbrev pub carried_in : Option (Outstanding Items Carried) → List ℕ
carried_in None = []
carried_in (Some o) = flat_map (λ part. length part.removals ∷ map departure part.items) o.round.parts

-- of the subscription in the table: its number, how many rounds were opened, 1 where it is quiet, what its outstanding
-- round carries
abbrev pub line_of : History → Option Living → List ℕ
line_of h None = []
line_of h (Some l) = l.number ∷ length l.rounds ∷ cond (is_some (quiet_number h c1 s1)) 1 0 ∷ carried_in l.outstanding

abbrev pub line : History → List ℕ
line h = line_of h (life_of c1 s1 h)

-- ---- histories

-- a feed of one visit, and a settle
abbrev pub fed : ℕ → ℕ → History
fed identifier seconds = Feed (Observed (visit identifier (at seconds)) ∷ []) ∷ Settle ∷ []

-- a start, a visit in ten minutes, and a subscription with this slack that is accepted
abbrev pub subscribed : ℕ → Bool → History
subscribed slack incremental = Start 1 0 ∷ fed 97 600 ++ request 1 (subscription 86400 slack incremental) ∷ Settle ∷ []

-- its first round was acknowledged
abbrev pub level : ℕ → Bool → History
level slack incremental = subscribed slack incremental ++ acknowledgement 1 1 1 ∷ Settle ∷ []
