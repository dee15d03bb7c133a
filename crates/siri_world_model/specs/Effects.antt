-- What an event does: what is told of it, what is sent, and the world after it.
use Rattle.std.specs.Prelude.{ℕ, ℤ, suc, ◌+◌, max, nat_lt, Bool, true, false, List, [], ◌∷◌, ◌++◌, length, map}
use Rattle.std.specs.Prelude.{if◌then◌else◌, Option, Some, None}
use Rattle.siri_records.specs.Keyed.{Items}
use Rattle.siri_topic.specs.declared.subscription.Subscription.{Subscription}
use Rattle.siri_messages.specs.declared.deliveries.ServiceDelivery.{ServiceDelivery}
use Rattle.siri_messages.specs.declared.requests.ServiceRequest.{ServiceRequest}
use Rattle.siri_messages.specs.declared.message.Message.{Message}
use Rattle.siri_messages.specs.declared.message.Message.TheVariants as message
use Rattle.siri_life.specs.Named.{Name}
use Rattle.siri_model.specs.Direct.{response}
use Rattle.siri_model.specs.Fed.{counts_of}
use Rattle.siri_model.specs.History.{Step, Start, Clock, Feed, Take, Settle, entries_of, now_of, current}
use Rattle.siri_responder.specs.FedCounts.{fed_counts}
use Rattle.siri_producer.specs.Answers.{answer_to}
use Rattle.siri_producer.specs.Sends.{sends}
use Rattle.siri_producer.specs.declared.answers.Answer.{Answer}
use Rattle.siri_base.specs.Numbers.{greatest_number}
use Rattle.siri_view.specs.Consuming.{Consuming, most_held, held_by, seen_of, after_message, count_after, request_for, after_subscribe}
use Rattle.siri_view.specs.Consuming.{termination_of, after_terminate, after_restart, restart_requests}
use Rattle.siri_view.specs.Kept.{HeldSubscription, kept_of}
use Rattle.siri_view.specs.Sending.{check_request}
use Rattle.siri_view.specs.declared.outcome.AskError.{AskError}
use Rattle.siri_view.specs.declared.outcome.AskError.TheVariants as ask_error
use Rattle.siri_view.specs.declared.outcome.Seen.{Seen}
use Rattle.siri_world_model.specs.declared.event.Event.{Event}
use Rattle.siri_world_model.specs.declared.event.Event.TheVariants as event
use Rattle.siri_world_model.specs.declared.word.Word.TheVariants as word
use Rattle.siri_world_model.specs.Lines as line
use Rattle.siri_world_model.specs.Lines.{ToldLine}
use Rattle.siri_world_model.specs.Packets.{SentPacket, ToProducer, ToConsumer, producer, packet_at, packets_out, reply_to, packets_from, packet_lines}
use Rattle.siri_world_model.specs.Consumers.{consumer_of, consumer_or_new, with_consumer, all_clocked}
use Rattle.siri_world_model.specs.World.{World, latest, goes_on}
use Rattle.siri_world_model.specs.Goals.{goal, is_quiet}

-- what is told of an event before its packets, its packets in the order sent, and the world after it but for them
pub record Effect : Type 0 where
  pub lines : List ToldLine
  pub packets : List SentPacket
  pub world : World

-- nothing is sent, and nothing changes
abbrev pub tells : World → List ToldLine → Effect
tells world lines = record { lines = lines; packets = []; world = world }

-- ---- the producer

-- the next start, whose number is one more than the last; no settle follows
abbrev pub started : World → ℕ → Effect
started world moment = let number = suc (length world.starts) in
    record {
      lines = line.Started number ∷ [];
      packets = [];
      world = record world {
        moment = max world.moment moment;
        starts = world.starts ++ (Start number moment ∷ []) ∷ [];
        consumers = all_clocked moment world.consumers;
      };
    }

-- the producer takes a step and settles: these packets are sent before what the settle sends
abbrev pub settles : World → Step → List ToldLine → List SentPacket → Effect
settles world step lines before = record {
  lines = lines;
  packets = before ++ packets_out (sends producer (latest world ++ step ∷ []));
  world = goes_on world (step ∷ Settle ∷ []);
}

-- a later moment, for the consumers too
abbrev pub clocked : World → ℕ → Effect
clocked world moment =
    settles (record world { moment = max world.moment moment; consumers = all_clocked moment world.consumers }) (Clock moment) [] []

-- a feed, which is told in numbers
abbrev pub fed : World → ServiceDelivery → Effect
fed world delivery = let history = latest world in
    settles world (Feed (entries_of delivery)) (line.Fed (fed_counts (counts_of (now_of history) (current history) (entries_of delivery))) ∷ []) []

-- a request, which is answered by the direct response (EN 15531-2, request and response); no settle follows
abbrev pub asked : World → ServiceRequest → Effect
asked world request = let history = latest world in
    tells world (line.Answer (message.ServiceDelivery (response producer (now_of history) (current history) request)) ∷ [])

-- ---- the consumers

-- a consumer sends these messages to the producer, after this line
abbrev pub sent_by : World → Consuming → List ToldLine → List Message → Effect
sent_by world consumer lines messages = record {
  lines = lines;
  packets = packets_from consumer.name messages;
  world = record world { consumers = with_consumer consumer world.consumers };
}

-- why a consumer doesn't ask for a subscription: its numbers are used up, or it would hold too many
abbrev pub ask_refusal : Consuming → Subscription → Option AskError
ask_refusal consumer wanted =
    if nat_lt greatest_number consumer.next_number then Some ask_error.Spent
    else (if nat_lt most_held (count_after consumer (wanted ∷ [])) then Some ask_error.TooMany else None)

abbrev pub subscribed_if : Option AskError → World → Consuming → Subscription → ℤ → Effect
subscribed_if (Some error) world consumer wanted beat = sent_by world consumer (line.Refused consumer.name error ∷ []) []
subscribed_if None world consumer wanted beat =
    sent_by world (after_subscribe consumer (wanted ∷ []) beat) [] (request_for consumer (wanted ∷ []) beat ∷ [])

-- a consumer asks for a subscription (EN 15531-2, SubscriptionRequest)
abbrev pub subscribed : World → Consuming → Subscription → ℤ → Effect
subscribed world consumer wanted beat = subscribed_if (ask_refusal consumer wanted) world consumer wanted beat

-- a consumer ends what it holds (EN 15531-2, TerminateSubscriptionRequest)
abbrev pub terminated_if : World → Consuming → Name → Option HeldSubscription → Effect
terminated_if world consumer identifier None = tells world (line.Unknown consumer.name (Some identifier) ∷ [])
terminated_if world consumer identifier (Some kept) =
    if nat_lt greatest_number consumer.next_number then tells world (line.Refused consumer.name ask_error.Spent ∷ [])
    else sent_by world (after_terminate consumer identifier) [] (termination_of consumer identifier ∷ [])

abbrev pub terminated : World → Name → Name → Option Consuming → Effect
terminated world name identifier None = tells world (line.Unknown name (Some identifier) ∷ [])
terminated world name identifier (Some consumer) = terminated_if world consumer identifier (kept_of identifier consumer.held)

-- a consumer's numbers are used up before the last that it needs for a restart, one for each subscription that it holds
abbrev pub lacks_numbers : Consuming → Bool
lacks_numbers consumer = nat_lt (greatest_number + 1) (consumer.next_number + length consumer.held)

-- a consumer restarts, and asks for all of each subscription that it holds (EN 15531-2, DataSupplyRequest with AllData)
abbrev pub restarted_if : (lacks : Bool) → World → Consuming → Effect
restarted_if true world consumer = tells world (line.Refused consumer.name ask_error.Spent ∷ [])
restarted_if false world consumer = sent_by world (after_restart consumer) [] (restart_requests consumer)

abbrev pub restarted : World → Name → Option Consuming → Effect
restarted world name None = tells world (line.Unknown name None ∷ [])
restarted world name (Some consumer) = restarted_if (lacks_numbers consumer) world consumer

-- a consumer asks whether the producer is there (EN 15531-2, CheckStatusRequest)
abbrev pub checked : World → Name → Option Consuming → Effect
checked world name None = tells world (line.Unknown name None ∷ [])
checked world name (Some consumer) = sent_by world consumer [] (check_request consumer.name consumer.moment ∷ [])

-- ---- packets

-- the producer takes a message, settles, and its reply goes to the sender
abbrev pub answered : World → (sender : Name) → Message → Answer → Effect
answered world sender message answer =
    settles world (Take message) (line.Took producer (word.Producer answer.note) ∷ []) (reply_to sender answer.reply)

-- a consumer takes a message, and replies to the producer
abbrev pub taken_by : World → Consuming → Message → Seen → Effect
taken_by world consumer message seen =
    sent_by world (after_message consumer message) (line.Took consumer.name (word.Consumer seen.outcome) ∷ []) seen.replies

-- to a consumer that was never made nothing is sent, and so nothing comes
abbrev pub taken_if : World → Option Consuming → Message → Effect
taken_if world None message = tells world []
taken_if world (Some consumer) message = taken_by world consumer message (seen_of consumer message)

-- a packet reaches its receiver: of the producers the one of the latest start
abbrev pub delivered : World → ℕ → Option SentPacket → Effect
delivered world number None = tells world (line.NoPacket number ∷ [])
delivered world number (Some (ToProducer sender message)) = answered world sender message (answer_to producer (latest world) message)
delivered world number (Some (ToConsumer receiver message)) = taken_if world (consumer_of receiver world.consumers) message

-- ---- views

-- a view is told with its items, in order of key
abbrev pub view_lines : World → Consuming → Name → HeldSubscription → Items → List ToldLine
view_lines world consumer identifier kept items =
    line.View consumer.name identifier (held_by kept) (length items) (is_quiet world consumer.name identifier kept.number)
    ∷ map (λ entry. line.Item entry.1) items

abbrev pub viewed_if : World → Consuming → Name → Option HeldSubscription → Effect
viewed_if world consumer identifier None = tells world (line.Unknown consumer.name (Some identifier) ∷ [])
viewed_if world consumer identifier (Some kept) =
    tells world (view_lines world consumer identifier kept (goal world consumer.name identifier kept.origin))

-- what a consumer shows of a subscription
abbrev pub viewed : World → Name → Name → Option Consuming → Effect
viewed world name identifier None = tells world (line.Unknown name (Some identifier) ∷ [])
viewed world name identifier (Some consumer) = viewed_if world consumer identifier (kept_of identifier consumer.held)

-- ---- events

-- what an event does, whatever the limits are
unfoldable pub effect : World → Event → Effect
effect world (event.Start moment) = started world moment
effect world (event.Clock moment) = clocked world moment
effect world (event.Feed delivery) = fed world delivery
effect world (event.Ask request) = asked world request
effect world (event.Subscribe name wanted beat) = subscribed world (consumer_or_new world.moment name (consumer_of name world.consumers)) wanted beat
effect world (event.Terminate name identifier) = terminated world name identifier (consumer_of name world.consumers)
effect world (event.Restart name) = restarted world name (consumer_of name world.consumers)
effect world (event.Status name) = checked world name (consumer_of name world.consumers)
effect world (event.Deliver number) = delivered world number (packet_at number world.packets)
effect world (event.View name identifier) = viewed world name identifier (consumer_of name world.consumers)

-- all that is told: its lines, and then each packet that is sent
abbrev pub all_lines : World → Effect → List ToldLine
all_lines world e = e.lines ++ packet_lines (suc (length world.packets)) e.packets

-- the world with the packets that are sent
abbrev pub with_packets : Effect → World
with_packets e = record e.world { packets = e.world.packets ++ e.packets }
