-- A relay as an end of the exchange (EN 15531-2: a subscriber to its source, and a producer to its own subscribers).
use Rattle.std.specs.Prelude.{ℕ, List, [], ◌∷◌, ◌++◌, map, Option, None, Some, if◌then◌else◌}
use Rattle.siri_outside.specs.Wires.{WireState}
use Rattle.siri_http.specs.Requests.{post_alone}
use Rattle.siri_messages.specs.declared.message.Message.{Message}
use Rattle.siri_model.specs.History.{History, Settle}
use Rattle.siri_producer.specs.Answers.{answer_to}
use Rattle.siri_producer.specs.Sends.{sends}
use Rattle.siri_subscriptions.specs.declared.outs.Out.{Out}
use Rattle.siri_view.specs.Consuming.{seen_of}
use Rattle.siri_relay.specs.Relaying.{UpperSide, is_up, message_steps, missing_steps, upper_after}
use Rattle.siri_ends.specs.At.{At}
use Rattle.siri_ends.specs.Consuming.{PostsUp, first_of, further_of, none_posted_up}
use Rattle.siri_ends.specs.InTurn.{FirstSends, SendsAll}
use Rattle.siri_ends.specs.Manners.{Manner, Posting}
use Rattle.siri_ends.specs.Responses.{message_asked, responding}
use Rattle.siri_ends.specs.Serving.{PostsOut, acknowledging, none_posted_out}
use Rattle.siri_ends.specs.TurnsTaken.{StopsTurn, TakesTurn}
use Rattle.siri_relay_run.specs.declared.going.Going.{Going}
use Rattle.siri_relay_run.specs.declared.going.Going.TheVariants as going

-- the history of its producer, and what it has beside it
pub record Relaying : Type 0 where
  pub history : History
  pub upper : UpperSide

-- ---- what it does with messages

-- It takes a message, where there is one: what is missing is fed first; then a message for the consumer is taken by it, and where a
-- round was applied its changes are fed, and any other is taken by the producer.
abbrev pub after_taking : Relaying → Option Message → Relaying
after_taking relay None = relay
after_taking relay (Some message) = record {
  history = relay.history ++ message_steps relay.upper message;
  upper = upper_after relay.upper message;
}

-- it settles
abbrev pub settled : Relaying → Relaying
settled relay = record relay { history = relay.history ++ Settle ∷ [] }

-- what its consumer replies to a message for it
abbrev pub consumer_replies : Relaying → Message → List Message
consumer_replies relay message = (seen_of relay.upper.consumer message).replies

-- what its producer, of this name, answers to a message for it, once it was fed what was missing
abbrev pub producer_answer : (name : List ℕ) → Relaying → Message → Option Message
producer_answer name relay message = (answer_to name (relay.history ++ missing_steps relay.upper) message).reply

-- what it replies to a message: the first reply of its consumer, or what its producer answers
abbrev pub relay_reply : (name : List ℕ) → Relaying → Message → Option Message
relay_reply name relay message =
    if is_up message then first_of (consumer_replies relay message) else producer_answer name relay message

-- the replies of its consumer that are to be sent where that is answered: the further ones
abbrev pub further_up : Relaying → Option Message → List Message
further_up relay None = []
further_up relay (Some message) = if is_up message then further_of (consumer_replies relay message) else []

-- and where nothing is answered: all of them
abbrev pub all_up : Relaying → Message → List Message
all_up relay message = if is_up message then consumer_replies relay message else []

-- what its producer sends at the settle after a message, where there is one
abbrev pub settled_down : (name : List ℕ) → Relaying → Option Message → List Out
settled_down name relay message = sends name (after_taking relay message).history

-- what goes up is sent before what was settled
abbrev pub goings : List Message → List Out → List Going
goings up down = map going.Up up ++ map going.Down down

-- ---- what it hears of what is answered to its own messages

-- to one that went up each message is taken; to one that went down a DataReceivedAcknowledgement alone
abbrev pub heard_of : Going → Message → Option Message
heard_of (going.Up sent) message = Some message
heard_of (going.Down sent) message = acknowledging message

-- it takes it, and settles
abbrev pub after_hearing : Relaying → Option Message → Relaying
after_hearing relay None = relay
after_hearing relay (Some message) = settled (after_taking relay (Some message))

-- all replies to it are to be sent, and what is settled
abbrev pub brought_by : (name : List ℕ) → Relaying → Option Message → List Going
brought_by name relay None = []
brought_by name relay (Some message) = goings (all_up relay message) (settled_down name relay (Some message))

-- ---- as an end

-- It takes the message of a connection, where that brings one, and settles. The first reply is the answer; the further ones are to be
-- sent to its source, and then what was settled. Of what is answered to its own messages it takes, to one that went to its source,
-- each, and to one that went to a subscriber an acknowledgement; it settles after each that it took.
abbrev pub relaying : (name : List ℕ) → Manner Relaying Going
relaying name = record {
  responds = λ relay asked. responding (relay_reply name relay) asked;
  after = λ relay asked. settled (after_taking relay (message_asked asked));
  sends = λ relay asked. goings (further_up relay (message_asked asked)) (settled_down name relay (message_asked asked));
  hears = λ relay sent message. after_hearing relay (heard_of sent message);
  replies = λ relay sent message. brought_by name relay (heard_of sent message);
}

-- a message's exchange with where it goes: to the upstream address, or to its own
abbrev pub PostsGoing : (host path : List ℕ) → Posting Going
PostsGoing host path (going.Up message) outcome before after = PostsUp host path message outcome before after
PostsGoing host path (going.Down out) outcome before after = PostsOut out outcome before after

-- the first steps of it may be none
pub none_posted_going : (host path : List ℕ) (message : Going) (wire : Option WireState) → PostsGoing host path message None wire wire
none_posted_going host path (going.Up message) wire = none_posted_up host path message wire
none_posted_going host path (going.Down out) wire = none_posted_out out wire

-- messages are sent
abbrev pub SendsGoings : (host path name : List ℕ) → List Going → (at end : At Relaying) → Type 0
SendsGoings host path name list at end = SendsAll (PostsGoing host path) (relaying name) list at end

abbrev pub FirstGoings : (host path name : List ℕ) → List Going → Relaying → (before after : Option WireState) → Type 0
FirstGoings host path name list relay before after = FirstSends (PostsGoing host path) (relaying name) list relay before after

-- a connection is answered, and what comes of it is sent
abbrev pub RelaysOne : (host path name : List ℕ) → (at end : At Relaying) → Type 0
RelaysOne host path name at end = TakesTurn post_alone (PostsGoing host path) (relaying name) at end

abbrev pub RelaysSome : (host path name : List ℕ) → At Relaying → (after : Option WireState) → Type 0
RelaysSome host path name at after = StopsTurn post_alone (PostsGoing host path) (relaying name) at after
