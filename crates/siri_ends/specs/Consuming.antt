-- A consumer as an end of the exchange (EN 15531-2, deliveries, notifications and their acknowledgements).
use Rattle.std.specs.Prelude.{ℕ, List, [], ◌∷◌, Option, None, Some}
use Rattle.std.proofs.Common.{refl, inl}
use Rattle.siri_outside.specs.Wires.{WireState}
use Rattle.siri_outside.specs.OutsideCalls.{WhereTold}
use Rattle.siri_http.specs.Posts.{PostsTo}
use Rattle.siri_http.specs.Requests.{post_alone}
use Rattle.siri_http.specs.Texts.{request_text}
use Rattle.siri_http.specs.declared.posting.Sent.{Sent}
use Rattle.siri_messages.specs.declared.message.Message.{Message}
use Rattle.siri_view.specs.Consuming.{Consuming, after_message, seen_of}
use Rattle.siri_wire.specs.Canonical.{canonical}
use Rattle.siri_ends.specs.At.{At}
use Rattle.siri_ends.specs.InTurn.{FirstSends, SendsAll}
use Rattle.siri_ends.specs.Manners.{Manner}
use Rattle.siri_ends.specs.Responses.{message_asked, responding}
use Rattle.siri_ends.specs.TurnsTaken.{StopsTurn, TakesTurn}

-- the first of the replies to a message is its answer
abbrev pub first_of : List Message → Option Message
first_of [] = None
first_of (first ∷ further) = Some first

-- the further ones are sent up
abbrev pub further_of : List Message → List Message
further_of [] = []
further_of (first ∷ further) = further

-- what a consumer answers to a message
abbrev pub consumer_reply : Consuming → Message → Option Message
consumer_reply consumer message = first_of (seen_of consumer message).replies

-- a message's exchange with the producer's address, or the first steps of it, which `PostsTo` tells
abbrev pub PostsUp : (host path : List ℕ) → Message → Option Sent → (before after : Option WireState) → Type 0
PostsUp host path message outcome before after = WhereTold before after
    (PostsTo host (request_text host path (canonical message)) outcome)

-- the first steps of it may be none
pub none_posted_up : (host path : List ℕ) (message : Message) (wire : Option WireState) → PostsUp host path message None wire wire
none_posted_up host path message None = tt
none_posted_up host path message (Some wire) = inl refl

-- the consumer takes the message of a connection, where that brings one
abbrev pub after_taking : Consuming → Option Message → Consuming
after_taking consumer None = consumer
after_taking consumer (Some message) = after_message consumer message

-- and replies this to it
abbrev pub replies_to : Consuming → Option Message → List Message
replies_to consumer None = []
replies_to consumer (Some message) = (seen_of consumer message).replies

-- It takes the message of a connection, where that brings one; the first reply is the answer, and the further ones are to be
-- sent. Of what is answered to its own messages it takes each, and all replies are to be sent.
abbrev pub consuming : Manner Consuming Message
consuming = record {
  responds = λ consumer asked. responding (consumer_reply consumer) asked;
  after = λ consumer asked. after_taking consumer (message_asked asked);
  sends = λ consumer asked. further_of (replies_to consumer (message_asked asked));
  hears = λ consumer sent message. after_message consumer message;
  replies = λ consumer sent message. (seen_of consumer message).replies;
}

-- messages are sent up
abbrev pub SendsUp : (host path : List ℕ) → List Message → (at end : At Consuming) → Type 0
SendsUp host path list at end = SendsAll (PostsUp host path) consuming list at end

abbrev pub FirstSendsUp : (host path : List ℕ) → List Message → Consuming → (before after : Option WireState) → Type 0
FirstSendsUp host path list consumer before after = FirstSends (PostsUp host path) consuming list consumer before after

-- a connection is answered, and the further replies are sent up
abbrev pub ConsumesOne : (host path : List ℕ) → (at end : At Consuming) → Type 0
ConsumesOne host path at end = TakesTurn post_alone (PostsUp host path) consuming at end

abbrev pub ConsumesSome : (host path : List ℕ) → At Consuming → (after : Option WireState) → Type 0
ConsumesSome host path at after = StopsTurn post_alone (PostsUp host path) consuming at after
