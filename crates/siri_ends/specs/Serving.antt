-- A producer as an end of the exchange (EN 15531-2, requests, deliveries, notifications and their acknowledgements).
use Rattle.std.specs.Prelude.{List, ℕ, [], ◌++◌, Option, None, Some}
use Rattle.std.proofs.Common.{refl, inl}
use Rattle.siri_outside.specs.Wires.{WireState}
use Rattle.siri_outside.specs.OutsideCalls.{WhereTold}
use Rattle.siri_http.specs.Addresses.{address_of}
use Rattle.siri_http.specs.Posts.{Posts}
use Rattle.siri_http.specs.Requests.{Meaning}
use Rattle.siri_http.specs.declared.posting.Sent.{Sent}
use Rattle.siri_messages.specs.declared.message.Message.{Message}
use Rattle.siri_messages.specs.declared.message.Message.TheVariants as message
use Rattle.siri_model.specs.History.{History}
use Rattle.siri_producer.specs.Known.{Known, StandsFor}
use Rattle.siri_producer.specs.Sends.{sends}
use Rattle.siri_subscriptions.specs.declared.outs.Out.{Out}
use Rattle.siri_wire.specs.Canonical.{canonical}
use Rattle.siri_ends.specs.At.{At}
use Rattle.siri_ends.specs.At as ends
use Rattle.siri_ends.specs.Manners.{Manner}
use Rattle.siri_ends.specs.Responses.{message_asked, response_to, taking, turn_steps}
use Rattle.siri_ends.specs.TurnsTaken.{StopsTurn, TakesTurn}

-- the host and path of an address, where a message has one that is one
abbrev pub target_of : Option (List ℕ) → Option (List ℕ × List ℕ)
target_of None = None
target_of (Some address) = address_of address

-- a message's exchange with its address, or the first steps of it, which `Posts` tells
abbrev pub PostsOut : Out → Option Sent → (before after : Option WireState) → Type 0
PostsOut out outcome before after = WhereTold before after
    (Posts (target_of out.address) (canonical out.message) outcome)

-- the first steps of it may be none
none_posted : (target : Option (List ℕ × List ℕ)) (body : List ℕ) (wire : WireState) → Posts target body None wire wire
none_posted None body wire = refl
none_posted (Some address) body wire = inl refl

pub none_posted_out : (out : Out) (wire : Option WireState) → PostsOut out None wire wire
none_posted_out out None = tt
none_posted_out out (Some wire) = none_posted (target_of out.address) (canonical out.message) wire

-- a message that acknowledges what was sent
abbrev pub acknowledging : Message → Option Message
acknowledging (message.DataReceivedAcknowledgement a) = Some (message.DataReceivedAcknowledgement a)
acknowledging other = None

-- an acknowledgement is taken and settled
abbrev pub after_acknowledging : Option Message → History → History
after_acknowledging None h = h
after_acknowledging (Some message) h = h ++ turn_steps (Some message)

-- what it settles is sent too
abbrev pub settled_by : (name : List ℕ) → Option Message → History → List Out
settled_by name None h = []
settled_by name (Some message) h = sends name (h ++ taking (Some message))

-- It takes the message of a connection, where that brings one, and settles. Of what is answered to its own messages it
-- takes a DataReceivedAcknowledgement, and settles.
abbrev pub serving : (name : List ℕ) → Manner History Out
serving name = record {
  responds = λ h asked. response_to name h asked;
  after = λ h asked. h ++ turn_steps (message_asked asked);
  sends = λ h asked. sends name (h ++ taking (message_asked asked));
  hears = λ h sent message. after_acknowledging (acknowledging message) h;
  replies = λ h sent message. settled_by name (acknowledging message) h;
}

-- a connection is answered, whose request asks so where it is whole, and what was settled is sent out
abbrev pub ServesOne : (asks : Meaning) → (name : List ℕ) → (at end : At History) → Type 0
ServesOne asks name at end = TakesTurn asks PostsOut (serving name) at end

abbrev pub ServesSome : (asks : Meaning) → (name : List ℕ) → At History → (after : Option WireState) → Type 0
ServesSome asks name at after = StopsTurn asks PostsOut (serving name) at after

-- whatever history a producer stood for before a call; its name stays
abbrev pub Goes : (Does : (name : List ℕ) → At History → At History → Type 0) → (old new : At Known) → Type 0
Goes Does old new = ends.Goes (λ known. known.responder.name) StandsFor Does old new
