-- Inner words: cited by private functions alone. What a part of a turn does, with the relay as it is.
use Rattle.std.specs.Prelude.{◌≡◌, ℕ, List, Bool, Option, None, Some, if◌then◌else◌}
use Rattle.siri_messages.specs.declared.message.Message.{Message}
use Rattle.siri_producer.specs.Known.{StandsFor}
use Rattle.siri_relay.specs.Relaying.{KnownRelay, upper_of}
use Rattle.siri_ends.specs.Serving.{acknowledging}
use Rattle.siri_relay_run.specs.declared.going.Going.{Going}
use Rattle.siri_relay_run.specs.Relays.{Relaying, after_hearing, after_taking, brought_by}

-- a relay's name is that of its producer
abbrev pub name_of : KnownRelay → List ℕ
name_of relay = relay.producer.responder.name

-- a relay stands for whatever history its producer stands for, with what it has beside it
pub record Stands (relay : KnownRelay) (state : Relaying) : Type 0 where
  pub history : StandsFor relay.producer state.history
  pub upper : state.upper ≡ upper_of relay

-- a message was taken, where there is one
pub record RelayTakes (old new : KnownRelay) (message : Option Message) : Type 0 where
  pub name : name_of new ≡ name_of old
  pub stands : (state : Relaying) → Stands old state → Stands new (after_taking state message)

-- a message was taken and settled, where there is one, and these are to be sent
pub record Hears (old new : KnownRelay) (message : Option Message) (list : List Going) : Type 0 where
  pub name : name_of new ≡ name_of old
  pub stands : (state : Relaying) → Stands old state → Stands new (after_hearing state message)
  pub list_is : (state : Relaying) → Stands old state → list ≡ brought_by (name_of old) state message

-- it is told by this whether a message acknowledges what was sent
abbrev pub IsAcknowledging : Bool → Message → Type 0
IsAcknowledging is message = acknowledging message ≡ (if is then Some message else None)
