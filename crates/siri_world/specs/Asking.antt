-- Inner words: cited by private functions alone. What becomes of a request that a consumer is to make, and of a message that
-- it takes.
use Rattle.std.specs.Prelude.{◌≡◌, List, [], ◌∷◌, nat_lt, true, false, if◌then◌else◌, Option, Some, None, Result, Ok}
use Rattle.std.specs.Prelude.{Err}
use Rattle.siri_life.specs.Named.{Name}
use Rattle.siri_messages.specs.declared.message.Message.{Message}
use Rattle.siri_base.specs.Numbers.{greatest_number}
use Rattle.siri_view.specs.Consuming.{Consuming, seen_of, after_message, after_restart, restart_requests}
use Rattle.siri_view.specs.Kept.{HeldSubscription, kept_of}
use Rattle.siri_view.specs.declared.outcome.AskError.{AskError}
use Rattle.siri_view.specs.declared.outcome.AskError.TheVariants as ask_error
use Rattle.siri_world_model.specs.declared.word.Word.TheVariants as word
use Rattle.siri_world_model.specs.Consumers.{with_consumer}
use Rattle.siri_world_model.specs.Effects.{lacks_numbers}
use Rattle.siri_world_model.specs.Lines as line
use Rattle.siri_world_model.specs.Lines.{told_lines}
use Rattle.siri_world_model.specs.Packets.{packets_from}
use Rattle.siri_world.specs.declared.happened.Happened.{Happened}
use Rattle.siri_world.specs.Kept.{sent_packets}

-- why a consumer doesn't end a subscription, by what it keeps of it
abbrev pub ending_refusal : Consuming → Option HeldSubscription → Option AskError
ending_refusal consumer None = Some ask_error.NotHeld
ending_refusal consumer (Some kept) = if nat_lt greatest_number consumer.next_number then Some ask_error.Spent else None

abbrev pub termination_refusal : Consuming → Name → Option AskError
termination_refusal consumer identifier = ending_refusal consumer (kept_of identifier consumer.held)

-- this is why; memory may be wanting at any
abbrev pub IsRefusal : AskError → Option AskError → Type 0
IsRefusal ask_error.Spent refusal = refusal ≡ Some ask_error.Spent
IsRefusal ask_error.TooMany refusal = refusal ≡ Some ask_error.TooMany
IsRefusal ask_error.NotHeld refusal = refusal ≡ Some ask_error.NotHeld
IsRefusal ask_error.OutOfMemory refusal = Unit {0}

-- the request is made, and the consumer is this one then; or it isn't, and all is as before
abbrev pub MakesRequest : Option AskError → (request : Message) → (after : Consuming) → List Consuming → Result Message AskError → List Consuming → Type 0
MakesRequest refusal request after old (Ok made) new = (refusal ≡ None) × (made ≡ request) × (new ≡ with_consumer after old)
MakesRequest refusal request after old (Err why) new = IsRefusal why refusal × (new ≡ old)

-- a request that was made is sent, and a refusal is told of
abbrev pub IsTold : Name → Result Message AskError → Happened → Type 0
IsTold name (Ok request) happened = (happened.lines ≡ []) × (sent_packets happened.packets ≡ packets_from name (request ∷ []))
IsTold name (Err ask_error.Spent) happened = (told_lines happened.lines ≡ line.Refused name ask_error.Spent ∷ []) × (happened.packets ≡ [])
IsTold name (Err ask_error.TooMany) happened = (told_lines happened.lines ≡ line.Refused name ask_error.TooMany ∷ []) × (happened.packets ≡ [])
IsTold name (Err ask_error.NotHeld) happened = (told_lines happened.lines ≡ line.Refused name ask_error.NotHeld ∷ []) × (happened.packets ≡ [])
IsTold name (Err ask_error.OutOfMemory) happened = ⊥

-- and that a subscription isn't held is told as it is of a consumer that isn't known
abbrev pub IsEnded : Name → (identifier : Name) → Result Message AskError → Happened → Type 0
IsEnded name identifier (Ok request) happened = IsTold name (Ok request) happened
IsEnded name identifier (Err ask_error.Spent) happened = IsTold name (Err ask_error.Spent) happened
IsEnded name identifier (Err ask_error.TooMany) happened = IsTold name (Err ask_error.TooMany) happened
IsEnded name identifier (Err ask_error.NotHeld) happened = (told_lines happened.lines ≡ line.Unknown name (Some identifier) ∷ []) × (happened.packets ≡ [])
IsEnded name identifier (Err ask_error.OutOfMemory) happened = ⊥

-- the requests of a restart are made, and the consumer is as after it; or they aren't, and all is as before
abbrev pub Restarts : Consuming → List Consuming → Result (List Message) AskError → List Consuming → Type 0
Restarts consumer old (Ok made) new =
    (lacks_numbers consumer ≡ false) × (made ≡ restart_requests consumer)
    × (new ≡ with_consumer (after_restart consumer) old)
Restarts consumer old (Err ask_error.Spent) new = (lacks_numbers consumer ≡ true) × (new ≡ old)
Restarts consumer old (Err ask_error.TooMany) new = ⊥
Restarts consumer old (Err ask_error.NotHeld) new = ⊥
Restarts consumer old (Err ask_error.OutOfMemory) new = new ≡ old

-- requests that were made are sent, and a refusal is told of
abbrev pub AreTold : Name → Result (List Message) AskError → Happened → Type 0
AreTold name (Ok requests) happened = (happened.lines ≡ [])
    × (sent_packets happened.packets ≡ packets_from name requests)
AreTold name (Err ask_error.Spent) happened = (told_lines happened.lines ≡ line.Refused name ask_error.Spent ∷ [])
    × (happened.packets ≡ [])
AreTold name (Err ask_error.TooMany) happened = (told_lines happened.lines ≡ line.Refused name ask_error.TooMany ∷ [])
    × (happened.packets ≡ [])
AreTold name (Err ask_error.NotHeld) happened = (told_lines happened.lines ≡ line.Refused name ask_error.NotHeld ∷ [])
    × (happened.packets ≡ [])
AreTold name (Err ask_error.OutOfMemory) happened = ⊥

-- a message reaches the consumer of a name, if there is one
abbrev pub ConsumerTakes : Name → Option Consuming → Message → (old new : List Consuming) → Happened → Type 0
ConsumerTakes name None message old new happened = (happened.lines ≡ []) × (happened.packets ≡ []) × (new ≡ old)
ConsumerTakes name (Some consumer) message old new happened =
    (told_lines happened.lines ≡ line.Took name (word.Consumer (seen_of consumer message).outcome) ∷ [])
    × (sent_packets happened.packets ≡ packets_from name (seen_of consumer message).replies)
    × (new ≡ with_consumer (after_message consumer message) old)
