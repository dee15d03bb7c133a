-- What is claimed of worlds: of what consumers show, and of what they say of packets (EN 15531-2, subscriptions and
-- deliveries).
use Rattle.std.specs.Prelude.{◌≡◌, ℕ, List, true, Option, Some, None}
use Rattle.siri_messages.specs.declared.message.Message.{Message}
use Rattle.siri_change.specs.Changes.{meets}
use Rattle.siri_life.specs.Named.{Name}
use Rattle.siri_life.specs.laws.Claims.{NamesRound, NamesPart}
use Rattle.siri_model.specs.Meaning.{direct_of}
use Rattle.siri_view.specs.Consuming.{Consuming, seen_of}
use Rattle.siri_view.specs.Hearing.{Heard, Delivered, Notified, Noted, Foreign}
use Rattle.siri_view.specs.Kept.{HeldSubscription, kept_of}
use Rattle.siri_view.specs.declared.outcome.Outcome.{Outcome}
use Rattle.siri_view.specs.declared.outcome.Outcome.TheVariants as outcome
use Rattle.siri_world_model.specs.Consumers.{consumer_of}
use Rattle.siri_world_model.specs.Effects.{viewed}
use Rattle.siri_world_model.specs.Lines.{ToldLine}
use Rattle.siri_world_model.specs.Goals.{goal, is_quiet, rounds_in}
use Rattle.siri_world_model.specs.Packets.{SentPacket, ToProducer, ToConsumer, packet_at}
use Rattle.siri_world_model.specs.World.{World, latest, start_at}
use Rattle.siri_world_model.specs.laws.Networks.{kept_by}

-- ---- what is shown

-- where a subscription is quiet under the number that its consumer holds, what is told of its view meets the direct response
-- to it at this moment, over all observations that were taken since the producer's latest start: it has the same keys, and each item is near
abbrev pub MeetsWhereQuiet : World → Type 0
MeetsWhereQuiet world =
    (name identifier : Name) (consumer : Consuming) (kept : HeldSubscription) → consumer_of name world.consumers ≡ Some consumer
    → kept_of identifier consumer.held ≡ Some kept → is_quiet world consumer.name identifier kept.number ≡ true
    → meets kept.wanted.subscription.slack (goal world consumer.name identifier kept.origin) (direct_of (latest world) kept.wanted) ≡ true

-- ---- what is said of a packet

abbrev pub said_by : Option Consuming → Message → Option Outcome
said_by None message = None
said_by (Some consumer) message = Some (seen_of consumer message).outcome

abbrev pub said_of : World → Option SentPacket → Option Outcome
said_of world None = None
said_of world (Some (ToProducer sender message)) = None
said_of world (Some (ToConsumer receiver message)) = said_by (consumer_of receiver world.consumers) message

-- what the consumer says that the packet of a number comes to
abbrev pub said : World → (number : ℕ) → Option Outcome
said world number = said_of world (packet_at number world.packets)

-- what is told of the view of a subscription
abbrev pub view_told : World → (consumer identifier : Name) → List ToldLine
view_told world consumer identifier = (viewed world consumer identifier (consumer_of consumer world.consumers)).lines

-- it takes a part: it buffers it, or applies its round
abbrev pub TakesPart : Option Outcome → Type 0
TakesPart (Some (outcome.Buffered place)) = Unit {0}
TakesPart (Some (outcome.Applied round)) = Unit {0}
TakesPart other = ⊥

-- it has taken the part before, or wants it no more: no view changes
abbrev pub ChangesNoView : Option Outcome → Type 0
ChangesNoView (Some outcome.UnknownSubscription) = Unit {0}
ChangesNoView (Some outcome.OldStart) = Unit {0}
ChangesNoView (Some outcome.Repeat) = Unit {0}
ChangesNoView other = ⊥

-- neither is a part before it missing, nor is it past the greatest part or round
abbrev pub ShowsNoGap : Option Outcome → Type 0
ShowsNoGap (Some (outcome.Gap wanted)) = ⊥
ShowsNoGap (Some outcome.Overlong) = ⊥
ShowsNoGap other = Unit {0}

-- ---- what a packet carries

-- a part under the number that its receiver holds is the part that its mark names, of the round that its mark names of the first
-- acceptance under that number and start, with the moment at which the round opened and MoreData where a part comes after
-- it; a notification tells of such a round
abbrev pub CarriesItsRound : World → (receiver : Name) → (moment : ℕ) → Heard → Type 0
CarriesItsRound world receiver moment (Delivered subscriber identifier m more part) =
    (kept : HeldSubscription) → kept_by receiver identifier world.consumers ≡ Some kept → m.number ≡ kept.number
    → NamesPart (rounds_in (start_at m.start world) receiver identifier kept.number m.start) m moment more part
CarriesItsRound world receiver moment (Notified identifier m) =
    (kept : HeldSubscription) → kept_by receiver identifier world.consumers ≡ Some kept → m.number ≡ kept.number
    → NamesRound (rounds_in (start_at m.start world) receiver identifier kept.number m.start) m moment
CarriesItsRound world receiver moment Noted = Unit {0}
CarriesItsRound world receiver moment Foreign = Unit {0}
