-- What the machine of a world knows, and the events that it stands for.
use Rattle.std.specs.Prelude.{◌≡◌, ℕ, ◌<◌, List, [], length, Option, Some, None, unwrap_or}
use Rattle.std.specs.List.{last_or}
use Rattle.siri_model.specs.History.{History}
use Rattle.siri_producer.specs.Known as producing
use Rattle.siri_view.specs.Consuming.{Consuming}
use Rattle.siri_world_model.specs.declared.event.Event.{Event}
use Rattle.siri_world_model.specs.Packets.{SentPacket, producer}
use Rattle.siri_world_model.specs.World.{World}
use Rattle.siri_world_model.specs.Told.{world_after}

-- the greatest moment that was given, how often the producer started, what the one of the latest start knows, the consumers
-- in order of first use, and all packets in the order sent
pub record Known : Type 0 where
  pub moment : ℕ
  pub starts : ℕ
  pub producer : Option producing.Known
  pub consumers : List Consuming
  pub packets : List SentPacket

-- a producer of a script's world, and a history that it stands for
pub record Serves (known : producing.Known) (history : History) : Type 0 where
  pub name : known.responder.name ≡ producer
  pub stands : producing.StandsFor known history

-- the producer of the latest start; there is none before the first
abbrev pub IsLatest : Option producing.Known → List History → Type 0
IsLatest None starts = starts ≡ []
IsLatest (Some known) starts = (0 < length starts) × Serves known (unwrap_or (last_or None starts) [])

-- it knows a world: of its starts their number and the producer of the latest
pub record Knows (known : Known) (world : World) : Type 0 where
  pub moment : known.moment ≡ world.moment
  pub starts : known.starts ≡ length world.starts
  pub producer : IsLatest known.producer world.starts
  pub consumers : known.consumers ≡ world.consumers
  pub packets : known.packets ≡ world.packets

-- it stands for events where it knows the world after them
abbrev pub StandsFor : Known → List Event → Type 0
StandsFor known events = Knows known (world_after events)
