-- The network that a world is: its producer with the lives of all starts, what each consumer keeps, and its packets as
-- letters.
use Rattle.std.specs.Prelude.{◌≡◌, ℕ, List, [], ◌∷◌, ◌++◌, Option}
use Rattle.std.specs.Option.{option_map_or, option_and_then}
use Rattle.siri_records.specs.Keyed.{Items}
use Rattle.siri_messages.specs.Asked.{AskedFor}
use Rattle.siri_change.specs.Parts.{Carried}
use Rattle.siri_life.specs.Named.{Name, Of, next_of}
use Rattle.siri_life.specs.Network.{Network}
use Rattle.siri_model.specs.History.{History}
use Rattle.siri_model.specs.Lives.{Living, Served, none_served, serving_of}
use Rattle.siri_view.specs.Consuming.{Consuming}
use Rattle.siri_view.specs.Kept.{HeldSubscription, kept_of}
use Rattle.siri_world_model.specs.Consumers.{consumer_of}
use Rattle.siri_world_model.specs.World.{World}
use Rattle.siri_world_model.specs.laws.Letters.{letters_of}

-- ---- the producer's side

-- lives that ended before come first
abbrev pub with_ended : List (Of Living) → Served → Served
with_ended before served = record served { ended = before ++ served.ended }

-- all lives of a start, once the next has begun
abbrev pub all_lives : Served → List (Of Living)
all_lives served = served.ended ++ served.table

-- the latest start, with the ended lives of all starts, the oldest first
abbrev pub serving_from : List (Of Living) → List History → Served
serving_from before [] = none_served
serving_from before (history ∷ []) = with_ended before (serving_of history)
serving_from before (history ∷ next ∷ more) = serving_from (before ++ all_lives (serving_of history)) (next ∷ more)

-- the producer's side of a world
abbrev pub serving_in : World → Served
serving_in world = serving_from [] world.starts

-- ---- the consumers

-- the next number of a consumer
abbrev pub next_number_of : Name → List Consuming → ℕ
next_number_of name consumers = option_map_or (λ consumer. consumer.next_number) (consumer_of name consumers) 1

-- what a consumer keeps of a subscription
abbrev pub kept_by : (name identifier : Name) → List Consuming → Option HeldSubscription
kept_by name identifier consumers = option_and_then (λ consumer. kept_of identifier consumer.held) (consumer_of name consumers)

-- ---- the network

abbrev pub WorldNetwork : Type 0
WorldNetwork = Network Items Carried AskedFor History

-- a network is the one that a world is
pub record Fits (world : World) (network : WorldNetwork) : Type 0 where
  pub serving : network.serving ≡ serving_in world
  pub numbers : (name : Name) → next_of (network.numbers name) ≡ next_number_of name world.consumers
  pub holdings : (name identifier : Name) → network.holdings name identifier ≡ kept_by name identifier world.consumers
  pub letters : network.letters ≡ letters_of world.packets
