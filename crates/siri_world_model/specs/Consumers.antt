-- The consumers of a world by their names, in order of first use.
use Rattle.std.specs.Prelude.{ℕ, List, [], ◌∷◌, map, Bool, if◌then◌else◌, Option, Some, None}
use Rattle.std.specs.List.{list_any}
use Rattle.siri_topic.specs.Agreement.{same_name}
use Rattle.siri_life.specs.Named.{Name}
use Rattle.siri_view.specs.Consuming.{Consuming, clocked}

-- a consumer has this name
abbrev pub is_named : Name → Consuming → Bool
is_named name consumer = same_name consumer.name name

-- the consumer of a name
abbrev pub consumer_of : Name → List Consuming → Option Consuming
consumer_of name [] = None
consumer_of name (consumer ∷ consumers) = if is_named name consumer then Some consumer else consumer_of name consumers

-- a consumer of this name was made
abbrev pub is_known : Name → List Consuming → Bool
is_known name consumers = list_any (is_named name) consumers

-- a consumer at its first use at a moment: it has no address, its next number is 1, and it holds nothing
abbrev pub new_consumer : Name → (moment : ℕ) → Consuming
new_consumer name moment = record { name = name; address = None; next_number = 1; moment = moment; held = [] }

-- the consumer of a name at a moment, which is made where there is none
abbrev pub consumer_or_new : (moment : ℕ) → Name → Option Consuming → Consuming
consumer_or_new moment name None = new_consumer name moment
consumer_or_new moment name (Some consumer) = consumer

-- in the place of the one of its name, or as the last
abbrev pub with_consumer : Consuming → List Consuming → List Consuming
with_consumer consumer [] = consumer ∷ []
with_consumer consumer (other ∷ consumers) =
    if is_named consumer.name other then consumer ∷ consumers else other ∷ with_consumer consumer consumers

-- the moments of all become the later
abbrev pub all_clocked : ℕ → List Consuming → List Consuming
all_clocked moment consumers = map (λ consumer. clocked consumer moment) consumers
