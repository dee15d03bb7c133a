-- What is told of a view: the goal of the round that it belongs to, by the lives of the start that sent it, and whether its
-- subscription is quiet. No change is ever applied here.
use Rattle.std.specs.Prelude.{◌≡◌, ℕ, zero, suc, ◌==◌, List, [], Bool, false, Option, Some, None, slice_get}
use Rattle.siri_records.specs.Keyed.{Items}
use Rattle.siri_change.specs.Parts.{Carried}
use Rattle.siri_life.specs.Life.{Round}
use Rattle.siri_life.specs.Link.{Origin, rounds_of}
use Rattle.siri_life.specs.Named.{Name, find, those}
use Rattle.siri_model.specs.History.{History}
use Rattle.siri_model.specs.Lives.{serving_of, quiet_number}
use Rattle.siri_view.specs.Consuming.{Consuming}
use Rattle.siri_view.specs.Kept.{HeldSubscription, kept_of}
use Rattle.siri_world_model.specs.Consumers.{consumer_of}
use Rattle.siri_world_model.specs.World.{World, latest, start_at}

-- the rounds of the first acceptance of a subscription under a number, in the start of this number
abbrev pub rounds_in : History → (subscriber identifier : Name) → (number start : ℕ) → List (Round Items Carried)
rounds_in history subscriber identifier number start =
    let served = serving_of history in
    rounds_of number start (find subscriber identifier served.table) (those subscriber identifier served.ended)

-- where a round leads
abbrev pub target_of : Option (Round Items Carried) → Items
target_of None = []
target_of (Some round) = round.target

-- the goal of a round, which counts from 1; there is none before round 1
abbrev pub target_at : List (Round Items Carried) → ℕ → Items
target_at rounds zero = []
target_at rounds (suc before) = target_of (slice_get rounds before)

-- the goal of the round that a consumer's view of a subscription belongs to
abbrev pub goal : World → (subscriber identifier : Name) → Origin → Items
goal world subscriber identifier origin =
    target_at (rounds_in (start_at origin.start world) subscriber identifier origin.number origin.start) origin.round

-- what each consumer shows of each subscription that it holds is the goal of the round that its view belongs to
abbrev pub ShowsGoals : World → Type 0
ShowsGoals world =
    (name identifier : Name) (consumer : Consuming) (kept : HeldSubscription) → consumer_of name world.consumers ≡ Some consumer
    → kept_of identifier consumer.held ≡ Some kept → kept.view ≡ goal world consumer.name identifier kept.origin

-- this number is the one
abbrev pub is_number : Option ℕ → ℕ → Bool
is_number None number = false
is_number (Some quiet) number = quiet == number

-- a subscription is quiet at the producer under this number
abbrev pub is_quiet : World → (subscriber identifier : Name) → (number : ℕ) → Bool
is_quiet world subscriber identifier number = is_number (quiet_number (latest world) subscriber identifier) number
