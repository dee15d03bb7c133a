-- What a relay feeds its producer of a view.
use Rattle.std.specs.Prelude.{ℕ, List, [], ◌∷◌, map, nat_le, length, Bool, if◌then◌else◌}
use Rattle.siri_records.specs.Keyed.{Items, living, most_live}
use Rattle.siri_change.specs.Changes.{changes}
use Rattle.siri_change.specs.Parts.{carried}
use Rattle.siri_model.specs.History.{Entry, Observed, Withdrawn, Step, Feed}

-- the items of a view that aren't dead at a moment
abbrev pub through : Items → ℕ → Items
through view now = living now view

-- a view has room at a producer: no more items than may be live at once
abbrev pub has_room : Items → Bool
has_room view = nat_le (length view) most_live

-- of the view that was fed last, what the producer is known to hold: all of it where the relay is level, else nothing
abbrev pub known_of : (level : Bool) → (fed : Items) → Items
known_of level fed = if level then fed else []

-- the removals: the keys of the view that was fed last which a view lacks, in order of key
abbrev pub removals_fed : (fed view : Items) → List Entry
removals_fed fed view = map Withdrawn (carried (changes fed view)).removals

-- the items: those of a view that differ from what the producer is known to hold, in order of key
abbrev pub items_fed : (level : Bool) → (fed view : Items) → List Entry
items_fed level fed view = map Observed (carried (changes (known_of level fed) view)).items

-- a feed with the removals, and then one with the items, so that a full store has room
abbrev pub feeds_of : (level : Bool) → (fed view : Items) → List Step
feeds_of level fed view = Feed (removals_fed fed view) ∷ Feed (items_fed level fed view) ∷ []
