-- Proper histories of a producer: each moment, each item and each message that a step brings is one that a document can say.
use Rattle.std.specs.Prelude.{⊤}
use Rattle.std.specs.List.{AllByRecursion}
use Rattle.siri_model.specs.History.{Entry, Observed, Withdrawn, Step, Start, Clock, Feed, Take, Settle, History}
use Rattle.siri_tables.specs.Proper.{IsMoment}
use Rattle.siri_items.specs.Proper.{IsProper as IsProperItem}
use Rattle.siri_wire.specs.laws.ProperMessages.{IsProper}

-- an item that is observed is proper; of a key that is withdrawn nothing is shown
abbrev pub IsProperEntry : Entry → Type 0
IsProperEntry (Observed item) = IsProperItem item
IsProperEntry (Withdrawn key) = ⊤

abbrev pub IsProperStep : Step → Type 0
IsProperStep (Start number moment) = IsMoment moment
IsProperStep (Clock moment) = IsMoment moment
IsProperStep (Feed entries) = AllByRecursion IsProperEntry entries
IsProperStep (Take message) = IsProper message
IsProperStep Settle = ⊤

-- each step of the history is proper
abbrev pub IsProperHistory : History → Type 0
IsProperHistory h = AllByRecursion IsProperStep h
