-- What a message changes of a consumer (EN 15531-2, subscriptions and deliveries).
use Rattle.std.specs.List.Sorted.{IsStrictlySortedBy}
use Rattle.std.specs.Map.{keys_of}
use Rattle.siri_view.specs.declared.outcome.Outcome.{Outcome}
use Rattle.siri_view.specs.declared.outcome.Outcome.TheVariants as outcome
use Rattle.siri_view.specs.Consuming.{Consuming}
use Rattle.siri_view.specs.Kept.{name_cmp}

-- neither was a part buffered nor a round applied
abbrev pub TakesNothing : Outcome → Type 0
TakesNothing (outcome.Buffered place) = ⊥
TakesNothing (outcome.Applied round) = ⊥
TakesNothing other = Unit {0}

-- what a consumer keeps is in order of the identifiers, each once
abbrev pub IsOrdered : Consuming → Type 0
IsOrdered consumer = IsStrictlySortedBy name_cmp (keys_of consumer.held)
