-- Inner words: what is shown of a subscription that is held.
use Rattle.siri_life.specs.Named.{Name}
use Rattle.siri_records.specs.Keyed.{Items}
use Rattle.siri_view.specs.declared.outcome.Held.{Held}
use Rattle.siri_view.specs.Consuming.{held_by}
use Rattle.siri_view.specs.Kept.{HeldSubscription}

-- its identifier, the round that its view is of, and the view
abbrev pub shown : Name × HeldSubscription → Name × Held × Items
shown entry = (entry.0, held_by entry.1, entry.1.view)
