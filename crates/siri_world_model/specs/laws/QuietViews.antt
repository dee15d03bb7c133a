-- What a consumer asked for last, and items under their keys.
use Rattle.std.specs.Prelude.{List, map, fold, Option, Some, None, if◌then◌else◌}
use Rattle.siri_records.specs.declared.item.Item.{Item as AnItem}
use Rattle.siri_records.specs.Keyed.{Items}
use Rattle.siri_records.specs.Keys.{key_of}
use Rattle.siri_messages.specs.Asked.{AskedFor}
use Rattle.siri_life.specs.Named.{Name, same_subscription}
use Rattle.siri_life.specs.Network.{Asks, Stops}
use Rattle.siri_world_model.specs.declared.event.Event.{Event}
use Rattle.siri_world_model.specs.laws.Happenings.{Happens, happened}

-- items under their keys
abbrev pub by_key : List AnItem → Items
by_key items = map (λ item. (key_of item, item)) items

-- what a consumer asked for with a subscription, after something that happened
abbrev pub asked_after : (consumer identifier : Name) → Option AskedFor → Happens → Option AskedFor
asked_after consumer identifier before (Asks name other wanted) = if same_subscription consumer identifier name other then Some wanted else before
asked_after consumer identifier before (Stops name other) = if same_subscription consumer identifier name other then None else before
asked_after consumer identifier before other = before

-- what it asked for last, unless it has ended the subscription since
abbrev pub asked_last : List Event → (consumer identifier : Name) → Option AskedFor
asked_last events consumer identifier = fold (asked_after consumer identifier) None (happened events)
