-- Inner words: cited by private functions alone.
-- The held items that the ends of a topic's window passed, as the store gives them.
use Rattle.std.specs.Prelude.{ℤ, [], fold, Option, Some}
use Rattle.siri_records.specs.declared.item.Service.TheVariants as service
use Rattle.siri_records.specs.Keyed.{Items, with_item}
use Rattle.siri_topic.specs.declared.topics.Topic.{Topic}
use Rattle.siri_topic.specs.declared.topics.Topic.TheVariants as topic
use Rattle.siri_topic.specs.declared.windows.Window.{Window}
use Rattle.siri_store.specs.Crossing.{crossed_entries}
use Rattle.siri_topic.specs.Services.{service_asked}

-- each of some items becomes the one of its key
abbrev pub with_items : Items → Items → Items
with_items items more = fold with_item items more

-- of a situation topic those of which the near end passed an edge
abbrev pub near_entries : Topic → Window → Window → Items → Items
near_entries (topic.Situation t) earlier later items = crossed_entries service.Situation earlier.from later.from items
near_entries t earlier later items = []

-- those of which the far end passed an edge, where there is a far end
abbrev pub far_between : Topic → Option ℤ → Option ℤ → Items → Items
far_between t (Some from) (Some to) items = crossed_entries (service_asked t) from to items
far_between t from to items = []

abbrev pub far_entries : Topic → Window → Window → Items → Items
far_entries t earlier later items = far_between t earlier.to later.to items
