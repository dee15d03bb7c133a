-- The stamps of items that may be shown to a topic by their keys.
-- Inner words: cited by private functions alone.
use Rattle.std.specs.Prelude.{Bool, false, List, filter}
use Rattle.std.specs.Option.{option_map_or}
use Rattle.siri_topic.specs.declared.topics.Topic.{Topic}
use Rattle.siri_store.specs.Candidates.{may_be_shown}
use Rattle.siri_store.specs.Stamped.{Stamp}

abbrev pub is_asked : Topic → Stamp → Bool
is_asked t stamp = option_map_or (may_be_shown t) stamp.2 false

abbrev pub asked_stamps : Topic → List Stamp → List Stamp
asked_stamps t stamps = filter (is_asked t) stamps
