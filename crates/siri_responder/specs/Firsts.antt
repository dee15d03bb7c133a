-- How many visits are looked at for a direct response.
use Rattle.std.specs.Prelude.{◌≡◌, ℕ, ◌+◌, ◌≤◌, Some}
use Rattle.siri_records.specs.Keyed.{Items}
use Rattle.siri_topic.specs.declared.topics.Topic.{Topic}
use Rattle.siri_topic.specs.Shown.{window_of}
use Rattle.siri_model.specs.Direct.{direct_to, most_of}
use Rattle.siri_model.specs.Followed.{visits_to}

-- of a topic with MaximumStopVisits no more than come up to the last of it, or than have their entry in the window
abbrev pub AreWithin : (now : ℕ) → Items → Topic → (before after : ℕ) → Type 0
AreWithin now items topic before after =
    (most : ℕ) → most_of topic ≡ Some most → after ≤ before + visits_to topic most (window_of topic now) (direct_to now items topic) items
