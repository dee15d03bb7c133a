-- The stamps of visits.
-- Inner words: cited by private functions alone.
use Rattle.std.specs.Prelude.{◌≡◌, ℕ, ℤ, filter, Bool, ◌&&◌, List, Option, Some, None, cond, is_some}
use Rattle.std.specs.List.{list_all}
use Rattle.siri_records.specs.declared.item.Item.{Item}
use Rattle.siri_records.specs.declared.key.Key.{Key}
use Rattle.siri_records.specs.Keyed.{Items}
use Rattle.siri_topic.specs.declared.topics.Topic.{Topic}
use Rattle.siri_topic.specs.declared.windows.Window.{Window}
use Rattle.siri_store.specs.CrossWalk.{led, led_by}
use Rattle.siri_store.specs.First.{enters, visits_by_entry}
use Rattle.siri_store.specs.Stamped.{Stamp}
use Rattle.siri_store.specs.Walk.{shown_at}

-- of the items of these stamps those that pass a test are the visits whose entry is in a window and that pass it, by entry and key
abbrev pub AreVisits : Window → Items → List Stamp → Type 0
AreVisits window es stamps = (passes : Item → Bool)
    → filter (λ e. passes e.1) (led window.from es stamps) ≡ visits_by_entry (λ i. enters window i && passes i) es

-- each of these stamps leads to an entry
abbrev pub all_lead : ℤ → Items → List Stamp → Bool
all_lead from es stamps = list_all (λ stamp. is_some (led_by from es stamp)) stamps

-- an entry, where its item is shown
abbrev pub shown_if : Topic → ℕ → Option (Key × Item) → Option (Key × Item)
shown_if topic moment None = None
shown_if topic moment (Some e) = cond (shown_at topic moment e) (Some e) None
