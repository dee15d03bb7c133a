-- Which visits are shown to a topic, by entry and then key (MaximumStopVisits of EN 15531-3 counts them so).
use Rattle.std.specs.Prelude.{ℕ, zero, suc, List, [], ◌∷◌, map, filter, fold, Bool, ◌&&◌, if◌then◌else◌}
use Rattle.std.specs.BTreeMap.{insert_entry}
use Rattle.std.specs.Map.{values_of}
use Rattle.std.specs.Option.{option_map_or}
use Rattle.siri_records.specs.declared.item.Item.{Item}
use Rattle.siri_records.specs.declared.item.Service.TheVariants as service
use Rattle.siri_records.specs.declared.key.Key.{Key}
use Rattle.siri_records.specs.Ends.{entry_of}
use Rattle.siri_records.specs.Keyed.{Items}
use Rattle.siri_topic.specs.declared.topics.Topic.{Topic}
use Rattle.siri_topic.specs.declared.topics.Topic.TheVariants as topic
use Rattle.siri_topic.specs.declared.windows.Window.{Window}
use Rattle.siri_topic.specs.Shown.{is_before, is_from, is_shown, window_of}
use Rattle.siri_store.specs.Crossing.{edge_cmp}
use Rattle.siri_records.specs.Services.{is_of}

-- the entry of an item, and the item's key
abbrev pub under_entry : Key × Item → ℕ × Key
under_entry e = (option_map_or (λ moment. moment) (entry_of e.1) 0, e.0)

-- the visits that pass a test, in order of entry and then of key
abbrev pub visits_by_entry : (Item → Bool) → Items → Items
visits_by_entry passes es =
    map (λ found. (found.0.1, found.1))
    (fold (λ found e. insert_entry edge_cmp found (under_entry e) e.1) [] (filter (λ e. is_of service.Stop e.1 && passes e.1) es))

-- those that are shown to a topic at a moment: to a topic of another service none is
abbrev pub first_entries : Topic → ℕ → Items → Items
first_entries topic moment es = visits_by_entry (λ i. is_shown topic i moment) es

-- the items alone
abbrev pub first_of : Topic → ℕ → Items → List Item
first_of topic moment es = values_of (first_entries topic moment es)

-- an item's entry is at or after the near end of a window, and before its far end where it has one
abbrev pub enters : Window → Item → Bool
enters window i = is_from window.from (entry_of i) && is_before window.to (entry_of i)

-- the visits that a walk over those that are shown may look at: those whose entry is in the window of a topic of stop monitoring
abbrev pub visits_for : Topic → ℕ → Items → Items
visits_for (topic.Stop t) moment es = visits_by_entry (enters (window_of (topic.Stop t) moment)) es
visits_for other moment es = []

-- how many of some entries are looked at until so many of them passed a test, or none is left
abbrev pub looked_until : (Key × Item → Bool) → ℕ → Items → ℕ
looked_until passes zero es = 0
looked_until passes (suc most) [] = 0
looked_until passes (suc most) (e ∷ es) = suc (looked_until passes (if passes e then most else suc most) es)
