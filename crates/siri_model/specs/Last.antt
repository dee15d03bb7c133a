-- The current item of a key in words of its observations: the last one that was taken, unless the key was withdrawn
-- after that.
use Rattle.std.specs.Prelude.{ℕ, List, [], ◌∷◌, ◌++◌, filter, Bool, Option, Some, None, if◌then◌else◌}
use Rattle.std.specs.Ordering.{is_eq}
use Rattle.std.specs.List.{last_or}
use Rattle.siri_records.specs.declared.item.Item.{Item}
use Rattle.siri_records.specs.declared.key.Key.{Key}
use Rattle.siri_records.specs.Keys.{key_of}
use Rattle.siri_records.specs.Order.{key_cmp}
use Rattle.siri_records.specs.Keyed.{Items}
use Rattle.siri_model.specs.Fed.{refuses, taken}
use Rattle.siri_model.specs.History.{Entry, Observed, Withdrawn, State, Step, Start, Feed, Take, History, nothing, after_step, entries_fed}

-- the key that an entry observes or withdraws
abbrev pub entry_key : Entry → Key
entry_key (Observed item) = key_of item
entry_key (Withdrawn key) = key

abbrev pub is_of : Key → Entry → Bool
is_of key entry = is_eq (key_cmp key (entry_key entry))

-- the item that an entry leaves to its key: an observation its item, a removal none
abbrev pub left_by : Entry → Option Item
left_by (Observed item) = Some item
left_by (Withdrawn key) = None

-- the entries that a step brings and that are taken
abbrev pub taken_by : State → Step → List Entry
taken_by state (Feed entries) = taken state.now state.current entries
taken_by state (Take message) = taken state.now state.current (entries_fed message)
taken_by state other = []

-- what was taken before a start counts no more
abbrev pub before : List Entry → Step → List Entry
before entries (Start number moment) = []
before entries other = entries

abbrev pub taken_from : State → List Entry → History → List Entry
taken_from state entries [] = entries
taken_from state entries (step ∷ steps) = taken_from (after_step state step) (before entries step ++ taken_by state step) steps

-- the entries of a history since its latest start, in their order, without the observations that were refused
abbrev pub taken_in : History → List Entry
taken_in history = taken_from nothing [] history

-- what the last of some entries leaves to its key: none where there is no entry
abbrev pub left_by_last : Option Entry → Option Item
left_by_last None = None
left_by_last (Some entry) = left_by entry

-- of those of a key the last
abbrev pub last_of : Key → List Entry → Option Entry
last_of key entries = last_or None (filter (is_of key) entries)

-- a key's item before an entry, and after it
abbrev pub after_one : ℕ → Items → Key → Option Item → Entry → Option Item
after_one now items key before entry = if is_of key entry then (if refuses now items entry then before else left_by entry) else before
