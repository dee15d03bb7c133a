-- The history of a producer, and what is current after it.
use Rattle.std.specs.Prelude.{◌≡◌, ℕ, List, [], ◌++◌, length, max, map, flat_map, fold, Bool, ◌&&◌, not, nat_le, is_some, if◌then◌else◌, Option}
use Rattle.std.specs.List.{All}
use Rattle.siri_records.specs.declared.item.Item.{Item}
use Rattle.siri_records.specs.declared.key.Key.{Key}
use Rattle.siri_records.specs.Ends.{is_dead}
use Rattle.siri_records.specs.Keyed.{Items, item_of, with_item, without_key, living, most_live}
use Rattle.siri_records.specs.Keys.{key_of}
use Rattle.siri_messages.specs.declared.deliveries.ServiceDelivery.{ServiceDelivery}
use Rattle.siri_messages.specs.declared.deliveries.FunctionalDelivery.{FunctionalDelivery}
use Rattle.siri_messages.specs.declared.message.Message.{Message}
use Rattle.siri_messages.specs.declared.message.Message.TheVariants as message
use Rattle.siri_messages.specs.Rounds.{functional_deliveries, has_round}

-- an entry of a feed: an item that was observed, or a key that was withdrawn
pub data Entry : Type 0 where
  Observed : Item → Entry
  Withdrawn : Key → Entry

-- the entries of a functional delivery: its items, and then its removals
abbrev pub entries_in : FunctionalDelivery → List Entry
entries_in d = map Observed d.items ++ map Withdrawn d.removals

-- the entries of a delivery, in the order Stop Monitoring, Estimated Timetable, Vehicle Monitoring, Situation Exchange
abbrev pub entries_of : ServiceDelivery → List Entry
entries_of d = flat_map entries_in (functional_deliveries d)

-- the entries that a taken message feeds: those of a ServiceDelivery that belongs to no round
abbrev pub entries_fed : Message → List Entry
entries_fed (message.ServiceDelivery d) = if has_round d then [] else entries_of d
entries_fed other = []

-- a step of a producer: its start, with its start number and moment; a moment of its clock; the entries of a feed in
-- their order; a message that it takes; the end of an event
pub data Step : Type 0 where
  Start : ℕ → ℕ → Step
  Clock : ℕ → Step
  Feed : List Entry → Step
  Take : Message → Step
  Settle : Step

-- the steps of one producer, from its start on. It has no name: a producer keeps its own, and no step changes it
abbrev pub History : Type 0
History = List Step

-- each item stands under its own key
abbrev pub IsKeyed : Items → Type 0
IsKeyed items = All (λ entry. entry.0 ≡ key_of entry.1) items

-- a key is live where its current item isn't dead
abbrev pub is_live : ℕ → Items → Key → Bool
is_live now items key = is_some (item_of (living now items) key)

-- an observation is refused where it isn't dead, its key isn't live, and as many keys are live as may be
abbrev pub is_refused : ℕ → Items → Item → Bool
is_refused now items item = not (is_dead item now) && (not (is_live now items (key_of item)) && nat_le most_live (length (living now items)))

-- the items after an entry: an observed item becomes the one of its key, unless it is refused; a withdrawn key has none
abbrev pub after_entry : ℕ → Items → Entry → Items
after_entry now items (Observed item) = if is_refused now items item then items else with_item items (key_of item, item)
after_entry now items (Withdrawn key) = without_key items key

-- what a producer knows: its start number, the moment of its start, its moment, which is the greatest that it was given,
-- and the current items, dead ones among them
pub record State : Type 0 where
  pub start : ℕ
  pub started : ℕ
  pub now : ℕ
  pub current : Items

-- what it knows before its first step
abbrev pub nothing : State
nothing = record { start = 0; started = 0; now = 0; current = [] }

-- the state after the entries of a feed
abbrev pub fed : State → List Entry → State
fed state entries = record state { current = fold (after_entry state.now) state.current entries }

-- a start starts anew, wherever it stands; a message that feeds nothing leaves what is current
unfoldable pub after_step : State → Step → State
after_step state (Start number moment) = record { start = number; started = moment; now = moment; current = [] }
after_step state (Clock moment) = record state { now = max state.now moment }
after_step state (Feed entries) = fed state entries
after_step state (Take message) = fed state (entries_fed message)
after_step state Settle = state

-- what it knows after its history
abbrev pub state_of : History → State
state_of history = fold after_step nothing history

-- the number and the moment of a history's latest start
abbrev pub start_of : History → ℕ
start_of history = (state_of history).start

abbrev pub started_of : History → ℕ
started_of history = (state_of history).started

-- the greatest moment since the latest start of a history
abbrev pub now_of : History → ℕ
now_of history = (state_of history).now

-- the current items after a history, in order of key
abbrev pub current : History → Items
current history = (state_of history).current

-- the current item of a key: the last that was observed of it and taken, unless the key was withdrawn after that
abbrev pub current_at : History → Key → Option Item
current_at history key = item_of (current history) key
