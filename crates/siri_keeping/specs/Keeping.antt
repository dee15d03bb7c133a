-- What a shelf keeps of a producer's items.
use Rattle.std.specs.Prelude.{◌≡◌, ◌⊎◌, ℕ, List, [], ◌∷◌, ◌++◌, length, map, fold, Bool, true, ◌&&◌, ◌==◌, None, Some, option_map, IsSome}
use Rattle.std.specs.Char.{is_ascii_digit}
use Rattle.std.specs.List.{AllByRecursion, flat_map, list_all, range_with_len, zip}
use Rattle.siri_records.specs.declared.item.Item.{Item}
use Rattle.siri_records.specs.declared.item.Service.{Service}
use Rattle.siri_records.specs.declared.key.Key.{Key}
use Rattle.siri_records.specs.Ends.{is_dead}
use Rattle.siri_records.specs.Keyed.{Items, KeyChange, item_of, living}
use Rattle.siri_deliveries.specs.Removals.{IsProperRemoval}
use Rattle.siri_model.specs.History.{Entry, after_entry}
use Rattle.siri_model.specs.Held.{Held}
use Rattle.siri_row_texts.specs.ItemRows.{item_text, key_text, moment_row}
use Rattle.siri_row_texts.specs.SubscriptionRows.{place_text, renewal_text, request_text}
use Rattle.siri_outside.specs.declared.rows.Put.{Put}
use Rattle.siri_outside.specs.Rows.{Rows, text_at}
use Rattle.siri_outside.specs.Shelves.{ShelfState}

-- the most items that have rows, dead ones among them
abbrev pub most_rows : ℕ
most_rows = 100000

-- a key that a document can name: of an item that a service tells of, by names of 1 to 255 bytes
abbrev pub IsProperKey : Key → Type 0
IsProperKey k = (s : Service) × IsProperRemoval s k

-- table 1 has a row for each of these items, under the text of its key, and no others
pub record HasItems (rows : Rows) (kept : Items) : Type 0 where
  pub each : (k : Key) → IsProperKey k → text_at rows 1 (key_text k) ≡ option_map item_text (item_of kept k)
  pub only : (key : List ℕ) → IsSome (text_at rows 1 key) → (k : Key) × IsProperKey k × (key ≡ key_text k)

-- the live items are among those that are kept, and the rest of these are dead
pub record Covers (now : ℕ) (live kept : Items) : Type 0 where
  pub has_live : (k : Key) (i : Item) → item_of live k ≡ Some i → item_of kept k ≡ Some i
  pub rest_dead : (k : Key) (i : Item) → item_of kept k ≡ Some i → (item_of live k ≡ Some i) ⊎ (is_dead i now ≡ true)

-- of current items the live ones at a moment, and those after the entries of a feed
abbrev pub live_of : ℕ → Items → Items
live_of now items = living now items

abbrev pub live_after : ℕ → Items → List Entry → Items
live_after now items entries = living now (fold (after_entry now) items entries)

-- ---- what a feed writes: for each key that it names, the row of the item that is live after it, or none

abbrev pub put_to : Items → Key → Put
put_to live k = record { table = 1; key = key_text k; text = option_map item_text (item_of live k) }

abbrev pub puts_to : Items → List Key → List Put
puts_to live keys = map (put_to live) keys

abbrev pub change_to : Items → Key → KeyChange
change_to live k = (k, item_of live k)

abbrev pub changes_to : Items → List Key → List KeyChange
changes_to live keys = map (change_to live) keys

-- ---- what is written of the moment, and of all subscriptions

abbrev pub moment_put : (moment start : ℕ) (name : List ℕ) → Put
moment_put moment start name = record { table = 0; key = []; text = Some (moment_row moment start name) }

-- no rows of a subscription at a place
abbrev pub removed_at : List ℕ → List Put
removed_at place = record { table = 2; key = place; text = None } ∷ record { table = 3; key = place; text = None } ∷ []

-- its rows at a place: its request under its base, and the request that gave it its number
abbrev pub request_put : List ℕ → Held → Put
request_put place s = record { table = 2; key = place; text = Some (request_text s.asked s.base) }

abbrev pub renewal_put : List ℕ → Held → Put
renewal_put place s = record { table = 3; key = place; text = renewal_text s.asked.subscription s.number s.base }

abbrev pub kept_at : List ℕ × Held → List Put
kept_at entry = request_put entry.0 entry.1 ∷ renewal_put entry.0 entry.1 ∷ []

-- a key of 20 digits, which is the place of a subscription
abbrev pub is_place : List ℕ → Bool
is_place key = length key == 20 && list_all is_ascii_digit key

-- the places from 1 on
abbrev pub places_to : ℕ → List (List ℕ)
places_to count = map place_text (range_with_len 1 count)

-- the rows at the places go, and the subscriptions get theirs at the places from 1 on
abbrev pub subscription_puts : List (List ℕ) → List Held → List Put
subscription_puts places helds = flat_map removed_at places ++ flat_map kept_at (zip (places_to (length helds)) helds)

-- ---- stops

-- each of the rows that a call added to the trail, and the present ones, are as before it or as after it, and no file was to be opened
pub record AddsOnly (Before After : Rows → Type 0) (old new : ShelfState) : Type 0 where
  pub added : List Rows
  pub trail : new.trail ≡ old.trail ++ added
  pub each : AllByRecursion (λ rows. Before rows ⊎ After rows) added
  pub present : Before new.rows ⊎ After new.rows
  pub named : new.named ≡ old.named
