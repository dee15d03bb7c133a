-- What follows of the keys that are kept apart, and of the bounds of looks.
use Rattle.std.specs.Prelude.{◌≡◌, ℕ, ℤ, ◌+◌, ◌≤◌, false, not, ◌&&◌, nat_eq, List, ◌++◌, length, filter, take, slice_get}
use Rattle.std.specs.Prelude.{Some}
use Rattle.std.specs.Map.{keys_of}
use Rattle.siri_records.specs.declared.key.Key.{Key}
use Rattle.siri_records.specs.Keyed.{Items, InOrder}
use Rattle.siri_records.specs.KeyLists.{is_among, in_order}
use Rattle.siri_records.specs.Near.{is_near}
use Rattle.siri_change.specs.Changes.{agree_on, meets}
use Rattle.siri_change.specs.Looks.{changes_among}
use Rattle.siri_subs.specs.declared.entry.Row.{Row}
use Rattle.siri_model.specs.Followed.{Followed, keys_apart, look_bound, look_bounds}

-- ---- keys that are kept apart

-- on a key that isn't looked at a view and what is shown agree exactly where it wasn't kept apart
abbrev pub AgreeElsewhere : ℤ → Items → Items → (keys apart : List Key) → Type 0
AgreeElsewhere slack view direct keys apart =
    (key : Key) → is_among key keys ≡ false → agree_on (is_near slack) view direct key ≡ not (is_among key apart)

-- the keys that were kept apart and aren't looked at
abbrev pub still_apart : (keys apart : List Key) → List Key
still_apart keys apart = filter (λ key. not (is_among key keys)) apart

-- with the keys that are looked at and change, these are the ones on which the view and what is shown don't agree; and
-- it meets what is shown where there are none
pub record TellApart (slack : ℤ) (view direct : Items) (keys apart : List Key) : Type 0 where
  pub apart_again : in_order (keys_of (changes_among slack view direct keys) ++ still_apart keys apart) ≡ keys_apart slack view direct
  pub level : meets slack view direct
      ≡ (nat_eq (length (changes_among slack view direct keys)) 0 && nat_eq (length (still_apart keys apart)) 0)

abbrev pub LooksTellApart : Type 0
LooksTellApart = (slack : ℤ) (view direct : Items) (keys apart : List Key) → InOrder view
    → AgreeElsewhere slack view direct keys apart → TellApart slack view direct keys apart

-- ---- bounds

-- the bounds of the first rows, with that of the next, are those of one row more
abbrev pub BoundsAdd : Type 0
BoundsAdd = (now : ℕ) (live : Items) (rows : List (Row Followed)) (place : ℕ) (row : Row Followed)
    → slice_get rows place ≡ Some row
    → look_bounds now live (take (place + 1) rows) ≡ look_bounds now live (take place rows) + look_bound now live row

-- and those of the first rows are within those of all
abbrev pub BoundsAreWithin : Type 0
BoundsAreWithin = (now : ℕ) (live : Items) (rows : List (Row Followed)) (place : ℕ)
    → look_bounds now live (take place rows) ≤ look_bounds now live rows
