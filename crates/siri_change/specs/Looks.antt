-- A look by the keys on which a view and what is shown may disagree.
use Rattle.std.specs.Prelude.{◌≡◌, ℤ, true, false, not, List, map, filter}
use Rattle.std.specs.List.{list_all}
use Rattle.siri_records.specs.declared.key.Key.{Key}
use Rattle.siri_records.specs.Keyed.{Items, InOrder, KeyChange, item_of, apply}
use Rattle.siri_records.specs.KeyLists.{is_among, KeysInOrder}
use Rattle.siri_records.specs.Near.{is_near}
use Rattle.siri_change.specs.Changes.{agree_on, meets, target, changes}

-- a view and what is shown agree on all other keys
abbrev pub AgreeOutside : ℤ → Items → Items → List Key → Type 0
AgreeOutside slack view direct keys = (key : Key) → is_among key keys ≡ false → agree_on (is_near slack) view direct key ≡ true

-- the change of each of the keys on which they don't agree
abbrev pub changes_among : ℤ → Items → Items → List Key → List KeyChange
changes_among slack view direct keys = map (λ key. (key, item_of direct key)) (filter (λ key. not (agree_on (is_near slack) view direct key)) keys)

-- so those keys alone tell whether the view meets what is shown, what the target of a round is, and what it carries
pub record IsLook (slack : ℤ) (view direct : Items) (keys : List Key) : Type 0 where
  pub level : meets slack view direct ≡ list_all (agree_on (is_near slack) view direct) keys
  pub leads : apply view (changes_among slack view direct keys) ≡ target slack true view direct
  pub carries : changes view (target slack true view direct) ≡ changes_among slack view direct keys

abbrev pub LooksByKeys : Type 0
LooksByKeys = (slack : ℤ) (view direct : Items) (keys : List Key) → InOrder view → InOrder direct → KeysInOrder keys
    → AgreeOutside slack view direct keys → IsLook slack view direct keys
