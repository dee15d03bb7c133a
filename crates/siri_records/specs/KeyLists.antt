-- Keys in order, each once.
use Rattle.std.specs.Prelude.{List, [], fold, Bool}
use Rattle.std.specs.BTreeSet.{insert_key}
use Rattle.std.specs.List.{list_any}
use Rattle.std.specs.List.Sorted.{IsStrictlySortedBy}
use Rattle.std.specs.Ordering.{is_eq}
use Rattle.siri_records.specs.declared.key.Key.{Key}
use Rattle.siri_records.specs.Order.{key_cmp}

-- a key is one of these
abbrev pub is_among : Key → List Key → Bool
is_among key keys = list_any (λ other. is_eq (key_cmp key other)) keys

-- each key is above the one before it
abbrev pub KeysInOrder : List Key → Type 0
KeysInOrder keys = IsStrictlySortedBy key_cmp keys

-- keys in order, with more of them
abbrev pub with_keys : List Key → List Key → List Key
with_keys keys more = fold (insert_key key_cmp) keys more

-- keys in order, each once, however they came
abbrev pub in_order : List Key → List Key
in_order keys = with_keys [] keys
