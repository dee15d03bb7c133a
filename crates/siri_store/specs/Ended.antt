-- Which held item ends first.
-- Inner words: cited by private functions and invariants alone.
use Rattle.std.specs.Prelude.{◌≡◌, ℕ, true, false, nat_lt, Some}
use Rattle.std.specs.List.{All}
use Rattle.std.specs.Map.{values_of}
use Rattle.std.specs.Ordering.{nat_cmp, ordering_then, is_gt}
use Rattle.siri_records.specs.declared.item.Item.{Item}
use Rattle.siri_records.specs.declared.key.Key.{Key}
use Rattle.siri_records.specs.Ends.{end_of, is_closed}
use Rattle.siri_records.specs.Keyed.{Items, item_of}
use Rattle.siri_records.specs.Order.{key_cmp}

-- the item of this key ended before a moment, and it comes before all others by end and then by key
pub record EndsFirst (now : ℕ) (es : Items) (key : Key) : Type 0 where
  pub item : Item
  pub held : item_of es key ≡ Some item
  pub end : ℕ
  pub its_end : end_of item ≡ Some end
  pub ended : nat_lt end now ≡ true
  pub first : (k : Key) (i : Item) (m : ℕ) → item_of es k ≡ Some i → end_of i ≡ Some m
      → is_gt (ordering_then (nat_cmp end m) (key_cmp key k)) ≡ false

-- no held item ended before a moment
abbrev pub NoneHasEnded : ℕ → Items → Type 0
NoneHasEnded now es = (k : Key) (i : Item) (m : ℕ) → item_of es k ≡ Some i → end_of i ≡ Some m → nat_lt m now ≡ false

-- no held item is closed: a closed item is dead, so it is never held
abbrev pub NoneClosed : Items → Type 0
NoneClosed es = All (λ i. is_closed i ≡ false) (values_of es)
