-- A walk over the items that have an edge in a range.
use Rattle.std.specs.Prelude.{◌≡◌, ℕ, ℤ, pos, List, [], ◌∷◌, flat_map, Option, Some, None, MatchOption, if◌then◌else◌}
use Rattle.std.specs.Map.{values_of}
use Rattle.std.specs.Borrow.{Bor}
use Rattle.std.specs.declared.rc.Rc.{Rc}
use Rattle.std.specs.declared.alloc.Global.{Global}
use Rattle.siri_records.specs.declared.key.Key.{Key}
use Rattle.siri_records.specs.declared.item.Item.{Item}
use Rattle.siri_records.specs.Edges.{has_edge}
use Rattle.siri_records.specs.Keyed.{Items, item_of}
use Rattle.siri_store.specs.Held.{counted}
use Rattle.siri_store.specs.Stamped.{Stamp}
use Rattle.siri_store.specs.declared.crossing.Crossing.{Crossing}

-- a key and its item, where the item has no edge in the range before a moment
abbrev pub led_at : ℤ → ℕ → Key → Option Item → Option (Key × Item)
led_at from edge key None = None
led_at from edge key (Some i) = if has_edge from (pos edge) i then None else Some (key, i)

-- the entry of a stamp, where it is the stamp of the item's least edge in the range
abbrev pub led_by : ℤ → Items → Stamp → Option (Key × Item)
led_by from es (order, edge, None) = None
led_by from es (order, edge, Some key) = led_at from edge key (item_of es key)

abbrev pub entry_list : Option (Key × Item) → Items
entry_list None = []
entry_list (Some entry) = entry ∷ []

-- the entries of these stamps, each at its least edge
abbrev pub led : ℤ → Items → List Stamp → Items
led from es stamps = flat_map (λ stamp. entry_list (led_by from es stamp)) stamps

-- the items that a walk has still to lend
abbrev pub to_cross : Crossing → List Item
to_cross s = values_of (led s.from s.entries.now s.stamps)

-- the first item that was still to be lent was lent, and each item that is lent is a step
pub record Crosses (s : Crossing) (r : Option (Bor (Rc Item Global))) (t : Crossing) : Type 0 where
  pub lent : MatchOption r ((to_cross s ≡ []) × (to_cross t ≡ [])) (λ item. to_cross s ≡ item.now.value ∷ to_cross t)
  pub counter : MatchOption r (t.counter.now ≡ s.counter.now) (λ _. t.counter.now ≡ counted s.counter.now 1)
  pub same_counter : t.counter.ghost_name ≡ s.counter.ghost_name
  pub from : t.from ≡ s.from
  pub entries : t.entries.now ≡ s.entries.now

abbrev pub crosses : Crossing → Option (Bor (Rc Item Global)) → Crossing → Type 0
crosses s r t = Crosses s r t
