-- A walk over the visits that are shown to a topic, by entry and then key.
use Rattle.std.specs.Prelude.{◌≡◌, ℕ, List, [], ◌∷◌, drop, Option, MatchOption}
use Rattle.std.specs.Map.{values_of}
use Rattle.std.specs.Borrow.{Bor}
use Rattle.std.specs.declared.rc.Rc.{Rc}
use Rattle.std.specs.declared.alloc.Global.{Global}
use Rattle.siri_records.specs.declared.item.Item.{Item}
use Rattle.siri_records.specs.Keyed.{Items}
use Rattle.siri_store.specs.CrossWalk.{led}
use Rattle.siri_store.specs.First.{looked_until}
use Rattle.siri_store.specs.Held.{counted}
use Rattle.siri_store.specs.Walk.{shown_at, shown_entries}
use Rattle.siri_store.specs.declared.first.First.{First}

-- the visits that a walk has still to look at
abbrev pub to_look_at : First → Items
to_look_at s = led s.from s.entries.now s.stamps

-- the visits that it has still to lend
abbrev pub to_lend_first : First → List Item
to_lend_first s = values_of (shown_entries s.topic.now s.moment (to_look_at s))

-- how many it looks at until the next that is shown, itself included; all where none is
abbrev pub steps_to_next : First → ℕ
steps_to_next s = looked_until (shown_at s.topic.now s.moment) 1 (to_look_at s)

-- the first visit that was still to be lent was lent, each that was looked at is a step, and none after it was looked at
pub record Firsts (s : First) (r : Option (Bor (Rc Item Global))) (t : First) : Type 0 where
  pub lent : MatchOption r ((to_lend_first s ≡ []) × (to_lend_first t ≡ [])) (λ item. to_lend_first s ≡ item.now.value ∷ to_lend_first t)
  pub looked : to_look_at t ≡ drop (steps_to_next s) (to_look_at s)
  pub counter : t.counter.now ≡ counted s.counter.now (steps_to_next s)
  pub same_counter : t.counter.ghost_name ≡ s.counter.ghost_name
  pub topic : t.topic.now ≡ s.topic.now
  pub moment : t.moment ≡ s.moment
  pub from : t.from ≡ s.from
  pub entries : t.entries.now ≡ s.entries.now

abbrev pub firsts : First → Option (Bor (Rc Item Global)) → First → Type 0
firsts s r t = Firsts s r t
