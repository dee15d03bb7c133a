-- What a relay's subscribers see of its source.
use Rattle.std.specs.Prelude.{◌≡◌, ℕ, pos, true, List, Some}
use Rattle.siri_records.specs.declared.key.Key.{Key}
use Rattle.siri_records.specs.declared.item.Item.{Item}
use Rattle.siri_records.specs.Keyed.{Items, item_of}
use Rattle.siri_records.specs.Near.{is_near}
use Rattle.siri_change.specs.Changes.{Meets}
use Rattle.siri_model.specs.Direct.{direct_to}
use Rattle.siri_model.specs.History.{History, current_at, now_of}
use Rattle.siri_model.specs.Lives.{Living, life_of}

-- the subscription is held under a number, and the view that its subscriber acknowledged meets the direct response to its topic
-- over a view at the producer's moment
pub record ShowsView (h : History) (subscriber identifier : List ℕ) (number : ℕ) (view : Items) : Type 0 where
  pub life : Living
  pub held : life_of subscriber identifier h ≡ Some life
  pub numbered : life.number ≡ number
  pub meets : Meets life.wanted.subscription.slack life.acknowledged (direct_to (now_of h) view life.wanted.subscription.topic)

-- each item of a view is near, with this slack, to the current item of its key at a source
abbrev pub IsNearSource : (slack : ℕ) → (view : Items) → (source : History) → Type 0
IsNearSource slack view source = (key : Key) (i : Item) → item_of view key ≡ Some i
    → (s : Item) × (current_at source key ≡ Some s) × (is_near (pos slack) i s ≡ true)
