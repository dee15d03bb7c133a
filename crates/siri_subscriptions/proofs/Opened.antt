-- What the round carries that a look opens by the keys that may have changed.
use Rattle.std.proofs.Common.{◌≡◌, ℕ, ℤ, List, true, sym, ◌∙◌}
use Rattle.siri_records.specs.declared.key.Key.{Key}
use Rattle.siri_records.specs.Keyed.{Items, InOrder, KeyChange}
use Rattle.siri_records.specs.KeyLists.{KeysInOrder}
use Rattle.siri_topic.specs.declared.topics.Topic.{Topic}
use Rattle.siri_change.specs.Changes as change
use Rattle.siri_change.specs.Looks.{AgreeOutside, IsLook, changes_among}
use Rattle.siri_change.proofs.Levels.{looks_by_keys}
use Rattle.siri_model.specs.Direct.{shown}
use Rattle.siri_model.specs.Looks.{changes_found, found_of}
use Rattle.siri_model.proofs.Lawful.{shown_in_order}
use Rattle.siri_model.proofs.Outside.{found_tell}

module _ (now : ℕ) (held : Items) (topic : Topic) (slack : ℤ) (view : Items) (keys : List Key) (ordered : InOrder held)
    (s : InOrder view) (t : KeysInOrder keys) (outside : AgreeOutside slack view (shown now held topic) keys)
    (changes : List KeyChange) (is : changes ≡ changes_found slack view topic now (found_of held keys)) where
  abbrev direct : Items
  direct = shown now held topic

  look : IsLook slack view direct keys
  look = looks_by_keys slack view direct keys s (shown_in_order now held topic ordered) t outside

  among : changes ≡ changes_among slack view direct keys
  among = is ∙ found_tell slack view held topic now keys ordered

  pub carries : changes ≡ change.changes view (change.target slack true view direct)
  carries = among ∙ sym look.carries
