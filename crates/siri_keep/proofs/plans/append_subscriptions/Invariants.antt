use Rattle.std.proofs.Common.{◌≡◌, ◌++◌, flat_map, map, take}
use Rattle.std.specs.List.{zip}
use Rattle.siri_model.specs.Held.{held_of}
use Rattle.siri_keeping.specs.Keeping.{kept_at, places_to}
use Rattle.siri_keep.proofs.plans.append_subscriptions.Given as goal

abbrev pub invariant-loop-at : goal.invariant-loop-at
invariant-loop-at l = record {
  puts : l.into ≡ l.fn.into ++ flat_map kept_at (zip (places_to l.at) (map held_of (take l.at l.producer.table)));
  places : l.places ≡ places_to l.at;
}
