use Rattle.std.proofs.Common.{◌≡◌, ◌≤◌, length, map, take}
use Rattle.std.specs.List.{filter}
use Rattle.siri_view.specs.Consuming.{is_new}
use Rattle.siri_life.specs.Named.{Name}
use Rattle.siri_view.specs.Sending.{first_of_each, own}
use Rattle.siri_view.proofs.holdings.Holdings.count_new.Given as goal

abbrev pub invariant-loop-place : goal.invariant-loop-place
invariant-loop-place l = ((name : Name) → l.count ≡ length (filter (is_new l.self) (first_of_each (map (own name) (take l.place l.wanted)))))
    × (l.count ≤ l.place)
