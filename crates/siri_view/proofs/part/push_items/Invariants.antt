use Rattle.std.proofs.Common.{◌≡◌, ◌++◌, take, Some}
use Rattle.std.specs.Prelude.{map}
use Rattle.siri_records.specs.Keys.{key_of}
use Rattle.siri_records.specs.Keyed.{unshared}
use Rattle.siri_view.proofs.part.push_items.Given as goal

abbrev pub invariant-loop-item : goal.invariant-loop-item
invariant-loop-item l = l.into ≡ l.fn.into ++ map (λ item. (key_of item, Some item)) (unshared (take l.item-index l.items))
