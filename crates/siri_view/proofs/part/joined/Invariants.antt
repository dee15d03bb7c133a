use Rattle.std.proofs.Common.{◌≡◌, take}
use Rattle.std.specs.Prelude.{flat_map}
use Rattle.siri_change.specs.Parts.{changes_in}
use Rattle.siri_view.proofs.part.joined.Given as goal

abbrev pub invariant-loop-part : goal.invariant-loop-part
invariant-loop-part l = l.changes ≡ flat_map changes_in (take l.part-index l.parts)
