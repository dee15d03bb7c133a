use Rattle.std.proofs.Common.{◌≡◌, length}
use Rattle.siri_deliveries.specs.Pieces.{entries_of_changes}
use Rattle.siri_deliveries.proofs.pieces.next_entry.Given as goal

abbrev pub invariant-loop-change : goal.invariant-loop-change
invariant-loop-change l = entries_of_changes l.listed l.service l.left ≡ entries_of_changes l.listed l.service l.changes

abbrev pub decreases-loop-change : goal.decreases-loop-change
decreases-loop-change l = length l.left
