use Rattle.std.proofs.Common.{◌≡◌, ◌≤◌, take, count_by}
use Rattle.siri_world_model.specs.Lines.{told_line}
use Rattle.siri_load.specs.Load.{is_item}
use Rattle.siri_load.proofs.totals.items.Given as goal

abbrev pub invariant-loop-line : goal.invariant-loop-line
invariant-loop-line l = (l.count ≡ count_by (λ line. is_item (told_line line)) (take l.line-index l.lines)) × (l.count ≤ l.line-index)
