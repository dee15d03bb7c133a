use Rattle.std.proofs.Common.{◌≡◌, ◌++◌, take}
use Rattle.siri_world_model.specs.Lines.{told_lines}
use Rattle.siri_world.specs.Serving.{item_lines}
use Rattle.siri_world.proofs.viewing.push_items.Given as goal

abbrev pub invariant-loop-place : goal.invariant-loop-place
invariant-loop-place l = told_lines l.lines ≡ told_lines l.fn.lines ++ item_lines (take l.place l.view)
