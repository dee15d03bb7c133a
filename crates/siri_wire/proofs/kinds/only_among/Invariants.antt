use Rattle.std.proofs.Common.{◌≡◌, ◌++◌, drop}
use Rattle.std.specs.Prelude.{option_to_list}
use Rattle.siri_json.specs.Shown.{shown}
use Rattle.siri_wire.specs.Documents.{only, held}
use Rattle.siri_wire.proofs.kinds.only_among.Given as goal

abbrev pub invariant-loop-kind : goal.invariant-loop-kind
invariant-loop-kind l = only (option_to_list l.only ++ held (shown l.tree) (drop l.kind-index l.kinds)) ≡ only (held (shown l.tree) l.kinds)
