use Rattle.std.proofs.Common.{◌≡◌, ◌++◌, drop}
use Rattle.std.specs.List.{filter_map}
use Rattle.siri_tables.specs.Appended.{entries_tokens}
use Rattle.siri_tables.proofs.writing.entries.Given as goal

abbrev pub invariant-loop-value : goal.invariant-loop-value
invariant-loop-value g l = l.out ++ entries_tokens
    (filter_map g.R.Written.writing (drop l.value-index l.values)) ≡ l.fn.out
    ++ entries_tokens (filter_map g.R.Written.writing l.values)
