use Rattle.std.specs.Prelude.{◌≡◌, flat_map, drop}
use Rattle.siri_tables.specs.Tables.{all_written}
use Rattle.siri_deliveries.specs.Topics.{line_direction_table}
use Rattle.siri_queries.specs.Targets.{with_pairs}
use Rattle.siri_queries.proofs.target.lines_pairs.Given as goal

-- the pairs of the lines that are left come behind those of the form
abbrev pub invariant-loop-line : goal.invariant-loop-line
invariant-loop-line l =
    (with_pairs l.form.form (flat_map (all_written line_direction_table) (drop l.line-index l.lines))
    ≡ with_pairs l.fn.form.form (flat_map (all_written line_direction_table) l.lines)) × (l.form.prefix ≡ l.fn.form.prefix)
