use Rattle.std.proofs.Common.{◌≡◌, map}
use Rattle.siri_json.specs.Shown.{shown}
use Rattle.siri_tables.specs.Rules.{entries_from}
use Rattle.siri_tables.proofs.Entries.{after, rest_from}
use Rattle.siri_tables.proofs.rows.entries_from.Given as goal

abbrev pub invariant-loop-place : goal.invariant-loop-place
invariant-loop-place g l = after l.found.items
    (entries_from (g.R.RuleIn.rule_in l.with) l.place (rest_from l.place l.values)) ≡ entries_from
    (g.R.RuleIn.rule_in l.with) 0 (map shown l.values)
