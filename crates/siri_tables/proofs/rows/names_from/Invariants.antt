use Rattle.std.proofs.Common.{◌≡◌, map}
use Rattle.siri_json.specs.Shown.{shown}
use Rattle.siri_tables.specs.Rules.{found_from, inside, name}
use Rattle.siri_tables.proofs.Entries.{after, rest_from}
use Rattle.siri_tables.proofs.rows.names_from.Given as goal

abbrev pub invariant-loop-place : goal.invariant-loop-place
invariant-loop-place l = after l.found.items
    (found_from (inside name l.inner) l.place (rest_from l.place l.values)) ≡ found_from (inside name l.inner) 0
    (map shown l.values)
