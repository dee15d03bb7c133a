use Rattle.std.proofs.Common.{◌≡◌, ℕ, ◌-◌, ◌≤◌, [], ◌∷◌, length}
use Rattle.json.specs.Json.{Members, members, value, parse_map}
use Rattle.siri_deliveries.proofs.AsItComes.{members_before, Agree, Read}
use Rattle.siri_deliveries.proofs.incoming.parts_next.Given as goal

abbrev pub invariant-loop-others : goal.invariant-loop-others
invariant-loop-others g l =
    (n : ℕ) × (before : Members) × (length l.reader ≤ n)
    × (members (value (l.depth - 1)) (length l.initial.reader) l.initial.reader ≡ parse_map (members_before before) (members (value (l.depth - 1)) n l.reader))
    × Agree (l.key ∷ []) before l.others.items × Read g.A.Apart.read l.key before l.own × (length l.reader ≤ length l.initial.reader)

abbrev pub decreases-loop-others : goal.decreases-loop-others
decreases-loop-others g l = length l.reader
