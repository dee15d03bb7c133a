use Rattle.std.proofs.Common.{◌≡◌, ℕ, ◌≤◌, length}
use Rattle.json.specs.Json.{Members, members, value, parse_map}
use Rattle.siri_deliveries.specs.Incoming.{of_services}
use Rattle.siri_deliveries.proofs.AsItComes.{members_before, Agree}
use Rattle.siri_deliveries.proofs.Delivered.{Came}
use Rattle.siri_deliveries.proofs.incoming_deliveries.deliveries_next.Given as goal

abbrev pub invariant-loop-found : goal.invariant-loop-found
invariant-loop-found l =
    (n : ℕ) × (before : Members) × (length l.reader ≤ n)
    × (members (value l.depth) (length l.initial.reader) l.initial.reader ≡ parse_map (members_before before) (members (value l.depth) n l.reader))
    × Agree of_services before l.others.items × Came before l.found × (length l.reader ≤ length l.initial.reader)

abbrev pub decreases-loop-found : goal.decreases-loop-found
decreases-loop-found l = length l.reader
