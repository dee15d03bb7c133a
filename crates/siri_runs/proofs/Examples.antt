-- Small outsides, so that the definition of what is enough is tried: failures that are named for a later call don't count.
use Rattle.std.proofs.Common.{ℕ, List, [], ◌∷◌, None, Some, arith}
use Rattle.siri_outside.specs.Wires.{WireState, unfailing}
use Rattle.siri_runs.specs.Calls.{Outside, outside_of, told_by}
use Rattle.siri_runs.specs.Enough.{HasEnough}

-- two connections to come, by which no byte comes; a second call to listen, the first dial and these calls to accept fail
abbrev wire : List ℕ → WireState
wire accept_fails = record {
  to_accept = unfailing [] ∷ (unfailing [] ∷ []);
  to_dial = [];
  present = None;
  over = [];
  named = [];
  listen_fails = 1 ∷ [];
  accept_fails = accept_fails;
  dial_fails = 0 ∷ [];
}

-- with three moments, and the last number but one
abbrev outside : List ℕ → Outside
outside accept_fails = outside_of (told_by (Some (wire accept_fails)) 0)
    (told_by (Some (record { coming = 1 ∷ (2 ∷ (3 ∷ [])); fails = 3 ∷ [] })) 0)
    (told_by (Some (record { kept = 99999999998; fails = 1 ∷ [] })) 0)

-- it is enough for two connections where the third call fails
two_are_enough : HasEnough 2 (outside (2 ∷ []))
two_are_enough = record {
  listens = omega arith;
  connections = record { connections = omega arith; accepts = omega arith };
  moments = record { moments = omega arith; tells = omega arith };
  number = record { below = omega arith; raises = omega arith };
}

-- and not where the second does
one_fails : HasEnough 2 (outside (1 ∷ [])) → ⊥
one_fails enough = omega (arith, enough.connections.accepts)
