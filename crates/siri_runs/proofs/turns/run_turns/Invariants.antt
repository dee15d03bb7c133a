use Rattle.std.specs.Prelude.{◌≡◌}
use Rattle.siri_outside.specs.OutsideCalls.{KeeperState}
use Rattle.siri_runs.specs.Calls.{Told, outside_with}
use Rattle.siri_runs.specs.Ends.{RunsTurn, in_run}
use Rattle.siri_runs.specs.Turns.{Turns, running}
use Rattle.siri_runs.proofs.turns.run_turns.Given as goal

abbrev pub invariant-loop-made : goal.invariant-loop-made
invariant-loop-made g l =
    ((keeper : Told KeeperState) → Turns (RunsTurn g.T.Taker g.A.Asking.asks l.fn.target) l.made
    (running (in_run l.fn.taker l.fn.beside l.fn.tally 0) (outside_with g.W.Wire g.C.Clock l.fn.wire l.fn.clock keeper))
    (running (in_run l.taker l.beside l.tally l.made) (outside_with g.W.Wire g.C.Clock l.wire l.clock keeper)))
    × (g.T.Taker.faults l.beside ≡ g.T.Taker.faults l.fn.beside)
    × g.T.Taker.is_ready l.beside
