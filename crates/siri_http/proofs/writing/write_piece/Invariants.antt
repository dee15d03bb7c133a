use Rattle.std.proofs.Common.{◌≤◌, length}
use Rattle.siri_http.specs.Connections.{OnConnection}
use Rattle.siri_http.proofs.Sending.{Wrote}
use Rattle.siri_http.proofs.writing.write_piece.Given as goal

abbrev pub invariant-loop-rest : goal.invariant-loop-rest
invariant-loop-rest g l = record {
  there : g.W.Wire.is_open l.wire;
  wrote : OnConnection (Wrote l.piece l.rest) (g.W.Wire.tells l.fn.wire) (g.W.Wire.tells l.wire);
  later : g.W.Wire.faults l.fn.wire ≤ g.W.Wire.faults l.wire;
}

abbrev pub decreases-loop-rest : goal.decreases-loop-rest
decreases-loop-rest g l = length l.rest
