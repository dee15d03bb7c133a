use Rattle.std.proofs.Common.{◌≡◌, ◌≤◌, ◌-◌, length, take}
use Rattle.siri_http.specs.Connections.{OnConnection}
use Rattle.siri_http.specs.inner.Reading.{TakesInput}
use Rattle.siri_http.proofs.connection.fill.Given as goal

abbrev pub invariant-loop-filled : goal.invariant-loop-filled
invariant-loop-filled g l = record {
  there : g.W.Wire.is_open l.wire;
  took : OnConnection (TakesInput (take l.filled l.buffer)) (g.W.Wire.tells l.fn.wire) (g.W.Wire.tells l.wire);
  same : length l.buffer ≡ length l.fn.buffer;
  within : l.filled ≤ length l.buffer;
  later : g.W.Wire.faults l.fn.wire ≤ g.W.Wire.faults l.wire;
}

abbrev pub decreases-loop-filled : goal.decreases-loop-filled
decreases-loop-filled g l = length l.buffer - l.filled
