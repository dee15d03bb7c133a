use Rattle.std.proofs.Common.{◌≡◌, ◌≤◌, ◌-◌, ◌++◌, ℕ, List, length, take}
use Rattle.siri_http.specs.Connections.{OnConnection}
use Rattle.siri_http.specs.inner.Scanning.{head_from, fresh}
use Rattle.siri_http.specs.inner.Reading.{TakesInput}
use Rattle.siri_http.proofs.connection.find_head.Given as goal

abbrev pub invariant-loop-scan : goal.invariant-loop-scan
invariant-loop-scan g l = record {
  there : g.W.Wire.is_open l.wire;
  took : OnConnection (TakesInput (take l.scan.len l.buffer)) (g.W.Wire.tells l.fn.wire) (g.W.Wire.tells l.wire);
  room : length l.buffer ≡ 16384;
  within : l.scan.len ≤ 16384;
  some : l.scan.full ≤ l.scan.len;
  same : (rest : List ℕ) → head_from fresh (take l.scan.len l.buffer ++ rest) ≡ head_from l.scan rest;
  later : g.W.Wire.faults l.fn.wire ≤ g.W.Wire.faults l.wire;
}

abbrev pub decreases-loop-scan : goal.decreases-loop-scan
decreases-loop-scan g l = 16384 - l.scan.len
