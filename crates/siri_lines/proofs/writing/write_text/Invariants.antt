use Rattle.std.proofs.Common.{◌≤◌, length, false}
use Rattle.siri_outside.specs.MetFailures.{SinkMeets}
use Rattle.siri_lines.proofs.Written.{Wrote}
use Rattle.siri_lines.proofs.writing.write_text.Given as goal

abbrev pub invariant-loop-rest : goal.invariant-loop-rest
invariant-loop-rest g l = record {
  wrote : Wrote (g.K.Sink.held l.fn.sink) (g.K.Sink.held l.sink) l.text l.rest;
  later : g.K.Sink.faults l.fn.sink ≤ g.K.Sink.faults l.sink;
  meets : SinkMeets false (g.K.Sink.held l.fn.sink) (g.K.Sink.held l.sink) (g.K.Sink.fails l.fn.sink) (g.K.Sink.fails l.sink);
}

abbrev pub decreases-loop-rest : goal.decreases-loop-rest
decreases-loop-rest g l = length l.rest
