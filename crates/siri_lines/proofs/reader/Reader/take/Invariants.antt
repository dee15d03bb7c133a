use Rattle.std.proofs.Common.{◌≡◌, ◌≤◌, ◌+◌, length, false}
use Rattle.siri_outside.specs.MetFailures.{SinkMeets}
use Rattle.siri_lines.specs.RunResult.{verdict}
use Rattle.siri_lines.specs.inner.Standing.{IsWithin, room}
use Rattle.siri_lines.proofs.Worlds.{TakesFront}
use Rattle.siri_lines.proofs.reader.Reader.take.Given as goal

abbrev pub invariant-loop-end : goal.invariant-loop-end
invariant-loop-end g l = record {
  front : TakesFront g.T.LineTaker.fits (verdict l.fn.self.most g.T.LineTaker.event) l.fn.taker l.fn.self
      (g.K.Sink.held l.fn.sink) l.fn.piece l.taker l.self (g.K.Sink.held l.sink) l.rest;
  most : l.self.most ≡ l.fn.self.most;
  within : IsWithin l.self;
  room : room l.self + length l.fn.piece ≤ room l.fn.self + length l.rest;
  later : g.K.Sink.faults l.fn.sink ≤ g.K.Sink.faults l.sink;
  wrote : SinkMeets false (g.K.Sink.held l.fn.sink) (g.K.Sink.held l.sink) (g.K.Sink.fails l.fn.sink) (g.K.Sink.fails l.sink);
}

abbrev pub decreases-loop-end : goal.decreases-loop-end
decreases-loop-end g l = length l.rest
