use Rattle.std.proofs.Common.{◌≡◌, ◌≤◌, ◌<◌, length, false}
use Rattle.siri_outside.specs.MetFailures.{SinkMeets, SourceMeets}
use Rattle.siri_lines.specs.RunResult.{verdict}
use Rattle.siri_lines.specs.inner.Standing.{IsWithin, room}
use Rattle.siri_lines.proofs.Worlds.{ReadsOn}
use Rattle.siri_lines.proofs.reading.read_pieces.Given as goal

abbrev pub invariant-loop-reader : goal.invariant-loop-reader
invariant-loop-reader g l = record {
  reads : (w : g.T.LineTaker.World) → g.T.LineTaker.fits l.fn.taker w
      → ReadsOn g.T.LineTaker.fits (verdict l.fn.most g.T.LineTaker.event) w (g.S.Source.left l.fn.source)
      (g.S.Source.left l.source) (g.K.Sink.held l.fn.sink) l.taker l.reader (g.K.Sink.held l.sink);
  most : l.reader.most ≡ l.fn.most;
  within : IsWithin l.reader;
  space : 0 < length l.buffer;
  read_later : g.S.Source.faults l.fn.source ≤ g.S.Source.faults l.source;
  write_later : g.K.Sink.faults l.fn.sink ≤ g.K.Sink.faults l.sink;
  piece : length l.buffer ≤ 65536;
  read : SourceMeets false (g.S.Source.left l.fn.source) (g.S.Source.left l.source) (g.S.Source.fails l.fn.source) (g.S.Source.fails l.source);
  wrote : SinkMeets false (g.K.Sink.held l.fn.sink) (g.K.Sink.held l.sink) (g.K.Sink.fails l.fn.sink) (g.K.Sink.fails l.sink);
}

abbrev pub decreases-loop-reader : goal.decreases-loop-reader
decreases-loop-reader g l = room l.reader
