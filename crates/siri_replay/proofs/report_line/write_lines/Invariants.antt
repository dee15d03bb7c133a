use Rattle.std.proofs.Common.{◌≤◌, take, false}
use Rattle.siri_outside.specs.MetFailures.{SinkMeets}
use Rattle.std.specs.Io.KnownBytes.{Appends}
use Rattle.siri_world_model.specs.Lines.{told_lines}
use Rattle.siri_replay.specs.ReportLines.{lines_text}
use Rattle.siri_replay.proofs.report_line.write_lines.Given as goal

abbrev pub invariant-loop-line : goal.invariant-loop-line
invariant-loop-line g l = record {
  written : Appends (g.K.Sink.held l.fn.sink) (g.K.Sink.held l.sink) (lines_text (told_lines (take l.line-index l.lines)));
  later : g.K.Sink.faults l.fn.sink ≤ g.K.Sink.faults l.sink;
  meets : SinkMeets false (g.K.Sink.held l.fn.sink) (g.K.Sink.held l.sink) (g.K.Sink.fails l.fn.sink) (g.K.Sink.fails l.sink);
}
