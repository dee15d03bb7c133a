use Rattle.std.proofs.Common.{◌≤◌, take, false}
use Rattle.siri_outside.specs.MetFailures.{SinkMeets}
use Rattle.std.specs.Prelude.{flat_map}
use Rattle.std.specs.Io.KnownBytes.{Appends}
use Rattle.siri_runs.specs.consumers.Views.{view_text}
use Rattle.siri_runs.proofs.consuming.views.write_views.Given as goal

abbrev pub invariant-loop-place : goal.invariant-loop-place
invariant-loop-place g l = record {
  written : Appends (g.K.Sink.held l.fn.sink) (g.K.Sink.held l.sink) (flat_map (view_text l.consumer.name) (take l.place l.consumer.held));
  later : g.K.Sink.faults l.fn.sink ≤ g.K.Sink.faults l.sink;
  meets : SinkMeets false (g.K.Sink.held l.fn.sink) (g.K.Sink.held l.sink) (g.K.Sink.fails l.fn.sink) (g.K.Sink.fails l.sink);
}
