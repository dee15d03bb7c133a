-- What `run` does of words, a fact for each clause of its contract. So another call that does it of some words can say so.
use Rattle.std.specs.Prelude.{◌≡◌, ◌↔◌, ℕ, List, [], Option, Some, None}
use Rattle.siri_outside.specs.Causes.{Rose}
use Rattle.siri_outside.specs.MetFailures.{SinkMeets, SourceMeets, is_read_fault, is_write_fault}
use Rattle.siri_http.specs.Requests.{post_alone}
use Rattle.siri_http.specs.declared.address.Address.{Address as Target}
use Rattle.siri_ends.specs.lite.Asking.{post_or_query}
use Rattle.siri_lines.specs.Ends.{ReadsAll}
use Rattle.siri_lines.specs.Pieces.{ReadsNoFurther}
use Rattle.siri_lines.specs.RunResult.{verdict}
use Rattle.siri_document.specs.OneDocument.{Answers, EndsDocument, check_text, convert_text}
use Rattle.siri_lines.specs.Reports.{Reports}
use Rattle.siri_lines.specs.Stops.{EndsReading}
use Rattle.siri_cli.specs.Run.{EndsEarly, IsGet, IsLoad, IsOnNetwork, ReadsInput, ReadsNothing, TakesDocument, TellsDocument, UsesNoWire, UsesNone}
use Rattle.siri_get.specs.Runs.{EndsGet, GetRun}
use Rattle.siri_load.specs.Load.{load_text}
use Rattle.siri_load.specs.Runs.{EndsLoad, Writes}
use Rattle.siri_runs.specs.Calls.{outside}
use Rattle.siri_runs.specs.Enough.{EndsWhole, HasEnough}
use Rattle.siri_replay.specs.Report.{report}
use Rattle.siri_replay.specs.Views.{ReportsViews, brings}
use Rattle.siri_runs.specs.producers.Runs.{ServeRun}
use Rattle.siri_runs.specs.consumers.Reading.{TellsWanted}
use Rattle.siri_runs.specs.consumers.Wanting.{event as wanted, nothing_wanted, most_wanted}
use Rattle.siri_runs.specs.consumers.Runs.{ConsumeRun}
use Rattle.siri_relay_run.specs.Runs.{RelayRun, TellsOne}
use Rattle.siri_outside.specs.declared.outside.Clock.{Ghosts as ClockGhosts}
use Rattle.siri_outside.specs.declared.outside.Keeper.{Ghosts as KeeperGhosts}
use Rattle.siri_outside.specs.declared.outside.Sink.{Ghosts as SinkGhosts}
use Rattle.siri_outside.specs.declared.outside.Source.{Ghosts as SourceGhosts}
use Rattle.siri_base.specs.declared.status.Status.{Status}
use Rattle.siri_base.specs.declared.status.Status.TheVariants as status
use Rattle.siri_outside.specs.declared.wire.Wire.{Ghosts as WireGhosts}
use Rattle.siri_cli.specs.declared.command.Command.{Command}
use Rattle.siri_cli.specs.declared.command.Command.TheVariants as command

-- Of a command, or of words that are none: what becomes of the source, the sink, the wire, the clock and the keeper, and which status
-- it ends with. The clauses of `run` say each of these facts in its own words.
pub record RunDoes {S K W C E : Type 0} (of_source : SourceGhosts S) (of_sink : SinkGhosts K) (of_wire : WireGhosts W)
    (of_clock : ClockGhosts C) (of_keeper : KeeperGhosts E) (order : Option Command) (source source_after : S)
    (sink sink_after : K) (wire wire_after : W) (clock clock_after : C) (keeper keeper_after : E) (result : Status) : Type 0 where
  -- what each command writes, and which status ends it
  pub replay : order ≡ Some command.Replay
      → Reports report (of_source.left source) (of_source.left source_after) (of_sink.held sink) (of_sink.held sink_after) result
  pub views : order ≡ Some command.Replay
      → ReportsViews (of_source.left source) (of_source.left source_after) (of_sink.held sink) (of_sink.held sink_after) result
  pub check : order ≡ Some command.Check
      → Answers check_text (of_source.left source) (of_source.left source_after) (of_sink.held sink) (of_sink.held sink_after) result
  pub convert : order ≡ Some command.Convert
      → Answers convert_text (of_source.left source) (of_source.left source_after) (of_sink.held sink) (of_sink.held sink_after) result
  pub load : (seed count : ℕ) → order ≡ Some (command.Load seed count)
      → Writes (load_text seed count) (of_sink.held sink) (of_sink.held sink_after) result
  pub get : (producer : Target) → order ≡ Some (command.Get producer)
      → GetRun producer.host (of_source.left source) (of_source.left source_after) (of_wire.tells wire) (of_wire.tells wire_after)
      (of_sink.held sink) (of_sink.held sink_after) result
  pub serve : (name listen : List ℕ) (count : ℕ) → order ≡ Some (command.Serve name listen count)
      → ServeRun post_alone name listen count (outside of_wire of_clock of_keeper wire clock keeper)
      (outside of_wire of_clock of_keeper wire_after clock_after keeper_after) (of_sink.held sink) (of_sink.held sink_after) result
  pub lite : (name listen : List ℕ) (count : ℕ) → order ≡ Some (command.Lite name listen count)
      → ServeRun post_or_query name listen count (outside of_wire of_clock of_keeper wire clock keeper)
      (outside of_wire of_clock of_keeper wire_after clock_after keeper_after) (of_sink.held sink) (of_sink.held sink_after) result
  pub consume : (name listen : List ℕ) (producer : Target) (count : ℕ) → order ≡ Some (command.Consume name listen producer count)
      → ConsumeRun name listen (producer.host, producer.path) count (of_source.left source) (of_source.left source_after)
      (outside of_wire of_clock of_keeper wire clock keeper)
      (outside of_wire of_clock of_keeper wire_after clock_after keeper_after) (of_sink.held sink) (of_sink.held sink_after) result
  pub relay : (name listen : List ℕ) (upstream : Target) (count : ℕ) → order ≡ Some (command.Relay name listen upstream count)
      → RelayRun name listen (upstream.host, upstream.path) count (of_source.left source) (of_source.left source_after)
      (outside of_wire of_clock of_keeper wire clock keeper)
      (outside of_wire of_clock of_keeper wire_after clock_after keeper_after) (of_sink.held sink) (of_sink.held sink_after) result
  -- a run over the network does its work whole
  pub serve_whole : (name listen : List ℕ) (count : ℕ) → order ≡ Some (command.Serve name listen count)
      → HasEnough count (outside of_wire of_clock of_keeper wire clock keeper) → of_sink.fails sink ≡ Some [] → EndsWhole result
  pub lite_whole : (name listen : List ℕ) (count : ℕ) → order ≡ Some (command.Lite name listen count)
      → HasEnough count (outside of_wire of_clock of_keeper wire clock keeper) → of_sink.fails sink ≡ Some [] → EndsWhole result
  pub consume_whole : (name listen : List ℕ) (producer : Target) (count : ℕ) → order ≡ Some (command.Consume name listen producer count)
      → HasEnough count (outside of_wire of_clock of_keeper wire clock keeper) → TellsWanted name (of_source.left source)
      → of_source.fails source ≡ Some [] → of_sink.fails sink ≡ Some [] → EndsWhole result
  pub relay_whole : (name listen : List ℕ) (upstream : Target) (count : ℕ) → order ≡ Some (command.Relay name listen upstream count)
      → HasEnough count (outside of_wire of_clock of_keeper wire clock keeper) → TellsOne name (of_source.left source)
      → of_source.fails source ≡ Some [] → of_sink.fails sink ≡ Some [] → EndsWhole result
  -- a failure that is named, and met, ends the run
  pub source_meets : SourceMeets (is_read_fault result) (of_source.left source) (of_source.left source_after) (of_source.fails source)
      (of_source.fails source_after)
  pub sink_meets : SinkMeets (is_write_fault result) (of_sink.held sink) (of_sink.held sink_after) (of_sink.fails sink)
      (of_sink.fails sink_after)
  pub pieces : order ≡ Some command.Replay → ReadsNoFurther brings [] (of_source.left source) (of_source.left source_after)
  pub wanted_pieces : (name listen : List ℕ) (producer : Target) (count : ℕ) → order ≡ Some (command.Consume name listen producer count)
      → ReadsNoFurther (verdict most_wanted wanted) (nothing_wanted name) (of_source.left source) (of_source.left source_after)
  pub upstream_pieces : (name listen : List ℕ) (upstream : Target) (count : ℕ) → order ≡ Some (command.Relay name listen upstream count)
      → ReadsNoFurther (verdict 1 wanted) (nothing_wanted name) (of_source.left source) (of_source.left source_after)
  -- what was read, and where nothing was done
  pub all : ReadsInput order → ReadsAll (of_source.left source_after) result
  pub input : ReadsNothing order → source_after ≡ source
  pub usage : (result ≡ status.Usage) ↔ (order ≡ None)
  pub nothing : result ≡ status.Usage → (source_after ≡ source) × (sink_after ≡ sink)
  -- what each status comes of
  pub read : result ≡ status.ReadFault → Rose (of_source.faults source) (of_source.faults source_after)
  pub write : result ≡ status.WriteFault → Rose (of_sink.faults sink) (of_sink.faults sink_after)
  pub wire_fault : result ≡ status.WireFault → Rose (of_wire.faults wire) (of_wire.faults wire_after)
  pub clock_fault : result ≡ status.ClockFault → Rose (of_clock.faults clock) (of_clock.faults clock_after)
  pub keeper_fault : result ≡ status.KeeperFault → Rose (of_keeper.faults keeper) (of_keeper.faults keeper_after)
  pub refused : result ≡ status.Refused → TakesDocument order
  pub document : TellsDocument order → EndsDocument result
  pub asked : IsGet order → EndsGet result
  pub unread : TakesDocument order → result ≡ status.ReadFault → sink_after ≡ sink
  pub script : order ≡ Some command.Replay → EndsReading result
  pub made : IsLoad order → EndsLoad result
  pub unwritten : IsOnNetwork order → EndsEarly result → sink_after ≡ sink
  -- the rest of the outside
  pub unused : UsesNone order → (clock_after ≡ clock) × (keeper_after ≡ keeper)
  pub uncalled : UsesNoWire order → wire_after ≡ wire
  pub unasked : IsGet order → result ≡ status.ReadFault → wire_after ≡ wire
