-- The report of a script: what its lines bring, by the events before them.
use Rattle.std.specs.Prelude.{ℕ, List, [], ◌∷◌, ◌++◌, Bool, Option, Some, None, Result, Ok, Err}
use Rattle.std.specs.List.{list_any}
use Rattle.siri_base.specs.declared.status.Status.TheVariants as status
use Rattle.siri_base.specs.declared.reason.ScriptReason.{ScriptReason}
use Rattle.siri_lines.specs.Reports.{report_of}
use Rattle.siri_lines.specs.RunResult.{RunResult, Events, Verdict, Goes, RunEnds, verdict}
use Rattle.siri_world_model.specs.declared.event.Event.{Event}
use Rattle.siri_world_model.specs.declared.step_error.StepError.{StepError}
use Rattle.siri_world_model.specs.Lines.{ToldLine}
use Rattle.siri_world_model.specs.Told.{is_start, told, world_after}
use Rattle.siri_replay.specs.Events.{line_said}
use Rattle.siri_replay.specs.ReportLines.{lines_text}

-- the events that happened
abbrev pub World : Type 0
World = List Event

-- a start came before
abbrev pub is_started : World → Bool
is_started events = list_any is_start events

-- by what is told of an event: its lines are written, or a limit is passed, and of this event none is written
abbrev pub by_told : ℕ → World → Event → Result (List ToldLine) StepError → Verdict World
by_told n events event (Ok lines) = Goes (lines_text lines) (events ++ event ∷ [])
by_told n events event (Err error) = RunEnds (status.Limit n)

-- the event of a line happens; a skipped line brings nothing; a line that isn't of the grammar ends the run
abbrev pub by_said : ℕ → World → Result (Option Event) ScriptReason → Verdict World
by_said n events (Ok None) = Goes [] events
by_said n events (Ok (Some event)) = by_told n events event (told (world_after events) event)
by_said n events (Err why) = RunEnds (status.Script n why)

-- what a line of a script brings
abbrev pub event : Events World
event n events line = by_said n events (line_said (is_started events) line)

-- the most lines that a script has
abbrev pub most_lines : ℕ
most_lines = 1000000

-- the report of a script's bytes, of at most 1,000,000 lines
unfoldable pub report : List ℕ → RunResult
report bytes = report_of (verdict most_lines event) [] bytes
