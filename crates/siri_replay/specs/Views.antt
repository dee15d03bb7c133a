-- What the views of a report show, for whoever knows SIRI and not this code. Where a line of a script asks for a view, the
-- report has there, right after the report of the lines before, that there is none, or the view, each of whose items is, as it
-- stands, one that was sent to the consumer; and where the view says `quiet`, its items are those of a direct response at that
-- moment over all observations that were taken since the producer's latest start, equal in every field but for predicted times and delays within
-- ChangeBeforeUpdates and the time of record, which is that of the record sent.
use Rattle.std.specs.Prelude.{◌≡◌, ℕ, suc, List, [], ◌∷◌, ◌++◌, length, None, Some, Ok}
use Rattle.std.specs.Io.KnownBytes.{Appends}
use Rattle.std.specs.Str.Lines.{lines}
use Rattle.siri_base.specs.declared.status.Status.{Status}
use Rattle.siri_base.specs.declared.status.Status.TheVariants as status
use Rattle.siri_lines.specs.Ends.{Bytes}
use Rattle.siri_lines.specs.Reports.{WritesFront, WritesWhole}
use Rattle.siri_lines.specs.Fronts.{gone_through}
use Rattle.siri_lines.specs.RunResult.{Events, Goes, report_from, verdict}
use Rattle.siri_world_model.specs.declared.event.Event.{Event}
use Rattle.siri_world_model.specs.declared.event.Event.TheVariants as event
use Rattle.siri_world_model.specs.Lines.{ToldLine}
use Rattle.siri_world_model.specs.laws.Views.{TellsView}
use Rattle.siri_replay.specs.Events.{line_said}
use Rattle.siri_replay.specs.Report.{World, event as event_of, is_started, report, most_lines}
use Rattle.siri_replay.specs.ReportLines.{lines_text}

-- what a line brings, of at most 1,000,000
abbrev pub brings : Events World
brings = verdict most_lines event_of

-- what the report of these lines writes
abbrev pub text_of : List (List ℕ) → List ℕ
text_of before = (report_from brings 1 [] before).text

-- after these lines of a script, none of which ended the run, and their events the next line asks for a view, and isn't one
-- too many or too long
pub record AsksForView (script : List ℕ) (before : List (List ℕ)) (events : List Event) (consumer identifier : List ℕ) : Type 0 where
  pub line : List ℕ
  pub after : List (List ℕ)
  pub is_next : lines script ≡ before ++ line ∷ after
  pub happened : gone_through brings 1 [] before ≡ Some events
  pub asks : line_said (is_started events) line ≡ Ok (Some (event.View consumer identifier))
  pub text : List ℕ
  pub later : List Event
  pub goes_on : brings (suc (length before)) events line ≡ Goes text later

-- in these bytes, after the report of these lines, comes what is told of the view
pub record ShowsView (bytes : List ℕ) (before : List (List ℕ)) (events : List Event) (consumer identifier : List ℕ) : Type 0 where
  pub told : List ToldLine
  pub is_view : TellsView events consumer identifier told
  pub later : List ℕ
  pub written : bytes ≡ text_of before ++ (lines_text told ++ later)

-- these bytes show each view that a script asks for
abbrev pub ShowViews : (script bytes : List ℕ) → Type 0
ShowViews script bytes =
    (before : List (List ℕ)) (events : List Event) (consumer identifier : List ℕ)
    → AsksForView script before events consumer identifier → ShowsView bytes before events consumer identifier

-- the report of a script shows each view that it asks for
abbrev pub ViewsAreDirect : List ℕ → Type 0
ViewsAreDirect script = ShowViews script (report script).text

-- ---- what a run writes

-- bytes that show each view were written
pub record WritesViews (script : List ℕ) (old new : Bytes) : Type 0 where
  pub bytes : List ℕ
  pub written : Appends old new bytes
  pub shown : ShowViews script bytes

-- The views that were written of a script, by how the run ended. Where it was cut off, the lines that were read whole are the
-- script.
abbrev pub ViewsWritten : List ℕ → Bytes → Bytes → Bytes → Status → Type 0
ViewsWritten script left old new status.ReadFault = (written : WritesWhole report script left old new) × ViewsAreDirect written.whole
ViewsWritten script left old new status.OutOfMemory = (written : WritesFront report script left old new) × ViewsAreDirect written.whole
ViewsWritten script left old new status.WriteFault = (written : WritesFront report script left old new) × ViewsAreDirect written.whole
ViewsWritten script left old new end = WritesViews script old new

-- the same of a source that told its bytes
abbrev pub ReportsViews : Bytes → Bytes → Bytes → Bytes → Status → Type 0
ReportsViews None left old new end = Unit {0}
ReportsViews (Some script) left old new end = ViewsWritten script left old new end
