-- The events of a report's lines all happened; so each view that a report writes shows the direct response where it is quiet.
use Rattle.std.proofs.Common.{◌≡◌, ℕ, suc, ◌+◌, Bool, true, false, List, [], ◌∷◌, ◌++◌, length, Option, Some, None, refl, sym, ap, ◌∙◌, subst, arith}
use Rattle.std.specs.Prelude.{Result, Ok, Err, nat_lt, if◌then◌else◌}
use Rattle.std.specs.Str.Lines.{lines}
use Rattle.std.proofs.lemmas.Option.{none-some, same_Some}
use Rattle.siri_base.specs.declared.reason.ScriptReason.{ScriptReason}
use Rattle.siri_base.specs.declared.status.Status.{Status}
use Rattle.siri_base.specs.declared.status.Status.TheVariants as status
use Rattle.siri_lines.specs.Ends.{Bytes, Ends}
use Rattle.siri_lines.specs.Reports.{Reports, Writes}
use Rattle.siri_lines.specs.Fronts.{gone_on, gone_through}
use Rattle.siri_lines.specs.RunResult.{Events, Verdict, Goes, RunEnds, report_from, verdict, longest_line}
use Rattle.siri_lines.proofs.Fronts.{splits}
use Rattle.siri_world_model.specs.declared.event.Event.{Event}
use Rattle.siri_world_model.specs.declared.event.Event.TheVariants as event
use Rattle.siri_world_model.specs.declared.step_error.StepError.{StepError}
use Rattle.siri_world_model.specs.Lines.{ToldLine}
use Rattle.siri_world_model.specs.Told.{told, world_after}
use Rattle.siri_world_model.specs.laws.Views.{AllHappen}
use Rattle.siri_world_model.proofs.Happen.{none_happen, happen_more, told_happens}
use Rattle.siri_world_model.proofs.Telling.{views_tell}
use Rattle.siri_replay.specs.Events.{line_said}
use Rattle.siri_replay.specs.Report.{World, by_said, by_told, event as event_of, is_started, report, most_lines}
use Rattle.siri_replay.specs.ReportLines.{lines_text}
use Rattle.siri_replay.specs.Views.{ReportsViews, ViewsAreDirect, ViewsWritten, WritesViews, brings, text_of}

-- ---- one line

-- a line that doesn't end the run is neither too long nor one too many
goes_by : {W : Type 0} (most : ℕ) (ev : Events W) (n : ℕ) (w : W) (line text : List ℕ) (next : W)
    → verdict most ev n w line ≡ Goes text next → ev n w line ≡ Goes text next
goes_by {W = W} most ev n w line text next is =
    behind (nat_lt most n) (ev n w line) (status.Limit n)
    (behind (nat_lt longest_line (length line)) (if nat_lt most n then RunEnds (status.Limit n) else ev n w line)
    (status.Limit n) is)
  where
    behind : (b : Bool) (v : Verdict W) (end : Status) → (if b then RunEnds end else v) ≡ Goes text next → v ≡ Goes text next
    behind true v end is = absurd (cc)
    behind false v end is = is

-- the event of a line that goes on happened
happens_by : (n : ℕ) (events : World) (said : Result (Option Event) ScriptReason) (text : List ℕ) (next : World)
    → AllHappen events → by_said n events said ≡ Goes text next → AllHappen next
happens_by n events (Err why) text next happen is = absurd (cc)
happens_by n events (Ok None) text next happen is = let q : events ≡ next = cc in subst AllHappen q happen
happens_by n events (Ok (Some e)) text next happen is = by (told (world_after events) e) refl is
  where
    by : (result : Result (List ToldLine) StepError) → told (world_after events) e ≡ result → by_told n events e result ≡ Goes text next → AllHappen next
    by (Ok lines) at is = let q : (events ++ e ∷ []) ≡ next = cc in
        subst AllHappen q (happen_more events e happen (told_happens (world_after events) e lines at))
    by (Err error) at is = absurd (cc)

-- ---- the lines before

-- the events of lines that don't end the run all happened
all_happen : (before : List (List ℕ)) (n : ℕ) (events end : World) → AllHappen events → gone_through brings n events before ≡ Some end → AllHappen end
all_happen [] n events end happen gone = subst AllHappen (same_Some events end gone) happen
all_happen (line ∷ before) n events end happen gone = by (brings n events line) refl (λ next. all_happen before (n + 1) next end) gone
  where
    by : (v : Verdict World) → brings n events line ≡ v
        → ((next : World) → AllHappen next → gone_through brings (n + 1) next before ≡ Some end → AllHappen end)
        → gone_on v (λ after. gone_through brings (n + 1) after before) ≡ Some end → AllHappen end
    by (Goes text next) at more gone =
        more next (happens_by n events (line_said (is_started events) line) text next happen (goes_by most_lines event_of n events line text next at)) gone
    by (RunEnds status) at more gone = absurd (none-some end gone)

-- ---- the line of a view

-- what is told of an event is what its line brings
pub record IsTold (events : World) (e : Event) (text : List ℕ) : Type 0 where
  pub told_lines : List ToldLine
  pub is : told (world_after events) e ≡ Ok told_lines
  pub text_is : text ≡ lines_text told_lines

told_by : (n : ℕ) (events : World) (e : Event) (text : List ℕ) (next : World)
    → by_told n events e (told (world_after events) e) ≡ Goes text next → IsTold events e text
told_by n events e text next is = by (told (world_after events) e) refl is
  where
    by : (result : Result (List ToldLine) StepError) → told (world_after events) e ≡ result → by_told n events e result ≡ Goes text next → IsTold events e text
    by (Ok told_lines) at is = let q : lines_text told_lines ≡ text = cc in record { told_lines = told_lines; is = at; text_is = sym q }
    by (Err error) at is = absurd (cc)

pub views_direct : (script : List ℕ) → ViewsAreDirect script
unfolding report
views_direct script before events consumer identifier asked =
    let n = suc (length before) in
    let happen = all_happen before 1 [] events none_happen asked.happened in
    let goes = goes_by most_lines event_of n events asked.line asked.text asked.later asked.goes_on in
    let one = told_by n events (event.View consumer identifier) asked.text asked.later (ap (by_said n events) (sym asked.asks) ∙ goes) in
    let split = splits brings before 1 [] events asked.later asked.line asked.after asked.text asked.happened
    (ap (λ m. brings m events asked.line) (omega arith) ∙ asked.goes_on) in
    record {
      told = one.told_lines;
      is_view = views_tell events happen consumer identifier one.told_lines one.is;
      later = split.later;
      written = ap (λ all. (report_from brings 1 [] all).text) asked.is_next ∙ split.written ∙ ap (λ text. text_of before ++ (text ++ split.later)) one.text_is;
    }

-- ---- what a run writes

-- what follows of what a report writes
all_written : (script : List ℕ) (old new : Bytes) (end : Status) → Ends old (report script) new end → WritesViews script old new
all_written script old new end w = record { bytes = (report script).text; written = w.written; shown = views_direct script }

views_written : (script : List ℕ) (left old new : Bytes) (end : Status) → Writes report script left old new end → ViewsWritten script left old new end
views_written script left old new status.Done w = all_written script old new status.Done w
views_written script left old new status.Refused w = all_written script old new status.Refused w
views_written script left old new status.Usage w = all_written script old new status.Usage w
views_written script left old new (status.Script n reason) w = all_written script old new (status.Script n reason) w
views_written script left old new status.ReadFault w = (w, views_direct w.whole)
views_written script left old new (status.Limit n) w = all_written script old new (status.Limit n) w
views_written script left old new status.WireFault w = all_written script old new status.WireFault w
views_written script left old new status.OutOfMemory w = (w, views_direct w.whole)
views_written script left old new status.WriteFault w = (w, views_direct w.whole)
views_written script left old new status.ClockFault w = all_written script old new status.ClockFault w
views_written script left old new status.KeeperFault w = all_written script old new status.KeeperFault w
views_written script left old new status.ShelfFault w = all_written script old new status.ShelfFault w
views_written script left old new (status.BadShelf shelf) w = all_written script old new (status.BadShelf shelf) w

pub views_reported : (source left old new : Bytes) (end : Status) → Reports report source left old new end → ReportsViews source left old new end
views_reported None left old new end w = tt
views_reported (Some script) left old new end w = views_written script left old new end w
