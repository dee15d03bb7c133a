-- What lines want: the subscriptions that a consumer is to ask for, each as the text of a line.
use Rattle.std.specs.Prelude.{ℕ, ◌+◌, List, [], ◌∷◌, ◌++◌, if◌then◌else◌, Option, Some, None, Result, Ok, Err}
use Rattle.std.specs.Str.{is_utf8}
use Rattle.std.specs.Str.Lines.{lines}
use Rattle.siri_base.specs.declared.reason.ScriptReason.{ScriptReason}
use Rattle.siri_base.specs.declared.reason.ScriptReason.TheVariants as reason
use Rattle.siri_base.specs.declared.status.Status.{Status}
use Rattle.siri_base.specs.declared.status.Status.TheVariants as status
use Rattle.siri_life.specs.Named.{Name}
use Rattle.siri_lines.specs.RunResult.{Events, Verdict, Goes, RunEnds, verdict}
use Rattle.siri_document.specs.script.Lines.{is_skipped}
use Rattle.siri_document.specs.script.Wanted.{wanted_said}
use Rattle.siri_wire.specs.declared.wanted.Wanted.{Wanted}

-- a subscriber, and what was wanted in its name so far
pub record Asking : Type 0 where
  pub subscriber : Name
  pub wanted : List Wanted

-- ---- one line

abbrev pub as_said : Result Wanted ScriptReason → Result (Option Wanted) ScriptReason
as_said (Ok wanted) = Ok (Some wanted)
as_said (Err why) = Err why

-- what a line says: a skipped line nothing, another line of text the subscription that it wants
abbrev pub line_said : Name → List ℕ → Result (Option Wanted) ScriptReason
line_said subscriber line =
    if is_skipped line then Ok None
    else if is_utf8 line then as_said (wanted_said subscriber line)
    else Err reason.NotText

-- what is wanted comes last; a line that isn't taken ends the run
abbrev pub by_said : ℕ → Asking → Result (Option Wanted) ScriptReason → Verdict Asking
by_said n asking (Ok None) = Goes [] asking
by_said n asking (Ok (Some wanted)) = Goes [] (record asking { wanted = asking.wanted ++ wanted ∷ [] })
by_said n asking (Err why) = RunEnds (status.Script n why)

-- what a line brings; it writes nothing
abbrev pub event : Events Asking
event n asking line = by_said n asking (line_said asking.subscriber line)

-- the most lines of `consume`, and so the most subscriptions, that a run asks for
abbrev pub most_wanted : ℕ
most_wanted = 200

-- the same of at most so many lines: a line's length is tested first, then its number, then what it says
abbrev pub brings : (most : ℕ) → Events Asking
brings most = verdict most event

-- ---- all lines

-- what follows a line
abbrev pub after_line : Verdict Asking → (Asking → Result Asking Status) → Result Asking Status
after_line (Goes text asking) later = later asking
after_line (RunEnds status) later = Err status

-- what is wanted after these lines, from line n on, of at most so many, or how the first of them that isn't taken ends the run
abbrev pub asking_after : (most n : ℕ) → Asking → List (List ℕ) → Result Asking Status
asking_after most n asking [] = Ok asking
asking_after most n asking (line ∷ rest) = after_line (brings most n asking line) (λ after. asking_after most (n + 1) after rest)

abbrev pub wanted_by : Result Asking Status → Result (List Wanted) Status
wanted_by (Ok asking) = Ok asking.wanted
wanted_by (Err status) = Err status

-- nothing is wanted yet
abbrev pub nothing_wanted : Name → Asking
nothing_wanted subscriber = record { subscriber = subscriber; wanted = [] }

-- all that the lines of a text want in a subscriber's name, in their order, where there may be at most so many
unfoldable pub all_wanted : (most : ℕ) → Name → List ℕ → Result (List Wanted) Status
all_wanted most subscriber bytes = wanted_by (asking_after most 1 (nothing_wanted subscriber) (lines bytes))
