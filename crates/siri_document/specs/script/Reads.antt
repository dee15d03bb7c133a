-- What was read of a line, and how a line ends a run that isn't taken.
use Rattle.std.specs.Prelude.{◌≡◌, ℕ, Result, Ok, Err}
use Rattle.siri_base.specs.declared.reason.ScriptReason.{ScriptReason}
use Rattle.siri_lines.specs.declared.stop.Stop.{Stop}
use Rattle.siri_lines.specs.declared.stop.Stop.TheVariants as stop
use Rattle.siri_document.specs.declared.script.line_error.LineError.{LineError}
use Rattle.siri_document.specs.declared.script.line_error.LineError.TheVariants as line_error

-- what was read is what is said, memory left free
abbrev pub Reads : {A : Type 0} → Result A LineError → Result A ScriptReason → Type 0
Reads (Ok value) said = said ≡ Ok value
Reads (Err (line_error.Refused why)) said = said ≡ Err why
Reads (Err line_error.OutOfMemory) said = Unit {0}

-- what a line that isn't taken ends a run with
abbrev pub line_stop : ℕ → LineError → Stop
line_stop n (line_error.Refused why) = stop.Script n why
line_stop n line_error.OutOfMemory = stop.OutOfMemory
