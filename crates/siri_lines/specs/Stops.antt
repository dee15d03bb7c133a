-- Why lines are read no further, and the statuses that a run over them may end with.
use Rattle.siri_outside.specs.declared.errors.OutsideError.{OutsideError}
use Rattle.siri_outside.specs.declared.errors.OutsideError.TheVariants as outside
use Rattle.siri_base.specs.declared.status.Status.{Status}
use Rattle.siri_base.specs.declared.status.Status.TheVariants as status
use Rattle.siri_lines.specs.declared.stop.Stop.{Stop}
use Rattle.siri_lines.specs.declared.stop.Stop.TheVariants as stop

-- the status that a run ends with
abbrev pub status_of : Stop → Status
status_of (stop.Script n reason) = status.Script n reason
status_of (stop.Limit n) = status.Limit n
status_of stop.OutOfMemory = status.OutOfMemory
status_of stop.WriteFault = status.WriteFault

-- what a sink that couldn't write ends a run with
abbrev pub sink_stop : OutsideError → Stop
sink_stop outside.Failed = stop.WriteFault
sink_stop outside.OutOfMemory = stop.OutOfMemory

-- the statuses that lines end with, once they were read
abbrev pub EndsLines : Status → Type 0
EndsLines status.Done = Unit {0}
EndsLines (status.Script n reason) = Unit {0}
EndsLines (status.Limit n) = Unit {0}
EndsLines status.OutOfMemory = Unit {0}
EndsLines status.WriteFault = Unit {0}
EndsLines other = ⊥

-- the statuses that a run over lines may end with
abbrev pub EndsReading : Status → Type 0
EndsReading status.ReadFault = Unit {0}
EndsReading other = EndsLines other
