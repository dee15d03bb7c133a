-- What a load leaves in its sink, and how it ends.
use Rattle.std.specs.Prelude.{MatchBool}
use Rattle.siri_base.specs.declared.status.Status.{Status}
use Rattle.siri_base.specs.declared.status.Status.TheVariants as status
use Rattle.siri_lines.specs.RunResult.{RunResult}
use Rattle.siri_lines.specs.Ends.{Bytes, Ends, AppendsFront, is_cut}

-- the whole text was written, and the run ended as it says; or the run was cut off, and a front of that text was written
abbrev pub Writes : RunResult → Bytes → Bytes → Status → Type 0
Writes told old new end = MatchBool (is_cut end) (AppendsFront old new told.text) (Ends old told new end)

-- the statuses that a load may end with
abbrev pub EndsLoad : Status → Type 0
EndsLoad status.Done = Unit {0}
EndsLoad (status.Limit n) = Unit {0}
EndsLoad status.OutOfMemory = Unit {0}
EndsLoad status.WriteFault = Unit {0}
EndsLoad other = ⊥
