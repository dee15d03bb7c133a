-- Inner words: cited by private functions alone.
-- Whether a subscription is quiet, by what is kept of it.
use Rattle.std.specs.Prelude.{ℕ, ◌==◌, Bool, not, ◌&&◌, is_some, if◌then◌else◌, Option, Some, None}
use Rattle.siri_subs.specs.declared.entry.Row.{Row}
use Rattle.siri_subscriptions.specs.declared.course.Course.{Course}

-- nothing is outstanding, a round was opened, and the last look found the views level
abbrev pub is_quiet : Course → Bool
is_quiet course = not (is_some course.rounds.outstanding) && (not (course.rounds.rounds_opened == 0) && course.is_level)

-- what is told of the row that is found
abbrev pub told : Option (Row Course) → Option ℕ
told None = None
told (Some row) = if is_quiet row.slot then Some row.number else None
