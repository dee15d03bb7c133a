-- What is kept of subscriptions, and what of it belongs to their lives.
use Rattle.std.specs.Prelude.{◌≡◌, ℕ, List, None}
use Rattle.std.specs.List.{All}
use Rattle.siri_records.specs.Keyed.{Items}
use Rattle.siri_change.specs.Changes as change
use Rattle.siri_subs.specs.rounds.Wanted.{rounds_carried}
use Rattle.siri_subs.specs.declared.entry.Row.{Row}
use Rattle.siri_subs.specs.Mapped.{mapped_row, with_mapped_slots}
use Rattle.siri_model.specs.Direct.{direct_to}
use Rattle.siri_model.specs.Rows.{KeptLife}
use Rattle.siri_subscriptions.specs.declared.course.Course.{Course}

-- what of it belongs to the life
abbrev pub kept : Course → KeptLife
kept course = record { rounds = rounds_carried course.rounds; last_heartbeat = course.last_heartbeat }

-- a row, and the rows of a table, with what belongs to their lives
abbrev pub kept_row : Row Course → Row KeptLife
kept_row row = mapped_row kept row

abbrev pub kept_rows : List (Row Course) → List (Row KeptLife)
kept_rows rows = with_mapped_slots kept rows

-- where nothing is outstanding, it is known whether the acknowledged view meets the direct response
abbrev pub KnowsLevel : ℕ → Items → Row Course → Type 0
KnowsLevel now items row =
    row.slot.rounds.outstanding ≡ None → row.slot.is_level ≡ change.meets row.wanted.slack row.slot.rounds.acknowledged (direct_to now items row.wanted.topic)

abbrev pub KnowLevels : ℕ → Items → List (Row Course) → Type 0
KnowLevels now items rows = All (KnowsLevel now items) rows
