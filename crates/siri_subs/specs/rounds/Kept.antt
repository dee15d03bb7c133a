-- Inner words: cited by private functions alone.
-- How the outstanding round is kept.
use Rattle.std.specs.Prelude.{◌+◌, ◌^◌, ◌<◌, ◌≤◌, List, length, Option, Some, None}
use Rattle.siri_records.specs.Keyed.{Items, KeyChange}
use Rattle.siri_change.specs.Parts.{base_view, led_to, parts_count}
use Rattle.siri_life.specs.Life.{Outstanding}
use Rattle.siri_subs.specs.declared.rounds.kept.OpenRound.{OpenRound}
use Rattle.siri_subs.specs.rounds.Wanted.{round_on}

-- the outstanding round, by the acknowledged view that it stands on
abbrev pub outstanding_on : Items → OpenRound → Outstanding Items (List KeyChange)
outstanding_on acknowledged o = record {
  round = round_on acknowledged o.moment (led_to acknowledged o.incremental o.changes) o.changes;
  acknowledged_parts = o.acknowledged_parts;
  last_sent = o.last_sent;
}

-- some part of it is still wanted, and there is room for its changes
pub record IsWanting (acknowledged : Items) (o : OpenRound) : Type 0 where
  pub part : o.acknowledged_parts < parts_count o.changes
  pub small : o.acknowledged_parts + 1 < 2 ^ 64
  pub fits : length (base_view acknowledged o.incremental) + length o.changes ≤ o.room

abbrev pub IsOpen : Items → Option OpenRound → Type 0
IsOpen acknowledged None = Unit {0}
IsOpen acknowledged (Some o) = IsWanting acknowledged o
