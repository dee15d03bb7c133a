-- When two items are equal in every field.
use Rattle.std.specs.Prelude.{ℕ, pos, Bool, ◌&&◌, nat_eq, Option, None}
use Rattle.std.specs.Option.{option_eq}
use Rattle.siri_records.specs.declared.item.Item.{Item}
use Rattle.siri_records.specs.declared.item.Item.TheVariants as item
use Rattle.siri_records.specs.Near.{is_near}

-- RecordedAtTime, which situations don't have
abbrev pub recorded_at : Item → Option ℕ
recorded_at (item.Visit v) = v.recorded_at_time
recorded_at (item.Journey j) = j.recorded_at_time
recorded_at (item.Vehicle v) = v.recorded_at_time
recorded_at (item.Situation s) = None

-- recorded at one time, and near with no slack
abbrev pub is_same : Item → Item → Bool
is_same a b = option_eq nat_eq (recorded_at a) (recorded_at b) && is_near (pos 0) a b
