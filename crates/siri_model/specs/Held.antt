-- What a producer holds of a subscription beside its rounds: what makes a subscription of the same name go on as it was.
use Rattle.std.specs.Prelude.{ℕ, List, map}
use Rattle.siri_messages.specs.Asked.{AskedFor}
use Rattle.siri_life.specs.Named.{Of}
use Rattle.siri_subs.specs.declared.entry.Row.{Row}
use Rattle.siri_model.specs.Lives.{Living}
use Rattle.siri_model.specs.Rows.{KeptLife, asked_of, rows_of}

-- what its subscriber asked for last, the number of its last request, and that of the SubscriptionRequest which it was
-- accepted by
pub record Held : Type 0 where
  pub asked : AskedFor
  pub number : ℕ
  pub base : ℕ

abbrev pub held_of : Row KeptLife → Held
held_of row = record { asked = asked_of row; number = row.number; base = row.base }

-- of each subscription of a table, in its order
abbrev pub helds_of : List (Of Living) → List Held
helds_of table = map held_of (rows_of table)
