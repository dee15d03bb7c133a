-- Inner words: cited by private functions alone.
-- A part that is asked for, by the table that lends it.
use Rattle.std.specs.Prelude.{◌≡◌, ℕ, List, Bool, ◌&&◌, slice_get, Some, Result, Ok, Err}
use Rattle.siri_life.specs.Slot.{with_supply}
use Rattle.siri_messages.specs.declared.supplies.DataSupplyRequest.{DataSupplyRequest}
use Rattle.siri_messages.specs.declared.supplies.Mark.{Mark}
use Rattle.siri_model.specs.Rows.{KeptLife}
use Rattle.siri_subs.specs.rounds.Wanted.{part_sent}
use Rattle.siri_subs.specs.declared.rounds.answers.SupplyError.{SupplyError}
use Rattle.siri_subs.specs.declared.rounds.parts.Part.{Part}
use Rattle.siri_subs.specs.Lent.{entry_of}
use Rattle.siri_subs.specs.Loans.{with_slot}
use Rattle.siri_subs.specs.declared.entry.Row.{Row}
use Rattle.siri_subscriptions.specs.Acknowledgements.{names_wanted}
use Rattle.siri_subscriptions.specs.Courses.{kept_row, kept_rows}
use Rattle.siri_subscriptions.specs.Noted.{looked_in}
use Rattle.siri_subscriptions.specs.Supplies.{not_supplied, rows_supplied, supplied}
use Rattle.siri_subscriptions.specs.declared.course.Course.{Course}
use Rattle.siri_subscriptions.specs.declared.supplies.AskedPart.{AskedPart}
use Rattle.siri_subscriptions.specs.declared.supplies.SupplyAnswer.{SupplyAnswer}

-- a part is supplied by a row: delivery is fetched, and the mark names the wanted part
abbrev pub is_supplied : (start : ℕ) → Mark → Row KeptLife → Bool
is_supplied start m row = row.slot.rounds.fetched && names_wanted start m row

-- what a request is answered by a row, of which this part is supplied, or none
abbrev pub answer_by : (producer : List ℕ) → (start now : ℕ) → Row KeptLife → Result Part SupplyError → SupplyAnswer
answer_by producer start now row (Ok part) = supplied producer start row (part_sent part)
answer_by producer start now row (Err why) = not_supplied producer now why

-- what a request is answered by a table
abbrev pub answer_asked : (producer : List ℕ) → (start now : ℕ) → Result AskedPart SupplyError → SupplyAnswer
answer_asked producer start now (Ok asked) = supplied producer start (kept_row (entry_of asked.row)) (part_sent asked.part)
answer_asked producer start now (Err why) = not_supplied producer now why

-- the slot of a row after the part that a mark names was sent
abbrev pub supplied_slot : (now : ℕ) → Mark → Course → Course
supplied_slot now m course = record course { rounds = with_supply course.rounds m.round m.part now }

-- a row stands at a place of a table, and after its part was sent the rows are those after the request
pub record Supplies (start now : ℕ) (r : DataSupplyRequest) (table : List (Row Course)) (place : ℕ) (row : Row Course) : Type 0 where
  pub there : slice_get table place ≡ Some row
  pub rows : kept_rows (with_slot table place (supplied_slot now r.extensions row.slot)) ≡ rows_supplied start now r.consumer_ref r.extensions (kept_rows table)
  pub looked : looked_in (with_slot table place (supplied_slot now r.extensions row.slot)) ≡ looked_in table
