-- Which acknowledgements count (EN 15531-2, DataReceivedAcknowledgement): Status is true, and the mark names the wanted part
-- of a subscription that is held.
use Rattle.std.specs.Prelude.{ℕ, List, find, Bool, true, false, ◌&&◌, Option, Some}
use Rattle.std.specs.Option.{option_map_or}
use Rattle.siri_messages.specs.declared.supplies.DataReceivedAcknowledgement.{DataReceivedAcknowledgement}
use Rattle.siri_messages.specs.declared.supplies.Mark.{Mark}
use Rattle.siri_life.specs.Slot.{wants}
use Rattle.siri_subs.specs.declared.entry.Row.{Row}
use Rattle.siri_subs.specs.Table.{is_of}
use Rattle.siri_model.specs.Lives.{mark_of}
use Rattle.siri_model.specs.Rows.{KeptLife, is_numbered}

-- a mark names the wanted part of a row, under its number and in this start
abbrev pub names_wanted : (start : ℕ) → Mark → Row KeptLife → Bool
names_wanted start mark row = is_numbered (mark_of mark) row.number start && wants row.slot.rounds mark.round mark.part

abbrev pub counts_by : (start : ℕ) → (status : Bool) → Option (List ℕ) → Option Mark → List (Row KeptLife) → Bool
counts_by start true (Some consumer) (Some mark) rows = option_map_or (names_wanted start mark) (find (is_of consumer mark.subscription) rows) false
counts_by start status consumer mark rows = false

-- an acknowledgement counts, in a start, by the rows that are held
abbrev pub counts : (start : ℕ) → DataReceivedAcknowledgement → List (Row KeptLife) → Bool
counts start a rows = counts_by start a.status a.consumer_ref a.extensions rows
