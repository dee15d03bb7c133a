-- What a request for a part is answered (EN 15531-2, DataSupplyRequest): the part, where it is the wanted one of a round that is
-- to be fetched, and otherwise why not.
use Rattle.std.specs.Prelude.{ℕ, List, find, Bool, true, false, Option, Some, None, Ok, Err}
use Rattle.siri_messages.specs.declared.supplies.DataSupplyRequest.{DataSupplyRequest}
use Rattle.siri_messages.specs.declared.supplies.Mark.{Mark}
use Rattle.siri_subs.specs.declared.entry.Row.{Row}
use Rattle.siri_subs.specs.Table.{is_of}
use Rattle.siri_model.specs.Lives.{mark_of}
use Rattle.siri_model.specs.Rows.{KeptLife, supplied_row, with_row_of}
use Rattle.siri_subs.specs.declared.rounds.answers.SupplyError.{SupplyError}
use Rattle.siri_subs.specs.declared.rounds.answers.SupplyError.TheVariants as refused_as
use Rattle.siri_subs.specs.rounds.Wanted.{WantedPart, wanted_part}
use Rattle.siri_subscriptions.specs.replies.Parts.{part_delivery, refused_supply}
use Rattle.siri_subscriptions.specs.declared.supplies.SupplyAnswer.{SupplyAnswer}
use Rattle.siri_subscriptions.specs.Acknowledgements.{names_wanted}

-- a part of a row's round is supplied by a producer of this name, in this start
abbrev pub supplied : (producer : List ℕ) → (start : ℕ) → Row KeptLife → WantedPart → SupplyAnswer
supplied producer start row part = record { outcome = Ok tt; delivery = part_delivery producer row.wanted row.number start part }

-- none is, at a moment: the answer has Status false
abbrev pub not_supplied : (producer : List ℕ) → (now : ℕ) → SupplyError → SupplyAnswer
not_supplied producer now why = record { outcome = Err why; delivery = refused_supply producer now why }

-- by whether delivery is fetched, the wanted part where a round is outstanding, and whether that is the part asked for
abbrev pub supply_by : (producer : List ℕ) → (start now : ℕ) → Row KeptLife → (fetched : Bool) → Option WantedPart → (is_wanted : Bool) → SupplyAnswer
supply_by producer start now row true (Some part) true = supplied producer start row part
supply_by producer start now row true (Some part) false = not_supplied producer now (refused_as.WrongPart part.place)
supply_by producer start now row true None is_wanted = not_supplied producer now refused_as.NothingReady
supply_by producer start now row false part is_wanted = not_supplied producer now refused_as.NothingReady

-- by the row of the subscription that the mark names; a part under another number or of another start isn't the wanted one
abbrev pub supply_of : (producer : List ℕ) → (start now : ℕ) → Mark → Row KeptLife → SupplyAnswer
supply_of producer start now mark row =
    supply_by producer start now row row.slot.rounds.fetched (wanted_part row.slot.rounds) (names_wanted start mark row)

-- where the subscription isn't held, nothing is ready
abbrev pub supply_in : (producer : List ℕ) → (start now : ℕ) → Mark → Option (Row KeptLife) → SupplyAnswer
supply_in producer start now mark None = not_supplied producer now refused_as.NothingReady
supply_in producer start now mark (Some row) = supply_of producer start now mark row

-- the answer to a request of a producer of this name, in a start at a moment, by the rows that are held
unfoldable pub supply_answer : (producer : List ℕ) → (start now : ℕ) → DataSupplyRequest → List (Row KeptLife) → SupplyAnswer
supply_answer producer start now r rows = supply_in producer start now r.extensions (find (is_of r.consumer_ref r.extensions.subscription) rows)

-- the rows after a request for the part that a consumer's mark names
abbrev pub rows_supplied : (start now : ℕ) → (consumer : List ℕ) → Mark → List (Row KeptLife) → List (Row KeptLife)
rows_supplied start now consumer mark rows = with_row_of consumer mark.subscription (supplied_row start now (mark_of mark)) rows
