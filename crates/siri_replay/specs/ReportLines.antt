-- The texts of the lines of a report.
use Rattle.std.specs.Prelude.{ℕ, List, [], ◌++◌, Bool, true, false, codes, flat_map, Option, Some, None}
use Rattle.std.specs.Fmt.{decimal}
use Rattle.siri_base.specs.declared.place.Place.{Place}
use Rattle.siri_responder.specs.declared.feeding.Fed.{Fed as Counts}
use Rattle.siri_producer.specs.declared.answers.Note.{Note}
use Rattle.siri_producer.specs.declared.answers.Note.TheVariants as note
use Rattle.siri_view.specs.declared.outcome.AskError.{AskError}
use Rattle.siri_view.specs.declared.outcome.AskError.TheVariants as ask_error
use Rattle.siri_view.specs.declared.outcome.Held.{Held}
use Rattle.siri_view.specs.declared.outcome.Outcome.{Outcome}
use Rattle.siri_view.specs.declared.outcome.Outcome.TheVariants as outcome
use Rattle.siri_wire.specs.Canonical.{canonical}
use Rattle.siri_world_model.specs.declared.word.Word.{Word}
use Rattle.siri_world_model.specs.declared.word.Word.TheVariants as word
use Rattle.siri_world_model.specs.Lines as line
use Rattle.siri_world_model.specs.Lines.{ToldLine}
use Rattle.siri_document.specs.script.Items.{item_line}
use Rattle.siri_document.specs.script.Spaced.{line_feed, space, spaced}
use Rattle.siri_document.specs.script.ViewLines.{held_text}

-- ---- what a receiver says of a packet

-- `OBSERVED WITHDRAWN FULL`
abbrev pub fed_text : Counts → List ℕ
fed_text fed = spaced (decimal fed.observed) (spaced (decimal fed.withdrawn) (decimal fed.full))

-- `R P`
abbrev pub place_text : Place → List ℕ
place_text place = spaced (decimal place.round) (decimal place.part)

-- the producer
abbrev pub note_text : Note → List ℕ
note_text note.Asked = codes "Asked"
note_text note.Subscribed = codes "Subscribed"
note_text note.Ended = codes "Ended"
note_text note.Renewed = codes "Renewed"
note_text note.NotRenewed = codes "NotRenewed"
note_text note.Supplied = codes "Supplied"
note_text note.NothingReady = codes "NothingReady"
note_text (note.WrongPart wanted) = spaced (codes "WrongPart") (place_text wanted)
note_text note.Acknowledged = codes "Acknowledged"
note_text note.NotThis = codes "NotThis"
note_text note.Checked = codes "Checked"
note_text (note.Fed fed) = spaced (codes "Fed") (fed_text fed)
note_text note.Ignored = codes "Ignored"

-- a consumer
abbrev pub outcome_text : Outcome → List ℕ
outcome_text outcome.UnknownSubscription = codes "UnknownSubscription"
outcome_text outcome.OldStart = codes "OldStart"
outcome_text (outcome.Gap wanted) = spaced (codes "Gap") (place_text wanted)
outcome_text outcome.Repeat = codes "Repeat"
outcome_text outcome.Overlong = codes "Overlong"
outcome_text outcome.Ready = codes "Ready"
outcome_text (outcome.Buffered place) = spaced (codes "Buffered") (place_text place)
outcome_text (outcome.Applied round) = spaced (codes "Applied") (decimal round)
outcome_text outcome.Noted = codes "Noted"
outcome_text outcome.NotForMe = codes "NotForMe"

abbrev pub word_text : Word → List ℕ
word_text (word.Producer note) = note_text note
word_text (word.Consumer outcome) = outcome_text outcome

-- ---- the other parts of lines

-- why a consumer doesn't ask
abbrev pub ask_text : AskError → List ℕ
ask_text ask_error.Spent = codes "Spent"
ask_text ask_error.TooMany = codes "TooMany"
ask_text ask_error.NotHeld = codes "NotHeld"
ask_text ask_error.OutOfMemory = codes "OutOfMemory"

-- ` ID`, where a subscription is named
abbrev pub and_identifier : Option (List ℕ) → List ℕ
and_identifier None = []
and_identifier (Some identifier) = space ++ identifier

abbrev pub state_text : Bool → List ℕ
state_text true = codes "quiet"
state_text false = codes "moving"

-- `view CONSUMER ID number N start S round R items K STATE`
abbrev pub view_text : (consumer identifier : List ℕ) → Held → (items : ℕ) → (quiet : Bool) → List ℕ
view_text consumer identifier held items quiet =
    spaced (codes "view") (spaced consumer (spaced identifier (
    spaced (held_text held) (spaced (spaced (codes "items") (decimal items)) (state_text quiet)))))

-- `packet N to RECEIVER`
abbrev pub packet_text : ℕ → List ℕ → List ℕ
packet_text number to = spaced (spaced (codes "packet") (decimal number)) (spaced (codes "to") to)

-- ---- lines

-- a line without its end
abbrev pub told_text : ToldLine → List ℕ
told_text (line.Started number) = spaced (codes "started") (decimal number)
told_text (line.Fed fed) = spaced (codes "fed") (fed_text fed)
told_text (line.Answer message) = spaced (codes "answer") (canonical message)
told_text (line.Packet number to message) = spaced (packet_text number to) (canonical message)
told_text (line.Refused consumer error) = spaced (codes "refused") (spaced consumer (ask_text error))
told_text (line.Unknown consumer identifier) = spaced (codes "unknown") (consumer ++ and_identifier identifier)
told_text (line.Took receiver word) = spaced (codes "took") (spaced receiver (word_text word))
told_text (line.NoPacket number) = spaced (codes "no packet") (decimal number)
told_text (line.View consumer identifier held items quiet) = view_text consumer identifier held items quiet
told_text (line.Item item) = item_line item

-- a line
unfoldable pub line_text : ToldLine → List ℕ
line_text line = told_text line ++ line_feed

-- one after the other
abbrev pub lines_text : List ToldLine → List ℕ
lines_text lines = flat_map line_text lines
