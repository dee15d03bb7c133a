-- The commands over one document: what they tell of it, and how a run of one ends.
use Rattle.std.specs.Prelude.{◌≡◌, ◌≤◌, ◌<◌, ℕ, List, ◌++◌, length, drop, codes, Bool, true, false, None, Some, Result, Ok, Err, MatchBool}
use Rattle.std.specs.Io.KnownBytes.{Consumes, IsAtEnd}
use Rattle.siri_base.specs.declared.status.Status.{Status}
use Rattle.siri_base.specs.declared.status.Status.TheVariants as status
use Rattle.siri_tables.specs.Refusals.{Refusal}
use Rattle.siri_messages.specs.declared.message.Message.{Message}
use Rattle.siri_messages.specs.Kinds.{kind_of}
use Rattle.siri_wire.specs.Documents.{message_of, refusal_text}
use Rattle.siri_wire.specs.Canonical.{canonical}
use Rattle.siri_document.specs.script.Spaced.{line_feed}
use Rattle.siri_lines.specs.Ends.{Bytes, Ends, AppendsFront, is_cut}
use Rattle.siri_lines.specs.RunResult.{RunResult}

-- the refusal is told, and the run ends with status 1
abbrev pub refused_told : Refusal → RunResult
refused_told refusal = record { text = refusal_text refusal ++ line_feed; status = status.Refused }

-- this text is told of the document's message, or the refusal
abbrev pub told_of : (Message → List ℕ) → Result Message Refusal → RunResult
told_of text (Ok message) = record { text = text message ++ line_feed; status = status.Done }
told_of text (Err refusal) = refused_told refusal

unfoldable pub told_by : (Message → List ℕ) → List ℕ → RunResult
told_by text document = told_of text (message_of document)

-- `ok KIND`
abbrev pub ok_text : Message → List ℕ
ok_text message = codes "ok " ++ kind_of message

-- what `check` tells of a document: the name of its message, or the refusal
abbrev pub check_text : List ℕ → RunResult
check_text document = told_by ok_text document

-- what `convert` tells of a document: its message's canonical text, or the refusal
abbrev pub convert_text : List ℕ → RunResult
convert_text document = told_by canonical document

-- the status where a document is refused, and where it isn't
abbrev pub status_where : Bool → Status
status_where true = status.Refused
status_where false = status.Done

-- the document that was read: what the source had left, to its end or to byte 8,388,609
pub record IsDocument (before after : Bytes) (document : List ℕ) : Type 0 where
  pub taken : Consumes before after document
  pub bound : length document ≤ 8388609
  pub whole : length document < 8388609 → IsAtEnd after

-- what is told was written, or a front of it where the run was cut off
abbrev pub Tells : Bytes → RunResult → Bytes → Status → Type 0
Tells old told new end = MatchBool (is_cut end) (AppendsFront old new told.text) (Ends old told new end)

-- the whole text was written, the status is its own, and the input was read to its end, but no further than its byte 8,388,609
pub record Answered (told : RunResult) (input : List ℕ) (left old new : Bytes) (end : Status) : Type 0 where
  pub ends : Ends old told new end
  pub read : left ≡ Some (drop 8388609 input)

-- Where the source tells its bytes: what is told of them was written, and the run ended as it says; or the run was cut
-- off, and a front of that text was written.
abbrev pub Answers : (List ℕ → RunResult) → Bytes → Bytes → Bytes → Bytes → Status → Type 0
Answers told None left old new end = Unit {0}
Answers told (Some input) left old new end = MatchBool (is_cut end)
    (AppendsFront old new (told input).text)
    (Answered (told input) input left old new end)

-- the statuses that a command over one document may end with
abbrev pub EndsDocument : Status → Type 0
EndsDocument status.Done = Unit {0}
EndsDocument status.Refused = Unit {0}
EndsDocument status.ReadFault = Unit {0}
EndsDocument status.OutOfMemory = Unit {0}
EndsDocument status.WriteFault = Unit {0}
EndsDocument other = ⊥
