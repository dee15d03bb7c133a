-- A line as it is told: a message of a packet and an item are told as they are, however they are shared.
use Rattle.std.specs.Prelude.{ℕ, Bool, List, Option, map}
use Rattle.siri_records.specs.declared.item.Item.{Item as AnItem}
use Rattle.siri_messages.specs.declared.message.Message.{Message}
use Rattle.siri_responder.specs.declared.feeding.Fed.{Fed as Counts}
use Rattle.siri_life.specs.Named.{Name}
use Rattle.siri_view.specs.declared.outcome.AskError.{AskError}
use Rattle.siri_view.specs.declared.outcome.Held.{Held}
use Rattle.siri_world_model.specs.declared.line.Line.{Line}
use Rattle.siri_world_model.specs.declared.line.Line.TheVariants as line
use Rattle.siri_world_model.specs.declared.word.Word.{Word}

pub data ToldLine : Type 0 where
  Started : (number : ℕ) → ToldLine
  Fed : Counts → ToldLine
  Answer : Message → ToldLine
  Packet : (number : ℕ) → (to : Name) → Message → ToldLine
  Refused : (consumer : Name) → AskError → ToldLine
  Unknown : (consumer : Name) → (identifier : Option Name) → ToldLine
  Took : (receiver : Name) → Word → ToldLine
  NoPacket : (number : ℕ) → ToldLine
  View : (consumer identifier : Name) → Held → (items : ℕ) → (quiet : Bool) → ToldLine
  Item : AnItem → ToldLine

abbrev pub told_line : Line → ToldLine
told_line (line.Started number) = Started number
told_line (line.Fed counts) = Fed counts
told_line (line.Answer message) = Answer message
told_line (line.Packet number to message) = Packet number to message.value
told_line (line.Refused consumer error) = Refused consumer error
told_line (line.Unknown consumer identifier) = Unknown consumer identifier
told_line (line.Took receiver word) = Took receiver word
told_line (line.NoPacket number) = NoPacket number
told_line (line.View consumer identifier held items quiet) = View consumer identifier held items quiet
told_line (line.Item item) = Item item.value

-- the lines that a call gives, as they are told
abbrev pub told_lines : List Line → List ToldLine
told_lines lines = map told_line lines
