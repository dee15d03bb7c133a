-- How many held items a producer over a shelf may look at in a turn: how far the counter of its steps rises.
use Rattle.std.specs.Prelude.{◌≤◌, ◌+◌, ◌*◌, ◌++◌, ℕ, length, Option, None, Some}
use Rattle.siri_messages.specs.declared.message.Message.{Message}
use Rattle.siri_messages.specs.declared.message.Message.TheVariants as message
use Rattle.siri_model.specs.History.{History, entries_fed}
use Rattle.siri_responder.specs.Topics.{topics_in}
use Rattle.siri_producer.specs.Known.{Follows, Known}
use Rattle.siri_ends.specs.Looks.{reply_looks_of, settle_looks}
use Rattle.siri_ends.specs.Responses.{taking}

-- the counter has risen, by at most so many
pub record LooksUpTo (old new : Known) (most : ℕ) : Type 0 where
  pub risen : old.responder.reads ≤ new.responder.reads
  pub few : new.responder.reads ≤ old.responder.reads + most

-- what making the answer to a message may look at: of a request for items each that is held, for each of its topics
abbrev pub answer_looks : (held : ℕ) → Message → ℕ
answer_looks held (message.ServiceRequest request) = held * topics_in request
answer_looks held other = 0

-- what writing its rows may look at: of a feed one item for each key that it names
abbrev pub row_looks : Message → ℕ
row_looks message = length (entries_fed message)

-- a message is taken, with its answer, or memory was wanting, or the shelf failed
abbrev pub LooksTaking : Known → Known → Message → Type 0
LooksTaking old new message = LooksUpTo old new (answer_looks (length old.responder.held) message + row_looks message)

-- What is looked at of a message in a turn before the settle: for its rows, and for the reply. An answer that is lent isn't made
-- then, but written after the settle.
abbrev pub turn_looks : (held : ℕ) → Option Message → ℕ
turn_looks held None = 0
turn_looks held (Some message) = reply_looks_of held (Some message) + row_looks message

abbrev pub LooksInTurn : Known → Known → Option Message → Type 0
LooksInTurn old new message = LooksUpTo old new (turn_looks (length old.responder.held) message)

-- A message is taken, where there is one, and then the producer settles, once; or memory was wanting, or the shelf failed. The counter
-- never falls, and whatever history the producer followed, it rises by at most what the rows, the reply and a settle after the message
-- may look at.
pub record KeptLooksOnce (old new : Known) (message : Option Message) : Type 0 where
  pub risen : old.responder.reads ≤ new.responder.reads
  pub bound : (h : History) → Follows old h
      → new.responder.reads
      ≤ old.responder.reads + turn_looks (length old.responder.held) message + settle_looks (h ++ taking message)
