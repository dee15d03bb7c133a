-- How far the counter of a relay's producer rises with a message, also after want of memory.
use Rattle.std.specs.Prelude.{◌≤◌, ◌+◌, ◌*◌, ◌++◌, ℕ, length}
use Rattle.siri_records.specs.Keyed.{living}
use Rattle.siri_messages.specs.declared.message.Message.{Message}
use Rattle.siri_messages.specs.declared.message.Message.TheVariants as message
use Rattle.siri_model.specs.History.{History, current, now_of}
use Rattle.siri_responder.specs.Topics.{topics_in}
use Rattle.siri_producer.specs.Known.{StandsFor}
use Rattle.siri_relay.specs.Relaying.{KnownRelay, catch_up_steps}

-- what making the reply to a message may look at after a history: of a request for items each that is live, for each of its topics
abbrev pub reply_reads : History → Message → ℕ
reply_reads h (message.ServiceRequest request) = length (living (now_of h) (current h)) * topics_in request
reply_reads h other = 0

-- It never falls. Feeding what is missing, and the changes of a round, looks at nothing; so whatever history the producer stood for, it
-- rises by at most what the reply may look at, once what was missing is fed.
pub record ReadsToReply (old new : KnownRelay) (m : Message) : Type 0 where
  pub risen : old.producer.responder.reads ≤ new.producer.responder.reads
  pub few : (h : History) → StandsFor old.producer h
      → new.producer.responder.reads ≤ old.producer.responder.reads + reply_reads (h ++ catch_up_steps old) m
