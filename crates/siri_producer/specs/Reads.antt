-- How far the counter of steps rises with a message, also after want of memory.
use Rattle.std.specs.Prelude.{◌≡◌, ◌+◌, ◌*◌, ◌≤◌, length}
use Rattle.siri_messages.specs.declared.message.Message.{Message}
use Rattle.siri_messages.specs.declared.message.Message.TheVariants as message
use Rattle.siri_responder.specs.Topics.{topics_in}
use Rattle.siri_producer.specs.Known.{Known}

-- for a ServiceRequest it rises by at most as many steps as items are held, for each of its topics; for any other message it
-- stays
abbrev pub ReadsFor : Known → Known → Message → Type 0
ReadsFor old new (message.ServiceRequest request) =
    new.responder.reads ≤ old.responder.reads + length old.responder.held * topics_in request
ReadsFor old new other = new.responder.reads ≡ old.responder.reads
