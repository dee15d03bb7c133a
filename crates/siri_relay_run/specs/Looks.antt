-- How many held items a relay's producer may look at in a turn: how far the counter of its steps rises.
use Rattle.std.specs.Prelude.{◌≡◌, ◌≤◌, ◌+◌, ◌++◌, ℕ, [], Option, None, Some}
use Rattle.siri_messages.specs.declared.message.Message.{Message}
use Rattle.siri_model.specs.History.{History}
use Rattle.siri_producer.specs.Known.{Follows, StandsFor}
use Rattle.siri_relay.specs.Reads.{reply_reads}
use Rattle.siri_relay.specs.Relaying.{KnownRelay, catch_up_steps, take_steps}
use Rattle.siri_ends.specs.Looks.{settle_looks}

-- the steps of its producer as it takes a message, where there is one
abbrev pub steps_taken : KnownRelay → Option Message → History
steps_taken relay None = []
steps_taken relay (Some message) = take_steps relay message

-- what its producer may look at as it replies to it, once what was missing is fed
abbrev pub reply_reads_of : KnownRelay → History → Option Message → ℕ
reply_reads_of relay h None = 0
reply_reads_of relay h (Some message) = reply_reads (h ++ catch_up_steps relay) message

-- A message is taken, where there is one, and then the relay settles, once; or memory was wanting for it. The counter never falls, and
-- whatever history the producer followed, it rises by at most what the reply and a settle after the message may look at.
pub record RelayLooksOnce (old new : KnownRelay) (message : Option Message) : Type 0 where
  pub risen : old.producer.responder.reads ≤ new.producer.responder.reads
  pub bound : (h : History) → Follows old.producer h
      → new.producer.responder.reads
      ≤ old.producer.responder.reads + reply_reads_of old h message + settle_looks (h ++ steps_taken old message)

-- so it is where a message is heard that is taken; where none is, the counter stays
abbrev pub RelayLooksHearing : KnownRelay → KnownRelay → Option Message → Type 0
RelayLooksHearing old new None = new.producer.responder.reads ≡ old.producer.responder.reads
RelayLooksHearing old new (Some message) = RelayLooksOnce old new (Some message)

-- ---- inner words, cited by private functions alone

-- before the settle: the counter has risen by at most what the reply may look at
pub record RelayLooksToReply (old taken : KnownRelay) (message : Option Message) : Type 0 where
  pub risen : old.producer.responder.reads ≤ taken.producer.responder.reads
  pub few : (h : History) → StandsFor old.producer h
      → taken.producer.responder.reads ≤ old.producer.responder.reads + reply_reads_of old h message
