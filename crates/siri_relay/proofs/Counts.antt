-- How far the counter of a relay's producer rises.
use Rattle.std.proofs.Common.{◌≡◌, ◌≤◌, ◌+◌, ℕ, ◌++◌, length, ap, subst, arith}
use Rattle.std.specs.Prelude.{◌*◌}
use Rattle.siri_messages.specs.declared.message.Message.{Message}
use Rattle.siri_messages.specs.declared.message.Message.TheVariants as message
use Rattle.siri_model.specs.History.{History}
use Rattle.siri_responder.specs.Topics.{topics_in}
use Rattle.siri_producer.specs.Known.{StandsFor}
use Rattle.siri_producer.specs.Reads.{ReadsFor}
use Rattle.siri_relay.specs.Goes.{GoesBy}
use Rattle.siri_relay.specs.Reads.{ReadsToReply, reply_reads}
use Rattle.siri_relay.specs.Relaying.{KnownRelay, catch_up_steps}

-- nothing was looked at
pub reads_none : (old new : KnownRelay) (m : Message) → new.producer.responder.reads ≡ old.producer.responder.reads → ReadsToReply old new m
reads_none old new m same = record { risen = omega (arith, same); few = λ h s. omega (arith, same) }

-- from a count that is the same
from_same : (old mid new n : ℕ) → mid ≡ old → new ≤ mid + n → new ≤ old + n
from_same old mid new n same few = omega (arith, same, few)

still : (old mid new : ℕ) → mid ≡ old → new ≡ mid → new ≤ old + 0
still old mid new same also = omega (arith, same, also)

-- its producer took a message, once it was fed what was missing
module _ (old mid new : KnownRelay) (same : mid.producer.responder.reads ≡ old.producer.responder.reads)
    (goes : GoesBy old.producer mid.producer (catch_up_steps old)) where
  few_down : (m : Message) → ReadsFor mid.producer new.producer m → (h : History) → StandsFor old.producer h
      → new.producer.responder.reads ≤ old.producer.responder.reads + reply_reads (h ++ catch_up_steps old) m
  few_down (message.ServiceRequest r) reads h s =
      from_same _ _ _ _ same
      (subst (λ n. new.producer.responder.reads ≤ mid.producer.responder.reads + n * topics_in r)
      (ap length (goes.stands h s).responder.held) reads)
  few_down (message.ServiceDelivery m) reads h s = still _ _ _ same reads
  few_down (message.SubscriptionRequest m) reads h s = still _ _ _ same reads
  few_down (message.SubscriptionResponse m) reads h s = still _ _ _ same reads
  few_down (message.TerminateSubscriptionRequest m) reads h s = still _ _ _ same reads
  few_down (message.TerminateSubscriptionResponse m) reads h s = still _ _ _ same reads
  few_down (message.DataReadyNotification m) reads h s = still _ _ _ same reads
  few_down (message.DataReadyAcknowledgement m) reads h s = still _ _ _ same reads
  few_down (message.DataSupplyRequest m) reads h s = still _ _ _ same reads
  few_down (message.DataReceivedAcknowledgement m) reads h s = still _ _ _ same reads
  few_down (message.CheckStatusRequest m) reads h s = still _ _ _ same reads
  few_down (message.CheckStatusResponse m) reads h s = still _ _ _ same reads
  few_down (message.HeartbeatNotification m) reads h s = still _ _ _ same reads

  pub reads_down : (m : Message) → mid.producer.responder.reads ≤ new.producer.responder.reads → ReadsFor mid.producer new.producer m
      → ReadsToReply old new m
  reads_down m risen reads = record { risen = omega (arith, same, risen); few = λ h s. few_down m reads h s }
