-- How many held items a turn of a relay may look at.
use Rattle.std.proofs.Common.{◌≡◌, ◌≤◌, ◌+◌, ◌++◌, Option, Some, arith}
use Rattle.siri_messages.specs.declared.message.Message.{Message}
use Rattle.siri_model.specs.History.{History}
use Rattle.siri_producer.specs.Known.{Follows}
use Rattle.siri_relay.specs.Goes.{GoesBy}
use Rattle.siri_relay.specs.Reads.{ReadsToReply}
use Rattle.siri_relay.specs.Relaying.{KnownRelay}
use Rattle.siri_ends.specs.Looks.{settle_looks}
use Rattle.siri_ends.proofs.Looks.{both, more}
use Rattle.siri_relay_run.specs.Looks.{RelayLooksOnce, RelayLooksToReply, steps_taken}

-- nothing was looked at
pub looks_none : (old taken : KnownRelay) (m : Option Message) → taken.producer.responder.reads ≡ old.producer.responder.reads
    → RelayLooksToReply old taken m
looks_none old taken m same = record { risen = omega (arith, same); few = λ h s. omega (arith, same) }

-- a message was taken
pub looks_taken : (old taken : KnownRelay) (m : Message) → ReadsToReply old taken m → RelayLooksToReply old taken (Some m)
looks_taken old taken m reads = record { risen = reads.risen; few = reads.few }

-- memory was wanting before the settle
pub looks_unsettled : (old taken : KnownRelay) (m : Option Message) → RelayLooksToReply old taken m → RelayLooksOnce old taken m
looks_unsettled old taken m looks = record { risen = looks.risen; bound = λ h follows. more _ _ _ _ (looks.few h follows.stands) }

-- it was made, or memory was wanting for it
pub looks_settled : (old taken new : KnownRelay) (m : Option Message) → RelayLooksToReply old taken m
    → GoesBy old.producer taken.producer (steps_taken old m) → taken.producer.responder.reads ≤ new.producer.responder.reads
    → ((h : History) → Follows taken.producer h → new.producer.responder.reads ≤ taken.producer.responder.reads + settle_looks h)
    → RelayLooksOnce old new m
looks_settled old taken new m looks goes risen bound = record {
  risen = omega (arith, looks.risen, risen);
  bound = λ h follows. both _ _ _ _ _ (looks.few h follows.stands) (bound (h ++ steps_taken old m) (goes.follows h follows));
}
