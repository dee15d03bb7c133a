-- How many held items a turn over a shelf may look at.
use Rattle.std.proofs.Common.{◌≡◌, ◌≤◌, ◌+◌, ℕ, List, [], ◌∷◌, ◌++◌, map, length, true, false, Option, Some, refl, sym, ap, ◌∙◌, subst, arith}
use Rattle.std.proofs.lemmas.List.{length-map}
use Rattle.siri_records.specs.declared.key.Key.{Key}
use Rattle.siri_messages.specs.Rounds.{has_round}
use Rattle.siri_messages.specs.declared.deliveries.ServiceDelivery.{ServiceDelivery}
use Rattle.siri_messages.specs.declared.message.Message.{Message}
use Rattle.siri_messages.specs.declared.message.Message.TheVariants as message
use Rattle.siri_model.specs.History.{History, Take, entries_of}
use Rattle.siri_model.specs.Last.{entry_key}
use Rattle.siri_store.specs.Held.{counted}
use Rattle.siri_producer.specs.Known.{Follows, Known}
use Rattle.siri_producer.specs.Reads.{ReadsFor}
use Rattle.siri_producer.proofs.Stands.{fed_all}
use Rattle.siri_ends.specs.Looks.{FollowsAlike, LooksToReply, settle_looks}
use Rattle.siri_ends.proofs.Looks.{alike_none, both, more}
use Rattle.siri_keep.specs.declared.kept.Kept.{Kept}
use Rattle.siri_keep.specs.Calls.{FollowsOn}
use Rattle.siri_keep.specs.Looks.{KeptLooksOnce, LooksInTurn, LooksTaking, LooksUpTo, row_looks}
use Rattle.siri_keep.specs.Puts.{changes_rows, has_long_row}
use Rattle.siri_keep.specs.Serving.{short_of}

pub looks_still : (old new : Known) (most : ℕ) → new.responder.reads ≡ old.responder.reads → LooksUpTo old new most
looks_still old new most same = record { risen = omega (arith, same); few = omega (arith, same) }

-- one item was looked up
pub looks_one : (old new : Known) → new ≡ record old { responder = record old.responder { reads = counted old.responder.reads 1 } }
    → LooksUpTo old new 1
looks_one old new is =
    let reads : new.responder.reads ≡ counted old.responder.reads 1 = ap (λ (k : Known). k.responder.reads) is in
    record { risen = omega (arith, reads); few = omega (arith, reads) }

-- ---- a message

-- more than is said
spare : (before reads answer rows : ℕ) → reads ≤ before + answer → reads ≤ before + (answer + rows)
spare before reads answer rows few = omega (arith, few)

-- it was taken, with its answer, or memory was wanting for that
pub looks_message : (old new : Known) (m : Message) → old.responder.reads ≤ new.responder.reads → ReadsFor old new m → LooksTaking old new m
looks_message old new (message.ServiceRequest r) risen reads = record { risen = risen; few = spare _ _ _ _ reads }
looks_message old new (message.ServiceDelivery m) risen reads = looks_still old new _ reads
looks_message old new (message.SubscriptionRequest m) risen reads = looks_still old new _ reads
looks_message old new (message.SubscriptionResponse m) risen reads = looks_still old new _ reads
looks_message old new (message.TerminateSubscriptionRequest m) risen reads = looks_still old new _ reads
looks_message old new (message.TerminateSubscriptionResponse m) risen reads = looks_still old new _ reads
looks_message old new (message.DataReadyNotification m) risen reads = looks_still old new _ reads
looks_message old new (message.DataReadyAcknowledgement m) risen reads = looks_still old new _ reads
looks_message old new (message.DataSupplyRequest m) risen reads = looks_still old new _ reads
looks_message old new (message.DataReceivedAcknowledgement m) risen reads = looks_still old new _ reads
looks_message old new (message.CheckStatusRequest m) risen reads = looks_still old new _ reads
looks_message old new (message.CheckStatusResponse m) risen reads = looks_still old new _ reads
looks_message old new (message.HeartbeatNotification m) risen reads = looks_still old new _ reads

-- a feed was taken, and each key that it names was looked up
pub looks_fed : (old mid new : Known) (d : ServiceDelivery) (keys : List Key) → mid.responder.reads ≡ old.responder.reads
    → LooksUpTo mid new (length keys) → keys ≡ map entry_key (entries_of d) → has_round d ≡ false
    → LooksTaking old new (message.ServiceDelivery d)
looks_fed old mid new d keys same looks are none =
    let count : length keys ≡ row_looks (message.ServiceDelivery d) =
    ap length are ∙ length-map (entries_of d) entry_key ∙ sym (ap length (fed_all d none)) in
    record { risen = omega (arith, same, looks.risen); few = omega (arith, same, looks.few, count) }

-- what was planned is written, or couldn't be
pub looks_written : (old mid new : Kept) (m : Message) → LooksTaking old.producer mid.producer m
    → new ≡ record mid { is_closed = new.is_closed } → LooksTaking old.producer new.producer m
looks_written old mid new m looks rest = subst (λ (k : Kept). LooksTaking old.producer k.producer m) (sym rest) looks

-- ---- before the settle

pub looks_none : (known : Known) (m : Option Message) → LooksInTurn known known m
looks_none known m = looks_still known known _ refl

-- a reply was prepared
reply_looks_within : (old new : Known) (m : Message) → LooksToReply old new (Some m) → LooksInTurn old new (Some m)
reply_looks_within old new m looks = record { risen = looks.risen; few = spare _ _ _ _ looks.few }

pub looks_reply : (old new : Known) (m : Message) → has_long_row m ≡ false → LooksToReply old new (Some m) → LooksInTurn old new (short_of m)
looks_reply old new m short looks = rw short (reply_looks_within old new m looks)

-- a message was taken that changes rows; it isn't a request for items
row_looks_within : (old new : Known) (m : Message) → changes_rows m ≡ true → LooksTaking old new m → LooksInTurn old new (Some m)
row_looks_within old new (message.ServiceRequest r) changes looks = absurd (cc changes)
row_looks_within old new (message.ServiceDelivery m) changes looks = looks
row_looks_within old new (message.SubscriptionRequest m) changes looks = looks
row_looks_within old new (message.SubscriptionResponse m) changes looks = looks
row_looks_within old new (message.TerminateSubscriptionRequest m) changes looks = looks
row_looks_within old new (message.TerminateSubscriptionResponse m) changes looks = looks
row_looks_within old new (message.DataReadyNotification m) changes looks = looks
row_looks_within old new (message.DataReadyAcknowledgement m) changes looks = looks
row_looks_within old new (message.DataSupplyRequest m) changes looks = looks
row_looks_within old new (message.DataReceivedAcknowledgement m) changes looks = looks
row_looks_within old new (message.CheckStatusRequest m) changes looks = looks
row_looks_within old new (message.CheckStatusResponse m) changes looks = looks
row_looks_within old new (message.HeartbeatNotification m) changes looks = looks

pub looks_rows : (old new : Known) (m : Message) → has_long_row m ≡ false → changes_rows m ≡ true → LooksTaking old new m
    → LooksInTurn old new (short_of m)
looks_rows old new m short changes looks = rw short (row_looks_within old new m changes looks)

-- what is followed then
pub alike_on : (old new : Known) (m : Message) → FollowsOn old new (Take m ∷ []) → FollowsAlike old new (Some m)
alike_on old new m goes h follows = (h ++ Take m ∷ [], goes h follows, refl)

pub alike_short : (old new : Known) (m : Message) → has_long_row m ≡ false → FollowsAlike old new (Some m) → FollowsAlike old new (short_of m)
alike_short old new m short alike = rw short alike

pub alike_long : (known : Known) (m : Message) → has_long_row m ≡ true → FollowsAlike known known (short_of m)
alike_long known m long = rw long (alike_none known)

-- ---- and the settle

-- there was none
pub kept_unsettled : (old taken : Known) (m : Option Message) → LooksInTurn old taken m
    → KeptLooksOnce old taken m
kept_unsettled old taken m looks = record { risen = looks.risen; bound = λ h follows. more _ _ _ _ looks.few }

-- it was made, or memory was wanting for it
pub kept_settled : (old taken new : Known) (m : Option Message) → LooksInTurn old taken m
    → FollowsAlike old taken m → taken.responder.reads ≤ new.responder.reads
    → ((h : History) → Follows taken h → new.responder.reads ≤ taken.responder.reads + settle_looks h) → KeptLooksOnce old new m
kept_settled old taken new m looks alike risen bound = record {
  risen = omega (arith, looks.risen, risen);
  bound = λ h follows.
      let after = alike h follows in
      both _ _ _ _ _ looks.few
      (subst (λ n. new.responder.reads ≤ taken.responder.reads + n) after.2 (bound after.0 after.1));
}
