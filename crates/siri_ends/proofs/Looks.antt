-- How many held items a turn may look at.
use Rattle.std.proofs.Common.{◌≡◌, ◌≤◌, ◌+◌, ℕ, [], ◌∷◌, ◌++◌, Bool, true, false, length, Option, None, Some, refl, sym, ◌∙◌, subst, append-nil, ap, arith}
use Rattle.std.specs.Prelude.{◌*◌, if◌then◌else◌}
use Rattle.siri_records.specs.Keyed.{living}
use Rattle.siri_messages.specs.declared.message.Message.{Message}
use Rattle.siri_messages.specs.declared.message.Message.TheVariants as message
use Rattle.siri_messages.specs.declared.requests.ServiceRequest.{ServiceRequest}
use Rattle.siri_model.specs.Followed.{followed_after, followed_of, look_bounds, rows_taken}
use Rattle.siri_model.specs.History.{History, Take, after_step, state_of}
use Rattle.siri_model.proofs.FollowedRows.{go_on}
use Rattle.siri_model.proofs.InOrder.{more_steps}
use Rattle.siri_responder.specs.Topics.{topics_in}
use Rattle.siri_producer.specs.Known.{Follows, GoesOn, Known}
use Rattle.siri_producer.specs.Reads.{ReadsFor}
use Rattle.siri_producer.proofs.Follows.{untouched}
use Rattle.siri_ends.specs.Lending.{is_direct}
use Rattle.siri_ends.specs.Looks.{FollowsAlike, LooksOnce, LooksToReply, settle_looks}

-- ---- a request for items changes nothing for a settle

state_asked : (h : History) (r : ServiceRequest) → state_of (h ++ Take (message.ServiceRequest r) ∷ []) ≡ state_of h
unfolding after_step
state_asked h r = more_steps h (Take (message.ServiceRequest r))

followed_asked : (h : History) (r : ServiceRequest) → followed_of (h ++ Take (message.ServiceRequest r) ∷ []) ≡ followed_of h
unfolding followed_after rows_taken
followed_asked h r = go_on h (Take (message.ServiceRequest r)) ∙ untouched (followed_of h)

looks_asked : (h : History) (r : ServiceRequest) → settle_looks (h ++ Take (message.ServiceRequest r) ∷ []) ≡ settle_looks h
looks_asked h r =
    λ i. look_bounds (state_asked h r i).now (living (state_asked h r i).now (state_asked h r i).current) (followed_asked h r i)

-- ---- what is followed before the settle

-- after a message that was taken
pub alike_taken : (old taken : Known) (m : Message) → GoesOn old taken (Take m) → FollowsAlike old taken (Some m)
alike_taken old taken m goes h follows = (h ++ Take m ∷ [], goes.follows h follows, refl)

-- without one
pub alike_none : (known : Known) → FollowsAlike known known None
alike_none known h follows = (h, follows, ap settle_looks (sym (append-nil h)))

-- a request that is answered directly
pub alike_direct : (known : Known) (m : Message) → is_direct m ≡ true → FollowsAlike known known (Some m)
alike_direct known (message.ServiceRequest r) direct h follows = (h, follows, sym (looks_asked h r))
alike_direct known (message.ServiceDelivery m) direct h follows = absurd (cc direct)
alike_direct known (message.SubscriptionRequest m) direct h follows = absurd (cc direct)
alike_direct known (message.SubscriptionResponse m) direct h follows = absurd (cc direct)
alike_direct known (message.TerminateSubscriptionRequest m) direct h follows = absurd (cc direct)
alike_direct known (message.TerminateSubscriptionResponse m) direct h follows = absurd (cc direct)
alike_direct known (message.DataReadyNotification m) direct h follows = absurd (cc direct)
alike_direct known (message.DataReadyAcknowledgement m) direct h follows = absurd (cc direct)
alike_direct known (message.DataSupplyRequest m) direct h follows = absurd (cc direct)
alike_direct known (message.DataReceivedAcknowledgement m) direct h follows = absurd (cc direct)
alike_direct known (message.CheckStatusRequest m) direct h follows = absurd (cc direct)
alike_direct known (message.CheckStatusResponse m) direct h follows = absurd (cc direct)
alike_direct known (message.HeartbeatNotification m) direct h follows = absurd (cc direct)

-- ---- what the reply looks at

-- nothing was looked at
pub looks_none : (old taken : Known) (m : Option Message) → taken.responder.reads ≡ old.responder.reads → LooksToReply old taken m
looks_none old taken m same = record { risen = omega (arith, same); few = omega (arith, same) }

-- a message was taken whose answer isn't lent
pub looks_taken : (old taken : Known) (m : Message) → is_direct m ≡ false → old.responder.reads ≤ taken.responder.reads
    → ReadsFor old taken m → LooksToReply old taken (Some m)
looks_taken old taken (message.ServiceRequest r) apart risen reads = record {
  risen = risen;
  few = subst
      (λ (lent : Bool). taken.responder.reads ≤ old.responder.reads + (if lent then 0 else length old.responder.held * topics_in r))
      (sym apart) reads;
}
looks_taken old taken (message.ServiceDelivery m) apart risen reads = looks_none old taken _ reads
looks_taken old taken (message.SubscriptionRequest m) apart risen reads = looks_none old taken _ reads
looks_taken old taken (message.SubscriptionResponse m) apart risen reads = looks_none old taken _ reads
looks_taken old taken (message.TerminateSubscriptionRequest m) apart risen reads = looks_none old taken _ reads
looks_taken old taken (message.TerminateSubscriptionResponse m) apart risen reads = looks_none old taken _ reads
looks_taken old taken (message.DataReadyNotification m) apart risen reads = looks_none old taken _ reads
looks_taken old taken (message.DataReadyAcknowledgement m) apart risen reads = looks_none old taken _ reads
looks_taken old taken (message.DataSupplyRequest m) apart risen reads = looks_none old taken _ reads
looks_taken old taken (message.DataReceivedAcknowledgement m) apart risen reads = looks_none old taken _ reads
looks_taken old taken (message.CheckStatusRequest m) apart risen reads = looks_none old taken _ reads
looks_taken old taken (message.CheckStatusResponse m) apart risen reads = looks_none old taken _ reads
looks_taken old taken (message.HeartbeatNotification m) apart risen reads = looks_none old taken _ reads

-- ---- and the settle

-- more than is said
pub more : (reads before reply settle : ℕ) → reads ≤ before + reply → reads ≤ before + reply + settle
more reads before reply settle few = omega (arith, few)

-- one after the other
pub both : (before taken reads reply settle : ℕ) → taken ≤ before + reply → reads ≤ taken + settle → reads ≤ before + reply + settle
both before taken reads reply settle first next = omega (arith, first, next)

-- memory was wanting before it
pub looks_unsettled : (old taken : Known) (m : Option Message) → LooksToReply old taken m → LooksOnce old taken m
looks_unsettled old taken m looks = record { risen = looks.risen; bound = λ h follows. more _ _ _ _ looks.few }

-- it was made, or memory was wanting for it
pub looks_settled : (old taken new : Known) (m : Option Message) → LooksToReply old taken m → FollowsAlike old taken m
    → taken.responder.reads ≤ new.responder.reads
    → ((h : History) → Follows taken h → new.responder.reads ≤ taken.responder.reads + settle_looks h) → LooksOnce old new m
looks_settled old taken new m looks alike risen bound = record {
  risen = omega (arith, looks.risen, risen);
  bound = λ h follows.
      let after = alike h follows in
      both _ _ _ _ _ looks.few
      (subst (λ n. new.responder.reads ≤ taken.responder.reads + n) after.2 (bound after.0 after.1));
}

-- ---- a message that is heard

pub heard_unsettled : (old taken : Known) (m : Message) → old.responder.reads ≤ taken.responder.reads → ReadsFor old taken m
    → is_direct m ≡ false → LooksOnce old taken (Some m)
heard_unsettled old taken m risen reads apart = looks_unsettled old taken (Some m) (looks_taken old taken m apart risen reads)

pub heard_settled : (old taken new : Known) (m : Message) → old.responder.reads ≤ taken.responder.reads → ReadsFor old taken m
    → GoesOn old taken (Take m) → taken.responder.reads ≤ new.responder.reads
    → ((h : History) → Follows taken h → new.responder.reads ≤ taken.responder.reads + settle_looks h)
    → is_direct m ≡ false → LooksOnce old new (Some m)
heard_settled old taken new m risen reads goes rises bound apart =
    looks_settled old taken new (Some m) (looks_taken old taken m apart risen reads) (alike_taken old taken m goes) rises bound
