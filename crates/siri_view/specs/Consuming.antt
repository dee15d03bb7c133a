-- What a consumer is, and what a message, a request and a termination make of it (EN 15531-2, subscriptions and
-- deliveries).
use Rattle.std.specs.Prelude.{ℕ, ℤ, suc, ◌+◌, max, Bool, true, false, cond, List, [], ◌∷◌, ◌++◌, length, map, fold, flat_map, Option, Some, None, is_none}
use Rattle.std.specs.List.{filter}
use Rattle.siri_base.specs.declared.place.Place.{Place}
use Rattle.siri_topic.specs.Agreement.{same_name}
use Rattle.siri_topic.specs.declared.subscription.Subscription.{Subscription}
use Rattle.siri_change.specs.Parts.{Carried}
use Rattle.siri_messages.specs.Asked.{AskedFor}
use Rattle.siri_messages.specs.declared.message.Message.{Message}
use Rattle.siri_life.specs.Life.{Mark, Packet, Subscribe, Terminate, AllData, Supply, Acknowledge, Notify, Delivery}
use Rattle.siri_life.specs.Link as life
use Rattle.siri_life.specs.Link.{asked, taken, replies, asks_for}
use Rattle.siri_life.specs.Named.{Name}
use Rattle.siri_life.specs.Network.{restarted_from}
use Rattle.siri_view.specs.declared.outcome.Outcome.{Outcome}
use Rattle.siri_view.specs.declared.outcome.Outcome.TheVariants as outcome
use Rattle.siri_view.specs.declared.outcome.Seen.{Seen}
use Rattle.siri_view.specs.declared.outcome.Held.{Held}
use Rattle.siri_view.specs.Kept.{meaning, HeldSubscription, Holdings, kept_of, with_kept, without_kept}
use Rattle.siri_view.specs.Hearing.{Heard, Delivered, Notified, Noted, Foreign, heard}
use Rattle.siri_view.specs.Sending.{acknowledgement, supply_request, ready_acknowledgement, termination_request, subscription_request}
use Rattle.siri_view.specs.Sending.{all_data_request, first_of_each, own}

-- a consumer: its name, where deliveries are to be sent, the number of its next request, its moment, and what it keeps of
-- each subscription that it holds
pub record Consuming : Type 0 where
  pub name : Name
  pub address : Option Name
  pub next_number : ℕ
  pub moment : ℕ
  pub held : Holdings

-- how many subscriptions a consumer holds at most
abbrev pub most_held : ℕ
most_held = 200

-- its moment becomes the later one
abbrev pub clocked : Consuming → ℕ → Consuming
clocked c moment = record c { moment = max c.moment moment }

-- the round whose target a view is
abbrev pub held_by : HeldSubscription → Held
held_by h = record { number = h.origin.number; start = h.origin.start; round = h.origin.round }

-- ---- what is told of a part

-- the part that is wanted next
abbrev pub wanted_place : HeldSubscription → Place
wanted_place h = record { round = suc h.round; part = suc (length h.parts) }

-- of a wanted part that is delivered, and whether further ones follow
abbrev pub told_of_part : (more : Bool) → Mark → Outcome
told_of_part true m = outcome.Buffered (record { round = m.round; part = m.part })
told_of_part false m = outcome.Applied m.round

-- by what a mark says, where this is told of a wanted part
abbrev pub told_of : life.Outcome → HeldSubscription → (wanted : Outcome) → Outcome
told_of life.UnknownSubscription h wanted = outcome.UnknownSubscription
told_of life.OldStart h wanted = outcome.OldStart
told_of life.Gap h wanted = outcome.Gap (wanted_place h)
told_of life.Repeat h wanted = outcome.Repeat
told_of life.Overlong h wanted = outcome.Overlong
told_of life.Wanted h wanted = wanted

-- ---- what is replied

-- a packet that answers a delivery or a notification, as a message
abbrev pub reply : Consuming → Name → Packet Carried AskedFor → List Message
reply c identifier (Acknowledge m) = acknowledgement c.name c.moment identifier m ∷ []
reply c identifier (Supply m) = supply_request c.name c.moment identifier m ∷ []
reply c identifier (Subscribe number wanted) = []
reply c identifier (Terminate number) = []
reply c identifier (AllData number base) = []
reply c identifier (Notify m moment) = []
reply c identifier (Delivery m moment more part) = []

-- packets, as messages
abbrev pub replies_by : Consuming → Name → List (Packet Carried AskedFor) → List Message
replies_by c identifier packets = flat_map (reply c identifier) packets

-- a notification of the wanted part is acknowledged first
abbrev pub readied : Consuming → life.Outcome → List Message
readied c life.Wanted = ready_acknowledgement c.name c.moment ∷ []
readied c life.UnknownSubscription = []
readied c life.OldStart = []
readied c life.Gap = []
readied c life.Repeat = []
readied c life.Overlong = []

-- ---- what a consumer sees in a message

-- what is kept of a subscription of this subscriber, if the subscriber is this consumer and it is held
abbrev pub kept_for : Consuming → (subscriber identifier : Name) → Option HeldSubscription
kept_for c subscriber identifier = cond (same_name subscriber c.name) (kept_of identifier c.held) None

abbrev pub seen_in_delivery : Consuming → Name → Option HeldSubscription → Mark → Bool → Seen
seen_in_delivery c identifier None m more = record { outcome = outcome.UnknownSubscription; replies = [] }
seen_in_delivery c identifier (Some h) m more =
    record {
      outcome = told_of (life.outcome meaning h m) h (told_of_part more m);
      replies = replies_by c identifier (replies meaning h m more);
    }

abbrev pub seen_in_notification : Consuming → Name → Option HeldSubscription → Mark → Seen
seen_in_notification c identifier None m = record { outcome = outcome.UnknownSubscription; replies = [] }
seen_in_notification c identifier (Some h) m =
    record {
      outcome = told_of (life.outcome meaning h m) h outcome.Ready;
      replies = readied c (life.outcome meaning h m) ++ replies_by c identifier (asks_for meaning h m);
    }

abbrev pub seen_by : Consuming → Heard → Seen
seen_by c (Delivered subscriber identifier m more part) = seen_in_delivery c identifier (kept_for c subscriber identifier) m more
seen_by c (Notified identifier m) = seen_in_notification c identifier (kept_of identifier c.held) m
seen_by c Noted = record { outcome = outcome.Noted; replies = [] }
seen_by c Foreign = record { outcome = outcome.NotForMe; replies = [] }

-- the outcome of a message, and the replies to it
abbrev pub seen_of : Consuming → Message → Seen
seen_of c message = seen_by c (heard message)

-- ---- what a message makes of a consumer

abbrev pub after_delivery : Consuming → Name → Option HeldSubscription → Mark → Bool → Carried → Consuming
after_delivery c identifier None m more part = c
after_delivery c identifier (Some h) m more part =
    record c { held = with_kept identifier (taken meaning h m more part) c.held }

abbrev pub after_heard : Consuming → Heard → Consuming
after_heard c (Delivered subscriber identifier m more part) =
    after_delivery c identifier (kept_for c subscriber identifier) m more part
after_heard c (Notified identifier m) = c
after_heard c Noted = c
after_heard c Foreign = c

-- the consumer after a message: only a part that is buffered or applied changes it
abbrev pub after_message : Consuming → Message → Consuming
after_message c message = after_heard c (heard message)

-- ---- what a request makes of it

-- the subscriptions that are asked for, as its own: of each identifier the first
abbrev pub asked_for : Consuming → List Subscription → List Subscription
asked_for c wanted = first_of_each (map (own c.name) wanted)

-- all that is asked for with each of them, by its identifier
abbrev pub requests_for : Option Name → (beat : ℤ) → List Subscription → List (Name × AskedFor)
requests_for address beat list =
    map (λ s. (s.identifier, record { subscription = s; address = address; beat = beat })) list

-- what is asked for is held under a number, with no start and no round; a view that is held stays
abbrev pub with_request : (number : ℕ) → Holdings → Name × AskedFor → Holdings
with_request number held request =
    with_kept request.0 (asked meaning number request.1 (kept_of request.0 held)) held

-- the request, and the consumer after it
abbrev pub request_for : Consuming → List Subscription → ℤ → Message
request_for c wanted beat = subscription_request c.name c.address c.moment c.next_number (asked_for c wanted) beat

abbrev pub after_subscribe : Consuming → List Subscription → ℤ → Consuming
after_subscribe c wanted beat =
    record c {
      next_number = suc c.next_number;
      held = fold (with_request c.next_number) c.held (requests_for c.address beat (asked_for c wanted));
    }

-- a subscription isn't held yet
abbrev pub is_new : Holdings → Subscription → Bool
is_new held s = is_none (kept_of s.identifier held)

-- how many subscriptions would be held after a request
abbrev pub count_after : Consuming → List Subscription → ℕ
count_after c wanted = length c.held + length (filter (is_new c.held) (asked_for c wanted))

-- ---- what a termination makes of it

-- the request, and the consumer after it
abbrev pub termination_of : Consuming → Name → Message
termination_of c identifier = termination_request c.name c.moment c.next_number identifier

abbrev pub after_terminate : Consuming → Name → Consuming
after_terminate c identifier =
    record c { next_number = suc c.next_number; held = without_kept identifier c.held }

-- ---- what a restart makes of it

-- a request for all of each subscription that is kept, the first under a number and each next under the one after it
abbrev pub all_data_from : (name : Name) (now number : ℕ) → Holdings → List Message
all_data_from name now number [] = []
all_data_from name now number (kept ∷ held) =
    all_data_request name now kept.0 number kept.1.base ∷ all_data_from name now (suc number) held

-- the requests, and the consumer after them: it keeps what was asked for and the bases, and no view, start, round or part
abbrev pub restart_requests : Consuming → List Message
restart_requests c = all_data_from c.name c.moment c.next_number c.held

abbrev pub after_restart : Consuming → Consuming
after_restart c =
    record c {
      next_number = c.next_number + length c.held;
      held = restarted_from meaning c.next_number c.held;
    }
