-- What a producer serves goes with what its history says: the same start, moment and state, and each life stands under the
-- names of its subscription.
use Rattle.std.proofs.Common.{◌≡◌, List, [], ◌∷◌, ◌++◌, map, fold, max, Bool, true, false, Option, None, Some, refl, ap, ◌∙◌}
use Rattle.std.specs.Prelude.{if◌then◌else◌}
use Rattle.std.proofs.lemmas.List.Sums.{fold-append}
use Rattle.siri_messages.specs.Rounds.{has_round}
use Rattle.siri_messages.specs.declared.message.Message.{Message}
use Rattle.siri_messages.specs.declared.message.Message.TheVariants as message
use Rattle.siri_change.specs.Parts.{Carried}
use Rattle.siri_life.specs.Life.{Packet, Subscribe, Terminate, AllData, Supply, Acknowledge, Notify, Delivery, is_before, can_renew}
use Rattle.siri_life.specs.Named.{Name, Of, find}
use Rattle.siri_life.specs.Serving.{Fed, Heard, accepted_if, accepts, ended_if, renewed, renewed_if, supplied, acknowledged, heard, serving_after}
use Rattle.siri_model.specs.History.{Entry, Step, Start, Clock, Feed, Take, Settle, History, State, after_step, entries_of, entries_fed, fed, nothing, state_of}
use Rattle.siri_model.specs.Lives.{Living, Served, acknowledgement_of, acts_in, mark_of, supply_of, none_served, served_after, serving_of}
use Rattle.siri_messages.specs.Asked.{AskedFor, asked_in}
use Rattle.siri_model.specs.Meaning.{meaning}
use Rattle.siri_model.proofs.InOrder.{more_steps}

-- ---- what is known

-- one knows what another does
pub record Keeps (new old : Served) : Type 0 where
  pub start : new.start ≡ old.start
  pub now : new.now ≡ old.now
  pub known : new.known ≡ old.known

keeps_itself : (v : Served) → Keeps v v
keeps_itself v = record { start = refl; now = refl; known = refl }

keeps_then : (a b c : Served) → Keeps b a → Keeps c b → Keeps c a
keeps_then a b c first later = record { start = later.start ∙ first.start; now = later.now ∙ first.now; known = later.known ∙ first.known }

-- what is heard of a subscription changes the table alone
pub heard_keeps : (v : Served) (c s : Name) (p : Packet Carried AskedFor) → Keeps (heard meaning v c s p) v
heard_keeps v c s (Subscribe n x) = by (accepts meaning v c s n x)
  where
    by : (b : Bool) → Keeps (accepted_if meaning b v c s n x) v
    by true = record { start = refl; now = refl; known = refl }
    by false = record { start = refl; now = refl; known = refl }
heard_keeps v c s (Terminate n) = by (is_before meaning (find c s v.table) n)
  where
    by : (b : Bool) → Keeps (ended_if meaning b v c s) v
    by true = record { start = refl; now = refl; known = refl }
    by false = record { start = refl; now = refl; known = refl }
heard_keeps v c s (AllData n b) = by (find c s v.table)
  where
    test : (t : Bool) (x : AskedFor) → Keeps (renewed_if meaning t v c s n b x) v
    test true x = record { start = refl; now = refl; known = refl }
    test false x = record { start = refl; now = refl; known = refl }

    by : (l : Option Living) → Keeps (renewed meaning v c s n b l) v
    by None = record { start = refl; now = refl; known = refl }
    by (Some l) = test (can_renew meaning l n b) l.wanted
heard_keeps v c s (Supply m) = by (find c s v.table)
  where
    by : (l : Option Living) → Keeps (supplied meaning v c s m l) v
    by None = record { start = refl; now = refl; known = refl }
    by (Some l) = record { start = refl; now = refl; known = refl }
heard_keeps v c s (Acknowledge m) = by (find c s v.table)
  where
    by : (l : Option Living) → Keeps (acknowledged meaning v c s m l) v
    by None = record { start = refl; now = refl; known = refl }
    by (Some l) = record { start = refl; now = refl; known = refl }
heard_keeps v c s (Notify m t) = keeps_itself v
heard_keeps v c s (Delivery m t more x) = keeps_itself v

-- nor does what is heard of many
pub all_keep : {A : Type 0} (c s : A → Name) (p : A → Packet Carried AskedFor) (xs : List A) (v : Served)
    → Keeps (serving_after meaning (map (λ x. Heard (c x) (s x) (p x)) xs) v) v
all_keep c s p [] v = keeps_itself v
all_keep c s p (x ∷ xs) v = keeps_then v (heard meaning v (c x) (s x) (p x)) _ (heard_keeps v (c x) (s x) (p x))
    (all_keep c s p xs (heard meaning v (c x) (s x) (p x)))

-- a side goes with a state
pub record Goes (v : Served) (state : State) : Type 0 where
  pub start : v.start ≡ state.start
  pub now : v.now ≡ state.now
  pub known : state_of v.known ≡ state

goes_on : (new old : Served) (state : State) → Keeps new old → Goes old state → Goes new state
goes_on new old state keeps goes = record { start = keeps.start ∙ goes.start; now = keeps.now ∙ goes.now; known = ap state_of keeps.known ∙ goes.known }

goes_fed : (v : Served) (state : State) (entries : List Entry) → Goes v state → Goes (record v { known = v.known ++ Feed entries ∷ [] }) (fed state entries)
unfolding after_step
goes_fed v state entries goes = record {
  start = goes.start;
  now = goes.now;
  known = more_steps v.known (Feed entries) ∙ ap (λ (s : State). after_step s (Feed entries)) goes.known;
}

acknowledged_keeps : (v : Served) (status : Bool) (consumer : Option Name) (mark : Option _)
    → Keeps (serving_after meaning (acknowledgement_of status consumer mark) v) v
acknowledged_keeps v true (Some c) (Some m) = heard_keeps v c m.subscription (Acknowledge (mark_of m))
acknowledged_keeps v true (Some c) None = keeps_itself v
acknowledged_keeps v true None m = keeps_itself v
acknowledged_keeps v false c m = keeps_itself v

goes_delivered : (v : Served) (state : State) (entries : List Entry) (b : Bool) → Goes v state
    → Goes (serving_after meaning (if b then [] else Fed entries ∷ []) v) (fed state (if b then [] else entries))
goes_delivered v state entries true goes = goes
goes_delivered v state entries false goes = goes_fed v state entries goes

-- after a message
goes_taken : (v : Served) (state : State) (m : Message) → Goes v state → Goes (serving_after meaning (acts_in m) v) (fed state (entries_fed m))
unfolding acts_in
goes_taken v state (message.ServiceRequest m) goes = goes
goes_taken v state (message.ServiceDelivery d) goes = goes_delivered v state (entries_of d) (has_round d) goes
goes_taken v state (message.SubscriptionRequest r) goes =
    goes_on _ v state (all_keep (λ (a : AskedFor). a.subscription.subscriber) (λ (a : AskedFor). a.subscription.identifier)
    (λ a. Subscribe r.message_identifier a) (asked_in r) v) goes
goes_taken v state (message.SubscriptionResponse m) goes = goes
goes_taken v state (message.TerminateSubscriptionRequest r) goes =
    goes_on _ v state (all_keep (λ (i : Name). r.subscriber_ref) (λ i. i) (λ i. Terminate r.message_identifier) r.subscription_ref v) goes
goes_taken v state (message.TerminateSubscriptionResponse m) goes = goes
goes_taken v state (message.DataReadyNotification m) goes = goes
goes_taken v state (message.DataReadyAcknowledgement m) goes = goes
goes_taken v state (message.DataSupplyRequest r) goes =
    goes_on _ v state (heard_keeps v r.consumer_ref r.extensions.subscription (supply_of r.all_data r.extensions)) goes
goes_taken v state (message.DataReceivedAcknowledgement a) goes = goes_on _ v state (acknowledged_keeps v a.status a.consumer_ref a.extensions) goes
goes_taken v state (message.CheckStatusRequest m) goes = goes
goes_taken v state (message.CheckStatusResponse m) goes = goes
goes_taken v state (message.HeartbeatNotification m) goes = goes

pub goes_step : (v : Served) (state : State) (step : Step) → Goes v state → Goes (served_after v step) (after_step state step)
unfolding after_step served_after
goes_step v state (Start number moment) goes = record { start = refl; now = refl; known = refl }
goes_step v state (Clock moment) goes = record {
  start = goes.start;
  now = ap (λ n. max n moment) goes.now;
  known = more_steps v.known (Clock moment) ∙ ap (λ (s : State). after_step s (Clock moment)) goes.known;
}
goes_step v state (Feed entries) goes = goes_fed v state entries goes
goes_step v state (Take m) goes = goes_taken v state m goes
goes_step v state Settle goes = record { start = goes.start; now = goes.now; known = goes.known }

goes_from : (v : Served) (state : State) (steps : History) → Goes v state → Goes (fold served_after v steps) (fold after_step state steps)
goes_from v state [] goes = goes
goes_from v state (step ∷ steps) goes = goes_from (served_after v step) (after_step state step) steps (goes_step v state step goes)

goes_first : Goes none_served nothing
unfolding after_step
goes_first = record { start = refl; now = refl; known = refl }

-- a producer's side after a history has its start and moment, and knows what it says
pub goes_with : (h : History) → Goes (serving_of h) (state_of h)
goes_with h = goes_from none_served nothing h goes_first

-- ---- one more step

pub more_served : (h : History) (step : Step) → serving_of (h ++ step ∷ []) ≡ served_after (serving_of h) step
more_served h step = fold-append served_after none_served h (step ∷ [])

-- ---- names

-- a life stands under the names of its subscription
abbrev pub IsNamed : Of Living → Type 0
IsNamed x = (x.subscriber ≡ x.it.wanted.subscription.subscriber) × (x.identifier ≡ x.it.wanted.subscription.identifier)

abbrev pub AreNamed : List (Of Living) → Type 0
AreNamed [] = Unit {0}
AreNamed (x ∷ xs) = IsNamed x × AreNamed xs
