-- A producer with its table of subscriptions: what it serves after each step of its history, and what it sends
-- (EN 15531-2, subscriptions and deliveries).
use Rattle.std.specs.Prelude.{ℕ, suc, nat_le, max, Bool, true, false, not, List, [], ◌∷◌, ◌++◌, length, Option, Some, None}
use Rattle.siri_life.specs.Meaning.{Meaning}
use Rattle.siri_life.specs.Life.{Life, Mark, Packet, Subscribe, Terminate, AllData, Supply, Acknowledge, Notify}
use Rattle.siri_life.specs.Life.{Delivery, new_life, can_accept}
use Rattle.siri_life.specs.Life.{can_renew, is_before, sends_heartbeat, settled, settle_sends, after_acknowledgement}
use Rattle.siri_life.specs.Life.{after_supply, supply_sends}
use Rattle.siri_life.specs.Named.{Name, Of, find, put, without, keep}

-- what a letter is about: a packet of one subscription; any other message to the producer (CheckStatusRequest, which it
-- answers, and DataReadyAcknowledgement, which it doesn't); any other message to a consumer (a response, a refusal, a
-- heartbeat)
pub data About (P W : Type 0) : Type 0 where
  Carries : Packet P W → About P W
  ToProducer : (answered : Bool) → About P W
  ToConsumer : About P W

-- a producer's side: its start, its moment, what it knows, the table in order of first acceptance, the lives that ended
pub record Serving (V P W H : Type 0) : Type 0 where
  pub start : ℕ
  pub now : ℕ
  pub known : H
  pub table : List (Of (Life V P W))
  pub ended : List (Of (Life V P W))  -- of all starts, oldest first

-- a step of a producer's history
pub data Act (P W E : Type 0) : Type 0 where
  Clocked : (moment : ℕ) → Act P W E
  Fed : (entries : List E) → Act P W E
  Heard : (subscriber identifier : Name) → (packet : Packet P W) → Act P W E  -- a message of this subscription is taken
  Settled : Act P W E

-- how many subscriptions a table holds
abbrev pub most_subscriptions : ℕ
most_subscriptions = 200

module _ {V P W H E : Type 0} (f : Meaning V P W H E) where
  -- ---- what is sent
  -- packets of one subscription, as letters
  abbrev pub letters_for : Name → Name → List (Packet P W) → List (Of (About P W))
  letters_for c s [] = []
  letters_for c s (p ∷ ps) = record { subscriber = c; identifier = s; it = Carries p } ∷ letters_for c s ps

  -- any other message to a consumer: a response, a refusal of a supply request, a heartbeat
  abbrev pub told : Name → List (Of (About P W))
  told c = record { subscriber = c; identifier = []; it = ToConsumer } ∷ []

  -- the reply to a supply request: the part, or that there is none
  abbrev pub supply_letters : Name → Name → List (Packet P W) → List (Of (About P W))
  supply_letters c s [] = told c
  supply_letters c s (p ∷ ps) = letters_for c s (p ∷ ps)

  -- a row of the table after a settle
  abbrev pub settled_row : H → ℕ → Of (Life V P W) → Of (Life V P W)
  settled_row known now r = record r { it = settled f r.it (f.direct known r.it.wanted) now }

  -- all of them, in order
  abbrev pub settled_rows : H → ℕ → List (Of (Life V P W)) → List (Of (Life V P W))
  settled_rows known now [] = []
  settled_rows known now (r ∷ rs) = settled_row known now r ∷ settled_rows known now rs

  -- a heartbeat is sent, or none
  abbrev pub heartbeat_letters : Name → Bool → List (Of (About P W))
  heartbeat_letters c true = told c
  heartbeat_letters c false = []

  -- what is sent at a settle: of each subscription in the order of the table its packets, and then its heartbeat
  abbrev pub row_letters : H → ℕ → List (Of (Life V P W)) → List (Of (About P W))
  row_letters known now [] = []
  row_letters known now (r ∷ rs) =
      letters_for r.subscriber r.identifier (settle_sends f r.it (f.direct known r.it.wanted) now)
      ++ (heartbeat_letters r.subscriber (sends_heartbeat f r.it now) ++ row_letters known now rs)

  -- ---- the table
  -- the table is another one, and these lives end
  abbrev pub with_rows : Serving V P W H → List (Of (Life V P W)) → List (Of (Life V P W)) → Serving V P W H
  with_rows v table ended = record v { table = table; ended = v.ended ++ ended }

  -- each subscription of the table in its order looks, opens a round where one is due, sends what is due, and a
  -- heartbeat
  abbrev pub settled_serving : Serving V P W H → Serving V P W H
  settled_serving v = record v { table = settled_rows v.known v.now v.table }

  -- the row of a life, if there is one
  abbrev pub row_of : Name → Name → Option (Life V P W) → List (Of (Life V P W))
  row_of c s None = []
  row_of c s (Some l) = record { subscriber = c; identifier = s; it = l } ∷ []

  -- the table after a SubscriptionRequest that is accepted, or isn't: a subscription keeps its place
  abbrev pub accepted_if : Bool → Serving V P W H → Name → Name → ℕ → W → Serving V P W H
  accepted_if true v c s number x =
      with_rows v (put c s (new_life f v.start v.now number number x) v.table) (row_of c s (find c s v.table))
  accepted_if false v c s number x = v

  -- the table after an AllData request that renews a subscription, or doesn't: it keeps its place
  abbrev pub renewed_if : Bool → Serving V P W H → Name → Name → (number base : ℕ) → W → Serving V P W H
  renewed_if true v c s number base x =
      with_rows v (put c s (new_life f v.start v.now number base x) v.table) (row_of c s (find c s v.table))
  renewed_if false v c s number base x = v

  -- the table after an AllData request of a subscription with this life
  abbrev pub renewed : Serving V P W H → Name → Name → (number base : ℕ) → Option (Life V P W) → Serving V P W H
  renewed v c s number base None = v
  renewed v c s number base (Some l) = renewed_if (can_renew f l number base) v c s number base l.wanted

  -- a SubscriptionRequest is accepted
  abbrev pub accepts : Serving V P W H → Name → Name → ℕ → W → Bool
  accepts v c s number x = can_accept f (nat_le most_subscriptions (length v.table)) v.now number x (find c s v.table)

  -- the table after a TerminateSubscriptionRequest that ends a subscription, or doesn't
  abbrev pub ended_if : Bool → Serving V P W H → Name → Name → Serving V P W H
  ended_if true v c s = with_rows v (without c s v.table) (row_of c s (find c s v.table))
  ended_if false v c s = v

  -- the table after a DataSupplyRequest of a subscription with this life
  abbrev pub supplied : Serving V P W H → Name → Name → Mark → Option (Life V P W) → Serving V P W H
  supplied v c s m None = v
  supplied v c s m (Some l) = with_rows v (put c s (after_supply f l v.start m v.now) v.table) []

  -- and its reply
  abbrev pub supply_replies : Serving V P W H → Name → Name → Mark → Option (Life V P W) → List (Of (About P W))
  supply_replies v c s m None = told c
  supply_replies v c s m (Some l) = supply_letters c s (supply_sends f l v.start m)

  -- the table after a DataReceivedAcknowledgement of a subscription with this life
  abbrev pub acknowledged : Serving V P W H → Name → Name → Mark → Option (Life V P W) → Serving V P W H
  acknowledged v c s m None = v
  acknowledged v c s m (Some l) = with_rows v (put c s (after_acknowledgement f l v.start m v.now) v.table) []

  -- ---- the moment, feeds, a start
  -- a subscription stays in the table before its termination time
  abbrev pub lives_on : ℕ → Life V P W → Bool
  lives_on now l = not (nat_le (f.termination l.wanted) now)

  -- and leaves it then
  abbrev pub expired : ℕ → Life V P W → Bool
  expired now l = nat_le (f.termination l.wanted) now

  -- the subscriptions whose termination time has come leave the table
  abbrev pub expired_serving : Serving V P W H → Serving V P W H
  expired_serving v = with_rows v (keep (lives_on v.now) v.table) (keep (expired v.now) v.table)

  -- the clock never goes back
  abbrev pub clocked_serving : Serving V P W H → ℕ → Serving V P W H
  clocked_serving v t = record v { now = max v.now t; known = f.clocked v.known t }

  -- a feed
  abbrev pub fed_serving : Serving V P W H → List E → Serving V P W H
  fed_serving v es = record v { known = f.fed_with v.known es }

  -- the next start: no subscription outlives the one before
  abbrev pub started_serving : Serving V P W H → ℕ → Serving V P W H
  started_serving v t =
      record { start = suc v.start; now = t; known = f.began (suc v.start) t; table = []; ended = v.ended ++ v.table }

  -- a producer's first start that is looked at, of a number and a moment
  abbrev pub opening_serving : ℕ → ℕ → Serving V P W H
  opening_serving k t = record { start = k; now = t; known = f.began k t; table = []; ended = [] }

  -- ---- a producer alone, step by step of its history
  -- a message of a subscription is taken
  abbrev pub heard : Serving V P W H → Name → Name → Packet P W → Serving V P W H
  heard v c s (Subscribe number x) = accepted_if (accepts v c s number x) v c s number x
  heard v c s (Terminate number) = ended_if (is_before f (find c s v.table) number) v c s
  heard v c s (AllData number base) = renewed v c s number base (find c s v.table)
  heard v c s (Supply m) = supplied v c s m (find c s v.table)
  heard v c s (Acknowledge m) = acknowledged v c s m (find c s v.table)
  heard v c s (Notify m moment) = v
  heard v c s (Delivery m moment more x) = v

  -- its reply, before the next settle: a response, the part asked for, or nothing
  abbrev pub replies_to : Serving V P W H → Name → Name → Packet P W → List (Of (About P W))
  replies_to v c s (Subscribe number x) = told c
  replies_to v c s (Terminate number) = told c
  replies_to v c s (AllData number base) = told c
  replies_to v c s (Supply m) = supply_replies v c s m (find c s v.table)
  replies_to v c s (Acknowledge m) = []
  replies_to v c s (Notify m moment) = []
  replies_to v c s (Delivery m moment more x) = []

  -- one step
  abbrev pub served : Serving V P W H → Act P W E → Serving V P W H
  served v (Clocked t) = expired_serving (clocked_serving v t)
  served v (Fed es) = fed_serving v es
  served v (Heard c s p) = heard v c s p
  served v Settled = settled_serving v

  -- and what it sends
  abbrev pub served_letters : Serving V P W H → Act P W E → List (Of (About P W))
  served_letters v (Clocked t) = []
  served_letters v (Fed es) = []
  served_letters v (Heard c s p) = replies_to v c s p
  served_letters v Settled = row_letters v.known v.now v.table

  -- all steps
  abbrev pub serving_after : List (Act P W E) → Serving V P W H → Serving V P W H
  serving_after [] v = v
  serving_after (a ∷ more) v = serving_after more (served v a)

  -- and all that they send, in order
  abbrev pub serving_letters : List (Act P W E) → Serving V P W H → List (Of (About P W))
  serving_letters [] v = []
  serving_letters (a ∷ more) v = served_letters v a ++ serving_letters more (served v a)
