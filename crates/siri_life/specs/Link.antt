-- One subscription between a producer, which starts anew now and then, its consumer, and a network that loses, repeats
-- and reorders (EN 15531-2, subscriptions and deliveries).
use Rattle.std.specs.Prelude.{◌≡◌, ℕ, zero, suc, nat_lt, ◌==◌, max, Bool, true, false, cond, ◌&&◌, ◌||◌, List, [], ◌∷◌, ◌++◌, length}
use Rattle.std.specs.Prelude.{Option, Some, None, slice_get}
use Rattle.siri_life.specs.Meaning.{Meaning, most_parts, apply_parts, base_view}
use Rattle.siri_life.specs.Life.{can_accept, can_renew, is_before, is_past, greatest_round, Round, Outstanding, Life}
use Rattle.siri_life.specs.Life.{Mark, is_mark, Packet, Subscribe}
use Rattle.siri_life.specs.Life.{Terminate, AllData, Supply, Acknowledge, Notify, Delivery, is_due, new_life}
use Rattle.siri_life.specs.Life.{after_heartbeat, opened}
use Rattle.siri_life.specs.Life.{with_outstanding, part_message, message, sent_at, advanced}

-- the round whose target a view is; all are 0 where there is none
pub record Origin : Type 0 where
  pub number : ℕ
  pub start : ℕ
  pub round : ℕ

-- what a consumer keeps of a subscription that it holds
pub record Holding (V P W : Type 0) : Type 0 where
  pub number : ℕ  -- of its last request
  pub base : ℕ  -- of its last SubscriptionRequest
  pub wanted : W
  pub start : ℕ  -- the greatest that a part came of; 0 before any
  pub round : ℕ  -- the last whole round of that start
  pub parts : List P  -- buffered, of the round after it
  pub view : V
  pub origin : Origin

-- the two ends of it, and all that was ever sent
pub record Link (V P W H : Type 0) : Type 0 where
  pub start : ℕ
  pub now : ℕ
  pub known : H  -- of the latest start
  pub life : Option (Life V P W)  -- what the table has of the subscription
  pub ended : List (Life V P W)  -- the lives that ended, of all starts, oldest first
  pub next_number : ℕ  -- the consumer's next number
  pub held : Option (Holding V P W)
  pub packets : List (Packet P W)  -- each that was ever sent

-- what happens to it; a loss is a packet that is never delivered, and a repeat one that is delivered again
pub data LinkEvent (W E : Type 0) : Type 0 where
  Start : (moment : ℕ) → LinkEvent W E  -- of the producer
  Clock : (moment : ℕ) → LinkEvent W E
  Feed : (entries : List E) → LinkEvent W E
  Ask : (wanted : W) → LinkEvent W E  -- the consumer subscribes, or renews
  Stop : LinkEvent W E  -- the consumer terminates
  Restart : LinkEvent W E  -- the consumer restarts, and asks for all that it held
  Spend : LinkEvent W E  -- the consumer uses a number for another subscription
  Deliver : (which : ℕ) → (full : Bool) → LinkEvent W E  -- a packet that was sent comes; the table is full, or not

-- what the consumer says of a mark: of a part that is wanted, `Wanted`, and it buffers or applies it
pub data Outcome : Type 0 where
  UnknownSubscription : Outcome
  OldStart : Outcome
  Gap : Outcome
  Repeat : Outcome
  Overlong : Outcome
  Wanted : Outcome

-- ---- outcomes

-- of the kept start, with so many whole rounds and so many parts of the next one: a place before the wanted one is a
-- repeat, the wanted one is taken unless it is past the greatest round or part, and one after it shows a gap
abbrev pub outcome_at_start : (round parts : ℕ) → Mark → Outcome
outcome_at_start round parts m =
    cond (nat_lt m.round (suc round) || (m.round == suc round && nat_lt m.part (suc parts))) Repeat
    (cond (m.round == suc round && m.part == suc parts) (cond (m.part == suc most_parts || m.round == suc greatest_round) Overlong Wanted) Gap)

-- what a mark says, by the four numbers that a consumer keeps, the first line that fits: another subscription number;
-- an older start; a newer one, whose first part of its first round is wanted; the kept start
abbrev pub outcome_by : (number start round parts : ℕ) → Mark → Outcome
outcome_by number start round parts m =
    cond (m.number == number)
    (cond (nat_lt m.start start) OldStart (cond (nat_lt start m.start) (cond (m.round == 1 && m.part == 1) Wanted Gap) (outcome_at_start round parts m)))
    UnknownSubscription

-- ---- the lives under a number and a start
-- a life is under this number and start
abbrev pub matches : {V P W : Type 0} → Life V P W → ℕ → ℕ → Bool
matches l n s = l.number == n && l.start == s

-- the rounds of the life in the table, if it is under this number and start
abbrev pub life_rounds : {V P W : Type 0} → ℕ → ℕ → Option (Life V P W) → List (Round V P)
life_rounds n s None = []
life_rounds n s (Some l) = cond (matches l n s) l.rounds []

-- the rounds of the first acceptance under a number and a start, of the ended lives and the one in the table
abbrev pub rounds_of : {V P W : Type 0} → ℕ → ℕ → Option (Life V P W) → List (Life V P W) → List (Round V P)
rounds_of n s e [] = life_rounds n s e
rounds_of n s e (l ∷ ls) = cond (matches l n s) l.rounds (rounds_of n s e ls)

-- a life under this number and start has ended
abbrev pub has : {V P W : Type 0} → ℕ → ℕ → List (Life V P W) → Bool
has n s [] = false
has n s (l ∷ ls) = matches l n s || has n s ls

module _ {V P W H E : Type 0} (f : Meaning V P W H E) where
  -- a view is the target of this round of these, counted from 1, or empty before round 1
  abbrev pub GoalAt : List (Round V P) → ℕ → V → Type 0
  GoalAt rs zero v = v ≡ f.empty
  GoalAt rs (suc i) v = (x : Round V P) × (slice_get rs i ≡ Some x) × (x.target ≡ v)

  -- ---- the producer
  -- the life of the table, as one that ended
  abbrev pub retire : Option (Life V P W) → List (Life V P W)
  retire None = []
  retire (Some l) = l ∷ []

  -- with this life in the table
  abbrev pub with_life : Link V P W H → Option (Life V P W) → Link V P W H
  with_life w e = record w { life = e }

  -- packets are sent
  abbrev pub sends : Link V P W H → List (Packet P W) → Link V P W H
  sends w ps = record w { packets = w.packets ++ ps }

  -- the life in the table ends, and this one stands in its place
  abbrev pub replaces : Link V P W H → Option (Life V P W) → Link V P W H
  replaces w e = record w { life = e; ended = w.ended ++ retire w.life }

  -- a message of the wanted part is sent, or not
  abbrev pub send_if : Bool → Link V P W H → Life V P W → Outstanding V P → Link V P W H
  send_if false w l o = w
  send_if true w l o = sends (with_life w (Some (with_outstanding f l (sent_at o (Some w.now))))) (message f l o)

  -- what is due of the outstanding round is sent
  abbrev pub send_outstanding : Link V P W H → Life V P W → Option (Outstanding V P) → Link V P W H
  send_outstanding w l None = w
  send_outstanding w l (Some o) = send_if (is_due o.last_sent w.now) w l o

  -- what is due of the life in the table is sent
  abbrev pub send_of_life : Link V P W H → Option (Life V P W) → Link V P W H
  send_of_life w None = w
  send_of_life w (Some l) = send_outstanding w l l.outstanding

  -- a round of the life in the table opens where one is due
  abbrev pub open_in_life : Link V P W H → Option (Life V P W) → Link V P W H
  open_in_life w None = w
  open_in_life w (Some l) = with_life w (Some (opened f l (f.direct w.known l.wanted) w.now))

  abbrev pub opens : Link V P W H → Link V P W H
  opens w = open_in_life w w.life

  -- a heartbeat is sent where one is due
  abbrev pub heartbeat_of_life : Link V P W H → Option (Life V P W) → Link V P W H
  heartbeat_of_life w None = w
  heartbeat_of_life w (Some l) = with_life w (Some (after_heartbeat f l w.now))

  -- a settle: a round opens where one is due, what is due is sent, and then a heartbeat
  abbrev pub settle : Link V P W H → Link V P W H
  settle w = let v = opens w in let u = send_of_life v v.life in heartbeat_of_life u u.life

  -- a SubscriptionRequest begins a life, or doesn't
  abbrev pub accept_if : Bool → Link V P W H → ℕ → W → Link V P W H
  accept_if true w n x = replaces w (Some (new_life f w.start w.now n n x))
  accept_if false w n x = w

  -- a SubscriptionRequest under a number comes
  abbrev pub accepts : Bool → Link V P W H → ℕ → W → Link V P W H
  accepts full w n x = accept_if (can_accept f full w.now n x w.life) w n x

  -- an AllData request begins another life of the same acceptance, or doesn't
  abbrev pub renew_if : Bool → Link V P W H → (number base : ℕ) → W → Link V P W H
  renew_if true w n b x = replaces w (Some (new_life f w.start w.now n b x))
  renew_if false w n b x = w

  -- an AllData request comes, with this life in the table
  abbrev pub renews : Link V P W H → (number base : ℕ) → Option (Life V P W) → Link V P W H
  renews w n b None = w
  renews w n b (Some l) = renew_if (can_renew f l n b) w n b l.wanted

  -- the life in the table ends, or doesn't
  abbrev pub end_if : Bool → Link V P W H → Link V P W H
  end_if true w = replaces w None
  end_if false w = w

  -- a TerminateSubscriptionRequest under a number comes
  abbrev pub ends : Link V P W H → ℕ → Link V P W H
  ends w n = end_if (is_before f w.life n) w

  -- the wanted part is sent, or isn't ready
  abbrev pub supply_if : Bool → Link V P W H → Life V P W → Outstanding V P → Link V P W H
  supply_if true w l o =
      sends (with_life w (Some (with_outstanding f l (sent_at o (Some w.now))))) (part_message f l o (slice_get o.round.parts o.acknowledged_parts))
  supply_if false w l o = w

  abbrev pub supplies_of : Link V P W H → Mark → Life V P W → Option (Outstanding V P) → Link V P W H
  supplies_of w m l None = w
  supplies_of w m l (Some o) =
      supply_if (f.fetched l.wanted && is_mark m l.number w.start (length l.rounds) (suc o.acknowledged_parts)) w l o

  -- a DataSupplyRequest comes, with this life in the table
  abbrev pub supplies : Link V P W H → Mark → Option (Life V P W) → Link V P W H
  supplies w m None = w
  supplies w m (Some l) = supplies_of w m l l.outstanding

  -- the wanted part is acknowledged, or nothing changes
  abbrev pub acknowledges_if : Bool → Link V P W H → Life V P W → Outstanding V P → Link V P W H
  acknowledges_if true w l o = with_life w (Some (advanced f l o w.now))
  acknowledges_if false w l o = w

  abbrev pub acknowledges_of : Link V P W H → Mark → Life V P W → Option (Outstanding V P) → Link V P W H
  acknowledges_of w m l None = w
  acknowledges_of w m l (Some o) =
      acknowledges_if (is_mark m l.number w.start (length l.rounds) (suc o.acknowledged_parts)) w l o

  -- a DataReceivedAcknowledgement comes, with this life in the table
  abbrev pub acknowledges : Link V P W H → Mark → Option (Life V P W) → Link V P W H
  acknowledges w m None = w
  acknowledges w m (Some l) = acknowledges_of w m l l.outstanding

  -- the life in the table ends once its termination time has come
  abbrev pub expire : Link V P W H → Link V P W H
  expire w = end_if (is_past f w.life w.now) w

  -- a later moment; the clock never goes back
  abbrev pub at_moment : Link V P W H → ℕ → Link V P W H
  at_moment w t = record w { now = max w.now t; known = f.clocked w.known t }

  -- the next start: no life outlives the one before
  abbrev pub anew : Link V P W H → ℕ → Link V P W H
  anew w t =
      record {
        start = suc w.start;
        now = t;
        known = f.began (suc w.start) t;
        life = None;
        ended = w.ended ++ retire w.life;
        next_number = w.next_number;
        held = w.held;
        packets = w.packets;
      }

  -- a feed
  abbrev pub fed : Link V P W H → List E → Link V P W H
  fed w es = record w { known = f.fed_with w.known es }

  -- ---- the consumer
  -- with this kept by the consumer
  abbrev pub with_holding : Link V P W H → Option (Holding V P W) → Link V P W H
  with_holding w h = record w { held = h }

  -- the consumer uses its next number, keeps this, and sends these packets
  abbrev pub uses_number : Link V P W H → Option (Holding V P W) → List (Packet P W) → Link V P W H
  uses_number w h ps = record w { next_number = suc w.next_number; held = h; packets = w.packets ++ ps }

  abbrev pub no_origin : Origin
  no_origin = record { number = 0; start = 0; round = 0 }

  -- what is kept after a request under a number: no start and no round yet, and the view that was held
  abbrev pub asked : ℕ → W → Option (Holding V P W) → Holding V P W
  asked n x None =
      record { number = n; base = n; wanted = x; start = 0; round = 0; parts = []; view = f.empty; origin = no_origin }
  asked n x (Some h) =
      record { number = n; base = n; wanted = x; start = 0; round = 0; parts = []; view = h.view; origin = h.origin }

  -- the consumer subscribes, or renews
  abbrev pub asks : Link V P W H → W → Link V P W H
  asks w x = uses_number w (Some (asked w.next_number x w.held)) (Subscribe w.next_number x ∷ [])

  -- what is kept after a restart, under a number: what was asked for and the base, and no view
  abbrev pub restarted : ℕ → Holding V P W → Holding V P W
  restarted n h =
      record {
        number = n;
        base = h.base;
        wanted = h.wanted;
        start = 0;
        round = 0;
        parts = [];
        view = f.empty;
        origin =
            no_origin;
      }

  -- the consumer restarts, with this kept
  abbrev pub restarts_of : Link V P W H → Option (Holding V P W) → Link V P W H
  restarts_of w None = w
  restarts_of w (Some h) =
      uses_number w (Some (restarted w.next_number h)) (AllData w.next_number h.base ∷ [])

  -- the consumer terminates what it holds
  abbrev pub stops_of : Link V P W H → Option (Holding V P W) → Link V P W H
  stops_of w None = w
  stops_of w (Some h) = uses_number w None (Terminate w.next_number ∷ [])

  -- what a mark of the kept start says
  abbrev pub outcome_at : Holding V P W → Mark → Outcome
  outcome_at h m = outcome_at_start h.round (length h.parts) m

  -- what a mark says, by what is kept
  abbrev pub outcome : Holding V P W → Mark → Outcome
  outcome h m = outcome_by h.number h.start h.round (length h.parts) m

  -- a greater start is kept, with no whole round and no part
  abbrev pub with_start_if : Bool → Holding V P W → ℕ → Holding V P W
  with_start_if true h s = record h { start = s; round = 0; parts = [] }
  with_start_if false h s = h

  -- the start of a mark is kept, where it is greater
  abbrev pub with_start : Holding V P W → ℕ → Holding V P W
  with_start h s = with_start_if (nat_lt h.start s) h s

  -- a part is buffered
  abbrev pub with_buffered : Holding V P W → P → Holding V P W
  with_buffered h x = record h { parts = h.parts ++ x ∷ [] }

  -- what a round is applied to: the empty view in round 1, later the view held where updates are incremental
  abbrev pub base_of : Holding V P W → V
  base_of h = cond (h.round == 0) f.empty (base_view f h.view h.wanted)

  -- the last part of a round came: all its parts are applied, one after the other
  abbrev pub with_whole_round : Holding V P W → P → Holding V P W
  with_whole_round h x =
      record h {
        round = suc h.round;
        parts = [];
        view = apply_parts f (base_of h) (h.parts ++ x ∷ []);
        origin = record { number = h.number; start = h.start; round = suc h.round };
      }

  -- a part is taken, and more of its round are to come, or none
  abbrev pub with_part : Bool → Holding V P W → P → Holding V P W
  with_part true h x = with_buffered h x
  with_part false h x = with_whole_round h x

  -- the mark of the part after
  abbrev pub next_mark : Mark → Mark
  next_mark m = record m { part = suc m.part }

  -- the next part is asked for, with fetched delivery where more are to come
  abbrev pub then_supply : Bool → Mark → List (Packet P W)
  then_supply true m = Supply (next_mark m) ∷ []
  then_supply false m = []

  abbrev pub delivered_as : Outcome → Link V P W H → Holding V P W → Mark → Bool → P → Link V P W H
  delivered_as Wanted w h m more x =
      sends (with_holding w (Some (with_part more (with_start h m.start) x))) (Acknowledge m ∷ then_supply (more && f.fetched h.wanted) m)
  delivered_as Repeat w h m more x = sends w (Acknowledge m ∷ [])
  delivered_as UnknownSubscription w h m more x = w
  delivered_as OldStart w h m more x = w
  delivered_as Gap w h m more x = w
  delivered_as Overlong w h m more x = w

  -- a ServiceDelivery comes, with this kept
  abbrev pub delivered : Link V P W H → Option (Holding V P W) → Mark → Bool → P → Link V P W H
  delivered w None m more x = w
  delivered w (Some h) m more x = delivered_as (outcome h m) w h m more x

  abbrev pub notified_as : Outcome → Link V P W H → Mark → Link V P W H
  notified_as Wanted w m = sends w (Supply m ∷ [])
  notified_as Repeat w m = sends w (Acknowledge m ∷ [])
  notified_as UnknownSubscription w m = w
  notified_as OldStart w m = w
  notified_as Gap w m = w
  notified_as Overlong w m = w

  -- a DataReadyNotification comes, with this kept
  abbrev pub notified : Link V P W H → Option (Holding V P W) → Mark → Link V P W H
  notified w None m = w
  notified w (Some h) m = notified_as (outcome h m) w m

  -- what the consumer keeps after a delivery, and its replies
  abbrev pub taken_as : Outcome → Holding V P W → Mark → Bool → P → Holding V P W
  taken_as Wanted h m more x = with_part more (with_start h m.start) x
  taken_as Repeat h m more x = h
  taken_as UnknownSubscription h m more x = h
  taken_as OldStart h m more x = h
  taken_as Gap h m more x = h
  taken_as Overlong h m more x = h

  -- what is kept after a ServiceDelivery
  abbrev pub taken : Holding V P W → Mark → Bool → P → Holding V P W
  taken h m more x = taken_as (outcome h m) h m more x

  abbrev pub replies_as : Outcome → Holding V P W → Mark → Bool → List (Packet P W)
  replies_as Wanted h m more = Acknowledge m ∷ then_supply (more && f.fetched h.wanted) m
  replies_as Repeat h m more = Acknowledge m ∷ []
  replies_as UnknownSubscription h m more = []
  replies_as OldStart h m more = []
  replies_as Gap h m more = []
  replies_as Overlong h m more = []

  -- the replies to a ServiceDelivery: what is taken, or was taken before, is acknowledged
  abbrev pub replies : Holding V P W → Mark → Bool → List (Packet P W)
  replies h m more = replies_as (outcome h m) h m more

  -- its replies to a notification
  abbrev pub asks_for_as : Outcome → Mark → List (Packet P W)
  asks_for_as Wanted m = Supply m ∷ []
  asks_for_as Repeat m = Acknowledge m ∷ []
  asks_for_as UnknownSubscription m = []
  asks_for_as OldStart m = []
  asks_for_as Gap m = []
  asks_for_as Overlong m = []

  -- the replies to a DataReadyNotification: a wanted part is asked for, one that was taken before is acknowledged
  abbrev pub asks_for : Holding V P W → Mark → List (Packet P W)
  asks_for h m = asks_for_as (outcome h m) m

  -- ---- what happens
  -- a packet comes to the producer, which settles then, or to the consumer
  abbrev pub comes : Bool → Link V P W H → Packet P W → Link V P W H
  comes full w (Subscribe n x) = settle (accepts full w n x)
  comes full w (Terminate n) = settle (ends w n)
  comes full w (AllData n b) = settle (renews w n b w.life)
  comes full w (Supply m) = settle (supplies w m w.life)
  comes full w (Acknowledge m) = settle (acknowledges w m w.life)
  comes full w (Notify m moment) = notified w w.held m
  comes full w (Delivery m moment more x) = delivered w w.held m more x

  abbrev pub comes_if : Bool → Link V P W H → Option (Packet P W) → Link V P W H
  comes_if full w None = w
  comes_if full w (Some p) = comes full w p

  -- an event
  abbrev pub happens : Link V P W H → LinkEvent W E → Link V P W H
  happens w (Start t) = anew w t
  happens w (Clock t) = settle (expire (at_moment w t))
  happens w (Feed es) = settle (fed w es)
  happens w (Ask x) = asks w x
  happens w Stop = stops_of w w.held
  happens w Restart = restarts_of w w.held
  happens w Spend = uses_number w w.held []
  happens w (Deliver k full) = comes_if full w (slice_get w.packets k)

  -- all events of a schedule
  abbrev pub link_after : List (LinkEvent W E) → Link V P W H → Link V P W H
  link_after [] w = w
  link_after (e ∷ es) w = link_after es (happens w e)

  -- the first start, before anything else
  abbrev pub first_link : ℕ → Link V P W H
  first_link t =
      record {
        start = 1;
        now = t;
        known = f.began 1 t;
        life = None;
        ended = [];
        next_number = 1;
        held = None;
        packets = [];
      }

  -- what the consumer says of a packet with this mark
  abbrev pub outcome_of : Option (Holding V P W) → Mark → Outcome
  outcome_of None m = UnknownSubscription
  outcome_of (Some h) m = outcome h m
