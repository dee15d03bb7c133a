-- The life of one acceptance of a subscription (EN 15531-2, subscriptions and deliveries).
use Rattle.std.specs.Prelude.{ℕ, suc, ◌+◌, nat_lt, nat_le, ◌==◌, Bool, true, false, cond, not, ◌&&◌, ◌||◌, List, [], ◌∷◌, ◌++◌, length}
use Rattle.std.specs.Prelude.{Option, Some, None, slice_get}
use Rattle.siri_life.specs.Meaning.{Meaning}

-- the greatest number of a round
abbrev pub greatest_round : ℕ
greatest_round = 999999999999999999

-- how long a message of the wanted part isn't sent again, in milliseconds
abbrev pub resend_interval : ℕ
resend_interval = 30000

-- ---- rounds and lives

-- a round as it opened: when, on which acknowledged view, where it leads, and by which parts
pub record Round (V P : Type 0) : Type 0 where
  pub moment : ℕ
  pub base : V
  pub target : V
  pub parts : List P

-- the outstanding round: how many of its parts are acknowledged, and when a message of the next was last sent
pub record Outstanding (V P : Type 0) : Type 0 where
  pub round : Round V P
  pub acknowledged_parts : ℕ
  pub last_sent : Option ℕ

-- a life: the producer's start and the number of the request that it began with, the number of the SubscriptionRequest
-- that it goes back to, what that wants, the acknowledged view, each round that ever opened, the oldest first, the
-- outstanding one
pub record Life (V P W : Type 0) : Type 0 where
  pub start : ℕ
  pub number : ℕ
  pub base : ℕ
  pub wanted : W
  pub acknowledged : V
  pub rounds : List (Round V P)
  pub outstanding : Option (Outstanding V P)
  pub last_heartbeat : ℕ  -- the moment of the last heartbeat, or of the acceptance

-- ---- packets

-- which part of which round, counted from 1, of which number and start
pub record Mark : Type 0 where
  pub number : ℕ
  pub start : ℕ
  pub round : ℕ
  pub part : ℕ

-- a mark is of this number, start, round and part
abbrev pub is_mark : Mark → (number start round part : ℕ) → Bool
is_mark m number start round part = (m.number == number && m.start == start) && (m.round == round && m.part == part)

-- a message about one subscription
pub data Packet (P W : Type 0) : Type 0 where
  Subscribe : (number : ℕ) → (wanted : W) → Packet P W  -- SubscriptionRequest
  Terminate : (number : ℕ) → Packet P W  -- TerminateSubscriptionRequest
  Supply : Mark → Packet P W  -- DataSupplyRequest
  AllData : (number base : ℕ) → Packet P W  -- DataSupplyRequest with AllData, of the acceptance with this base
  Acknowledge : Mark → Packet P W  -- DataReceivedAcknowledgement
  Notify : Mark → (moment : ℕ) → Packet P W  -- DataReadyNotification, with the moment at which its round opened
  Delivery : Mark → (moment : ℕ) → (more : Bool) → P → Packet P W  -- ServiceDelivery, with that moment and MoreData

-- a message of the wanted part is due: none was sent yet, or the last one long enough ago
abbrev pub is_due : Option ℕ → ℕ → Bool
is_due None now = true
is_due (Some last_sent) now = nat_le (last_sent + resend_interval) now

module _ {V P : Type 0} where
  -- a round that opens: its first part is wanted, and no message of it was sent
  abbrev pub first_part_wanted : Round V P → Outstanding V P
  first_part_wanted round = record { round = round; acknowledged_parts = 0; last_sent = None }

  -- one more part of it is acknowledged
  abbrev pub next_part_wanted : Outstanding V P → Option ℕ → Outstanding V P
  next_part_wanted o moment = record { round = o.round; acknowledged_parts = suc o.acknowledged_parts; last_sent = moment }

  -- the outstanding round, with this moment of the last message of it
  abbrev pub sent_at : Outstanding V P → Option ℕ → Outstanding V P
  sent_at o moment = record o { last_sent = moment }

module _ {V P W H E : Type 0} (f : Meaning V P W H E) where
  -- ---- what begins, and what changes in a life
  -- accepted in this start at this moment, under a number, and with a base
  abbrev pub new_life : ℕ → ℕ → ℕ → ℕ → W → Life V P W
  new_life start now number base wanted =
      record {
        start = start;
        number = number;
        base = base;
        wanted = wanted;
        acknowledged = f.empty;
        rounds = [];
        outstanding = None;
        last_heartbeat = now;
      }

  -- with this round outstanding
  abbrev pub with_outstanding : Life V P W → Outstanding V P → Life V P W
  with_outstanding l o = record l { outstanding = Some o }

  -- with a heartbeat sent at this moment
  abbrev pub with_heartbeat : Life V P W → ℕ → Life V P W
  with_heartbeat l now = record l { last_heartbeat = now }

  -- a round opens
  abbrev pub with_round : Life V P W → Round V P → Life V P W
  with_round l round =
      record l { rounds = l.rounds ++ round ∷ []; outstanding = Some (first_part_wanted round) }

  -- the last part was acknowledged: the target is the acknowledged view, and nothing is outstanding
  abbrev pub closed : Life V P W → Outstanding V P → Life V P W
  closed l o = record l { acknowledged = o.round.target; outstanding = None }

  -- another part follows, or the round is closed; of a fetched part the consumer asks next, of another it is sent
  abbrev pub next_part : Bool → Life V P W → Outstanding V P → ℕ → Life V P W
  next_part true l o now =
      with_outstanding l (next_part_wanted o (cond (f.fetched l.wanted) (Some now) None))
  next_part false l o now = closed l o

  -- the wanted part was acknowledged
  abbrev pub advanced : Life V P W → Outstanding V P → ℕ → Life V P W
  advanced l o now = next_part (nat_lt (suc o.acknowledged_parts) (length o.round.parts)) l o now

  -- ---- a round opens
  -- the round that a direct response makes
  abbrev pub new_round : Life V P W → V → ℕ → Round V P
  new_round l direct now =
      let target = f.target l.acknowledged direct l.wanted in
      record { moment = now; base = l.acknowledged; target = target; parts = f.load l.acknowledged target l.wanted }

  -- where nothing is outstanding: the first round opens whatever is shown, another where the acknowledged view doesn't
  -- meet the direct response, and none after the greatest
  abbrev pub wants_round : Life V P W → V → Bool
  wants_round l direct =
      nat_lt (length l.rounds) greatest_round && (length l.rounds == 0 || not (f.meets l.acknowledged direct l.wanted))

  abbrev pub opened_if : Bool → Life V P W → V → ℕ → Life V P W
  opened_if true l direct now = with_round l (new_round l direct now)
  opened_if false l direct now = l

  abbrev pub opened_at : Option (Outstanding V P) → Life V P W → V → ℕ → Life V P W
  opened_at None l direct now = opened_if (wants_round l direct) l direct now
  opened_at (Some o) l direct now = l

  -- the first half of a settle
  abbrev pub opened : Life V P W → V → ℕ → Life V P W
  opened l direct now = opened_at l.outstanding l direct now

  -- ---- messages of the wanted part
  -- its mark: it is the first part that isn't acknowledged, of the last round
  abbrev pub wanted_mark : Life V P W → Outstanding V P → Mark
  wanted_mark l o =
      record { number = l.number; start = l.start; round = length l.rounds; part = suc o.acknowledged_parts }

  -- the part, with MoreData where another follows
  abbrev pub part_message : Life V P W → Outstanding V P → Option P → List (Packet P W)
  part_message l o None = []
  part_message l o (Some part) =
      Delivery (wanted_mark l o) o.round.moment (nat_lt (suc o.acknowledged_parts) (length o.round.parts)) part ∷ []

  -- a notification of it, or the part itself
  abbrev pub message_by : Bool → Life V P W → Outstanding V P → List (Packet P W)
  message_by true l o = Notify (wanted_mark l o) o.round.moment ∷ []
  message_by false l o = part_message l o (slice_get o.round.parts o.acknowledged_parts)

  -- fetched delivery is notified, direct delivery sends the part
  abbrev pub message : Life V P W → Outstanding V P → List (Packet P W)
  message l o = message_by (f.fetched l.wanted) l o

  -- ---- a settle: a round opens where one is due, then what is due is sent, then a heartbeat
  abbrev pub sent_if : Bool → Life V P W → Outstanding V P → ℕ → Life V P W
  sent_if true l o now = with_outstanding l (sent_at o (Some now))
  sent_if false l o now = l

  -- the life after what is due was sent
  abbrev pub after_send : Life V P W → Option (Outstanding V P) → ℕ → Life V P W
  after_send l None now = l
  after_send l (Some o) now = sent_if (is_due o.last_sent now) l o now

  abbrev pub message_if : Bool → Life V P W → Outstanding V P → List (Packet P W)
  message_if true l o = message l o
  message_if false l o = []

  -- what is due
  abbrev pub due_messages : Life V P W → Option (Outstanding V P) → ℕ → List (Packet P W)
  due_messages l None now = []
  due_messages l (Some o) now = message_if (is_due o.last_sent now) l o

  -- a heartbeat is due
  abbrev pub sends_heartbeat : Life V P W → ℕ → Bool
  sends_heartbeat l now = f.is_heartbeat_due l.wanted l.last_heartbeat now

  abbrev pub heartbeat_if : Bool → Life V P W → ℕ → Life V P W
  heartbeat_if true l now = with_heartbeat l now
  heartbeat_if false l now = l

  abbrev pub after_heartbeat : Life V P W → ℕ → Life V P W
  after_heartbeat l now = heartbeat_if (sends_heartbeat l now) l now

  -- the life after a settle with this direct response, and its packets that are sent
  abbrev pub settled : Life V P W → V → ℕ → Life V P W
  settled l direct now = let v = opened l direct now in after_heartbeat (after_send v v.outstanding now) now

  abbrev pub settle_sends : Life V P W → V → ℕ → List (Packet P W)
  settle_sends l direct now = let v = opened l direct now in due_messages v v.outstanding now

  -- ---- a DataReceivedAcknowledgement in this start: only that of the wanted part does anything
  abbrev pub acknowledged_if : Bool → Life V P W → Outstanding V P → ℕ → Life V P W
  acknowledged_if true l o now = advanced l o now
  acknowledged_if false l o now = l

  abbrev pub acknowledged_at : Option (Outstanding V P) → Life V P W → ℕ → Mark → ℕ → Life V P W
  acknowledged_at None l start m now = l
  acknowledged_at (Some o) l start m now =
      acknowledged_if (is_mark m l.number start (length l.rounds) (suc o.acknowledged_parts)) l o now

  -- the life after it
  abbrev pub after_acknowledgement : Life V P W → ℕ → Mark → ℕ → Life V P W
  after_acknowledgement l start m now = acknowledged_at l.outstanding l start m now

  -- ---- a DataSupplyRequest in this start: with fetched delivery that of the wanted part brings it
  abbrev pub supplied_at : Option (Outstanding V P) → Life V P W → ℕ → Mark → ℕ → Life V P W
  supplied_at None l start m now = l
  supplied_at (Some o) l start m now =
      sent_if (f.fetched l.wanted && is_mark m l.number start (length l.rounds) (suc o.acknowledged_parts)) l o now

  -- the life after it, and the part, if it is ready
  abbrev pub after_supply : Life V P W → ℕ → Mark → ℕ → Life V P W
  after_supply l start m now = supplied_at l.outstanding l start m now

  abbrev pub part_if : Bool → Life V P W → Outstanding V P → List (Packet P W)
  part_if true l o = part_message l o (slice_get o.round.parts o.acknowledged_parts)
  part_if false l o = []

  abbrev pub part_at : Option (Outstanding V P) → Life V P W → ℕ → Mark → List (Packet P W)
  part_at None l start m = []
  part_at (Some o) l start m =
      part_if (f.fetched l.wanted && is_mark m l.number start (length l.rounds) (suc o.acknowledged_parts)) l o

  abbrev pub supply_sends : Life V P W → ℕ → Mark → List (Packet P W)
  supply_sends l start m = part_at l.outstanding l start m

  -- ---- quiet: nothing is outstanding, a round was acknowledged, and the acknowledged view meets the direct response
  abbrev pub quiet_at : Option (Outstanding V P) → Life V P W → V → Bool
  quiet_at (Some o) l direct = false
  quiet_at None l direct = not (length l.rounds == 0) && f.meets l.acknowledged direct l.wanted

  abbrev pub is_quiet : Life V P W → V → Bool
  is_quiet l direct = quiet_at l.outstanding l direct

  -- ---- the life in the table, if there is one, at a request, a termination and a moment
  -- a SubscriptionRequest under a number is new where none is in the table, unless that is full, and renews under a
  -- greater number; its termination time is still to come
  abbrev pub can_accept : (is_full : Bool) → ℕ → ℕ → W → Option (Life V P W) → Bool
  can_accept is_full now number wanted None = nat_lt now (f.termination wanted) && not is_full
  can_accept is_full now number wanted (Some l) = nat_lt l.number number && nat_lt now (f.termination wanted)

  -- an AllData request of its base renews it under a greater number, whatever its moment
  abbrev pub can_renew : Life V P W → (number base : ℕ) → Bool
  can_renew l number base = l.base == base && nat_lt l.number number

  -- a TerminateSubscriptionRequest under a greater number ends it
  abbrev pub is_before : Option (Life V P W) → ℕ → Bool
  is_before None number = false
  is_before (Some l) number = nat_lt l.number number

  -- its termination time has come
  abbrev pub is_past : Option (Life V P W) → ℕ → Bool
  is_past None now = false
  is_past (Some l) now = nat_le (f.termination l.wanted) now
