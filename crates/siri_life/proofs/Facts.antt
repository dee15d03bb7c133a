-- What holds at every moment between the two ends of a subscription. k is the latest start, e and l the life that its table
-- has of the subscription, ended the lives that ended, h what the consumer keeps.
use Rattle.std.proofs.Common.{◌≡◌, ◌⊎◌, ℕ, suc, ◌<◌, ◌≤◌, Bool, true, List, [], ◌∷◌, length, take, Option, Some, None}
use Rattle.std.specs.Prelude.{slice_get, nat_lt}
use Rattle.siri_life.specs.Meaning.{Meaning, most_parts}
use Rattle.siri_life.specs.Life.{greatest_round, Round, Outstanding, Life, Mark, Packet, Subscribe, Terminate, AllData}
use Rattle.siri_life.specs.Life.{Supply, Acknowledge, Notify, Delivery}
use Rattle.siri_life.specs.Link.{Link, Holding, has, rounds_of, GoalAt}
use Rattle.siri_life.proofs.Lists.{Each}

abbrev pub number_of : {P W : Type 0} → Packet P W → ℕ
number_of (Subscribe n x) = n
number_of (Terminate n) = n
number_of (AllData n b) = n
number_of (Supply m) = 0
number_of (Acknowledge m) = m.number
number_of (Notify m t) = m.number
number_of (Delivery m t b x) = m.number

module _ {V P W H E : Type 0} (f : Meaning V P W H E) where
  -- ---- the life in the table
  -- the outstanding round is the last one opened; its base is the acknowledged view, which is the target of the round
  -- before; its parts are the load, and the wanted one is there
  pub record IsOutstanding (l : Life V P W) (o : Outstanding V P) : Type 0 where
    pub round : ℕ  -- the round's place, from 0
    pub count : length l.rounds ≡ suc round
    pub here : slice_get l.rounds round ≡ Some o.round
    pub base : o.round.base ≡ l.acknowledged
    pub goal : GoalAt f l.rounds round l.acknowledged
    pub load : o.round.parts ≡ f.load o.round.base o.round.target l.wanted
    pub part : o.acknowledged_parts < length o.round.parts
    pub few : length o.round.parts ≤ most_parts
    pub target_is_view : f.is_view o.round.target ≡ true

  -- nothing outstanding: the acknowledged view is the target of the last round, or empty
  abbrev pub OutstandingFact : Life V P W → Option (Outstanding V P) → Type 0
  OutstandingFact l None = GoalAt f l.rounds (length l.rounds) l.acknowledged
  OutstandingFact l (Some o) = IsOutstanding l o

  -- the life in the table is of the latest start, under a number that its consumer used, which is its base or came after it;
  -- its termination time is to come
  pub record LifeFact (k now next : ℕ) (l : Life V P W) : Type 0 where
    pub start : l.start ≡ k
    pub number : l.number < next
    pub based : l.base ≤ l.number
    pub alive : now < f.termination l.wanted
    pub acknowledged_is_view : f.is_view l.acknowledged ≡ true
    pub count : length l.rounds ≤ greatest_round
    pub outstanding : OutstandingFact l l.outstanding

  abbrev pub TableFact : ℕ → ℕ → ℕ → Option (Life V P W) → Type 0
  TableFact k now next None = Unit {0}
  TableFact k now next (Some l) = LifeFact k now next l

  -- ---- a packet, under the number that the consumer holds
  -- a delivery carries the named part of the named round of its life, with the round's moment; rs are the rounds of that
  -- life, and i and j the places of round and part, from 0. The round's base is the target of the round before, its parts
  -- are the load; so a part of an old start can be applied, too
  pub record Content (rs : List (Round V P)) (w : W) (m : Mark) (moment : ℕ) (more : Bool) (x : P) : Type 0 where
    pub i : ℕ
    pub j : ℕ
    pub r : Round V P
    pub round : m.round ≡ suc i
    pub part : m.part ≡ suc j
    pub at : slice_get rs i ≡ Some r
    pub here : slice_get r.parts j ≡ Some x
    pub moment_is : moment ≡ r.moment
    pub more_is : more ≡ nat_lt (suc j) (length r.parts)
    pub goal : GoalAt f rs i r.base
    pub load : r.parts ≡ f.load r.base r.target w
    pub base_is_view : f.is_view r.base ≡ true
    pub target_is_view : f.is_view r.target ≡ true
    pub few : length r.parts ≤ most_parts
    pub low : m.round ≤ greatest_round

  -- a smaller start than the one kept, or this one and a place not past the wanted one, or a greater one and the first
  -- place
  pub record NotPast (h : Holding V P W) (m : Mark) : Type 0 where
    pub round : m.start ≡ h.start → m.round ≤ suc h.round
    pub part : m.start ≡ h.start → m.round ≡ suc h.round → m.part ≤ suc (length h.parts)
    pub newer_round : h.start < m.start → m.round ≡ 1
    pub newer_part : h.start < m.start → m.part ≡ 1

  -- a smaller start than the one kept, or this one and a place before the wanted one
  pub record Before (h : Holding V P W) (m : Mark) : Type 0 where
    pub start : m.start ≤ h.start
    pub round : m.start ≡ h.start → m.round ≤ suc h.round
    pub part : m.start ≡ h.start → m.round ≡ suc h.round → m.part ≤ length h.parts

  abbrev pub PartBehind : Option (Outstanding V P) → ℕ → Type 0
  PartBehind None p = Unit {0}
  PartBehind (Some o) p = p ≤ suc o.acknowledged_parts

  -- of the latest start: not past the producer's wanted place, and before it where nothing is outstanding
  pub record Behind (k : ℕ) (l : Life V P W) (m : Mark) : Type 0 where
    pub round : m.start ≡ k → m.round ≤ length l.rounds
    pub part : m.start ≡ k → m.round ≡ length l.rounds → PartBehind l.outstanding m.part

  abbrev pub BehindLife : ℕ → ℕ → Option (Life V P W) → Mark → Type 0
  BehindLife n k None m = Unit {0}
  BehindLife n k (Some l) m = l.number ≡ n → Behind k l m

  -- what a notification tells of: a round of its life, with the moment at which it opened
  pub record Tells (rs : List (Round V P)) (m : Mark) (moment : ℕ) : Type 0 where
    pub i : ℕ
    pub r : Round V P
    pub round : m.round ≡ suc i
    pub at : slice_get rs i ≡ Some r
    pub moment_is : moment ≡ r.moment

  pub record Notifies (k : ℕ) (e : Option (Life V P W)) (ended : List (Life V P W)) (h : Holding V P W) (m : Mark) (moment : ℕ) : Type 0 where
    pub start : m.start ≤ k
    pub not_past : NotPast h m
    pub tells : Tells (rounds_of h.number m.start e ended) m moment
    pub low : m.round ≤ greatest_round
    pub few : m.part ≤ most_parts

  pub record Delivers (k : ℕ) (e : Option (Life V P W)) (ended : List (Life V P W)) (h : Holding V P W) (m : Mark)
      (moment : ℕ) (more : Bool) (x : P) : Type 0 where
    pub start : m.start ≤ k
    pub not_past : NotPast h m
    pub content : Content (rounds_of h.number m.start e ended) h.wanted m moment more x
    pub behind : BehindLife h.number k e m

  -- a request under the consumer's base wants what it wants, and none has a greater number; an AllData request under its
  -- number has its base; a termination is under a smaller number; an acknowledgement is of a part that was taken; what the
  -- producer sent is never past what the consumer wants
  abbrev pub Fact : ℕ → Option (Life V P W) → List (Life V P W) → Holding V P W → Packet P W → Type 0
  Fact k e ended h (Subscribe n x) = (n ≤ h.base) × (n ≡ h.base → x ≡ h.wanted)
  Fact k e ended h (Terminate n) = n < h.number
  Fact k e ended h (AllData n b) = (n ≤ h.number) × (n ≡ h.number → b ≡ h.base)
  Fact k e ended h (Supply m) = Unit {0}
  Fact k e ended h (Acknowledge m) = m.number ≡ h.number → Before h m
  Fact k e ended h (Notify m moment) = m.number ≡ h.number → Notifies k e ended h m moment
  Fact k e ended h (Delivery m moment more x) = m.number ≡ h.number → Delivers k e ended h m moment more x

  -- ---- the consumer and the life in the table
  -- the consumer's wanted place is the producer's, or the one after it
  abbrev pub SameOrNext : Holding V P W → ℕ → Outstanding V P → Type 0
  SameOrNext h n o =
      ((suc h.round ≡ n) × (length h.parts ≡ o.acknowledged_parts))
      ⊎ (((suc h.round ≡ n) × (length h.parts ≡ suc o.acknowledged_parts) × (suc o.acknowledged_parts < length o.round.parts))
      ⊎ ((h.round ≡ n) × (length h.parts ≡ 0) × (suc o.acknowledged_parts ≡ length o.round.parts)))

  -- a round is outstanding: the consumer has the latest start and wants the same part or the one after it, or it has an
  -- older start and the first part of round 1 is outstanding
  pub record Ahead (k : ℕ) (h : Holding V P W) (n : ℕ) (o : Outstanding V P) : Type 0 where
    pub same : h.start ≡ k → SameOrNext h n o
    pub older_round : h.start < k → n ≡ 1
    pub older_part : h.start < k → o.acknowledged_parts ≡ 0

  -- nothing is outstanding: the consumer has the latest start and all its rounds, or an older one and none was opened
  pub record Level (k : ℕ) (h : Holding V P W) (n : ℕ) : Type 0 where
    pub round : h.start ≡ k → h.round ≡ n
    pub parts : h.start ≡ k → length h.parts ≡ 0
    pub older : h.start < k → n ≡ 0

  abbrev pub Wanting : ℕ → Holding V P W → ℕ → Option (Outstanding V P) → Type 0
  Wanting k h n None = Level k h n
  Wanting k h n (Some o) = Ahead k h n o

  pub record Shared (k : ℕ) (h : Holding V P W) (l : Life V P W) : Type 0 where
    pub number : l.number ≤ h.number
    pub wanted : l.number ≡ h.number → l.wanted ≡ h.wanted
    pub of_base : l.base ≡ h.base → l.wanted ≡ h.wanted
    pub wanting : l.number ≡ h.number → Wanting k h (length l.rounds) l.outstanding

  abbrev pub SharedLife : ℕ → Holding V P W → Option (Life V P W) → Type 0
  SharedLife k h None = Unit {0}
  SharedLife k h (Some l) = Shared k h l

  -- the buffered parts are the first ones of the round after the last whole one
  abbrev pub Buffer : List (Round V P) → ℕ → List P → Type 0
  Buffer rs i [] = Unit {0}
  Buffer rs i (p ∷ ps) = (r : Round V P) × (slice_get rs i ≡ Some r) × (p ∷ ps ≡ take (length (p ∷ ps)) r.parts)

  -- what the consumer keeps, the packets and the life in the table fit together
  pub record Tied (k now : ℕ) (e : Option (Life V P W)) (ended : List (Life V P W)) (next : ℕ) (packets : List (Packet P W)) (h : Holding V P W) : Type 0 where
    pub number : h.number < next
    pub based : h.base ≤ h.number
    pub start : h.start ≤ k
    pub facts : Each (Fact k e ended h) packets
    pub shared : SharedLife k h e
    -- an expired request begins no second life in a start
    pub once : has h.number k ended ≡ true → f.termination h.wanted ≤ now
    -- of a start that is kept the life has a first round
    pub seen : 1 ≤ h.start → (r : Round V P) × (slice_get (rounds_of h.number h.start e ended) 0 ≡ Some r)
    -- the buffered parts are the first of the round after the last whole one
    pub buffer : Buffer (rounds_of h.number h.start e ended) h.round h.parts
    -- the view is the target of the last whole round of the start that is kept
    pub current : 1 ≤ h.round → GoalAt f (rounds_of h.number h.start e ended) h.round h.view
    -- and of the round that it comes from
    pub view : GoalAt f (rounds_of h.origin.number h.origin.start e ended) h.origin.round h.view

  abbrev pub HeldFact : ℕ → ℕ → Option (Life V P W) → List (Life V P W) → ℕ → List (Packet P W) → Option (Holding V P W) → Type 0
  HeldFact k now e ended next packets None = Unit {0}
  HeldFact k now e ended next packets (Some h) = Tied k now e ended next packets h

  -- a life that ended is of a start that was, under a number that was used
  pub record Old (k next : ℕ) (l : Life V P W) : Type 0 where
    pub start : l.start ≤ k
    pub number : l.number < next

  -- all of it
  pub record Inv (k now : ℕ) (e : Option (Life V P W)) (ended : List (Life V P W)) (next : ℕ)
      (packets : List (Packet P W)) (held : Option (Holding V P W)) : Type 0 where
    pub first : 1 ≤ k
    pub life : TableFact k now next e
    pub olds : Each (Old k next) ended
    pub numbers : Each (λ p. number_of p < next) packets
    pub tied : HeldFact k now e ended next packets held

  -- the same of a link, with this life in the table and this kept by the consumer
  abbrev pub InvAt : Link V P W H → Option (Life V P W) → Option (Holding V P W) → Type 0
  InvAt w e h = Inv w.start w.now e w.ended w.next_number w.packets h

  abbrev pub Good : Link V P W H → Type 0
  Good w = InvAt w w.life w.held
