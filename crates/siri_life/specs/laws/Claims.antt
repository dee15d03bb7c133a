-- What is claimed of one subscription between its producer, its consumer and the network (EN 15531-2, subscriptions).
use Rattle.std.specs.Prelude.{◌≡◌, ℕ, suc, nat_lt, Bool, true, List, length, Option, Some, None, slice_get}
use Rattle.siri_life.specs.Meaning.{Meaning}
use Rattle.siri_life.specs.Life.{Round, Life, Mark, Packet, Subscribe, Terminate, AllData, Supply, Acknowledge, Notify}
use Rattle.siri_life.specs.Life.{Delivery, is_quiet}
use Rattle.siri_life.specs.Link.{Link, Holding, Origin, rounds_of, GoalAt, Outcome, UnknownSubscription, OldStart, Gap, Repeat, Overlong, Wanted}

-- ---- outcomes and marks

-- a part with this outcome changes no view
abbrev pub ChangesNoView : Outcome → Type 0
ChangesNoView UnknownSubscription = Unit {0}
ChangesNoView OldStart = Unit {0}
ChangesNoView Repeat = Unit {0}
ChangesNoView Gap = ⊥
ChangesNoView Overlong = ⊥
ChangesNoView Wanted = ⊥

module _ {P W : Type 0} where
  -- a DataReadyNotification or a ServiceDelivery has this mark
  abbrev pub HasMark : Packet P W → Mark → Type 0
  HasMark (Subscribe n x) m = ⊥
  HasMark (Terminate n) m = ⊥
  HasMark (AllData n b) m = ⊥
  HasMark (Supply n) m = ⊥
  HasMark (Acknowledge n) m = ⊥
  HasMark (Notify n t) m = n ≡ m
  HasMark (Delivery n t more x) m = n ≡ m

-- ---- what the producer's packets carry

module _ {V P : Type 0} where
  -- a mark names one of these rounds, and this is the moment at which it opened
  pub record NamesRound (rounds : List (Round V P)) (m : Mark) (moment : ℕ) : Type 0 where
    pub place : ℕ  -- of the round among them, from 0
    pub round : Round V P
    pub is_named : m.round ≡ suc place
    pub is_there : slice_get rounds place ≡ Some round
    pub moment_is : moment ≡ round.moment

  -- and this is the part of it that the mark names, with MoreData where another part comes after it
  pub record NamesPart (rounds : List (Round V P)) (m : Mark) (moment : ℕ) (more : Bool) (part : P) : Type 0 where
    pub named : NamesRound rounds m moment
    pub place : ℕ  -- of the part in the round, from 0
    pub is_named : m.part ≡ suc place
    pub is_there : slice_get named.round.parts place ≡ Some part
    pub more_is : more ≡ nat_lt (suc place) (length named.round.parts)

module _ {V P W H E : Type 0} (f : Meaning V P W H E) where
  -- the rounds of the life that a consumer's packet with this start is of
  abbrev pub rounds_under : Link V P W H → Holding V P W → ℕ → List (Round V P)
  rounds_under w h start = rounds_of h.number start w.life w.ended

  -- a ServiceDelivery under the number that the consumer holds carries what its mark names, and a DataReadyNotification
  -- tells of it
  abbrev pub CarriesItsRound : Link V P W H → Option (Holding V P W) → Packet P W → Type 0
  CarriesItsRound w None p = Unit {0}
  CarriesItsRound w (Some h) (Subscribe n x) = Unit {0}
  CarriesItsRound w (Some h) (Terminate n) = Unit {0}
  CarriesItsRound w (Some h) (AllData n b) = Unit {0}
  CarriesItsRound w (Some h) (Supply m) = Unit {0}
  CarriesItsRound w (Some h) (Acknowledge m) = Unit {0}
  CarriesItsRound w (Some h) (Notify m moment) = m.number ≡ h.number → NamesRound (rounds_under w h m.start) m moment
  CarriesItsRound w (Some h) (Delivery m moment more x) =
      m.number ≡ h.number → NamesPart (rounds_under w h m.start) m moment more x

  -- ---- what the consumer's view is

  -- a view is the target of the round that it comes from, or empty where it comes from none
  abbrev pub IsGoal : Link V P W H → Origin → V → Type 0
  IsGoal w p v = GoalAt f (rounds_of p.number p.start w.life w.ended) p.round v

  abbrev pub ViewIsGoal : Link V P W H → Option (Holding V P W) → Type 0
  ViewIsGoal w None = Unit {0}
  ViewIsGoal w (Some h) = IsGoal w h.origin h.view

  -- the direct response now
  abbrev pub direct_now : Link V P W H → W → V
  direct_now w x = f.direct w.known x

  -- where the life in the table is under the consumer's number and quiet, the consumer's view is the acknowledged view,
  -- both want the same, and the view meets the direct response
  abbrev pub MeetsWhereQuiet : Link V P W H → Option (Holding V P W) → Option (Life V P W) → Type 0
  MeetsWhereQuiet w None e = Unit {0}
  MeetsWhereQuiet w (Some h) None = Unit {0}
  MeetsWhereQuiet w (Some h) (Some l) =
      l.number ≡ h.number → is_quiet f l (direct_now w l.wanted) ≡ true
      → (h.view ≡ l.acknowledged) × (l.wanted ≡ h.wanted) × (f.meets h.view (direct_now w h.wanted) h.wanted ≡ true)
