-- One subscription between a producer and a consumer that run as programs of their own (EN 15531-2, subscriptions and deliveries):
-- each step of either end stands alone, as the commands make them. A turn of a producer is a moment, a packet and a settle, and
-- steps of the consumer may stand between any two of these. Both ends may begin anew.
use Rattle.std.specs.Prelude.{ℕ, Bool, List, [], ◌∷◌, Option, Some, None, slice_get}
use Rattle.siri_life.specs.Meaning.{Meaning}
use Rattle.siri_life.specs.Life.{Mark, Packet, Subscribe, Terminate, AllData, Supply, Acknowledge, Notify, Delivery}
use Rattle.siri_life.specs.Link
use Rattle.siri_life.specs.Link.{Link}

-- a step of one of the ends
pub data LinkAct (W E : Type 0) : Type 0 where
  Starts : (moment : ℕ) → LinkAct W E  -- the producer, under the next number; one that leaves numbers out starts as often
  Clocks : (moment : ℕ) → LinkAct W E  -- it is given a moment
  Feeds : (entries : List E) → LinkAct W E
  Hears : (which : ℕ) → (full : Bool) → LinkAct W E  -- it takes a packet that was sent; its table is full, or not
  Fetches : Mark → LinkAct W E  -- it takes a request for a part from anybody, sent or not
  Settles : LinkAct W E
  Takes : (which : ℕ) → LinkAct W E  -- the consumer takes a packet that was sent
  Notes : Mark → LinkAct W E  -- it takes a notification of a part from anybody, sent or not
  Asks : (wanted : W) → LinkAct W E  -- it subscribes, or renews
  Stops : LinkAct W E  -- it terminates
  Restarts : LinkAct W E  -- it asks anew for all of what it holds
  Ends : LinkAct W E  -- its process ends, and the next one holds nothing
  Spends : LinkAct W E  -- a number is used for another subscription, or left out by the next process

module _ {V P W H E : Type 0} (f : Meaning V P W H E) where
  -- the producer takes a packet, and doesn't settle yet
  abbrev pub heard : Bool → Link V P W H → Option (Packet P W) → Link V P W H
  heard full w None = w
  heard full w (Some (Subscribe n x)) = Link.accepts f full w n x
  heard full w (Some (Terminate n)) = Link.ends f w n
  heard full w (Some (AllData n b)) = Link.renews f w n b w.life
  heard full w (Some (Supply m)) = Link.supplies f w m w.life
  heard full w (Some (Acknowledge m)) = Link.acknowledges f w m w.life
  heard full w (Some (Notify m moment)) = w
  heard full w (Some (Delivery m moment more x)) = w

  -- the consumer takes a packet
  abbrev pub taken : Link V P W H → Option (Packet P W) → Link V P W H
  taken w None = w
  taken w (Some (Subscribe n x)) = w
  taken w (Some (Terminate n)) = w
  taken w (Some (AllData n b)) = w
  taken w (Some (Supply m)) = w
  taken w (Some (Acknowledge m)) = w
  taken w (Some (Notify m moment)) = Link.notified f w w.held m
  taken w (Some (Delivery m moment more x)) = Link.delivered f w w.held m more x

  -- one step
  abbrev pub acted : Link V P W H → LinkAct W E → Link V P W H
  acted w (Starts t) = Link.anew f w t
  acted w (Clocks t) = Link.expire f (Link.at_moment f w t)
  acted w (Feeds es) = Link.fed f w es
  acted w (Hears k full) = heard full w (slice_get w.packets k)
  acted w (Fetches m) = Link.supplies f w m w.life
  acted w Settles = Link.settle f w
  acted w (Takes k) = taken w (slice_get w.packets k)
  acted w (Notes m) = Link.notified f w w.held m
  acted w (Asks x) = Link.asks f w x
  acted w Stops = Link.stops_of f w w.held
  acted w Restarts = Link.restarts_of f w w.held
  acted w Ends = Link.with_holding f w None
  acted w Spends = Link.uses_number f w w.held []

  -- all of them
  abbrev pub acts_after : List (LinkAct W E) → Link V P W H → Link V P W H
  acts_after [] w = w
  acts_after (a ∷ more) w = acts_after more (acted w a)
