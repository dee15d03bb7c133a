-- A producer with a table of subscriptions, many consumers, and one network between them.
use Rattle.std.specs.Prelude.{◌≡◌, ℕ, suc, Bool, true, false, cond, List, [], ◌∷◌, ◌++◌, Option, Some, None, slice_get}
use Rattle.siri_life.specs.Meaning.{Meaning}
use Rattle.siri_life.specs.Life.{Life, Mark, Packet, Subscribe, Terminate, AllData, Supply, Acknowledge, Notify}
use Rattle.siri_life.specs.Life.{Delivery, can_accept, is_before}
use Rattle.siri_life.specs.Link.{Link, Holding, Outcome, UnknownSubscription, OldStart, Gap, Repeat, Overlong, Wanted}
use Rattle.siri_life.specs.Link.{outcome, asked, restarted, taken, replies, asks_for}
use Rattle.siri_life.specs.Named.{Name, Of, same_name, same_subscription, those, find, with_under, with_number, next_of}
use Rattle.siri_life.specs.Serving
use Rattle.siri_life.specs.Serving.{Serving, About, Carries, ToProducer, ToConsumer, Act, Clocked, Fed, Heard, Settled, letters_for}
use Rattle.siri_life.specs.Serving.{row_letters, settled_serving, expired_serving, clocked_serving, fed_serving, started_serving}
use Rattle.siri_life.specs.Serving.{opening_serving, serving_after, with_rows, supply_replies}

-- the producer's side, what each consumer keeps of each subscription, and all letters
pub record Network (V P W H : Type 0) : Type 0 where
  pub serving : Serving V P W H
  pub numbers : Name → Option ℕ  -- each consumer's next number
  pub holdings : Name → Name → Option (Holding V P W)
  pub letters : List (Of (About P W))  -- each that was ever sent

-- what happens in it; a loss is a letter that is never delivered, and a repeat one that is delivered again
pub data Happening (W E : Type 0) : Type 0 where
  Starts : (moment : ℕ) → Happening W E  -- the producer
  Clocks : (moment : ℕ) → Happening W E
  Feeds : (entries : List E) → Happening W E
  Asks : (subscriber identifier : Name) → (wanted : W) → Happening W E  -- a consumer subscribes, or renews
  Stops : (subscriber identifier : Name) → Happening W E  -- a consumer terminates
  Restarts : (subscriber identifier : Name)
      → Happening W E  -- a consumer that restarts asks for all of one subscription
  Requests : (subscriber : Name) → Happening W E  -- a consumer sends another request (CheckStatusRequest)
  Delivers : (which : ℕ) → Happening W E  -- a letter that was sent comes

module _ {V P W H E : Type 0} (f : Meaning V P W H E) where
  -- ---- the producer
  -- its side is another one, and these letters are sent
  abbrev pub with_serving : Network V P W H → Serving V P W H → List (Of (About P W)) → Network V P W H
  with_serving n v letters = record n { serving = v; letters = n.letters ++ letters }

  -- a message that is about no subscription
  abbrev pub tells : Network V P W H → Name → About P W → Network V P W H
  tells n c a = with_serving n n.serving (record { subscriber = c; identifier = []; it = a } ∷ [])

  -- its table is another one, these lives end, and these letters are sent
  abbrev pub with_table : Network V P W H → List (Of (Life V P W)) → List (Of (Life V P W)) → List (Of (About P W)) → Network V P W H
  with_table n table ended letters = with_serving n (with_rows f n.serving table ended) letters

  -- a settle of each subscription, in the order of the table
  abbrev pub settles : Network V P W H → Network V P W H
  settles n = with_serving n (settled_serving f n.serving) (row_letters f n.serving.known n.serving.now n.serving.table)

  -- a SubscriptionRequest is accepted, or isn't
  abbrev pub accepted_if : Bool → Network V P W H → Name → Name → ℕ → W → Network V P W H
  accepted_if b n c s number x = with_serving n (Serving.accepted_if f b n.serving c s number x) []

  -- a TerminateSubscriptionRequest ends a subscription, or doesn't
  abbrev pub ended_if : Bool → Network V P W H → Name → Name → Network V P W H
  ended_if b n c s = with_serving n (Serving.ended_if f b n.serving c s) []

  -- an AllData request of a subscription with this life
  abbrev pub renewed : Network V P W H → Name → Name → (number base : ℕ) → Option (Life V P W) → Network V P W H
  renewed n c s number base e = with_serving n (Serving.renewed f n.serving c s number base e) []

  -- a DataSupplyRequest of a subscription with this life
  abbrev pub supplied : Network V P W H → Name → Name → Mark → Option (Life V P W) → Network V P W H
  supplied n c s m e = with_serving n (Serving.supplied f n.serving c s m e) (supply_replies f n.serving c s m e)

  -- a DataReceivedAcknowledgement of a subscription with this life
  abbrev pub takes_acknowledgement : Network V P W H → Name → Name → Mark → Option (Life V P W) → Network V P W H
  takes_acknowledgement n c s m e = with_serving n (Serving.acknowledged f n.serving c s m e) []

  -- a message of a subscription comes to the producer: what it does, and the reply, before the next settle
  abbrev pub hears : Network V P W H → Name → Name → Packet P W → Network V P W H
  hears n c s (Subscribe number x) =
      tells (accepted_if (Serving.accepts f n.serving c s number x) n c s number x) c ToConsumer
  hears n c s (Terminate number) = tells (ended_if (is_before f (find c s n.serving.table) number) n c s) c ToConsumer
  hears n c s (AllData number base) = tells (renewed n c s number base (find c s n.serving.table)) c ToConsumer
  hears n c s (Supply m) = supplied n c s m (find c s n.serving.table)
  hears n c s (Acknowledge m) = takes_acknowledgement n c s m (find c s n.serving.table)
  hears n c s (Notify m moment) = n
  hears n c s (Delivery m moment more x) = n

  -- subscriptions whose termination time has come leave the table
  abbrev pub expires : Network V P W H → Network V P W H
  expires n = with_serving n (expired_serving f n.serving) []

  -- a later moment
  abbrev pub at_moment : Network V P W H → ℕ → Network V P W H
  at_moment n t = record n { serving = clocked_serving f n.serving t }

  -- the next start
  abbrev pub starts : Network V P W H → ℕ → Network V P W H
  starts n t = record n { serving = started_serving f n.serving t }

  -- a feed
  abbrev pub feeds : Network V P W H → List E → Network V P W H
  feeds n es = record n { serving = fed_serving f n.serving es }

  -- ---- the consumers
  -- a consumer keeps this of a subscription, and sends these packets
  abbrev pub with_held : Network V P W H → Name → Name → Holding V P W → List (Packet P W) → Network V P W H
  with_held n c s h ps =
      record n { holdings = with_under c s (Some h) n.holdings; letters = n.letters ++ letters_for f c s ps }

  -- a ServiceDelivery comes, with this kept
  abbrev pub delivered : Network V P W H → Name → Name → Mark → Bool → P → Option (Holding V P W) → Network V P W H
  delivered n c s m more x None = n
  delivered n c s m more x (Some h) = with_held n c s (taken f h m more x) (replies f h m more)

  -- a notification of the wanted part is acknowledged as ready
  abbrev pub readied : Network V P W H → Name → Outcome → Network V P W H
  readied n c Wanted = tells n c (ToProducer false)
  readied n c UnknownSubscription = n
  readied n c OldStart = n
  readied n c Gap = n
  readied n c Repeat = n
  readied n c Overlong = n

  -- a DataReadyNotification comes, with this kept
  abbrev pub notified : Network V P W H → Name → Name → Mark → Option (Holding V P W) → Network V P W H
  notified n c s m None = n
  notified n c s m (Some h) = with_held (readied n c (outcome f h m)) c s h (asks_for f h m)

  -- a letter comes to its receiver, and after each that comes to the producer it settles
  abbrev pub takes : Network V P W H → Name → Name → About P W → Network V P W H
  takes n c s (ToProducer true) = settles (tells n c ToConsumer)
  takes n c s (ToProducer false) = settles n
  takes n c s ToConsumer = n
  takes n c s (Carries (Subscribe number x)) = settles (hears n c s (Subscribe number x))
  takes n c s (Carries (Terminate number)) = settles (hears n c s (Terminate number))
  takes n c s (Carries (AllData number base)) = settles (hears n c s (AllData number base))
  takes n c s (Carries (Supply m)) = settles (hears n c s (Supply m))
  takes n c s (Carries (Acknowledge m)) = settles (hears n c s (Acknowledge m))
  takes n c s (Carries (Notify m moment)) = notified n c s m (n.holdings c s)
  takes n c s (Carries (Delivery m moment more x)) = delivered n c s m more x (n.holdings c s)

  -- a letter comes, if it was sent
  abbrev pub takes_letter : Network V P W H → Option (Of (About P W)) → Network V P W H
  takes_letter n None = n
  takes_letter n (Some letter) = takes n letter.subscriber letter.identifier letter.it

  -- the consumer uses its next number
  abbrev pub uses : Network V P W H → Name → (Name → Name → Option (Holding V P W)) → List (Of (About P W)) → Network V P W H
  uses n c holdings letters =
      record {
        serving = n.serving;
        numbers = with_number c (suc (next_of (n.numbers c))) n.numbers;
        holdings = holdings;
        letters = n.letters ++ letters;
      }

  -- a consumer terminates what it holds
  abbrev pub stopped : Network V P W H → Name → Name → Option (Holding V P W) → Network V P W H
  stopped n c s None = n
  stopped n c s (Some h) =
      uses n c (with_under c s None n.holdings) (letters_for f c s (Terminate (next_of (n.numbers c)) ∷ []))

  -- a consumer that restarts asks for all of what it holds
  abbrev pub restarted_one : Network V P W H → Name → Name → Option (Holding V P W) → Network V P W H
  restarted_one n c s None = n
  restarted_one n c s (Some h) =
      let number = next_of (n.numbers c) in
      uses n c (with_under c s (Some (restarted f number h)) n.holdings)
      (letters_for f c s (AllData number h.base ∷ []))

  -- ---- a consumer restarts: it asks for all of each subscription that it holds, one after the other

  -- what it keeps after that: the first asks under this number, each next under the one after
  abbrev pub restarted_from : ℕ → List (Name × Holding V P W) → List (Name × Holding V P W)
  restarted_from number [] = []
  restarted_from number (kept ∷ held) = (kept.0, restarted f number kept.1) ∷ restarted_from (suc number) held

  -- the letters that it sends
  abbrev pub all_data_letters : Name → ℕ → List (Name × Holding V P W) → List (Of (About P W))
  all_data_letters c number [] = []
  all_data_letters c number (kept ∷ held) =
      record { subscriber = c; identifier = kept.0; it = Carries (AllData number kept.1.base) } ∷ all_data_letters c
      (suc number) held

  -- what happens then
  abbrev pub restarts_of_all : Name → List (Name × Holding V P W) → List (Happening W E)
  restarts_of_all c [] = []
  restarts_of_all c (kept ∷ held) = Restarts c kept.0 ∷ restarts_of_all c held

  -- what is kept under an identifier
  abbrev pub kept_at : Name → List (Name × Holding V P W) → Option (Holding V P W)
  kept_at s [] = None
  kept_at s (kept ∷ held) = cond (same_name s kept.0) (Some kept.1) (kept_at s held)

  -- one happening
  abbrev pub step : Network V P W H → Happening W E → Network V P W H
  step n (Starts t) = starts n t
  step n (Clocks t) = settles (expires (at_moment n t))
  step n (Feeds es) = settles (feeds n es)
  step n (Asks c s x) =
      let number = next_of (n.numbers c) in
      uses n c (with_under c s (Some (asked f number x (n.holdings c s))) n.holdings) (letters_for f c s (Subscribe number x ∷ []))
  step n (Stops c s) = stopped n c s (n.holdings c s)
  step n (Restarts c s) = restarted_one n c s (n.holdings c s)
  step n (Requests c) = tells n c (ToProducer true)
  step n (Delivers k) = takes_letter n (slice_get n.letters k)

  -- all of them
  abbrev pub network_after : List (Happening W E) → Network V P W H → Network V P W H
  network_after [] n = n
  network_after (e ∷ es) n = network_after es (step n e)

  -- a producer's start, of a number and a moment, before any consumer
  abbrev pub opening : ℕ → ℕ → Network V P W H
  opening k t = record { serving = opening_serving f k t; numbers = λ c. None; holdings = λ c s. None; letters = [] }

  -- ---- one subscription of it
  -- the packets among what letters are about
  abbrev pub packets_of : List (About P W) → List (Packet P W)
  packets_of [] = []
  packets_of (Carries p ∷ ps) = p ∷ packets_of ps
  packets_of (ToProducer b ∷ ps) = packets_of ps
  packets_of (ToConsumer ∷ ps) = packets_of ps

  -- the network as one subscription of one consumer sees it
  abbrev pub seen_by : Name → Name → Network V P W H → Link V P W H
  seen_by c s n =
      record {
        start = n.serving.start;
        now = n.serving.now;
        known = n.serving.known;
        life = find c s n.serving.table;
        ended = those c s n.serving.ended;
        next_number = next_of (n.numbers c);
        held = n.holdings c s;
        packets = packets_of (those c s n.letters);
      }

  -- ---- the same, step by step of a producer's history
  -- one step of the producer's history
  abbrev pub act : Network V P W H → Act P W E → Network V P W H
  act n (Clocked t) = expires (at_moment n t)
  act n (Fed es) = feeds n es
  act n (Heard c s p) = hears n c s p
  act n Settled = settles n

  -- all of them
  abbrev pub acts : List (Act P W E) → Network V P W H → Network V P W H
  acts [] n = n
  acts (a ∷ more) n = acts more (act n a)

  -- the steps of the producer's history that a letter makes
  abbrev pub acts_about : Name → Name → About P W → List (Act P W E)
  acts_about c s (ToProducer answered) = Settled ∷ []
  acts_about c s ToConsumer = []
  acts_about c s (Carries (Subscribe number x)) = Heard c s (Subscribe number x) ∷ Settled ∷ []
  acts_about c s (Carries (Terminate number)) = Heard c s (Terminate number) ∷ Settled ∷ []
  acts_about c s (Carries (AllData number base)) = Heard c s (AllData number base) ∷ Settled ∷ []
  acts_about c s (Carries (Supply m)) = Heard c s (Supply m) ∷ Settled ∷ []
  acts_about c s (Carries (Acknowledge m)) = Heard c s (Acknowledge m) ∷ Settled ∷ []
  acts_about c s (Carries (Notify m moment)) = []
  acts_about c s (Carries (Delivery m moment more x)) = []

  -- and that a letter makes, if it was sent
  abbrev pub acts_of_letter : Option (Of (About P W)) → List (Act P W E)
  acts_of_letter None = []
  acts_of_letter (Some letter) = acts_about letter.subscriber letter.identifier letter.it

  -- the producer's side after a happening: a start is another history, and what the consumers do it doesn't see
  abbrev pub serving_by : Network V P W H → Happening W E → Serving V P W H
  serving_by n (Starts t) = started_serving f n.serving t
  serving_by n (Clocks t) = serving_after f (Clocked t ∷ Settled ∷ []) n.serving
  serving_by n (Feeds es) = serving_after f (Fed es ∷ Settled ∷ []) n.serving
  serving_by n (Asks c s x) = n.serving
  serving_by n (Stops c s) = n.serving
  serving_by n (Restarts c s) = n.serving
  serving_by n (Requests c) = n.serving
  serving_by n (Delivers k) = serving_after f (acts_of_letter (slice_get n.letters k)) n.serving

  -- a step doesn't name only another subscription than this
  abbrev pub is_own : Name → Name → Act P W E → Bool
  is_own c s (Clocked t) = true
  is_own c s (Fed es) = true
  is_own c s (Heard d t p) = same_subscription c s d t
  is_own c s Settled = true

  -- the steps without those that name only others
  abbrev pub own : Name → Name → List (Act P W E) → List (Act P W E)
  own c s [] = []
  own c s (a ∷ more) = cond (is_own c s a) (a ∷ own c s more) (own c s more)

  -- a full table turns no request of this subscription away at a step
  abbrev pub HasRoom : Name → Name → Network V P W H → Act P W E → Type 0
  HasRoom c s n (Clocked t) = Unit {0}
  HasRoom c s n (Fed es) = Unit {0}
  HasRoom c s n Settled = Unit {0}
  HasRoom c s n (Heard d t (Subscribe number x)) =
      same_subscription c s d t ≡ true → Serving.accepts f n.serving c s number x ≡ can_accept f false n.serving.now number x (find c s n.serving.table)
  HasRoom c s n (Heard d t (Terminate number)) = Unit {0}
  HasRoom c s n (Heard d t (AllData number base)) = Unit {0}
  HasRoom c s n (Heard d t (Supply m)) = Unit {0}
  HasRoom c s n (Heard d t (Acknowledge m)) = Unit {0}
  HasRoom c s n (Heard d t (Notify m moment)) = Unit {0}
  HasRoom c s n (Heard d t (Delivery m moment more x)) = Unit {0}

  -- nor at any of these
  abbrev pub HaveRoom : Name → Name → List (Act P W E) → Network V P W H → Type 0
  HaveRoom c s [] n = Unit {0}
  HaveRoom c s (a ∷ more) n = HasRoom c s n a × HaveRoom c s more (act n a)
