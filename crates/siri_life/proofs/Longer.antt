-- A letter is kept for good.
use Rattle.std.proofs.Common.{◌≡◌, ℕ, Bool, true, false, List, [], ◌∷◌, Option, Some, None}
use Rattle.std.specs.Prelude.{slice_get}
use Rattle.siri_life.specs.Meaning.{Meaning}
use Rattle.siri_life.specs.Life.{is_before, can_renew, Life, Mark, Subscribe, Terminate, AllData, Supply, Acknowledge}
use Rattle.siri_life.specs.Life.{Notify, Delivery, supply_sends}
use Rattle.siri_life.specs.Link.{Holding, Outcome, UnknownSubscription, OldStart, Gap, Repeat, Overlong, Wanted, outcome, replies, asks_for}
use Rattle.siri_life.specs.Network
use Rattle.siri_life.specs.Named.{Of, Name, find, next_of}
use Rattle.siri_life.specs.Serving
use Rattle.siri_life.specs.Serving.{About, Carries, ToProducer, ToConsumer, supply_letters, letters_for, row_letters}
use Rattle.siri_life.specs.Network.{Network, Happening, Starts, Clocks, Feeds, Asks, Stops, Restarts, Requests}
use Rattle.siri_life.specs.Network.{Delivers, settles, takes}
use Rattle.siri_life.specs.Network.{takes_letter, step, network_after}
use Rattle.siri_life.proofs.Lists.{get_front}

module _ {V P W H E : Type 0} (f : Meaning V P W H E) where
  abbrev pub Longer : Network V P W H → Network V P W H → Type 0
  Longer n m = (i : ℕ) (x : Of (About P W)) → slice_get n.letters i ≡ Some x → slice_get m.letters i ≡ Some x

  settles_longer : (n : Network V P W H) → Longer n (settles f n)
  settles_longer n = get_front n.letters (row_letters f n.serving.known n.serving.now n.serving.table)

  tells_longer : (n : Network V P W H) (c : Name) (q : About P W) → Longer n (Network.tells f n c q)
  tells_longer n c q i y a = get_front n.letters (record { subscriber = c; identifier = []; it = q } ∷ []) i y a

  readied_longer : (n : Network V P W H) (c : Name) (o : Outcome) → Longer n (Network.readied f n c o)
  readied_longer n c Wanted i y a = tells_longer n c (ToProducer false) i y a
  readied_longer n c UnknownSubscription i y a = a
  readied_longer n c OldStart i y a = a
  readied_longer n c Gap i y a = a
  readied_longer n c Repeat i y a = a
  readied_longer n c Overlong i y a = a

  accepted_longer : (n : Network V P W H) (b : Bool) (c s : Name) (number : ℕ) (x : W) → Longer n (Network.accepted_if f b n c s number x)
  accepted_longer n true c s number x i y a = get_front n.letters [] i y a
  accepted_longer n false c s number x i y a = get_front n.letters [] i y a

  renewed_if_longer : (n : Network V P W H) (q : Bool) (c s : Name) (number base : ℕ) (x : W)
      → Longer n (Network.with_serving f n (Serving.renewed_if f q n.serving c s number base x) [])
  renewed_if_longer n true c s number base x i y a = get_front n.letters [] i y a
  renewed_if_longer n false c s number base x i y a = get_front n.letters [] i y a

  renewed_longer : (n : Network V P W H) (c s : Name) (number base : ℕ) (e : Option (Life V P W))
      → Longer n (Network.renewed f n c s number base e)
  renewed_longer n c s number base None i y a = get_front n.letters [] i y a
  renewed_longer n c s number base (Some l) i y a = renewed_if_longer n
      (can_renew f l number base) c s number base l.wanted i y a

  ended_longer : (n : Network V P W H) (b : Bool) (c s : Name) → Longer n (Network.ended_if f b n c s)
  ended_longer n true c s i y a = get_front n.letters [] i y a
  ended_longer n false c s i y a = get_front n.letters [] i y a

  supplied_longer : (n : Network V P W H) (c s : Name) (m : Mark) (e : Option (Life V P W)) → Longer n (Network.supplied f n c s m e)
  supplied_longer n c s m None i y a = tells_longer n c ToConsumer i y a
  supplied_longer n c s m (Some l) i y a = get_front n.letters (supply_letters f c s (supply_sends f l n.serving.start m)) i y a

  acknowledged_longer : (n : Network V P W H) (c s : Name) (m : Mark) (e : Option (Life V P W)) → Longer n (Network.takes_acknowledgement f n c s m e)
  acknowledged_longer n c s m None i y a = get_front n.letters [] i y a
  acknowledged_longer n c s m (Some l) i y a = get_front n.letters [] i y a

  delivered_longer : (n : Network V P W H) (c s : Name) (m : Mark) (more : Bool) (x : P) (h : Option (Holding V P W))
      → Longer n (Network.delivered f n c s m more x h)
  delivered_longer n c s m more x None i y a = a
  delivered_longer n c s m more x (Some h) i y a = get_front n.letters (letters_for f c s (replies f h m more)) i y a

  notified_longer : (n : Network V P W H) (c s : Name) (m : Mark) (h : Option (Holding V P W)) → Longer n (Network.notified f n c s m h)
  notified_longer n c s m None i y a = a
  notified_longer n c s m (Some h) i y a = let v = Network.readied f n c (outcome f h m) in
      get_front v.letters (letters_for f c s (asks_for f h m)) i y (readied_longer n c (outcome f h m) i y a)

  takes_longer : (n : Network V P W H) (c s : Name) (p : About P W) → Longer n (takes f n c s p)
  takes_longer n c s (ToProducer true) i y a = settles_longer (Network.tells f n c ToConsumer) i y (tells_longer n c ToConsumer i y a)
  takes_longer n c s (ToProducer false) i y a = settles_longer n i y a
  takes_longer n c s ToConsumer i y a = a
  takes_longer n c s (Carries (Subscribe number x)) i y a =
      let b = Serving.accepts f n.serving c s number x in
      let m = Network.accepted_if f b n c s number x in settles_longer (Network.tells f m c ToConsumer) i y
      (tells_longer m c ToConsumer i y (accepted_longer n b c s number x i y a))
  takes_longer n c s (Carries (Terminate number)) i y a =
      let b = is_before f (find c s n.serving.table) number in
      let m = Network.ended_if f b n c s in settles_longer (Network.tells f m c ToConsumer) i y (tells_longer m c ToConsumer i y (ended_longer n b c s i y a))
  takes_longer n c s (Carries (AllData number base)) i y a =
      let m = Network.renewed f n c s number base (find c s n.serving.table) in
      settles_longer (Network.tells f m c ToConsumer) i y
      (tells_longer m c ToConsumer i y (renewed_longer n c s number base (find c s n.serving.table) i y a))
  takes_longer n c s (Carries (Supply m)) i y a = let e = find c s n.serving.table in
      settles_longer (Network.supplied f n c s m e) i y (supplied_longer n c s m e i y a)
  takes_longer n c s (Carries (Acknowledge m)) i y a = let e = find c s n.serving.table in
      settles_longer (Network.takes_acknowledgement f n c s m e) i y (acknowledged_longer n c s m e i y a)
  takes_longer n c s (Carries (Notify m moment)) i y a = notified_longer n c s m (n.holdings c s) i y a
  takes_longer n c s (Carries (Delivery m moment more x)) i y a = delivered_longer n c s m more x (n.holdings c s) i y a

  letter_longer : (n : Network V P W H) (y : Option (Of (About P W))) → Longer n (takes_letter f n y)
  letter_longer n None i z a = a
  letter_longer n (Some y) i z a = takes_longer n y.subscriber y.identifier y.it i z a

  stopped_longer : (n : Network V P W H) (c s : Name) (h : Option (Holding V P W)) → Longer n (Network.stopped f n c s h)
  stopped_longer n c s None i y a = a
  stopped_longer n c s (Some h) i y a = get_front n.letters (letters_for f c s (Terminate (next_of (n.numbers c)) ∷ [])) i y a

  restarted_longer : (n : Network V P W H) (c s : Name) (h : Option (Holding V P W))
      → Longer n (Network.restarted_one f n c s h)
  restarted_longer n c s None i y a = a
  restarted_longer n c s (Some h) i y a = get_front n.letters
      (letters_for f c s (AllData (next_of (n.numbers c)) h.base ∷ [])) i y a

  pub step_longer : (n : Network V P W H) (e : Happening W E) → Longer n (step f n e)
  step_longer n (Starts t) i y a = a
  step_longer n (Clocks t) i y a = let m = Network.expires f (Network.at_moment f n t) in settles_longer m i y (get_front n.letters [] i y a)
  step_longer n (Feeds es) i y a = settles_longer (Network.feeds f n es) i y a
  step_longer n (Asks c s x) i y a = get_front n.letters (letters_for f c s (Subscribe (next_of (n.numbers c)) x ∷ [])) i y a
  step_longer n (Stops c s) i y a = stopped_longer n c s (n.holdings c s) i y a
  step_longer n (Restarts c s) i y a = restarted_longer n c s (n.holdings c s) i y a
  step_longer n (Requests c) i y a = tells_longer n c (ToProducer true) i y a
  step_longer n (Delivers k) i y a = letter_longer n (slice_get n.letters k) i y a

  pub after_longer : (es : List (Happening W E)) (n : Network V P W H) → Longer n (network_after f es n)
  after_longer [] n i y a = a
  after_longer (e ∷ es) n i y a = after_longer es (step f n e) i y (step_longer n e i y a)
