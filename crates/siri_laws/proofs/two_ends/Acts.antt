-- Each step of a running end keeps what holds of a link.
use Rattle.std.proofs.Common.{◌≡◌, ◌≢◌, ℕ, ◌<◌, Bool, List, [], ◌∷◌, ◌++◌, Option, Some, None, refl, sym, ap, ◌∙◌, subst, arith}
use Rattle.std.specs.Prelude.{slice_get}
use Rattle.siri_life.specs.Meaning.{Meaning, IsLawful}
use Rattle.siri_life.specs.Life.{Mark, Packet, Subscribe, Terminate, AllData, Supply, Acknowledge, Notify, Delivery}
use Rattle.siri_life.specs.Link
use Rattle.siri_life.specs.Link.{Link, LinkEvent, Start, Clock, Feed, Ask, Stop, Restart, Spend, Deliver, first_link, happens, link_after}
use Rattle.siri_life.specs.Link.{Gap, Holding, OldStart, Outcome, Overlong, Repeat, UnknownSubscription, Wanted, outcome, outcome_of}
use Rattle.siri_life.specs.laws.Claims.{CarriesItsRound, HasMark, MeetsWhereQuiet, ViewIsGoal}
use Rattle.siri_life.proofs.Claims
use Rattle.siri_life.proofs.Facts.{Fact, Good, HeldFact, Tied, number_of}
use Rattle.siri_life.proofs.Lists.{each_append}
use Rattle.siri_life.proofs.Moves.{tied_sends}
use Rattle.siri_life.proofs.Steps
use Rattle.siri_life.proofs.Takes.{Means, means}
use Rattle.siri_laws.specs.two_ends.Acts.{LinkAct, Starts, Clocks, Feeds, Hears, Fetches, Settles, Takes, Notes, Asks, Stops, Restarts, Ends, Spends}
use Rattle.siri_laws.specs.two_ends.Acts.{heard, taken, acted, acts_after}

module _ {V P W H E : Type 0} (f : Meaning V P W H E) where
  heard_good : IsLawful f → (w : Link V P W H) (k : ℕ) (full : Bool) (p : Option (Packet P W))
      → slice_get w.packets k ≡ p → Good f w → Good f (heard f full w p)
  heard_good laws w k full None at g = g
  heard_good laws w k full (Some (Subscribe n x)) at g = Steps.accept_good f laws w k n x full at g
  heard_good laws w k full (Some (Terminate n)) at g = Steps.end_good f w k n at g
  heard_good laws w k full (Some (AllData n b)) at g = Steps.renew_good f laws w k n b w.life refl at g
  heard_good laws w k full (Some (Supply m)) at g = Steps.supply_good f w m w.life g g
  heard_good laws w k full (Some (Acknowledge m)) at g = Steps.acknowledgement_good f w k m w.life at g g
  heard_good laws w k full (Some (Notify m moment)) at g = g
  heard_good laws w k full (Some (Delivery m moment more x)) at g = g

  taken_good : IsLawful f → (w : Link V P W H) (k : ℕ) (p : Option (Packet P W))
      → slice_get w.packets k ≡ p → Good f w → Good f (taken f w p)
  taken_good laws w k None at g = g
  taken_good laws w k (Some (Subscribe n x)) at g = g
  taken_good laws w k (Some (Terminate n)) at g = g
  taken_good laws w k (Some (AllData n b)) at g = g
  taken_good laws w k (Some (Supply m)) at g = g
  taken_good laws w k (Some (Acknowledge m)) at g = g
  taken_good laws w k (Some (Notify m moment)) at g = Steps.notified_good f w k w.held m moment at refl g
  taken_good laws w k (Some (Delivery m moment more x)) at g = Steps.delivered_good f laws w k w.held m moment more x at refl g g.tied

  -- a consumer that holds this sends one packet
  says_good : (w : Link V P W H) (h : Holding V P W) (p : Packet P W) → w.held ≡ Some h → number_of p < w.next_number
      → Fact f w.start w.life w.ended h p → Good f w → Good f (Link.sends f w (p ∷ []))
  says_good w h p is low fact g = record {
    first = g.first;
    life = g.life;
    olds = g.olds;
    numbers = each_append (λ q. number_of q < w.next_number) w.packets (p ∷ []) g.numbers (low, tt);
    tied = subst (HeldFact f w.start w.now w.life w.ended w.next_number (w.packets ++ p ∷ [])) (sym is)
        (tied_sends f w.start w.now w.life w.ended w.next_number w.packets (p ∷ []) h (fact, tt)
        (subst (HeldFact f w.start w.now w.life w.ended w.next_number w.packets) is g.tied));
  }

  -- what a consumer replies to a notification follows from its outcome alone
  noted_good : (w : Link V P W H) (held : Option (Holding V P W)) (m : Mark) → w.held ≡ held → Good f w → Good f (Link.notified f w held m)
  noted_good w None m is g = g
  noted_good w (Some h) m is g = by (outcome f h m) (means f h m)
    where
      low : h.number < w.next_number
      low = let t : Tied f w.start w.now w.life w.ended w.next_number w.packets h =
          subst (HeldFact f w.start w.now w.life w.ended w.next_number w.packets) is g.tied in t.number

      by : (o : Outcome) → Means f h m o → Good f (Link.notified_as f o w m)
      by Wanted q = says_good w h (Supply m) is (let a = low in omega arith) tt g
      by Repeat q = says_good w h (Acknowledge m) is (let a = low in let b = q.number in omega arith) (λ same. q.before) g
      by UnknownSubscription q = g
      by OldStart q = g
      by Gap q = g
      by Overlong q = g

  -- of a consumer that holds nothing nothing is asked
  lost_good : (w : Link V P W H) → Good f w → Good f (Link.with_holding f w None)
  lost_good w g = record { first = g.first; life = g.life; olds = g.olds; numbers = g.numbers; tied = tt }

  acted_good : IsLawful f → (w : Link V P W H) (a : LinkAct W E) → Good f w → Good f (acted f w a)
  acted_good laws w (Starts t) g = Steps.anew_good f w t g
  acted_good laws w (Clocks t) g = Steps.clock_good f w t g
  acted_good laws w (Feeds es) g = Steps.fed_good f w es g
  acted_good laws w (Hears k full) g = heard_good laws w k full (slice_get w.packets k) refl g
  acted_good laws w (Fetches m) g = Steps.supply_good f w m w.life g g
  acted_good laws w Settles g = Steps.settle_good f laws w g
  acted_good laws w (Notes m) g = noted_good w w.held m refl g
  acted_good laws w (Takes k) g = taken_good laws w k (slice_get w.packets k) refl g
  acted_good laws w (Asks x) g = Steps.asks_good f w x g
  acted_good laws w Stops g = Steps.stops_good f w w.held g
  acted_good laws w Restarts g = Steps.restarts_good f w w.held g g.tied
  acted_good laws w Ends g = lost_good w g
  acted_good laws w Spends g = Steps.spend_good f w g

  acts_good : IsLawful f → (acts : List (LinkAct W E)) (w : Link V P W H) → Good f w → Good f (acts_after f acts w)
  acts_good laws [] w g = g
  acts_good laws (a ∷ more) w g = acts_good laws more (acted f w a) (acted_good laws w a g)

  pub reached : IsLawful f → (t : ℕ) (acts : List (LinkAct W E)) → Good f (acts_after f acts (first_link f t))
  reached laws t acts = acts_good laws acts (first_link f t) (Steps.begin_good f t)

  -- ---- what follows
  pub views : IsLawful f → (t : ℕ) (acts : List (LinkAct W E))
      → ViewIsGoal f (acts_after f acts (first_link f t)) (acts_after f acts (first_link f t)).held
  views laws t acts = let w = acts_after f acts (first_link f t) in Claims.view_of f w w.held (reached laws t acts).tied

  pub meets_where_quiet : IsLawful f → (t : ℕ) (acts : List (LinkAct W E))
      → MeetsWhereQuiet f (acts_after f acts (first_link f t)) (acts_after f acts (first_link f t)).held (acts_after f acts (first_link f t)).life
  meets_where_quiet laws t acts = let w = acts_after f acts (first_link f t) in let g = reached laws t acts in
      Claims.meets_of f w w.held w.life g.first g.life g.tied

  pub carries_its_round : IsLawful f → (t : ℕ) (acts : List (LinkAct W E)) (k : ℕ) (p : Packet P W)
      → slice_get (acts_after f acts (first_link f t)).packets k ≡ Some p
      → CarriesItsRound f (acts_after f acts (first_link f t)) (acts_after f acts (first_link f t)).held p
  carries_its_round laws t acts k p at = let w = acts_after f acts (first_link f t) in
      Claims.carries_of f w w.held k p (reached laws t acts).tied at

  pub no_gap : IsLawful f → (t : ℕ) (acts : List (LinkAct W E)) (k : ℕ) (p : Packet P W) (m : Mark)
      → slice_get (acts_after f acts (first_link f t)).packets k ≡ Some p → HasMark p m
      → (outcome_of f (acts_after f acts (first_link f t)).held m ≢ Gap) × (outcome_of f (acts_after f acts (first_link f t)).held m ≢ Overlong)
  no_gap laws t acts k p m at is = let w = acts_after f acts (first_link f t) in
      Claims.no_gap_of f w w.held k p m (reached laws t acts).tied at is

  -- ---- a schedule of whole events is one of single acts

  -- the acts of a packet that comes
  acts_of_packet : (k : ℕ) (full : Bool) (p : Option (Packet P W)) → List (LinkAct W E)
  acts_of_packet k full None = []
  acts_of_packet k full (Some (Subscribe n x)) = Hears k full ∷ Settles ∷ []
  acts_of_packet k full (Some (Terminate n)) = Hears k full ∷ Settles ∷ []
  acts_of_packet k full (Some (AllData n b)) = Hears k full ∷ Settles ∷ []
  acts_of_packet k full (Some (Supply m)) = Hears k full ∷ Settles ∷ []
  acts_of_packet k full (Some (Acknowledge m)) = Hears k full ∷ Settles ∷ []
  acts_of_packet k full (Some (Notify m moment)) = Takes k ∷ []
  acts_of_packet k full (Some (Delivery m moment more x)) = Takes k ∷ []

  comes_by_acts : (w : Link V P W H) (k : ℕ) (full : Bool) (p : Option (Packet P W)) → slice_get w.packets k ≡ p
      → acts_after f (acts_of_packet k full p) w ≡ Link.comes_if f full w p
  unfolding acts_of_packet
  comes_by_acts w k full None at = refl
  comes_by_acts w k full (Some (Subscribe n x)) at = ap (λ q. Link.settle f (heard f full w q)) at
  comes_by_acts w k full (Some (Terminate n)) at = ap (λ q. Link.settle f (heard f full w q)) at
  comes_by_acts w k full (Some (AllData n b)) at = ap (λ q. Link.settle f (heard f full w q)) at
  comes_by_acts w k full (Some (Supply m)) at = ap (λ q. Link.settle f (heard f full w q)) at
  comes_by_acts w k full (Some (Acknowledge m)) at = ap (λ q. Link.settle f (heard f full w q)) at
  comes_by_acts w k full (Some (Notify m moment)) at = ap (taken f w) at
  comes_by_acts w k full (Some (Delivery m moment more x)) at = ap (taken f w) at

  -- the acts of an event
  event_acts : (w : Link V P W H) (e : LinkEvent W E) → (acts : List (LinkAct W E)) × (acts_after f acts w ≡ happens f w e)
  event_acts w (Start t) = (Starts t ∷ [], refl)
  event_acts w (Clock t) = (Clocks t ∷ Settles ∷ [], refl)
  event_acts w (Feed es) = (Feeds es ∷ Settles ∷ [], refl)
  event_acts w (Ask x) = (Asks x ∷ [], refl)
  event_acts w Stop = (Stops ∷ [], refl)
  event_acts w Restart = (Restarts ∷ [], refl)
  event_acts w Spend = (Spends ∷ [], refl)
  event_acts w (Deliver k full) = let p = slice_get w.packets k in (acts_of_packet k full p, comes_by_acts w k full p refl)

  acts_then : (before after : List (LinkAct W E)) (w : Link V P W H) → acts_after f (before ++ after) w ≡ acts_after f after (acts_after f before w)
  acts_then [] after w = refl
  acts_then (a ∷ before) after w = acts_then before after (acted f w a)

  pub events_are_acts : (es : List (LinkEvent W E)) (w : Link V P W H) → (acts : List (LinkAct W E)) × (acts_after f acts w ≡ link_after f es w)
  events_are_acts [] w = ([], refl)
  events_are_acts (e ∷ es) w =
      let first = event_acts w e in
      let rest = events_are_acts es (happens f w e) in
      (first.0 ++ rest.0, acts_then first.0 rest.0 w ∙ ap (acts_after f rest.0) first.1 ∙ rest.1)
