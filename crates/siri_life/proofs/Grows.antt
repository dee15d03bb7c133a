-- A packet is kept for good.
use Rattle.std.proofs.Common.{◌≡◌, ℕ, suc, max, Bool, true, false, List, [], ◌∷◌, length, Option, Some, None, ◌&&◌}
use Rattle.std.specs.Prelude.{slice_get}
use Rattle.siri_life.specs.Meaning.{Meaning}
use Rattle.siri_life.specs.Life.{can_accept, can_renew, is_before, is_past, Outstanding, Life, Mark, is_mark, Packet}
use Rattle.siri_life.specs.Life.{Subscribe, Terminate, AllData, Supply}
use Rattle.siri_life.specs.Life.{Acknowledge, Notify, Delivery, is_due, part_message, message}
use Rattle.siri_life.specs.Link
use Rattle.siri_life.specs.Link.{Link, Holding, LinkEvent, Start, Clock, Feed, Ask, Stop, Restart, Spend, Deliver}
use Rattle.siri_life.specs.Link.{Outcome, UnknownSubscription}
use Rattle.siri_life.specs.Link.{OldStart, Gap, Repeat, Overlong, Wanted, outcome, settle, happens, link_after}
use Rattle.siri_life.proofs.Lists.{get_front}

module _ {V P W H E : Type 0} (f : Meaning V P W H E) where
  -- what w has, v has
  abbrev pub Grows : Link V P W H → Link V P W H → Type 0
  Grows w v = (i : ℕ) (p : Packet P W) → slice_get w.packets i ≡ Some p → slice_get v.packets i ≡ Some p

  open_grows : (w : Link V P W H) (e : Option (Life V P W)) → Grows w (Link.open_in_life f w e)
  open_grows w None i p a = a
  open_grows w (Some l) i p a = a

  send_grows : (w : Link V P W H) (e : Option (Life V P W)) → Grows w (Link.send_of_life f w e)
  send_grows w None i p a = a
  send_grows w (Some l) i p a = by l.outstanding
    where
      due : (b : Bool) (o : Outstanding V P) → slice_get (Link.send_if f b w l o).packets i ≡ Some p
      due true o = get_front w.packets (message f l o) i p a
      due false o = a

      by : (o : Option (Outstanding V P)) → slice_get (Link.send_outstanding f w l o).packets i ≡ Some p
      by None = a
      by (Some o) = due (is_due o.last_sent w.now) o

  heartbeat_grows : (w : Link V P W H) (e : Option (Life V P W)) → Grows w (Link.heartbeat_of_life f w e)
  heartbeat_grows w None i p a = a
  heartbeat_grows w (Some l) i p a = a

  settle_grows : (w : Link V P W H) → Grows w (settle f w)
  settle_grows w i p a = let v = Link.opens f w in let u = Link.send_of_life f v v.life in
      heartbeat_grows u u.life i p (send_grows v v.life i p (open_grows w w.life i p a))

  accept_grows : (w : Link V P W H) (n : ℕ) (x : W) (b : Bool) → Grows w (Link.accept_if f b w n x)
  accept_grows w n x true i p a = a
  accept_grows w n x false i p a = a

  end_grows : (w : Link V P W H) (b : Bool) → Grows w (Link.end_if f b w)
  end_grows w true i p a = a
  end_grows w false i p a = a

  supply_grows : (w : Link V P W H) (m : Mark) (e : Option (Life V P W)) → Grows w (Link.supplies f w m e)
  supply_grows w m None i p a = a
  supply_grows w m (Some l) i p a = by l.outstanding
    where
      test : (b : Bool) (o : Outstanding V P) → slice_get (Link.supply_if f b w l o).packets i ≡ Some p
      test true o = get_front w.packets (part_message f l o (slice_get o.round.parts o.acknowledged_parts)) i p a
      test false o = a

      by : (o : Option (Outstanding V P)) → slice_get (Link.supplies_of f w m l o).packets i ≡ Some p
      by None = a
      by (Some o) = test (f.fetched l.wanted && is_mark m l.number w.start (length l.rounds) (suc o.acknowledged_parts)) o

  acknowledgement_grows : (w : Link V P W H) (m : Mark) (e : Option (Life V P W)) → Grows w (Link.acknowledges f w m e)
  acknowledgement_grows w m None i p a = a
  acknowledgement_grows w m (Some l) i p a = by l.outstanding
    where
      test : (b : Bool) (o : Outstanding V P) → slice_get (Link.acknowledges_if f b w l o).packets i ≡ Some p
      test true o = a
      test false o = a

      by : (o : Option (Outstanding V P)) → slice_get (Link.acknowledges_of f w m l o).packets i ≡ Some p
      by None = a
      by (Some o) = test (is_mark m l.number w.start (length l.rounds) (suc o.acknowledged_parts)) o

  delivered_grows : (w : Link V P W H) (held : Option (Holding V P W)) (m : Mark) (more : Bool) (x : P) → Grows w (Link.delivered f w held m more x)
  delivered_grows w None m more x i p a = a
  delivered_grows w (Some h) m more x i p a = by (outcome f h m)
    where
      by : (o : Outcome) → slice_get (Link.delivered_as f o w h m more x).packets i ≡ Some p
      by Wanted = get_front w.packets (Acknowledge m ∷ Link.then_supply f (more && f.fetched h.wanted) m) i p a
      by Repeat = get_front w.packets (Acknowledge m ∷ []) i p a
      by UnknownSubscription = a
      by OldStart = a
      by Gap = a
      by Overlong = a

  notified_grows : (w : Link V P W H) (held : Option (Holding V P W)) (m : Mark) → Grows w (Link.notified f w held m)
  notified_grows w None m i p a = a
  notified_grows w (Some h) m i p a = by (outcome f h m)
    where
      by : (o : Outcome) → slice_get (Link.notified_as f o w m).packets i ≡ Some p
      by Wanted = get_front w.packets (Supply m ∷ []) i p a
      by Repeat = get_front w.packets (Acknowledge m ∷ []) i p a
      by UnknownSubscription = a
      by OldStart = a
      by Gap = a
      by Overlong = a

  renew_grows : (w : Link V P W H) (n b : ℕ) (e : Option (Life V P W)) → Grows w (Link.renews f w n b e)
  renew_grows w n b None i p a = a
  renew_grows w n b (Some l) i p a = by (can_renew f l n b)
    where
      by : (c : Bool) → slice_get (Link.renew_if f c w n b l.wanted).packets i ≡ Some p
      by true = a
      by false = a

  restarts_grows : (w : Link V P W H) (held : Option (Holding V P W)) → Grows w (Link.restarts_of f w held)
  restarts_grows w None i p a = a
  restarts_grows w (Some h) i p a = get_front w.packets (AllData w.next_number h.base ∷ []) i p a

  comes_grows : (w : Link V P W H) (full : Bool) (q : Option (Packet P W)) → Grows w (Link.comes_if f full w q)
  comes_grows w full None i p a = a
  comes_grows w full (Some (Subscribe n x)) i p a = let v = Link.accepts f full w n x in
      settle_grows v i p (accept_grows w n x (can_accept f full w.now n x w.life) i p a)
  comes_grows w full (Some (Terminate n)) i p a = let v = Link.ends f w n in settle_grows v i p (end_grows w (is_before f w.life n) i p a)
  comes_grows w full (Some (AllData n b)) i p a = let v = Link.renews f w n b w.life in settle_grows v i p
      (renew_grows w n b w.life i p a)
  comes_grows w full (Some (Supply m)) i p a = let v = Link.supplies f w m w.life in settle_grows v i p (supply_grows w m w.life i p a)
  comes_grows w full (Some (Acknowledge m)) i p a = let v = Link.acknowledges f w m w.life in settle_grows v i p (acknowledgement_grows w m w.life i p a)
  comes_grows w full (Some (Notify m moment)) i p a = notified_grows w w.held m i p a
  comes_grows w full (Some (Delivery m moment more x)) i p a = delivered_grows w w.held m more x i p a

  stops_grows : (w : Link V P W H) (held : Option (Holding V P W)) → Grows w (Link.stops_of f w held)
  stops_grows w None i p a = a
  stops_grows w (Some h) i p a = get_front w.packets (Terminate w.next_number ∷ []) i p a

  pub happens_grows : (w : Link V P W H) (e : LinkEvent W E) → Grows w (happens f w e)
  happens_grows w (Start t) i p a = a
  happens_grows w (Clock t) i p a = let v = Link.expire f (Link.at_moment f w t) in
      settle_grows v i p (end_grows (Link.at_moment f w t) (is_past f w.life (max w.now t)) i p a)
  happens_grows w (Feed es) i p a = settle_grows (Link.fed f w es) i p a
  happens_grows w (Ask x) i p a = get_front w.packets (Subscribe w.next_number x ∷ []) i p a
  happens_grows w Restart i p a = restarts_grows w w.held i p a
  happens_grows w Stop i p a = stops_grows w w.held i p a
  happens_grows w Spend i p a = get_front w.packets [] i p a
  happens_grows w (Deliver k full) i p a = comes_grows w full (slice_get w.packets k) i p a

  pub run_grows : (es : List (LinkEvent W E)) (w : Link V P W H) → Grows w (link_after f es w)
  run_grows [] w i p a = a
  run_grows (e ∷ es) w i p a = run_grows es (happens f w e) i p (happens_grows w e i p a)
