-- Each event keeps what holds of a link.
use Rattle.std.proofs.Common.{◌≡◌, ℕ, suc, ◌<◌, ◌≤◌, max, Bool, true, false, cond, ◌&&◌, List, [], ◌∷◌, ◌++◌, length, Option, Some, None}
use Rattle.std.proofs.Common.{refl, sym, ap, ◌∙◌, subst, ⊎_elim, arith}
use Rattle.std.specs.Prelude.{slice_get, nat_lt}
use Rattle.std.proofs.lemmas.Bool.{and_parts, ltb-true, ltb-false, leb-true, leb-false, eqb-true}
use Rattle.siri_life.specs.Meaning.{Meaning, IsLawful}
use Rattle.siri_life.specs.Life.{can_accept, can_renew, is_before, is_past, greatest_round, Outstanding, Life, Mark}
use Rattle.siri_life.specs.Life.{is_mark, Packet, Subscribe}
use Rattle.siri_life.specs.Life.{Terminate, AllData, Supply, Acknowledge, Notify, Delivery, is_due, new_life}
use Rattle.siri_life.specs.Life.{sends_heartbeat, with_heartbeat}
use Rattle.siri_life.specs.Life.{heartbeat_if, with_round, new_round, wants_round, opened_if, opened_at, with_outstanding, sent_at, closed}
use Rattle.siri_life.specs.Life.{next_part, part_message, message, message_by}
use Rattle.siri_life.specs.Link
use Rattle.siri_life.specs.Link.{Link, Holding, LinkEvent, Start, Clock, Feed, Ask, Stop, Restart, Spend, Deliver}
use Rattle.siri_life.specs.Link.{rounds_of, GoalAt, Outcome}
use Rattle.siri_life.specs.Link.{UnknownSubscription, OldStart, Gap, Repeat, Overlong, Wanted, outcome, with_start, with_start_if}
use Rattle.siri_life.specs.Link.{with_buffered, with_whole_round, with_part, asked, retire, with_life, sends, settle, happens, link_after}
use Rattle.siri_life.specs.Link.{first_link}
use Rattle.siri_life.proofs.Lists.{Each, each_map, each_both, each_append, each_get, length_push}
use Rattle.siri_life.proofs.Book.{has_one}
use Rattle.siri_life.proofs.Facts.{number_of, OutstandingFact, LifeFact, TableFact, Before, Delivers, Fact}
use Rattle.siri_life.proofs.Facts.{SharedLife, Buffer, Tied, HeldFact}
use Rattle.siri_life.proofs.Facts.{Old, Inv, InvAt, Good}
use Rattle.siri_life.proofs.Moves
use Rattle.siri_life.proofs.Moves.{held_map, tied_sends}
use Rattle.siri_life.proofs.Takes
use Rattle.siri_life.proofs.Takes.{Means, means, Here, Next}

module _ {V P W H E : Type 0} (f : Meaning V P W H E) where
  -- ---- settle
  opens_good : IsLawful f → (w : Link V P W H) (e : Option (Life V P W)) → Good f w → InvAt f w e w.held → Good f (Link.open_in_life f w e)
  opens_good laws w None g a = g
  opens_good laws w (Some l) g a = by l.outstanding refl
    where
      d : V
      d = f.direct w.known l.wanted

      test : (b : Bool) → wants_round f l (f.direct w.known l.wanted) ≡ b → l.outstanding ≡ None
          → Good f (with_life f w (Some (opened_if f b l (f.direct w.known l.wanted) w.now)))
      test false t is = a
      test true t is =
          let low = ltb-true (length l.rounds) greatest_round (and_parts _ _ t).0 in
          let x = new_round f l (f.direct w.known l.wanted) w.now in
          record {
            first = a.first;
            life = Moves.life_opens f laws w.start w.now w.next_number l w.known a.life (subst (OutstandingFact f l) is a.life.outstanding) low;
            olds = a.olds;
            numbers = a.numbers;
            tied = held_map f w.start w.now w.start w.now (Some l)
                (Some (with_round f l x)) w.ended w.ended w.next_number w.next_number w.packets w.packets w.held
                (λ h. Moves.tied_opens f w.start w.now w.next_number l x w.ended w.packets h is) a.tied;
          }

      by : (o : Option (Outstanding V P)) → l.outstanding ≡ o → Good f (with_life f w (Some (opened_at f o l (f.direct w.known l.wanted) w.now)))
      by (Some o) is = a
      by None is = test (wants_round f l (f.direct w.known l.wanted)) refl is

  part_numbers : (l : Life V P W) (o : Outstanding V P) (next : ℕ) (y : Option P) → l.number < next → Each (λ p. number_of p < next) (part_message f l o y)
  part_numbers l o next None low = tt
  part_numbers l o next (Some x) low = (low, tt)

  message_numbers : (l : Life V P W) (o : Outstanding V P) (next : ℕ) (b : Bool) → l.number < next → Each (λ p. number_of p < next) (message_by f b l o)
  message_numbers l o next true low = (low, tt)
  message_numbers l o next false low = part_numbers l o next (slice_get o.round.parts o.acknowledged_parts) low

  -- a message of the outstanding round is sent
  sent_good : (w : Link V P W H) (l : Life V P W) (o : Outstanding V P) (ps : List (Packet P W))
      → l.outstanding ≡ Some o → InvAt f w (Some l) w.held → Each (λ p. number_of p < w.next_number) ps
      → ((h : Holding V P W) → Tied f w.start w.now (Some l) w.ended w.next_number w.packets h
      → Each (Fact f w.start (Some l) w.ended h) ps) → Good f
      (sends f (with_life f w (Some (with_outstanding f l (sent_at o (Some w.now))))) ps)
  sent_good w l o ps is a low facts =
      record {
        first = a.first;
        life = Moves.life_at f w.start w.now w.next_number l o (Some w.now) is a.life;
        olds = a.olds;
        numbers = each_append (λ p. number_of p < w.next_number) w.packets ps a.numbers low;
        tied = held_map f w.start w.now w.start w.now (Some l)
            (Some (with_outstanding f l (sent_at o (Some w.now)))) w.ended w.ended w.next_number w.next_number w.packets
            (w.packets ++ ps) w.held
            (λ h t. Moves.tied_at f w.start w.now w.next_number l o (Some w.now) w.ended (w.packets ++ ps) h is
            (tied_sends f w.start w.now (Some l) w.ended w.next_number w.packets ps h (facts h t) t)) a.tied;
      }

  send_good : (w : Link V P W H) (e : Option (Life V P W)) → Good f w → InvAt f w e w.held → Good f (Link.send_of_life f w e)
  send_good w None g a = g
  send_good w (Some l) g a = by l.outstanding refl
    where
      due : (b : Bool) (o : Outstanding V P) → l.outstanding ≡ Some o → Good f (Link.send_if f b w l o)
      due false o is = g
      due true o is = sent_good w l o (message f l o) is a
          (message_numbers l o w.next_number (f.fetched l.wanted) a.life.number)
          (λ h t. Moves.message_facts f w.start w.now w.next_number l o w.ended w.packets h is a.life t
          (f.fetched l.wanted))

      by : (o : Option (Outstanding V P)) → l.outstanding ≡ o → Good f (Link.send_outstanding f w l o)
      by None is = g
      by (Some o) is = due (is_due o.last_sent w.now) o is

  heartbeat_good : (w : Link V P W H) (e : Option (Life V P W)) → Good f w → InvAt f w e w.held → Good f (Link.heartbeat_of_life f w e)
  heartbeat_good w None g a = g
  heartbeat_good w (Some l) g a = by (sends_heartbeat f l w.now)
    where
      by : (b : Bool) → Good f (with_life f w (Some (heartbeat_if f b l w.now)))
      by false = a
      by true = record {
        first = a.first;
        life = Moves.life_heartbeat f w.start w.now w.next_number l w.now a.life;
        olds = a.olds;
        numbers = a.numbers;
        tied = held_map f w.start w.now w.start w.now (Some l)
            (Some (with_heartbeat f l w.now)) w.ended w.ended w.next_number w.next_number w.packets w.packets w.held
            (λ h t. Moves.tied_heartbeat f w.start w.now w.next_number l w.now w.ended w.packets h t) a.tied;
      }

  pub settle_good : IsLawful f → (w : Link V P W H) → Good f w → Good f (settle f w)
  settle_good laws w g =
      let v = Link.opens f w in
      let a = opens_good laws w w.life g g in
      let u = Link.send_of_life f v v.life in
      let b = send_good v v.life a a in
      heartbeat_good u u.life b b

  -- ---- the producer takes
  retired : (k next : ℕ) (now : ℕ) (e : Option (Life V P W)) → TableFact f k now next e → Each (Old f k next) (retire f e)
  retired k next now None q = tt
  retired k next now (Some l) q = (record { start = let a = q.start in omega arith; number = q.number }, tt)

  pub accept_good : IsLawful f → (w : Link V P W H) (k n : ℕ) (x : W) (full : Bool)
      → slice_get w.packets k ≡ Some (Subscribe n x) → Good f w → Good f (Link.accepts f full w n x)
  accept_good laws w k n x full at g = by (can_accept f full w.now n x w.life) refl
    where
      small : (e : Option (Life V P W)) → can_accept f full w.now n x e ≡ true → Moves.Smaller f n e × (w.now < f.termination x)
      small None t = (tt, ltb-true w.now (f.termination x) (and_parts _ _ t).0)
      small (Some l) t = let b = and_parts _ _ t in (ltb-true l.number n b.0, ltb-true w.now (f.termination x) b.1)

      by : (b : Bool) → can_accept f full w.now n x w.life ≡ b → Good f (Link.accept_if f b w n x)
      by false t = g
      by true t =
          let s = small w.life t in
          record {
            first = g.first;
            life = record {
              start = refl;
              number = each_get (λ p. number_of p < w.next_number) w.packets k
                  (Subscribe n x) g.numbers at;
              based = omega arith;
              alive = s.1;
              acknowledged_is_view = laws.empty_is_view;
              count = omega arith;
              outstanding = refl;
            };
            olds = each_append (Old f w.start w.next_number) w.ended (retire f w.life) g.olds (retired w.start w.next_number w.now w.life g.life);
            numbers = g.numbers;
            tied = held_map f w.start w.now w.start w.now w.life (Some (new_life f w.start w.now n n x)) w.ended
                (w.ended ++ retire f w.life) w.next_number w.next_number w.packets w.packets w.held
                (λ h t.
                let c = each_get (Fact f w.start w.life w.ended h) w.packets k (Subscribe n x) t.facts at in
                Moves.tied_accepts f w.start w.now w.next_number n n x w.life w.ended w.packets h g.first s.0 s.1
                (let a = c.0 in let b = t.based in (omega arith, λ same. c.1 (omega arith))) c.1 t) g.tied;
          }

  pub renew_good : IsLawful f → (w : Link V P W H) (k n b : ℕ) (e : Option (Life V P W)) → w.life ≡ e
      → slice_get w.packets k ≡ Some (AllData n b) → Good f w → Good f (Link.renews f w n b e)
  renew_good laws w k n b None is at g = g
  renew_good laws w k n b (Some l) is at g = by (can_renew f l n b) refl
    where
      q : LifeFact f w.start w.now w.next_number l
      q = subst (TableFact f w.start w.now w.next_number) is g.life

      by : (c : Bool) → can_renew f l n b ≡ c → Good f (Link.renew_if f c w n b l.wanted)
      by false t = g
      by true t =
          let p = and_parts _ _ t in
          let base = eqb-true l.base b p.0 in
          let less = ltb-true l.number n p.1 in
          let low : n < w.next_number = each_get (λ p. number_of p < w.next_number) w.packets k
          (AllData n b) g.numbers at in
          let based = q.based in
          record {
            first = g.first;
            life = record {
              start = refl;
              number = low;
              based = omega arith;
              alive = q.alive;
              acknowledged_is_view =
                  laws.empty_is_view;
              count = omega arith;
              outstanding = refl;
            };
            olds = each_append (Old f w.start w.next_number) w.ended (retire f w.life) g.olds (retired w.start w.next_number w.now w.life g.life);
            numbers = g.numbers;
            tied = held_map f w.start w.now w.start w.now w.life (Some (new_life f w.start w.now n b l.wanted)) w.ended
                (w.ended ++ retire f w.life) w.next_number w.next_number w.packets w.packets w.held
                (λ h t.
                let c = each_get (Fact f w.start w.life w.ended h) w.packets k (AllData n b) t.facts at in
                let shared : SharedLife f w.start h (Some l) = subst (SharedLife f w.start h) is t.shared in
                Moves.tied_accepts f w.start w.now w.next_number n b l.wanted w.life w.ended w.packets h g.first
                (subst (λ e. Moves.Smaller f n e) (sym is) less) q.alive
                (c.0, λ same. shared.of_base (base ∙ c.1 same)) (λ same. shared.of_base (base ∙ same)) t) g.tied;
          }

  -- the life in the table ends, as the clock comes to now'
  ended_good : (w : Link V P W H) (now' : ℕ) → w.now ≤ now'
      → ((h : Holding V P W) → Tied f w.start w.now w.life w.ended w.next_number w.packets h
      → Moves.IfUnder f h.number w.life (λ l. f.termination h.wanted ≤ now')) → Good f w
      → Inv f w.start now' None (w.ended ++ retire f w.life) w.next_number w.packets w.held
  ended_good w now' le under g =
      record {
        first = g.first;
        life = tt;
        olds = each_append (Old f w.start w.next_number) w.ended (retire f w.life) g.olds (retired w.start w.next_number w.now w.life g.life);
        numbers = g.numbers;
        tied = held_map f w.start w.now w.start now' w.life None w.ended (w.ended ++ retire f w.life) w.next_number w.next_number w.packets w.packets w.held
            (λ h t. Moves.tied_ends f w.start w.now now' w.life w.ended w.next_number w.packets h le (under h t) t) g.tied;
      }

  pub end_good : (w : Link V P W H) (k n : ℕ) → slice_get w.packets k ≡ Some (Terminate n) → Good f w → Good f (Link.ends f w n)
  end_good w k n at g = by (is_before f w.life n) refl
    where
      under : (e : Option (Life V P W)) (h : Holding V P W) → is_before f e n ≡ true → n < h.number
          → Moves.IfUnder f h.number e (λ l. f.termination h.wanted ≤ w.now)
      under None h t low = tt
      under (Some l) h t low = λ same. let a = ltb-true l.number n t in absurd (omega arith)

      by : (b : Bool) → is_before f w.life n ≡ b → Good f (Link.end_if f b w)
      by false t = g
      by true t = ended_good w w.now (omega arith) (λ h d. under w.life h t (each_get (Fact f w.start w.life w.ended h) w.packets k (Terminate n) d.facts at)) g

  marked : (m : Mark) (n s r p : ℕ) → is_mark m n s r p ≡ true → (m.number ≡ n) × (m.start ≡ s) × (m.round ≡ r) × (m.part ≡ p)
  marked m n s r p t =
      let a = and_parts _ _ t in
      let b = and_parts _ _ a.0 in
      let c = and_parts _ _ a.1 in
      (eqb-true _ _ b.0, eqb-true _ _ b.1, eqb-true _ _ c.0, eqb-true _ _ c.1)

  pub supply_good : (w : Link V P W H) (m : Mark) (e : Option (Life V P W)) → Good f w → InvAt f w e w.held → Good f (Link.supplies f w m e)
  supply_good w m None g a = g
  supply_good w m (Some l) g a = by l.outstanding refl
    where
      test : (b : Bool) (o : Outstanding V P) → l.outstanding ≡ Some o → Good f (Link.supply_if f b w l o)
      test false o is = g
      test true o is = sent_good w l o (part_message f l o (slice_get o.round.parts o.acknowledged_parts)) is a
          (part_numbers l o w.next_number (slice_get o.round.parts o.acknowledged_parts) a.life.number)
          (λ h t. Moves.part_facts f w.start w.now w.next_number l o w.ended w.packets h is a.life t
          (slice_get o.round.parts o.acknowledged_parts) refl)

      by : (o : Option (Outstanding V P)) → l.outstanding ≡ o → Good f (Link.supplies_of f w m l o)
      by None is = g
      by (Some o) is = test (f.fetched l.wanted && is_mark m l.number w.start (length l.rounds) (suc o.acknowledged_parts)) o is

  pub acknowledgement_good : (w : Link V P W H) (k : ℕ) (m : Mark) (e : Option (Life V P W))
      → slice_get w.packets k ≡ Some (Acknowledge m) → Good f w → InvAt f w e w.held
      → Good f (Link.acknowledges f w m e)
  acknowledgement_good w k m None at g a = g
  acknowledgement_good w k m (Some l) at g a = by l.outstanding refl
    where
      acknowledged : (o : Outstanding V P) (h : Holding V P W)
          → is_mark m l.number w.start (length l.rounds) (suc o.acknowledged_parts) ≡ true
          → Tied f w.start w.now (Some l) w.ended w.next_number w.packets h → Moves.Acknowledged f w.start h l o m
      acknowledged o h t d = let c = marked m l.number w.start (length l.rounds) (suc o.acknowledged_parts) t in record {
        start = c.1;
        round = c.2;
        part = c.3;
        before = λ same. each_get (Fact f w.start (Some l) w.ended h) w.packets k (Acknowledge m) d.facts at (c.0 ∙ same);
      }

      next : (b : Bool) (o : Outstanding V P) → nat_lt (suc o.acknowledged_parts) (length o.round.parts) ≡ b
          → l.outstanding ≡ Some o → is_mark m l.number w.start (length l.rounds) (suc o.acknowledged_parts) ≡ true
          → Good f (with_life f w (Some (next_part f b l o w.now)))
      next true o low is t =
          let time = cond (f.fetched l.wanted) (Some w.now) None in
          let l' : Life V P W = with_outstanding f l
          (record {
            round = o.round;
            acknowledged_parts = suc o.acknowledged_parts;
            last_sent = cond (f.fetched l.wanted) (Some w.now) None;
          }) in
          record {
            first = a.first;
            life = Moves.life_next f w.start w.now w.next_number l o (cond (f.fetched l.wanted) (Some w.now) None) is
                (ltb-true (suc o.acknowledged_parts) (length o.round.parts) low) a.life;
            olds = a.olds;
            numbers = a.numbers;
            tied = held_map f w.start w.now w.start w.now (Some l) (Some l') w.ended w.ended w.next_number w.next_number w.packets w.packets w.held
                (λ h d. Moves.tied_next f w.start w.now w.next_number l o
                (cond (f.fetched l.wanted) (Some w.now) None) m w.ended w.packets h is
                (ltb-true (suc o.acknowledged_parts) (length o.round.parts) low) (acknowledged o h t d) d) a.tied;
          }
      next false o low is t =
          record {
            first = a.first;
            life = Moves.life_closed f w.start w.now w.next_number l o is a.life;
            olds = a.olds;
            numbers = a.numbers;
            tied = held_map f w.start w.now w.start w.now (Some l) (Some (closed f l o)) w.ended w.ended w.next_number w.next_number w.packets w.packets w.held
                (λ h d. Moves.tied_closed f w.start w.now w.next_number l o m w.ended w.packets h is
                (ltb-false (suc o.acknowledged_parts) (length o.round.parts) low) a.life (acknowledged o h t d) d)
                a.tied;
          }

      test : (b : Bool) (o : Outstanding V P) → is_mark m l.number w.start (length l.rounds)
          (suc o.acknowledged_parts) ≡ b → l.outstanding ≡ Some o → Good f (Link.acknowledges_if f b w l o)
      test false o t is = g
      test true o t is = next (nat_lt (suc o.acknowledged_parts) (length o.round.parts)) o refl is t

      by : (o : Option (Outstanding V P)) → l.outstanding ≡ o → Good f (Link.acknowledges_of f w m l o)
      by None is = g
      by (Some o) is = test (is_mark m l.number w.start (length l.rounds) (suc o.acknowledged_parts)) o refl is

  -- ---- clock and start
  pub clock_good : (w : Link V P W H) (t : ℕ) → Good f w → Good f (Link.expire f (Link.at_moment f w t))
  clock_good w t g = by (is_past f w.life (max w.now t)) refl
    where
      under : (e : Option (Life V P W)) (h : Holding V P W) → is_past f e (max w.now t) ≡ true
          → SharedLife f w.start h e → Moves.IfUnder f h.number e (λ l. f.termination h.wanted ≤ max w.now t)
      under None h p s = tt
      under (Some l) h p s = λ same. let a = leb-true (f.termination l.wanted) (max w.now t) p in let b = ap f.termination (s.wanted same) in omega arith

      alive : (e : Option (Life V P W)) → is_past f e (max w.now t) ≡ false → TableFact f w.start w.now w.next_number e
          → TableFact f w.start (max w.now t) w.next_number e
      alive None p q = tt
      alive (Some l) p q = record {
        start = q.start;
        number = q.number;
        based = q.based;
        alive = leb-false (f.termination l.wanted) (max w.now t) p;
        acknowledged_is_view = q.acknowledged_is_view;
        count = q.count;
        outstanding = q.outstanding;
      }

      by : (b : Bool) → is_past f w.life (max w.now t) ≡ b → Good f (Link.end_if f b (Link.at_moment f w t))
      by true p = ended_good w (max w.now t) (omega arith) (λ h d. under w.life h p d.shared) g
      by false p = record {
        first = g.first;
        life = alive w.life p g.life;
        olds = g.olds;
        numbers = g.numbers;
        tied = held_map f w.start w.now w.start (max w.now t) w.life w.life w.ended w.ended w.next_number w.next_number
            w.packets w.packets w.held (λ h d. Moves.tied_clock f w.start w.now
            (max w.now t) w.life w.ended w.next_number w.packets h (omega arith) d) g.tied;
      }

  pub anew_good : (w : Link V P W H) (t : ℕ) → Good f w → Good f (Link.anew f w t)
  anew_good w t g =
      record {
        first = let a = g.first in omega arith;
        life = tt;
        olds = each_map (Old f w.start w.next_number) (Old f (suc w.start) w.next_number)
            (λ l o. record { start = let a = o.start in omega arith; number = o.number }) (w.ended ++ retire f w.life)
            (each_append (Old f w.start w.next_number) w.ended (retire f w.life) g.olds
            (retired w.start w.next_number w.now w.life g.life));
        numbers = g.numbers;
        tied = held_map f w.start w.now (suc w.start) t w.life None w.ended
            (w.ended ++ retire f w.life) w.next_number w.next_number w.packets w.packets w.held
            (λ h d. Moves.tied_anew f w.start w.now t w.next_number w.life w.ended w.packets h g.life g.olds d) g.tied;
      }

  -- ---- the consumer asks
  more_old : (k next : ℕ) (ls : List (Life V P W)) → Each (Old f k next) ls → Each (Old f k (suc next)) ls
  more_old k next ls q = each_map (Old f k next) (Old f k (suc next)) (λ l o. record { start = o.start; number = let a = o.number in omega arith }) ls q

  more_life : (k now next : ℕ) (e : Option (Life V P W)) → TableFact f k now next e → TableFact f k now (suc next) e
  more_life k now next None q = tt
  more_life k now next (Some l) q = record {
    start = q.start;
    number = let a = q.number in omega arith;
    based = q.based;
    alive = q.alive;
    acknowledged_is_view = q.acknowledged_is_view;
    count = q.count;
    outstanding = q.outstanding;
  }

  more_numbers : (next : ℕ) (ps qs : List (Packet P W)) → Each (λ p. number_of p < next) ps
      → Each (λ p. number_of p < suc next) qs → Each (λ p. number_of p < suc next) (ps ++ qs)
  more_numbers next ps qs h k = each_append (λ p. number_of p < suc next) ps qs
      (each_map (λ (p : Packet P W). number_of p < next) (λ p. number_of p < suc next) (λ p a. omega arith) ps h) k

  -- what a number that no packet has makes of a packet
  new_fact : (k : ℕ) (e : Option (Life V P W)) (ended : List (Life V P W)) (h : Holding V P W) (p : Packet P W)
      → number_of p < h.number → h.base ≡ h.number → Fact f k e ended h p
  new_fact k e ended h (Subscribe n x) low is = (omega arith, λ same. absurd (omega arith))
  new_fact k e ended h (AllData n b) low is = (omega arith, λ same. absurd (omega arith))
  new_fact k e ended h (Terminate n) low is = low
  new_fact k e ended h (Supply m) low is = tt
  new_fact k e ended h (Acknowledge m) low is = λ same. absurd (omega arith)
  new_fact k e ended h (Notify m t) low is = λ same. absurd (omega arith)
  new_fact k e ended h (Delivery m t more x) low is = λ same. absurd (omega arith)

  pub asks_good : (w : Link V P W H) (x : W) → Good f w → Good f (Link.asks f w x)
  asks_good w x g =
      record {
        first = g.first;
        life = more_life w.start w.now w.next_number w.life g.life;
        olds = more_old w.start w.next_number w.ended g.olds;
        numbers = more_numbers w.next_number w.packets (Subscribe w.next_number x ∷ []) g.numbers (omega arith, tt);
        tied = by w.held g.tied;
      }
    where
      shared : (h : Holding V P W) → (h.number ≡ w.next_number) × (h.base ≡ w.next_number) → (e : Option (Life V P W))
          → TableFact f w.start w.now w.next_number e → SharedLife f w.start h e
      shared h is None q = tt
      shared h is (Some l) q = let a = q.number in let b = q.based in
          record {
            number = omega arith;
            wanted = λ same. absurd (omega arith);
            of_base = λ same. absurd
                (omega arith);
            wanting = λ same. absurd (omega arith);
          }

      tied : (h : Holding V P W) → (h.number ≡ w.next_number) × (h.base ≡ w.next_number) → h.wanted ≡ x → h.start ≡ 0
          → h.round ≡ 0 → h.parts ≡ []
          → GoalAt f (rounds_of h.origin.number h.origin.start w.life w.ended) h.origin.round h.view
          → Tied f w.start w.now w.life w.ended (suc w.next_number) (w.packets ++ Subscribe w.next_number x ∷ []) h
      tied h is wanted start round parts view = record {
        number = let a = is.0 in omega arith;
        based = omega arith;
        start = omega arith;
        facts = each_append (Fact f w.start w.life w.ended h) w.packets (Subscribe w.next_number x ∷ [])
            (each_map (λ (p : Packet P W). number_of p < w.next_number) (Fact f w.start w.life w.ended h)
            (λ p low. new_fact w.start w.life w.ended h p (omega arith) (omega arith)) w.packets g.numbers)
            ((omega arith, λ _. sym wanted), tt);
        shared = shared h is w.life g.life;
        once = λ b. absurd (has_one f (Old f w.start w.next_number) ⊥ h.number w.start w.ended (λ l en es o. let a = o.number in omega arith) g.olds b);
        seen = λ c. absurd (omega arith);
        buffer = subst (λ ps. Buffer f (rounds_of h.number h.start w.life w.ended) h.round ps) (sym parts) tt;
        current = λ c. absurd (omega arith);
        view = view;
      }

      by : (held : Option (Holding V P W)) → HeldFact f w.start w.now w.life w.ended w.next_number w.packets held
          → Tied f w.start w.now w.life w.ended (suc w.next_number) (w.packets ++ Subscribe w.next_number x ∷ [])
          (asked f w.next_number x held)
      by None t = tied (asked f w.next_number x None) (refl, refl) refl refl refl refl refl
      by (Some h) t = tied (asked f w.next_number x (Some h)) (refl, refl) refl refl refl refl t.view

  pub restarts_good : (w : Link V P W H) (held : Option (Holding V P W)) → Good f w
      → HeldFact f w.start w.now w.life w.ended w.next_number w.packets held → Good f (Link.restarts_of f w held)
  restarts_good w None g t = g
  restarts_good w (Some h) g t =
      record {
        first = g.first;
        life = more_life w.start w.now w.next_number w.life g.life;
        olds = more_old w.start w.next_number w.ended g.olds;
        numbers = more_numbers w.next_number w.packets (AllData w.next_number h.base ∷ []) g.numbers (omega arith, tt);
        tied = let a = t.number in let b = t.based in record {
          number = omega arith;
          based = omega arith;
          start = omega arith;
          facts = each_append (Fact f w.start w.life w.ended (Link.restarted f w.next_number h)) w.packets
              (AllData w.next_number h.base ∷ [])
              (each_map (λ (p : Packet P W). (number_of p < w.next_number) × Fact f w.start w.life w.ended h p)
              (Fact f w.start w.life w.ended (Link.restarted f w.next_number h)) one w.packets
              (each_both (λ (p : Packet P W). number_of p < w.next_number)
              (Fact f w.start w.life w.ended h) w.packets g.numbers t.facts))
              ((omega arith, λ same. refl), tt);
          shared = shared w.life g.life t.shared;
          once = λ b. absurd
              (has_one f (Old f w.start w.next_number) ⊥ w.next_number w.start w.ended
              (λ l en es o. let a = o.number in omega arith) g.olds b);
          seen = λ c. absurd (omega arith);
          buffer = tt;
          current = λ c. absurd (omega arith);
          view = refl;
        };
      }
    where
      one : (p : Packet P W) → (number_of p < w.next_number) × Fact f w.start w.life w.ended h p
          → Fact f w.start w.life w.ended (Link.restarted f w.next_number h) p
      one (Subscribe n x) c = c.1
      one (Terminate n) c = c.0
      one (AllData n b) c = let low = c.0 in (omega arith, λ same. absurd (omega arith))
      one (Supply m) c = tt
      one (Acknowledge m) c = let low = c.0 in λ same. absurd (omega arith)
      one (Notify m t) c = let low = c.0 in λ same. absurd (omega arith)
      one (Delivery m t more x) c = let low = c.0 in λ same. absurd (omega arith)

      shared : (e : Option (Life V P W)) → TableFact f w.start w.now w.next_number e → SharedLife f w.start h e
          → SharedLife f w.start (Link.restarted f w.next_number h) e
      shared None q s = tt
      shared (Some l) q s = let a = q.number in record {
        number = omega arith;
        wanted = λ same. absurd (omega arith);
        of_base = s.of_base;
        wanting = λ same. absurd
            (omega arith);
      }

  pub stops_good : (w : Link V P W H) (held : Option (Holding V P W)) → Good f w → Good f (Link.stops_of f w held)
  stops_good w None g = g
  stops_good w (Some h) g =
      record {
        first = g.first;
        life = more_life w.start w.now w.next_number w.life g.life;
        olds = more_old w.start w.next_number w.ended g.olds;
        numbers = more_numbers w.next_number w.packets (Terminate w.next_number ∷ []) g.numbers (omega arith, tt);
        tied = tt;
      }

  pub spend_good : (w : Link V P W H) → Good f w → Good f (Link.uses_number f w w.held [])
  spend_good w g =
      record {
        first = g.first;
        life = more_life w.start w.now w.next_number w.life g.life;
        olds = more_old w.start w.next_number w.ended g.olds;
        numbers = more_numbers w.next_number w.packets [] g.numbers tt;
        tied = held_map f w.start w.now w.start w.now w.life w.life w.ended w.ended w.next_number (suc w.next_number) w.packets (w.packets ++ []) w.held
            (λ h t. tied_sends f w.start w.now w.life w.ended (suc w.next_number) w.packets [] h tt (record {
              number = let a = t.number in omega arith;
              based = t.based;
              start = t.start;
              facts = t.facts;
              shared = t.shared;
              once = t.once;
              seen = t.seen;
              buffer = t.buffer;
              current = t.current;
              view = t.view;
            })) g.tied;
      }

  -- ---- the consumer takes
  -- the same link with this kept
  taken : (w : Link V P W H) (g : Good f w) (h : Holding V P W) (ps : List (Packet P W))
      → Each (λ p. number_of p < w.next_number) ps → Each (Fact f w.start w.life w.ended h) ps
      → Tied f w.start w.now w.life w.ended w.next_number w.packets h
      → Good f (sends f (Link.with_holding f w (Some h)) ps)
  taken w g h ps low facts t =
      record {
        first = g.first;
        life = g.life;
        olds = g.olds;
        numbers = each_append (λ p. number_of p < w.next_number) w.packets ps g.numbers low;
        tied = tied_sends f w.start w.now w.life w.ended w.next_number w.packets ps h facts t;
      }

  -- an acknowledgement or a supply request is sent, and nothing else changes
  replied : (w : Link V P W H) (g : Good f w) (ps : List (Packet P W)) → Each (λ p. number_of p < w.next_number) ps
      → ((h : Holding V P W) → w.held ≡ Some h → Each (Fact f w.start w.life w.ended h) ps) → Good f (sends f w ps)
  replied w g ps low facts =
      record {
        first = g.first;
        life = g.life;
        olds = g.olds;
        numbers = each_append (λ p. number_of p < w.next_number) w.packets ps g.numbers low;
        tied = by w.held refl g.tied;
      }
    where
      by : (held : Option (Holding V P W)) → w.held ≡ held
          → HeldFact f w.start w.now w.life w.ended w.next_number w.packets held
          → HeldFact f w.start w.now w.life w.ended w.next_number (w.packets ++ ps) held
      by None is t = tt
      by (Some h) is t = tied_sends f w.start w.now w.life w.ended w.next_number w.packets ps h (facts h is) t

  same_held : (w : Link V P W H) (h g : Holding V P W) → w.held ≡ Some h → w.held ≡ Some g → h ≡ g
  same_held w h g a b = cc

  supply_numbers : (next : ℕ) (b : Bool) (m : Mark) → 0 < next → Each (λ (p : Packet P W). number_of p < next) (Link.then_supply f b m)
  supply_numbers next true m low = (low, tt)
  supply_numbers next false m low = tt

  supply_facts : (k : ℕ) (e : Option (Life V P W)) (ended : List (Life V P W)) (h : Holding V P W) (b : Bool) (m : Mark)
      → Each (Fact f k e ended h) (Link.then_supply f b m)
  supply_facts k e ended h true m = (tt, tt)
  supply_facts k e ended h false m = tt

  -- a part at the wanted place of the start kept
  part_good : IsLawful f → (w : Link V P W H) (h : Holding V P W) (m : Mark) (more : Bool) (x : P) (b : Bool)
      → m.number < w.next_number → Good f w → Next f w.start w.life w.ended h m more x
      → Tied f w.start w.now w.life w.ended w.next_number w.packets h
      → Good f (sends f (Link.with_holding f w (Some (with_part f more h x))) (Acknowledge m ∷ Link.then_supply f b m))
  part_good laws w h m true x b low g n t =
      taken w g (with_buffered f h x) (Acknowledge m ∷ Link.then_supply f b m) (low, supply_numbers w.next_number b m (omega arith)) (
        (λ same. record {
          start = let s = n.start in omega arith;
          round = λ s. let r = n.round in omega arith;
          part = λ s r. let p = n.part in let len = length_push h.parts x in omega arith;
        }),
        supply_facts w.start w.life w.ended (with_buffered f h x) b m,
      )
      (Takes.tied_buffers f w.start w.now w.next_number w.life w.ended w.packets h m x g.life n t)
  part_good laws w h m false x b low g n t =
      taken w g (with_whole_round f h x) (Acknowledge m ∷ Link.then_supply f b m) (low, supply_numbers w.next_number b m (omega arith)) (
        (λ same. record {
          start = let s = n.start in omega arith;
          round = λ s. let r = n.round in omega arith;
          part = λ s r. let e = n.round in absurd (omega arith);
        }),
        supply_facts w.start w.life w.ended (with_whole_round f h x) b m,
      )
      (Takes.tied_whole f laws w.start w.now w.next_number w.life w.ended w.packets h m x g.life n t)

  -- the consumer turns to the start of the packet, where that is greater
  turn_good : IsLawful f → (w : Link V P W H) (k : ℕ) (h : Holding V P W) (m : Mark) (moment : ℕ) (more : Bool) (x : P)
      (b : Bool) → slice_get w.packets k ≡ Some (Delivery m moment more x) → Good f w → Here f h m
      → Tied f w.start w.now w.life w.ended w.next_number w.packets h
      → Good f (sends f (Link.with_holding f w (Some (with_part f more (with_start f h m.start) x)))
      (Acknowledge m ∷ Link.then_supply f b m))
  turn_good laws w k h m moment more x b at g q t = by (nat_lt h.start m.start) refl
    where
      low : m.number < w.next_number
      low = each_get (λ p. number_of p < w.next_number) w.packets k (Delivery m moment more x) g.numbers at

      d : Delivers f w.start w.life w.ended h m moment more x
      d = each_get (Fact f w.start w.life w.ended h) w.packets k (Delivery m moment more x) t.facts at q.number

      by : (c : Bool) → nat_lt h.start m.start ≡ c → Good f
          (sends f (Link.with_holding f w (Some (with_part f more (with_start_if f c h m.start) x)))
          (Acknowledge m ∷ Link.then_supply f b m))
      by true less =
          let a = ltb-true h.start m.start less in
          let p : (m.round ≡ 1) × (m.part ≡ 1) = ⊎_elim
          (λ (c : (h.start < m.start) × (m.round ≡ 1) × (m.part ≡ 1)). (c.1, c.2))
          (λ (c : (m.start ≡ h.start) × (m.round ≡ suc h.round) × (m.part ≡ suc (length h.parts))). absurd
          (omega arith)) q.which in
          let i : d.content.i ≡ 0 = let r = d.content.round in let e = p.0 in omega arith in
          let t' = Takes.tied_turns f w.start w.now w.next_number m.start w.life w.ended w.packets h a d.start
          d.content.r (subst (λ z. slice_get (rounds_of h.number m.start w.life w.ended) z ≡ Some d.content.r) i
          d.content.at) t in
          part_good laws w (with_start_if f true h m.start) m more x b low g
          (record {
            number = q.number;
            start = refl;
            round = p.0;
            part = p.1;
            moment = moment;
            delivers = each_get (Fact f w.start w.life w.ended (with_start_if f true h m.start)) w.packets k
                (Delivery m moment more x) t'.facts at q.number;
          })
          t'
      by false less =
          let a = ltb-false h.start m.start less in
          let p : (m.start ≡ h.start) × (m.round ≡ suc h.round) × (m.part ≡ suc (length h.parts)) =
          ⊎_elim (λ (c : (h.start < m.start) × (m.round ≡ 1) × (m.part ≡ 1)). absurd (omega arith))
          (λ (c : (m.start ≡ h.start) × (m.round ≡ suc h.round) × (m.part ≡ suc (length h.parts))). c) q.which in
          part_good laws w h m more x b low g (record { number = q.number; start = p.0; round = p.1; part = p.2; moment = moment; delivers = d }) t

  repeat_good : (w : Link V P W H) (k : ℕ) (h : Holding V P W) (m : Mark) (low : m.number < w.next_number) → Good f w
      → w.held ≡ Some h → Takes.Again f h m → Good f (sends f w (Acknowledge m ∷ []))
  repeat_good w k h m low g is a = replied w g (Acknowledge m ∷ []) (low, tt)
      (λ h' is'. ((λ same. subst (λ (z : Holding V P W). Before f z m) (same_held w h h' is is') a.before), tt))

  pub delivered_good : IsLawful f → (w : Link V P W H) (k : ℕ) (held : Option (Holding V P W)) (m : Mark) (moment : ℕ)
      (more : Bool) (x : P) → slice_get w.packets k ≡ Some (Delivery m moment more x) → w.held ≡ held → Good f w
      → HeldFact f w.start w.now w.life w.ended w.next_number w.packets held → Good f (Link.delivered f w held m more x)
  delivered_good laws w k None m moment more x at is g t = g
  delivered_good laws w k (Some h) m moment more x at is g t = by (outcome f h m) (means f h m)
    where
      by : (o : Outcome) → Means f h m o → Good f (Link.delivered_as f o w h m more x)
      by Wanted q = turn_good laws w k h m moment more x (more && f.fetched h.wanted) at g q t
      by Repeat q = repeat_good w k h m (each_get (λ p. number_of p < w.next_number) w.packets k (Delivery m moment more x) g.numbers at) g is q
      by UnknownSubscription q = g
      by OldStart q = g
      by Gap q = g
      by Overlong q = g

  pub notified_good : (w : Link V P W H) (k : ℕ) (held : Option (Holding V P W)) (m : Mark) (moment : ℕ)
      → slice_get w.packets k ≡ Some (Notify m moment) → w.held ≡ held → Good f w → Good f (Link.notified f w held m)
  notified_good w k None m moment at is g = g
  notified_good w k (Some h) m moment at is g = by (outcome f h m) (means f h m)
    where
      low : m.number < w.next_number
      low = each_get (λ p. number_of p < w.next_number) w.packets k (Notify m moment) g.numbers at

      by : (o : Outcome) → Means f h m o → Good f (Link.notified_as f o w m)
      by Wanted q = replied w g (Supply m ∷ []) (let a = low in omega arith, tt) (λ h' is'. (tt, tt))
      by Repeat q = repeat_good w k h m low g is q
      by UnknownSubscription q = g
      by OldStart q = g
      by Gap q = g
      by Overlong q = g

  -- ---- all events
  pub comes_good : IsLawful f → (w : Link V P W H) (k : ℕ) (full : Bool) (p : Option (Packet P W))
      → slice_get w.packets k ≡ p → Good f w → Good f (Link.comes_if f full w p)
  comes_good laws w k full None at g = g
  comes_good laws w k full (Some (Subscribe n x)) at g = settle_good laws (Link.accepts f full w n x) (accept_good laws w k n x full at g)
  comes_good laws w k full (Some (Terminate n)) at g = settle_good laws (Link.ends f w n) (end_good w k n at g)
  comes_good laws w k full (Some (AllData n b)) at g = settle_good laws (Link.renews f w n b w.life)
      (renew_good laws w k n b w.life refl at g)
  comes_good laws w k full (Some (Supply m)) at g = settle_good laws (Link.supplies f w m w.life) (supply_good w m w.life g g)
  comes_good laws w k full (Some (Acknowledge m)) at g = settle_good laws (Link.acknowledges f w m w.life) (acknowledgement_good w k m w.life at g g)
  comes_good laws w k full (Some (Notify m moment)) at g = notified_good w k w.held m moment at refl g
  comes_good laws w k full (Some (Delivery m moment more x)) at g = delivered_good laws w k w.held m moment more x at refl g g.tied

  pub fed_good : (w : Link V P W H) (es : List E) → Good f w → Good f (Link.fed f w es)
  fed_good w es g = record { first = g.first; life = g.life; olds = g.olds; numbers = g.numbers; tied = g.tied }

  pub happens_good : IsLawful f → (w : Link V P W H) (e : LinkEvent W E) → Good f w → Good f (happens f w e)
  happens_good laws w (Start t) g = anew_good w t g
  happens_good laws w (Clock t) g = settle_good laws (Link.expire f (Link.at_moment f w t)) (clock_good w t g)
  happens_good laws w (Feed es) g = settle_good laws (Link.fed f w es) (fed_good w es g)
  happens_good laws w (Ask x) g = asks_good w x g
  happens_good laws w Stop g = stops_good w w.held g
  happens_good laws w Restart g = restarts_good w w.held g g.tied
  happens_good laws w Spend g = spend_good w g
  happens_good laws w (Deliver k full) g = comes_good laws w k full (slice_get w.packets k) refl g

  pub run_good : IsLawful f → (es : List (LinkEvent W E)) (w : Link V P W H) → Good f w → Good f (link_after f es w)
  run_good laws [] w g = g
  run_good laws (e ∷ es) w g = run_good laws es (happens f w e) (happens_good laws w e g)

  pub begin_good : (t : ℕ) → Good f (first_link f t)
  begin_good t = record { first = omega arith; life = tt; olds = tt; numbers = tt; tied = tt }
