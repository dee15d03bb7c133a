-- Each event of a network keeps what holds of each subscription.
use Rattle.std.proofs.Common.{◌≡◌, ℕ, ◌≤◌, Bool, true, false, cond, List, [], ◌∷◌, length, Option, Some, None, refl, sym, ap, subst, arith}
use Rattle.std.specs.Prelude.{slice_get, nat_le}
use Rattle.siri_life.specs.Meaning.{Meaning, IsLawful}
use Rattle.siri_life.specs.Life.{can_accept, is_before, Packet, Subscribe, Terminate, AllData, Supply, Acknowledge}
use Rattle.siri_life.specs.Life.{Notify, Delivery}
use Rattle.siri_life.specs.Link
use Rattle.siri_life.specs.Link.{Link, Holding, asked, restarted, settle}
use Rattle.siri_life.specs.Network
use Rattle.siri_life.specs.Named.{Of, same_subscription, Name, same_name, those, find, with_under, next_of}
use Rattle.siri_life.specs.Serving
use Rattle.siri_life.specs.Serving.{most_subscriptions, About, Carries, ToProducer, ToConsumer, letters_for}
use Rattle.siri_life.specs.Network.{Network, Happening, Starts, Clocks, Feeds, Asks, Stops, Restarts, Requests}
use Rattle.siri_life.specs.Network.{Delivers, settles, seen_by}
use Rattle.siri_life.specs.Network.{packets_of, takes, takes_letter, step, network_after, opening}
use Rattle.siri_life.proofs.Names.{name_is, same_parts, same_refl, those_get, packets_get}
use Rattle.siri_life.proofs.Facts.{HeldFact, Good}
use Rattle.siri_life.proofs.Steps.{settle_good, accept_good, renew_good, restarts_good, end_good, supply_good}
use Rattle.siri_life.proofs.Steps.{acknowledgement_good, delivered_good}
use Rattle.siri_life.proofs.Steps.{notified_good, clock_good, anew_good, fed_good, asks_good, stops_good, spend_good, begin_good}
use Rattle.siri_life.proofs.Sees

module _ {V P W H E : Type 0} (f : Meaning V P W H E) (c s : Name) where
  pub record Fit (n : Network V P W H) : Type 0 where
    pub one : length (those c s n.serving.table) ≤ 1
    pub good : Good f (seen_by f c s n)

  -- from the link that the subscription sees
  fit : (n : Network V P W H) (w : Link V P W H) → length (those c s n.serving.table) ≤ 1 → seen_by f c s n ≡ w → Good f w → Fit n
  fit n w one is g = record { one = one; good = subst (λ (z : Link V P W H). Good f z) (sym is) g }

  fit_settles : IsLawful f → (n : Network V P W H) → Fit n → Fit (settles f n)
  fit_settles laws n g = fit (settles f n) (settle f (seen_by f c s n)) (Sees.settles_one f c s n g.one)
      (Sees.settles_sees f c s n g.one) (settle_good f laws (seen_by f c s n) g.good)

  -- a message about no subscription is sent
  fit_tells : (n : Network V P W H) (d : Name) (a : About P W) → packets_of f (a ∷ []) ≡ [] → Fit n → Fit (Network.tells f n d a)
  fit_tells n d a none g = fit (Network.tells f n d a) (seen_by f c s n) g.one (Sees.tells_sees f c s n d a none) g.good

  -- ---- a letter comes
  takes_mine : IsLawful f → (n : Network V P W H) (j : ℕ) (p : Packet P W)
      → slice_get (packets_of f (those c s n.letters)) j ≡ Some p → Fit n → Fit (takes f n c s (Carries p))
  takes_mine laws n j (Subscribe number x) at g =
      let w = seen_by f c s n in
      let full = nat_le most_subscriptions (length n.serving.table) in
      let b = can_accept f full n.serving.now number x (find c s n.serving.table) in
      let m = Network.accepted_if f b n c s number x in
      fit_settles laws (Network.tells f m c ToConsumer) (fit_tells m c ToConsumer refl
      (fit m (Link.accepts f full w number x) (Sees.accepts_one f c s n b number x g.one)
      (Sees.accepts_sees f c s n b number x) (accept_good f laws w j number x full at g.good)))
  takes_mine laws n j (Terminate number) at g =
      let w = seen_by f c s n in
      let b = is_before f (find c s n.serving.table) number in
      let m = Network.ended_if f b n c s in
      fit_settles laws (Network.tells f m c ToConsumer) (fit_tells m c ToConsumer refl
      (fit m (Link.ends f w number) (Sees.ends_one f c s n b g.one) (Sees.ends_sees f c s n b) (end_good f w j number at g.good)))
  takes_mine laws n j (AllData number base) at g =
      let w = seen_by f c s n in
      let e = find c s n.serving.table in
      let m = Network.renewed f n c s number base e in
      fit_settles laws (Network.tells f m c ToConsumer) (fit_tells m c ToConsumer refl
      (fit m (Link.renews f w number base e) (Sees.renews_one f c s n number base e g.one)
      (Sees.renews_sees f c s n number base e) (renew_good f laws w j number base e refl at g.good)))
  takes_mine laws n j (Supply m) at g =
      let w = seen_by f c s n in
      let e = find c s n.serving.table in
      fit_settles laws (Network.supplied f n c s m e)
      (fit (Network.supplied f n c s m e) (Link.supplies f w m e) (Sees.supplies_one f c s n m e g.one)
      (Sees.supplies_sees f c s n m e refl) (supply_good f w m e g.good g.good))
  takes_mine laws n j (Acknowledge m) at g =
      let w = seen_by f c s n in
      let e = find c s n.serving.table in
      fit_settles laws (Network.takes_acknowledgement f n c s m e)
      (fit (Network.takes_acknowledgement f n c s m e) (Link.acknowledges f w m e)
      (Sees.acknowledges_one f c s n m e g.one) (Sees.acknowledges_sees f c s n m e refl)
      (acknowledgement_good f w j m e at g.good g.good))
  takes_mine laws n j (Notify m moment) at g =
      let w = seen_by f c s n in
      let h = n.holdings c s in
      fit (Network.notified f n c s m h) (Link.notified f w h m) (Sees.notified_one f c s n m h g.one)
      (Sees.notified_sees f c s n m h refl) (notified_good f w j h m moment at refl g.good)
  takes_mine laws n j (Delivery m moment more x) at g =
      let w = seen_by f c s n in
      let h = n.holdings c s in
      fit (Network.delivered f n c s m more x h) (Link.delivered f w h m more x)
      (Sees.delivered_one f c s n m more x h g.one) (Sees.delivered_sees f c s n m more x h refl)
      (delivered_good f laws w j h m moment more x at refl g.good g.good.tied)

  takes_other : IsLawful f → (d t : Name) → same_subscription c s d t ≡ false → (n : Network V P W H) (p : About P W) → Fit n → Fit (takes f n d t p)
  takes_other laws d t apart n (ToProducer true) g = fit_settles laws (Network.tells f n d ToConsumer) (fit_tells n d ToConsumer refl g)
  takes_other laws d t apart n (ToProducer false) g = fit_settles laws n g
  takes_other laws d t apart n ToConsumer g = g
  takes_other laws d t apart n (Carries (Subscribe number x)) g =
      let b = Serving.accepts f n.serving d t number x in
      let m = Network.accepted_if f b n d t number x in
      fit_settles laws (Network.tells f m d ToConsumer)
      (fit_tells m d ToConsumer refl (fit m (seen_by f c s n)
      (Sees.accepts_other_one f c s d t apart n b number x g.one)
      (Sees.accepts_other f c s d t apart n b number x) g.good))
  takes_other laws d t apart n (Carries (Terminate number)) g =
      let b = is_before f (find d t n.serving.table) number in
      let m = Network.ended_if f b n d t in
      fit_settles laws (Network.tells f m d ToConsumer)
      (fit_tells m d ToConsumer refl (fit m (seen_by f c s n) (Sees.ends_other_one f c s d t apart n b g.one)
      (Sees.ends_other f c s d t apart n b) g.good))
  takes_other laws d t apart n (Carries (AllData number base)) g =
      let e = find d t n.serving.table in
      let m = Network.renewed f n d t number base e in
      fit_settles laws (Network.tells f m d ToConsumer)
      (fit_tells m d ToConsumer refl
      (fit m (seen_by f c s n) (Sees.renews_other_one f c s d t apart n number base e g.one)
      (Sees.renews_other f c s d t apart n number base e) g.good))
  takes_other laws d t apart n (Carries (Supply m)) g =
      let e = find d t n.serving.table in
      fit_settles laws (Network.supplied f n d t m e)
      (fit (Network.supplied f n d t m e) (seen_by f c s n) (Sees.supplies_other_one f c s d t apart n m e g.one)
      (Sees.supplies_other f c s d t apart n m e) g.good)
  takes_other laws d t apart n (Carries (Acknowledge m)) g =
      let e = find d t n.serving.table in
      fit_settles laws (Network.takes_acknowledgement f n d t m e)
      (fit (Network.takes_acknowledgement f n d t m e) (seen_by f c s n)
      (Sees.acknowledges_other_one f c s d t apart n m e g.one)
      (Sees.acknowledges_other f c s d t apart n m e) g.good)
  takes_other laws d t apart n (Carries (Notify m moment)) g =
      let h = n.holdings d t in
      fit (Network.notified f n d t m h) (seen_by f c s n) (Sees.notified_other_one f c s d t apart n m h g.one)
      (Sees.notified_other f c s d t apart n m h) g.good
  takes_other laws d t apart n (Carries (Delivery m moment more x)) g =
      let h = n.holdings d t in
      fit (Network.delivered f n d t m more x h) (seen_by f c s n)
      (Sees.delivered_other_one f c s d t apart n m more x h g.one)
      (Sees.delivered_other f c s d t apart n m more x h) g.good

  letter_fit : IsLawful f → (n : Network V P W H) (k : ℕ) (y : Option (Of (About P W))) → slice_get n.letters k ≡ y → Fit n → Fit (takes_letter f n y)
  letter_fit laws n k None at g = g
  letter_fit laws n k (Some y) at g = by (same_subscription c s y.subscriber y.identifier) refl
    where
      mine : (q : About P W) (j : ℕ) → slice_get (those c s n.letters) j ≡ Some q → Fit (takes f n c s q)
      mine (ToProducer true) j e = fit_settles laws (Network.tells f n c ToConsumer) (fit_tells n c ToConsumer refl g)
      mine (ToProducer false) j e = fit_settles laws n g
      mine ToConsumer j e = g
      mine (Carries p) j e = let i = packets_get f (those c s n.letters) j p e in takes_mine laws n i.0 p i.1 g

      by : (b : Bool) → same_subscription c s y.subscriber y.identifier ≡ b → Fit (takes f n y.subscriber y.identifier y.it)
      by true q =
          let a = same_parts c s y.subscriber y.identifier q in
          let j = those_get c s n.letters k y at q in
          subst (λ (z : Name × Name). Fit (takes f n z.0 z.1 y.it)) (λ i. (a.0 i, a.1 i)) (mine y.it j.0 j.1)
      by false q = takes_other laws y.subscriber y.identifier q n y.it g

  -- ---- the consumers
  asks_fit : IsLawful f → (n : Network V P W H) (d t : Name) (x : W) → Fit n → Fit (step f n (Asks d t x))
  asks_fit laws n d t x g = by (same_subscription c s d t) refl
    where
      w : Link V P W H
      w = seen_by f c s n

      mine : Fit (step f n (Asks c s x))
      mine =
          let h = asked f (next_of (n.numbers c)) x (n.holdings c s) in
          fit (step f n (Asks c s x)) (Link.asks f (seen_by f c s n) x) g.one
          (Sees.uses_sees f c s n (with_under c s (Some h) n.holdings)
          (letters_for f c s (Subscribe (next_of (n.numbers c)) x ∷ [])) (Some h)
          (Subscribe (next_of (n.numbers c)) x ∷ []) (ap (λ b. cond b (Some h) (n.holdings c s)) (same_refl c s))
          (Sees.letters_mine f c s (Subscribe (next_of (n.numbers c)) x ∷ [])))
          (asks_good f (seen_by f c s n) x g.good)

      next : (b : Bool) (d : Name) → same_name c d ≡ b → same_subscription c s d t ≡ false → Fit (step f n (Asks d t x))
      next true d q apart =
          let a = name_is c d q in
          subst (λ z. Fit (step f n (Asks z t x))) a
          (let apart' : same_subscription c s c t ≡ false = subst (λ z. same_subscription c s z t ≡ false) (sym a) apart in
          let h = asked f (next_of (n.numbers c)) x (n.holdings c t) in
          fit (step f n (Asks c t x)) (Link.uses_number f (seen_by f c s n) (n.holdings c s) []) g.one
          (Sees.uses_sees f c s n (with_under c t (Some h) n.holdings)
          (letters_for f c t (Subscribe (next_of (n.numbers c)) x ∷ [])) (n.holdings c s) []
          (ap (λ b. cond b (Some h) (n.holdings c s)) apart')
          (Sees.letters_other f c s c t apart' (Subscribe (next_of (n.numbers c)) x ∷ [])))
          (spend_good f (seen_by f c s n) g.good))
      next false d q apart =
          let h = asked f (next_of (n.numbers d)) x (n.holdings d t) in
          fit (step f n (Asks d t x)) (seen_by f c s n) g.one
          (Sees.uses_other f c s n d (with_under d t (Some h) n.holdings)
          (letters_for f d t (Subscribe (next_of (n.numbers d)) x ∷ [])) q
          (ap (λ b. cond b (Some h) (n.holdings c s)) apart)
          (Sees.letters_other f c s d t apart (Subscribe (next_of (n.numbers d)) x ∷ [])))
          g.good

      by : (b : Bool) → same_subscription c s d t ≡ b → Fit (step f n (Asks d t x))
      by true q = let a = same_parts c s d t q in subst (λ (z : Name × Name). Fit (step f n (Asks z.0 z.1 x))) (λ i. (a.0 i, a.1 i)) mine
      by false q = next (same_name c d) d refl q

  stops_fit : IsLawful f → (n : Network V P W H) (d t : Name) → Fit n → Fit (step f n (Stops d t))
  stops_fit laws n d t g = by (same_subscription c s d t) refl
    where
      mine : (held : Option (Holding V P W)) → n.holdings c s ≡ held → Fit (Network.stopped f n c s held)
      mine None is = g
      mine (Some h) is =
          let ps : List (Packet P W) = Terminate (next_of (n.numbers c)) ∷ [] in
          fit (Network.stopped f n c s (Some h)) (Link.stops_of f (seen_by f c s n) (Some h)) g.one
          (Sees.uses_sees f c s n (with_under c s None n.holdings) (letters_for f c s ps) None ps
          (ap (λ b. cond b None (n.holdings c s)) (same_refl c s)) (Sees.letters_mine f c s ps))
          (stops_good f (seen_by f c s n) (Some h) g.good)

      other : (b : Bool) (d : Name) (held : Option (Holding V P W)) → same_name c d ≡ b → same_subscription c s d t ≡ false → Fit (Network.stopped f n d t held)
      other b d None q apart = g
      other true d (Some h) q apart =
          let a = name_is c d q in
          subst (λ z. Fit (Network.stopped f n z t (Some h))) a
          (let apart' : same_subscription c s c t ≡ false = subst (λ z. same_subscription c s z t ≡ false) (sym a) apart in
          let ps : List (Packet P W) = Terminate (next_of (n.numbers c)) ∷ [] in
          fit (Network.stopped f n c t (Some h)) (Link.uses_number f (seen_by f c s n) (n.holdings c s) []) g.one
          (Sees.uses_sees f c s n (with_under c t None n.holdings) (letters_for f c t ps) (n.holdings c s) []
          (ap (λ b. cond b None (n.holdings c s)) apart') (Sees.letters_other f c s c t apart' ps))
          (spend_good f (seen_by f c s n) g.good))
      other false d (Some h) q apart =
          let ps : List (Packet P W) = Terminate (next_of (n.numbers d)) ∷ [] in
          fit (Network.stopped f n d t (Some h)) (seen_by f c s n) g.one
          (Sees.uses_other f c s n d (with_under d t None n.holdings) (letters_for f d t ps) q
          (ap (λ b. cond b None (n.holdings c s)) apart) (Sees.letters_other f c s d t apart ps))
          g.good

      by : (b : Bool) → same_subscription c s d t ≡ b → Fit (Network.stopped f n d t (n.holdings d t))
      by true q = let a = same_parts c s d t q in subst
          (λ (z : Name × Name). Fit (Network.stopped f n z.0 z.1 (n.holdings z.0 z.1))) (λ i. (a.0 i, a.1 i))
          (mine (n.holdings c s) refl)
      by false q = other (same_name c d) d (n.holdings d t) refl q

  restarts_fit : IsLawful f → (n : Network V P W H) (d t : Name) → Fit n → Fit (step f n (Restarts d t))
  restarts_fit laws n d t g = by (same_subscription c s d t) refl
    where
      mine : (held : Option (Holding V P W)) → n.holdings c s ≡ held → Fit (Network.restarted_one f n c s held)
      mine None is = g
      mine (Some h) is =
          let h' = restarted f (next_of (n.numbers c)) h in
          let ps : List (Packet P W) = AllData (next_of (n.numbers c)) h.base ∷ [] in
          fit (Network.restarted_one f n c s (Some h)) (Link.restarts_of f (seen_by f c s n) (Some h)) g.one
          (Sees.uses_sees f c s n (with_under c s (Some h') n.holdings) (letters_for f c s ps) (Some h') ps
          (ap (λ b. cond b (Some h') (n.holdings c s)) (same_refl c s)) (Sees.letters_mine f c s ps))
          (restarts_good f (seen_by f c s n) (Some h) g.good
          (subst (λ held. HeldFact f n.serving.start n.serving.now (find c s n.serving.table)
          (those c s n.serving.ended) (next_of (n.numbers c)) (packets_of f (those c s n.letters)) held) is
          g.good.tied))

      other : (b : Bool) (d : Name) (held : Option (Holding V P W)) → same_name c d ≡ b
          → same_subscription c s d t ≡ false → Fit (Network.restarted_one f n d t held)
      other b d None q apart = g
      other true d (Some h) q apart =
          let a = name_is c d q in
          subst (λ z. Fit (Network.restarted_one f n z t (Some h))) a
          (let apart' : same_subscription c s c t ≡ false = subst (λ z. same_subscription c s z t ≡ false) (sym a) apart in
          let h' = restarted f (next_of (n.numbers c)) h in
          let ps : List (Packet P W) = AllData (next_of (n.numbers c)) h.base ∷ [] in
          fit (Network.restarted_one f n c t (Some h)) (Link.uses_number f (seen_by f c s n) (n.holdings c s) []) g.one
          (Sees.uses_sees f c s n (with_under c t (Some h') n.holdings) (letters_for f c t ps) (n.holdings c s) []
          (ap (λ b. cond b (Some h') (n.holdings c s)) apart') (Sees.letters_other f c s c t apart' ps))
          (spend_good f (seen_by f c s n) g.good))
      other false d (Some h) q apart =
          let h' = restarted f (next_of (n.numbers d)) h in
          let ps : List (Packet P W) = AllData (next_of (n.numbers d)) h.base ∷ [] in
          fit (Network.restarted_one f n d t (Some h)) (seen_by f c s n) g.one
          (Sees.uses_other f c s n d (with_under d t (Some h') n.holdings) (letters_for f d t ps) q
          (ap (λ b. cond b (Some h') (n.holdings c s)) apart) (Sees.letters_other f c s d t apart ps))
          g.good

      by : (b : Bool) → same_subscription c s d t ≡ b → Fit (Network.restarted_one f n d t (n.holdings d t))
      by true q = let a = same_parts c s d t q in subst
          (λ (z : Name × Name). Fit (Network.restarted_one f n z.0 z.1 (n.holdings z.0 z.1))) (λ i. (a.0 i, a.1 i))
          (mine (n.holdings c s) refl)
      by false q = other (same_name c d) d (n.holdings d t) refl q

  requests_fit : (n : Network V P W H) (d : Name) → Fit n → Fit (step f n (Requests d))
  requests_fit n d g = fit_tells n d (ToProducer true) refl g

  -- ---- the network
  pub step_fit : IsLawful f → (n : Network V P W H) (e : Happening W E) → Fit n → Fit (step f n e)
  step_fit laws n (Starts t) g = fit (Network.starts f n t) (Link.anew f (seen_by f c s n) t) (omega arith)
      (Sees.starts_sees f c s n t g.one) (anew_good f (seen_by f c s n) t g.good)
  step_fit laws n (Clocks t) g =
      let m = Network.at_moment f n t in
      fit_settles laws (Network.expires f m) (fit (Network.expires f m)
      (Link.expire f (Link.at_moment f (seen_by f c s n) t)) (Sees.expires_one f c s m g.one)
      (Sees.expires_sees f c s m g.one) (clock_good f (seen_by f c s n) t g.good))
  step_fit laws n (Feeds es) g = fit_settles laws (Network.feeds f n es)
      (fit (Network.feeds f n es) (Link.fed f (seen_by f c s n) es) g.one refl (fed_good f (seen_by f c s n) es g.good))
  step_fit laws n (Asks d t x) g = asks_fit laws n d t x g
  step_fit laws n (Stops d t) g = stops_fit laws n d t g
  step_fit laws n (Restarts d t) g = restarts_fit laws n d t g
  step_fit laws n (Requests d) g = requests_fit n d g
  step_fit laws n (Delivers k) g = letter_fit laws n k (slice_get n.letters k) refl g

  pub network_fit : IsLawful f → (es : List (Happening W E)) (n : Network V P W H) → Fit n → Fit (network_after f es n)
  network_fit laws [] n g = g
  network_fit laws (e ∷ es) n g = network_fit laws es (step f n e) (step_fit laws n e g)

  pub opening_fit : (t : ℕ) → Fit (opening f 1 t)
  opening_fit t = record { one = omega arith; good = begin_good f t }
