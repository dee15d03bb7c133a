-- What follows from the facts that each step keeps.
use Rattle.std.proofs.Common.{◌≡◌, ◌⊎◌, ◌≢◌, ℕ, zero, suc, ◌<◌, ◌≤◌, Bool, true, ◌&&◌, List, [], ◌∷◌, ◌++◌, length, Option, Some, None}
use Rattle.std.proofs.Common.{refl, sym, ap, ◌∙◌, subst, ⊎_elim, arith}
use Rattle.std.specs.Prelude.{slice_get, ◌==◌}
use Rattle.std.proofs.lemmas.Bool.{and_parts, not-true, eqb-false}
use Rattle.siri_life.specs.Meaning.{Meaning, IsLawful, most_parts}
use Rattle.siri_life.specs.Life.{greatest_round, Round, Outstanding, Life, Mark, Packet, Subscribe, Terminate, AllData}
use Rattle.siri_life.specs.Life.{Supply, Acknowledge, Notify}
use Rattle.siri_life.specs.Life.{Delivery, is_quiet, quiet_at}
use Rattle.siri_life.specs.Link
use Rattle.siri_life.specs.Link.{Link, Holding, LinkEvent, Deliver, GoalAt, Outcome, UnknownSubscription, OldStart, Gap, Repeat, Overlong}
use Rattle.siri_life.specs.Link.{Wanted, outcome, happens, link_after, first_link, outcome_of}
use Rattle.siri_life.specs.laws.Claims.{CarriesItsRound, ChangesNoView, HasMark, direct_now, MeetsWhereQuiet, ViewIsGoal}
use Rattle.siri_life.proofs.Lists.{each_get, get_within}
use Rattle.siri_life.proofs.Facts.{OutstandingFact, LifeFact, TableFact, NotPast, Before, Fact, Level, Wanting, Tied, HeldFact, Good}
use Rattle.siri_life.proofs.Moves.{rounds_here_of}
use Rattle.siri_life.proofs.Takes.{Means, means}
use Rattle.siri_life.proofs.Steps.{run_good, begin_good, happens_good}
use Rattle.siri_life.proofs.Grows.{happens_grows, run_grows}

module _ {V P W H E : Type 0} (f : Meaning V P W H E) where
  reached : IsLawful f → (t : ℕ) (es : List (LinkEvent W E)) → Good f (link_after f es (first_link f t))
  reached laws t es = run_good f laws es (first_link f t) (begin_good f t)

  -- ---- the view is the goal of the round that it comes from
  pub view_of : (w : Link V P W H) (held : Option (Holding V P W)) → HeldFact f w.start w.now w.life w.ended w.next_number w.packets held → ViewIsGoal f w held
  view_of w None t = tt
  view_of w (Some h) t = t.view

  pub views : IsLawful f → (t : ℕ) (es : List (LinkEvent W E)) → ViewIsGoal f (link_after f es (first_link f t)) (link_after f es (first_link f t)).held
  views laws t es = let w = link_after f es (first_link f t) in view_of w w.held (reached laws t es).tied

  -- ---- where the life is quiet, the view meets the direct response
  quiet_outstanding : (o : Option (Outstanding V P)) (l : Life V P W) (d : V) → quiet_at f o l d ≡ true
      → (o ≡ None) × (1 ≤ length l.rounds) × (f.meets l.acknowledged d l.wanted ≡ true)
  quiet_outstanding (Some o) l d q = absurd (cc)
  quiet_outstanding None l d q = let a = and_parts _ _ q in
      let b = eqb-false (length l.rounds) 0 (not-true (length l.rounds == 0) a.0) in (refl, omega (arith, b), a.1)

  goal_one : (rs : List (Round V P)) (n m : ℕ) (u v : V) → n ≡ m → GoalAt f rs n u → GoalAt f rs m v → u ≡ v
  goal_one rs zero zero u v e g h = g ∙ sym h
  goal_one rs zero (suc m) u v e g h = absurd (omega arith)
  goal_one rs (suc n) zero u v e g h = absurd (omega arith)
  goal_one rs (suc n) (suc m) u v e g h =
      let same : n ≡ m = omega arith in
      let at : slice_get rs m ≡ Some g.0 = subst (λ z. slice_get rs z ≡ Some g.0) same g.1 in
      let x : g.0 ≡ h.0 = cc in
      sym g.2 ∙ ap (λ (z : Round V P). z.target) x ∙ h.2

  quiet_meets : (w : Link V P W H) (h : Holding V P W) (l : Life V P W) → LifeFact f w.start w.now w.next_number l
      → 1 ≤ w.start → Tied f w.start w.now (Some l) w.ended w.next_number w.packets h → l.number ≡ h.number
      → is_quiet f l (direct_now f w l.wanted) ≡ true → (h.view ≡ l.acknowledged) × (l.wanted ≡ h.wanted)
      × (f.meets h.view (direct_now f w h.wanted) h.wanted ≡ true)
  quiet_meets w h l q first t same quiet =
      let a = quiet_outstanding l.outstanding l (direct_now f w l.wanted) quiet in
      let v : Level f w.start h (length l.rounds) = subst (Wanting f w.start h (length l.rounds)) a.0 (t.shared.wanting same) in
      let some = a.1 in
      let at : h.start ≡ w.start = latest h.start w.start t.start (λ c. let b = v.older c in omega arith) in
      let round = v.round at in
      let acknowledged : GoalAt f l.rounds (length l.rounds) l.acknowledged = subst (OutstandingFact f l) a.0 q.outstanding in
      let mine : GoalAt f l.rounds h.round h.view = subst (λ (rs : List (Round V P)). GoalAt f rs h.round h.view)
      (rounds_here_of f w.start w.now w.next_number l w.ended w.packets h q t same h.start at)
      (t.current (omega arith)) in
      let view : h.view ≡ l.acknowledged = goal_one l.rounds h.round (length l.rounds) h.view l.acknowledged round mine acknowledged in
      let wanted = t.shared.wanted same in
      (view, wanted, subst (λ (z : V × W). f.meets z.0 (direct_now f w z.1) z.1 ≡ true) (λ i. (sym view i, wanted i)) a.2)
    where
      latest : (a b : ℕ) → a ≤ b → (a < b → ⊥) → a ≡ b
      latest a b le never = ⊎_elim (λ (c : a < b). absurd (never c)) (λ (c : a ≡ b). c) (lt_or_eq a b le)
        where
          lt_or_eq : (a b : ℕ) → a ≤ b → (a < b) ⊎ (a ≡ b)
          lt_or_eq a b le = grind arith

  pub meets_of : (w : Link V P W H) (held : Option (Holding V P W)) (e : Option (Life V P W)) → 1 ≤ w.start
      → TableFact f w.start w.now w.next_number e → HeldFact f w.start w.now e w.ended w.next_number w.packets held
      → MeetsWhereQuiet f w held e
  meets_of w None e first q t = tt
  meets_of w (Some h) None first q t = tt
  meets_of w (Some h) (Some l) first q t = quiet_meets w h l q first t

  pub meets_where_quiet : IsLawful f → (t : ℕ) (es : List (LinkEvent W E))
      → MeetsWhereQuiet f (link_after f es (first_link f t)) (link_after f es (first_link f t)).held
      (link_after f es (first_link f t)).life
  meets_where_quiet laws t es = let w = link_after f es (first_link f t) in let g = reached laws t es in meets_of w w.held w.life g.first g.life g.tied

  -- ---- what the producer's packets carry
  carries_fact : (w : Link V P W H) (h : Holding V P W) (p : Packet P W) → Fact f w.start w.life w.ended h p → CarriesItsRound f w (Some h) p
  carries_fact w h (Subscribe n x) a = tt
  carries_fact w h (Terminate n) a = tt
  carries_fact w h (AllData n b) a = tt
  carries_fact w h (Supply m) a = tt
  carries_fact w h (Acknowledge m) a = tt
  carries_fact w h (Notify m moment) a = λ same. let c = (a same).tells in
      record { place = c.i; round = c.r; is_named = c.round; is_there = c.at; moment_is = c.moment_is }
  carries_fact w h (Delivery m moment more x) a = λ same.
      let c = (a same).content in
      record {
        named = record { place = c.i; round = c.r; is_named = c.round; is_there = c.at; moment_is = c.moment_is };
        place = c.j;
        is_named = c.part;
        is_there = c.here;
        more_is = c.more_is;
      }

  pub carries_of : (w : Link V P W H) (held : Option (Holding V P W)) (k : ℕ) (p : Packet P W)
      → HeldFact f w.start w.now w.life w.ended w.next_number w.packets held → slice_get w.packets k ≡ Some p
      → CarriesItsRound f w held p
  carries_of w None k p t at = tt
  carries_of w (Some h) k p t at = carries_fact w h p (each_get (Fact f w.start w.life w.ended h) w.packets k p t.facts at)

  pub carries_its_round : IsLawful f → (t : ℕ) (es : List (LinkEvent W E)) (k : ℕ) (p : Packet P W)
      → slice_get (link_after f es (first_link f t)).packets k ≡ Some p
      → CarriesItsRound f (link_after f es (first_link f t)) (link_after f es (first_link f t)).held p
  carries_its_round laws t es k p at = let w = link_after f es (first_link f t) in carries_of w w.held k p (reached laws t es).tied at

  -- ---- no gap

  no_gap_mark : (h : Holding V P W) (m : Mark)
      → (m.number ≡ h.number → (NotPast f h m) × (m.round ≤ greatest_round) × (m.part ≤ most_parts)) → (o : Outcome)
      → Means f h m o → (o ≢ Gap) × (o ≢ Overlong)
  no_gap_mark h m g Gap q = absurd (q.1 (g q.0).0)
  no_gap_mark h m g Overlong q = let a = g q.0 in let b = a.1 in let c = a.2 in
      absurd (⊎_elim (λ (z : m.part ≡ 401). past m.part most_parts z c)
      (λ (z : m.round ≡ suc greatest_round). past m.round greatest_round z b) q.1)
    where
      past : (a b : ℕ) → a ≡ suc b → a ≤ b → ⊥
      past a b e l = omega arith
  no_gap_mark h m g UnknownSubscription q = ((λ e. cc), (λ e. cc))
  no_gap_mark h m g OldStart q = ((λ e. cc), (λ e. cc))
  no_gap_mark h m g Repeat q = ((λ e. cc), (λ e. cc))
  no_gap_mark h m g Wanted q = ((λ e. cc), (λ e. cc))

  sent_fact : (k : ℕ) (e : Option (Life V P W)) (ended : List (Life V P W)) (h : Holding V P W) (p : Packet P W)
      (m : Mark) → HasMark p m → Fact f k e ended h p → m.number ≡ h.number
      → (NotPast f h m) × (m.round ≤ greatest_round) × (m.part ≤ most_parts)
  sent_fact k e ended h (Subscribe n x) m is a = absurd is
  sent_fact k e ended h (Terminate n) m is a = absurd is
  sent_fact k e ended h (AllData n b) m is a = absurd is
  sent_fact k e ended h (Supply n) m is a = absurd is
  sent_fact k e ended h (Acknowledge n) m is a = absurd is
  sent_fact k e ended h (Notify n t) m is a = λ same. let s = a (ap (λ (z : Mark). z.number) is ∙ same) in
      subst (λ (z : Mark). (NotPast f h z) × (z.round ≤ greatest_round) × (z.part ≤ most_parts)) is (s.not_past, s.low, s.few)
  sent_fact k e ended h (Delivery n t more x) m is a = λ same.
      let d = a (ap (λ (z : Mark). z.number) is ∙ same) in
      let c = d.content in
      let j = get_within c.r.parts c.j x c.here in
      let p = c.part in let few = c.few in
      subst (λ (z : Mark). (NotPast f h z) × (z.round ≤ greatest_round) × (z.part ≤ most_parts)) is (d.not_past, c.low, omega arith)

  pub no_gap_of : (w : Link V P W H) (held : Option (Holding V P W)) (k : ℕ) (p : Packet P W) (m : Mark)
      → HeldFact f w.start w.now w.life w.ended w.next_number w.packets held → slice_get w.packets k ≡ Some p
      → HasMark p m → (outcome_of f held m ≢ Gap) × (outcome_of f held m ≢ Overlong)
  no_gap_of w None k p m t at is = ((λ e. cc), (λ e. cc))
  no_gap_of w (Some h) k p m t at is = no_gap_mark h m
      (sent_fact w.start w.life w.ended h p m is (each_get (Fact f w.start w.life w.ended h) w.packets k p t.facts at))
      (outcome f h m) (means f h m)

  pub no_gap : IsLawful f → (t : ℕ) (es : List (LinkEvent W E)) (k : ℕ) (p : Packet P W) (m : Mark)
      → slice_get (link_after f es (first_link f t)).packets k ≡ Some p → HasMark p m
      → (outcome_of f (link_after f es (first_link f t)).held m ≢ Gap)
      × (outcome_of f (link_after f es (first_link f t)).held m ≢ Overlong)
  no_gap laws t es k p m at is = let w = link_after f es (first_link f t) in no_gap_of w w.held k p m (reached laws t es).tied at is

  -- ---- what was taken once
  pub acknowledgement_sent : (w : Link V P W H) (h : Holding V P W) (m : Mark) (more : Bool) (x : P) (o : Outcome)
      → o ≡ Wanted → (i : ℕ) × (slice_get (Link.delivered_as f o w h m more x).packets i ≡ Some (Acknowledge m))
  acknowledgement_sent w h m more x Wanted e = (length w.packets, mid w.packets (Link.then_supply f (more && f.fetched h.wanted) m))
    where
      mid : (ps qs : List (Packet P W)) → slice_get (ps ++ Acknowledge m ∷ qs) (length ps) ≡ Some (Acknowledge m)
      mid [] qs = refl
      mid (p ∷ ps) qs = mid ps qs
  acknowledgement_sent w h m more x UnknownSubscription e = absurd (cc)
  acknowledgement_sent w h m more x OldStart e = absurd (cc)
  acknowledgement_sent w h m more x Gap e = absurd (cc)
  acknowledgement_sent w h m more x Repeat e = absurd (cc)
  acknowledgement_sent w h m more x Overlong e = absurd (cc)

  pub acknowledgement_of : (w : Link V P W H) (held : Option (Holding V P W)) (m : Mark) (more : Bool) (x : P)
      → outcome_of f held m ≡ Wanted → (i : ℕ)
      × (slice_get (Link.delivered f w held m more x).packets i ≡ Some (Acknowledge m))
  acknowledgement_of w None m more x e = absurd (cc)
  acknowledgement_of w (Some h) m more x e = acknowledgement_sent w h m more x (outcome f h m) e

  over_mark : (h : Holding V P W) (m : Mark) → (m.number ≡ h.number → Before f h m) → (o : Outcome) → Means f h m o
      → (o ≢ Gap) × (o ≢ Overlong) → ChangesNoView o
  over_mark h m g UnknownSubscription q gaps = tt
  over_mark h m g OldStart q gaps = tt
  over_mark h m g Repeat q gaps = tt
  over_mark h m g Gap q gaps = gaps.0 refl
  over_mark h m g Overlong q gaps = gaps.1 refl
  over_mark h m g Wanted q gaps =
      let b = g q.number in
      ⊎_elim
      (λ (c : (h.start < m.start) × (m.round ≡ 1) × (m.part ≡ 1)). let s = b.start in let d = c.0 in ⊥_of (omega arith))
      (λ (c : (m.start ≡ h.start) × (m.round ≡ suc h.round) × (m.part ≡ suc (length h.parts))). let p = b.part c.0 c.1 in let d = c.2 in ⊥_of (omega arith))
      q.which
    where
      ⊥_of : ⊥ → ⊥
      ⊥_of e = e

  pub over_of : (w : Link V P W H) (held : Option (Holding V P W)) (i k : ℕ) (m : Mark) (moment : ℕ) (more : Bool)
      (x : P) → HeldFact f w.start w.now w.life w.ended w.next_number w.packets held
      → slice_get w.packets i ≡ Some (Acknowledge m) → slice_get w.packets k ≡ Some (Delivery m moment more x)
      → ChangesNoView (outcome_of f held m)
  over_of w None i k m moment more x t acknowledgement at = tt
  over_of w (Some h) i k m moment more x t acknowledgement at =
      over_mark h m (each_get (Fact f w.start w.life w.ended h) w.packets i (Acknowledge m) t.facts acknowledgement) (outcome f h m) (means f h m)
      (no_gap_of w (Some h) k (Delivery m moment more x) m t at refl)

  pub taken_once : IsLawful f → (t : ℕ) (before after : List (LinkEvent W E)) (k : ℕ) (full : Bool) (m : Mark) (moment : ℕ) (more : Bool) (x : P)
      → slice_get (link_after f before (first_link f t)).packets k ≡ Some (Delivery m moment more x)
      → outcome_of f (link_after f before (first_link f t)).held m ≡ Wanted
      → ChangesNoView (outcome_of f (link_after f after (happens f (link_after f before (first_link f t)) (Deliver k full))).held m)
  taken_once laws t before after k full m moment more x at wanted =
      let w = link_after f before (first_link f t) in
      let v = happens f w (Deliver k full) in
      let u = link_after f after v in
      let g : Good f u = run_good f laws after v (happens_good f laws w (Deliver k full) (reached laws t before)) in
      let a = acknowledgement_of w w.held m more x wanted in
      let b : slice_get v.packets a.0 ≡ Some (Acknowledge m) =
      subst (λ (q : Option (Packet P W)). slice_get (Link.comes_if f full w q).packets a.0 ≡ Some (Acknowledge m))
      (sym at) a.1 in
      let c = run_grows f after v a.0 (Acknowledge m) b in
      let d = run_grows f after v k (Delivery m moment more x) (happens_grows f w (Deliver k full) k (Delivery m moment more x) at) in
      over_of u u.held a.0 k m moment more x g.tied c d
