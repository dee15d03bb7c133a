-- The claims, for every subscription of a network.
use Rattle.std.proofs.Common.{◌≡◌, ◌≢◌, ℕ, Bool, ◌&&◌, List, [], ◌∷◌, ◌++◌, length, Option, Some, None, refl, sym, ap, ◌∙◌, subst}
use Rattle.std.specs.Prelude.{slice_get}
use Rattle.siri_life.specs.Meaning.{Meaning, IsLawful}
use Rattle.siri_life.specs.Life.{Mark, Packet, Acknowledge, Delivery}
use Rattle.siri_life.specs.Link.{Holding, Outcome, UnknownSubscription, OldStart, Gap, Repeat, Overlong, Wanted, outcome, outcome_of, replies_as, then_supply}
use Rattle.siri_life.specs.Network
use Rattle.siri_life.specs.Named.{Of, Name, those, find}
use Rattle.siri_life.specs.Serving.{About, Carries, letters_for}
use Rattle.siri_life.specs.Network.{Network, Happening, Delivers, seen_by, packets_of, takes_letter, step, network_after, opening}
use Rattle.siri_life.specs.laws.Claims.{CarriesItsRound, ChangesNoView, HasMark, ViewIsGoal, MeetsWhereQuiet}
use Rattle.siri_life.proofs.Names.{same_refl, those_get, packets_get}
use Rattle.siri_life.proofs.Facts.{Good}
use Rattle.siri_life.proofs.Claims.{view_of, meets_of, no_gap_of, over_of, carries_of}
use Rattle.siri_life.proofs.Fits.{network_fit, opening_fit, step_fit}
use Rattle.siri_life.proofs.Longer.{after_longer, step_longer}

module _ {V P W H E : Type 0} (f : Meaning V P W H E) where
  every : IsLawful f → (t : ℕ) (es : List (Happening W E)) (c s : Name) → Good f (seen_by f c s (network_after f es (opening f 1 t)))
  every laws t es c s = (network_fit f c s laws es (opening f 1 t) (opening_fit f c s t)).good

  pub views : IsLawful f → (t : ℕ) (es : List (Happening W E)) (c s : Name)
      → ViewIsGoal f (seen_by f c s (network_after f es (opening f 1 t)))
      ((network_after f es (opening f 1 t)).holdings c s)
  views laws t es c s = let n = network_after f es (opening f 1 t) in view_of f (seen_by f c s n) (n.holdings c s) (every laws t es c s).tied

  pub meets_where_quiet : IsLawful f → (t : ℕ) (es : List (Happening W E)) (c s : Name)
      → MeetsWhereQuiet f (seen_by f c s (network_after f es (opening f 1 t)))
      ((network_after f es (opening f 1 t)).holdings c s) (find c s (network_after f es (opening f 1 t)).serving.table)
  meets_where_quiet laws t es c s =
      let n = network_after f es (opening f 1 t) in
      let g = every laws t es c s in
      meets_of f (seen_by f c s n) (n.holdings c s) (find c s n.serving.table) g.first g.life g.tied

  -- a letter, as a packet of its subscription
  packet_at : (n : Network V P W H) (k : ℕ) (x : Of (About P W)) (p : Packet P W) → slice_get n.letters k ≡ Some x
      → x.it ≡ Carries p → (j : ℕ) × (slice_get (packets_of f (those x.subscriber x.identifier n.letters)) j ≡ Some p)
  packet_at n k x p at is =
      let i = those_get x.subscriber x.identifier n.letters k x at (same_refl x.subscriber x.identifier) in
      packets_get f (those x.subscriber x.identifier n.letters) i.0 p (i.1 ∙ ap Some is)

  pub carries_its_round : IsLawful f → (t : ℕ) (es : List (Happening W E)) (k : ℕ) (x : Of (About P W)) (p : Packet P W)
      → slice_get (network_after f es (opening f 1 t)).letters k ≡ Some x → x.it ≡ Carries p
      → CarriesItsRound f (seen_by f x.subscriber x.identifier (network_after f es (opening f 1 t)))
      ((network_after f es (opening f 1 t)).holdings x.subscriber x.identifier) p
  carries_its_round laws t es k x p at it =
      let n = network_after f es (opening f 1 t) in
      let j = packet_at n k x p at it in
      carries_of f (seen_by f x.subscriber x.identifier n) (n.holdings x.subscriber x.identifier) j.0 p (every laws t es x.subscriber x.identifier).tied j.1

  pub no_gap : IsLawful f → (t : ℕ) (es : List (Happening W E)) (k : ℕ) (x : Of (About P W)) (p : Packet P W) (m : Mark)
      → slice_get (network_after f es (opening f 1 t)).letters k ≡ Some x → x.it ≡ Carries p → HasMark p m
      → (outcome_of f ((network_after f es (opening f 1 t)).holdings x.subscriber x.identifier) m ≢ Gap)
      × (outcome_of f ((network_after f es (opening f 1 t)).holdings x.subscriber x.identifier) m ≢ Overlong)
  no_gap laws t es k x p m at it is =
      let n = network_after f es (opening f 1 t) in
      let j = packet_at n k x p at it in
      no_gap_of f (seen_by f x.subscriber x.identifier n) (n.holdings x.subscriber x.identifier) j.0 p m (every laws t es x.subscriber x.identifier).tied j.1 is

  -- the acknowledgement among the letters after the delivery
  acknowledgement_as : (n : Network V P W H) (c s : Name) (h : Holding V P W) (m : Mark) (more : Bool) (x : P)
      (o : Outcome) → o ≡ Wanted → (i : ℕ) × (slice_get (n.letters ++ letters_for f c s (replies_as f o h m more))
      i ≡ Some (record { subscriber = c; identifier = s; it = Carries (Acknowledge m) }))
  acknowledgement_as n c s h m more x Wanted e = (length n.letters, mid n.letters (letters_for f c s (then_supply f (more && f.fetched h.wanted) m)))
    where
      mid : (xs ys : List (Of (About P W))) → slice_get
          (xs ++ record { subscriber = c; identifier = s; it = Carries (Acknowledge m) } ∷ ys) (length xs) ≡ Some
          (record { subscriber = c; identifier = s; it = Carries (Acknowledge m) })
      mid [] ys = refl
      mid (x ∷ xs) ys = mid xs ys
  acknowledgement_as n c s h m more x UnknownSubscription e = absurd (cc)
  acknowledgement_as n c s h m more x OldStart e = absurd (cc)
  acknowledgement_as n c s h m more x Gap e = absurd (cc)
  acknowledgement_as n c s h m more x Repeat e = absurd (cc)
  acknowledgement_as n c s h m more x Overlong e = absurd (cc)

  acknowledgement_of : (n : Network V P W H) (c s : Name) (held : Option (Holding V P W)) (m : Mark) (more : Bool)
      (x : P) → outcome_of f held m ≡ Wanted → (i : ℕ)
      × (slice_get (Network.delivered f n c s m more x held).letters i ≡ Some
      (record { subscriber = c; identifier = s; it = Carries (Acknowledge m) }))
  acknowledgement_of n c s None m more x e = absurd (cc)
  acknowledgement_of n c s (Some h) m more x e = acknowledgement_as n c s h m more x (outcome f h m) e

  pub taken_once : IsLawful f → (t : ℕ) (before after : List (Happening W E)) (k : ℕ) (c s : Name) (m : Mark) (moment : ℕ) (more : Bool) (x : P)
      → slice_get (network_after f before (opening f 1 t)).letters k ≡ Some (record { subscriber = c; identifier = s; it = Carries (Delivery m moment more x) })
      → outcome_of f ((network_after f before (opening f 1 t)).holdings c s) m ≡ Wanted
      → ChangesNoView (outcome_of f ((network_after f after (step f (network_after f before (opening f 1 t)) (Delivers k))).holdings c s) m)
  taken_once laws t before after k c s m moment more x at wanted =
      let n = network_after f before (opening f 1 t) in
      let v = step f n (Delivers k) in
      let u = network_after f after v in
      let g : Good f (seen_by f c s u) = (network_fit f c s laws after v
      (step_fit f c s laws n (Delivers k) (network_fit f c s laws before (opening f 1 t)
      (opening_fit f c s t)))).good in
      let a = acknowledgement_of n c s (n.holdings c s) m more x wanted in
      let b : slice_get v.letters a.0 ≡ Some (record { subscriber = c; identifier = s; it = Carries (Acknowledge m) }) =
      subst (λ (q : Option (Of (About P W))). slice_get (takes_letter f n q).letters a.0 ≡ Some
      (record { subscriber = c; identifier = s; it = Carries (Acknowledge m) })) (sym at) a.1 in
      let i = packet_at u a.0 (record { subscriber = c; identifier = s; it = Carries (Acknowledge m) }) (Acknowledge m)
      (after_longer f after v a.0 (record { subscriber = c; identifier = s; it = Carries (Acknowledge m) }) b)
      refl in
      let j = packet_at u k (record { subscriber = c; identifier = s; it = Carries (Delivery m moment more x) })
      (Delivery m moment more x) (after_longer f after v k
      (record { subscriber = c; identifier = s; it = Carries (Delivery m moment more x) })
      (step_longer f n (Delivers k) k (record {
        subscriber = c;
        identifier = s;
        it = Carries (Delivery m moment more x);
      }) at)) refl in
      over_of f (seen_by f c s u) (u.holdings c s) i.0 j.0 m moment more x g.tied i.1 j.1
