-- Each life of a producer's side is of its start, and no subscription is in its table twice.
use Rattle.std.proofs.Common.{◌≡◌, ℕ, suc, ◌≤◌, max, Bool, true, false, cond, ◌&&◌, List, [], ◌∷◌, ◌++◌, length, Option, Some, None, refl}
use Rattle.std.proofs.Common.{sym, ap, ◌∙◌, subst, arith}
use Rattle.std.specs.Prelude.{nat_lt}
use Rattle.siri_life.specs.Meaning.{Meaning}
use Rattle.siri_life.specs.Life.{Outstanding, Life, Mark, is_mark, is_due, Subscribe, Terminate, AllData, Supply}
use Rattle.siri_life.specs.Life.{Acknowledge, Notify, Delivery}
use Rattle.siri_life.specs.Life.{new_life, can_renew, is_before, opened, opened_at, opened_if, wants_round, after_send}
use Rattle.siri_life.specs.Life.{sent_if, after_heartbeat}
use Rattle.siri_life.specs.Life.{heartbeat_if, sends_heartbeat, settled, after_acknowledgement, acknowledged_at, acknowledged_if, next_part}
use Rattle.siri_life.specs.Life.{after_supply, supplied_at}
use Rattle.siri_life.specs.Named.{Name, Of, same_subscription, those, first, find, put, without, keep}
use Rattle.siri_life.specs.Serving.{Serving, Act, Clocked, Fed, Heard, Settled, row_of, settled_rows, accepted_if, accepts, ended_if}
use Rattle.siri_life.specs.Serving.{renewed, renewed_if, supplied, acknowledged, lives_on, expired, served}
use Rattle.siri_life.specs.Serving.{serving_after, opening_serving}
use Rattle.siri_life.proofs.Names.{those_put, those_without, those_keep, those_settled, rest}
use Rattle.siri_life.proofs.Sees.{length_rest, length_only, length_settled}

module _ {V P W : Type 0} where
  -- all lives are of this start
  abbrev pub AreOf : ℕ → List (Of (Life V P W)) → Type 0
  AreOf k [] = Unit {0}
  AreOf k (x ∷ xs) = (x.it.start ≡ k) × AreOf k xs

  pub of_append : (k : ℕ) (xs ys : List (Of (Life V P W))) → AreOf k xs → AreOf k ys → AreOf k (xs ++ ys)
  of_append k [] ys a b = b
  of_append k (x ∷ xs) ys a b = (a.0, of_append k xs ys a.1 b)

  of_put : (k : ℕ) (c s : Name) (l : Life V P W) (xs : List (Of (Life V P W))) → l.start ≡ k → AreOf k xs → AreOf k (put c s l xs)
  of_put k c s l [] is a = (is, tt)
  of_put k c s l (x ∷ xs) is a = by (same_subscription c s x.subscriber x.identifier) (of_put k c s l xs is a.1)
    where
      by : (b : Bool) → AreOf k (put c s l xs) → AreOf k (cond b (record { subscriber = c; identifier = s; it = l } ∷ xs) (x ∷ put c s l xs))
      by true r = (is, a.1)
      by false r = (a.0, r)

  of_without : (k : ℕ) (c s : Name) (xs : List (Of (Life V P W))) → AreOf k xs → AreOf k (without c s xs)
  of_without k c s [] a = tt
  of_without k c s (x ∷ xs) a = by (same_subscription c s x.subscriber x.identifier) (of_without k c s xs a.1)
    where
      by : (b : Bool) → AreOf k (without c s xs) → AreOf k (cond b (without c s xs) (x ∷ without c s xs))
      by true r = r
      by false r = (a.0, r)

  of_keep : (k : ℕ) (p : Life V P W → Bool) (xs : List (Of (Life V P W))) → AreOf k xs → AreOf k (keep p xs)
  of_keep k p [] a = tt
  of_keep k p (x ∷ xs) a = by (p x.it) (of_keep k p xs a.1)
    where
      by : (b : Bool) → AreOf k (keep p xs) → AreOf k (cond b (x ∷ keep p xs) (keep p xs))
      by true r = (a.0, r)
      by false r = r

  -- the life of a subscription is
  pub of_found : (k : ℕ) (c s : Name) (xs : List (Of (Life V P W))) (l : Life V P W) → AreOf k xs → find c s xs ≡ Some l → l.start ≡ k
  of_found k c s [] l a there = absurd (cc)
  of_found k c s (x ∷ xs) l a there = by (same_subscription c s x.subscriber x.identifier) there (of_found k c s xs l a.1)
    where
      by : (b : Bool) → first (cond b (x.it ∷ those c s xs) (those c s xs)) ≡ Some l → (find c s xs ≡ Some l → l.start ≡ k) → l.start ≡ k
      by true there r = let same : x.it ≡ l = cc in ap (λ (z : Life V P W). z.start) (sym same) ∙ a.0
      by false there r = r there

module _ {V P W H E : Type 0} (f : Meaning V P W H E) where
  -- ---- no step of a life changes its start

  next_start : (b : Bool) (l : Life V P W) (o : Outstanding V P) (now : ℕ) → (next_part f b l o now).start ≡ l.start
  next_start true l o now = refl
  next_start false l o now = refl

  acknowledged_start : (b : Bool) (l : Life V P W) (o : Outstanding V P) (now : ℕ) → (acknowledged_if f b l o now).start ≡ l.start
  acknowledged_start true l o now = next_start (nat_lt (suc o.acknowledged_parts) (length o.round.parts)) l o now
  acknowledged_start false l o now = refl

  acknowledgement_start : (l : Life V P W) (k : ℕ) (m : Mark) (now : ℕ) → (after_acknowledgement f l k m now).start ≡ l.start
  acknowledgement_start l k m now = by l.outstanding
    where
      by : (o : Option (Outstanding V P)) → (acknowledged_at f o l k m now).start ≡ l.start
      by None = refl
      by (Some o) = acknowledged_start (is_mark m l.number k (length l.rounds) (suc o.acknowledged_parts)) l o now

  sent_start : (b : Bool) (l : Life V P W) (o : Outstanding V P) (now : ℕ) → (sent_if f b l o now).start ≡ l.start
  sent_start true l o now = refl
  sent_start false l o now = refl

  supply_start : (l : Life V P W) (k : ℕ) (m : Mark) (now : ℕ) → (after_supply f l k m now).start ≡ l.start
  supply_start l k m now = by l.outstanding
    where
      by : (o : Option (Outstanding V P)) → (supplied_at f o l k m now).start ≡ l.start
      by None = refl
      by (Some o) = sent_start (f.fetched l.wanted && is_mark m l.number k (length l.rounds) (suc o.acknowledged_parts)) l o now

  opened_start : (l : Life V P W) (direct : V) (now : ℕ) → (opened f l direct now).start ≡ l.start
  opened_start l direct now = by l.outstanding
    where
      test : (b : Bool) → (opened_if f b l direct now).start ≡ l.start
      test true = refl
      test false = refl

      by : (o : Option (Outstanding V P)) → (opened_at f o l direct now).start ≡ l.start
      by None = test (wants_round f l direct)
      by (Some o) = refl

  send_start : (l : Life V P W) (o : Option (Outstanding V P)) (now : ℕ) → (after_send f l o now).start ≡ l.start
  send_start l None now = refl
  send_start l (Some o) now = sent_start (is_due o.last_sent now) l o now

  heartbeat_start : (l : Life V P W) (now : ℕ) → (after_heartbeat f l now).start ≡ l.start
  heartbeat_start l now = by (sends_heartbeat f l now)
    where
      by : (b : Bool) → (heartbeat_if f b l now).start ≡ l.start
      by true = refl
      by false = refl

  settled_start : (l : Life V P W) (direct : V) (now : ℕ) → (settled f l direct now).start ≡ l.start
  settled_start l direct now =
      let look = opened f l direct now in
      heartbeat_start (after_send f look look.outstanding now) now ∙ send_start look look.outstanding now ∙ opened_start l direct now

  of_settled : (k : ℕ) (known : H) (now : ℕ) (xs : List (Of (Life V P W))) → AreOf k xs → AreOf k (settled_rows f known now xs)
  of_settled k known now [] a = tt
  of_settled k known now (x ∷ xs) a = (settled_start x.it (f.direct known x.it.wanted) now ∙ a.0, of_settled k known now xs a.1)

  of_row : (k : ℕ) (c s : Name) (e : Option (Life V P W)) (xs : List (Of (Life V P W))) → AreOf k xs → find c s xs ≡ e → AreOf k (row_of f c s e)
  of_row k c s None xs a is = tt
  of_row k c s (Some l) xs a is = (of_found k c s xs l a is, tt)

  -- ---- a producer's side

  pub record IsOwn (v : Serving V P W H) : Type 0 where
    pub table : AreOf v.start v.table
    pub ended : AreOf v.start v.ended
    pub once : (c s : Name) → length (those c s v.table) ≤ 1

  once_put : (d t : Name) (l : Life V P W) (xs : List (Of (Life V P W))) → ((c s : Name) → length (those c s xs) ≤ 1)
      → (c s : Name) → length (those c s (put d t l xs)) ≤ 1
  once_put d t l xs once c s =
      subst (λ (zs : List (Life V P W)). length zs ≤ 1) (sym (those_put c s d t l xs)) (by (same_subscription c s d t))
    where
      by : (b : Bool) → length (cond b (l ∷ rest (those c s xs)) (those c s xs)) ≤ 1
      by true = length_rest f c s l (those c s xs) (once c s)
      by false = once c s

  once_without : (d t : Name) (xs : List (Of (Life V P W))) → ((c s : Name) → length (those c s xs) ≤ 1) → (c s : Name)
      → length (those c s (without d t xs)) ≤ 1
  once_without d t xs once c s =
      subst (λ (zs : List (Life V P W)). length zs ≤ 1) (sym (those_without c s d t xs)) (by (same_subscription c s d t))
    where
      by : (b : Bool) → length (cond b [] (those c s xs)) ≤ 1
      by true = omega arith
      by false = once c s

  once_keep : (p : Life V P W → Bool) (xs : List (Of (Life V P W))) → ((c s : Name) → length (those c s xs) ≤ 1)
      → (c s : Name) → length (those c s (keep p xs)) ≤ 1
  once_keep p xs once c s =
      let same = ap (λ (zs : List (Life V P W)). length zs) (those_keep c s p xs) in
      let few = length_only f c s p (those c s xs) in
      let one = once c s in
      omega arith

  once_settled : (known : H) (now : ℕ) (xs : List (Of (Life V P W))) → ((c s : Name) → length (those c s xs) ≤ 1)
      → (c s : Name) → length (those c s (settled_rows f known now xs)) ≤ 1
  once_settled known now xs once c s =
      let same = ap (λ (zs : List (Life V P W)). length zs) (those_settled f c s known now xs) in
      let long = length_settled f c s known now (those c s xs) in
      let one = once c s in
      omega arith

  own_accepted : (b : Bool) (v : Serving V P W H) (c s : Name) (n : ℕ) (x : W) → IsOwn v → IsOwn (accepted_if f b v c s n x)
  own_accepted true v c s n x own = record {
    table = of_put v.start c s (new_life f v.start v.now n n x) v.table refl own.table;
    ended = of_append v.start v.ended (row_of f c s (find c s v.table)) own.ended (of_row v.start c s (find c s v.table) v.table own.table refl);
    once = once_put c s (new_life f v.start v.now n n x) v.table own.once;
  }
  own_accepted false v c s n x own = own

  own_renewed_if : (b : Bool) (v : Serving V P W H) (c s : Name) (n base : ℕ) (x : W) → IsOwn v
      → IsOwn (renewed_if f b v c s n base x)
  own_renewed_if true v c s n base x own = record {
    table = of_put v.start c s (new_life f v.start v.now n base x) v.table refl own.table;
    ended = of_append v.start v.ended (row_of f c s (find c s v.table)) own.ended (of_row v.start c s (find c s v.table) v.table own.table refl);
    once = once_put c s (new_life f v.start v.now n base x) v.table own.once;
  }
  own_renewed_if false v c s n base x own = own

  own_renewed : (v : Serving V P W H) (c s : Name) (n base : ℕ) (e : Option (Life V P W)) → IsOwn v
      → IsOwn (renewed f v c s n base e)
  own_renewed v c s n base None own = own
  own_renewed v c s n base (Some l) own = own_renewed_if (can_renew f l n base) v c s n base l.wanted own

  own_ended : (b : Bool) (v : Serving V P W H) (c s : Name) → IsOwn v → IsOwn (ended_if f b v c s)
  own_ended true v c s own = record {
    table = of_without v.start c s v.table own.table;
    ended = of_append v.start v.ended (row_of f c s (find c s v.table)) own.ended (of_row v.start c s (find c s v.table) v.table own.table refl);
    once = once_without c s v.table own.once;
  }
  own_ended false v c s own = own

  own_supplied : (v : Serving V P W H) (c s : Name) (m : Mark) (e : Option (Life V P W)) → find c s v.table ≡ e → IsOwn v → IsOwn (supplied f v c s m e)
  own_supplied v c s m None is own = own
  own_supplied v c s m (Some l) is own =
      let next = after_supply f l v.start m v.now in
      record {
        table = of_put v.start c s next v.table (supply_start l v.start m v.now ∙ of_found v.start c s v.table l own.table is) own.table;
        ended = of_append v.start v.ended [] own.ended tt;
        once = once_put c s next v.table own.once;
      }

  own_acknowledged : (v : Serving V P W H) (c s : Name) (m : Mark) (e : Option (Life V P W)) → find c s v.table ≡ e → IsOwn v → IsOwn (acknowledged f v c s m e)
  own_acknowledged v c s m None is own = own
  own_acknowledged v c s m (Some l) is own =
      let next = after_acknowledgement f l v.start m v.now in
      record {
        table = of_put v.start c s next v.table (acknowledgement_start l v.start m v.now ∙ of_found v.start c s v.table l own.table is) own.table;
        ended = of_append v.start v.ended [] own.ended tt;
        once = once_put c s next v.table own.once;
      }

  own_served : (v : Serving V P W H) (a : Act P W E) → IsOwn v → IsOwn (served f v a)
  own_served v (Clocked t) own = record {
    table = of_keep v.start (lives_on f (max v.now t)) v.table own.table;
    ended = of_append v.start v.ended (keep (expired f (max v.now t)) v.table) own.ended (of_keep v.start (expired f (max v.now t)) v.table own.table);
    once = once_keep (lives_on f (max v.now t)) v.table own.once;
  }
  own_served v (Fed es) own = record { table = own.table; ended = own.ended; once = own.once }
  own_served v (Heard c s (Subscribe n x)) own = own_accepted (accepts f v c s n x) v c s n x own
  own_served v (Heard c s (Terminate n)) own = own_ended (is_before f (find c s v.table) n) v c s own
  own_served v (Heard c s (AllData n base)) own = own_renewed v c s n base (find c s v.table) own
  own_served v (Heard c s (Supply m)) own = own_supplied v c s m (find c s v.table) refl own
  own_served v (Heard c s (Acknowledge m)) own = own_acknowledged v c s m (find c s v.table) refl own
  own_served v (Heard c s (Notify m moment)) own = own
  own_served v (Heard c s (Delivery m moment more x)) own = own
  own_served v Settled own = record {
    table = of_settled v.start v.known v.now v.table own.table;
    ended = own.ended;
    once = once_settled v.known v.now v.table own.once;
  }

  pub own_after : (acts : List (Act P W E)) (v : Serving V P W H) → IsOwn v → IsOwn (serving_after f acts v)
  own_after [] v own = own
  own_after (a ∷ acts) v own = own_after acts (served f v a) (own_served v a own)

  pub own_opening : (k t : ℕ) → IsOwn (opening_serving f k t)
  own_opening k t = record { table = tt; ended = tt; once = λ c s. omega arith }
