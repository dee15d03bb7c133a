-- What the consumer's moves keep.
use Rattle.std.proofs.Common.{◌≡◌, ◌⊎◌, ◌≢◌, ℕ, zero, suc, ◌<◌, ◌≤◌, Bool, true, false, cond, ◌&&◌, ◌||◌, List, [], ◌∷◌, ◌++◌, length, take}
use Rattle.std.proofs.Common.{Option, Some, None, refl, sym, ap, ◌∙◌, subst, inl, inr, ⊎_elim, arith}
use Rattle.std.specs.Prelude.{slice_get, nat_lt, ◌==◌}
use Rattle.std.proofs.lemmas.Bool.{or_cases, or_parts, and_parts, and_cases, ltb-true, ltb-false, eqb-true, eqb-false, ne_eqb}
use Rattle.siri_life.specs.Meaning.{Meaning, IsLawful, apply_parts, base_view}
use Rattle.siri_life.specs.Life.{greatest_round, Round, Outstanding, Life, Mark, Packet, Subscribe, Terminate, AllData}
use Rattle.siri_life.specs.Life.{Supply, Acknowledge, Notify, Delivery}
use Rattle.siri_life.specs.Link.{Holding, rounds_of, GoalAt, Outcome, UnknownSubscription, OldStart, Gap, Repeat, Overlong, Wanted, outcome}
use Rattle.siri_life.specs.Link.{outcome_at, with_start_if, with_buffered, with_whole_round, base_of}
use Rattle.siri_life.proofs.Lists.{each_map, get_same, length_push, take_push, take_whole}
use Rattle.siri_life.proofs.Facts.{LifeFact, TableFact, NotPast, Before, PartBehind, Delivers, Fact, Level, Wanting, SharedLife, Buffer, Tied}
use Rattle.siri_life.proofs.Moves.{rounds_here_of, ahead_of, is_outstanding_of}

module _ {V P W H E : Type 0} (f : Meaning V P W H E) where
  -- ---- what an outcome says
  -- the mark names the wanted place of the start kept, or the first place of a greater start
  pub record Here (h : Holding V P W) (m : Mark) : Type 0 where
    pub number : m.number ≡ h.number
    pub which : ((h.start < m.start) × (m.round ≡ 1) × (m.part ≡ 1)) ⊎ ((m.start ≡ h.start) × (m.round ≡ suc h.round) × (m.part ≡ suc (length h.parts)))

  pub record Again (h : Holding V P W) (m : Mark) : Type 0 where
    pub number : m.number ≡ h.number
    pub before : Before f h m
    pub start : m.start ≡ h.start

  abbrev pub Means : Holding V P W → Mark → Outcome → Type 0
  Means h m UnknownSubscription = m.number ≢ h.number
  Means h m OldStart = (m.number ≡ h.number) × (m.start < h.start)
  Means h m Gap = (m.number ≡ h.number) × (NotPast f h m → ⊥)
  Means h m Repeat = Again h m
  Means h m Overlong = (m.number ≡ h.number) × ((m.part ≡ 401) ⊎ (m.round ≡ suc greatest_round))
  Means h m Wanted = Here h m

  before_of : (h : Holding V P W) (m : Mark) → m.start ≡ h.start
      → (nat_lt m.round (suc h.round) || (m.round == suc h.round && nat_lt m.part (suc (length h.parts)))) ≡ true
      → Before f h m
  before_of h m same t =
      ⊎_elim
      (λ (a : nat_lt m.round (suc h.round) ≡ true). let low = ltb-true m.round (suc h.round) a in
      record { start = omega arith; round = λ s. omega arith; part = λ s e. absurd (omega arith) })
      (λ (a : (m.round == suc h.round && nat_lt m.part (suc (length h.parts))) ≡ true).
      let b = and_parts _ _ a in
      let e = eqb-true m.round (suc h.round) b.0 in
      let p = ltb-true m.part (suc (length h.parts)) b.1 in
      record { start = omega arith; round = λ s. omega arith; part = λ s r. omega arith })
      (or_cases _ _ t)

  past_of : (h : Holding V P W) (m : Mark) → m.start ≡ h.start
      → (nat_lt m.round (suc h.round) || (m.round == suc h.round && nat_lt m.part (suc (length h.parts)))) ≡ false
      → (m.round == suc h.round && m.part == suc (length h.parts)) ≡ false → NotPast f h m → ⊥
  past_of h m same t u q =
      let a = or_parts _ _ t in
      let high = ltb-false m.round (suc h.round) a.0 in
      let low = q.round same in
      let e : m.round ≡ suc h.round = omega arith in
      let p = q.part same e in
      ⊎_elim
      (λ (c : (m.round == suc h.round) ≡ false). eqb-false m.round (suc h.round) c e)
      (λ (c : (m.part == suc (length h.parts)) ≡ false).
      ⊎_elim
      (λ (d : (m.round == suc h.round) ≡ false). eqb-false m.round (suc h.round) d e)
      (λ (d : nat_lt m.part (suc (length h.parts)) ≡ false). let high2 = ltb-false m.part (suc (length h.parts)) d in
      eqb-false m.part (suc (length h.parts)) c (omega arith))
      (and_cases _ _ a.1))
      (and_cases _ _ u)

  means_at : (h : Holding V P W) (m : Mark) → m.number ≡ h.number → m.start ≡ h.start → Means h m (outcome_at f h m)
  means_at h m num same =
      by (nat_lt m.round (suc h.round) || (m.round == suc h.round && nat_lt m.part (suc (length h.parts)))) refl
    where
      over : (b : Bool) → (m.part == 401 || m.round == suc greatest_round) ≡ b
          → (m.round == suc h.round && m.part == suc (length h.parts)) ≡ true → Means h m (cond b Overlong Wanted)
      over true t u = (
        num,
        ⊎_elim (λ (a : (m.part == 401) ≡ true). inl (eqb-true m.part 401 a))
            (λ (a : (m.round == suc greatest_round) ≡ true). inr (eqb-true m.round (suc greatest_round) a))
            (or_cases _ _ t),
      )
      over false t u = let b = and_parts _ _ u in record { number = num; which = inr (same, eqb-true _ _ b.0, eqb-true _ _ b.1) }

      here : (b : Bool) → (m.round == suc h.round && m.part == suc (length h.parts)) ≡ b
          → (nat_lt m.round (suc h.round) || (m.round == suc h.round && nat_lt m.part (suc (length h.parts)))) ≡ false
          → Means h m (cond b (cond (m.part == 401 || m.round == suc greatest_round) Overlong Wanted) Gap)
      here true t u = over (m.part == 401 || m.round == suc greatest_round) refl t
      here false t u = (num, past_of h m same u t)

      by : (b : Bool) → (nat_lt m.round (suc h.round)
          || (m.round == suc h.round && nat_lt m.part (suc (length h.parts)))) ≡ b
          → Means h m (cond b Repeat (cond (m.round == suc h.round && m.part == suc (length h.parts))
          (cond (m.part == 401 || m.round == suc greatest_round) Overlong Wanted) Gap))
      by true t = record { number = num; before = before_of h m same t; start = same }
      by false t = here (m.round == suc h.round && m.part == suc (length h.parts)) refl t

  pub means : (h : Holding V P W) (m : Mark) → Means h m (outcome f h m)
  means h m = by (m.number == h.number) refl
    where
      first : (b : Bool) → (m.round == 1 && m.part == 1) ≡ b → m.number ≡ h.number → h.start < m.start → Means h m (cond b Wanted Gap)
      first true t num less = let b = and_parts _ _ t in record { number = num; which = inl (less, eqb-true _ _ b.0, eqb-true _ _ b.1) }
      first false t num less = (
        num,
        λ q. ⊎_elim
            (λ (c : (m.round == 1) ≡ false). eqb-false m.round 1 c (q.newer_round less))
            (λ (c : (m.part == 1) ≡ false). eqb-false m.part 1 c (q.newer_part less)) (and_cases _ _ t),
      )

      newer : (b : Bool) → nat_lt h.start m.start ≡ b → m.number ≡ h.number → h.start ≤ m.start
          → Means h m (cond b (cond (m.round == 1 && m.part == 1) Wanted Gap) (outcome_at f h m))
      newer true t num low = first (m.round == 1 && m.part == 1) refl num (ltb-true h.start m.start t)
      newer false t num low = let high = ltb-false h.start m.start t in means_at h m num (omega arith)

      older : (b : Bool) → nat_lt m.start h.start ≡ b → m.number ≡ h.number
          → Means h m (cond b OldStart (cond (nat_lt h.start m.start) (cond (m.round == 1 && m.part == 1) Wanted Gap)
          (outcome_at f h m)))
      older true t num = (num, ltb-true m.start h.start t)
      older false t num = newer (nat_lt h.start m.start) refl num (ltb-false m.start h.start t)

      by : (b : Bool) → (m.number == h.number) ≡ b → Means h m
          (cond b (cond (nat_lt m.start h.start) OldStart
          (cond (nat_lt h.start m.start) (cond (m.round == 1 && m.part == 1) Wanted Gap) (outcome_at f h m)))
          UnknownSubscription)
      by true t = older (nat_lt m.start h.start) refl (eqb-true m.number h.number t)
      by false t = eqb-false m.number h.number t

  -- ---- a greater start is kept
  pub tied_turns : (k now next s : ℕ) (e : Option (Life V P W)) (ended : List (Life V P W))
      (packets : List (Packet P W)) (h : Holding V P W) → h.start < s → s ≤ k → (r : Round V P)
      → slice_get (rounds_of h.number s e ended) 0 ≡ Some r → Tied f k now e ended next packets h
      → Tied f k now e ended next packets (with_start_if f true h s)
  tied_turns k now next s e ended packets h less le r at t =
      record {
        number = t.number;
        based = t.based;
        start = le;
        facts = each_map (Fact f k e ended h) (Fact f k e ended (with_start_if f true h s)) one packets t.facts;
        shared = life e t.shared;
        once = t.once;
        seen = λ _. (r, at);
        buffer = tt;
        current = λ c. absurd (omega arith);
        view = t.view;
      }
    where
      not_past : (m : Mark) → NotPast f h m → NotPast f (with_start_if f true h s) m
      not_past m q = record {
        round = λ same. let a = q.newer_round (omega arith) in omega arith;
        part = λ same b. let a = q.newer_part (omega arith) in omega arith;
        newer_round = λ c. q.newer_round (omega arith);
        newer_part = λ c. q.newer_part (omega arith);
      }

      one : (p : Packet P W) → Fact f k e ended h p → Fact f k e ended (with_start_if f true h s) p
      one (Subscribe n x) c = c
      one (Terminate n) c = c
      one (AllData n b) c = c
      one (Supply m) c = c
      one (Acknowledge m) c = λ same. let b = c same in
          record {
            start = let a = b.start in omega arith;
            round = λ eq. let a = b.start in absurd (omega arith);
            part = λ eq _. let a = b.start in absurd (omega arith);
          }
      one (Notify m moment) c = λ same. let b = c same in
          record { start = b.start; not_past = not_past m b.not_past; tells = b.tells; low = b.low; few = b.few }
      one (Delivery m moment more x) c = λ same. let b = c same in
          record { start = b.start; not_past = not_past m b.not_past; content = b.content; behind = b.behind }

      wanting : (n : ℕ) (o : Option (Outstanding V P)) → Wanting f k h n o → Wanting f k (with_start_if f true h s) n o
      wanting n None v = record { round = λ eq. let a = v.older (omega arith) in omega arith; parts = λ eq. refl; older = λ c. v.older (omega arith) }
      wanting n (Some o) v = record {
        same = λ eq. let a = v.older_round (omega arith) in
            let b = v.older_part (omega arith) in inl (omega arith, omega arith);
        older_round = λ c. v.older_round (omega arith);
        older_part = λ c. v.older_part (omega arith);
      }

      life : (e : Option (Life V P W)) → SharedLife f k h e → SharedLife f k (with_start_if f true h s) e
      life None q = tt
      life (Some l) q = record {
        number = q.number;
        wanted = q.wanted;
        of_base = q.of_base;
        wanting = λ same. wanting
            (length l.rounds) l.outstanding (q.wanting same);
      }

  -- ---- the wanted part is taken
  -- a delivery of the wanted place of the start kept
  pub record Next (k : ℕ) (e : Option (Life V P W)) (ended : List (Life V P W)) (h : Holding V P W) (m : Mark) (more : Bool) (x : P) : Type 0 where
    pub number : m.number ≡ h.number
    pub start : m.start ≡ h.start
    pub round : m.round ≡ suc h.round
    pub part : m.part ≡ suc (length h.parts)
    pub moment : ℕ
    pub delivers : Delivers f k e ended h m moment more x

  buffer_from : (rs : List (Round V P)) (i : ℕ) (r : Round V P) (ps : List P) → slice_get rs i ≡ Some r → ps ≡ take (length ps) r.parts → Buffer f rs i ps
  buffer_from rs i r [] at is = tt
  buffer_from rs i r (p ∷ ps) at is = (r, at, is)

  buffer_push : (rs : List (Round V P)) (i : ℕ) (r : Round V P) (ps : List P) (x : P) → Buffer f rs i ps
      → slice_get rs i ≡ Some r → slice_get r.parts (length ps) ≡ Some x → ps ++ x ∷ [] ≡ take (suc (length ps)) r.parts
  buffer_push rs i r [] x b at here = sym (take_push r.parts 0 x here)
  buffer_push rs i r (p ∷ ps) x b at here =
      let same = get_same rs i b.0 r b.1 at in
      ap (λ (ys : List P). ys ++ x ∷ []) (b.2 ∙ ap (λ (y : Round V P). take (length (p ∷ ps)) y.parts) same) ∙ sym (take_push r.parts (length (p ∷ ps)) x here)

  -- what the places of the part say
  taken_parts : (k : ℕ) (e : Option (Life V P W)) (ended : List (Life V P W)) (h : Holding V P W) (m : Mark)
      (more : Bool) (x : P) → Next k e ended h m more x → Buffer f (rounds_of h.number h.start e ended) h.round h.parts
      → (r : Round V P) × (slice_get (rounds_of h.number h.start e ended) h.round ≡ Some r)
      × (h.parts ++ x ∷ [] ≡ take (suc (length h.parts)) r.parts)
  taken_parts k e ended h m more x n b =
      let c = n.delivers.content in
      let i : c.i ≡ h.round = let a = c.round in let d = n.round in omega arith in
      let j : c.j ≡ length h.parts = let a = c.part in let d = n.part in omega arith in
      let at : slice_get (rounds_of h.number h.start e ended) h.round ≡ Some c.r =
      subst (λ (q : ℕ × ℕ). slice_get (rounds_of h.number q.0 e ended) q.1 ≡ Some c.r)
      (λ t. (n.start t, i t)) c.at in
      let here : slice_get c.r.parts (length h.parts) ≡ Some x = subst (λ q. slice_get c.r.parts q ≡ Some x) j c.here in
      (c.r, at, buffer_push (rounds_of h.number h.start e ended) h.round c.r h.parts x b at here)

  only_now : (r b n p len mr mp : ℕ) → ((suc r ≡ n) × (b ≡ p))
      ⊎ (((suc r ≡ n) × (b ≡ suc p) × (suc p < len)) ⊎ ((r ≡ n) × (b ≡ 0) × (suc p ≡ len))) → mr ≡ suc r → mp ≡ suc b
      → mr ≤ n → (mr ≡ n → mp ≤ suc p) → (suc r ≡ n) × (b ≡ p)
  only_now r b n p len mr mp (inl c) er ep low part = (c.0, c.1)
  only_now r b n p len mr mp (inr (inl c)) er ep low part = let a = part (er ∙ c.0) in absurd (omega arith)
  only_now r b n p len mr mp (inr (inr c)) er ep low part = absurd (omega arith)

  -- where the consumer has the latest start, the producer wants that part too, and it is of its outstanding round
  now_wanted : (k now next : ℕ) (l : Life V P W) (o : Outstanding V P) (ended : List (Life V P W))
      (packets : List (Packet P W)) (h : Holding V P W) (m : Mark) (more : Bool) (x : P) → l.outstanding ≡ Some o
      → LifeFact f k now next l → Next k (Some l) ended h m more x → Tied f k now (Some l) ended next packets h
      → l.number ≡ h.number → h.start ≡ k → (suc h.round ≡ length l.rounds) × (length h.parts ≡ o.acknowledged_parts)
      × (more ≡ nat_lt (suc o.acknowledged_parts) (length o.round.parts))
  now_wanted k now next l o ended packets h m more x is q n t same eq =
      let a = ahead_of f k h l o is (t.shared.wanting same) in
      let b = n.delivers.behind same in
      let s : m.start ≡ k = n.start ∙ eq in
      let place : (suc h.round ≡ length l.rounds) × (length h.parts ≡ o.acknowledged_parts) =
      only_now h.round (length h.parts) (length l.rounds) o.acknowledged_parts (length o.round.parts) m.round m.part
      (a.same eq) n.round n.part (b.round s) (λ r. subst (λ u. PartBehind f u m.part) is (b.part s r)) in
      let c = n.delivers.content in
      let outstanding = is_outstanding_of f l o is q.outstanding in
      let j : c.j ≡ o.acknowledged_parts = let a = c.part in let d = n.part in let u = place.1 in omega arith in
      let i : c.i ≡ outstanding.round = let a = c.round in let d = n.round in let u = place.0 in let v = outstanding.count in omega arith in
      let at : slice_get l.rounds outstanding.round ≡ Some c.r =
      subst (λ (z : ℕ). slice_get l.rounds z ≡ Some c.r) i
      (subst (λ (rs : List (Round V P)). slice_get rs c.i ≡ Some c.r)
      (rounds_here_of f k now next l ended packets h q t same m.start s) c.at) in
      let r : c.r ≡ o.round = get_same l.rounds outstanding.round c.r o.round at outstanding.here in
      (place.0, place.1, c.more_is ∙ ap (λ (z : ℕ × Round V P). nat_lt (suc z.0) (length z.1.parts)) (λ t. (j t, r t)))

  nothing_wanted : (k now next : ℕ) (l : Life V P W) (ended : List (Life V P W)) (packets : List (Packet P W))
      (h : Holding V P W) (m : Mark) (more : Bool) (x : P) → l.outstanding ≡ None → Next k (Some l) ended h m more x
      → Tied f k now (Some l) ended next packets h → l.number ≡ h.number → h.start ≡ k → ⊥
  nothing_wanted k now next l ended packets h m more x is n t same eq =
      let v : Level f k h (length l.rounds) = subst (Wanting f k h (length l.rounds)) is (t.shared.wanting same) in
      let b = n.delivers.behind same in
      let s : m.start ≡ k = n.start ∙ eq in
      let low = b.round s in
      let r = v.round eq in
      let mr = n.round in
      omega arith

  -- ---- a part is buffered
  buffered_facts : (k : ℕ) (e : Option (Life V P W)) (ended : List (Life V P W)) (h : Holding V P W) (y : P)
      (p : Packet P W) → Fact f k e ended h p → Fact f k e ended (with_buffered f h y) p
  buffered_facts k e ended h y p = one p
    where
      len : length (h.parts ++ y ∷ []) ≡ suc (length h.parts)
      len = length_push h.parts y

      not_past : (m : Mark) → NotPast f h m → NotPast f (with_buffered f h y) m
      not_past m q = record {
        round = q.round;
        part = λ s r. let a = q.part s r in let b = len in omega arith;
        newer_round = q.newer_round;
        newer_part = q.newer_part;
      }

      one : (p : Packet P W) → Fact f k e ended h p → Fact f k e ended (with_buffered f h y) p
      one (Subscribe n x) c = c
      one (Terminate n) c = c
      one (AllData n b) c = c
      one (Supply m) c = c
      one (Acknowledge m) c = λ same. let b = c same in
          record { start = b.start; round = b.round; part = λ s r. let a = b.part s r in let d = len in omega arith }
      one (Notify m moment) c = λ same. let b = c same in
          record { start = b.start; not_past = not_past m b.not_past; tells = b.tells; low = b.low; few = b.few }
      one (Delivery m moment more x) c = λ same. let b = c same in
          record { start = b.start; not_past = not_past m b.not_past; content = b.content; behind = b.behind }

  pub tied_buffers : (k now next : ℕ) (e : Option (Life V P W)) (ended : List (Life V P W))
      (packets : List (Packet P W)) (h : Holding V P W) (m : Mark) (x : P) → TableFact f k now next e
      → Next k e ended h m true x → Tied f k now e ended next packets h
      → Tied f k now e ended next packets (with_buffered f h x)
  tied_buffers k now next e ended packets h m x q n t =
      let got = taken_parts k e ended h m true x n t.buffer in
      record {
        number = t.number;
        based = t.based;
        start = t.start;
        facts = each_map (Fact f k e ended h) (Fact f k e ended (with_buffered f h x)) (buffered_facts k e ended h x) packets t.facts;
        shared = life e q n t;
        once = t.once;
        seen = t.seen;
        buffer = buffer_from (rounds_of h.number h.start e ended) h.round got.0 (h.parts ++ x ∷ []) got.1
            (got.2 ∙ ap (λ z. take z got.0.parts) (sym (length_push h.parts x)));
        current = t.current;
        view = t.view;
      }
    where
      wanting : (l : Life V P W) (o : Option (Outstanding V P)) → l.outstanding ≡ o → LifeFact f k now next l
          → Next k (Some l) ended h m true x → Tied f k now (Some l) ended next packets h → l.number ≡ h.number
          → Wanting f k (with_buffered f h x) (length l.rounds) o
      wanting l None is q n t same =
          record {
            round = λ s. absurd (nothing_wanted k now next l ended packets h m true x is n t same s);
            parts = λ s. absurd (nothing_wanted k now next l ended packets h m true x is n t same s);
            older = λ s. let v : Level f k h (length l.rounds) = subst (Wanting f k h (length l.rounds)) is (t.shared.wanting same) in v.older s;
          }
      wanting l (Some o) is q n t same =
          let a = ahead_of f k h l o is (t.shared.wanting same) in
          record {
            same = λ s.
                let w = now_wanted k now next l o ended packets h m true x is q n t same s in
                let len = length_push h.parts x in
                let u = w.1 in
                inr (inl (w.0, omega arith, ltb-true (suc o.acknowledged_parts) (length o.round.parts) (sym w.2)));
            older_round = a.older_round;
            older_part = a.older_part;
          }

      life : (e : Option (Life V P W)) → TableFact f k now next e → Next k e ended h m true x
          → Tied f k now e ended next packets h → SharedLife f k (with_buffered f h x) e
      life None q n t = tt
      life (Some l) q n t = record {
        number = t.shared.number;
        wanted = t.shared.wanted;
        of_base = t.shared.of_base;
        wanting = wanting l
            l.outstanding refl q n t;
      }

  -- ---- a round is whole
  whole_facts : (k : ℕ) (e : Option (Life V P W)) (ended : List (Life V P W)) (h : Holding V P W) (y : P)
      (p : Packet P W) → Fact f k e ended h p → Fact f k e ended (with_whole_round f h y) p
  whole_facts k e ended h y p = one p
    where
      not_past : (m : Mark) → NotPast f h m → NotPast f (with_whole_round f h y) m
      not_past m q = record {
        round = λ s. let a = q.round s in omega arith;
        part = λ s r. let a = q.round s in
            absurd (omega arith);
        newer_round = q.newer_round;
        newer_part = q.newer_part;
      }

      one : (p : Packet P W) → Fact f k e ended h p → Fact f k e ended (with_whole_round f h y) p
      one (Subscribe n x) c = c
      one (Terminate n) c = c
      one (AllData n b) c = c
      one (Supply m) c = c
      one (Acknowledge m) c = λ same. let b = c same in
          record {
            start = b.start;
            round = λ s. let a = b.round s in omega arith;
            part = λ s r. let a = b.round s in
                absurd (omega arith);
          }
      one (Notify m moment) c = λ same. let b = c same in
          record { start = b.start; not_past = not_past m b.not_past; tells = b.tells; low = b.low; few = b.few }
      one (Delivery m moment more x) c = λ same. let b = c same in
          record { start = b.start; not_past = not_past m b.not_past; content = b.content; behind = b.behind }

  base_is : (rs : List (Round V P)) (i : ℕ) (w : W) (base view : V) → GoalAt f rs i base → (1 ≤ i → GoalAt f rs i view)
      → cond (i == 0) f.empty (base_view f view w) ≡ base_view f base w
  base_is rs zero w base view g h = by (f.incremental w)
    where
      by : (b : Bool) → f.empty ≡ cond b base f.empty
      by true = sym g
      by false = refl
  base_is rs (suc i) w base view g h =
      let y = h (omega arith) in
      let same = get_same rs i g.0 y.0 g.1 y.1 in
      ap (λ b. cond b f.empty (base_view f view w)) (ne_eqb (suc i) 0 (λ e. absurd (omega arith)))
      ∙ ap (λ v. base_view f v w) (sym y.2 ∙ ap (λ (z : Round V P). z.target) (sym same) ∙ g.2)

  -- the view is the round's target
  whole_view : IsLawful f → (k now next : ℕ) (e : Option (Life V P W)) (ended : List (Life V P W))
      (packets : List (Packet P W)) (h : Holding V P W) (m : Mark) (x : P) → Next k e ended h m false x
      → Tied f k now e ended next packets h → GoalAt f (rounds_of h.number h.start e ended) (suc h.round)
      (with_whole_round f h x).view
  whole_view laws k now next e ended packets h m x n t =
      let c = n.delivers.content in
      let rs = rounds_of h.number h.start e ended in
      let i : c.i ≡ h.round = let a = c.round in let d = n.round in omega arith in
      let j : c.j ≡ length h.parts = let a = c.part in let d = n.part in omega arith in
      let at : slice_get rs h.round ≡ Some c.r = subst
      (λ (q : ℕ × ℕ). slice_get (rounds_of h.number q.0 e ended) q.1 ≡ Some c.r) (λ t. (n.start t, i t)) c.at in
      let here : slice_get c.r.parts (length h.parts) ≡ Some x = subst (λ q. slice_get c.r.parts q ≡ Some x) j c.here in
      let goal : GoalAt f rs h.round c.r.base = subst (λ (q : ℕ × ℕ). GoalAt f (rounds_of h.number q.0 e ended) q.1 c.r.base) (λ t. (n.start t, i t)) c.goal in
      let last : length c.r.parts ≤ suc (length h.parts) = let a = ltb-false (suc c.j) (length c.r.parts) (sym c.more_is) in omega arith in
      let parts : h.parts ++ x ∷ [] ≡ c.r.parts = buffer_push rs h.round c.r h.parts x t.buffer at here ∙ take_whole c.r.parts (suc (length h.parts)) last in
      let base : base_of f h ≡ base_view f c.r.base h.wanted = base_is rs h.round h.wanted c.r.base h.view goal t.current in (
        c.r,
        at,
        sym (ap (λ (z : V × List P). apply_parts f z.0 z.1) (λ t. (base t, parts t))
            ∙ ap (λ ps. apply_parts f (base_view f c.r.base h.wanted) ps) c.load
            ∙ laws.parts_lead_to_the_target c.r.base c.r.target h.wanted c.base_is_view c.target_is_view),
      )

  pub tied_whole : IsLawful f → (k now next : ℕ) (e : Option (Life V P W)) (ended : List (Life V P W))
      (packets : List (Packet P W)) (h : Holding V P W) (m : Mark) (x : P) → TableFact f k now next e
      → Next k e ended h m false x → Tied f k now e ended next packets h
      → Tied f k now e ended next packets (with_whole_round f h x)
  tied_whole laws k now next e ended packets h m x q n t =
      let v = whole_view laws k now next e ended packets h m x n t in
      record {
        number = t.number;
        based = t.based;
        start = t.start;
        facts = each_map (Fact f k e ended h) (Fact f k e ended (with_whole_round f h x)) (whole_facts k e ended h x) packets t.facts;
        shared = life e q n t;
        once = t.once;
        seen = t.seen;
        buffer = tt;
        current = λ _. v;
        view = v;
      }
    where
      wanting : (l : Life V P W) (o : Option (Outstanding V P)) → l.outstanding ≡ o → LifeFact f k now next l
          → Next k (Some l) ended h m false x → Tied f k now (Some l) ended next packets h → l.number ≡ h.number
          → Wanting f k (with_whole_round f h x) (length l.rounds) o
      wanting l None is q n t same =
          record {
            round = λ s. absurd (nothing_wanted k now next l ended packets h m false x is n t same s);
            parts = λ s. absurd (nothing_wanted k now next l ended packets h m false x is n t same s);
            older = λ s. let v : Level f k h (length l.rounds) = subst (Wanting f k h (length l.rounds)) is (t.shared.wanting same) in v.older s;
          }
      wanting l (Some o) is q n t same =
          let a = ahead_of f k h l o is (t.shared.wanting same) in
          record {
            same = λ s.
                let w = now_wanted k now next l o ended packets h m false x is q n t same s in
                let last = ltb-false (suc o.acknowledged_parts) (length o.round.parts) (sym w.2) in
                let part = (is_outstanding_of f l o is q.outstanding).part in
                inr (inr (w.0, refl, omega arith));
            older_round = a.older_round;
            older_part = a.older_part;
          }

      life : (e : Option (Life V P W)) → TableFact f k now next e → Next k e ended h m false x
          → Tied f k now e ended next packets h → SharedLife f k (with_whole_round f h x) e
      life None q n t = tt
      life (Some l) q n t = record {
        number = t.shared.number;
        wanted = t.shared.wanted;
        of_base = t.shared.of_base;
        wanting = wanting l
            l.outstanding refl q n t;
      }
