-- The table of outcomes is what a mark says.
use Rattle.std.proofs.Common.{◌≡◌, ◌⊎◌, ℕ, suc, ◌<◌, ◌≤◌, Bool, true, false, cond, ◌&&◌, ◌||◌, refl, subst, inl, inr, ⊎_elim, arith}
use Rattle.std.specs.Prelude.{nat_lt, ◌==◌}
use Rattle.std.proofs.lemmas.Bool.{or_cases, or_parts, and_parts, and_cases, ltb-true, ltb-false, eqb-true, eqb-false}
use Rattle.siri_life.specs.Life.{Mark}
use Rattle.siri_life.specs.Link as life
use Rattle.siri_life.specs.Link.{outcome_by, outcome_at_start}
use Rattle.siri_view.specs.Table.{IsBefore, IsPast, Comes}

module _ (number start round parts : ℕ) (m : Mark) where
  is_before : (nat_lt m.round (suc round) || (m.round == suc round && nat_lt m.part (suc parts))) ≡ true → IsBefore round parts m
  is_before t =
      ⊎_elim
      (λ (a : nat_lt m.round (suc round) ≡ true). inl (ltb-true _ _ a))
      (λ (a : (m.round == suc round && nat_lt m.part (suc parts)) ≡ true). let b = and_parts _ _ a in inr (eqb-true _ _ b.0, ltb-true _ _ b.1))
      (or_cases _ _ t)

  is_past : (nat_lt m.round (suc round) || (m.round == suc round && nat_lt m.part (suc parts))) ≡ false
      → (m.round == suc round && m.part == suc parts) ≡ false → IsPast round parts m
  is_past t u =
      let a = or_parts _ _ t in
      let low = ltb-false m.round (suc round) a.0 in
      ⊎_elim
      (λ (c : (m.round == suc round) ≡ false). let other = eqb-false m.round (suc round) c in inl (omega arith))
      (λ (c : (m.part == suc parts) ≡ false).
      let other = eqb-false m.part (suc parts) c in
      ⊎_elim
      (λ (d : (m.round == suc round) ≡ false). let apart = eqb-false m.round (suc round) d in inl (omega arith))
      (λ (d : nat_lt m.part (suc parts) ≡ false). let high = ltb-false m.part (suc parts) d in past_at low high other)
      (and_cases _ _ a.1))
      (and_cases _ _ u)
    where
      past_at : suc round ≤ m.round → suc parts ≤ m.part → (m.part ≡ suc parts → ⊥) → IsPast round parts m
      past_at low high other = at (m.round == suc round) refl
        where
          at : (b : Bool) → (m.round == suc round) ≡ b → IsPast round parts m
          at true t = inr (eqb-true _ _ t, omega arith)
          at false t = let apart = eqb-false m.round (suc round) t in inl (omega arith)

  at_start : m.number ≡ number → m.start ≡ start → Comes number start round parts m (outcome_at_start round parts m)
  at_start num same = by (nat_lt m.round (suc round) || (m.round == suc round && nat_lt m.part (suc parts))) refl
    where
      over : (b : Bool) → (m.part == 401 || m.round == 1000000000000000000) ≡ b
          → (m.round == suc round && m.part == suc parts) ≡ true
          → Comes number start round parts m (cond b life.Overlong life.Wanted)
      over true t u =
          let b = and_parts _ _ u in (
            num,
            same,
            (eqb-true _ _ b.0, eqb-true _ _ b.1),
            ⊎_elim (λ (a : (m.part == 401) ≡ true). inl (eqb-true m.part 401 a))
                (λ (a : (m.round == 1000000000000000000) ≡ true). inr (eqb-true m.round 1000000000000000000 a))
                (or_cases _ _ t),
          )
      over false t u =
          let b = and_parts _ _ u in
          let c = or_parts _ _ t in
          (num, inr (same, (eqb-true _ _ b.0, eqb-true _ _ b.1), λ great. ⊎_elim (eqb-false m.part 401 c.0) (eqb-false m.round 1000000000000000000 c.1) great))

      here : (b : Bool) → (m.round == suc round && m.part == suc parts) ≡ b
          → (nat_lt m.round (suc round) || (m.round == suc round && nat_lt m.part (suc parts))) ≡ false
          → Comes number start round parts m (cond b
          (cond (m.part == 401 || m.round == 1000000000000000000) life.Overlong life.Wanted) life.Gap)
      here true t u = over (m.part == 401 || m.round == 1000000000000000000) refl t
      here false t u = (num, inr (same, is_past u t))

      by : (b : Bool) → (nat_lt m.round (suc round) || (m.round == suc round && nat_lt m.part (suc parts))) ≡ b
          → Comes number start round parts m (cond b life.Repeat
          (cond (m.round == suc round && m.part == suc parts)
          (cond (m.part == 401 || m.round == 1000000000000000000) life.Overlong life.Wanted) life.Gap))
      by true t = (num, same, is_before t)
      by false t = here (m.round == suc round && m.part == suc parts) refl t

  pub comes : Comes number start round parts m (outcome_by number start round parts m)
  comes = by (m.number == number) refl
    where
      first : (b : Bool) → (m.round == 1 && m.part == 1) ≡ b → m.number ≡ number → start < m.start
          → Comes number start round parts m (cond b life.Wanted life.Gap)
      first true t num less = let b = and_parts _ _ t in (num, inl (less, (eqb-true _ _ b.0, eqb-true _ _ b.1)))
      first false t num less = (
        num,
        inl (
          less,
          λ q. ⊎_elim (λ (c : (m.round == 1) ≡ false). eqb-false m.round 1 c q.0)
              (λ (c : (m.part == 1) ≡ false). eqb-false m.part 1 c q.1) (and_cases _ _ t),
        ),
      )

      newer : (b : Bool) → nat_lt start m.start ≡ b → m.number ≡ number → start ≤ m.start
          → Comes number start round parts m (cond b (cond (m.round == 1 && m.part == 1) life.Wanted life.Gap)
          (outcome_at_start round parts m))
      newer true t num low = first (m.round == 1 && m.part == 1) refl num (ltb-true start m.start t)
      newer false t num low = let high = ltb-false start m.start t in at_start num (omega arith)

      older : (b : Bool) → nat_lt m.start start ≡ b → m.number ≡ number
          → Comes number start round parts m (cond b life.OldStart
          (cond (nat_lt start m.start) (cond (m.round == 1 && m.part == 1) life.Wanted life.Gap)
          (outcome_at_start round parts m)))
      older true t num = (num, ltb-true m.start start t)
      older false t num = newer (nat_lt start m.start) refl num (ltb-false m.start start t)

      by : (b : Bool) → (m.number == number) ≡ b → Comes number start round parts m
          (cond b (cond (nat_lt m.start start) life.OldStart
          (cond (nat_lt start m.start) (cond (m.round == 1 && m.part == 1) life.Wanted life.Gap)
          (outcome_at_start round parts m))) life.UnknownSubscription)
      by true t = older (nat_lt m.start start) refl (eqb-true m.number number t)
      by false t = eqb-false m.number number t

  -- no two outcomes come at once
  one_comes : (o p : life.Outcome) → Comes number start round parts m o → Comes number start round parts m p → o ≡ p
  one_comes life.UnknownSubscription life.UnknownSubscription a b = refl
  one_comes life.UnknownSubscription life.OldStart a b = absurd (a b.0)
  one_comes life.UnknownSubscription life.Gap a b = absurd (a b.0)
  one_comes life.UnknownSubscription life.Repeat a b = absurd (a b.0)
  one_comes life.UnknownSubscription life.Overlong a b = absurd (a b.0)
  one_comes life.UnknownSubscription life.Wanted a b = absurd (a b.0)
  one_comes life.OldStart life.UnknownSubscription a b = absurd (b a.0)
  one_comes life.OldStart life.OldStart a b = refl
  one_comes life.OldStart life.Gap a b = absurd (grind arith)
  one_comes life.OldStart life.Repeat a b = absurd (grind arith)
  one_comes life.OldStart life.Overlong a b = absurd (grind arith)
  one_comes life.OldStart life.Wanted a b = absurd (grind arith)
  one_comes life.Gap life.UnknownSubscription a b = absurd (b a.0)
  one_comes life.Gap life.OldStart a b = absurd (grind arith)
  one_comes life.Gap life.Gap a b = refl
  one_comes life.Gap life.Repeat a b = absurd (grind arith)
  one_comes life.Gap life.Overlong a b = absurd (grind arith)
  one_comes life.Gap life.Wanted a b = absurd (grind arith)
  one_comes life.Repeat life.UnknownSubscription a b = absurd (b a.0)
  one_comes life.Repeat life.OldStart a b = absurd (grind arith)
  one_comes life.Repeat life.Gap a b = absurd (grind arith)
  one_comes life.Repeat life.Repeat a b = refl
  one_comes life.Repeat life.Overlong a b = absurd (grind arith)
  one_comes life.Repeat life.Wanted a b = absurd (grind arith)
  one_comes life.Overlong life.UnknownSubscription a b = absurd (b a.0)
  one_comes life.Overlong life.OldStart a b = absurd (grind arith)
  one_comes life.Overlong life.Gap a b = absurd (grind arith)
  one_comes life.Overlong life.Repeat a b = absurd (grind arith)
  one_comes life.Overlong life.Overlong a b = refl
  one_comes life.Overlong life.Wanted a b = absurd (grind arith)
  one_comes life.Wanted life.UnknownSubscription a b = absurd (b a.0)
  one_comes life.Wanted life.OldStart a b = absurd (grind arith)
  one_comes life.Wanted life.Gap a b = absurd (grind arith)
  one_comes life.Wanted life.Repeat a b = absurd (grind arith)
  one_comes life.Wanted life.Overlong a b = absurd (grind arith)
  one_comes life.Wanted life.Wanted a b = refl

  pub comes_where : (o : life.Outcome) → Comes number start round parts m o → outcome_by number start round parts m ≡ o
  comes_where o c = one_comes (outcome_by number start round parts m) o comes c

  pub comes_only : (o : life.Outcome) → outcome_by number start round parts m ≡ o → Comes number start round parts m o
  comes_only o is = subst (Comes number start round parts m) is comes
