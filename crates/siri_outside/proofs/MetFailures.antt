-- What calls met, one after the other, by what each met.
use Rattle.std.proofs.Common.{◌≡◌, ℕ, ◌+◌, ◌-◌, List, [], ◌∷◌, Bool, true, false, refl, sym, ap, ◌∙◌, subst, arith}
use Rattle.siri_outside.specs.Failures.{Passes}
use Rattle.siri_outside.specs.MetFailures.{Meets}

-- ---- of failures alone

-- nothing passes
pub passes_none : (fails : List ℕ) → Passes fails fails 0
passes_none [] = refl
passes_none (before ∷ later) = (omega arith, ap (λ n. n ∷ later) (omega arith))

-- bytes pass, and then others
pub passes_more : (a b c : List ℕ) (n m : ℕ) → Passes a b n → Passes b c m → Passes a c (n + m)
passes_more [] b c n m p q = subst (λ l. Passes l c m) p q
passes_more (before ∷ later) b c n m p q =
    let r : Passes ((before - n) ∷ later) c m = subst (λ l. Passes l c m) p.1 q in
    (omega (arith, p.0, r.0), r.1 ∙ ap (λ k. k ∷ later) (omega arith))

-- bytes pass, and then others do, up to a failure
pub passes_failing : (a b c : List ℕ) (n m : ℕ) → Passes a b n → b ≡ m ∷ c → a ≡ (n + m) ∷ c
passes_failing [] b c n m p e = absurd (cons_is_some m c (sym e ∙ p))
  where
    cons_is_some : (k : ℕ) (l : List ℕ) → k ∷ l ≡ [] → ⊥
    cons_is_some k l e = cc e
passes_failing (before ∷ later) b c n m p e =
    let r : (before - n) ∷ later ≡ m ∷ c = sym p.1 ∙ e in
    let head : before - n ≡ m = ap (λ l. elim l [ [] ↦ 0 | x ∷ xs ↦ x ]) r in
    let tail : later ≡ c = ap (λ l. elim l [ [] ↦ [] | x ∷ xs ↦ xs ]) r in
    ap (λ k. k ∷ later) (omega (arith, p.0, head)) ∙ ap (λ l. (n + m) ∷ l) tail

meets_after : (failed : Bool) (a b c : List ℕ) (n m : ℕ) → Passes a b n → Meets failed b c m → Meets failed a c (n + m)
meets_after false a b c n m p q = passes_more a b c n m p q
meets_after true a b c n m p q = passes_failing a b c n m p q
