-- What is kept at a place, and under the identifier that stands there.
use Rattle.std.proofs.Common.{◌≡◌, ℕ, suc, zero, ◌<◌, [], ◌∷◌, length, get_or, set, Option, Some, None, Bool, refl, ap, sym, arith}
use Rattle.std.specs.Prelude.{slice_get, option_map}
use Rattle.siri_records.specs.Places.{IsHere}
use Rattle.siri_change.specs.Parts.{Carried}
use Rattle.siri_messages.specs.Asked.{AskedFor}
use Rattle.siri_life.specs.Life.{Mark}
use Rattle.siri_life.specs.Link.{asked, taken}
use Rattle.siri_life.specs.Named.{Name}
use Rattle.siri_view.specs.Kept.{meaning, HeldSubscription, Holdings, name_cmp, kept_of, with_kept}
use Rattle.siri_view.specs.Places.{with_taken, taken_at, asked_at}

-- the value at a place
pub value_at : (es : Holdings) (i : ℕ) (e : Name × HeldSubscription) → i < length es → e ≡ get_or es i e → option_map (λ f. f.1) (slice_get es i) ≡ Some e.1
value_at [] i e lt is = absurd (omega (arith, lt))
value_at (f ∷ es) zero e lt is = ap (λ g. Some g.1) (sym is)
value_at (f ∷ es) (suc i) e lt is = value_at es i e (omega (arith, lt)) is

-- and at the place of an identifier
pub kept_here : (identifier : Name) (es : Holdings) (i : ℕ) → IsHere (name_cmp identifier) es i → option_map (λ f. f.1) (slice_get es i) ≡ kept_of identifier es
kept_here identifier [] i here = absurd here
kept_here identifier (e ∷ es) zero here = rw here
kept_here identifier (e ∷ es) (suc i) here = rw (here.0) (kept_here identifier es i here.1)

-- where something is kept
some_here : (identifier : Name) (es : Holdings) (i : ℕ) → IsHere (name_cmp identifier) es i → kept_of identifier es ≡ None → ⊥
some_here identifier [] i here is = here
some_here identifier (e ∷ es) zero here is = let none : Some e.1 ≡ None = (rw here at is) in cc
some_here identifier (e ∷ es) (suc i) here is = some_here identifier es i here.1 (rw (here.0) at is)

module _ (m : Mark) (more : Bool) (part : Carried) where
  pub taken_at_is : (es : Holdings) (i : ℕ) (e : Name × HeldSubscription) → i < length es → e ≡ get_or es i e
      → set es i (e.0, taken meaning e.1 m more part) ≡ taken_at m more part es i
  taken_at_is [] i e lt is = absurd (omega (arith, lt))
  taken_at_is (f ∷ es) zero e lt is = ap (λ (g : Name × HeldSubscription). (g.0, taken meaning g.1 m more part) ∷ es) is
  taken_at_is (f ∷ es) (suc i) e lt is = ap (λ l. f ∷ l) (taken_at_is es i e (omega (arith, lt)) is)

  taken_found : (identifier : Name) (es : Holdings) (i : ℕ) (h : HeldSubscription) → IsHere (name_cmp identifier) es i
      → kept_of identifier es ≡ Some h → taken_at m more part es i ≡ with_kept identifier
      (taken meaning h m more part) es
  taken_found identifier [] i h here is = absurd here
  taken_found identifier (e ∷ es) zero h here is = let same : Some e.1 ≡ Some h = (rw here at is) in
      rw here (ap (λ x. (e.0, x) ∷ es) (ap (λ x. taken meaning x m more part) (cc same)))
  taken_found identifier (e ∷ es) (suc i) h here is = let later = (rw (here.0) at is) in
      rw (here.0) (ap (λ l. e ∷ l) (taken_found identifier es i h here.1 later))

  pub taken_here : (identifier : Name) (es : Holdings) (i : ℕ) → IsHere (name_cmp identifier) es i
      → taken_at m more part es i ≡ with_taken identifier m more part (kept_of identifier es) es
  taken_here identifier es i here = at (kept_of identifier es) refl
    where
      at : (k : Option HeldSubscription) → kept_of identifier es ≡ k → taken_at m more part es i ≡ with_taken identifier m more part k es
      at None is = absurd (some_here identifier es i here is)
      at (Some h) is = taken_found identifier es i h here is

module _ (number : ℕ) (wanted : AskedFor) where
  pub asked_at_is : (es : Holdings) (i : ℕ) (e : Name × HeldSubscription) → i < length es → e ≡ get_or es i e
      → set es i (e.0, asked meaning number wanted (Some e.1)) ≡ asked_at number wanted es i
  asked_at_is [] i e lt is = absurd (omega (arith, lt))
  asked_at_is (f ∷ es) zero e lt is = ap (λ (g : Name × HeldSubscription). (g.0, asked meaning number wanted (Some g.1)) ∷ es) is
  asked_at_is (f ∷ es) (suc i) e lt is = ap (λ l. f ∷ l) (asked_at_is es i e (omega (arith, lt)) is)

  pub asked_here : (identifier : Name) (es : Holdings) (i : ℕ) → IsHere (name_cmp identifier) es i
      → asked_at number wanted es i ≡ with_kept identifier (asked meaning number wanted (kept_of identifier es)) es
  asked_here identifier [] i here = absurd here
  asked_here identifier (e ∷ es) zero here = rw here
  asked_here identifier (e ∷ es) (suc i) here = rw (here.0) (ap (λ l. e ∷ l) (asked_here identifier es i here.1))
