-- What a restart makes of what is kept, at a place and of so many from the front, and what it asks for.
use Rattle.std.proofs.Common.{◌≡◌, ℕ, suc, zero, ◌+◌, ◌<◌, [], ◌∷◌, ◌++◌, length, take, get_or, set, refl, ap, sym, arith}
use Rattle.siri_life.specs.Link.{restarted}
use Rattle.siri_life.specs.Named.{Name}
use Rattle.siri_life.specs.Network.{restarted_from}
use Rattle.siri_view.specs.Consuming.{all_data_from}
use Rattle.siri_view.specs.Kept.{meaning, HeldSubscription, Holdings}
use Rattle.siri_view.specs.Places.{restarted_at, restarted_to}
use Rattle.siri_view.specs.Sending.{all_data_request}

pub restarted_at_is : (number : ℕ) (es : Holdings) (i : ℕ) (e : Name × HeldSubscription) → i < length es → e ≡ get_or es i e
    → set es i (e.0, restarted meaning number e.1) ≡ restarted_at number es i
restarted_at_is number [] i e lt is = absurd (omega (arith, lt))
restarted_at_is number (f ∷ es) zero e lt is = ap (λ (g : Name × HeldSubscription). (g.0, restarted meaning number g.1) ∷ es) is
restarted_at_is number (f ∷ es) (suc i) e lt is = ap (λ l. f ∷ l) (restarted_at_is number es i e (omega (arith, lt)) is)

pub one_more_restarted : (es : Holdings) (count first number : ℕ) → number ≡ first + count
    → restarted_at number (restarted_to count first es) count ≡ restarted_to (suc count) first es
one_more_restarted [] zero first number is = refl
one_more_restarted [] (suc count) first number is = refl
one_more_restarted (e ∷ es) zero first number is = ap (λ n. (e.0, restarted meaning n e.1) ∷ es) (omega (arith, is))
one_more_restarted (e ∷ es) (suc count) first number is =
    ap (λ l. (e.0, restarted meaning first e.1) ∷ l) (one_more_restarted es count (suc first) number (omega (arith, is)))

pub all_restarted : (es : Holdings) (count first : ℕ) → count ≡ length es → restarted_to count first es ≡ restarted_from meaning first es
all_restarted [] zero first is = refl
all_restarted [] (suc count) first is = refl
all_restarted (e ∷ es) zero first is = absurd (omega (arith, is))
all_restarted (e ∷ es) (suc count) first is =
    ap (λ l. (e.0, restarted meaning first e.1) ∷ l) (all_restarted es count (suc first) (omega (arith, is)))

pub more_requests : (name : Name) (now first : ℕ) (es : Holdings) (i : ℕ) (e : Name × HeldSubscription) (number : ℕ) → i < length es
    → e ≡ get_or es i e → number ≡ first + i
    → all_data_from name now first (take (suc i) es) ≡ all_data_from name now first (take i es) ++ all_data_request name now e.0 number e.1.base ∷ []
more_requests name now first [] i e number lt is at = absurd (omega (arith, lt))
more_requests name now first (f ∷ es) zero e number lt is at =
    let n : first ≡ number = omega (arith, at) in
    λ j. all_data_request name now (sym is j).0 (n j) (sym is j).1.base ∷ []
more_requests name now first (f ∷ es) (suc i) e number lt is at =
    ap (λ l. all_data_request name now f.0 first f.1.base ∷ l)
    (more_requests name now (suc first) es i e number (omega (arith, lt)) is (omega (arith, at)))
