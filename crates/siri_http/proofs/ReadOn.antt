-- A read that begins behind a whole message breaks `ReadsMessage`, where a failure is named there: so no body with such a read is proved.
use Rattle.std.proofs.Common.{◌≡◌, ℕ, ◌-◌, List, [], ◌∷◌, length, ap, ◌∙◌, arith, sym}
use Rattle.siri_outside.specs.Failures.{Passes}

no_longer : (n : ℕ) (l : List ℕ) → ¬ (l ≡ n ∷ l)
no_longer n l e = omega (arith, ap length e)

-- a failure that came after so many bytes isn't passed by
met : (f g h : List ℕ) (n m : ℕ) → Passes f g n → g ≡ 0 ∷ h → ¬ (Passes f h m)
met [] g h n m p q r = absurd (cc (p, q))
met (b ∷ l) g h n m p q r =
    let next : (b - n) ∷ l ≡ 0 ∷ h = sym p.1 ∙ q in
    let rest : l ≡ h = cc next in
    no_longer (b - m) l (rest ∙ r.1)
