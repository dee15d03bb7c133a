-- Numbers of which those beyond 180 degrees aren't told apart.
use Rattle.std.proofs.Common.{◌≡◌, ℕ, ◌+◌, ◌*◌, ◌-◌, ◌≤◌, List, [], ◌∷◌, min, arith}
use Rattle.siri_tables.specs.Scalars.{number_on}

step : (k a b : ℕ) → min 1800000001 a ≡ min 1800000001 b → min 1800000001 (10 * a + k) ≡ min 1800000001 (10 * b + k)
step k a b e = omega (arith, e)

pub capped : (ds : List ℕ) (a b : ℕ) → min 1800000001 a ≡ min 1800000001 b → min 1800000001 (number_on a ds) ≡ min 1800000001 (number_on b ds)
capped [] a b e = e
capped (d ∷ ds) a b e = capped ds (10 * a + (d - 48)) (10 * b + (d - 48)) (step (d - 48) a b e)

same : (a : ℕ) → min 1800000001 (min 1800000001 a) ≡ min 1800000001 a
same a = omega arith

smaller : (a : ℕ) → min 1800000001 (min a 1800000001) ≡ min 1800000001 a
smaller a = omega arith

pub most : (a : ℕ) → min a 1800000001 ≤ 1800000001
most a = omega arith

-- what was capped before is capped after
pub capped_twice : (ds : List ℕ) (a : ℕ) → min 1800000001 (number_on (min 1800000001 a) ds) ≡ min 1800000001 (number_on a ds)
capped_twice ds a = capped ds (min 1800000001 a) a (same a)

-- one digit more
pub next : (number d : ℕ) (ds : List ℕ) → min 1800000001 (number_on (min (10 * number + (d - 48)) 1800000001) ds) ≡ min 1800000001 (number_on number (d ∷ ds))
next number d ds = capped ds (min (10 * number + (d - 48)) 1800000001) (10 * number + (d - 48)) (smaller (10 * number + (d - 48)))
