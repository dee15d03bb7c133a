-- The length of a name.
use Rattle.std.proofs.Common.{◌≡◌, ℕ, zero, suc, ◌<◌, ◌≤◌, ◌&&◌, arith, nat_le, true, refl}
use Rattle.std.proofs.Math.Nat.{lt_of_not-le}
use Rattle.std.proofs.lemmas.Bool.{le-leb}

positive : (n : ℕ) → ¬ (n ≡ 0) → 1 ≤ n
positive zero some = absurd (some refl)
positive (suc n) some = omega arith

at_most : (n : ℕ) → ¬ (255 < n) → n ≤ 255
at_most n most = let below : n < 256 = lt_of_not-le (λ h. most (omega (arith, h))) in omega (arith, below)

-- the length of a name
pub name_bounds : (n : ℕ) → ¬ (n ≡ 0) → ¬ (255 < n) → (nat_le 1 n && nat_le n 255) ≡ true
name_bounds n some most = rw (le-leb 1 n (positive n some), le-leb n 255 (at_most n most)) refl
