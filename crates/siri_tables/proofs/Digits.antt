-- Numbers of few digits are small.
use Rattle.std.proofs.Common.{ℕ, ◌≤◌, ◌<◌, length, arith}
use Rattle.std.specs.Fmt.{decimal}
use Rattle.std.proofs.lemmas.Fmt.{length-decimal-le}

pub decimal_short : (n : ℕ) → n < 10000000000000 → length (decimal n) ≤ 13
decimal_short n h = length-decimal-le 13 n (omega arith) (omega (arith, h)) (omega arith)
