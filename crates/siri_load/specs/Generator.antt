-- What is drawn: a linear congruential generator over 64 bits.
use Rattle.std.specs.Prelude.{ℕ, ◌+◌, ◌*◌, ◌/◌, ◌%◌, ◌^◌}

-- the number after a number
abbrev pub next : ℕ → ℕ
next number = (6364136223846793005 * number + 1442695040888963407) % 2 ^ 64

-- what a number gives, of 0 up to one below this
abbrev pub drawn : (number below : ℕ) → ℕ
drawn number below = (number / 2 ^ 33) % below
