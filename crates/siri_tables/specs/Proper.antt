-- Proper values: those that a rule can give.
use Rattle.std.specs.Prelude.{ℕ, ◌<◌, ◌≤◌, ◌^◌, ℤ, pos, negsuc, unsigned_abs, List, length, IsUtf8}
use Rattle.std.specs.List.{AllByRecursion}

-- a text of 1 to so many bytes
pub record IsTextWithin (most : ℕ) (t : List ℕ) : Type 0 where
  pub some : 1 ≤ length t
  pub bound : length t ≤ most
  pub utf8 : IsUtf8 t

abbrev pub IsName : List ℕ → Type 0
IsName t = IsTextWithin 255 t

abbrev pub IsText : List ℕ → Type 0
IsText t = IsTextWithin 16384 t

-- up to the last millisecond of the year 9999
abbrev pub IsMoment : ℕ → Type 0
IsMoment m = m ≤ 253402300799999

-- at most 1,000,000 days
abbrev pub IsSpan : ℤ → Type 0
IsSpan s = unsigned_abs s ≤ 86400000000000

-- a span that isn't negative, of at most 1,000,000 days
abbrev pub IsNonNegativeSpan : ℤ → Type 0
IsNonNegativeSpan (pos n) = n ≤ 86400000000000
IsNonNegativeSpan (negsuc n) = ⊥

-- at most 18 digits
abbrev pub IsNumber : ℕ → Type 0
IsNumber n = n < 10 ^ 18

-- at most 180 degrees
abbrev pub IsDecimal : ℤ → Type 0
IsDecimal z = unsigned_abs z ≤ 1800000000

-- at most so many elements, each of them proper
pub record IsListWithin {A : Type 0} (most : ℕ) (P : A → Type 0) (xs : List A) : Type 0 where
  pub bound : length xs ≤ most
  pub each : AllByRecursion P xs
