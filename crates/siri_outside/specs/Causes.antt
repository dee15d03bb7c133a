-- When a call may answer that the outside failed.
use Rattle.std.specs.Prelude.{◌≡◌, ℕ, ◌+◌, ◌-◌, ◌^◌, ◌≤◌, min, Result, Ok, Err, OnErr, IsErrOf}
use Rattle.siri_outside.specs.declared.errors.OutsideError.{OutsideError}
use Rattle.siri_outside.specs.declared.errors.OutsideError.TheVariants as outside

-- a count of faults has risen, or stands at its type's end
abbrev pub Rose : ℕ → ℕ → Type 0
Rose before now = min (before + 1) (2 ^ 64 - 1) ≤ now

-- the count never falls, and a call that fails raised it
pub record HasCause {T E : Type 0} (before now : ℕ) (result : Result T E) : Type 0 where
  pub later : before ≤ now
  pub failed : OnErr result (Rose before now)

-- the same where want of memory may be answered too
pub record HasOutsideCause {T : Type 0} (before now : ℕ) (result : Result T OutsideError) : Type 0 where
  pub later : before ≤ now
  pub failed : IsErrOf result outside.Failed → Rose before now

-- The count is as it was, save after a call that failed. So it is where an object tells what it holds: its count rises by a named
-- failure, or where nothing is left.
abbrev pub CountsFailures : {T : Type 0} → ℕ → ℕ → Result T OutsideError → Type 0
CountsFailures before now (Ok value) = now ≡ before
CountsFailures before now (Err outside.Failed) = Unit {0}
CountsFailures before now (Err outside.OutOfMemory) = now ≡ before
