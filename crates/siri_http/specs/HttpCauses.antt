-- When a read or a write may answer that the wire failed.
use Rattle.std.specs.Prelude.{ℕ, ◌≤◌, Result, IsErrOf, ⊤}
use Rattle.siri_outside.specs.Causes.{Rose}
use Rattle.siri_http.specs.declared.errors.HttpError.{HttpError}
use Rattle.siri_http.specs.declared.errors.HttpError.TheVariants as http

-- the count never falls; a read that failed raised it, and nothing was written that could fail
pub record HasReadCause {T : Type 0} (before now : ℕ) (result : Result T HttpError) : Type 0 where
  pub later : before ≤ now
  pub failed : IsErrOf result http.ReadFault → Rose before now
  pub unwritten : ¬ (IsErrOf result http.WriteFault)

-- the count never falls, and a write that failed raised it
pub record HasWriteCause {T : Type 0} (before now : ℕ) (result : Result T HttpError) : Type 0 where
  pub later : before ≤ now
  pub failed : IsErrOf result http.WriteFault → Rose before now

-- what a write that isn't whole ends with: a failure of the wire, or want of memory
abbrev pub EndsWrite : HttpError → Type 0
EndsWrite http.WriteFault = ⊤
EndsWrite http.OutOfMemory = ⊤
EndsWrite other = ⊥
