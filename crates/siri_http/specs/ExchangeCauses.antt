-- What calls answer, and when they may answer that the wire failed.
use Rattle.std.specs.Prelude.{◌≡◌, ℕ, ◌≤◌, Bool, false, Option, None, Some, Result, Ok, Err}
use Rattle.siri_outside.specs.Causes.{Rose}
use Rattle.siri_http.specs.declared.asked.Asked.{Asked}
use Rattle.siri_http.specs.declared.asked.Asked.TheVariants as asked
use Rattle.siri_http.specs.declared.posting.Sent.{Sent}
use Rattle.siri_http.specs.declared.posting.Sent.TheVariants as sent

-- what a call answers, unless there was no memory
abbrev pub outcome : {T E : Type 0} → Result T E → Option T
outcome (Ok value) = Some value
outcome (Err error) = None

-- the count never falls, and this answer comes only where it rose
pub record HasFaultCause {T : Type 0} (before now : ℕ) (failed : T) (outcome : Option T) : Type 0 where
  pub later : before ≤ now
  pub rose : outcome ≡ Some failed → Rose before now

abbrev pub HasAskedCause : ℕ → ℕ → Option Asked → Type 0
HasAskedCause before now outcome = HasFaultCause before now asked.Failed outcome

-- a response that wasn't written whole
abbrev pub HasResponseCause : ℕ → ℕ → Option Bool → Type 0
HasResponseCause before now outcome = HasFaultCause before now false outcome

abbrev pub HasSentCause : ℕ → ℕ → Option Sent → Type 0
HasSentCause before now outcome = HasFaultCause before now sent.Failed outcome
