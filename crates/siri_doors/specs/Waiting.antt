-- Inner words: cited by private functions alone. Places among the connections that wait.
use Rattle.siri_doors.specs.Decisions.{Step, waits_in}
use Rattle.siri_doors.specs.Gathered.{Asking}
use Rattle.siri_doors.specs.declared.outcome.Outcome.{Outcome}
use Rattle.std.specs.Prelude.{◌≡◌, ℕ, ◌<◌, List, length, take, false, true, nat_eq, slice_index_or}

-- the first of a slot stands at this place
pub record IsPlaceOf (slot : ℕ) (waiting : List Asking) (place : ℕ) : Type 0 where
  pub within : place < length waiting
  pub first : waits_in slot (take place waiting) ≡ false
  pub here : (default : Asking) → nat_eq (slice_index_or waiting place default).slot slot ≡ true

-- this waits after a step, and this is decided by it
abbrev pub Becomes : Step → List Asking → Outcome → Type 0
Becomes step waiting outcome = (waiting ≡ step.waiting) × (outcome ≡ step.outcome)
