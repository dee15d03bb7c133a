-- An end at a moment of its run.
use Rattle.std.specs.Prelude.{◌≡◌, ℕ, Option}
use Rattle.siri_outside.specs.Wires.{WireState}
use Rattle.siri_http.specs.declared.tally.Tally.{Tally}

-- its state, what was counted, what the wire tells, where it does, and how often it failed
pub record At (State : Type 0) : Type 0 where
  pub state : State
  pub tally : Tally
  pub wire : Option WireState
  pub faults : ℕ

abbrev pub at_of : {State : Type 0} → State → Tally → Option WireState → ℕ → At State
at_of state tally wire faults = record { state = state; tally = tally; wire = wire; faults = faults }

-- what surrounds an end: what was counted, what the wire tells, where it does, and how often it failed
pub record Surroundings : Type 0 where
  pub tally : Tally
  pub wire : Option WireState
  pub faults : ℕ

abbrev pub surroundings : Tally → Option WireState → ℕ → Surroundings
surroundings tally wire faults = record { tally = tally; wire = wire; faults = faults }

abbrev pub around : {State : Type 0} → At State → Surroundings
around at = surroundings at.tally at.wire at.faults

-- an end as it is, in a state that it stands for
abbrev pub stood_for : {Own State : Type 0} → At Own → State → At State
stood_for own state = at_of state own.tally own.wire own.faults

-- A call does this: whatever state the end stood for before it, it stands for the one that the call leaves. What it keeps
-- as long as it runs stays.
pub record Goes {Own Identity State : Type 0} (identity : Own → Identity) (stands : Own → State → Type 0)
    (Does : Identity → At State → At State → Type 0) (old new : At Own) : Type 0 where
  pub keeps : identity new.state ≡ identity old.state
  pub goes : (s : State) → stands old.state s → (after : State) × stands new.state after
      × Does (identity old.state) (stood_for old s) (stood_for new after)

-- ---- with what stands beside it, by whether that is as the end left it, in a state that it stands for

-- a call does this, and what stands beside the end is afterwards as the end left it, where it was so before
abbrev pub Holding : {Own Beside State : Type 0} → (holds : Own → Beside → State → Type 0) → (Does : At State → At State → Type 0)
    → (old : Own) (was : Beside) (new : Own) (is : Beside) → At State → At State → Type 0
Holding holds Does old was new is at end = Does at end × (holds old was at.state → holds new is end.state)

-- the same of a call that isn't lent it, whatever it is
abbrev pub HoldingAny : {Own Beside State : Type 0} → (holds : Own → Beside → State → Type 0) → (Does : At State → At State → Type 0)
    → (old new : Own) → At State → At State → Type 0
HoldingAny {Beside = Beside} holds Does old new at end =
    Does at end × ((beside : Beside) → holds old beside at.state → holds new beside end.state)
