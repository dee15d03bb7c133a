-- A shelf in memory: which of its calls fail.
use Rattle.std.specs.Prelude.{◌≡◌, ℕ, ◌+◌, ◌-◌, ◌^◌, min, nat_le, List, Bool, true, false, ◌||◌, ◌==◌, Option, None, Some, IsErr, IsErrOf, Result}
use Rattle.std.specs.List.{list_any}
use Rattle.siri_outside.specs.declared.errors.OutsideError.{OutsideError}
use Rattle.siri_outside.specs.declared.errors.OutsideError.TheVariants as outside
use Rattle.siri_outside.specs.Shelves.{ShelfState}

-- what it holds, and what is to come of its calls, which are counted from 0
pub record InMemory : Type 0 where
  pub state : ShelfState
  pub is_open : Bool
  -- the calls that fail, and one from which on all of them do
  pub fails : List ℕ
  pub stop : Option ℕ
  -- how many there were
  pub calls : ℕ
  pub faults : ℕ

-- whether a call isn't before the stop
abbrev pub is_stopped : Option ℕ → ℕ → Bool
is_stopped None call = false
is_stopped (Some stop) call = nat_le stop call

-- whether the next call fails
abbrev pub is_failing : InMemory → Bool
is_failing shelf = is_stopped shelf.stop shelf.calls || list_any (λ call. call == shelf.calls) shelf.fails

-- It was called once: what fails, and where it stops, stays.
pub record Called (old new : InMemory) : Type 0 where
  pub calls : new.calls ≡ min (old.calls + 1) (2 ^ 64 - 1)
  pub fails : new.fails ≡ old.fails
  pub stop : new.stop ≡ old.stop

-- The call fails where it is to fail, unless memory is wanting first, and nowhere else.
pub record FailsWhere {T : Type 0} (old : InMemory) (result : Result T OutsideError) : Type 0 where
  pub only : IsErrOf result outside.Failed → is_failing old ≡ true
  pub always : is_failing old ≡ true → IsErr result
