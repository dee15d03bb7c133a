-- What a refusal of the database comes to.
use Rattle.std.specs.Prelude.{Option, Some, Result, Ok, Err}
use Rattle.sqlite.specs.declared.error.Error.{Error}
use Rattle.sqlite.specs.declared.error.Error.TheVariants as error
use Rattle.sqlite.specs.declared.error.ErrorCode.TheVariants as code
use Rattle.siri_outside.specs.declared.errors.OutsideError.{OutsideError}
use Rattle.siri_outside.specs.declared.errors.OutsideError.TheVariants as outside

-- want of memory is told as that; any other refusal is a fault of the shelf
abbrev pub refusal_of : Error → OutsideError
refusal_of (error.SqliteFailure code.OutOfMemory) = outside.OutOfMemory
refusal_of other = outside.Failed

-- what a call of the database comes to
abbrev pub outcome_of : {T : Type 0} → Result T Error → Result T OutsideError
outcome_of (Ok value) = Ok value
outcome_of (Err error) = Err (refusal_of error)

-- the last fault, after a call of the database: one that it refused for want of memory is none
abbrev pub fault_of : Option Error → Error → Option Error
fault_of before (error.SqliteFailure code.OutOfMemory) = before
fault_of before other = Some other

abbrev pub fault_after : {T : Type 0} → Option Error → Result T Error → Option Error
fault_after before (Ok value) = before
fault_after before (Err error) = fault_of before error
