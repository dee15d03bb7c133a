-- Why a run over the network ends before its connections are served, and the status that it ends with.
use Rattle.siri_outside.specs.declared.errors.OutsideError.{OutsideError}
use Rattle.siri_outside.specs.declared.errors.OutsideError.TheVariants as outside
use Rattle.siri_base.specs.declared.status.Status.{Status}
use Rattle.siri_base.specs.declared.status.Status.TheVariants as status
use Rattle.siri_runs.specs.declared.network_error.NetworkError.{NetworkError}
use Rattle.siri_runs.specs.declared.network_error.NetworkError.TheVariants as error

-- a wire that fails to listen or to accept
abbrev pub wire_error : OutsideError → NetworkError
wire_error outside.Failed = error.WireFault
wire_error outside.OutOfMemory = error.OutOfMemory

-- a clock that fails
abbrev pub clock_error : OutsideError → NetworkError
clock_error outside.Failed = error.ClockFault
clock_error outside.OutOfMemory = error.OutOfMemory

-- a keeper that fails
abbrev pub keeper_error : OutsideError → NetworkError
keeper_error outside.Failed = error.KeeperFault
keeper_error outside.OutOfMemory = error.OutOfMemory

-- what stands beside an end, a shelf, that fails
abbrev pub shelf_error : OutsideError → NetworkError
shelf_error outside.Failed = error.ShelfFault
shelf_error outside.OutOfMemory = error.OutOfMemory

-- the status that a run ends with
abbrev pub status_of : NetworkError → Status
status_of error.WireFault = status.WireFault
status_of error.ClockFault = status.ClockFault
status_of error.KeeperFault = status.KeeperFault
status_of error.ShelfFault = status.ShelfFault
status_of error.OutOfMemory = status.OutOfMemory
