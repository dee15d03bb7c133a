-- The statuses of a run.
use Rattle.std.specs.Prelude.{Option, Some}
use Rattle.siri_base.specs.declared.status.Status.{Status}
use Rattle.siri_base.specs.declared.status.Status.TheVariants as status
use Rattle.siri_cli.specs.declared.command.Command.{Command}
use Rattle.siri_cli.specs.declared.command.Command.TheVariants.{Check, Convert, Load, Get, Serve, Lite, Consume, Relay}

-- the command reads one document
abbrev pub TakesDocument : Option Command → Type 0
TakesDocument (Some Check) = Unit {0}
TakesDocument (Some Convert) = Unit {0}
TakesDocument (Some (Get producer)) = Unit {0}
TakesDocument other = ⊥

-- the command tells what a document is
abbrev pub TellsDocument : Option Command → Type 0
TellsDocument (Some Check) = Unit {0}
TellsDocument (Some Convert) = Unit {0}
TellsDocument other = ⊥

-- the command asks a document of a producer
abbrev pub IsGet : Option Command → Type 0
IsGet (Some (Get producer)) = Unit {0}
IsGet other = ⊥

-- the command plays a load
abbrev pub IsLoad : Option Command → Type 0
IsLoad (Some (Load seed count)) = Unit {0}
IsLoad other = ⊥

-- the command is over the network
abbrev pub IsOnNetwork : Option Command → Type 0
IsOnNetwork (Some (Get producer)) = Unit {0}
IsOnNetwork (Some (Serve name listen count)) = Unit {0}
IsOnNetwork (Some (Lite name listen count)) = Unit {0}
IsOnNetwork (Some (Consume name listen producer count)) = Unit {0}
IsOnNetwork (Some (Relay name listen upstream count)) = Unit {0}
IsOnNetwork other = ⊥

-- the statuses of such a command that ended before anything was told
abbrev pub EndsEarly : Status → Type 0
EndsEarly (status.Script n why) = Unit {0}
EndsEarly (status.Limit n) = Unit {0}
EndsEarly status.ReadFault = Unit {0}
EndsEarly status.WireFault = Unit {0}
EndsEarly status.ClockFault = Unit {0}
EndsEarly status.KeeperFault = Unit {0}
EndsEarly other = ⊥

-- the command reads nothing
abbrev pub ReadsNothing : Option Command → Type 0
ReadsNothing (Some (Load seed count)) = Unit {0}
ReadsNothing (Some (Serve name listen count)) = Unit {0}
ReadsNothing (Some (Lite name listen count)) = Unit {0}
ReadsNothing other = ⊥

-- it reads its input to the end, where it does its work
abbrev pub ReadsInput : Option Command → Type 0
ReadsInput (Some (Load seed count)) = ⊥
ReadsInput (Some (Serve name listen count)) = ⊥
ReadsInput (Some (Lite name listen count)) = ⊥
ReadsInput other = Unit {0}

-- the command has no use for the clock and the keeper of the start number
abbrev pub UsesNone : Option Command → Type 0
UsesNone (Some (Serve name listen count)) = ⊥
UsesNone (Some (Lite name listen count)) = ⊥
UsesNone (Some (Consume name listen producer count)) = ⊥
UsesNone (Some (Relay name listen upstream count)) = ⊥
UsesNone other = Unit {0}

-- the command has no use for the wire
abbrev pub UsesNoWire : Option Command → Type 0
UsesNoWire (Some (Get producer)) = ⊥
UsesNoWire (Some (Serve name listen count)) = ⊥
UsesNoWire (Some (Lite name listen count)) = ⊥
UsesNoWire (Some (Consume name listen producer count)) = ⊥
UsesNoWire (Some (Relay name listen upstream count)) = ⊥
UsesNoWire other = Unit {0}
