-- Which event doesn't happen, and what stays.
use Rattle.std.specs.Prelude.{◌≡◌, Err, if◌then◌else◌, Option, Some, None}
use Rattle.siri_world_model.specs.declared.event.Event.{Event}
use Rattle.siri_world_model.specs.declared.step_error.StepError.{StepError}
use Rattle.siri_world_model.specs.declared.step_error.StepError.TheVariants as error
use Rattle.siri_world_model.specs.World.{World}
use Rattle.siri_world_model.specs.Told.{told, is_early, passes_starts, passes_consumers}
use Rattle.siri_world.specs.Known.{Known}

-- the first refusal but for the packets
abbrev pub first_refusal : World → Event → Option StepError
first_refusal world event =
    if is_early world event then Some error.NotStarted
    else (if passes_starts world event then Some error.StartLimit
    else (if passes_consumers world event then Some error.ConsumerLimit else None))

-- an event doesn't happen by this reason; memory may be wanting at any that isn't refused but for its packets
abbrev pub Refuses : World → Event → StepError → Type 0
Refuses world event error.NotStarted = told world event ≡ Err error.NotStarted
Refuses world event error.StartLimit = told world event ≡ Err error.StartLimit
Refuses world event error.ConsumerLimit = told world event ≡ Err error.ConsumerLimit
Refuses world event error.PacketLimit = told world event ≡ Err error.PacketLimit
Refuses world event error.OutOfMemory = first_refusal world event ≡ None

-- nothing changed, unless the world is given up
abbrev pub Stays : StepError → Known → Known → Type 0
Stays error.NotStarted old new = new ≡ old
Stays error.StartLimit old new = new ≡ old
Stays error.ConsumerLimit old new = new ≡ old
Stays error.PacketLimit old new = Unit {0}
Stays error.OutOfMemory old new = Unit {0}
