-- What is told of an event, or why it doesn't happen, and the world after a list of events.
use Rattle.std.specs.Prelude.{ℕ, ◌+◌, nat_le, nat_lt, List, length, fold, Bool, true, false, not, ◌&&◌, if◌then◌else◌, Option, Some, None, Result, Ok, Err}
use Rattle.siri_world_model.specs.declared.event.Event.{Event}
use Rattle.siri_world_model.specs.declared.event.Event.TheVariants as event
use Rattle.siri_world_model.specs.declared.step_error.StepError.{StepError}
use Rattle.siri_world_model.specs.declared.step_error.StepError.TheVariants as error
use Rattle.siri_world_model.specs.Lines.{ToldLine}
use Rattle.siri_world_model.specs.Consumers.{is_known}
use Rattle.siri_world_model.specs.World.{World, nothing}
use Rattle.siri_world_model.specs.Effects.{effect, all_lines, with_packets}

-- ---- limits

-- how often the producer starts at most
abbrev pub most_starts : ℕ
most_starts = 1000000

-- how many packets are sent at most
abbrev pub most_packets : ℕ
most_packets = 1000000

-- how many consumers are made at most
abbrev pub most_consumers : ℕ
most_consumers = 16

-- ---- refusals

-- the producer starts
abbrev pub is_start : Event → Bool
is_start (event.Start moment) = true
is_start other = false

-- an event makes a consumer: one that wasn't used before subscribes
abbrev pub makes_consumer : World → Event → Bool
makes_consumer world (event.Subscribe name wanted beat) = not (is_known name world.consumers)
makes_consumer world other = false

-- it isn't a start, and none came before
abbrev pub is_early : World → Event → Bool
is_early world event = not (is_start event) && nat_le (length world.starts) 0

-- it is a start too many
abbrev pub passes_starts : World → Event → Bool
passes_starts world event = is_start event && nat_le most_starts (length world.starts)

-- it makes a consumer too many
abbrev pub passes_consumers : World → Event → Bool
passes_consumers world event = makes_consumer world event && nat_le most_consumers (length world.consumers)

-- it sends a packet too many
abbrev pub passes_packets : World → Event → Bool
passes_packets world event = nat_lt most_packets (length world.packets + length (effect world event).packets)

-- why an event doesn't happen: the first that holds
unfoldable pub refusal : World → Event → Option StepError
refusal world event =
    if is_early world event then Some error.NotStarted
    else (if passes_starts world event then Some error.StartLimit
    else (if passes_consumers world event then Some error.ConsumerLimit
    else (if passes_packets world event then Some error.PacketLimit else None)))

-- ---- what is told

abbrev pub told_if : Option StepError → World → Event → Result (List ToldLine) StepError
told_if (Some error) world event = Err error
told_if None world event = Ok (all_lines world (effect world event))

-- the lines of an event, or why it doesn't happen
abbrev pub told : World → Event → Result (List ToldLine) StepError
told world event = told_if (refusal world event) world event

-- ---- the world after events

abbrev pub after_if : Option StepError → World → Event → World
after_if (Some error) world event = world
after_if None world event = with_packets (effect world event)

-- the world after an event; one that doesn't happen changes nothing
abbrev pub after : World → Event → World
after world event = after_if (refusal world event) world event

-- the world after some events, from nothing on
abbrev pub world_after : List Event → World
world_after events = fold after nothing events
