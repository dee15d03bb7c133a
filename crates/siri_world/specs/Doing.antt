-- Inner words: cited by private functions alone. What the machine does in an event, as the effect of the event.
use Rattle.std.specs.Prelude.{◌≡◌, ℕ, ◌<◌, ◌≤◌, IsSome}
use Rattle.siri_world_model.specs.declared.event.Event.{Event}
use Rattle.siri_world_model.specs.declared.event.Event.TheVariants as event
use Rattle.siri_world_model.specs.declared.step_error.StepError.{StepError}
use Rattle.siri_world_model.specs.declared.step_error.StepError.TheVariants as error
use Rattle.siri_world_model.specs.Lines.{told_lines}
use Rattle.siri_world_model.specs.World.{World}
use Rattle.siri_world_model.specs.Effects.{Effect}
use Rattle.siri_world_model.specs.Told.{most_starts, most_packets}
use Rattle.siri_world.specs.declared.happened.Happened.{Happened}
use Rattle.siri_world.specs.Kept.{sent_packets}
use Rattle.siri_world.specs.Known.{Known, Knows}

-- a start is within its limit, and any other event comes after one
abbrev pub CanHappen : Known → Event → Type 0
CanHappen known (event.Start moment) = known.starts < most_starts
CanHappen known other = IsSome known.producer

-- with so many packets there are too many; or there aren't, and memory is wanting
abbrev pub IsFull : StepError → ℕ → Type 0
IsFull error.PacketLimit packets = most_packets < packets
IsFull error.OutOfMemory packets = packets ≤ most_packets
IsFull error.NotStarted packets = ⊥
IsFull error.StartLimit packets = ⊥
IsFull error.ConsumerLimit packets = ⊥

-- this was done: its lines are told, its packets are to be sent, and its world is known
pub record Does (effect : Effect) (happened : Happened) (new : Known) : Type 0 where
  pub lines : told_lines happened.lines ≡ effect.lines
  pub packets : sent_packets happened.packets ≡ effect.packets
  pub world : Knows new effect.world

-- by any world that was known
abbrev pub Happens : Known → Known → (World → Effect) → Happened → Type 0
Happens old new effect happened = (world : World) → Knows old world → Does (effect world) happened new
