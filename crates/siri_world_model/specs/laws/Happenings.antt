-- What happens in the network that a world is when an event happens in the world.
use Rattle.std.specs.Prelude.{ℕ, ℤ, zero, suc, nat_lt, Bool, true, false, List, [], ◌∷◌, ◌++◌, if◌then◌else◌, Option}
use Rattle.std.specs.Prelude.{Some, None}
use Rattle.siri_topic.specs.declared.subscription.Subscription.{Subscription}
use Rattle.siri_messages.specs.Asked.{AskedFor}
use Rattle.siri_life.specs.Named.{Name}
use Rattle.siri_life.specs.Network.{Happening, Starts, Clocks, Feeds, Asks, Stops, Requests, Delivers, restarts_of_all}
use Rattle.siri_model.specs.History.{Entry, entries_of}
use Rattle.siri_model.specs.Meaning.{meaning}
use Rattle.siri_base.specs.Numbers.{greatest_number}
use Rattle.siri_view.specs.Consuming.{Consuming}
use Rattle.siri_view.specs.Sending.{own}
use Rattle.siri_view.specs.declared.outcome.AskError.{AskError}
use Rattle.siri_world_model.specs.declared.event.Event.{Event}
use Rattle.siri_world_model.specs.declared.event.Event.TheVariants as event
use Rattle.siri_world_model.specs.declared.step_error.StepError.{StepError}
use Rattle.siri_world_model.specs.Consumers.{consumer_of, consumer_or_new}
use Rattle.siri_world_model.specs.Effects.{ask_refusal, lacks_numbers}
use Rattle.siri_world_model.specs.Told.{refusal, after}
use Rattle.siri_world_model.specs.World.{World, nothing}

abbrev pub Happens : Type 0
Happens = Happening AskedFor Entry

-- all that a consumer asks for with a subscription
abbrev pub asked_by : Consuming → Subscription → (beat : ℤ) → AskedFor
asked_by consumer wanted beat = record { subscription = own consumer.name wanted; address = consumer.address; beat = beat }

-- a consumer that is refused asks for nothing
abbrev pub asks_if : Option AskError → Consuming → Subscription → (beat : ℤ) → List Happens
asks_if (Some error) consumer wanted beat = []
asks_if None consumer wanted beat = Asks consumer.name wanted.identifier (asked_by consumer wanted beat) ∷ []

abbrev pub asks : Consuming → Subscription → (beat : ℤ) → List Happens
asks consumer wanted beat = asks_if (ask_refusal consumer wanted) consumer wanted beat

-- nor does one end anything that isn't there, or whose numbers are used up
abbrev pub stops : Option Consuming → (identifier : Name) → List Happens
stops None identifier = []
stops (Some consumer) identifier = if nat_lt greatest_number consumer.next_number then [] else Stops consumer.name identifier ∷ []

-- one that restarts asks for all of each subscription that it holds, one after the other, unless its numbers are used
-- up before
abbrev pub restarts_if : (lacks : Bool) → Consuming → List Happens
restarts_if true consumer = []
restarts_if false consumer = restarts_of_all meaning consumer.name consumer.held

abbrev pub restarts : Option Consuming → List Happens
restarts None = []
restarts (Some consumer) = restarts_if (lacks_numbers consumer) consumer

abbrev pub questions : Option Consuming → List Happens
questions None = []
questions (Some consumer) = Requests consumer.name ∷ []

-- packets are numbered from 1, and letters from 0
abbrev pub deliveries : (number : ℕ) → List Happens
deliveries zero = []
deliveries (suc before) = Delivers before ∷ []

-- what an event is there, where no limit refuses it
unfoldable pub happening : World → Event → List Happens
happening world (event.Start moment) = Starts moment ∷ []
happening world (event.Clock moment) = Clocks moment ∷ []
happening world (event.Feed delivery) = Feeds (entries_of delivery) ∷ []
happening world (event.Ask request) = []
happening world (event.Subscribe name wanted beat) = asks (consumer_or_new world.moment name (consumer_of name world.consumers)) wanted beat
happening world (event.Terminate name identifier) = stops (consumer_of name world.consumers) identifier
happening world (event.Restart name) = restarts (consumer_of name world.consumers)
happening world (event.Status name) = questions (consumer_of name world.consumers)
happening world (event.Deliver number) = deliveries number
happening world (event.View name identifier) = []

abbrev pub happening_if : Option StepError → World → Event → List Happens
happening_if (Some error) world event = []
happening_if None world event = happening world event

-- what an event is there; one that is refused doesn't happen
abbrev pub happenings : World → Event → List Happens
happenings world event = happening_if (refusal world event) world event

-- what some events are there, one after the other, from a world on
abbrev pub happened_from : World → List Event → List Happens
happened_from world [] = []
happened_from world (event ∷ events) = happenings world event ++ happened_from (after world event) events

-- and from nothing on
abbrev pub happened : List Event → List Happens
happened events = happened_from nothing events
