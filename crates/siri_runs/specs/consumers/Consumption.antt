-- A consumer that answers connections (EN 15531-2 for what is said, RFC 9112 for how).
use Rattle.std.specs.Prelude.{◌≡◌, ◌⊎◌, ℕ, List, [], ◌∷◌, map}
use Rattle.siri_outside.specs.Wires.{WireState}
use Rattle.siri_http.specs.Tallies.{nothing_yet}
use Rattle.siri_http.specs.declared.tally.Tally.{Tally}
use Rattle.siri_messages.specs.declared.message.Message.{Message}
use Rattle.siri_topic.specs.declared.subscription.Subscription.{Subscription}
use Rattle.siri_view.specs.Consuming.{Consuming, after_subscribe, clocked, request_for}
use Rattle.siri_wire.specs.declared.wanted.Wanted.{Wanted}
use Rattle.siri_ends.specs.At.{At, at_of}
use Rattle.siri_ends.specs.Consuming.{ConsumesOne, ConsumesSome, FirstSendsUp, SendsUp}
use Rattle.siri_runs.specs.Calls.{Outside, Told}
use Rattle.siri_runs.specs.Run.{Turning}
use Rattle.siri_runs.specs.Turns.{NeverRefuses, Running, StopsForMemory}
use Rattle.siri_runs.specs.declared.network_error.NetworkError.{NetworkError}

-- the consumer, and what was counted
pub record Consumption : Type 0 where
  pub consumer : Consuming
  pub tally : Tally

-- the consumer is given a moment
abbrev pub given : ℕ → Consumption → Consumption
given moment state = record state { consumer = clocked state.consumer moment }

-- the same over a wire, as an end of an exchange
abbrev pub end_at : Consumption → Told WireState → At Consuming
end_at state wire = at_of state.consumer state.tally wire.tells wire.faults

-- the producer's address: a host with its port, and a path
abbrev pub Target : Type 0
Target = List ℕ × List ℕ

-- ---- what is asked for at first

-- the subscriptions that are wanted
abbrev pub subscriptions : List Wanted → List Subscription
subscriptions list = map (λ wanted. wanted.subscription) list

-- one request for all that is wanted, with the interval of heartbeats of the first; nothing where nothing is wanted
abbrev pub requests : Consuming → List Wanted → List Message
requests consumer [] = []
requests consumer (first ∷ rest) = request_for consumer (subscriptions (first ∷ rest)) first.beat ∷ []

-- the consumer after it
abbrev pub after_asking : Consuming → List Wanted → Consuming
after_asking consumer [] = consumer
after_asking consumer (first ∷ rest) = after_subscribe consumer (subscriptions (first ∷ rest)) first.beat

-- a consumer that has asked, before anything was sent
abbrev pub asking : Consuming → List Wanted → Told WireState → At Consuming
asking consumer list wire = at_of (after_asking consumer list) nothing_yet wire.tells wire.faults

-- the request goes to the producer, whose response is taken; its replies are sent as well
pub record ConsumerAsks (target : Target) (list : List Wanted) (consumer : Consuming) (from : Outside) (to : Running Consumption) : Type 0 where
  pub sends : SendsUp target.0 target.1 (requests consumer list) (asking consumer list from.wire) (end_at to.state to.outside.wire)
  pub rest : to.outside ≡ record from { wire = to.outside.wire }

-- there was no memory to ask: nothing was sent, or the first of that
pub record ConsumerAsksSome (target : Target) (list : List Wanted) (consumer : Consuming) (from to : Outside) : Type 0 where
  pub sends : (to.wire ≡ from.wire) ⊎ FirstSendsUp target.0 target.1 (requests consumer list) (after_asking consumer list) from.wire.tells to.wire.tells
  pub rest : to ≡ record from { wire = to.wire }

-- ---- its turns

-- the connection that is there is answered, whole, and further replies are sent
abbrev pub Consumes : Target → Consumption → Told WireState → Consumption → Told WireState → Type 0
Consumes target from before to after = ConsumesOne target.0 target.1 (end_at from before) (end_at to after)

-- for want of memory the first steps of that were made
abbrev pub StopsConsuming : Target → NetworkError → Consumption → Told WireState → Told WireState → Type 0
StopsConsuming target error from before after =
    StopsForMemory (λ state old new. ConsumesSome target.0 target.1 (end_at state old) new.tells) error from before after

abbrev pub turning : Target → Turning Consumption
turning target = record { given = given; Refuses = NeverRefuses; Answers = Consumes target; Stops = StopsConsuming target }
