-- A relay that answers connections (EN 15531-2 for what is said, RFC 9112 for how).
use Rattle.std.specs.Prelude.{◌≡◌, ℕ, List, ◌++◌}
use Rattle.siri_outside.specs.Wires.{WireState}
use Rattle.siri_http.specs.Tallies.{nothing_yet}
use Rattle.siri_http.specs.declared.tally.Tally.{Tally}
use Rattle.siri_relay.specs.Relaying.{moment_steps, upper_clocked}
use Rattle.siri_ends.specs.At.{At, at_of}
use Rattle.siri_runs.specs.Calls.{Outside, Told}
use Rattle.siri_runs.specs.Run.{Turning}
use Rattle.siri_runs.specs.Turns.{Running, StopsForMemory}
use Rattle.siri_runs.specs.declared.network_error.NetworkError.{NetworkError}
use Rattle.siri_runs.specs.declared.network_error.NetworkError.TheVariants as errors
use Rattle.siri_relay_run.specs.Relays.{FirstGoings, Relaying, RelaysOne, RelaysSome, SendsGoings}
use Rattle.siri_relay_run.specs.declared.going.Going.{Going}

-- what a relay keeps as long as it runs: its name, and its source's address, a host with its port and a path
pub record Parties : Type 0 where
  pub name : List ℕ
  pub host : List ℕ
  pub path : List ℕ

-- the relay, and what was counted
pub record Passing : Type 0 where
  pub relay : Relaying
  pub tally : Tally

-- the relay is given a moment: what is missing is fed first
abbrev pub after_moment : ℕ → Relaying → Relaying
after_moment moment relay = record {
  history = relay.history ++ moment_steps relay.upper moment;
  upper = upper_clocked relay.upper moment;
}

abbrev pub given : ℕ → Passing → Passing
given moment state = record state { relay = after_moment moment state.relay }

-- there was no memory to feed what is missing
abbrev pub Refuses : NetworkError → Passing → Type 0
Refuses error state = error ≡ errors.OutOfMemory

-- the same over a wire, as an end of an exchange
abbrev pub end_at : Passing → Told WireState → At Relaying
end_at state wire = at_of state.relay state.tally wire.tells wire.faults

-- ---- what is sent at first

-- messages are sent, before anything was counted
pub record RelayAsks (parties : Parties) (list : List Going) (relay : Relaying) (from : Outside) (to : Running Passing) : Type 0 where
  pub sends : SendsGoings parties.host parties.path parties.name list
      (at_of relay nothing_yet from.wire.tells from.wire.faults) (end_at to.state to.outside.wire)
  pub rest : to.outside ≡ record from { wire = to.outside.wire }

-- there was no memory to send them: the first of that was done
pub record RelayAsksSome (parties : Parties) (list : List Going) (relay : Relaying) (from to : Outside) : Type 0 where
  pub sends : FirstGoings parties.host parties.path parties.name list relay from.wire.tells to.wire.tells
  pub rest : to ≡ record from { wire = to.wire }

-- ---- its turns

-- the connection that is there is answered, whole, and what comes of it is sent
abbrev pub Passes : Parties → Passing → Told WireState → Passing → Told WireState → Type 0
Passes parties from before to after = RelaysOne parties.host parties.path parties.name (end_at from before) (end_at to after)

-- for want of memory the first steps of that were made
abbrev pub StopsPassing : Parties → NetworkError → Passing → Told WireState → Told WireState → Type 0
StopsPassing parties error from before after = StopsForMemory
    (λ state old new. RelaysSome parties.host parties.path parties.name (end_at state old) new.tells) error from before after

abbrev pub turning : Parties → Turning Passing
turning parties = record { given = given; Refuses = Refuses; Answers = Passes parties; Stops = StopsPassing parties }
