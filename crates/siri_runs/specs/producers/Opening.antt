-- How a run of `serve` or `lite` opens: the number of its start is raised, it listens, and the clock tells its first moment.
use Rattle.std.specs.Prelude.{◌≡◌, ◌⊎◌, ℕ, List, [], ◌∷◌, Ok}
use Rattle.siri_outside.specs.OutsideCalls.{GivesMoment, RaisesNumber}
use Rattle.siri_outside.specs.Wires.{Listens}
use Rattle.siri_http.specs.Tallies.{nothing_yet}
use Rattle.siri_model.specs.History.{Start}
use Rattle.siri_runs.specs.Calls.{Call, Fails, Outside}
use Rattle.siri_runs.specs.Errors.{clock_error, keeper_error, wire_error}
use Rattle.siri_runs.specs.declared.network_error.NetworkError.{NetworkError}
use Rattle.siri_runs.specs.declared.network_error.NetworkError.TheVariants as errors
use Rattle.siri_runs.specs.Turns.{Running}
use Rattle.siri_runs.specs.producers.Serving.{Serving}

-- it opened under this number, at this moment
pub record Opens (listen : List ℕ) (start moment : ℕ) (from to : Outside) : Type 0 where
  pub raises : Call RaisesNumber (Ok start) from.keeper to.keeper
  pub listens : Call (Listens listen) (Ok (tt {0})) from.wire to.wire
  pub tells : Call GivesMoment (Ok moment) from.clock to.clock

-- a producer that started so, and nothing was counted yet
abbrev pub begun : (start moment : ℕ) → Serving
begun start moment = record { history = Start start moment ∷ []; tally = nothing_yet }

-- it opened, and such a producer runs
pub record BeginsServing (listen : List ℕ) (from : Outside) (first : Running Serving) : Type 0 where
  pub start : ℕ
  pub moment : ℕ
  pub opens : Opens listen start moment from first.outside
  pub state_is : first.state ≡ begun start moment

-- ---- how it ends there

-- the keeper failed, and nothing else was called
pub record FailsToRaise (error : NetworkError) (from to : Outside) : Type 0 where
  pub raises : Fails RaisesNumber keeper_error error from.keeper to.keeper
  pub rest : to ≡ record from { keeper = to.keeper }

-- the number was raised, and the wire failed to listen
pub record FailsToListen (listen : List ℕ) (error : NetworkError) (from to : Outside) : Type 0 where
  pub start : ℕ
  pub raises : Call RaisesNumber (Ok start) from.keeper to.keeper
  pub listens : Fails {T = Unit {0}} (Listens listen) wire_error error from.wire to.wire
  pub rest : to ≡ record from { keeper = to.keeper; wire = to.wire }

-- it listens, and the clock failed
pub record FailsToTell (listen : List ℕ) (error : NetworkError) (from to : Outside) : Type 0 where
  pub start : ℕ
  pub raises : Call RaisesNumber (Ok start) from.keeper to.keeper
  pub listens : Call (Listens listen) (Ok (tt {0})) from.wire to.wire
  pub tells : Fails GivesMoment clock_error error from.clock to.clock

-- it opened, and there was no memory for a producer
pub record HasNoProducer (listen : List ℕ) (error : NetworkError) (from to : Outside) : Type 0 where
  pub error_is : error ≡ errors.OutOfMemory
  pub start : ℕ
  pub moment : ℕ
  pub opens : Opens listen start moment from to

abbrev pub FailsToOpen : List ℕ → NetworkError → Outside → Outside → Type 0
FailsToOpen listen error from to =
    FailsToRaise error from to ⊎ (FailsToListen listen error from to ⊎ (FailsToTell listen error from to ⊎ HasNoProducer listen error from to))
