-- How a run of `consume` opens: the number of its start is raised, its lines are read, the clock tells its first moment, and it
-- listens.
use Rattle.std.specs.Prelude.{◌≡◌, ◌⊎◌, ◌*◌, ℕ, List, [], ◌++◌, codes, Some, Ok}
use Rattle.siri_outside.specs.OutsideCalls.{GivesMoment, RaisesNumber}
use Rattle.siri_outside.specs.Wires.{Listens}
use Rattle.siri_base.specs.declared.status.Status.{Status}
use Rattle.siri_base.specs.declared.status.Status.TheVariants as status
use Rattle.siri_lines.specs.Ends.{Bytes}
use Rattle.siri_view.specs.Consuming.{Consuming}
use Rattle.siri_wire.specs.declared.wanted.Wanted.{Wanted}
use Rattle.siri_runs.specs.Calls.{Call, Fails, Outside}
use Rattle.siri_runs.specs.Errors.{clock_error, keeper_error, status_of, wire_error}
use Rattle.siri_runs.specs.declared.network_error.NetworkError.{NetworkError}
use Rattle.siri_runs.specs.consumers.Reading.{EndsReading, StopsAt, Wants}
use Rattle.siri_runs.specs.consumers.Wanting.{most_wanted}

-- it opened with the number of its start, what its lines want, and a moment
pub record Opens (name listen : List ℕ) (input : Bytes) (start : ℕ) (list : List Wanted) (moment : ℕ) (from to : Outside) : Type 0 where
  pub raises : Call RaisesNumber (Ok start) from.keeper to.keeper
  pub wants : Wants most_wanted name input list
  pub tells : Call GivesMoment (Ok moment) from.clock to.clock
  pub listens : Call (Listens listen) (Ok (tt {0})) from.wire to.wire

-- where its deliveries are to be sent: `http://LISTEN/`
abbrev pub own_address : List ℕ → List ℕ
own_address listen = codes "http://" ++ (listen ++ codes "/")

-- the consumer after it: its first request has a number of 1,000,000 times that of its start, so that no number comes again
abbrev pub opened : (name listen : List ℕ) → (start moment : ℕ) → Consuming
opened name listen start moment = record { name = name; address = Some (own_address listen); next_number = 1000000 * start; moment = moment; held = [] }

-- ---- how it ends there

-- the keeper failed, and nothing else was done
pub record FailsToRaise (end : Status) (from to : Outside) : Type 0 where
  pub error : NetworkError
  pub end_is : end ≡ status_of error
  pub raises : Fails RaisesNumber keeper_error error from.keeper to.keeper
  pub rest : to ≡ record from { keeper = to.keeper }

-- the number was raised, and its lines, of at most so many, ended the run
pub record FailsToRead (most : ℕ) (name : List ℕ) (input left : Bytes) (end : Status) (from to : Outside) : Type 0 where
  pub start : ℕ
  pub raises : Call RaisesNumber (Ok start) from.keeper to.keeper
  pub stops : StopsAt most name input left end
  pub ends : EndsReading end
  pub rest : to ≡ record from { keeper = to.keeper }

-- its lines are good, and the clock failed
pub record FailsToTell (name : List ℕ) (input : Bytes) (end : Status) (from to : Outside) : Type 0 where
  pub error : NetworkError
  pub end_is : end ≡ status_of error
  pub start : ℕ
  pub raises : Call RaisesNumber (Ok start) from.keeper to.keeper
  pub list : List Wanted
  pub wants : Wants most_wanted name input list
  pub tells : Fails GivesMoment clock_error error from.clock to.clock
  pub rest : to ≡ record from { keeper = to.keeper; clock = to.clock }

-- the clock told a moment, and the wire failed to listen
pub record FailsToListen (name listen : List ℕ) (input : Bytes) (end : Status) (from to : Outside) : Type 0 where
  pub error : NetworkError
  pub end_is : end ≡ status_of error
  pub start : ℕ
  pub raises : Call RaisesNumber (Ok start) from.keeper to.keeper
  pub list : List Wanted
  pub wants : Wants most_wanted name input list
  pub moment : ℕ
  pub tells : Call GivesMoment (Ok moment) from.clock to.clock
  pub listens : Fails {T = Unit {0}} (Listens listen) wire_error error from.wire to.wire

-- it opened, and there was no memory for a consumer
pub record HasNoConsumer (name listen : List ℕ) (input : Bytes) (end : Status) (from to : Outside) : Type 0 where
  pub end_is : end ≡ status.OutOfMemory
  pub start : ℕ
  pub list : List Wanted
  pub moment : ℕ
  pub opens : Opens name listen input start list moment from to

abbrev pub FailsToOpen : (name listen : List ℕ) → (input left : Bytes) → Status → Outside → Outside → Type 0
FailsToOpen name listen input left end from to =
    FailsToRaise end from to
    ⊎ (FailsToRead most_wanted name input left end from to
    ⊎ (FailsToTell name input end from to
    ⊎ (FailsToListen name listen input end from to
    ⊎ HasNoConsumer name listen input end from to)))
