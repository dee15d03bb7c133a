-- How a run of `relay` opens: the number of its start is raised, its one line is read, it listens, and the clock tells its first
-- moment.
use Rattle.std.specs.Prelude.{◌≡◌, ◌⊎◌, ◌*◌, ℕ, List, [], ◌∷◌, Some, Ok, true}
use Rattle.siri_outside.specs.OutsideCalls.{GivesMoment, RaisesNumber}
use Rattle.siri_outside.specs.Wires.{Listens}
use Rattle.siri_base.specs.declared.reason.ScriptReason.TheVariants as reason
use Rattle.siri_base.specs.declared.status.Status.{Status}
use Rattle.siri_base.specs.declared.status.Status.TheVariants as status
use Rattle.siri_lines.specs.Ends.{Bytes}
use Rattle.siri_messages.specs.declared.message.Message.{Message}
use Rattle.siri_model.specs.History.{Start}
use Rattle.siri_view.specs.Consuming.{Consuming, after_subscribe, request_for}
use Rattle.siri_wire.specs.declared.wanted.Wanted.{Wanted}
use Rattle.siri_relay.specs.Relaying.{new_consumer}
use Rattle.siri_runs.specs.Calls.{Call, Fails, Outside}
use Rattle.siri_runs.specs.Errors.{clock_error, status_of, wire_error}
use Rattle.siri_runs.specs.consumers.Opening.{FailsToRaise, FailsToRead, own_address}
use Rattle.siri_runs.specs.consumers.Reading.{Wants}
use Rattle.siri_runs.specs.declared.network_error.NetworkError.{NetworkError}
use Rattle.siri_relay_run.specs.Relays.{Relaying}

-- its lines are one, which wants this
abbrev pub WantsOne : (name : List ℕ) → (input : Bytes) → Wanted → Type 0
WantsOne name input wanted = Wants 1 name input (wanted ∷ [])

-- it opened with the number of its start, what its line wants, and a moment
pub record Opens (name listen : List ℕ) (input : Bytes) (start : ℕ) (wanted : Wanted) (moment : ℕ) (from to : Outside) : Type 0 where
  pub raises : Call RaisesNumber (Ok start) from.keeper to.keeper
  pub wants : WantsOne name input wanted
  pub listens : Call (Listens listen) (Ok (tt {0})) from.wire to.wire
  pub tells : Call GivesMoment (Ok moment) from.clock to.clock

-- its consumer then: its first request has a number of 1,000,000 times that of its start, so that no number comes again
abbrev pub first_consumer : (name listen : List ℕ) → (start moment : ℕ) → Consuming
first_consumer name listen start moment = new_consumer name (Some (own_address listen)) (1000000 * start) moment

-- its request to its source, with the interval of heartbeats of its line
abbrev pub first_request : (name listen : List ℕ) → (start moment : ℕ) → Wanted → Message
first_request name listen start moment wanted =
    request_for (first_consumer name listen start moment) (wanted.subscription ∷ []) wanted.beat

-- the relay after it: a producer that started under that number at that moment, and a consumer that has asked
abbrev pub begun : (name listen : List ℕ) → (start moment : ℕ) → Wanted → Relaying
begun name listen start moment wanted = record {
  history = Start start moment ∷ [];
  upper = record {
    consumer = after_subscribe (first_consumer name listen start moment) (wanted.subscription ∷ []) wanted.beat;
    upstream = Some wanted.subscription.identifier;
    fed = [];
    level = true;
  };
}

-- ---- how it ends there

-- the number was raised, and its source has no line that wants anything
pub record WantsNothing (name : List ℕ) (input : Bytes) (end : Status) (from to : Outside) : Type 0 where
  pub end_is : end ≡ status.Script 1 reason.BadArgument
  pub start : ℕ
  pub raises : Call RaisesNumber (Ok start) from.keeper to.keeper
  pub wants : Wants 1 name input []
  pub rest : to ≡ record from { keeper = to.keeper }

-- its line is good, and the wire failed to listen
pub record FailsToListen (name listen : List ℕ) (input : Bytes) (end : Status) (from to : Outside) : Type 0 where
  pub error : NetworkError
  pub end_is : end ≡ status_of error
  pub start : ℕ
  pub raises : Call RaisesNumber (Ok start) from.keeper to.keeper
  pub wanted : Wanted
  pub wants : WantsOne name input wanted
  pub listens : Fails {T = Unit {0}} (Listens listen) wire_error error from.wire to.wire
  pub rest : to ≡ record from { keeper = to.keeper; wire = to.wire }

-- it listens, and the clock failed
pub record FailsToTell (name listen : List ℕ) (input : Bytes) (end : Status) (from to : Outside) : Type 0 where
  pub error : NetworkError
  pub end_is : end ≡ status_of error
  pub start : ℕ
  pub raises : Call RaisesNumber (Ok start) from.keeper to.keeper
  pub wanted : Wanted
  pub wants : WantsOne name input wanted
  pub listens : Call (Listens listen) (Ok (tt {0})) from.wire to.wire
  pub tells : Fails GivesMoment clock_error error from.clock to.clock

-- it opened, and there was no memory for a relay that asks
pub record HasNoRelay (name listen : List ℕ) (input : Bytes) (end : Status) (from to : Outside) : Type 0 where
  pub end_is : end ≡ status.OutOfMemory
  pub start : ℕ
  pub wanted : Wanted
  pub moment : ℕ
  pub opens : Opens name listen input start wanted moment from to

abbrev pub FailsToOpen : (name listen : List ℕ) → (input left : Bytes) → Status → Outside → Outside → Type 0
FailsToOpen name listen input left end from to =
    FailsToRaise end from to
    ⊎ (FailsToRead 1 name input left end from to
    ⊎ (WantsNothing name input end from to
    ⊎ (FailsToListen name listen input end from to
    ⊎ (FailsToTell name listen input end from to
    ⊎ HasNoRelay name listen input end from to))))
