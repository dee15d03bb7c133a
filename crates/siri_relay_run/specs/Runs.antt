-- A run of `relay`, whole.
use Rattle.std.specs.Prelude.{◌≡◌, ◌⊎◌, ⊤, ℕ, List, [], ◌∷◌, ◌++◌, IsSomeAnd, Ok}
use Rattle.siri_base.specs.declared.status.Status.{Status}
use Rattle.siri_base.specs.declared.status.Status.TheVariants as status
use Rattle.siri_life.specs.Named.{Name}
use Rattle.siri_lines.specs.Ends.{Bytes}
use Rattle.siri_wire.specs.declared.wanted.Wanted.{Wanted}
use Rattle.siri_runs.specs.Calls.{Outside}
use Rattle.siri_runs.specs.Run.{Procedure, Run}
use Rattle.siri_runs.specs.Summaries.{summary_text}
use Rattle.siri_runs.specs.Turns.{Running}
use Rattle.siri_runs.specs.consumers.Reading.{is_of_source}
use Rattle.siri_runs.specs.consumers.Views.{views_text}
use Rattle.siri_runs.specs.consumers.Wanting.{all_wanted}
use Rattle.siri_relay_run.specs.Opening.{FailsToOpen, Opens, begun, first_request}
use Rattle.siri_relay_run.specs.Passing.{RelayAsks, RelayAsksSome, Parties, Passing, turning}
use Rattle.siri_relay_run.specs.declared.going.Going.{Going}
use Rattle.siri_relay_run.specs.declared.going.Going.TheVariants as going

-- its name, and its source's host and path
abbrev pub parties_of : (name : List ℕ) → (target : List ℕ × List ℕ) → Parties
parties_of name target = record { name = name; host = target.0; path = target.1 }

-- its request is the first message that it sends
abbrev pub first_sent : (name listen : List ℕ) → (start moment : ℕ) → Wanted → List Going
first_sent name listen start moment wanted = going.Up (first_request name listen start moment wanted) ∷ []

-- it opened and asked, and such a relay runs
pub record BeginsRelaying (name listen : List ℕ) (target : List ℕ × List ℕ) (input : Bytes) (from : Outside) (first : Running Passing) : Type 0 where
  pub start : ℕ
  pub wanted : Wanted
  pub moment : ℕ
  pub open_ : Outside
  pub opens : Opens name listen input start wanted moment from open_
  pub asks : RelayAsks (parties_of name target) (first_sent name listen start moment wanted) (begun name listen start moment wanted) open_ first

-- it opened, and there was no memory to ask
pub record FailsToAsk (name listen : List ℕ) (target : List ℕ × List ℕ) (input : Bytes) (end : Status) (from to : Outside) : Type 0 where
  pub end_is : end ≡ status.OutOfMemory
  pub start : ℕ
  pub wanted : Wanted
  pub moment : ℕ
  pub open_ : Outside
  pub opens : Opens name listen input start wanted moment from open_
  pub asks : RelayAsksSome (parties_of name target) (first_sent name listen start moment wanted) (begun name listen start moment wanted) open_ to

-- the views of its consumer, and the summary
abbrev pub end_text : Passing → List ℕ
end_text end = views_text end.relay.upper.consumer ++ summary_text end.tally

-- under this name, at this address, of the source at that one, where its source of lines brings this
abbrev pub relay_procedure : (name listen : List ℕ) → (target : List ℕ × List ℕ) → (input left : Bytes) → Procedure Passing
relay_procedure name listen target input left = record {
  Opens = BeginsRelaying name listen target input;
  FailsToOpen = λ end from to.
      FailsToOpen name listen input left end from to ⊎ FailsToAsk name listen target input end from to;
  turning = turning (parties_of name target);
  Leaves = λ end. ⊤;
  LeavesInTurn = λ last to. ⊤;
  text = end_text;
  is_own = is_of_source;
}

-- what it does to the outside over so many connections, what it writes, and how it ends
abbrev pub RelayRun : (name listen : List ℕ) → (target : List ℕ × List ℕ) → ℕ → (input left : Bytes) → Outside → Outside → Bytes → Bytes → Status → Type 0
RelayRun name listen target count input left from to old new end =
    Run (relay_procedure name listen target input left) count from to old new end

-- the statuses of a run in which nothing was written
abbrev pub EndsRelaying : Status → Type 0
EndsRelaying (status.Script n why) = Unit {0}
EndsRelaying (status.Limit n) = Unit {0}
EndsRelaying status.ReadFault = Unit {0}
EndsRelaying status.WireFault = Unit {0}
EndsRelaying status.ClockFault = Unit {0}
EndsRelaying status.KeeperFault = Unit {0}
EndsRelaying other = ⊥

-- the source tells its text, which is one good line that wants a subscription
abbrev pub TellsOne : Name → Bytes → Type 0
TellsOne subscriber input = IsSomeAnd input (λ bytes. (wanted : Wanted) × (all_wanted 1 subscriber bytes ≡ Ok (wanted ∷ [])))
