-- A producer that serves connections (EN 15531-2 for what is said, RFC 9112 for how).
use Rattle.std.specs.Prelude.{ℕ, List, [], ◌∷◌, ◌++◌}
use Rattle.siri_outside.specs.Wires.{WireState}
use Rattle.siri_http.specs.Requests.{Meaning}
use Rattle.siri_http.specs.declared.tally.Tally.{Tally}
use Rattle.siri_model.specs.History.{Clock, History}
use Rattle.siri_ends.specs.At.{At, at_of}
use Rattle.siri_ends.specs.Serving.{ServesOne, ServesSome}
use Rattle.siri_runs.specs.Calls.{Told}
use Rattle.siri_runs.specs.Run.{Turning}
use Rattle.siri_runs.specs.Turns.{NeverRefuses, StopsForMemory}
use Rattle.siri_runs.specs.declared.network_error.NetworkError.{NetworkError}

-- the producer's history, and what was counted
pub record Serving : Type 0 where
  pub history : History
  pub tally : Tally

-- the producer is given a moment
abbrev pub given : ℕ → Serving → Serving
given moment serving = record serving { history = serving.history ++ Clock moment ∷ [] }

-- the same over a wire, as an end of an exchange
abbrev pub end_at : Serving → Told WireState → At History
end_at serving wire = at_of serving.history serving.tally wire.tells wire.faults

-- the connection that is there is served, whole, where a request that is read whole asks so
abbrev pub Serves : (asks : Meaning) → (name : List ℕ) → Serving → Told WireState → Serving → Told WireState → Type 0
Serves asks name from before to after = ServesOne asks name (end_at from before) (end_at to after)

-- for want of memory it is served in part: of its answer the first steps were made, or its answer and the first sends
abbrev pub StopsServing : (asks : Meaning) → (name : List ℕ) → NetworkError → Serving → Told WireState → Told WireState → Type 0
StopsServing asks name error from before after =
    StopsForMemory (λ state old new. ServesSome asks name (end_at state old) new.tells) error from before after

-- its turns
abbrev pub turning : (asks : Meaning) → (name : List ℕ) → Turning Serving
turning asks name = record { given = given; Refuses = NeverRefuses; Answers = Serves asks name; Stops = StopsServing asks name }
