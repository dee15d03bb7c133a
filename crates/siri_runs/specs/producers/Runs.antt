-- A run of `serve`, or of `lite`, where other requests than a POST ask something, too.
use Rattle.std.specs.Prelude.{ℕ, List, ⊤, false}
use Rattle.siri_base.specs.declared.status.Status.{Status}
use Rattle.siri_base.specs.declared.status.Status.TheVariants as status
use Rattle.siri_http.specs.Requests.{Meaning}
use Rattle.siri_lines.specs.Ends.{Bytes}
use Rattle.siri_runs.specs.Calls.{Outside}
use Rattle.siri_runs.specs.Run.{ByError, Procedure, Run}
use Rattle.siri_runs.specs.Summaries.{summary_text}
use Rattle.siri_runs.specs.producers.Opening.{BeginsServing, FailsToOpen}
use Rattle.siri_runs.specs.producers.Serving.{Serving, turning}

-- under this name, at this address, where a request that is read whole asks so
abbrev pub serve_procedure : (asks : Meaning) → (name listen : List ℕ) → Procedure Serving
serve_procedure asks name listen = record {
  Opens = BeginsServing listen;
  FailsToOpen = ByError (FailsToOpen listen);
  turning = turning asks name;
  Leaves = λ serving. ⊤;
  LeavesInTurn = λ last to. ⊤;
  text = λ serving. summary_text serving.tally;
  is_own = λ end. false;
}

-- what it does to the outside over so many connections, what it writes, and how it ends
abbrev pub ServeRun : (asks : Meaning) → (name listen : List ℕ) → ℕ → Outside → Outside → Bytes → Bytes → Status → Type 0
ServeRun asks name listen count from to old new end = Run (serve_procedure asks name listen) count from to old new end

-- the statuses of a run in which nothing was written
abbrev pub EndsServing : Status → Type 0
EndsServing status.WireFault = Unit {0}
EndsServing status.ClockFault = Unit {0}
EndsServing status.KeeperFault = Unit {0}
EndsServing other = ⊥
