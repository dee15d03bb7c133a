-- Runs of `serve`, `lite` and `consume` as runs of an end that has a log, as far as each made its turns.
use Rattle.std.specs.Prelude.{◌≡◌, ℕ, List, Some}
use Rattle.siri_outside.specs.Wires.{WireState}
use Rattle.siri_http.specs.Requests.{Meaning}
use Rattle.siri_lines.specs.Ends.{Bytes}
use Rattle.siri_runs.specs.Calls.{Outside}
use Rattle.siri_runs.specs.Run.{MakesTurns}
use Rattle.siri_runs.specs.Turns.{Running}
use Rattle.siri_runs.specs.consumers.Consumption as consumption
use Rattle.siri_runs.specs.consumers.Consumption.{Consumption, Target}
use Rattle.siri_runs.specs.consumers.Runs.{BeginsConsuming}
use Rattle.siri_runs.specs.producers.Opening.{BeginsServing}
use Rattle.siri_runs.specs.producers.Serving as serving_run
use Rattle.siri_runs.specs.producers.Serving.{Serving}
use Rattle.siri_laws.specs.two_ends.Ends.{of_consume, of_serve}
use Rattle.siri_laws.specs.two_ends.Joined.{Ran}

-- A producer of this name ran so: its run began, made these turns and then told that of its wire.
pub record ServedAs (asks : Meaning) (name listen : List ℕ) (from : Outside) (ran : Ran) : Type 0 where
  pub count : ℕ
  pub first : Running Serving
  pub last : Running Serving
  pub begins : BeginsServing listen from first
  pub turns : MakesTurns (serving_run.turning asks name) count first last
  pub now : WireState
  pub told : last.outside.wire.tells ≡ Some now
  pub log : ran.log ≡ of_serve asks name listen count from first last begins turns
  pub over : ran.over ≡ now.over

-- A consumer of this name ran so.
pub record ConsumedAs (name listen : List ℕ) (target : Target) (input : Bytes) (from : Outside) (ran : Ran) : Type 0 where
  pub count : ℕ
  pub first : Running Consumption
  pub last : Running Consumption
  pub begins : BeginsConsuming name listen target input from first
  pub turns : MakesTurns (consumption.turning target) count first last
  pub now : WireState
  pub told : last.outside.wire.tells ≡ Some now
  pub log : ran.log ≡ of_consume name listen target input count from first last begins turns
  pub over : ran.over ≡ now.over
