-- Each run that began, over a wire that tells what it holds, has a log.
use Rattle.std.proofs.Common.{◌≡◌, ℕ, List, Some, refl}
use Rattle.siri_outside.specs.Wires.{WireState}
use Rattle.siri_base.specs.declared.status.Status.{Status}
use Rattle.siri_http.specs.Requests.{Meaning}
use Rattle.siri_lines.specs.Ends.{Bytes}
use Rattle.siri_runs.specs.Calls.{Outside}
use Rattle.siri_runs.specs.Run.{Completes, FailsInTurns, MakesTurns}
use Rattle.siri_runs.specs.Turns.{Running, running}
use Rattle.siri_runs.specs.consumers.Consumption as consumption
use Rattle.siri_runs.specs.consumers.Consumption.{Consumption, Target}
use Rattle.siri_runs.specs.consumers.Opening.{opened}
use Rattle.siri_runs.specs.consumers.Runs.{BeginsConsuming, consume_procedure}
use Rattle.siri_runs.specs.producers.Opening.{BeginsServing}
use Rattle.siri_runs.specs.producers.Runs.{serve_procedure}
use Rattle.siri_runs.specs.producers.Serving as serving_run
use Rattle.siri_runs.specs.producers.Serving.{Serving}
use Rattle.siri_laws.specs.two_ends.Ends.{of_consume, of_serve}
use Rattle.siri_laws.specs.two_ends.Joined.{Ran}
use Rattle.siri_laws.specs.two_ends.Runs.{ConsumedAs, ServedAs}
use Rattle.siri_laws.proofs.two_ends.EndsLogged.{consume_log, serve_log}

module _ (asks : Meaning) (name listen : List ℕ) (from : Outside) (wire : WireState) (is : from.wire.tells ≡ Some wire) where
  served : (count : ℕ) (first last : Running Serving) → BeginsServing listen from first
      → MakesTurns (serving_run.turning asks name) count first last → (ran : Ran) × ServedAs asks name listen from ran
  served count first last begins turns =
      let log = of_serve asks name listen count from first last begins turns in
      let true_log = serve_log asks name listen count from first last wire is begins turns in (
        record { log = log; over = true_log.now.over },
        record {
          count = count;
          first = first;
          last = last;
          begins = begins;
          turns = turns;
          now = true_log.now;
          told = true_log.told;
          log = refl;
          over = refl;
        },
      )

  pub serve_whole : (count : ℕ) (text : List ℕ) (to : Outside) → Completes (serve_procedure asks name listen) count text from to
      → (ran : Ran) × ServedAs asks name listen from ran
  serve_whole count text to completes = served count completes.first (running completes.end to) completes.opens completes.turns

  pub serve_cut : (count : ℕ) (end : Status) (to : Outside) → FailsInTurns (serve_procedure asks name listen) count end from to
      → (ran : Ran) × ServedAs asks name listen from ran
  serve_cut count end to fails = served fails.fails.made fails.first fails.fails.last fails.opens fails.fails.turns

module _ (name listen : List ℕ) (target : Target) (input left : Bytes) (from : Outside) (wire : WireState) (is : from.wire.tells ≡ Some wire) where
  consumed : (count : ℕ) (first last : Running Consumption) → BeginsConsuming name listen target input from first
      → MakesTurns (consumption.turning target) count first last → (ran : Ran) × ConsumedAs name listen target input from ran
  consumed count first last begins turns =
      let log = of_consume name listen target input count from first last begins turns in
      let true_log = consume_log name listen target input count from first last wire is begins turns
      (opened name listen begins.start begins.moment) in (
        record { log = log; over = true_log.now.over },
        record {
          count = count;
          first = first;
          last = last;
          begins = begins;
          turns = turns;
          now = true_log.now;
          told = true_log.told;
          log = refl;
          over = refl;
        },
      )

  pub consume_whole : (count : ℕ) (text : List ℕ) (to : Outside) → Completes (consume_procedure name listen target input left) count text from to
      → (ran : Ran) × ConsumedAs name listen target input from ran
  consume_whole count text to completes = consumed count completes.first (running completes.end to) completes.opens completes.turns

  pub consume_cut : (count : ℕ) (end : Status) (to : Outside) → FailsInTurns (consume_procedure name listen target input left) count end from to
      → (ran : Ran) × ConsumedAs name listen target input from ran
  consume_cut count end to fails = consumed fails.fails.made fails.first fails.fails.last fails.opens fails.fails.turns
