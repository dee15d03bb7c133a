-- A run of `serve`, as its parts make it.
use Rattle.std.proofs.Common.{◌≡◌, ℕ, List, refl, ap}
use Rattle.siri_http.specs.Requests.{Meaning}
use Rattle.siri_http.specs.declared.tally.Tally.{Tally}
use Rattle.siri_model.specs.History.{History}
use Rattle.siri_producer.specs.Known.{Known, StandsFor}
use Rattle.siri_runs.specs.Calls.{Outside}
use Rattle.siri_runs.specs.Run.{Completes, MakesTurns}
use Rattle.siri_runs.specs.Summaries.{summary_text}
use Rattle.siri_runs.specs.Turns.{running}
use Rattle.siri_runs.specs.producers.Opening.{BeginsServing, begun}
use Rattle.siri_runs.specs.producers.Runs.{serve_procedure}
use Rattle.siri_runs.specs.producers.Serving.{Serving, turning}
use Rattle.siri_runs.specs.producers.Steps.{OpensProducer}

-- what a run has of a producer
abbrev pub history_of : Serving → History
history_of serving = serving.history

abbrev pub tally_of : Serving → Tally
tally_of serving = serving.tally

abbrev pub counting : History → Tally → Serving
counting history tally = record { history = history; tally = tally }

module _ (asks : Meaning) (name listen : List ℕ) (count : ℕ) (producer : Known) (from open_ : Outside)
    (opens : OpensProducer name listen producer from open_) where
  abbrev pub state : Serving
  state = begun opens.start opens.moment

  pub opened : BeginsServing listen from (running state open_)
  opened = record { start = opens.start; moment = opens.moment; opens = opens.opens; state_is = refl }

  -- it opened, and every connection was served
  pub all_served : (last : Known) (tally : Tally) (to : Outside)
      → (end : Serving) × (StandsFor last end.history × (tally ≡ end.tally)) × MakesTurns (turning asks name) count (running state open_) (running end to)
      → Completes (serve_procedure asks name listen) count (summary_text tally) from to
  all_served last tally to one = record {
    first = running state open_;
    opens = opened;
    end = one.0;
    turns = one.2;
    leaves = tt;
    text_is = ap summary_text one.1.1;
  }
