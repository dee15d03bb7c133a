-- A producer and a consumer as ends of which there are logs (EN 15531-2, requests, deliveries and their acknowledgements): how each
-- speaks, what a log makes of it, and the log of a whole run.
use Rattle.std.specs.Prelude.{ℕ, true, false, List, [], ◌∷◌, ◌++◌, flat_map, fold, Some}
use Rattle.siri_messages.specs.declared.message.Message.{Message}
use Rattle.siri_http.specs.Requests.{Meaning, post_alone}
use Rattle.siri_lines.specs.Ends.{Bytes}
use Rattle.siri_model.specs.History.{Clock, History, Settle, Start, Take}
use Rattle.siri_subscriptions.specs.declared.outs.Out.{Out}
use Rattle.siri_view.specs.Consuming.{Consuming, after_message, clocked}
use Rattle.siri_ends.specs.Consuming.{consumer_reply, consuming}
use Rattle.siri_ends.specs.InTurn.{most_sends}
use Rattle.siri_ends.specs.Responses.{producer_reply}
use Rattle.siri_ends.specs.Serving.{acknowledging, serving, target_of}
use Rattle.siri_runs.specs.Calls.{Outside}
use Rattle.siri_runs.specs.Run.{MakesTurns}
use Rattle.siri_runs.specs.Turns.{Running}
use Rattle.siri_runs.specs.consumers.Consumption as consumption
use Rattle.siri_runs.specs.consumers.Consumption.{Consumption, Target, after_asking, asking, requests}
use Rattle.siri_runs.specs.consumers.Opening.{opened}
use Rattle.siri_runs.specs.consumers.Runs.{BeginsConsuming}
use Rattle.siri_runs.specs.producers.Opening.{BeginsServing}
use Rattle.siri_runs.specs.producers.Serving as serving_run
use Rattle.siri_runs.specs.producers.Serving.{Serving}
use Rattle.siri_laws.specs.two_ends.Logs.{Asked, Began, Done, Given, Settled, Speaking, Took, of_sends, of_turns}

-- ---- a producer

-- it replies by its history, settles after each connection, and of what is answered to its messages it takes acknowledgements
abbrev pub producer_speaks : (name : List ℕ) → Speaking History Out
producer_speaks name = record {
  manner = serving name;
  settles = true;
  reply = λ h message. producer_reply name h message;
  hears = acknowledging;
  target = λ out. target_of out.address;
  message = λ out. out.message;
}

-- what a thing that it did adds to its history
abbrev pub steps_of : Done → History
steps_of (Began start moment) = Start start moment ∷ []
steps_of (Given moment) = Clock moment ∷ []
steps_of (Took by message) = Take message ∷ []
steps_of Settled = Settle ∷ []
steps_of other = []

-- the history that a log tells
abbrev pub history_of : List Done → History
history_of log = flat_map steps_of log

-- the log of its turns
abbrev pub of_serving : (asks : Meaning) (name : List ℕ) (count : ℕ) (from to : Running Serving)
    → MakesTurns (serving_run.turning asks name) count from to → List Done
of_serving asks name count from to turns =
    of_turns (producer_speaks name) asks serving_run.given (λ own. own.history) (λ own. own.tally) count from to turns

-- and of a run of `serve` or `lite`, from its beginning on
abbrev pub of_serve : (asks : Meaning) (name listen : List ℕ) (count : ℕ) (from : Outside) (first to : Running Serving)
    → BeginsServing listen from first → MakesTurns (serving_run.turning asks name) count first to → List Done
of_serve asks name listen count from first to begins turns =
    Began begins.start begins.moment ∷ of_serving asks name count first to turns

-- ---- a consumer

-- it replies by what it holds, never settles, and takes all that is answered to its messages, which go to its producer
abbrev pub consumer_speaks : Target → Speaking Consuming Message
consumer_speaks target = record {
  manner = consuming;
  settles = false;
  reply = consumer_reply;
  hears = Some;
  target = λ message. Some (target.0, target.1);
  message = λ message. message;
}

-- the consumer of this name, at this address, after a thing that it did
abbrev pub after_done : (name listen : List ℕ) → Consuming → Done → Consuming
after_done name listen consumer (Began start moment) = opened name listen start moment
after_done name listen consumer (Asked list) = after_asking consumer list
after_done name listen consumer (Given moment) = clocked consumer moment
after_done name listen consumer (Took by message) = after_message consumer message
after_done name listen consumer other = consumer

-- the consumer that a log tells, from one on
abbrev pub consumer_of : (name listen : List ℕ) → Consuming → List Done → Consuming
consumer_of name listen consumer log = fold (after_done name listen) consumer log

-- the log of its turns
abbrev pub of_consumption : (target : Target) (count : ℕ) (from to : Running Consumption)
    → MakesTurns (consumption.turning target) count from to → List Done
of_consumption target count from to turns =
    of_turns (consumer_speaks target) post_alone consumption.given (λ own. own.consumer) (λ own. own.tally) count from to turns

-- and of a run of `consume`, from its beginning on: it asks, and takes what is answered
abbrev pub of_consume : (name listen : List ℕ) (target : Target) (input : Bytes) (count : ℕ) (from : Outside) (first to : Running Consumption)
    → BeginsConsuming name listen target input from first → MakesTurns (consumption.turning target) count first to → List Done
of_consume name listen target input count from first to begins turns =
    let consumer = opened name listen begins.start begins.moment in
    Began begins.start begins.moment
    ∷ Asked begins.list
    ∷ of_sends (consumer_speaks target) most_sends (requests consumer begins.list) (asking consumer begins.list begins.open_.wire)
    (consumption.end_at first.state first.outside.wire) begins.asks.sends
    ++ of_consumption target count first to turns
