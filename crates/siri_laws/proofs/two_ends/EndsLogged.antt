-- A producer and a consumer are as their logs tell.
use Rattle.std.proofs.Common.{◌≡◌, ℕ, List, [], ◌∷◌, ◌++◌, Option, None, Some, Ok, refl, sym, ap, ◌∙◌, append-nil, append_assoc}
use Rattle.std.specs.Prelude.{fold}
use Rattle.std.proofs.lemmas.List.Elements.{All-nil, All-cons}
use Rattle.siri_outside.specs.Wires.{Listens, WireState}
use Rattle.siri_messages.specs.declared.message.Message.{Message}
use Rattle.siri_messages.specs.declared.message.Message.TheVariants as message
use Rattle.siri_http.specs.Requests.{Meaning, post_alone}
use Rattle.siri_lines.specs.Ends.{Bytes}
use Rattle.siri_model.specs.History.{History, Settle, Take}
use Rattle.siri_subscriptions.specs.declared.outs.Out.{Out}
use Rattle.siri_view.specs.Consuming.{Consuming}
use Rattle.siri_ends.specs.Consuming.{after_taking, consuming}
use Rattle.siri_ends.specs.InTurn.{most_sends}
use Rattle.siri_ends.specs.Manners.{after_hearing}
use Rattle.siri_ends.specs.Responses.{message_asked, turn_steps}
use Rattle.siri_ends.specs.Serving.{acknowledging, after_acknowledging}
use Rattle.siri_runs.specs.Calls.{Outside}
use Rattle.siri_runs.specs.Run.{MakesTurns}
use Rattle.siri_runs.specs.Turns.{Running}
use Rattle.siri_runs.specs.consumers.Consumption as consumption
use Rattle.siri_runs.specs.consumers.Consumption.{Consumption, Target, after_asking, asking, requests}
use Rattle.siri_runs.specs.consumers.Opening.{opened}
use Rattle.siri_runs.specs.consumers.Runs.{BeginsConsuming}
use Rattle.siri_runs.specs.producers.Opening.{BeginsServing}
use Rattle.siri_runs.specs.producers.Serving as serving_run
use Rattle.siri_runs.specs.producers.Serving.{Serving}
use Rattle.siri_laws.specs.two_ends.Ends.{after_done, consumer_of, consumer_speaks, history_of, of_consume, of_consumption, of_serve, of_serving}
use Rattle.siri_laws.specs.two_ends.Ends.{producer_speaks, steps_of}
use Rattle.siri_laws.specs.two_ends.Logs.{Asked as AskedFor, Began, Done, Settled, Took, hears_if, heard, of_sends, takes}
use Rattle.siri_laws.specs.two_ends.Truth.{IsSaid, IsSpokenTo, IsTaken, IsTrue}
use Rattle.siri_laws.proofs.two_ends.Logged
use Rattle.siri_laws.proofs.two_ends.Logged.{Follows, Goes, goes_both, sends_go, turns_go}

-- ---- a producer

abbrev more_history : History → Done → History
more_history h done = h ++ steps_of done

one_message : (h : History) (by : ℕ) (m : Message) → fold more_history h (Took by m ∷ Settled ∷ []) ≡ h ++ turn_steps (Some m)
one_message h by m = append_assoc h (Take m ∷ []) (Settle ∷ [])

takes_steps : (name : List ℕ) (h : History) (by : ℕ) (o : Option Message) → fold more_history h (takes (producer_speaks name) by o) ≡ h ++ turn_steps o
takes_steps name h by None = refl
takes_steps name h by (Some m) = one_message h by m

hears_steps : (name : List ℕ) (h : History) (by : ℕ) (o : Option Message)
    → fold more_history h (hears_if (producer_speaks name) by o) ≡ after_acknowledging o h
hears_steps name h by None = refl
hears_steps name h by (Some m) = one_message h by m

answers_steps : (name : List ℕ) (h : History) (by : ℕ) (out : Out) (o : Option Message)
    → fold more_history h (hears_if (producer_speaks name) by (heard (producer_speaks name) o)) ≡ after_hearing (producer_speaks name).manner out o h
answers_steps name h by out None = refl
answers_steps name h by out (Some m) = hears_steps name h by (acknowledging m)

acknowledges_same : (m other : Message) → acknowledging m ≡ Some other → m ≡ other
acknowledges_same (message.DataReceivedAcknowledgement a) other is = cc
acknowledges_same m other is = absurd (cc)

pub producer_follows : (name : List ℕ) → Follows (producer_speaks name) more_history
producer_follows name = record {
  accepted = λ h by c. append-nil h;
  dialled = λ h by c. append-nil h;
  said = λ h by m. append-nil h;
  takes = λ h by asked. takes_steps name h by (message_asked asked);
  hears = λ h by out o. answers_steps name h by out o;
  responds = λ h asked. refl;
  same = acknowledges_same;
}

history_is : (h : History) (log : List Done) → fold more_history h log ≡ h ++ history_of log
history_is h [] = sym (append-nil h)
history_is h (done ∷ log) = history_is (h ++ steps_of done) log ∙ append_assoc h (steps_of done) (history_of log)

module _ (asks : Meaning) (name listen : List ℕ) (count : ℕ) (from : Outside) (first to : Running Serving) (wire : WireState)
    (is : from.wire.tells ≡ Some wire) (begins : BeginsServing listen from first)
    (turns : MakesTurns (serving_run.turning asks name) count first to) where
  serve_goes : Goes (producer_speaks name) more_history (producer_follows name) asks
      (of_serve asks name listen count from first to begins turns) wire [] to.state.history to.outside.wire.tells
  serve_goes =
      let told = Logged.told_from (λ a b. Listens {T = Unit {0}} listen a b (Ok (tt {0}))) from.wire.tells first.outside.wire.tells wire is
      begins.opens.listens.does in
      let began = Began begins.start begins.moment ∷ [] in
      let one : Goes (producer_speaks name) more_history (producer_follows name) asks began wire [] first.state.history first.outside.wire.tells = record {
        new = told.0;
        there = told.1;
        piece = record {
          more = [];
          over = ap (λ (w : WireState). w.over) told.2.1 ∙ sym (append-nil wire.over);
          taken = All-cons (IsTaken asks began) (Began begins.start begins.moment) [] tt (All-nil (IsTaken asks began));
          written = All-cons (IsSaid began told.0.over) (Began begins.start begins.moment) [] tt (All-nil (IsSaid began told.0.over));
          spoken = All-cons (IsSpokenTo began told.0.over) (Began begins.start begins.moment) [] tt (All-nil (IsSpokenTo began told.0.over));
        };
        state = ap (λ (s : Serving). s.history) begins.state_is;
      } in
      let next = turns_go (producer_speaks name) more_history (producer_follows name) asks serving_run.given (λ own. own.history)
      (λ own. own.tally) (λ moment own. refl) count first to told.0 told.1 turns in
      goes_both (producer_speaks name) more_history (producer_follows name) asks began (of_serving asks name count first to turns) wire []
      first.state.history to.state.history first.outside.wire.tells to.outside.wire.tells one next

  pub serve_history : to.state.history ≡ history_of (of_serve asks name listen count from first to begins turns)
  serve_history = serve_goes.state ∙ history_is [] (of_serve asks name listen count from first to begins turns)

  pub serve_log : IsTrue asks (of_serve asks name listen count from first to begins turns) wire to.outside.wire.tells
  serve_log =
      let goes = serve_goes in
      record { now = goes.new; told = goes.there; more = goes.piece.more; over = goes.piece.over; taken = goes.piece.taken; said = goes.piece.written; spoken = goes.piece.spoken }

-- ---- a consumer

consumer_takes : (name listen : List ℕ) (target : Target) (c : Consuming) (by : ℕ) (o : Option Message)
    → fold (after_done name listen) c (takes (consumer_speaks target) by o) ≡ after_taking c o
consumer_takes name listen target c by None = refl
consumer_takes name listen target c by (Some m) = refl

consumer_hears : (name listen : List ℕ) (target : Target) (c : Consuming) (by : ℕ) (sent : Message) (o : Option Message)
    → fold (after_done name listen) c (hears_if (consumer_speaks target) by (heard (consumer_speaks target) o)) ≡ after_hearing consuming sent o c
consumer_hears name listen target c by sent None = refl
consumer_hears name listen target c by sent (Some m) = refl

some_same : (m other : Message) → Some m ≡ Some other → m ≡ other
some_same m other is = cc

pub consumer_follows : (name listen : List ℕ) (target : Target) → Follows (consumer_speaks target) (after_done name listen)
consumer_follows name listen target = record {
  accepted = λ c by connection. refl;
  dialled = λ c by connection. refl;
  said = λ c by m. refl;
  takes = λ c by asked. consumer_takes name listen target c by (message_asked asked);
  hears = λ c by sent o. consumer_hears name listen target c by sent o;
  responds = λ c asked. refl;
  same = some_same;
}

module _ (name listen : List ℕ) (target : Target) (input : Bytes) (count : ℕ) (from : Outside) (first to : Running Consumption) (wire : WireState)
    (is : from.wire.tells ≡ Some wire) (begins : BeginsConsuming name listen target input from first)
    (turns : MakesTurns (consumption.turning target) count first to) (before : Consuming) where
  consume_goes : Goes (consumer_speaks target) (after_done name listen) (consumer_follows name listen target) post_alone
      (of_consume name listen target input count from first to begins turns) wire before to.state.consumer to.outside.wire.tells
  consume_goes =
      let told = Logged.told_from (λ a b. Listens {T = Unit {0}} listen a b (Ok (tt {0}))) from.wire.tells begins.open_.wire.tells wire is
      begins.opens.listens.does in
      let began = Began begins.start begins.moment in
      let asked = AskedFor begins.list in
      let both = began ∷ asked ∷ [] in
      let consumer = opened name listen begins.start begins.moment in
      let later = after_asking consumer begins.list in
      let at = asking consumer begins.list begins.open_.wire in
      let last = consumption.end_at first.state first.outside.wire in
      let speaks = consumer_speaks target in
      let after = after_done name listen in
      let follows = consumer_follows name listen target in
      let one : Goes speaks after follows post_alone both wire before later begins.open_.wire.tells = record {
        new = told.0;
        there = told.1;
        piece = record {
          more = [];
          over = ap (λ (w : WireState). w.over) told.2.1 ∙ sym (append-nil wire.over);
          taken = All-cons (IsTaken post_alone both) began (asked ∷ []) tt
              (All-cons (IsTaken post_alone both) asked [] tt (All-nil (IsTaken post_alone both)));
          written = All-cons (IsSaid both told.0.over) began (asked ∷ []) tt
              (All-cons (IsSaid both told.0.over) asked [] tt (All-nil (IsSaid both told.0.over)));
          spoken = All-cons (IsSpokenTo both told.0.over) began (asked ∷ []) tt
              (All-cons (IsSpokenTo both told.0.over) asked [] tt (All-nil (IsSpokenTo both told.0.over)));
        };
        state = refl;
      } in
      let two = sends_go speaks after follows post_alone most_sends (requests consumer begins.list) at last told.0 told.1 begins.asks.sends in
      let sends = of_sends speaks most_sends (requests consumer begins.list) at last begins.asks.sends in
      let three = turns_go speaks after follows post_alone consumption.given (λ own. own.consumer) (λ own. own.tally) (λ moment own. refl)
      count first to two.new two.there turns in
      let rest = of_consumption target count first to turns in
      let more : Goes speaks after follows post_alone (sends ++ rest) told.0 later to.state.consumer to.outside.wire.tells =
      goes_both speaks after follows post_alone sends rest told.0 later first.state.consumer to.state.consumer first.outside.wire.tells
      to.outside.wire.tells two three in
      goes_both speaks after follows post_alone both (sends ++ rest) wire before later to.state.consumer begins.open_.wire.tells
      to.outside.wire.tells one more

  pub consume_state : to.state.consumer ≡ consumer_of name listen before (of_consume name listen target input count from first to begins turns)
  consume_state = consume_goes.state

  pub consume_log : IsTrue post_alone (of_consume name listen target input count from first to begins turns) wire to.outside.wire.tells
  consume_log =
      let goes = consume_goes in
      record { now = goes.new; told = goes.there; more = goes.piece.more; over = goes.piece.over; taken = goes.piece.taken; said = goes.piece.written; spoken = goes.piece.spoken }
