use Rattle.std.proofs.Common.{inl, refl}
use Rattle.std.proofs.lemmas.Result.{err_from_is_err_and}
use Rattle.siri_runs.specs.producers.Opening.{begun}
use Rattle.siri_runs.specs.producers.Runs.{serve_procedure}
use Rattle.siri_runs.specs.producers.Serving.{turning}
use Rattle.siri_runs.proofs.Views.{made_counted, stop_is_counted}
use Rattle.siri_runs.proofs.Run.{turn_ended}
use Rattle.siri_runs.proofs.producers.Runs.{all_served, counting, history_of, opened, tally_of}
use Rattle.siri_runs.proofs.serving.serve_all.Goals as goal

pub returns-in_err-producer-clause-err : goal.returns-in_err-producer-clause-err
returns-in_err-producer-clause-err g c =
    let p = err_from_is_err_and c.from_residual.result c.from_residual.ensures.1 in
    rw p.1 (inl (record { error = c.in_err-producer.field-0.0; end_is = p.2; fails = c.in_err-producer.ensures.err }))

pub returns-in_err-run_turns-clause-err : goal.returns-in_err-run_turns-clause-err
returns-in_err-run_turns-clause-err g c =
    let p = err_from_is_err_and c.from_residual-in_err-run_turns.result c.from_residual-in_err-run_turns.ensures.1 in
    let opens = c.in_ok-producer.ensures.ok in
    rw p.1 (turn_ended (serve_procedure g.A.Asking.asks c.args.name c.args.address.now) c.args.count _ _ _
    (opened g.A.Asking.asks c.args.name c.args.address.now c.args.count c.in_ok-producer.producer _ _ opens) _ _ p.2 (
      stop_is_counted (c.in_err-run_turns.ensures.err _) (turning g.A.Asking.asks) history_of tally_of counting
          (record {
            state_is = λ s tally. refl;
            tally_is = λ s tally. refl;
            never = λ beside. refl;
            given = λ name moment s. refl;
            given_tally = λ name moment s. refl;
            refuses = λ name s never. never;
            answers = λ name from before to after takes. takes;
            stops = λ name from before after stops. (refl, stops);
          }) c.args.name opens.name_is (begun opens.start opens.moment) opens.stands c.new-tally.ensures,
      tt,
    ))

pub returns-clause-ok : goal.returns-clause-ok
returns-clause-ok g c =
    let opens = c.in_ok-producer.ensures.ok in
    all_served g.A.Asking.asks c.args.name c.args.address.now c.args.count c.in_ok-producer.producer _ _ opens c.run_turns.new.taker _ _
    (made_counted _ _ _ (c.in_ok-run_turns.ensures.ok _) (turning g.A.Asking.asks) history_of tally_of counting
    (record {
      state_is = λ s tally. refl;
      tally_is = λ s tally. refl;
      never = λ beside. refl;
      given = λ name moment s. refl;
      given_tally = λ name moment s. refl;
      refuses = λ name s never. never;
      answers = λ name from before to after takes. takes;
      stops = λ name from before after stops. (refl, stops);
    }) c.args.name opens.name_is (begun opens.start opens.moment) opens.stands c.new-tally.ensures)
