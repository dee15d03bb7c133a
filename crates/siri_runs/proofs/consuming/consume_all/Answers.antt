use Rattle.std.proofs.lemmas.Result.{err_from_is_err_and}
use Rattle.std.proofs.Common.{inl, refl}
use Rattle.siri_runs.specs.consumers.Consumption.{Target, turning}
use Rattle.siri_runs.specs.consumers.Runs.{consume_procedure}
use Rattle.siri_runs.proofs.Views.{made_counted, stop_is_counted}
use Rattle.siri_runs.proofs.Run.{turn_ended}
use Rattle.siri_runs.proofs.consumers.Whole.{all_consumed, ask_stopped, asked, consumer_of, counting, tally_of}
use Rattle.siri_runs.proofs.consuming.consume_all.Goals as goal

pub returns-in_err-consumer-clause-err : goal.returns-in_err-consumer-clause-err
returns-in_err-consumer-clause-err g c =
    let p = err_from_is_err_and c.from_residual.result c.from_residual.ensures.1 in
    rw (p.1, p.2) (inl (inl c.in_err-consumer.ensures.err))

pub returns-in-Err-clause-err : goal.returns-in-Err-clause-err
returns-in-Err-clause-err g c =
    ask_stopped _ _ _ _ _ _ _ _ _ _ _ _ _ c.in_ok-consumer.ensures.ok c.in-Err.ensures.err

pub returns-in_err-run_turns-clause-err : goal.returns-in_err-run_turns-clause-err
returns-in_err-run_turns-clause-err g c =
    let p = err_from_is_err_and c.from_residual-in_err-run_turns.result c.from_residual-in_err-run_turns.ensures.1 in
    let target : Target = (c.args.producer.now.host, c.args.producer.now.path) in
    rw p.1 (turn_ended (consume_procedure c.args.name c.args.address.now target (g.S.Source.left c.args.source.now) (g.S.Source.left c.open.new.source)) c.args.count _ _ _
    (asked _ _ target c.args.count _ (g.S.Source.left c.open.new.source) _ _ _ c.ask_all.new.consumer c.ask_all.new.tally _ _ _ _ _ c.new-tally.ensures c.in_ok-consumer.ensures.ok c.in-Ok.ensures.ok)
    _ _ p.2 (
      stop_is_counted (c.in_err-run_turns.ensures.err _) (λ nothing. turning target) consumer_of tally_of counting
          (record {
            state_is = λ s tally. refl;
            tally_is = λ s tally. refl;
            never = λ beside. refl;
            given = λ nothing moment s. refl;
            given_tally = λ nothing moment s. refl;
            refuses = λ nothing s never. never;
            answers = λ nothing from before to after takes. takes;
            stops = λ nothing from before after stops. (refl, stops);
          }) tt refl (counting c.ask_all.new.consumer c.ask_all.new.tally) refl refl,
      tt,
    ))

pub returns-clause-ok : goal.returns-clause-ok
returns-clause-ok g c =
    let target : Target = (c.args.producer.now.host, c.args.producer.now.path) in
    all_consumed _ _ target _ _ _ _ _ _ c.ask_all.new.consumer c.ask_all.new.tally _ _ _ _ _ c.new-tally.ensures c.in_ok-consumer.ensures.ok
    c.in-Ok.ensures.ok c.run_turns.new.taker _ _
    (made_counted _ _ _ (c.in_ok-run_turns.ensures.ok _) (λ nothing. turning target) consumer_of tally_of counting
    (record {
      state_is = λ s tally. refl;
      tally_is = λ s tally. refl;
      never = λ beside. refl;
      given = λ nothing moment s. refl;
      given_tally = λ nothing moment s. refl;
      refuses = λ nothing s never. never;
      answers = λ nothing from before to after takes. takes;
      stops = λ nothing from before after stops. (refl, stops);
    }) tt refl (counting c.ask_all.new.consumer c.ask_all.new.tally) refl refl)
