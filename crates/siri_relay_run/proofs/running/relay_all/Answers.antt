use Rattle.std.proofs.Common.{ℕ, List, inl, refl}
use Rattle.std.proofs.lemmas.Result.{err_from_is_err_and}
use Rattle.siri_lines.specs.Ends.{Bytes}
use Rattle.siri_runs.specs.Run.{Turning}
use Rattle.siri_runs.proofs.Run.{turn_ended}
use Rattle.siri_runs.proofs.Views.{made_counted, stop_is_counted}
use Rattle.siri_relay_run.specs.Passing.{Passing, turning}
use Rattle.siri_relay_run.specs.Runs.{parties_of, relay_procedure}
use Rattle.siri_relay_run.proofs.Whole.{all_passed, ask_stopped, asked, begun_so, counting, relay_of, tally_of}
use Rattle.siri_relay_run.proofs.running.relay_all.Goals as goal

pub returns-in_err-taker-clause-err : goal.returns-in_err-taker-clause-err
returns-in_err-taker-clause-err g c =
    let p = err_from_is_err_and c.from_residual.result c.from_residual.ensures.1 in
    rw (p.1, p.2) (inl (inl c.in_err-taker.ensures.err))

pub returns-in-Err-clause-err : goal.returns-in-Err-clause-err
returns-in-Err-clause-err g c =
    ask_stopped _ _ _ _ _ _ _ _ _ _ _ _ _ c.in_ok-taker.ensures.ok c.in-Err.ensures.err

pub returns-in_err-run_turns-clause-err : goal.returns-in_err-run_turns-clause-err
returns-in_err-run_turns-clause-err g c =
    let p = err_from_is_err_and c.from_residual-in_err-run_turns.result c.from_residual-in_err-run_turns.ensures.1 in
    let target : List ℕ × List ℕ = (c.args.upstream.now.host, c.args.upstream.now.path) in
    let turning_of : List ℕ → Turning Passing = λ name. turning (parties_of name target) in
    let opens = c.in_ok-taker.ensures.ok in
    let left : Bytes = g.S.Source.left c.open.new.source in
    let so = asked c.args.name c.args.address.now target c.args.count _ left _ _ _ c.ask.new.taker.relay c.ask.new.tally _ _ _ _ _ c.new-tally.ensures opens c.in-Ok.ensures.ok in
    rw p.1 (turn_ended (relay_procedure c.args.name c.args.address.now target (g.S.Source.left c.args.source.now) left) c.args.count _ _ _
    (begun_so c.args.name c.args.address.now target c.args.count _ left _ _ _ c.ask.new.taker.relay c.ask.new.tally _ _ _ _ _ c.new-tally.ensures opens
    c.in-Ok.ensures.ok) _ _ p.2 (
      stop_is_counted (c.in_err-run_turns.ensures.err _) turning_of relay_of tally_of counting
          (record {
            state_is = λ s tally. refl;
            tally_is = λ s tally. refl;
            never = λ beside. refl;
            given = λ name moment s. refl;
            given_tally = λ name moment s. refl;
            refuses = λ name s refused. refl;
            answers = λ name from before to after takes. takes;
            stops = λ name from before after stops. (refl, stops);
          }) c.args.name so.name_is (counting so.state c.ask.new.tally) so.stands refl,
      tt,
    ))

pub returns-clause-ok : goal.returns-clause-ok
returns-clause-ok g c =
    let target : List ℕ × List ℕ = (c.args.upstream.now.host, c.args.upstream.now.path) in
    let turning_of : List ℕ → Turning Passing = λ name. turning (parties_of name target) in
    let opens = c.in_ok-taker.ensures.ok in
    let so = asked c.args.name c.args.address.now target c.args.count _ _ _ _ _ c.ask.new.taker.relay c.ask.new.tally _ _ _ _ _ c.new-tally.ensures opens c.in-Ok.ensures.ok in
    all_passed c.args.name c.args.address.now target c.args.count _ _ _ _ _ c.ask.new.taker.relay c.ask.new.tally _ _ _ _ _ c.new-tally.ensures
    opens c.in-Ok.ensures.ok c.run_turns.new.taker.relay _ _
    (made_counted _ _ _ (c.in_ok-run_turns.ensures.ok _) turning_of relay_of tally_of counting
    (record {
      state_is = λ s tally. refl;
      tally_is = λ s tally. refl;
      never = λ beside. refl;
      given = λ name moment s. refl;
      given_tally = λ name moment s. refl;
      refuses = λ name s refused. refl;
      answers = λ name from before to after takes. takes;
      stops = λ name from before after stops. (refl, stops);
    }) c.args.name so.name_is (counting so.state c.ask.new.tally) so.stands refl)
