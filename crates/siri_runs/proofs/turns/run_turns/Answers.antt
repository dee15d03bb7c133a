use Rattle.std.proofs.Common.{◌≡◌, refl, ◌∙◌, subst, arith}
use Rattle.std.proofs.lemmas.Result.{err_from_is_err_and}
use Rattle.siri_runs.specs.Calls.{outside_with}
use Rattle.siri_runs.specs.Ends.{RunsTurn, in_run}
use Rattle.siri_runs.specs.Turns.{Turns, running}
use Rattle.siri_runs.proofs.Causes.{turns_count}
use Rattle.siri_runs.proofs.TurnByTurn.{turns_next, turns_none}
use Rattle.siri_runs.proofs.turns.run_turns.Goals as goal

pub loop-made-init : goal.loop-made-init
loop-made-init g c =
    (λ keeper. turns_none (RunsTurn g.T.Taker g.A.Asking.asks c.args.target.now) _, refl, c.requires)

pub loop-made-preserved : goal.loop-made-preserved
loop-made-preserved g c = (
  λ keeper.
      turns_next (RunsTurn g.T.Taker g.A.Asking.asks c.args.target.now) _ _ _ _ _ refl
      (c.loop-made.invariant.0 keeper) (c.in_ok-turn.ensures.ok keeper),
  c.in_ok-turn.ensures.counted ∙ c.loop-made.invariant.1,
  c.turn.ensures.ready,
)

pub turn-requires-clause-ready : goal.turn-requires-clause-ready
turn-requires-clause-ready g c = c.loop-made.invariant.2

pub returns-in_err-turn-clause-err : goal.returns-in_err-turn-clause-err
returns-in_err-turn-clause-err g c =
    let p = err_from_is_err_and c.from_residual.result c.from_residual.ensures.1 in
    rw (p.1, p.2) (λ keeper. record {
      made = c.loop-made.made;
      fewer = omega arith;
      last = _;
      turns = c.loop-made.invariant.0 keeper;
      ends = c.in_err-turn.ensures.err keeper;
    })

pub returns-in_err-turn-clause-counted : goal.returns-in_err-turn-clause-counted
returns-in_err-turn-clause-counted g c =
    let p = err_from_is_err_and c.from_residual.result c.from_residual.ensures.1 in
    rw (p.1, p.2) (turns_count (Unit {0}) (Unit {0}) _ _ _ _ c.loop-made.invariant.1 c.in_err-turn.ensures.counted)

pub returns-clause-ok : goal.returns-clause-ok
returns-clause-ok g c =
    let same : c.loop-made.made ≡ c.args.count = omega arith in
    λ keeper. subst (λ n. Turns (RunsTurn g.T.Taker g.A.Asking.asks c.args.target.now) n
    (running (in_run c.args.taker.now c.args.beside.now c.args.tally.now 0) (outside_with g.W.Wire g.C.Clock c.args.wire.now c.args.clock.now keeper))
    (running (in_run c.loop-made.taker c.loop-made.beside c.loop-made.tally n) (outside_with g.W.Wire g.C.Clock c.loop-made.wire c.loop-made.clock keeper)))
    same (c.loop-made.invariant.0 keeper)

pub returns-clause-ready : goal.returns-clause-ready
returns-clause-ready g c = c.loop-made.invariant.2

pub returns-clause-counted : goal.returns-clause-counted
returns-clause-counted g c = c.loop-made.invariant.1
