use Rattle.std.proofs.Common.{inl, inr, refl, ◌∙◌}
use Rattle.std.proofs.lemmas.Result.{err_from_is_err_and}
use Rattle.siri_runs.specs.Calls.{told_by}
use Rattle.siri_runs.proofs.Causes.{clock_counts, shelf_counts, wire_counts}
use Rattle.siri_runs.proofs.turns.turn.Goals as goal

pub returns-in_err-clock-clause-err : goal.returns-in_err-clock-clause-err
returns-in_err-clock-clause-err g c =
    let p = err_from_is_err_and c.from_residual-in_err-clock.result c.from_residual-in_err-clock.ensures.1 in
    rw p.1 (λ keeper. inr (record {
      wire = told_by (g.W.Wire.tells c.accept.new.wire) (g.W.Wire.faults c.accept.new.wire);
      moment = c.in_ok-moment.moment;
      accepts = c.in_ok-accept.ensures.call;
      tells = c.in_ok-moment.ensures.call;
      keeper = refl;
      why = c.in_err-clock.field-0.0;
      error_is = p.2;
      stops = inl (record {
        same = refl;
        refuses = c.in_err-clock.ensures.err;
        may = c.clock.ensures.may;
        counted = c.in_err-clock.ensures.counted;
      });
    }))

pub returns-in_err-take_turn-clause-err : goal.returns-in_err-take_turn-clause-err
returns-in_err-take_turn-clause-err g c =
    let p = err_from_is_err_and c.from_residual-in_err-take_turn.result c.from_residual-in_err-take_turn.ensures.1 in
    rw p.1 (λ keeper. inr (record {
      wire = told_by (g.W.Wire.tells c.accept.new.wire) (g.W.Wire.faults c.accept.new.wire);
      moment = c.in_ok-moment.moment;
      accepts = c.in_ok-accept.ensures.call;
      tells = c.in_ok-moment.ensures.call;
      keeper = refl;
      why = c.in_err-take_turn.field-0.0;
      error_is = p.2;
      stops = inr (inl (record {
        later = c.clock.new.self;
        between = c.clock.new.beside;
        given = record {
          keeps = c.in_ok-clock.ensures.keeps;
          stands = c.in_ok-clock.ensures.stands;
          holds = c.in_ok-clock.ensures.holds;
          may = c.clock.ensures.may;
        };
        stops = c.in_err-take_turn.ensures.err;
        leaves = c.take_turn.ensures.leaves;
        counted = c.in_err-take_turn.ensures.counted;
      }));
    }))

pub returns-in_err-end_turn-clause-err : goal.returns-in_err-end_turn-clause-err
returns-in_err-end_turn-clause-err g c =
    let p = err_from_is_err_and c.from_residual-in_err-end_turn.result c.from_residual-in_err-end_turn.ensures.1 in
    rw p.1 (λ keeper. inr (record {
      wire = told_by (g.W.Wire.tells c.accept.new.wire) (g.W.Wire.faults c.accept.new.wire);
      moment = c.in_ok-moment.moment;
      accepts = c.in_ok-accept.ensures.call;
      tells = c.in_ok-moment.ensures.call;
      keeper = refl;
      why = c.in_err-end_turn.field-0.0;
      error_is = p.2;
      stops = inr (inr (record {
        later = c.clock.new.self;
        between = c.clock.new.beside;
        given = record {
          keeps = c.in_ok-clock.ensures.keeps;
          stands = c.in_ok-clock.ensures.stands;
          holds = c.in_ok-clock.ensures.holds;
          may = c.clock.ensures.may;
        };
        taken = c.take_turn.new.taker;
        left = c.take_turn.new.beside;
        tally = c.take_turn.new.tally;
        takes = c.in_ok-take_turn.ensures.ok;
        leaves = c.take_turn.ensures.leaves;
        may = c.end_turn.ensures.may;
        counted = c.in_err-end_turn.ensures.counted;
      }));
    }))

pub returns-clause-ok : goal.returns-clause-ok
returns-clause-ok g c = λ keeper. record {
  wire = told_by (g.W.Wire.tells c.accept.new.wire) (g.W.Wire.faults c.accept.new.wire);
  moment = c.in_ok-moment.moment;
  accepts = c.in_ok-accept.ensures.call;
  tells = c.in_ok-moment.ensures.call;
  turn = record {
    later = c.clock.new.self;
    between = c.clock.new.beside;
    given = record {
      keeps = c.in_ok-clock.ensures.keeps;
      stands = c.in_ok-clock.ensures.stands;
      holds = c.in_ok-clock.ensures.holds;
      may = c.clock.ensures.may;
    };
    taken = c.take_turn.new.taker;
    left = c.take_turn.new.beside;
    takes = c.in_ok-take_turn.ensures.ok;
    leaves = c.take_turn.ensures.leaves;
    over = record {
      keeps = c.in_ok-end_turn.ensures.keeps;
      stands = c.in_ok-end_turn.ensures.stands;
      holds = c.in_ok-end_turn.ensures.holds;
      may = c.end_turn.ensures.may;
      ended = c.in_ok-end_turn.ensures.ended;
    };
    made = refl;
  };
  keeper = refl;
}

-- ---- how often what stands beside it failed

pub returns-in_err-accept-clause-counted : goal.returns-in_err-accept-clause-counted
returns-in_err-accept-clause-counted g c =
    let p = err_from_is_err_and c.from_residual.result c.from_residual.ensures.1 in
    rw (p.1, p.2, c.in_err-accept.ensures.call.error_is) (wire_counts (Unit {0}) _ c.in_err-accept.ensures.call.failure)

pub returns-in_err-moment-clause-counted : goal.returns-in_err-moment-clause-counted
returns-in_err-moment-clause-counted g c =
    let p = err_from_is_err_and c.from_residual-in_err-moment.result c.from_residual-in_err-moment.ensures.1 in
    rw (p.1, p.2, c.in_err-moment.ensures.call.error_is) (clock_counts (Unit {0}) _ c.in_err-moment.ensures.call.failure)

pub returns-in_err-clock-clause-counted : goal.returns-in_err-clock-clause-counted
returns-in_err-clock-clause-counted g c =
    let p = err_from_is_err_and c.from_residual-in_err-clock.result c.from_residual-in_err-clock.ensures.1 in
    rw (p.1, p.2) (shelf_counts (Unit {0}) (Unit {0}) _ _ _ c.in_err-clock.field-0.0 refl c.in_err-clock.ensures.counted)

pub returns-in_err-take_turn-clause-counted : goal.returns-in_err-take_turn-clause-counted
returns-in_err-take_turn-clause-counted g c =
    let p = err_from_is_err_and c.from_residual-in_err-take_turn.result c.from_residual-in_err-take_turn.ensures.1 in
    rw (p.1, p.2) (shelf_counts (Unit {0}) (Unit {0}) _ _ _ c.in_err-take_turn.field-0.0 c.in_ok-clock.ensures.counted c.in_err-take_turn.ensures.counted)

pub returns-in_err-end_turn-clause-counted : goal.returns-in_err-end_turn-clause-counted
returns-in_err-end_turn-clause-counted g c =
    let p = err_from_is_err_and c.from_residual-in_err-end_turn.result c.from_residual-in_err-end_turn.ensures.1 in
    rw (p.1, p.2) (shelf_counts (Unit {0}) (Unit {0}) _ _ _ c.in_err-end_turn.field-0.0
    (c.in_ok-take_turn.ensures.counted ∙ c.in_ok-clock.ensures.counted) c.in_err-end_turn.ensures.counted)

pub returns-clause-counted : goal.returns-clause-counted
returns-clause-counted g c = c.in_ok-end_turn.ensures.counted ∙ c.in_ok-take_turn.ensures.counted ∙ c.in_ok-clock.ensures.counted
