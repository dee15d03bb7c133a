use Rattle.std.proofs.Common.{◌∙◌}
use Rattle.std.proofs.lemmas.Result.{err_from_is_err_and}
use Rattle.siri_runs.proofs.Run.{turn_ended}
use Rattle.siri_runs.proofs.Views.{made_seen, stop_is_seen}
use Rattle.siri_keep_run.specs.Runs.{keep_procedure}
use Rattle.siri_keep_run.specs.Serving.{turning}
use Rattle.siri_keep_run.proofs.Views.{LeavesLast, keep_is_viewed, rests}
use Rattle.siri_keep_run.proofs.Whole.{all_kept, counts_turns, first_rests, first_state, opened}
use Rattle.siri_keep_run.proofs.keeping.keep_all.Goals as goal

pub returns-in_err-run_turns-clause-err : goal.returns-in_err-run_turns-clause-err
returns-in_err-run_turns-clause-err g c =
    let p = err_from_is_err_and c.from_residual-in_err-run_turns.result c.from_residual-in_err-run_turns.ensures.1 in
    let opens = c.in_ok-kept.ensures.ok in
    let name = c.args.name in
    let listen = c.args.address.now in
    let file = c.args.file.now in
    rw p.1 (turn_ended (keep_procedure name listen file _ _) c.args.count _ _ _ (opened name listen file c.args.count c.in_ok-kept.kept _ _ _ _ opens)
    _ _ p.2 (stop_is_seen (c.in_err-run_turns.ensures.err _) turning (rests g.B.Shelf.is_open g.B.Shelf.tells g.B.Shelf.faults)
    (LeavesLast g.B.Shelf.is_open g.B.Shelf.tells g.B.Shelf.faults) (keep_is_viewed g.B.Shelf.is_open g.B.Shelf.tells g.B.Shelf.faults) name opens.opened.begun.name_is
    (first_state name listen file c.args.count c.in_ok-kept.kept _ _ _ _ opens)
    (first_rests name listen file c.args.count c.in_ok-kept.kept _ _ _ _ opens _ c.new-tally.ensures)))

pub returns-in_err-run_turns-clause-counted : goal.returns-in_err-run_turns-clause-counted
returns-in_err-run_turns-clause-counted g c =
    let p = err_from_is_err_and c.from_residual-in_err-run_turns.result c.from_residual-in_err-run_turns.ensures.1 in
    rw p.1 (counts_turns (Unit {0}) (Unit {0}) _ _ _ _ _ p.2 c.in_ok-kept.ensures.counted c.in_err-run_turns.ensures.counted)

pub returns-clause-counted : goal.returns-clause-counted
returns-clause-counted g c = c.in_ok-run_turns.ensures.counted ∙ c.in_ok-kept.ensures.counted

pub returns-clause-ok : goal.returns-clause-ok
returns-clause-ok g c =
    let opens = c.in_ok-kept.ensures.ok in
    let name = c.args.name in
    let listen = c.args.address.now in
    let file = c.args.file.now in
    all_kept name listen file c.args.count c.in_ok-kept.kept _ _ _ _ opens c.run_turns.new.taker _ _ _
    (made_seen _ _ _ (c.in_ok-run_turns.ensures.ok _) turning (rests g.B.Shelf.is_open g.B.Shelf.tells g.B.Shelf.faults)
    (LeavesLast g.B.Shelf.is_open g.B.Shelf.tells g.B.Shelf.faults) (keep_is_viewed g.B.Shelf.is_open g.B.Shelf.tells g.B.Shelf.faults) name opens.opened.begun.name_is
    (first_state name listen file c.args.count c.in_ok-kept.kept _ _ _ _ opens)
    (first_rests name listen file c.args.count c.in_ok-kept.kept _ _ _ _ opens _ c.new-tally.ensures))
