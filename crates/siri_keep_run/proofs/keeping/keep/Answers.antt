use Rattle.siri_lines.proofs.Meeting.{sink_none}
use Rattle.siri_runs.proofs.Run.{clock_fault, ends_whole, keeper_fault, not_write, run_ended, unmet, wire_fault}
use Rattle.siri_keep_run.specs.Runs.{EndsWholeOrByShelf}
use Rattle.siri_keep_run.proofs.LeftRun.{answered_all, answered_not, trail_all, trail_not}
use Rattle.siri_keep_run.proofs.Sound.{apart_whole, keep_is_sound, own_whole}
use Rattle.siri_keep_run.proofs.Whole.{shelf_rose}
use Rattle.siri_keep_run.proofs.keeping.keep.Goals as goal

pub returns-in-Err-clause-run : goal.returns-in-Err-clause-run
returns-in-Err-clause-run g c = run_ended (keep_is_sound c.args.name c.args.address.now c.args.file.now _ _) _ _ _ _ c.in-Err.end c.in-Err.ensures.err

pub returns-in-Err-clause-wire_fault : goal.returns-in-Err-clause-wire_fault
returns-in-Err-clause-wire_fault g c = wire_fault (keep_is_sound c.args.name c.args.address.now c.args.file.now _ _) _ _ _ c.in-Err.end c.in-Err.ensures.err

pub returns-in-Err-clause-clock_fault : goal.returns-in-Err-clause-clock_fault
returns-in-Err-clause-clock_fault g c = clock_fault (keep_is_sound c.args.name c.args.address.now c.args.file.now _ _) _ _ _ c.in-Err.end c.in-Err.ensures.err

pub returns-in-Err-clause-keeper_fault : goal.returns-in-Err-clause-keeper_fault
returns-in-Err-clause-keeper_fault g c = keeper_fault (keep_is_sound c.args.name c.args.address.now c.args.file.now _ _) _ _ _ c.in-Err.end c.in-Err.ensures.err

pub returns-in-Err-clause-write_fault : goal.returns-in-Err-clause-write_fault
returns-in-Err-clause-write_fault g c = λ is. absurd (not_write (keep_is_sound c.args.name c.args.address.now c.args.file.now _ _) _ _ _ c.in-Err.end c.in-Err.ensures.err is)

pub returns-in-Err-clause-shelf_fault : goal.returns-in-Err-clause-shelf_fault
returns-in-Err-clause-shelf_fault g c = shelf_rose _ _ c.in-Err.end c.in-Err.ensures.counted

pub returns-in-Err-clause-complete : goal.returns-in-Err-clause-complete
returns-in-Err-clause-complete g c = λ has _.
    ends_whole (keep_is_sound c.args.name c.args.address.now c.args.file.now _ _) _ _ _ EndsWholeOrByShelf tt own_whole c.in-Err.end (apart_whole _ _ c.in-Err.end) c.in-Err.ensures.err has

pub returns-in-Err-clause-meets : goal.returns-in-Err-clause-meets
returns-in-Err-clause-meets g c = rw (unmet (keep_is_sound c.args.name c.args.address.now c.args.file.now _ _) _ _ _ c.in-Err.end c.in-Err.ensures.err) (sink_none _ _)

pub returns-in-Err-clause-keep_trail : goal.returns-in-Err-clause-keep_trail
returns-in-Err-clause-keep_trail g c = trail_not _ _ _ _ _ _ c.in-Err.end _ _ c.in-Err.ensures.err

pub returns-in-Err-clause-keep_answered : goal.returns-in-Err-clause-keep_answered
returns-in-Err-clause-keep_answered g c = answered_not _ _ _ _ _ _ c.in-Err.end _ _ c.in-Err.ensures.err

pub returns-in-Ok-write_summary-clause-keep_trail : goal.returns-in-Ok-write_summary-clause-keep_trail
returns-in-Ok-write_summary-clause-keep_trail g c = trail_all _ _ _ _ _ _ _ _ _ c.in-Ok.ensures.ok

pub returns-in-Ok-write_summary-clause-keep_answered : goal.returns-in-Ok-write_summary-clause-keep_answered
returns-in-Ok-write_summary-clause-keep_answered g c = answered_all _ _ _ _ _ _ _ _ _ _ c.in-Ok.ensures.ok

pub returns-in-Err-Failed-clause-keep_trail : goal.returns-in-Err-Failed-clause-keep_trail
returns-in-Err-Failed-clause-keep_trail g c = trail_all _ _ _ _ _ _ _ _ _ c.in-Ok.ensures.ok

pub returns-in-Err-Failed-clause-keep_answered : goal.returns-in-Err-Failed-clause-keep_answered
returns-in-Err-Failed-clause-keep_answered g c = answered_all _ _ _ _ _ _ _ _ _ _ c.in-Ok.ensures.ok

pub returns-in-Err-OutOfMemory-clause-keep_trail : goal.returns-in-Err-OutOfMemory-clause-keep_trail
returns-in-Err-OutOfMemory-clause-keep_trail g c = trail_all _ _ _ _ _ _ _ _ _ c.in-Ok.ensures.ok

pub returns-in-Err-OutOfMemory-clause-keep_answered : goal.returns-in-Err-OutOfMemory-clause-keep_answered
returns-in-Err-OutOfMemory-clause-keep_answered g c = answered_all _ _ _ _ _ _ _ _ _ _ c.in-Ok.ensures.ok
