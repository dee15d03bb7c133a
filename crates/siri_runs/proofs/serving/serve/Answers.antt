use Rattle.siri_lines.proofs.Meeting.{sink_none}
use Rattle.siri_runs.specs.Enough.{EndsWhole}
use Rattle.siri_runs.proofs.Run.{clock_fault, ends_whole, keeper_fault, not_write, run_ended, unmet, wire_fault}
use Rattle.siri_runs.proofs.producers.Sound.{memory_whole, own_whole, serve_is_sound}
use Rattle.siri_runs.proofs.serving.serve.Goals as goal

pub returns-in-Err-clause-run : goal.returns-in-Err-clause-run
returns-in-Err-clause-run g c = run_ended (serve_is_sound g.A.Asking.asks c.args.name c.args.address.now) _ _ _ _ c.in-Err.end c.in-Err.ensures.err

pub returns-in-Err-clause-wire_fault : goal.returns-in-Err-clause-wire_fault
returns-in-Err-clause-wire_fault g c = wire_fault (serve_is_sound g.A.Asking.asks c.args.name c.args.address.now) _ _ _ c.in-Err.end c.in-Err.ensures.err

pub returns-in-Err-clause-clock_fault : goal.returns-in-Err-clause-clock_fault
returns-in-Err-clause-clock_fault g c = clock_fault (serve_is_sound g.A.Asking.asks c.args.name c.args.address.now) _ _ _ c.in-Err.end c.in-Err.ensures.err

pub returns-in-Err-clause-keeper_fault : goal.returns-in-Err-clause-keeper_fault
returns-in-Err-clause-keeper_fault g c = keeper_fault (serve_is_sound g.A.Asking.asks c.args.name c.args.address.now) _ _ _ c.in-Err.end c.in-Err.ensures.err

pub returns-in-Err-clause-write_fault : goal.returns-in-Err-clause-write_fault
returns-in-Err-clause-write_fault g c = λ is.
    absurd (not_write (serve_is_sound g.A.Asking.asks c.args.name c.args.address.now) _ _ _ c.in-Err.end c.in-Err.ensures.err is)

pub returns-in-Err-clause-complete : goal.returns-in-Err-clause-complete
returns-in-Err-clause-complete g c = λ has _.
    ends_whole (serve_is_sound g.A.Asking.asks c.args.name c.args.address.now) _ _ _ EndsWhole tt own_whole c.in-Err.end (memory_whole c.in-Err.end) c.in-Err.ensures.err has

pub returns-in-Err-clause-meets : goal.returns-in-Err-clause-meets
returns-in-Err-clause-meets g c =
    rw (unmet (serve_is_sound g.A.Asking.asks c.args.name c.args.address.now) _ _ _ c.in-Err.end c.in-Err.ensures.err) (sink_none _ _)
