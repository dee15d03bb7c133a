use Rattle.siri_lines.proofs.Meeting.{sink_none}
use Rattle.siri_runs.specs.Enough.{EndsWhole}
use Rattle.siri_runs.proofs.Run.{clock_fault, ends_whole, keeper_fault, reads_early, run_ended, unmet, wire_fault}
use Rattle.siri_runs.proofs.Statuses.{read_unless_named}
use Rattle.siri_runs.proofs.producers.Sound.{own_whole}
use Rattle.siri_relay_run.proofs.Sound.{apart_whole, relay_is_sound}
use Rattle.siri_relay_run.proofs.running.relay.Goals as goal

pub returns-clause-run : goal.returns-clause-run
returns-clause-run g c = run_ended (relay_is_sound c.args.name c.args.address.now _ _ _) _ _ _ _ c.in-Err.end c.in-Err.ensures.err

pub returns-clause-all : goal.returns-clause-all
returns-clause-all g c = reads_early (relay_is_sound c.args.name c.args.address.now _ _ _) _ _ _ _ c.in-Err.end c.in-Err.ensures.err

pub returns-clause-wire_fault : goal.returns-clause-wire_fault
returns-clause-wire_fault g c = wire_fault (relay_is_sound c.args.name c.args.address.now _ _ _) _ _ _ c.in-Err.end c.in-Err.ensures.err

pub returns-clause-clock_fault : goal.returns-clause-clock_fault
returns-clause-clock_fault g c = clock_fault (relay_is_sound c.args.name c.args.address.now _ _ _) _ _ _ c.in-Err.end c.in-Err.ensures.err

pub returns-clause-keeper_fault : goal.returns-clause-keeper_fault
returns-clause-keeper_fault g c = keeper_fault (relay_is_sound c.args.name c.args.address.now _ _ _) _ _ _ c.in-Err.end c.in-Err.ensures.err

pub returns-clause-complete : goal.returns-clause-complete
returns-clause-complete g c = λ has wanted unread _. ends_whole (relay_is_sound c.args.name c.args.address.now _ _ _) _ _ _ EndsWhole tt own_whole c.in-Err.end
    (apart_whole _ _ _ c.in-Err.end wanted (read_unless_named c.in-Err.end _ _ _ _ unread c.in-Err.ensures.meets)) c.in-Err.ensures.err has

pub returns-clause-sink_meets : goal.returns-clause-sink_meets
returns-clause-sink_meets g c = rw (unmet (relay_is_sound c.args.name c.args.address.now _ _ _) _ _ _ c.in-Err.end c.in-Err.ensures.err) (sink_none _ _)
