use Rattle.std.proofs.Common.{sym, Some, None}
use Rattle.siri_subs.specs.Lent.{entry_of}
use Rattle.siri_subscriptions.proofs.Kept.{termination_held}
use Rattle.siri_subscriptions.proofs.requests.termination_held.Goals as goal

pub returns-in-Some : goal.returns-in-Some
returns-in-Some c =
    let w = c.args.wanted.now in
    sym (termination_held w.subscriber w.identifier c.args.table.now (Some (entry_of c.in-Some.row)) c.in-Some.ensures)

pub returns-in-None : goal.returns-in-None
returns-in-None c =
    let w = c.args.wanted.now in
    sym (termination_held w.subscriber w.identifier c.args.table.now None c.in-None.ensures)
