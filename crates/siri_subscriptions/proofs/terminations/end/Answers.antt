use Rattle.std.proofs.Common.{true, false}
use Rattle.siri_subscriptions.specs.Endings.{sayings_of}
use Rattle.siri_subscriptions.proofs.Ended.{is_said, is_left, is_noted_left}
use Rattle.siri_subscriptions.proofs.terminations.end.Goals as goal

pub returns-in-Ok-clause-status : goal.returns-in-Ok-clause-status
returns-in-Ok-clause-status c = is_said c.args.number c.args.subscriber.now (sayings_of c.args.ending) c.args.table.now true c.in-Ok.ensures.known

pub returns-in-Ok-clause-rows : goal.returns-in-Ok-clause-rows
returns-in-Ok-clause-rows c = is_left c.args.number c.args.subscriber.now (sayings_of c.args.ending) c.args.table.now _ c.end.ensures.table

pub returns-in-Err-UnknownSubscription-clause-status :
    goal.returns-in-Err-UnknownSubscription-clause-status
returns-in-Err-UnknownSubscription-clause-status c = is_said c.args.number c.args.subscriber.now
    (sayings_of c.args.ending) c.args.table.now false c.in-Err-UnknownSubscription.ensures.known

pub returns-in-Err-UnknownSubscription-clause-rows :
    goal.returns-in-Err-UnknownSubscription-clause-rows
returns-in-Err-UnknownSubscription-clause-rows c = is_left c.args.number c.args.subscriber.now (sayings_of c.args.ending) c.args.table.now _ c.end.ensures.table

pub returns-in-Ok-clause-noted : goal.returns-in-Ok-clause-noted
returns-in-Ok-clause-noted c = is_noted_left c.args.number c.args.subscriber.now (sayings_of c.args.ending) c.args.table.now _ c.end.ensures.table

pub returns-in-Err-UnknownSubscription-clause-noted :
    goal.returns-in-Err-UnknownSubscription-clause-noted
returns-in-Err-UnknownSubscription-clause-noted c = is_noted_left c.args.number c.args.subscriber.now (sayings_of c.args.ending) c.args.table.now _ c.end.ensures.table
