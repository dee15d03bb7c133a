use Rattle.std.proofs.Common.{sym, ◌∙◌}
use Rattle.siri_ends.proofs.Looks.{alike_direct}
use Rattle.siri_ends.proofs.reply.reply_to.Goals as goal

pub returns-then-is_direct-clause-follows : goal.returns-then-is_direct-clause-follows
returns-then-is_direct-clause-follows c = alike_direct c.args.producer.now c.args.message (sym c.is_direct.ensures ∙ c.if-is_direct.true)

pub returns-then-not-request-clause-follows : goal.returns-then-not-request-clause-follows
returns-then-not-request-clause-follows c = rw c.in-DataSupplyRequest.is c.reply_to_supply-reply.ensures.follows
