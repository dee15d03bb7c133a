use Rattle.siri_ends.specs.Responses.{taking}
use Rattle.siri_keep.specs.Serving.{message_kept}
use Rattle.siri_keep.proofs.KeptTurns.{holds_turned, told_kept_on, turned}
use Rattle.siri_keep.proofs.serving.KeptTaker.take.Goals as goal

pub returns-clause-turned : goal.returns-clause-turned
returns-clause-turned g c =
    turned c.args.asked.now c.in_ok-outs.outs c.in_ok-reply.reply c.args.self.now c.reply_for.new.self c.settle.new.self
    c.in_ok-reply.ensures.short c.in_ok-reply.ensures.long c.in_ok-reply.ensures.name c.in_ok-outs.ensures.ok c.in_ok-outs.ensures.sends
    c.settle.ensures.name

pub returns-clause-holds : goal.returns-clause-holds
returns-clause-holds g c =
    holds_turned c.args.asked.now c.in_ok-outs.outs c.in_ok-reply.reply c.args.self.now c.reply_for.new.self c.settle.new.self
    c.in_ok-reply.ensures.short c.in_ok-reply.ensures.long c.in_ok-reply.ensures.name c.in_ok-outs.ensures.ok c.in_ok-outs.ensures.sends
    c.settle.ensures.name g.B.Shelf.tells c.args.shelf.now c.reply_for.new.shelf c.in_ok-reply.ensures.ok

pub returns-clause-left : goal.returns-clause-left
returns-clause-left g c =
    told_kept_on c.args.self.now c.reply_for.new.self (taking (message_kept c.args.asked.now)) _ _ c.in_ok-reply.ensures.ok
