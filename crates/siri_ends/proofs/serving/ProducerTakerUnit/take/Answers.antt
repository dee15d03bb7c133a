use Rattle.siri_ends.proofs.Lends.{turns}
use Rattle.siri_ends.proofs.serving.ProducerTakerUnit.take.Goals as goal

pub returns-clause-turned : goal.returns-clause-turned
returns-clause-turned c =
    turns c.args.asked.now c.in_ok-reply.reply c.in_ok-outs.outs c.args.self.now _ _ c.in_ok-reply.ensures.prepares
    c.in_ok-reply.ensures.name c.in_ok-outs.ensures.ok c.in_ok-outs.ensures.sends c.in_ok-outs.ensures.name
