use Rattle.std.proofs.Common.{sym, ◌∙◌}
use Rattle.std.proofs.lemmas.Result.{IfOk-weaker}
use Rattle.siri_ends.proofs.Lends.{prepares_message}
use Rattle.siri_ends.proofs.Looks.{alike_none}
use Rattle.siri_keep.proofs.KeptTurns.{long_of}
use Rattle.siri_keep.proofs.SameKept.{brought_proper}
use Rattle.siri_keep.proofs.kept.Kept.reply_for.Goals as goal

pub reply_kept-requires-clause-proper : goal.reply_kept-requires-clause-proper
reply_kept-requires-clause-proper g c =
    let brings = rw c.in-Message.is at c.in_ok-message.ensures in
    brought_proper c.args.asked.now c.in-Message.message brings.message

pub returns-in-Message-clause-short : goal.returns-in-Message-clause-short
returns-in-Message-clause-short g c =
    let brings = rw c.in-Message.is at c.in_ok-message.ensures in
    IfOk-weaker c.reply_kept.result _ _
    (λ r f is. prepares_message c.args.asked.now c.in-Message.message c.args.self.now.producer c.reply_kept.new.self.producer r brings
    (f (sym (long_of c.args.asked.now c.in-Message.message brings.message) ∙ is))) c.reply_kept.ensures.short

-- ---- what is followed then

pub returns-in-Message-clause-follows : goal.returns-in-Message-clause-follows
returns-in-Message-clause-follows g c =
    let brings = rw c.in-Message.is at c.in_ok-message.ensures in rw brings.message c.reply_kept.ensures.follows

pub returns-in-Refused-clause-follows : goal.returns-in-Refused-clause-follows
returns-in-Refused-clause-follows g c =
    let brings = rw c.in-Refused.is at c.in_ok-message.ensures in rw brings.message (alike_none c.args.self.now.producer)

pub returns-in-Nothing-clause-follows : goal.returns-in-Nothing-clause-follows
returns-in-Nothing-clause-follows g c =
    let brings = rw c.in-Nothing.is at c.in_ok-message.ensures in rw brings.message (alike_none c.args.self.now.producer)
