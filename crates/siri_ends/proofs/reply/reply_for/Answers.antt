use Rattle.siri_ends.proofs.Looks.{alike_none}
use Rattle.siri_ends.proofs.Lends.{if_ok, prepares_message, prepares_nothing, prepares_refusal}
use Rattle.siri_ends.proofs.reply.reply_for.Goals as goal

pub returns-in-Message-clause-prepares : goal.returns-in-Message-clause-prepares
returns-in-Message-clause-prepares c = if_ok c.reply_to.result _ _
    (λ reply so. prepares_message c.args.asked.now c.in-Message.message c.args.producer.now c.reply_to.new.producer
    reply
    (rw c.in-Message.is at c.in_ok-message.ensures) so) c.reply_to.ensures.prepares

pub returns-in-Refused-clause-prepares : goal.returns-in-Refused-clause-prepares
returns-in-Refused-clause-prepares c = prepares_refusal c.args.asked.now c.in-Refused.response c.args.producer.now
    (rw c.in-Refused.is at c.in_ok-message.ensures)

pub returns-in-Nothing-clause-prepares : goal.returns-in-Nothing-clause-prepares
returns-in-Nothing-clause-prepares c = prepares_nothing c.args.asked.now c.args.producer.now
    (rw c.in-Nothing.is at c.in_ok-message.ensures)

-- ---- what is followed

pub returns-in-Message-clause-follows : goal.returns-in-Message-clause-follows
returns-in-Message-clause-follows c =
    let brings = rw c.in-Message.is at c.in_ok-message.ensures in rw brings.message c.reply_to.ensures.follows

pub returns-in-Refused-clause-follows : goal.returns-in-Refused-clause-follows
returns-in-Refused-clause-follows c =
    let brings = rw c.in-Refused.is at c.in_ok-message.ensures in rw brings.message (alike_none c.args.producer.now)

pub returns-in-Nothing-clause-follows : goal.returns-in-Nothing-clause-follows
returns-in-Nothing-clause-follows c =
    let brings = rw c.in-Nothing.is at c.in_ok-message.ensures in rw brings.message (alike_none c.args.producer.now)
