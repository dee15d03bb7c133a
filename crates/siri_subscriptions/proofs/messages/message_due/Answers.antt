use Rattle.std.proofs.Common.{option_map, sym, ap, ◌∙◌}
use Rattle.siri_change.specs.Parts.{led_to}
use Rattle.siri_subs.specs.rounds.Wanted.{part_sent, rounds_carried}
use Rattle.siri_subs.proofs.Carriage.{due_carried}
use Rattle.siri_subscriptions.proofs.Found.{first_due, again_due}
use Rattle.siri_subscriptions.proofs.messages.message_due.Goals as goal
use Rattle.siri_subscriptions.proofs.messages.message_due.Goals.{in-Some, in-None, in-None-2}

pub returns-in_ok-message_of-in-Some-part : goal.returns-in_ok-message_of-in-Some-part
returns-in_ok-message_of-in-Some-part c =
    let producer = c.args.producer.now in
    let wanted = c.args.wanted.now in
    let rounds = c.args.rounds.now in
    let part = part_sent c.in-Some-part.part in
    let message = c.in_ok-message_of-in-Some-part.field-0 in
    let is = c.in_ok-message_of-in-Some-part.ensures in
    elim c.match-opening.branch [
      | in-Some w ↦
          let opening = w.in-Some.opening.now in
          let sent = ap (option_map part_sent) (sym c.in-Some-part.is ∙ w.part-is) in
          rw w.in-Some.is (first_due producer c.args.start wanted c.args.number c.args.now rounds opening part message
          is (sent ∙ w.first_part.ensures.sent (led_to rounds.acknowledged opening.incremental opening.changes)))
      | in-None w ↦
          let sent = ap (option_map part_sent) (sym c.in-Some-part.is ∙ w.part-is) in
          rw w.in-None.is (again_due producer c.args.start wanted c.args.number c.args.now
          (rounds_carried rounds) part message is (sent ∙ w.part-part.ensures.sent)
          (due_carried rounds c.args.now ∙ (sym w.due.ensures ∙ w.if-due.true)))
      | in-None-2 w ↦ cc (c.in-Some-part.is, w.part-is)
    ]
