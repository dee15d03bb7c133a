use Rattle.std.proofs.Common.{length, ◌+◌, ◌<◌, ◌≤◌, subst, sym, ap, ◌∙◌}
use Rattle.siri_records.specs.Keyed.{Items}
use Rattle.siri_life.specs.Life.{greatest_round}
use Rattle.siri_change.specs.Changes as change
use Rattle.siri_change.specs.Parts as part
use Rattle.siri_subscriptions.proofs.Found.{opens, stays, is_found}
use Rattle.siri_subscriptions.proofs.looks.look.Goals as goal
use Rattle.siri_subscriptions.proofs.looks.look.Goals.{then-is_round_due+in_ok-round_to_open, else-is_round_due}

pub returns-clause-opening : goal.returns-clause-opening
returns-clause-opening c asked wants now =
    let wanted = c.args.wanted.now in
    let rounds = c.args.rounds.now in
    let direct = c.args.direct.now in
    let found = is_found wanted direct c.acknowledged.result.now rounds c.last.result c.differ-is_level.result
    c.is_round_due.result c.last.ensures c.acknowledged.ensures c.differ-is_level.ensures
    c.is_round_due.ensures.due in
    elim c.if-is_round_due.branch [
      | then-is_round_due+in_ok-round_to_open w ↦
          let opening = w.in_ok-round_to_open.field-0 in
          let view = w.acknowledged-then-is_round_due.ensures in
          rw w.opening-is
          (opens wanted direct rounds opening c.requires (sym found ∙ w.if-is_round_due.true)
          (ap (λ a. part.led_to a opening.incremental opening.changes) (sym view) ∙ (w.in_ok-round_to_open.ensures.leads
          ∙ ap (λ a. change.target wanted.slack wanted.incremental a direct) view))
          (w.in_ok-round_to_open.ensures.changes
          ∙ ap (λ a. part.load a (change.target wanted.slack wanted.incremental a direct) wanted.incremental) view)
          asked wants now)
      | else-is_round_due w ↦ rw w.opening-is (stays wanted direct rounds c.requires (sym found ∙ w.if-is_round_due.false) asked wants now)
    ]

pub returns-clause-can_open : goal.returns-clause-can_open
returns-clause-can_open c =
    elim c.if-is_round_due.branch [
      | then-is_round_due+in_ok-round_to_open w ↦
          let opening = w.in_ok-round_to_open.field-0 in
          rw w.opening-is (record {
            level = c.requires;
            room = subst (λ n. n < greatest_round) c.last.ensures (c.is_round_due.ensures.room w.if-is_round_due.true);
            fits = subst (λ (v : Items). length (part.base_view v opening.incremental) + length opening.changes ≤ opening.room)
                w.acknowledged-then-is_round_due.ensures w.in_ok-round_to_open.ensures.fits;
          })
      | else-is_round_due w ↦ rw w.opening-is tt
    ]
