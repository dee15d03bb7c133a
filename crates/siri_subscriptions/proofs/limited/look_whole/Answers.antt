use Rattle.std.proofs.Common.{ap, cond, [], is_some, ◌∙◌, refl}
use Rattle.siri_change.specs.Changes as change
use Rattle.siri_subs.specs.Lent.{entry_of}
use Rattle.siri_model.specs.Followed.{keys_apart}
use Rattle.siri_model.specs.Rows.{asked_of}
use Rattle.siri_subscriptions.specs.Courses.{kept_row}
use Rattle.siri_subscriptions.specs.Due.{IsFound}
use Rattle.siri_subscriptions.specs.Rounds.{looked}
use Rattle.siri_subscriptions.proofs.LookedWhole.{whole_apart}
use Rattle.siri_subscriptions.proofs.limited.look_whole.Goals as goal

pub returns-clause-found : goal.returns-clause-found
returns-clause-found c =
    let row = entry_of c.args.entry.now in
    let now = c.args.responder.now.moment in
    let direct = c.of-direct.ensures ∙ c.in_ok-items.ensures.ok in
    record {
      opening = c.in_ok-finding.ensures.opening (asked_of (kept_row row)) refl now
          ∙ ap (λ d. looked (asked_of (kept_row row)) d now row.slot.rounds) direct;
      can_open = c.in_ok-finding.ensures.can_open;
      level = rw c.requires.level (c.in_ok-finding.ensures.level
          ∙ ap (λ d. change.meets row.wanted.slack row.slot.rounds.acknowledged d) direct);
    }

pub returns-clause-apart : goal.returns-clause-apart
returns-clause-apart c =
    let row = entry_of c.args.entry.now in
    let now = c.args.responder.now.moment in
    let direct = c.of-direct.ensures ∙ c.in_ok-items.ensures.ok in
    let found : IsFound now c.args.responder.now.held row c.in_ok-finding.finding = record {
      opening = c.in_ok-finding.ensures.opening (asked_of (kept_row row)) refl now
          ∙ ap (λ d. looked (asked_of (kept_row row)) d now row.slot.rounds) direct;
      can_open = c.in_ok-finding.ensures.can_open;
      level = rw c.requires.level (c.in_ok-finding.ensures.level
          ∙ ap (λ d. change.meets row.wanted.slack row.slot.rounds.acknowledged d) direct);
    } in
    whole_apart now c.args.responder.now.held row c.requires.level c.in_ok-finding.finding found c.in_ok-apart.apart
    (c.in_ok-apart.ensures
    ∙ (λ i. cond (is_some c.in_ok-finding.finding.opening) [] (keys_apart row.wanted.slack (c.acknowledged.ensures i) (direct i))))
