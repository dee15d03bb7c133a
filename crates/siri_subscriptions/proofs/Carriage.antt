-- What of a settled row belongs to its life is what a settle makes of it.
use Rattle.std.proofs.Common.{◌≡◌, ℕ, Bool, true, false, cond, refl, ap, sym, ◌∙◌}
use Rattle.siri_records.specs.Keyed.{Items}
use Rattle.siri_messages.specs.Asked.{AskedFor}
use Rattle.siri_life.specs.Slot.{begun, sent, is_message_due, opens_round}
use Rattle.siri_subs.specs.declared.entry.Row.{Row}
use Rattle.siri_model.specs.Direct.{direct_to}
use Rattle.siri_model.specs.Meaning.{meaning}
use Rattle.siri_model.specs.Rows as model
use Rattle.siri_subs.specs.rounds.Wanted.{KeptRounds, RoundsOfChanges, rounds_carried}
use Rattle.siri_subs.proofs.Carriage.{due_carried, sent_carried}
use Rattle.siri_subscriptions.specs.declared.course.Course.{Course}
use Rattle.siri_subscriptions.specs.Courses.{kept_row}
use Rattle.siri_subscriptions.specs.declared.looks.Finding.{Finding}
use Rattle.siri_subscriptions.specs.Due.{IsFound}
use Rattle.siri_subscriptions.specs.Openings.{with_opening}
use Rattle.siri_subscriptions.specs.Rounds.{looked, next_round, sent_if_due}
use Rattle.siri_subscriptions.specs.Settled.{settled_row}

pub looked_carried : (asked : AskedFor) (direct : Items) (now : ℕ) (rounds : RoundsOfChanges)
    → rounds_carried (looked asked direct now rounds) ≡ model.looked asked direct now (rounds_carried rounds)
looked_carried asked direct now rounds = by (opens_round meaning (rounds_carried rounds).outstanding (rounds_carried rounds) asked direct)
  where
    by : (b : Bool) → rounds_carried (cond b (begun rounds (next_round asked direct now rounds)) rounds) ≡ cond b
        (begun (rounds_carried rounds) (model.next_round asked direct now (rounds_carried rounds)))
        (rounds_carried rounds)
    by true = refl
    by false = refl

-- the life once the round has opened that a look found
pub found_carried : (now : ℕ) (items : Items) (row : Row Course) (finding : Finding) → IsFound now items row finding
    → rounds_carried (with_opening now finding.opening row.slot.rounds) ≡ model.looked (model.asked_of (kept_row row))
    (direct_to now items row.wanted.topic) now (rounds_carried row.slot.rounds)
found_carried now items row finding found =
    ap rounds_carried found.opening ∙ looked_carried (model.asked_of (kept_row row)) (direct_to now items row.wanted.topic) now row.slot.rounds

sent_if_due_carried : (now : ℕ) (rounds : RoundsOfChanges) → rounds_carried (sent_if_due now rounds) ≡ model.sent_if_due now (rounds_carried rounds)
sent_if_due_carried now rounds =
    by (is_message_due rounds now) ∙ ap (λ b. cond b (sent (rounds_carried rounds) now) (rounds_carried rounds)) (sym (due_carried rounds now))
  where
    by : (b : Bool) → rounds_carried (cond b (sent rounds now) rounds) ≡ cond b (sent (rounds_carried rounds) now) (rounds_carried rounds)
    by true = sent_carried rounds now
    by false = refl

pub settled_carried : (now : ℕ) (items : Items) (next : ℕ) (row : Row Course) → kept_row (settled_row now items next row) ≡ model.settled_row now items (kept_row row)
settled_carried now items next row =
    let asked = model.asked_of (kept_row row) in
    let direct = direct_to now items row.wanted.topic in
    let settled = model.settled_row now items (kept_row row) in
    ap (λ (rounds : KeptRounds). record settled { slot = record settled.slot { rounds = rounds } })
    (sent_if_due_carried now (looked asked direct now row.slot.rounds) ∙ ap (model.sent_if_due now) (looked_carried asked direct now row.slot.rounds))
