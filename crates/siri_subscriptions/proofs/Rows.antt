-- What is known of a row after a settle.
use Rattle.std.proofs.Common.{◌≡◌, ℕ, Bool, true, false, cond, List, map, get_or, None, Some, Option, refl, ap, sym}
use Rattle.std.proofs.lemmas.List.Elements.{All-map}
use Rattle.siri_records.specs.Keyed.{Items, KeyChange}
use Rattle.siri_change.specs.Changes as change
use Rattle.siri_life.specs.Life.{Outstanding, is_due, first_part_wanted}
use Rattle.siri_life.specs.Slot.{begun, sent, is_message_due, opens_round}
use Rattle.siri_subs.specs.rounds.Wanted.{RoundsOfChanges, rounds_carried}
use Rattle.siri_subs.specs.declared.entry.Row.{Row}
use Rattle.siri_model.specs.Direct.{direct_to}
use Rattle.siri_model.specs.Meaning.{meaning}
use Rattle.siri_model.specs.Rows.{asked_of}
use Rattle.siri_subscriptions.specs.declared.course.Course.{Course}
use Rattle.siri_subscriptions.specs.Courses.{kept_row, KnowsLevel, KnowLevels}
use Rattle.siri_subscriptions.specs.Rounds.{next_round, sent_if_due}
use Rattle.siri_subscriptions.specs.Settled.{settled_row}

-- a round that is outstanding stays so when its message is sent
stays_outstanding : (b : Bool) (now : ℕ) (rounds : RoundsOfChanges) (o : Outstanding Items (List KeyChange))
    → rounds.outstanding ≡ Some o → (cond b (sent rounds now) rounds).outstanding ≡ None → ⊥
stays_outstanding true now rounds o is none = cc (rw is at none)
stays_outstanding false now rounds o is none = cc (is, none)

-- where nothing is outstanding once a round may have opened, none did, and nothing else is acknowledged
same_acknowledged : (b : Bool) (now : ℕ) (opened rounds : RoundsOfChanges) (o : Outstanding Items (List KeyChange))
    → opened.outstanding ≡ Some o → rounds.outstanding ≡ None
    → (sent_if_due now (cond b opened rounds)).outstanding ≡ None → (sent_if_due now (cond b opened rounds)).acknowledged ≡ rounds.acknowledged
same_acknowledged true now opened rounds o opens level none = absurd (stays_outstanding (is_message_due opened now) now opened o opens none)
same_acknowledged false now opened rounds o opens level none = rw level refl

-- a row whose outstanding round is this one, if there is one
abbrev with_outstanding : Option (Outstanding Items (List KeyChange)) → Row Course → Row Course
with_outstanding o row = record row { slot = record row.slot { rounds = record row.slot.rounds { outstanding = o } } }

knows_with : (now : ℕ) (items : Items) (next : ℕ) (o : Option (Outstanding Items (List KeyChange))) (row : Row Course)
    → KnowsLevel now items (settled_row now items next (with_outstanding o row))
knows_with now items next None row none =
    let rounds = record row.slot.rounds { outstanding = None } in
    let asked = asked_of (kept_row row) in
    let direct = direct_to now items row.wanted.topic in
    let round = next_round asked direct now rounds in
    ap (λ a. change.meets row.wanted.slack a direct)
    (sym (same_acknowledged (opens_round meaning None (rounds_carried rounds) asked direct) now
    (begun rounds round) rounds (first_part_wanted round) refl refl none))
knows_with now items next (Some o) row none =
    absurd (stays_outstanding (is_due o.last_sent now) now (record row.slot.rounds { outstanding = Some o }) o refl none)

pub know_settled : (now : ℕ) (items : Items) (next : ℕ) (rows : List (Row Course)) → KnowLevels now items (map (settled_row now items next) rows)
know_settled now items next rows =
    All-map (KnowsLevel now items) (settled_row now items next) rows
    (λ k d lt. let row = get_or rows k d in knows_with now items next row.slot.rounds.outstanding row)
