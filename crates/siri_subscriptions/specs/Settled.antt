-- A row after a settle.
use Rattle.std.specs.Prelude.{ℕ, List, Bool, Option, Some, None}
use Rattle.siri_records.specs.Keyed.{Items, KeyChange}
use Rattle.siri_change.specs.Changes as change
use Rattle.siri_life.specs.Life.{Outstanding}
use Rattle.siri_subs.specs.declared.entry.Row.{Row}
use Rattle.siri_model.specs.Direct.{direct_to}
use Rattle.siri_model.specs.Followed.{look_at, look_by}
use Rattle.siri_model.specs.Rows as model
use Rattle.siri_subscriptions.specs.declared.course.Course.{Course}
use Rattle.siri_subscriptions.specs.declared.course.Looked.{Looked}
use Rattle.siri_subscriptions.specs.Courses.{kept_row}
use Rattle.siri_subscriptions.specs.Rounds.{looked, sent_if_due}

-- where nothing is outstanding a look finds whether the acknowledged view meets the direct response
abbrev pub level_by : Option (Outstanding Items (List KeyChange)) → (found before : Bool) → Bool
level_by None found before = found
level_by (Some outstanding) found before = before

-- the look of a settle at a moment, after which keys are marked under the next number
abbrev pub look_now : (now : ℕ) → Items → (next : ℕ) → Row Course → Looked
look_now now items next row = record { moment = now; number = next; apart = (look_at now items (kept_row row)).apart }

-- what is kept of a subscription after a settle, by the current items at a moment; its looks get the next number
abbrev pub settled_course : (now : ℕ) → Items → (next : ℕ) → Row Course → Course
settled_course now items next row =
    let settled = model.settled_row now items (kept_row row) in
    record {
      rounds = sent_if_due now (looked (model.asked_of (kept_row row)) (direct_to now items row.wanted.topic) now row.slot.rounds);
      last_heartbeat = settled.slot.last_heartbeat;
      is_level = level_by row.slot.rounds.outstanding
          (change.meets row.wanted.slack row.slot.rounds.acknowledged (direct_to now items row.wanted.topic))
          row.slot.is_level;
      looked = look_by row.slot.rounds.outstanding row.slot.looked (look_now now items next row);
    }

abbrev pub settled_row : (now : ℕ) → Items → (next : ℕ) → Row Course → Row Course
settled_row now items next row = record row { slot = settled_course now items next row }
