-- Inner words: cited by private functions alone.
-- What a settle does to a subscription, as it is found before anything changes.
use Rattle.std.specs.Prelude.{◌≡◌, ℕ, List, Option, Some, None, if◌then◌else◌}
use Rattle.std.specs.List.{AllZip}
use Rattle.siri_records.specs.declared.key.Key.{Key}
use Rattle.siri_records.specs.Keyed.{Items, KeyChange}
use Rattle.siri_change.specs.Changes as change
use Rattle.siri_life.specs.Life.{Outstanding}
use Rattle.siri_subs.specs.declared.entry.Row.{Row}
use Rattle.siri_model.specs.Direct.{direct_to}
use Rattle.siri_model.specs.Followed.{look_at}
use Rattle.siri_model.specs.Rows.{asked_of}
use Rattle.siri_subscriptions.specs.declared.course.Course.{Course}
use Rattle.siri_subscriptions.specs.declared.course.Looked.{Looked}
use Rattle.siri_subscriptions.specs.Courses.{kept_row}
use Rattle.siri_subscriptions.specs.declared.due.Due.{Due}
use Rattle.siri_subscriptions.specs.declared.looks.Finding.{Finding}
use Rattle.siri_subscriptions.specs.Openings.{with_opening, CanOpen}
use Rattle.siri_subscriptions.specs.Rounds.{looked, sent_if_due}
use Rattle.siri_subscriptions.specs.Settled.{level_by, settled_course}

-- a finding is that of a look by the current items at a moment; where a round is outstanding there is no look
pub record IsFound (now : ℕ) (items : Items) (row : Row Course) (finding : Finding) : Type 0 where
  pub opening : with_opening now finding.opening row.slot.rounds ≡ looked (asked_of (kept_row row)) (direct_to now items row.wanted.topic) now row.slot.rounds
  pub can_open : CanOpen finding.opening row.slot.rounds
  pub level : finding.is_level ≡ level_by row.slot.rounds.outstanding
      (change.meets row.wanted.slack row.slot.rounds.acknowledged (direct_to now items row.wanted.topic)) row.slot.is_level

-- where nothing is outstanding, these keys are kept apart after the look
abbrev pub apart_by : Option (Outstanding Items (List KeyChange)) → List Key → Option (List Key)
apart_by None apart = Some apart
apart_by (Some outstanding) apart = None

abbrev pub apart_at : ℕ → Items → Row Course → Option (List Key)
apart_at now items row = apart_by row.slot.rounds.outstanding (look_at now items (kept_row row)).apart

-- the last look, once there was one at a moment, if there was, after which keys are marked under the next number
abbrev pub last_look : (now next : ℕ) → (apart : Option (List Key)) → (before : Option Looked) → Option Looked
last_look now next None before = before
last_look now next (Some apart) before = Some (record { moment = now; number = next; apart = apart })

-- what is kept of a subscription once it is done at a moment
abbrev pub course_after : (now next : ℕ) → Due → Course → Course
course_after now next due course = record {
  rounds = sent_if_due now (with_opening now due.finding.opening course.rounds);
  last_heartbeat = if due.has_heartbeat then now else course.last_heartbeat;
  is_level = due.finding.is_level;
  looked = last_look now next due.apart course.looked;
}

-- it can be done, and is what a settle does
pub record IsDue (now : ℕ) (items : Items) (next : ℕ) (row : Row Course) (due : Due) : Type 0 where
  pub can_open : CanOpen due.finding.opening row.slot.rounds
  pub settles : course_after now next due row.slot ≡ settled_course now items next row

-- row by row
abbrev pub AreDue : ℕ → Items → (next : ℕ) → List (Row Course) → List Due → Type 0
AreDue now items next rows dues = AllZip (IsDue now items next) rows dues
