-- The last looks at the subscriptions of a table, by the marks of a responder.
use Rattle.std.specs.Prelude.{◌≡◌, ◌≤◌, ◌⊎◌, List, [], Option, Some, None, option_map}
use Rattle.std.specs.List.{All}
use Rattle.siri_life.specs.Life.{greatest_round}
use Rattle.siri_store.specs.Marked.{Marked, keys_since}
use Rattle.siri_subs.specs.declared.entry.Row.{Row}
use Rattle.siri_subs.specs.Mapped.{mapped_row, with_mapped_slots}
use Rattle.siri_model.specs.Facts.{Follows}
use Rattle.siri_model.specs.Followed.{Look, Followed, goal_of}
use Rattle.siri_responder.specs.Known.{Known}
use Rattle.siri_subscriptions.specs.declared.course.Course.{Course}
use Rattle.siri_subscriptions.specs.declared.course.Looked.{Looked}
use Rattle.siri_subscriptions.specs.Courses.{kept}

-- a last look: touched are the keys that were marked under its number or a later one
abbrev pub look_of : Marked → Looked → Look
look_of marks looked = record { moment = looked.moment; touched = keys_since marks.log looked.number; apart = looked.apart }

-- what of a subscription belongs to its life, with its last look
abbrev pub followed : Marked → Course → Followed
followed marks course = record { life = kept course; look = option_map (look_of marks) course.looked }

-- a row, and the rows of a table, with these
abbrev pub followed_row : Marked → Row Course → Row Followed
followed_row marks row = mapped_row (followed marks) row

abbrev pub followed_rows : Marked → List (Row Course) → List (Row Followed)
followed_rows marks rows = with_mapped_slots (followed marks) rows

-- what holds of a subscription after a look: the number of the look isn't above that of the marks, the two facts hold, no
-- key is kept apart unless the numbers of rounds are used up, and a round was opened
pub record FollowsLook (known : Known) (row : Row Course) (looked : Looked) : Type 0 where
  pub number : looked.number ≤ known.marks.number
  pub facts : Follows row.wanted.slack row.wanted.topic known.moment known.held (goal_of (kept row.slot).rounds)
      (look_of known.marks looked)
  pub used_up : (looked.apart ≡ []) ⊎ (greatest_round ≤ row.slot.rounds.rounds_opened)
  pub some_opened : 1 ≤ row.slot.rounds.rounds_opened

-- nothing is known before the first look, or where the last one counts no more
abbrev pub FollowsBy : Known → Row Course → Option Looked → Type 0
FollowsBy known row None = Unit {0}
FollowsBy known row (Some looked) = FollowsLook known row looked

abbrev pub RowFollows : Known → Row Course → Type 0
RowFollows known row = FollowsBy known row row.slot.looked

abbrev pub AllFollow : Known → List (Row Course) → Type 0
AllFollow known rows = All (RowFollows known) rows
