-- Inner words: cited by private functions alone.
-- What may be said of a subscription that is to end.
use Rattle.std.specs.Prelude.{ℕ, List, fold, if◌then◌else◌}
use Rattle.std.specs.List.{scan}
use Rattle.siri_messages.specs.declared.terminations.TerminationResponseStatus.{TerminationResponseStatus}
use Rattle.siri_subs.specs.declared.entry.Row.{Row}
use Rattle.siri_subs.specs.Table.{ended, is_ended_by}
use Rattle.siri_model.specs.Rows.{KeptLife}
use Rattle.siri_subscriptions.specs.replies.Responses.{ended_status, unknown_status}
use Rattle.siri_subscriptions.specs.declared.terminations.Ending.{Ending}
use Rattle.siri_subscriptions.specs.Noted.{Noted}

-- its identifier, and both statuses
pub record Sayings : Type 0 where
  pub identifier : List ℕ
  pub ended : TerminationResponseStatus
  pub unknown : TerminationResponseStatus

abbrev pub sayings_of : Ending → Sayings
sayings_of e = record { identifier = e.identifier.now; ended = e.ended; unknown = e.unknown }

abbrev pub sayings : (subscriber identifier : List ℕ) → Sayings
sayings subscriber identifier = record {
  identifier = identifier;
  ended = ended_status subscriber identifier;
  unknown = unknown_status subscriber identifier;
}

-- what is said of it, and the rows after it
abbrev pub said : (number : ℕ) → (subscriber : List ℕ) → List (Row KeptLife) → Sayings → TerminationResponseStatus
said number subscriber rows e = if is_ended_by number subscriber e.identifier rows then e.ended else e.unknown

abbrev pub rows_left : (number : ℕ) → (subscriber : List ℕ) → List (Row KeptLife) → Sayings → List (Row KeptLife)
rows_left number subscriber rows e = ended number subscriber e.identifier rows

-- the same of all, one after the other
abbrev pub all_said : (number : ℕ) → (subscriber : List ℕ) → List Sayings → List (Row KeptLife) → List TerminationResponseStatus
all_said number subscriber endings rows = scan (rows_left number subscriber) (said number subscriber) rows endings

abbrev pub all_left : (number : ℕ) → (subscriber : List ℕ) → List Sayings → List (Row KeptLife) → List (Row KeptLife)
all_left number subscriber endings rows = fold (rows_left number subscriber) rows endings

-- what is noted after one, and after all
abbrev pub noted_left : (number : ℕ) → (subscriber : List ℕ) → List (Row Noted) → Sayings → List (Row Noted)
noted_left number subscriber rows e = ended number subscriber e.identifier rows

abbrev pub all_noted_left : (number : ℕ) → (subscriber : List ℕ) → List Sayings → List (Row Noted) → List (Row Noted)
all_noted_left number subscriber endings rows = fold (noted_left number subscriber) rows endings
