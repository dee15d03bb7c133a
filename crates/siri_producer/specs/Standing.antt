-- Inner words: cited by private functions alone.
-- A producer as it is kept: there is a history that it follows, the number of a look isn't above the one under which
-- keys are marked, and after a settle it knows whether each view is level.
use Rattle.std.specs.Prelude.{◌≡◌, ℕ, ◌≤◌, List, map, Bool, true, Option, Some, option_map}
use Rattle.std.specs.List.{All}
use Rattle.siri_subs.specs.declared.entry.Row.{Row}
use Rattle.siri_store.specs.Marked.{Marked}
use Rattle.siri_subscriptions.specs.declared.course.Course.{Course}
use Rattle.siri_subscriptions.specs.declared.course.Looked.{Looked}
use Rattle.siri_subscriptions.specs.Courses.{kept_rows, KnowLevels}
use Rattle.siri_subscriptions.specs.Looked.{look_of}
use Rattle.siri_model.specs.Followed.{Look}
use Rattle.siri_model.specs.History.{History}
use Rattle.siri_responder.specs.Known as responder
use Rattle.siri_producer.specs.Known.{Known, Follows}

abbrev pub number_of : Looked → ℕ
number_of looked = looked.number

-- the last look at each row of a table, by the marks
abbrev pub looks_in : Marked → List (Row Course) → List (Option Look)
looks_in marks rows = map (λ row. option_map (look_of marks) row.slot.looked) rows

-- the number of each of them
abbrev pub numbers_in : List (Row Course) → List (Option ℕ)
numbers_in rows = map (λ row. option_map number_of row.slot.looked) rows

abbrev pub known_of : responder.Known → List (Row Course) → Bool → Known
known_of responder rows is_settled = record {
  responder = responder;
  table = kept_rows rows;
  looks = looks_in responder.marks rows;
  numbers = numbers_in rows;
  is_settled = is_settled;
}

-- the number of a row's last look, where there was one, isn't above a number
abbrev pub IsNumbered : ℕ → Row Course → Type 0
IsNumbered number row = (looked : Looked) → row.slot.looked ≡ Some looked → looked.number ≤ number

abbrev pub AreNumbered : ℕ → List (Row Course) → Type 0
AreNumbered number rows = All (IsNumbered number) rows

pub record IsProducer (known : responder.Known) (rows : List (Row Course)) (is_settled : Bool) : Type 0 where
  pub follows : (h : History) × Follows (known_of known rows is_settled) h
  pub numbered : AreNumbered known.marks.number rows
  pub levels : is_settled ≡ true → KnowLevels known.moment known.held rows
