-- Inner words: cited by private functions alone.
-- The oldest of the last looks at the subscriptions of a table.
use Rattle.std.specs.Prelude.{ℕ, List, fold, Option, option_map}
use Rattle.siri_subs.specs.declared.entry.Row.{Row}
use Rattle.siri_subscriptions.specs.declared.course.Course.{Course}
use Rattle.siri_subscriptions.specs.declared.course.Looked.{Looked}
use Rattle.siri_producer.specs.Forgets as forgets
use Rattle.siri_producer.specs.Standing.{number_of}

-- a number, or that of a look where it is less
abbrev pub older : ℕ → Option Looked → ℕ
older oldest looked = forgets.older oldest (option_map number_of looked)

-- the least number of the last looks, at most this one
abbrev pub oldest_look : (most : ℕ) → List (Row Course) → ℕ
oldest_look most rows = fold (λ oldest row. older oldest row.slot.looked) most rows
