-- What a settle forgets: the marks of keys before the oldest of the last looks, which no look asks for any more; and once there
-- are more marks than may be kept, the looks since which as many keys were marked as items may be held.
use Rattle.std.specs.Prelude.{◌≡◌, ℕ, ◌+◌, ◌≤◌, min, nat_le, nat_lt, List, [], ◌∷◌, length, fold, filter, map, Bool, Option, Some, None, if◌then◌else◌}
use Rattle.siri_records.specs.declared.key.Key.{Key}
use Rattle.siri_records.specs.Keyed.{Items, most_live}
use Rattle.siri_change.specs.Parts.{Carried}
use Rattle.siri_life.specs.Life.{Outstanding}
use Rattle.siri_store.specs.Marked.{is_since, last_of_each}
use Rattle.siri_subs.specs.declared.entry.Row.{Row}
use Rattle.siri_model.specs.Rows.{KeptLife}
use Rattle.siri_producer.specs.Known.{Known}

-- the most marks of keys that are kept after a settle
abbrev pub most_marks : ℕ
most_marks = 40000

-- the number of the last look after a settle: where nothing is outstanding the settle was a look, under the next number
abbrev pub number_by : Option (Outstanding Items Carried) → (before : Option ℕ) → (next : ℕ) → Option ℕ
number_by None before next = Some next
number_by (Some outstanding) before next = before

abbrev pub numbers_after : (next : ℕ) → List (Row KeptLife) → (before : List (Option ℕ)) → List (Option ℕ)
numbers_after next (row ∷ rows) (number ∷ numbers) =
    number_by row.slot.rounds.outstanding number next ∷ numbers_after next rows numbers
numbers_after next rows numbers = []

-- a number, or that of a look where it is less
abbrev pub older : ℕ → Option ℕ → ℕ
older oldest None = oldest
older oldest (Some number) = min oldest number

-- the least number of the last looks, at most this one
abbrev pub oldest_of : (most : ℕ) → List (Option ℕ) → ℕ
oldest_of most numbers = fold older most numbers

-- ---- where there are more marks than may be kept

abbrev pub are_many : List (ℕ × Key) → Bool
are_many log = nat_lt most_marks (length log)

-- of each key the last mark stays
abbrev pub marks_left : List (ℕ × Key) → List (ℕ × Key)
marks_left log = if are_many log then last_of_each log else log

-- a look since which as many keys were marked as items may be held counts no more: the next one is as the first
abbrev pub number_left : List (ℕ × Key) → Option ℕ → Option ℕ
number_left log None = None
number_left log (Some number) = if nat_le most_live (length (filter (is_since number) log)) then None else Some number

abbrev pub numbers_left : List (ℕ × Key) → List (Option ℕ) → List (Option ℕ)
numbers_left log numbers = if are_many log then map (number_left (last_of_each log)) numbers else numbers

-- ---- a settle

-- by the next number, under which keys are marked from now on: the settle's looks have it, and what was marked before the
-- oldest of the last looks is forgotten, or all of it where there was none
pub record ForgetsBy (next : ℕ) (old new : Known) : Type 0 where
  pub number : new.responder.marks.number ≡ next
  pub numbers : new.numbers ≡ numbers_left old.responder.marks.log (numbers_after next old.table old.numbers)
  pub log : new.responder.marks.log ≡ filter (is_since (oldest_of next new.numbers)) (marks_left old.responder.marks.log)
  pub few : length new.responder.marks.log ≤ most_marks

abbrev pub Forgets : Known → Known → Type 0
Forgets old new = ForgetsBy (old.responder.marks.number + 1) old new
