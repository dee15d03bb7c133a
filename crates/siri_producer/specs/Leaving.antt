-- Inner words: cited by private functions alone.
-- The last looks at the subscriptions of a table that are let go.
use Rattle.std.specs.Prelude.{◌≡◌, ℕ, nat_le, List, map, length, filter, Option, Some, None, if◌then◌else◌}
use Rattle.siri_records.specs.declared.key.Key.{Key}
use Rattle.siri_records.specs.Keyed.{most_live}
use Rattle.siri_store.specs.Marked.{Marked, is_since}
use Rattle.siri_subs.specs.declared.entry.Row.{Row}
use Rattle.siri_responder.specs.Known as responder
use Rattle.siri_subscriptions.specs.declared.course.Course.{Course}
use Rattle.siri_subscriptions.specs.declared.course.Looked.{Looked}
use Rattle.siri_producer.specs.Oldest.{oldest_look}

-- a look since which as many keys were marked as items may be held counts no more
abbrev pub look_left : List (ℕ × Key) → Option Looked → Option Looked
look_left log None = None
look_left log (Some looked) = if nat_le most_live (length (filter (is_since looked.number) log)) then None else Some looked

abbrev pub course_left : List (ℕ × Key) → Course → Course
course_left log course = record course { looked = look_left log course.looked }

abbrev pub row_left : List (ℕ × Key) → Row Course → Row Course
row_left log row = record row { slot = course_left log row.slot }

-- where these marks stand in the place of those that there were, such looks count no more, and marks before the oldest of the
-- others go
pub record LeavesBy (marks : Marked) (known new : responder.Known) (rows after : List (Row Course)) : Type 0 where
  pub table : after ≡ map (row_left marks.log) rows
  pub log : new.marks.log ≡ filter (is_since (oldest_look known.marks.number after)) marks.log
  pub number : new.marks.number ≡ known.marks.number
  pub rest : new ≡ record known { marks = new.marks }

-- where there are none, all stays
pub record Stays (known new : responder.Known) (rows after : List (Row Course)) : Type 0 where
  pub table : after ≡ rows
  pub responder : new ≡ known

abbrev pub Leaves : (last : Option Marked) → (known new : responder.Known) → (rows after : List (Row Course)) → Type 0
Leaves None known new rows after = Stays known new rows after
Leaves (Some marks) known new rows after = LeavesBy marks known new rows after
