-- What is noted of a subscription: what belongs to its life, and its last look.
use Rattle.std.specs.Prelude.{ℕ, List, map, Option}
use Rattle.siri_messages.specs.Asked.{AskedFor}
use Rattle.siri_life.specs.Named.{Name}
use Rattle.siri_subs.specs.declared.entry.Row.{Row}
use Rattle.siri_subs.specs.Mapped.{with_mapped_slots}
use Rattle.siri_model.specs.LookedAt.{LookedAt, unlooked}
use Rattle.siri_model.specs.Steps.{new_row, renewed_row, rows_asked, rows_ended, with_row_of}
use Rattle.siri_subscriptions.specs.declared.course.Course.{Course}
use Rattle.siri_subscriptions.specs.declared.course.Looked.{Looked}
use Rattle.siri_subscriptions.specs.Courses.{kept}

abbrev pub Noted : Type 0
Noted = LookedAt Looked

abbrev pub noted : Course → Noted
noted course = record { life = kept course; look = course.looked }

abbrev pub noted_rows : List (Row Course) → List (Row Noted)
noted_rows rows = with_mapped_slots noted rows

-- the last look at each row of a table
abbrev pub looked_in : List (Row Course) → List (Option Looked)
looked_in rows = map (λ row. row.slot.looked) rows

-- ---- what requests do to it

-- what begins at a moment wasn't looked at yet
abbrev pub noted_anew : ℕ → AskedFor → Noted
noted_anew = unlooked

-- a subscription that is accepted at a moment
abbrev pub new_noted : ℕ → ℕ → AskedFor → Row Noted
new_noted = new_row noted_anew

-- after requests for subscriptions under a number, one after the other
abbrev pub noted_asked : ℕ → ℕ → List AskedFor → List (Row Noted) → List (Row Noted)
noted_asked = rows_asked noted_anew

-- after terminations under a number, one after the other
abbrev pub noted_ended : ℕ → Name → List Name → List (Row Noted) → List (Row Noted)
noted_ended = rows_ended

-- after a request for all of the acceptance with a base, under a number, at a moment
abbrev pub noted_renewed : ℕ → (number base : ℕ) → Name → Name → List (Row Noted) → List (Row Noted)
noted_renewed now number base subscriber identifier rows =
    with_row_of subscriber identifier (renewed_row noted_anew now number base) rows
