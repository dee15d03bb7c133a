-- A table of which the first rows have settled.
use Rattle.std.proofs.Common.{◌≡◌, ℕ, ◌<◌, suc, zero, List, [], ◌∷◌, map, length, Option, Some, None, slice_get, option_map, ap, subst, ◌∙◌, arith, add-one, ◌+◌}
use Rattle.siri_records.specs.Keyed.{Items}
use Rattle.siri_subs.specs.declared.entry.Row.{Row}
use Rattle.siri_subs.specs.Loans.{with_slot}
use Rattle.siri_subscriptions.specs.declared.course.Course.{Course}
use Rattle.siri_subscriptions.specs.declared.due.Due.{Due}
use Rattle.siri_subscriptions.specs.Openings.{CanOpen}
use Rattle.siri_subscriptions.specs.Due.{AreDue, course_after}
use Rattle.siri_subscriptions.specs.Settled.{settled_row}

-- the slot at a place
abbrev slot_at : List (Row Course) → ℕ → Option Course
slot_at table place = option_map (λ (row : Row Course). row.slot) (slice_get table place)

module _ (now : ℕ) (items : Items) (next : ℕ) where
  -- the rows before a place have settled; those from there on are as they were, and this is due to them
  abbrev pub AreSettled : (old : List (Row Course)) → (place : ℕ) → (table : List (Row Course)) → List Due → Type 0
  AreSettled old zero table dues = (table ≡ old) × AreDue now items next old dues
  AreSettled (row ∷ old) (suc place) (settled ∷ table) dues = (settled ≡ settled_row now items next row) × AreSettled old place table dues
  AreSettled [] (suc place) table dues = ⊥
  AreSettled (row ∷ old) (suc place) [] dues = ⊥

  pub place_below : (old : List (Row Course)) (place : ℕ) (table : List (Row Course)) (due : Due) (dues : List Due)
      → AreSettled old place table (due ∷ dues) → place < length old
  place_below [] zero table due dues so_far = absurd so_far.1
  place_below [] (suc place) table due dues so_far = absurd so_far
  place_below (row ∷ old) zero table due dues so_far = omega arith
  place_below (row ∷ old) (suc place) [] due dues so_far = absurd so_far
  place_below (row ∷ old) (suc place) (settled ∷ table) due dues so_far = omega (arith, place_below old place table due dues so_far.1)

  -- there is a row to which something is due
  pub row_there : (old : List (Row Course)) (place : ℕ) (table : List (Row Course)) (due : Due) (dues : List Due)
      → AreSettled old place table (due ∷ dues) → slot_at table place ≡ None → ⊥
  row_there [] zero table due dues so_far none = so_far.1
  row_there [] (suc place) table due dues so_far none = so_far
  row_there (row ∷ old) zero [] due dues so_far none = cc (so_far.0)
  row_there (row ∷ old) zero (same ∷ table) due dues so_far none = cc none
  row_there (row ∷ old) (suc place) [] due dues so_far none = so_far
  row_there (row ∷ old) (suc place) (settled ∷ table) due dues so_far none = row_there old place table due dues so_far.1 none

  pub can_open_there : (old : List (Row Course)) (place : ℕ) (table : List (Row Course)) (due : Due) (dues : List Due) (course : Course)
      → AreSettled old place table (due ∷ dues) → slot_at table place ≡ Some course → CanOpen due.finding.opening course.rounds
  can_open_there [] zero table due dues course so_far at = absurd so_far.1
  can_open_there [] (suc place) table due dues course so_far at = absurd so_far
  can_open_there (row ∷ old) zero [] due dues course so_far at = absurd (cc at)
  can_open_there (row ∷ old) zero (same ∷ table) due dues course so_far at =
      let is : row.slot ≡ course = cc in
      subst (λ (c : Course). CanOpen due.finding.opening c.rounds) is so_far.1.0.can_open
  can_open_there (row ∷ old) (suc place) [] due dues course so_far at = absurd so_far
  can_open_there (row ∷ old) (suc place) (settled ∷ table) due dues course so_far at = can_open_there old place table due dues course so_far.1 at

  pub settle_more : (old : List (Row Course)) (place : ℕ) (table : List (Row Course)) (due : Due) (dues : List Due) (course : Course)
      → AreSettled old place table (due ∷ dues) → slot_at table place ≡ Some course
      → AreSettled old (suc place) (with_slot table place (course_after now next due course)) dues
  settle_more [] zero table due dues course so_far at = absurd so_far.1
  settle_more [] (suc place) table due dues course so_far at = absurd so_far
  settle_more (row ∷ old) zero [] due dues course so_far at = absurd (cc at)
  settle_more (row ∷ old) zero (same ∷ table) due dues course so_far at =
      let is : same ≡ row = cc (so_far.0) in
      let kept : course ≡ row.slot = cc in
      let rest : table ≡ old = cc in
      ((λ j. record (is j) { slot = (ap (course_after now next due) kept ∙ so_far.1.0.settles) j }), (rest, so_far.1.1))
  settle_more (row ∷ old) (suc place) [] due dues course so_far at = absurd so_far
  settle_more (row ∷ old) (suc place) (settled ∷ table) due dues course so_far at = (so_far.0, settle_more old place table due dues course so_far.1 at)

  pub settle_next : (old : List (Row Course)) (place : ℕ) (table : List (Row Course)) (due : Due) (dues : List Due) (course : Course)
      → AreSettled old place table (due ∷ dues) → slot_at table place ≡ Some course
      → AreSettled old (place + 1) (with_slot table place (course_after now next due course)) dues
  settle_next old place table due dues course so_far at = rw add-one (settle_more old place table due dues course so_far at)

  all_settled : (old : List (Row Course)) (place : ℕ) (table : List (Row Course)) → AreSettled old place table [] → table ≡ map (settled_row now items next) old
  all_settled [] zero table so_far = so_far.0
  all_settled [] (suc place) table so_far = absurd so_far
  all_settled (row ∷ old) zero table so_far = absurd so_far.1
  all_settled (row ∷ old) (suc place) [] so_far = absurd so_far
  all_settled (row ∷ old) (suc place) (settled ∷ table) so_far = λ j. so_far.0 j ∷ all_settled old place table so_far.1 j

  pub none_left : (old : List (Row Course)) (place : ℕ) (table : List (Row Course)) (dues : List Due) → length dues ≡ 0
      → AreSettled old place table dues → table ≡ map (settled_row now items next) old
  none_left old place table [] none so_far = all_settled old place table so_far
  none_left old place table (due ∷ dues) none so_far = absurd (omega (arith, none))
