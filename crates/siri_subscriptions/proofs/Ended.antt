-- Subscriptions that end one after the other.
use Rattle.std.proofs.Common.{◌≡◌, ℕ, List, [], ◌∷◌, map, Bool, cond, refl, ap, ◌∙◌, sym}
use Rattle.siri_subs.specs.declared.entry.Row.{Row}
use Rattle.siri_subs.specs.Table.{ended, is_ended_by}
use Rattle.siri_subs.proofs.Mapped.{is_ended_mapped, ended_mapped}
use Rattle.siri_model.specs.Rows.{KeptLife}
use Rattle.siri_subscriptions.specs.declared.course.Course.{Course}
use Rattle.siri_subscriptions.specs.Courses.{kept, kept_rows}
use Rattle.siri_subscriptions.specs.Noted.{noted, noted_rows}
use Rattle.siri_subscriptions.specs.Terminations.{end_status, end_statuses}
use Rattle.siri_subscriptions.specs.Endings.{Sayings, sayings, said, rows_left, noted_left, all_said}

module _ (number : ℕ) (subscriber : List ℕ) where
  pub ended_statuses : (identifiers : List (List ℕ)) (rows : List (Row KeptLife))
      → all_said number subscriber (map (sayings subscriber) identifiers) rows ≡ end_statuses number subscriber
      identifiers rows
  ended_statuses [] rows = refl
  ended_statuses (identifier ∷ identifiers) rows =
      ap (λ l. end_status number subscriber rows identifier ∷ l) (ended_statuses identifiers (ended number subscriber identifier rows))

-- ---- one of them

module _ (number : ℕ) (subscriber : List ℕ) (e : Sayings) (table : List (Row Course)) where
  pub is_said : (b : Bool) → b ≡ is_ended_by number subscriber e.identifier table → cond b e.ended e.unknown ≡ said number subscriber (kept_rows table) e
  is_said b is = ap (λ k. cond k e.ended e.unknown) (is ∙ sym (is_ended_mapped kept number subscriber e.identifier table))

  pub is_left : (new : List (Row Course)) → new ≡ ended number subscriber e.identifier table → kept_rows new ≡ rows_left number subscriber (kept_rows table) e
  is_left new is = ap kept_rows is ∙ sym (ended_mapped kept number subscriber e.identifier table)

  pub is_noted_left : (new : List (Row Course)) → new ≡ ended number subscriber e.identifier table
      → noted_rows new ≡ noted_left number subscriber (noted_rows table) e
  is_noted_left new is = ap noted_rows is ∙ sym (ended_mapped noted number subscriber e.identifier table)
