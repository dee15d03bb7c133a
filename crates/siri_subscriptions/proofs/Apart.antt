-- Which keys are kept apart after a look.
use Rattle.std.proofs.Common.{◌≡◌, ℕ, [], true, false, Some, None, refl, ◌∙◌}
use Rattle.siri_records.specs.Keyed.{Items}
use Rattle.siri_subs.specs.declared.entry.Row.{Row}
use Rattle.siri_model.specs.Direct.{direct_to}
use Rattle.siri_model.specs.Followed.{keys_apart, opens}
use Rattle.siri_subscriptions.specs.declared.course.Course.{Course}
use Rattle.siri_subscriptions.specs.Courses.{kept_row}
use Rattle.siri_subscriptions.specs.Due.{apart_at}
use Rattle.siri_subscriptions.proofs.Found.{due}

module _ (now : ℕ) (items : Items) (row : Row Course) (level : row.slot.rounds.outstanding ≡ None) where
  abbrev direct : Items
  direct = direct_to now items row.wanted.topic

  -- a round opens where one is due
  pub opens_due : opens direct (kept_row row) ≡ due row.wanted direct row.slot.rounds
  opens_due = rw level refl

  -- then none are, and otherwise those on which they don't agree
  pub apart_opened : due row.wanted direct row.slot.rounds ≡ true → Some [] ≡ apart_at now items row
  apart_opened h =
      let is_open : opens direct (kept_row row) ≡ true = opens_due ∙ h in
      rw level (rw (rw level at is_open) refl)

  pub apart_kept : due row.wanted direct row.slot.rounds ≡ false
      → Some (keys_apart row.wanted.slack row.slot.rounds.acknowledged direct) ≡ apart_at now items row
  apart_kept h =
      let is_open : opens direct (kept_row row) ≡ false = opens_due ∙ h in
      rw level (rw (rw level at is_open) refl)
