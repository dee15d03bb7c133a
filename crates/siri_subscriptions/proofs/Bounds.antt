-- How many stored items the looks at some rows may read.
use Rattle.std.proofs.Common.{◌≡◌, ℕ, ◌+◌, ◌≤◌, zero, suc, List, [], ◌∷◌, take, Some, slice_get, refl, ap, sym}
use Rattle.std.proofs.Common.{◌∙◌, subst}
use Rattle.std.specs.Prelude.{option_map}
use Rattle.siri_records.specs.Keyed.{Items}
use Rattle.siri_store.specs.Marked.{Marked}
use Rattle.siri_subs.specs.declared.entry.Row.{Row}
use Rattle.siri_model.specs.Followed.{Followed, look_bound, look_bounds}
use Rattle.siri_model.proofs.Apart.{bounds_add, bounds_are_within}
use Rattle.siri_subscriptions.specs.declared.course.Course.{Course}
use Rattle.siri_subscriptions.specs.Looked.{followed_row, followed_rows}

module _ (now : ℕ) (live : Items) (marks : Marked) where
  abbrev bounds : List (Row Course) → ℕ
  bounds rows = look_bounds now live (followed_rows marks rows)

  taken : (rows : List (Row Course)) (place : ℕ) → followed_rows marks (take place rows)
      ≡ take place (followed_rows marks rows)
  taken [] zero = refl
  taken [] (suc place) = refl
  taken (r ∷ rows) zero = refl
  taken (r ∷ rows) (suc place) = ap (λ l. followed_row marks r ∷ l) (taken rows place)

  there : (rows : List (Row Course)) (place : ℕ) (row : Row Course) → slice_get rows place ≡ Some row
      → slice_get (followed_rows marks rows) place ≡ Some (followed_row marks row)
  there [] place row at = absurd (cc at)
  there (r ∷ rows) zero row at = ap (option_map (followed_row marks)) at
  there (r ∷ rows) (suc place) row at = there rows place row at

  -- of one row more
  pub bounds_more : (rows : List (Row Course)) (place : ℕ) (row : Row Course) → slice_get rows place ≡ Some row
      → bounds (take (place + 1) rows) ≡ bounds (take place rows) + look_bound now live (followed_row marks row)
  bounds_more rows place row at =
      ap (look_bounds now live) (taken rows (place + 1))
      ∙ (bounds_add now live (followed_rows marks rows) place (followed_row marks row) (there rows place row at)
      ∙ ap (λ l. look_bounds now live l + look_bound now live (followed_row marks row)) (sym (taken rows place)))

  -- the first rows' are within all
  pub bounds_within : (rows : List (Row Course)) (place : ℕ) → bounds (take place rows) ≤ bounds rows
  bounds_within rows place =
      subst (λ (l : List (Row Followed)). look_bounds now live l ≤ bounds rows) (sym (taken rows place))
      (bounds_are_within now live (followed_rows marks rows) place)
