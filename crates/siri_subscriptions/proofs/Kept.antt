-- The rows of a table, with what belongs to their lives.
use Rattle.std.proofs.Common.{◌≡◌, ℕ, suc, zero, List, [], ◌∷◌, Bool, true, false, Option, Some, None, slice_get, option_map, refl, ap, ◌∙◌, sym}
use Rattle.std.specs.Prelude.{find}
use Rattle.std.proofs.lemmas.Bool.{or_parts}
use Rattle.siri_subs.specs.declared.entry.Row.{Row}
use Rattle.siri_subs.specs.Table.{is_of, is_held, number_of, place_of, EachOnce}
use Rattle.siri_subs.specs.Loans.{with_slot}
use Rattle.siri_subs.proofs.Mapped.{number_mapped}
use Rattle.siri_subs.proofs.Placed.{IsFirst, found, find_none, none_found}
use Rattle.siri_subs.proofs.Once.{held_like}
use Rattle.siri_model.specs.Rows.{KeptLife, with_row_of}
use Rattle.siri_subscriptions.specs.declared.course.Course.{Course}
use Rattle.siri_subscriptions.specs.Courses.{kept, kept_row, kept_rows}
use Rattle.siri_subscriptions.specs.Requests.{termination_in}

module _ (s i : List ℕ) where
  found_case : (h : Row Course) (table : List (Row Course)) (b : Bool) → is_of s i h ≡ b
      → find (is_of s i) (kept_rows table) ≡ option_map kept_row (find (is_of s i) table)
      → find (is_of s i) (kept_rows (h ∷ table)) ≡ option_map kept_row (find (is_of s i) (h ∷ table))
  found_case h table true is rest = rw is refl
  found_case h table false is rest = rw is rest

  -- the row of a subscription
  pub found_kept : (table : List (Row Course)) → find (is_of s i) (kept_rows table) ≡ option_map kept_row (find (is_of s i) table)
  found_kept [] = refl
  found_kept (h ∷ table) = found_case h table (is_of s i h) refl (found_kept table)

  -- it stands at the subscription's place
  pub found_at : (table : List (Row Course)) (k : ℕ) → IsFirst (is_of s i) table k → find (is_of s i) table ≡ slice_get table k
  found_at [] k first = absurd first
  found_at (h ∷ table) zero first = rw first refl
  found_at (h ∷ table) (suc k) first = rw (first.0) (found_at table k first.1)

  -- ---- what is held of a subscription, by its place
  pub found_by : (table : List (Row Course)) (k : ℕ) → place_of s i table ≡ Some k → find (is_of s i) table ≡ slice_get table k
  found_by table k is = found_at table k (found (is_of s i) table k is)

  pub not_found : (table : List (Row Course)) → place_of s i table ≡ None → find (is_of s i) table ≡ None
  not_found table is = find_none (is_of s i) table (none_found (is_of s i) table is)

  -- its number, and its termination time
  pub number_held : (table : List (Row Course)) (h : Option (Row Course)) → h ≡ find (is_of s i) table
      → number_of s i (kept_rows table) ≡ option_map (λ (g : Row Course). g.number) h
  number_held table h is = number_mapped kept s i table ∙ ap (option_map (λ (g : Row Course). g.number)) (sym is)

  pub termination_held : (table : List (Row Course)) (h : Option (Row Course)) → h ≡ find (is_of s i) table
      → termination_in s i (kept_rows table) ≡ option_map (λ (g : Row KeptLife). g.wanted.termination)
      (option_map kept_row h)
  termination_held table h is =
      ap (option_map (λ (g : Row KeptLife). g.wanted.termination)) (found_kept table ∙ ap (option_map kept_row) (sym is))

-- a change of the row of a subscription
module _ (s i : List ℕ) (change : Row KeptLife → Row KeptLife) where
  -- there is none
  pub unchanged : (table : List (Row Course)) → is_held s i table ≡ false → with_row_of s i change (kept_rows table) ≡ kept_rows table
  unchanged [] none = refl
  unchanged (h ∷ table) none =
      let parts = or_parts (is_of s i h) (is_held s i table) none in
      rw (parts.0) (ap (λ l. kept_row h ∷ l) (unchanged table parts.1))

  -- it stays the same
  pub same_there : (table : List (Row Course)) (k : ℕ) (h : Row Course) → EachOnce table → IsFirst (is_of s i) table k → slice_get table k ≡ Some h
      → change (kept_row h) ≡ kept_row h → with_row_of s i change (kept_rows table) ≡ kept_rows table
  same_there [] k h once first is same = absurd first
  same_there (g ∷ table) zero h once first is same =
      let here : g ≡ h = cc is in
      let rest = unchanged table (held_like s i g table first ∙ once.0) in
      rw (first, here) (λ j. same j ∷ rest j)
  same_there (g ∷ table) (suc k) h once first is same =
      rw (first.0) (ap (λ l. kept_row g ∷ l) (same_there table k h once.1 first.1 is same))

  -- a write of its slot is the change
  pub changed_there : (slot : Course) (table : List (Row Course)) (k : ℕ) (h : Row Course) → EachOnce table
      → IsFirst (is_of s i) table k → slice_get table k ≡ Some h
      → kept_row (record h { slot = slot }) ≡ change (kept_row h) → kept_rows (with_slot table k slot) ≡ with_row_of s i change (kept_rows table)
  changed_there slot [] k h once first is new = absurd first
  changed_there slot (g ∷ table) zero h once first is new =
      let here : g ≡ h = cc is in
      let rest = sym (unchanged table (held_like s i g table first ∙ once.0)) in
      rw (first, here) (λ j. new j ∷ rest j)
  changed_there slot (g ∷ table) (suc k) h once first is new =
      rw (first.0) (ap (λ l. kept_row g ∷ l) (changed_there slot table k h once.1 first.1 is new))
