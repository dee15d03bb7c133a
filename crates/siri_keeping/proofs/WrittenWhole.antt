-- All subscriptions are written at the places from 1 on, and the moment at its own.
use Rattle.std.proofs.Common.{◌≡◌, ◌≢◌, ◌⊎◌, ◌≤◌, ◌<◌, ℕ, zero, suc, ◌+◌, List, [], ◌∷◌, length, map, true, Option, None, Some, refl, ap, sym, ◌∙◌, subst, inl, inr, arith}
use Rattle.std.specs.Prelude.{IsSome}
use Rattle.std.specs.List.{AllByRecursion as All, Contains, flat_map, range_with_len, zip}
use Rattle.std.proofs.lemmas.List.{length-map}
use Rattle.std.proofs.lemmas.List.FromFn.{length-range_with_len}
use Rattle.std.proofs.lemmas.List.Sums.{fold-append}
use Rattle.siri_model.specs.Held.{Held}
use Rattle.siri_row_texts.specs.ItemRows.{moment_row}
use Rattle.siri_row_texts.specs.SubscriptionRows.{place_text, renewal_text, request_text}
use Rattle.siri_row_texts.proofs.PlaceOrder.{place_digits, places_ascend, twenty}
use Rattle.siri_outside.specs.declared.rows.Put.{Put}
use Rattle.siri_outside.specs.Rows.{RowPlace, Rows, text_at, with_put, with_puts}
use Rattle.siri_keeping.specs.Keeping.{is_place, kept_at, moment_put, places_to, removed_at, subscription_puts}
use Rattle.siri_keeping.specs.Keeps.{HasSubscriptions}
use Rattle.siri_keeping.proofs.Found.{text_elsewhere, text_there}
use Rattle.siri_keeping.proofs.Written.{all_gone, at, only_there, renewals_there, requests_there}
use Rattle.siri_subs.specs.Table.{most_subscriptions}

-- ---- places

place_is : (place : ℕ) → place < 1000 → is_place (place_text place) ≡ true
place_is place small = rw (twenty place (omega arith), place_digits place (omega arith)) refl

places_are : (a count : ℕ) → a + count ≤ 201 → All (λ place. is_place place ≡ true) (map place_text (range_with_len a count))
places_are a zero few = tt
places_are a (suc count) few = (place_is a (omega arith), places_are (a + 1) count (omega arith))

places_long : (count : ℕ) → length (places_to count) ≡ count
places_long count = length-map (range_with_len 1 count) place_text ∙ length-range_with_len 1 count

-- ---- the rows of subscriptions

abbrev request : Held → List ℕ
request s = request_text s.asked s.base

abbrev renewal : Held → Option (List ℕ)
renewal s = renewal_text s.asked.subscription s.number s.base

-- a table has no rows but at these places
abbrev pub HasOnly : Rows → List (List ℕ) → ℕ → Type 0
HasOnly rows places table = (key : List ℕ) → IsSome (text_at rows table key) → Contains places key

module _ (rows : Rows) (places : List (List ℕ)) (helds : List Held) (requests : HasOnly rows places 2) (renewals : HasOnly rows places 3)
    (few : length helds ≤ most_subscriptions) where
  abbrev cleared : Rows
  cleared = with_puts rows (flat_map removed_at places)

  abbrev new_places : List (List ℕ)
  new_places = places_to (length helds)

  abbrev filled : Rows
  filled = with_puts cleared (flat_map kept_at (zip new_places helds))

  abbrev written : Rows
  written = with_puts rows (subscription_puts places helds)

  filled_is : filled ≡ written
  filled_is = sym (fold-append with_put rows (flat_map removed_at places) (flat_map kept_at (zip new_places helds)))

  only_at : (table : ℕ) → (table ≡ 2) ⊎ (table ≡ 3) → HasOnly rows places table
      → (key : List ℕ) → IsSome (text_at filled table key) → Contains new_places key
  only_at table of only key some = elim (only_there request renewal new_places helds cleared table key some) [
    | inl among ↦ among
    | inr there ↦ cc (subst IsSome (all_gone places rows table key of (only key)) there)
  ]

  filled_has : HasSubscriptions filled new_places helds
  filled_has = record {
    ascend = places_ascend (length helds) few;
    digits = places_are 1 (length helds) (omega arith);
    requests = requests_there request renewal new_places helds cleared (places_ascend (length helds) few) (places_long (length helds));
    renewals = renewals_there request renewal new_places helds cleared (places_ascend (length helds) few) (places_long (length helds));
    only_requests = only_at 2 (inl refl) requests;
    only_renewals = only_at 3 (inr refl) renewals;
  }

  -- whatever rows were at the places before
  pub written_over : HasSubscriptions written new_places helds
  written_over = subst (λ r. HasSubscriptions r new_places helds) filled_is filled_has

pub written_has : (rows : Rows) (places : List (List ℕ)) (old helds : List Held) → HasSubscriptions rows places old → length helds ≤ most_subscriptions
    → HasSubscriptions (with_puts rows (subscription_puts places helds)) (places_to (length helds)) helds
written_has rows places old helds has few = written_over rows places helds has.only_requests has.only_renewals few

-- ---- other tables

gone_elsewhere : (places : List (List ℕ)) (table : ℕ) (key : List ℕ) → table ≢ 2 → table ≢ 3 → (rows : Rows)
    → text_at (with_puts rows (flat_map removed_at places)) table key ≡ text_at rows table key
gone_elsewhere [] table key two three rows = refl
gone_elsewhere (place ∷ places) table key two three rows =
    let one : Put = record { table = 2; key = place; text = None } in
    let other : Put = record { table = 3; key = place; text = None } in
    gone_elsewhere places table key two three (with_put (with_put rows one) other)
    ∙ text_elsewhere other (with_put rows one) (at table key) (λ e. three (ap (λ (p : RowPlace). p.0) e))
    ∙ text_elsewhere one rows (at table key) (λ e. two (ap (λ (p : RowPlace). p.0) e))

kept_elsewhere : (entries : List (List ℕ × Held)) (table : ℕ) (key : List ℕ) → table ≢ 2 → table ≢ 3 → (rows : Rows)
    → text_at (with_puts rows (flat_map kept_at entries)) table key ≡ text_at rows table key
kept_elsewhere [] table key two three rows = refl
kept_elsewhere ((place, s) ∷ entries) table key two three rows =
    let one : Put = record { table = 2; key = place; text = Some (request s) } in
    let other : Put = record { table = 3; key = place; text = renewal s } in
    kept_elsewhere entries table key two three (with_put (with_put rows one) other)
    ∙ text_elsewhere other (with_put rows one) (at table key) (λ e. three (ap (λ (p : RowPlace). p.0) e))
    ∙ text_elsewhere one rows (at table key) (λ e. two (ap (λ (p : RowPlace). p.0) e))

pub subscriptions_elsewhere : (rows : Rows) (places : List (List ℕ)) (helds : List Held) (table : ℕ) (key : List ℕ) → table ≢ 2 → table ≢ 3
    → text_at (with_puts rows (subscription_puts places helds)) table key ≡ text_at rows table key
subscriptions_elsewhere rows places helds table key two three =
    let entries = zip (places_to (length helds)) helds in
    ap (λ r. text_at r table key) (fold-append with_put rows (flat_map removed_at places) (flat_map kept_at entries))
    ∙ kept_elsewhere entries table key two three (with_puts rows (flat_map removed_at places))
    ∙ gone_elsewhere places table key two three rows

-- ---- the moment

module _ (rows : Rows) (moment start : ℕ) (name : List ℕ) where
  abbrev put : Put
  put = moment_put moment start name

  pub moment_there : text_at (with_puts rows (put ∷ [])) 0 [] ≡ Some (moment_row moment start name)
  moment_there = text_there put rows

  pub moment_elsewhere : (table : ℕ) (key : List ℕ) → table ≢ 0 → text_at (with_puts rows (put ∷ [])) table key ≡ text_at rows table key
  moment_elsewhere table key apart = text_elsewhere put rows (at table key) (λ e. apart (ap (λ (p : RowPlace). p.0) e))

  only_by : (key : List ℕ) → ((k : List ℕ) → IsSome (text_at rows 0 k) → k ≡ []) → (key ≡ []) ⊎ (key ≢ []) → IsSome (text_at (with_puts rows (put ∷ [])) 0 key) → key ≡ []
  only_by key only (inl none) some = none
  only_by key only (inr apart) some =
      only key (subst IsSome (text_elsewhere put rows (at 0 key) (λ e. apart (ap (λ (p : RowPlace). p.1) e))) some)

  is_empty_or : (key : List ℕ) → (key ≡ []) ⊎ (key ≢ [])
  is_empty_or [] = inl refl
  is_empty_or (byte ∷ key) = inr (λ same. cc same)

  pub moment_alone : ((k : List ℕ) → IsSome (text_at rows 0 k) → k ≡ []) → (key : List ℕ) → IsSome (text_at (with_puts rows (put ∷ [])) 0 key) → key ≡ []
  moment_alone only key some = only_by key only (is_empty_or key) some
