-- The rows of two tables that are written whole: what was there goes, and each of some places gets its two rows.
use Rattle.std.proofs.Common.{◌≡◌, ◌≢◌, ◌⊎◌, ℕ, zero, suc, List, [], ◌∷◌, length, Bool, true, false, Option, None, Some, refl, ap, sym, ◌∙◌, subst, inl, inr, arith}
use Rattle.std.specs.Prelude.{IsSome}
use Rattle.std.specs.Cmp.{tied_itself}
use Rattle.std.specs.Cmp.Lexicographic.{slice_cmp}
use Rattle.std.specs.List.{AllByRecursion as All, AllZip, Contains, flat_map, zip}
use Rattle.std.specs.List.Sorted.{IsStrictlySortedBy}
use Rattle.std.specs.Ordering.{is_eq, nat_cmp}
use Rattle.std.specs.declared.cmp.Ordering.TheVariants.{Less}
use Rattle.std.proofs.lemmas.Cmp.{nat_list_cmp_total}
use Rattle.siri_outside.specs.declared.rows.Put.{Put}
use Rattle.siri_outside.specs.Rows.{RowPlace, Rows, place_cmp, text_at, with_put, with_puts}
use Rattle.siri_outside.proofs.Order.{place_total}
use Rattle.siri_keeping.proofs.Found.{place_exact, text_elsewhere, text_there, tied_is}

-- ---- places

abbrev pub at : ℕ → List ℕ → RowPlace
at table key = (table, key)

-- two places are one, or they are apart
decided_by : (p q : RowPlace) (b : Bool) → is_eq (place_cmp p q) ≡ b → (p ≡ q) ⊎ (p ≢ q)
decided_by p q true e = inl (place_exact p q (tied_is (place_cmp p q) e))
decided_by p q false e = inr (λ same. cc (ap (λ (x : RowPlace). is_eq (place_cmp x q)) same ∙ ap is_eq (tied_itself place_total q), e))

pub decided : (p q : RowPlace) → (p ≡ q) ⊎ (p ≢ q)
decided p q = decided_by p q (is_eq (place_cmp p q)) refl

-- what is at a place after a put there, or elsewhere
pub put_is : (rows : Rows) (put : Put) (table : ℕ) (key : List ℕ) → at table key ≡ at put.table put.key → text_at (with_put rows put) table key ≡ put.text
put_is rows put table key same = ap (λ (p : RowPlace). text_at (with_put rows put) p.0 p.1) same ∙ text_there put rows

-- ---- elements

pub here : {X : Type 0} (x : X) (xs : List X) → Contains (x ∷ xs) x
here x xs = (0, omega arith, refl)

pub later : {X : Type 0} (x y : X) (xs : List X) → Contains xs y → Contains (x ∷ xs) y
later x y xs (k, below, is) = (suc k, omega arith, is)

pub none_in : {X : Type 0} (y : X) → Contains [] y → ⊥
none_in y (k, below, is) = omega arith

pub first_or : {X : Type 0} (x y : X) (xs : List X) → Contains (x ∷ xs) y → (x ≡ y) ⊎ Contains xs y
first_or x y xs (zero, below, is) = inl is
first_or x y xs (suc k, below, is) = inr (k, omega arith, is)

-- ---- rows that go

abbrev IsTwoOrThree : ℕ → Type 0
IsTwoOrThree table = (table ≡ 2) ⊎ (table ≡ 3)

abbrev removed_at : List ℕ → List Put
removed_at place = record { table = 2; key = place; text = None } ∷ record { table = 3; key = place; text = None } ∷ []

pub nothing_there : (o : Option (List ℕ)) → (IsSome o → ⊥) → o ≡ None
nothing_there None never = refl
nothing_there (Some x) never = absurd (never refl)

module _ (place key : List ℕ) (rows : Rows) where
  abbrev two : Put
  two = record { table = 2; key = place; text = None }

  abbrev three : Put
  three = record { table = 3; key = place; text = None }

  abbrev without : Rows
  without = with_put (with_put rows two) three

  removed_there : (table : ℕ) → IsTwoOrThree table → key ≡ place → text_at without table key ≡ None
  removed_there table (inl is) same =
      text_elsewhere three (with_put rows two) (table, key) (λ e. cc (ap (λ (p : RowPlace). p.0) e, is))
      ∙ put_is rows two table key (λ i. (is i, same i))
  removed_there table (inr is) same = put_is (with_put rows two) three table key (λ i. (is i, same i))

  removed_elsewhere : (table : ℕ) → key ≢ place → text_at without table key ≡ text_at rows table key
  removed_elsewhere table apart =
      text_elsewhere three (with_put rows two) (table, key) (λ e. apart (ap (λ (p : RowPlace). p.1) e))
      ∙ text_elsewhere two rows (table, key) (λ e. apart (ap (λ (p : RowPlace). p.1) e))

pub all_gone : (places : List (List ℕ)) (rows : Rows) (table : ℕ) (key : List ℕ) → IsTwoOrThree table
    → (IsSome (text_at rows table key) → Contains places key) → text_at (with_puts rows (flat_map removed_at places)) table key ≡ None
all_gone [] rows table key of only = nothing_there (text_at rows table key) (λ some. none_in key (only some))
all_gone (place ∷ places) rows table key of only =
    all_gone places (without place key rows) table key of (λ some. still_only (decided (at 0 key) (at 0 place)) some)
  where
    still_only : (at 0 key ≡ at 0 place) ⊎ (at 0 key ≢ at 0 place) → IsSome (text_at (without place key rows) table key) → Contains places key
    still_only (inl same) some = cc (subst IsSome (removed_there place key rows table of (ap (λ (p : RowPlace). p.1) same)) some)
    still_only (inr apart) some = elim (first_or place key places (only (subst IsSome (removed_elsewhere place key rows table (λ e. apart (λ i. at 0 (e i)))) some))) [
      | inl same ↦ absurd (apart (λ i. at 0 (sym same i)))
      | inr among ↦ among
    ]

-- ---- rows that come

module _ {S : Type 0} (request : S → List ℕ) (renewal : S → Option (List ℕ)) where
  abbrev request_put : List ℕ → S → Put
  request_put place s = record { table = 2; key = place; text = Some (request s) }

  abbrev renewal_put : List ℕ → S → Put
  renewal_put place s = record { table = 3; key = place; text = renewal s }

  abbrev kept_at : List ℕ × S → List Put
  kept_at entry = request_put entry.0 entry.1 ∷ renewal_put entry.0 entry.1 ∷ []

  abbrev with_one : List ℕ → S → Rows → Rows
  with_one place s rows = with_put (with_put rows (request_put place s)) (renewal_put place s)

  request_there : (place : List ℕ) (s : S) (rows : Rows) → text_at (with_one place s rows) 2 place ≡ Some (request s)
  request_there place s rows =
      text_elsewhere (renewal_put place s) (with_put rows (request_put place s)) (at 2 place) (λ e. cc (ap (λ (p : RowPlace). p.0) e))
      ∙ text_there (request_put place s) rows

  renewal_there : (place : List ℕ) (s : S) (rows : Rows) → text_at (with_one place s rows) 3 place ≡ renewal s
  renewal_there place s rows = text_there (renewal_put place s) (with_put rows (request_put place s))

  one_elsewhere : (place key : List ℕ) (s : S) (rows : Rows) (table : ℕ) → key ≢ place → text_at (with_one place s rows) table key ≡ text_at rows table key
  one_elsewhere place key s rows table apart =
      text_elsewhere (renewal_put place s) (with_put rows (request_put place s)) (at table key) (λ e. apart (ap (λ (p : RowPlace). p.1) e))
      ∙ text_elsewhere (request_put place s) rows (at table key) (λ e. apart (ap (λ (p : RowPlace). p.1) e))

  abbrev with_all : List (List ℕ) → List S → Rows → Rows
  with_all places list rows = with_puts rows (flat_map kept_at (zip places list))

  -- a place that isn't among them
  apart_stays : (key : List ℕ) (places : List (List ℕ)) (list : List S) (rows : Rows) (table : ℕ) → All (λ place. key ≢ place) places
      → text_at (with_all places list rows) table key ≡ text_at rows table key
  apart_stays key [] list rows table apart = refl
  apart_stays key (place ∷ places) [] rows table apart = refl
  apart_stays key (place ∷ places) (s ∷ list) rows table apart =
      apart_stays key places list (with_one place s rows) table apart.1 ∙ one_elsewhere place key s rows table apart.0

  below_apart : (key : List ℕ) (places : List (List ℕ)) → All (λ place. slice_cmp nat_cmp key place ≡ Less) places → All (λ place. key ≢ place) places
  below_apart key [] below = tt
  below_apart key (place ∷ places) below =
      ((λ same. cc (ap (slice_cmp nat_cmp key) same ∙ below.0, tied_itself nat_list_cmp_total key)), below_apart key places below.1)

  pub requests_there : (places : List (List ℕ)) (list : List S) (rows : Rows) → IsStrictlySortedBy (slice_cmp nat_cmp) places → length places ≡ length list
      → AllZip (λ place s. text_at (with_all places list rows) 2 place ≡ Some (request s)) places list
  unfolding IsStrictlySortedBy
  requests_there [] [] rows ascend long = tt
  requests_there [] (s ∷ list) rows ascend long = absurd (omega arith)
  requests_there (place ∷ places) [] rows ascend long = absurd (omega arith)
  requests_there (place ∷ places) (s ∷ list) rows ascend long = (
    apart_stays place places list (with_one place s rows) 2 (below_apart place places ascend.0) ∙ request_there place s rows,
    requests_there places list (with_one place s rows) ascend.1 (omega arith),
  )

  pub renewals_there : (places : List (List ℕ)) (list : List S) (rows : Rows) → IsStrictlySortedBy (slice_cmp nat_cmp) places → length places ≡ length list
      → AllZip (λ place s. text_at (with_all places list rows) 3 place ≡ renewal s) places list
  unfolding IsStrictlySortedBy
  renewals_there [] [] rows ascend long = tt
  renewals_there [] (s ∷ list) rows ascend long = absurd (omega arith)
  renewals_there (place ∷ places) [] rows ascend long = absurd (omega arith)
  renewals_there (place ∷ places) (s ∷ list) rows ascend long = (
    apart_stays place places list (with_one place s rows) 3 (below_apart place places ascend.0) ∙ renewal_there place s rows,
    renewals_there places list (with_one place s rows) ascend.1 (omega arith),
  )

  -- a row that is there then is at one of the places, or was there
  pub only_there : (places : List (List ℕ)) (list : List S) (rows : Rows) (table : ℕ) (key : List ℕ)
      → IsSome (text_at (with_all places list rows) table key) → Contains places key ⊎ IsSome (text_at rows table key)
  only_there [] list rows table key some = inr some
  only_there (place ∷ places) [] rows table key some = inr some
  only_there (place ∷ places) (s ∷ list) rows table key some = elim (only_there places list (with_one place s rows) table key some) [
    | inl among ↦ inl (later place key places among)
    | inr there ↦ elim (decided (at 0 key) (at 0 place)) [
      | inl same ↦ inl (subst (Contains (place ∷ places)) (sym (ap (λ (p : RowPlace). p.1) same)) (here place places))
      | inr apart ↦ inr (subst IsSome (one_elsewhere place key s rows table (λ e. apart (λ i. at 0 (e i)))) there)
    ]
  ]
