-- What a shelf keeps of a producer's history.
use Rattle.std.specs.Prelude.{◌≡◌, ◌≤◌, ◌<◌, ⊤, ℕ, List, [], length, true, IsSome, None, Some}
use Rattle.std.specs.List.{AllByRecursion, AllZip, Contains}
use Rattle.std.specs.List.Sorted.{IsStrictlySortedBy}
use Rattle.std.specs.Cmp.Lexicographic.{slice_cmp}
use Rattle.std.specs.Ordering.{nat_cmp}
use Rattle.siri_records.specs.Keyed.{InOrder, Items, living}
use Rattle.siri_records.specs.Keys.{key_of}
use Rattle.siri_messages.specs.declared.message.Message.TheVariants as message
use Rattle.siri_items.specs.Proper.{IsProper}
use Rattle.siri_wire.specs.laws.ProperMessages.{IsProper as IsProperMessage}
use Rattle.siri_model.specs.History.{Entry, Observed, Withdrawn, Step, Feed, Take, History, current, now_of, start_of}
use Rattle.siri_model.specs.Held.{Held, helds_of}
use Rattle.siri_model.specs.Lives.{table_of}
use Rattle.siri_row_texts.specs.ItemRows.{item_text, key_text, moment_row}
use Rattle.siri_row_texts.specs.SubscriptionRows.{renewal_of, renewal_text, request_of, request_text}
use Rattle.siri_row_texts.specs.Reading.{began_of_row, item_of_row, renewal_of_row, request_of_row}
use Rattle.siri_outside.specs.Rows.{Rows, text_at}
use Rattle.siri_keeping.specs.Keeping.{Covers, HasItems, IsProperKey, is_place, most_rows}

-- ---- proper steps: each message and each item of them is one that a document can spell

abbrev pub IsProperEntry : Entry → Type 0
IsProperEntry (Observed i) = IsProper i
IsProperEntry (Withdrawn k) = IsProperKey k

abbrev pub IsProperStep : Step → Type 0
IsProperStep (Feed entries) = AllByRecursion IsProperEntry entries
IsProperStep (Take m) = IsProperMessage m
IsProperStep other = ⊤

-- ---- rows

-- tables 2 and 3 have the rows of these subscriptions, in order, and no others
pub record HasSubscriptions (rows : Rows) (places : List (List ℕ)) (helds : List Held) : Type 0 where
  pub ascend : IsStrictlySortedBy (slice_cmp nat_cmp) places
  pub digits : AllByRecursion (λ place. is_place place ≡ true) places
  pub requests : AllZip (λ place s. text_at rows 2 place ≡ Some (request_text s.asked s.base)) places helds
  pub renewals : AllZip (λ place s. text_at rows 3 place ≡ renewal_text s.asked.subscription s.number s.base) places helds
  pub only_requests : (key : List ℕ) → IsSome (text_at rows 2 key) → Contains places key
  pub only_renewals : (key : List ℕ) → IsSome (text_at rows 3 key) → Contains places key

-- each row is read as what it was written of
pub record ReadsBack (name : List ℕ) (moment start : ℕ) (kept : Items) (helds : List Held) : Type 0 where
  pub began : began_of_row (moment_row moment start name) ≡ Some (record { moment = moment; start = start; name = name })
  pub keyed : AllByRecursion (λ e. e.0 ≡ key_of e.1) kept
  pub proper : AllByRecursion (λ e. IsProperKey e.0) kept
  pub items : AllByRecursion (λ e. item_of_row (key_text e.0) (item_text e.1) ≡ Some e.1) kept
  pub based : AllByRecursion (λ s. s.base ≤ s.number) helds
  pub requests : AllByRecursion (λ s. request_of_row (request_text s.asked s.base) ≡ Some (message.SubscriptionRequest (request_of s.asked s.base))) helds
  pub renewals : AllByRecursion (λ s. (text : List ℕ) → renewal_text s.asked.subscription s.number s.base ≡ Some text
      → renewal_of_row s.asked.subscription s.base text ≡ Some (message.DataSupplyRequest (renewal_of s.asked.subscription s.number s.base))) helds

-- A shelf keeps these of a producer of this name: its moment and start; its live items, and besides only dead ones, in all
-- as many as may have rows; its subscriptions.
pub record KeepsThese (name : List ℕ) (moment start : ℕ) (live kept : Items) (places : List (List ℕ)) (helds : List Held) (rows : Rows) : Type 0 where
  pub moment_is : text_at rows 0 [] ≡ Some (moment_row moment start name)
  pub only_moment : (key : List ℕ) → IsSome (text_at rows 0 key) → key ≡ []
  pub ordered : InOrder kept
  pub few : length kept ≤ most_rows
  pub items : HasItems rows kept
  pub covers : Covers moment live kept
  pub subscriptions : HasSubscriptions rows places helds
  pub reads : ReadsBack name moment start kept helds
  pub no_more : (table : ℕ) (key : List ℕ) → 3 < table → text_at rows table key ≡ None

-- a shelf keeps a history of a producer of this name
pub record Keeps (name : List ℕ) (rows : Rows) (h : History) : Type 0 where
  pub kept : Items
  pub places : List (List ℕ)
  pub these : KeepsThese name (now_of h) (start_of h) (living (now_of h) (current h)) kept places (helds_of (table_of h)) rows
  pub proper : AllByRecursion IsProperStep h
