-- Inner words: cited by private functions alone.
-- What rows come to, one after the other in order of table and key.
use Rattle.std.specs.Prelude.{◌≡◌, ◌⊎◌, ◌<◌, ◌≤◌, ⊤, ℕ, ◌+◌, List, [], ◌∷◌, ◌++◌, length, map, find, Bool, true, false, ◌&&◌, ◌||◌, ◌==◌, not, nat_lt, if◌then◌else◌, Option, None, Some}
use Rattle.std.specs.Prelude.{option_map, Result, Ok, Err}
use Rattle.std.specs.List.{AllByRecursion, filter, filter_map, list_any}
use Rattle.std.specs.Option.{option_and_then, option_map_or}
use Rattle.std.specs.Str.{bytes_eq}
use Rattle.siri_outside.specs.OutsideCalls.{WhereTold}
use Rattle.siri_records.specs.declared.item.Item.{Item}
use Rattle.siri_records.specs.declared.item.Item.TheVariants as item
use Rattle.siri_records.specs.declared.item.Service.TheVariants as service
use Rattle.siri_records.specs.Ends.{is_dead}
use Rattle.siri_records.specs.Keyed.{Items, apply, most_live, with_item}
use Rattle.siri_records.specs.Keys.{key_of}
use Rattle.siri_messages.specs.Blank.{blank_service_delivery}
use Rattle.siri_messages.specs.declared.deliveries.ServiceDelivery.{ServiceDelivery}
use Rattle.siri_messages.specs.declared.message.Message.{Message}
use Rattle.siri_subs.specs.Table.{most_subscriptions}
use Rattle.siri_row_texts.specs.declared.moments.Began.{Began}
use Rattle.siri_row_texts.specs.ItemRows.{functional_of}
use Rattle.siri_row_texts.specs.Reading.{began_of_row, item_of_row, request_of_row}
use Rattle.siri_outside.specs.declared.rows.Row.{Row}
use Rattle.siri_outside.specs.declared.rows.StoredRow.{StoredRow}
use Rattle.siri_outside.specs.Rows.{HasByteTables, InOrder, Rows, is_next, next_row, of_table}
use Rattle.siri_outside.specs.Shelves.{ShelfState}
use Rattle.siri_keeping.specs.Keeping.{is_place, most_rows}
use Rattle.siri_keeping.specs.Opening.{Nothing, are_same, began_in, is_bad, is_live_at, is_told_by, item_in, renewal_in, renewal_of_request, request_in, said, subscription_in}
use Rattle.siri_keep.specs.declared.by_service.ByService.{ByService}
use Rattle.siri_keep.specs.declared.errors.KeepError.{KeepError}
use Rattle.siri_keep.specs.declared.errors.KeepError.TheVariants as errors
use Rattle.siri_keep.specs.declared.opening.KeptRequest.{KeptRequest}
use Rattle.siri_keep.specs.declared.opening.WhatIsRead.{WhatIsRead}
use Rattle.siri_keep.specs.declared.rows_read.RowsRead.{RowsRead}

-- ---- requests that were read

-- the request of the row of a key
abbrev pub request_at : List KeptRequest → List ℕ → Option Message
request_at requests key = option_map (λ r. r.request) (find (λ r. bytes_eq r.place key) requests)

-- what a row of table 3 says, by them
abbrev pub renewal_at : List KeptRequest → (key text : List ℕ) → Option Message
renewal_at requests key text = option_and_then (renewal_of_request text) (request_at requests key)

-- one of them is of the same subscription as another request
abbrev pub asks_again : List KeptRequest → Message → Bool
asks_again requests m =
    option_map_or (λ s. list_any (λ r. are_same (subscription_in r.request) (Some s)) requests) (subscription_in m) false

-- ---- live items, by service

abbrev pub with_one : ByService → Item → ByService
with_one live (item.Visit v) = record live { visits = live.visits ++ item.Visit v ∷ [] }
with_one live (item.Journey j) = record live { journeys = live.journeys ++ item.Journey j ∷ [] }
with_one live (item.Vehicle v) = record live { vehicles = live.vehicles ++ item.Vehicle v ∷ [] }
with_one live (item.Situation s) = record live { situations = live.situations ++ item.Situation s ∷ [] }

abbrev pub live_delivery : ByService → ServiceDelivery
live_delivery live = record blank_service_delivery {
  stop_monitoring_delivery = functional_of live.visits [];
  estimated_timetable_delivery = functional_of live.journeys [];
  vehicle_monitoring_delivery = functional_of live.vehicles [];
  situation_exchange_delivery = functional_of live.situations [];
}

-- ---- one row more

abbrev pub with_live : RowsRead → Item → RowsRead
with_live read i =
    if is_dead i read.began.moment then read else record read { living = read.living + 1; live = with_one read.live i }

abbrev pub with_kept : RowsRead → Item → RowsRead
with_kept read i = record (with_live read i) { count = read.count + 1; all = with_item read.all (key_of i, i) }

abbrev pub has_room : RowsRead → Item → Bool
has_room read i = nat_lt read.count most_rows && (is_dead i read.began.moment || nat_lt read.living most_live)

abbrev pub with_request : RowsRead → List ℕ → Message → RowsRead
with_request read key m = record read { requests = read.requests ++ record { place = key; request = m } ∷ [] }

abbrev pub has_place : RowsRead → List ℕ → Message → Bool
has_place read key m = is_place key && nat_lt (length read.requests) most_subscriptions && not (asks_again read.requests m)

abbrev pub with_renewal : RowsRead → Message → RowsRead
with_renewal read m = record read { renewals = read.renewals ++ m ∷ [] }

abbrev pub if_room : RowsRead → Item → Option RowsRead
if_room read i = if has_room read i then Some (with_kept read i) else None

abbrev pub if_place : RowsRead → List ℕ → Message → Option RowsRead
if_place read key m = if has_place read key m then Some (with_request read key m) else None

-- what the rows come to with one of a table, unless that is bad
abbrev pub taken : ℕ → RowsRead → Row → Option RowsRead
taken table read row =
    if table == 1 then option_and_then (if_room read) (item_of_row row.key row.text)
    else if table == 2 then option_and_then (if_place read row.key) (request_of_row row.text)
    else if table == 3 then option_map (with_renewal read) (renewal_at read.requests row.key row.text)
    else None

-- it is taken, or it is a bad one
abbrev pub TakesRow : {T : Type 0} → ℕ → RowsRead → Row → Result T KeepError → RowsRead → Type 0
TakesRow table old row (Ok done) new = taken table old row ≡ Some new
TakesRow table old row (Err (errors.BadRow t key)) new = (t ≡ table) × (key ≡ row.key) × (taken table old row ≡ None)
TakesRow table old row (Err errors.OutOfMemory) new = ⊤
TakesRow table old row (Err other) new = ⊥

-- ---- what rows up to a place come to

pub record TellsLive (live : ByService) (items : List Item) : Type 0 where
  pub visits : live.visits ≡ filter (is_told_by service.Stop) items
  pub journeys : live.journeys ≡ filter (is_told_by service.Timetable) items
  pub vehicles : live.vehicles ≡ filter (is_told_by service.Vehicle) items
  pub situations : live.situations ≡ filter (is_told_by service.Situation) items

abbrev pub all_of : List Item → Items
all_of items = apply [] (map (λ i. (key_of i, Some i)) items)

abbrev pub not_dead_at : ℕ → Item → Bool
not_dead_at moment i = not (is_dead i moment)

-- the rows of table 1
pub record HasRead (rows : Rows) (read : RowsRead) : Type 0 where
  pub count : read.count ≡ length rows
  pub all : read.all ≡ all_of (filter_map item_in rows)
  pub living_ : read.living ≡ length (filter (is_live_at read.began.moment) rows)
  pub live : TellsLive read.live (filter (not_dead_at read.began.moment) (filter_map item_in rows))

-- a request under its key
abbrev pub under_key : KeptRequest → List ℕ × Option Message
under_key r = (r.place, Some r.request)

abbrev pub request_under_key : StoredRow → List ℕ × Option Message
request_under_key row = (row.key, request_in row)

-- the first of all rows, up to a place, come to this, and none of them is bad
pub record Taken (rows prior : Rows) (read : RowsRead) : Type 0 where
  pub began : began_in rows ≡ Some read.began
  pub good : find (is_bad rows) prior ≡ None
  pub items : HasRead (of_table 1 prior) read
  pub requests : map under_key read.requests ≡ map request_under_key (of_table 2 prior)
  pub renewals : read.renewals ≡ filter_map (renewal_in rows) (of_table 3 prior)

-- a row is before those that are to come of a table, or one of these or of a later table
abbrev pub IsPassed : ℕ → Option (List ℕ) → StoredRow → Type 0
IsPassed table after row = (row.table ≤ table) × (is_next table after row ≡ false)

abbrev pub IsComing : ℕ → Option (List ℕ) → StoredRow → Type 0
IsComing table after row = (is_next table after row ≡ true) ⊎ (table < row.table)

-- all rows up to a key of a table were read, or all before a table
pub record Reached (table : ℕ) (after : Option (List ℕ)) (rows : Rows) (read : RowsRead) : Type 0 where
  pub prior : Rows
  pub rest : Rows
  pub split : rows ≡ prior ++ rest
  pub ordered : InOrder rows
  pub bytes : HasByteTables rows
  pub begun : 0 < length prior
  pub passed : AllByRecursion (IsPassed table after) prior
  pub coming : AllByRecursion (IsComing table after) rest
  pub done : Taken rows prior read

-- ---- what calls answer

-- the shelf stays as it was, and this holds of its rows
abbrev pub Unchanged : Option ShelfState → Option ShelfState → (Rows → Type 0) → Type 0
Unchanged x y Holds = WhereTold x y (λ old new. (new ≡ old) × Holds old.rows)

-- what is given, and which row is bad
abbrev pub Outcome : {T : Type 0} → (T → Type 0) → (ℕ → List ℕ → Type 0) → Result T KeepError → Type 0
Outcome Gives Bad (Ok value) = Gives value
Outcome Gives Bad (Err (errors.BadRow table key)) = Bad table key
Outcome Gives Bad (Err errors.ShelfFault) = ⊤
Outcome Gives Bad (Err errors.OutOfMemory) = ⊤
Outcome Gives Bad (Err other) = ⊥

abbrev pub NeverBad : ℕ → List ℕ → Type 0
NeverBad table key = ⊥

abbrev pub IsFirstBad : Rows → ℕ → List ℕ → Type 0
IsFirstBad rows table key = said rows ≡ Err (table, key)

abbrev pub GivesNext : ℕ → Option (List ℕ) → Rows → Option Row → Type 0
GivesNext table after rows row = InOrder rows × HasByteTables rows × (row ≡ next_row table after rows)

-- there is a row, or none of the tables from 1 to 255 has one
abbrev pub SeesMore : Rows → Bool → Type 0
SeesMore rows true = rows ≡ [] → ⊥
SeesMore rows false = (table : ℕ) → 1 ≤ table → table < 256 → next_row table None rows ≡ None

-- what the first row of table 0 says, where it has the empty key
abbrev pub first_began : Row → Option Began
first_began row = if length row.key == 0 then began_of_row row.text else None

abbrev pub Begins : Rows → Option RowsRead → Type 0
Begins rows None = said rows ≡ Ok Nothing
Begins rows (Some read) = Reached 0 (Some []) rows read

abbrev pub ReachedAfter : ℕ → Rows → RowsRead → Option (List ℕ) → Type 0
ReachedAfter table rows read None = Reached (table + 1) None rows read
ReachedAfter table rows read (Some key) = Reached table (Some key) rows read

abbrev pub whole_of : RowsRead → WhatIsRead
whole_of read = record {
  began = read.began;
  items = record { all = read.all; live = live_delivery read.live };
  requests = read.requests;
  renewals = read.renewals;
}
