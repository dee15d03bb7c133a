-- What rows say of a producer, and the history of one that is opened over them.
use Rattle.std.specs.Prelude.{ℕ, List, [], ◌∷◌, ◌++◌, length, map, find, Bool, true, false, ◌&&◌, ◌||◌, ◌==◌, not, nat_lt, is_none, if◌then◌else◌}
use Rattle.std.specs.Prelude.{Option, None, Some, option_map, Result, Ok, Err, ok_or}
use Rattle.std.specs.List.{filter, filter_map}
use Rattle.std.specs.Cmp.Lexicographic.{slice_cmp}
use Rattle.std.specs.Option.{option_and_then, option_map_or}
use Rattle.std.specs.Ordering.{nat_cmp, is_gt}
use Rattle.siri_records.specs.declared.item.Item.{Item}
use Rattle.siri_records.specs.declared.item.Item.TheVariants as item
use Rattle.siri_records.specs.declared.item.Service.{Service}
use Rattle.siri_records.specs.declared.item.Service.TheVariants as service
use Rattle.siri_records.specs.Ends.{is_dead}
use Rattle.siri_records.specs.Keyed.{most_live}
use Rattle.siri_subs.specs.Table.{most_subscriptions}
use Rattle.siri_topic.specs.Agreement.{same_name}
use Rattle.siri_topic.specs.declared.subscription.Subscription.{Subscription}
use Rattle.siri_messages.specs.declared.message.Message.{Message}
use Rattle.siri_messages.specs.declared.message.Message.TheVariants as message
use Rattle.siri_model.specs.History.{Observed, Start, Clock, Feed, Take, History}
use Rattle.siri_row_texts.specs.declared.moments.Began.{Began}
use Rattle.siri_row_texts.specs.Reading.{began_of_row, first_asked, item_of_row, renewal_of_row, request_of_row}
use Rattle.siri_outside.specs.declared.rows.StoredRow.{StoredRow}
use Rattle.siri_outside.specs.Rows.{RowPlace, Rows, of_table, place_of, text_at}
use Rattle.siri_keeping.specs.Keeping.{is_place, most_rows}

-- ---- what a row says

-- what the row of table 0 says that has the empty key
abbrev pub began_in : Rows → Option Began
began_in rows = option_and_then began_of_row (text_at rows 0 [])

abbrev pub item_in : StoredRow → Option Item
item_in row = item_of_row row.key row.text

abbrev pub request_in : StoredRow → Option Message
request_in row = request_of_row row.text

-- the DataSupplyRequest that a text says, for the subscription of a request and its number
abbrev pub renewal_of_request : List ℕ → Message → Option Message
renewal_of_request text (message.SubscriptionRequest r) = option_and_then (λ s. renewal_of_row s r.message_identifier text) (first_asked r)
renewal_of_request text other = None

-- the one that a row says, for the request under the same key of table 2
abbrev pub renewal_in : Rows → StoredRow → Option Message
renewal_in rows row = option_and_then (renewal_of_request row.text) (option_and_then request_of_row (text_at rows 2 row.key))

-- the subscription that a message begins with
abbrev pub subscription_in : Message → Option Subscription
subscription_in (message.SubscriptionRequest r) = first_asked r
subscription_in other = None

-- ---- bad rows

-- the rows of a row's table up to it
abbrev pub up_to : StoredRow → Rows → Rows
up_to row rows = filter (λ other. not (is_gt (slice_cmp nat_cmp other.key row.key))) (of_table row.table rows)

-- more than so many of them are of a kind
abbrev pub exceeds : ℕ → (StoredRow → Bool) → StoredRow → Rows → Bool
exceeds most is row rows = nat_lt most (length (filter is (up_to row rows)))

abbrev pub is_any : StoredRow → Bool
is_any row = true

-- a row's item isn't dead at a moment
abbrev pub is_live_at : ℕ → StoredRow → Bool
is_live_at moment row = option_map_or (λ i. not (is_dead i moment)) (item_in row) false

-- it isn't dead at the moment that is kept
abbrev pub is_live_in : Rows → StoredRow → Bool
is_live_in rows row = option_map_or (λ began. is_live_at began.moment row) (began_in rows) false

abbrev pub are_same : Option Subscription → Option Subscription → Bool
are_same (Some a) (Some b) = same_name a.subscriber b.subscriber && same_name a.identifier b.identifier
are_same a b = false

-- a row's request is of the same subscription as another's
abbrev pub is_of_same : StoredRow → StoredRow → Bool
is_of_same row other =
    are_same (option_and_then subscription_in (request_in other)) (option_and_then subscription_in (request_in row))

-- The row of the moment has the empty key.
abbrev pub is_bad_beginning : StoredRow → Bool
is_bad_beginning row = not (length row.key == 0) || is_none (began_of_row row.text)

-- So many items are kept at most, and of those that aren't dead as many as may be live.
abbrev pub is_bad_item : Rows → StoredRow → Bool
is_bad_item rows row =
    is_none (item_in row) || (is_live_in rows row && exceeds most_live (is_live_in rows) row rows) || exceeds most_rows is_any row rows

-- As many subscriptions are kept as a table may have, each once.
abbrev pub is_bad_request : Rows → StoredRow → Bool
is_bad_request rows row =
    not (is_place row.key) || is_none (request_in row) || exceeds 1 (is_of_same row) row rows || exceeds most_subscriptions is_any row rows

-- a row that isn't of its table's form, or is one too many
abbrev pub is_bad : Rows → StoredRow → Bool
is_bad rows row =
    if row.table == 0 then is_bad_beginning row
    else if row.table == 1 then is_bad_item rows row
    else if row.table == 2 then is_bad_request rows row
    else if row.table == 3 then is_none (renewal_in rows row)
    else true

-- ---- what all rows say

-- the items, and the requests of subscriptions and of their numbers, each in order of row
pub record WhatIsKept : Type 0 where
  pub began : Began
  pub items : List Item
  pub requests : List Message
  pub renewals : List Message

-- no rows say nothing
pub data Said : Type 0 where
  Nothing : Said
  SaysKept : WhatIsKept → Said

abbrev pub kept_in : Rows → Began → WhatIsKept
kept_in rows began = record {
  began = began;
  items = filter_map item_in (of_table 1 rows);
  requests = filter_map request_in (of_table 2 rows);
  renewals = filter_map (renewal_in rows) (of_table 3 rows);
}

-- unless a row is bad
abbrev pub said_unless : Option StoredRow → Rows → Result Said RowPlace
said_unless (Some bad) rows = Err (place_of bad)
said_unless None rows = ok_or (option_map (λ began. SaysKept (kept_in rows began)) (began_in rows)) (0, [])

-- what rows say, or else the place of the first bad one; where the row of the moment is missing that is its place
unfoldable pub said : Rows → Result Said RowPlace
said [] = Ok Nothing
said (row ∷ rest) =
    let rows : Rows = row ∷ rest in
    if is_none (text_at rows 0 []) then Err (0, []) else said_unless (find (is_bad rows) rows) rows

-- ---- the history of a producer that is opened over them

-- whether a service tells of an item
abbrev pub is_told_by : Service → Item → Bool
is_told_by service.Stop (item.Visit v) = true
is_told_by service.Timetable (item.Journey j) = true
is_told_by service.Vehicle (item.Vehicle v) = true
is_told_by service.Situation (item.Situation s) = true
is_told_by s i = false

-- in the order of one delivery
abbrev pub by_service : List Item → List Item
by_service items =
    filter (is_told_by service.Stop) items ++ filter (is_told_by service.Timetable) items
    ++ filter (is_told_by service.Vehicle) items ++ filter (is_told_by service.Situation) items

-- the kept items that aren't dead at the kept moment
abbrev pub live_items : WhatIsKept → List Item
live_items k = filter (λ i. not (is_dead i k.began.moment)) k.items

-- The kept moment; a feed of the items that aren't dead then, in the order of one delivery; the requests that began the
-- subscriptions, and those that gave some of them their numbers.
unfoldable pub reopened : (start now : ℕ) → Said → History
reopened start now Nothing = Start start now ∷ []
reopened start now (SaysKept k) =
    Start start now ∷ Clock k.began.moment ∷ Feed (map Observed (by_service (live_items k))) ∷ map Take (k.requests ++ k.renewals)
