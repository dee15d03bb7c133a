-- A producer that is opened over rows, or over none, stands for the history that they make, and what is written of it keeps it.
use Rattle.std.proofs.Common.{◌≡◌, ◌≤◌, ◌<◌, ℕ, max, List, [], ◌∷◌, ◌++◌, length, map, fold, Some, Ok, refl, sym, ap, ◌∙◌, subst, arith}
use Rattle.std.specs.Prelude.{IsSome, is_none, ◌==◌}
use Rattle.std.specs.List.{AllByRecursion as All, Contains, filter, filter_map}
use Rattle.std.proofs.lemmas.Bool.{or_parts}
use Rattle.std.proofs.lemmas.List.{length-map, map-append}
use Rattle.siri_model.proofs.Entries.{sorted_passing}
use Rattle.siri_model.proofs.Histories.{rows_go_on}
use Rattle.siri_model.proofs.InOrder.{none_in_order}
use Rattle.siri_records.specs.declared.item.Item.{Item}
use Rattle.siri_records.specs.declared.key.Key.{Key}
use Rattle.siri_records.specs.Keyed.{Items, living, most_live}
use Rattle.siri_records.specs.Order.{key_cmp}
use Rattle.siri_base.specs.Numbers.{greatest_number}
use Rattle.siri_tables.specs.Proper.{IsNumber}
use Rattle.siri_items.specs.Proper.{IsProper}
use Rattle.siri_subs.specs.declared.entry.Row.{Row}
use Rattle.siri_model.specs.Held.{held_of}
use Rattle.siri_model.specs.History.{Clock, Feed, History, Observed, Start, State, Take, after_entry, after_step, entries_of, state_of}
use Rattle.siri_model.specs.Lives.{table_of}
use Rattle.siri_model.specs.Rows.{KeptLife, rows_after, rows_of}
use Rattle.siri_producer.specs.Known.{GoesOn, Known, StandsFor}
use Rattle.siri_outside.specs.declared.rows.StoredRow.{StoredRow}
use Rattle.siri_outside.specs.Rows.{InOrder as RowsInOrder, Rows, of_table, text_at}
use Rattle.siri_outside.proofs.Order.{order_kept}
use Rattle.siri_row_texts.specs.ItemRows.{key_text}
use Rattle.siri_row_texts.specs.Reading.{item_of_row}
use Rattle.siri_keeping.specs.Keeping.{Covers, IsProperKey, most_rows}
use Rattle.siri_keeping.specs.Keeps.{IsProperEntry, IsProperStep}
use Rattle.siri_keeping.specs.Opening.{SaysKept, Nothing, WhatIsKept, by_service, item_in, live_items, reopened, said}
use Rattle.siri_keeping.proofs.LiveItems.{alive}
use Rattle.siri_keep.specs.declared.opening.KeptRequest.{KeptRequest}
use Rattle.siri_keep.specs.declared.opening.WhatIsRead.{WhatIsRead}
use Rattle.siri_keep.specs.declared.reopening.ReopenedProducer.{ReopenedProducer}
use Rattle.siri_keep.specs.Planning.{Begins, GoesOnBy, Opens, OpensRead, PlansOpening}
use Rattle.siri_keep.specs.Walking.{SaysAll}
use Rattle.siri_keep.proofs.Alls.{all_filtered, all_mapped, all_weaker}
use Rattle.siri_keep.proofs.Counted.{are_items, few_live_items, few_rows}
use Rattle.siri_keep.proofs.Fed.{all_appended}
use Rattle.siri_keep.proofs.Messages.{Reads, ReadsRow}
use Rattle.siri_keep.proofs.Opened.{Fits, opens_over}
use Rattle.siri_keep.proofs.SaidItems.{AreApart, ReadItem, all_read, all_served, apart_in_order, covers_own, each_text, fed_again, few_kept, item_row, kept_in_order, kept_of, kept_reads}
use Rattle.siri_keep.proofs.SaidItems.{key_of_text, rows_of_items}
use Rattle.siri_keep.proofs.SaidRequests.{CanBeTaken, opened_reads, opened_state, renewals_ask, requests_ask, stands_again}
use Rattle.siri_keep.proofs.SaidRows.{Says, good_at, listed_renewals, listed_requests, no_more_tables, none_say, one_moment, says, some_text}
use Rattle.siri_keep.proofs.Written.{covers_clocked, dead_stays}

is_number : (start : ℕ) → start ≤ greatest_number → IsNumber start
is_number start le = omega (arith, le)

-- ---- no rows

fits_none : Fits [] [] []
fits_none = record {
  one_moment = λ key some. absurd (cc some);
  ordered = none_in_order;
  few = omega arith;
  items = record { each = λ k proper. refl; only = λ key some. absurd (cc some) };
  read = tt;
  requests = λ key some. absurd (cc some);
  renewals = λ key some. absurd (cc some);
  no_more = λ table key more. refl;
}

covers_none : (now : ℕ) → Covers now [] []
covers_none now = record { has_live = λ k i at. absurd (cc at); rest_dead = λ k i at. absurd (cc at) }

started_state : (start now : ℕ) → state_of (Start start now ∷ []) ≡ record { start = start; started = now; now = now; current = [] }
unfolding after_step
started_state start now = refl

started_rows : (start now : ℕ) → rows_of (table_of (Start start now ∷ [])) ≡ []
unfolding rows_after
started_rows start now = rows_go_on [] (Start start now)

pub opens_new : (p : Known) (opened : ReopenedProducer) (name : List ℕ) (start now : ℕ) → Begins p [] [] opened
    → StandsFor p (Start start now ∷ []) → p.responder.name ≡ name → 1 ≤ start → start ≤ greatest_number
    → Opens name (Start start now ∷ []) [] opened
opens_new p opened name start now begins stands named from_one most =
    let state = started_state start now in
    let start_is : p.responder.start ≡ start = stands.responder.start ∙ ap (λ (x : State). x.start) state in
    let held_is : p.responder.held ≡ [] = stands.responder.held ∙ ap (λ (x : State). living x.now x.current) state in
    let table_is : p.table ≡ [] = stands.table ∙ started_rows start now in
    opens_over p [] [] opened name (Start start now ∷ []) [] begins stands named (tt, tt) fits_none
    (subst (λ items. Covers p.responder.moment items []) (sym held_is) (covers_none p.responder.moment))
    (subst (λ n. 1 ≤ n) (sym start_is) from_one) (subst IsNumber (sym start_is) (is_number start most))
    (subst (λ (rows : List (Row KeptLife)). All Reads (map held_of rows)) (sym table_is) tt)

-- ---- rows that say something

module _ (rows : Rows) (what : WhatIsKept) (s : Says rows what) (order : RowsInOrder rows) where
  abbrev table : Rows
  table = of_table 1 rows

  abbrev moment : ℕ
  moment = what.began.moment

  table_in_order : RowsInOrder table
  table_in_order = order_kept (λ row. row.table == 1) rows order

  items_are : filter_map item_in table ≡ what.items
  items_are = ap (λ (k : WhatIsKept). k.items) s.is

  table_is : table ≡ map item_row what.items
  table_is = subst (λ (items : List Item). table ≡ map item_row items) items_are (rows_of_items table (are_items rows what s))

  read : All ReadItem what.items
  read = subst (All ReadItem) items_are (all_read table)

  apart : AreApart what.items
  apart = apart_in_order what.items (subst RowsInOrder table_is table_in_order)

  few_items : length what.items ≤ most_rows
  few_items =
      let count : length table ≡ length what.items = ap (λ (r : Rows). length r) table_is ∙ length-map what.items item_row in
      let few = few_rows rows what s table_in_order in
      omega (arith, count, few)

  few_live : length (filter (alive moment) what.items) ≤ most_live
  few_live = subst (λ (items : List Item). length (filter (alive moment) items) ≤ most_live) items_are (few_live_items rows what s table_in_order)

  key_known : (key : List ℕ) → IsSome (text_at rows 1 key) → (k : Key) × IsProperKey k × (key ≡ key_text k)
  key_known key some =
      let there = some_text (text_at rows 1 key) some in
      let good = good_at rows what s 1 key there.0 there.1 in
      key_of_text key there.0 (item_of_row key there.0) refl
      (or_parts (is_none (item_of_row key there.0)) _ (or_parts _ _ good).0).0

  pub fits_said : (places : List (List ℕ)) → places ≡ map (λ (row : StoredRow). row.key) (of_table 2 rows)
      → Fits rows (kept_of what.items) places
  fits_said places are =
      let less = few_kept what.items in
      let few = few_items in
      record {
        one_moment = one_moment rows what s;
        ordered = kept_in_order what.items;
        few = omega (arith, less, few);
        items = record { each = each_text rows what.items table_is read apart; only = key_known };
        read = kept_reads what.items read;
        requests = λ key some. subst (λ (all : List (List ℕ)). Contains all key) (sym are) (listed_requests rows what s key some);
        renewals = λ key some. subst (λ (all : List (List ℕ)). Contains all key) (sym are) (listed_renewals rows what s key some);
        no_more = no_more_tables rows what s;
      }

  -- what is live at a later moment covers what is kept
  pub covers_said : (now : ℕ) → Covers (max now moment)
      (living (max now moment) (fold (after_entry (max now moment)) [] (map Observed (by_service (live_items what))))) (kept_of what.items)
  covers_said now =
      let later = max now moment in
      let kept = kept_of what.items in
      let sorted = kept_in_order what.items in
      let after : moment ≤ later = omega arith in
      subst (λ (items : Items). Covers later (living later items) kept) (sym (fed_again later moment what.items apart few_live))
      (covers_clocked moment later (living moment kept) kept (sorted_passing key_cmp (alive moment) kept sorted)
      (dead_stays moment later after) (covers_own moment kept sorted))

  -- all its messages can be taken
  pub messages_ask : All CanBeTaken (what.requests ++ what.renewals)
  messages_ask = all_appended CanBeTaken what.requests what.renewals
      (subst (All CanBeTaken) (ap (λ (k : WhatIsKept). k.requests) s.is) (requests_ask rows))
      (subst (All CanBeTaken) (ap (λ (k : WhatIsKept). k.renewals) s.is) (renewals_ask rows))

  -- and all its steps are proper
  pub steps_proper : (start now : ℕ)
      → All IsProperStep (Start start now ∷ Clock moment ∷ Feed (map Observed (by_service (live_items what)))
      ∷ map Take (what.requests ++ what.renewals))
  steps_proper start now =
      let proper : All IsProper what.items = all_weaker ReadItem IsProper (λ i is. is.proper) what.items read in
      let live : All IsProper (by_service (live_items what)) = all_served IsProper (live_items what)
      (all_filtered IsProper (alive moment) what.items proper) in (
        tt,
        (
          tt,
          (
            all_mapped IsProperEntry Observed (by_service (live_items what)) live,
            all_mapped IsProperStep Take (what.requests ++ what.renewals)
                (all_weaker CanBeTaken (λ m. IsProperStep (Take m)) (λ m asks. asks.proper) (what.requests ++ what.renewals) messages_ask),
          ),
        ),
      )

reopened_is : (start now : ℕ) (what : WhatIsKept) → reopened start now (SaysKept what)
    ≡ Start start now ∷ Clock what.began.moment ∷ Feed (map Observed (by_service (live_items what)))
    ∷ map Take (what.requests ++ what.renewals)
unfolding reopened
reopened_is start now what = refl

-- a producer that stands for the history which rows make
opens_said : (p : Known) (opened : ReopenedProducer) (name : List ℕ) (start now : ℕ) (rows : Rows) (what : WhatIsKept) (places : List (List ℕ))
    → Says rows what → RowsInOrder rows → places ≡ map (λ (row : StoredRow). row.key) (of_table 2 rows)
    → Begins p (kept_of what.items) places opened
    → StandsFor p (Start start now ∷ Clock what.began.moment ∷ Feed (map Observed (by_service (live_items what)))
    ∷ map Take (what.requests ++ what.renewals))
    → p.responder.name ≡ name → 1 ≤ start → start ≤ greatest_number → Opens name (reopened start now (SaysKept what)) rows opened
opens_said p opened name start now rows what places s order are begins stands named from_one most =
    let entries = map Observed (by_service (live_items what)) in
    let messages = what.requests ++ what.renewals in
    let asks = messages_ask rows what s order in
    let state = opened_state start now what.began.moment entries messages asks in
    let start_is : p.responder.start ≡ start = stands.responder.start ∙ ap (λ (x : State). x.start) state in
    let moment_is : p.responder.moment ≡ max now what.began.moment = stands.responder.moment ∙ ap (λ (x : State). x.now) state in
    let held_is = stands.responder.held ∙ ap (λ (x : State). living x.now x.current) state in
    let read : All Reads (map held_of p.table) = all_mapped Reads held_of p.table
    (subst (All ReadsRow) (sym stands.table) (opened_reads start now what.began.moment entries messages asks)) in
    subst (λ (h : History). Opens name h rows opened) (sym (reopened_is start now what))
    (opens_over p (kept_of what.items) places opened name (Start start now ∷ Clock what.began.moment ∷ Feed entries ∷ map Take messages) rows
    begins stands named (steps_proper rows what s order start now) (fits_said rows what s order places are)
    (rw (moment_is, held_is) (covers_said rows what s order now)) (subst (λ n. 1 ≤ n) (sym start_is) from_one)
    (subst IsNumber (sym start_is) (is_number start most)) read)

-- ---- as it was read

taken_requests : (requests : List KeptRequest) → map (λ (r : KeptRequest). Take r.request) requests ≡ map Take (map (λ (r : KeptRequest). r.request) requests)
taken_requests [] = refl
taken_requests (r ∷ requests) = ap (λ steps. Take r.request ∷ steps) (taken_requests requests)

module _ (a b c d e : Known) (opened : ReopenedProducer) (name : List ℕ) (start now : ℕ) (read : WhatIsRead)
    (first : StandsFor a (Start start now ∷ [])) (clocked : GoesOn a b (Clock read.began.moment))
    (fed : GoesOn b c (Feed (entries_of read.items.live)))
    (asked : GoesOnBy c d (map (λ (r : KeptRequest). Take r.request) read.requests)) (renewed : GoesOnBy d e (map Take read.renewals)) where
  stands_now : StandsFor e (Start start now ∷ Clock read.began.moment ∷ Feed (entries_of read.items.live)
      ∷ (map (λ (r : KeptRequest). Take r.request) read.requests ++ map Take read.renewals))
  stands_now = stands_again a b c d e start now read.began.moment (entries_of read.items.live)
      (map (λ (r : KeptRequest). Take r.request) read.requests) (map Take read.renewals) first clocked fed asked renewed

  -- whatever was read, it stands for some history
  pub stands_some : (h : History) × StandsFor e h
  stands_some = (_, stands_now)

  pub opens_read : Begins e read.items.all (map (λ (r : KeptRequest). r.place) read.requests) opened → e.responder.name ≡ name → 1 ≤ start
      → start ≤ greatest_number → OpensRead name start now read opened
  opens_read begins named from_one most rows what says_ is =
      let messages : map (λ (r : KeptRequest). Take r.request) read.requests ++ map Take read.renewals ≡ map Take (what.requests ++ what.renewals) =
      (λ i. (taken_requests read.requests ∙ ap (map Take) is.requests) i ++ map Take (is.renewals i))
      ∙ sym (map-append Take what.requests what.renewals) in
      let stands = rw (is.began, is.live, messages) at stands_now in
      opens_said e opened name start now rows what (map (λ (r : KeptRequest). r.place) read.requests) (says rows what says_) is.ordered
      is.places (subst (λ (items : Items). Begins e items (map (λ (r : KeptRequest). r.place) read.requests) opened) is.all begins)
      stands named from_one most

-- ---- what is planned of what was read

pub plans_none : (name : List ℕ) (start now : ℕ) (rows : Rows) (opened : ReopenedProducer) → said rows ≡ Ok Nothing
    → Opens name (Start start now ∷ []) [] opened → PlansOpening name start now rows opened
unfolding reopened
plans_none name start now rows opened says_ opens = record {
  what = Nothing;
  says = says_;
  earlier = tt;
  opens = subst (λ (r : Rows). Opens name (Start start now ∷ []) r opened) (sym (none_say rows says_)) opens;
}

pub plans_read : (name : List ℕ) (start now : ℕ) (read : WhatIsRead) (rows : Rows) (opened : ReopenedProducer) → read.began.name ≡ name
    → read.began.start < start
    → OpensRead name start now read opened → SaysAll rows (Ok (Some read)) → PlansOpening name start now rows opened
plans_read name start now read rows opened named earlier opens (what, says_, is) = record {
  what = SaysKept what;
  says = says_;
  earlier = rw (← is.began) (named, earlier);
  opens = opens rows what says_ is;
}
