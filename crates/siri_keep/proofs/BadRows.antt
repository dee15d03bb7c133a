-- Which rows are bad, by those before them.
use Rattle.std.proofs.Common.{◌≡◌, ◌<◌, ℕ, ◌+◌, List, [], ◌∷◌, ◌++◌, length, map, find, Bool, true, false, cond, ◌&&◌, ◌||◌, not, Option, None, Some, refl, sym, ap, ◌∙◌, subst, inl, inr, ◌⊎◌, arith}
use Rattle.std.specs.Prelude.{◌==◌, nat_lt, is_none, option_map, if◌then◌else◌}
use Rattle.std.specs.List.{AllByRecursion as All, filter, list_any}
use Rattle.std.specs.Option.{option_and_then, option_map_or}
use Rattle.std.specs.Str.{bytes_eq}
use Rattle.std.specs.Cmp.{tied_then}
use Rattle.std.specs.Cmp.Lexicographic.{slice_cmp}
use Rattle.std.specs.Ordering.{is_eq, is_gt, nat_cmp}
use Rattle.std.specs.declared.cmp.Ordering.TheVariants.{Less}
use Rattle.std.proofs.lemmas.Bool.{eq-eqb, eqb-true}
use Rattle.std.proofs.lemmas.Bool.Decides.{nat_tests}
use Rattle.std.proofs.lemmas.Cmp.{nat_list_cmp_total, nat_list_eq_equiv, tied_itself}
use Rattle.std.proofs.lemmas.List.{length-map, length_push}
use Rattle.std.proofs.lemmas.List.Elements.{filter-append}
use Rattle.std.proofs.lemmas.Map.Text.{is_eq-slice_cmp}
use Rattle.std.proofs.lemmas.Option.{option_and_then_some}
use Rattle.siri_records.specs.declared.item.Item.{Item}
use Rattle.siri_records.specs.Ends.{is_dead}
use Rattle.siri_topic.specs.declared.subscription.Subscription.{Subscription}
use Rattle.siri_messages.specs.declared.message.Message.{Message}
use Rattle.siri_messages.specs.declared.message.Message.TheVariants as message
use Rattle.siri_messages.specs.declared.subscriptions.SubscriptionRequest.{SubscriptionRequest}
use Rattle.siri_row_texts.specs.declared.moments.Began.{Began}
use Rattle.siri_row_texts.specs.Reading.{first_asked, if_holds, is_asked, is_request, request_of_row}
use Rattle.siri_wire.specs.Documents.{message_of}
use Rattle.std.specs.Result.{result_ok}
use Rattle.siri_outside.specs.declared.rows.StoredRow.{StoredRow}
use Rattle.siri_outside.specs.Rows.{InOrder, Rows, of_table, place_cmp, place_of, text_at}
use Rattle.siri_keeping.specs.Keeping.{is_place, most_rows}
use Rattle.siri_keeping.specs.Opening.{are_same, began_in, exceeds, is_any, is_bad, is_bad_beginning, is_bad_item, is_bad_request, is_live_at, is_live_in, is_of_same, item_in, renewal_in}
use Rattle.siri_keeping.specs.Opening.{renewal_of_request, request_in, subscription_in, up_to}
use Rattle.siri_keep.specs.declared.opening.KeptRequest.{KeptRequest}
use Rattle.siri_keep.specs.declared.rows_read.RowsRead.{RowsRead}
use Rattle.siri_keep.specs.RowByRow.{HasRead, asks_again, has_place, has_room, renewal_at, request_at, request_under_key, under_key}
use Rattle.siri_keep.proofs.Ahead.{all_rows, less_parts, those_before, those_behind, greater_key}
use Rattle.siri_subs.specs.Table.{most_subscriptions}
use Rattle.siri_records.specs.Keyed.{most_live}

-- ---- tests and filters

pub filter_all : {X : Type 0} (p : X → Bool) → ((x : X) → p x ≡ true) → (xs : List X) → filter p xs ≡ xs
filter_all p always [] = refl
filter_all p always (x ∷ xs) = rw (always x) (ap (λ l. x ∷ l) (filter_all p always xs))

pub filter_one : {X : Type 0} (p : X → Bool) (x : X) → p x ≡ true → filter p (x ∷ []) ≡ x ∷ []
filter_one p x h = rw h refl

module _ {X : Type 0} (t q : X → Bool) where
  within_if : (x : X) (xs : List X) (b : Bool) → t x ≡ b → (t x ≡ true → q x ≡ true) → filter q (filter t xs) ≡ filter t xs
      → filter q (filter t (x ∷ xs)) ≡ filter t (x ∷ xs)
  within_if x xs true h is rest = rw h (rw (is h) (ap (λ l. x ∷ l) rest))
  within_if x xs false h is rest = rw h rest

  pub filter_within : (xs : List X) → All (λ x. t x ≡ true → q x ≡ true) xs → filter q (filter t xs) ≡ filter t xs
  filter_within [] a = refl
  filter_within (x ∷ xs) a = within_if x xs (t x) refl a.0 (filter_within xs a.1)

  without_if : (x : X) (xs : List X) (b : Bool) → t x ≡ b → (t x ≡ true → q x ≡ false) → filter q (filter t xs) ≡ []
      → filter q (filter t (x ∷ xs)) ≡ []
  without_if x xs true h is rest = rw h (rw (is h) rest)
  without_if x xs false h is rest = rw h rest

  pub filter_without : (xs : List X) → All (λ x. t x ≡ true → q x ≡ false) xs → filter q (filter t xs) ≡ []
  filter_without [] a = refl
  filter_without (x ∷ xs) a = without_if x xs (t x) refl a.0 (filter_without xs a.1)

  three_at : (x : X) (prior rest : List X) → t x ≡ true → q x ≡ true → filter q (filter t prior) ≡ filter t prior
      → filter q (filter t rest) ≡ [] → filter q (filter t (prior ++ x ∷ rest)) ≡ filter t prior ++ x ∷ []
  three_at x prior rest here passes before behind =
      ap (filter q) (filter-append t prior (x ∷ rest))
      ∙ filter-append q (filter t prior) (filter t (x ∷ rest))
      ∙ ap (λ l. l ++ filter q (filter t (x ∷ rest))) before
      ∙ ap (λ l. filter t prior ++ l) (rw here (rw passes (ap (λ l. x ∷ l) behind)))

-- ---- the rows of a row's table up to it

abbrev not_above : StoredRow → StoredRow → Bool
not_above row other = not (is_gt (slice_cmp nat_cmp other.key row.key))

module _ (row : StoredRow) where
  up_before : (x : StoredRow) → (x.table < row.table) ⊎ ((x.table ≡ row.table) × (slice_cmp nat_cmp x.key row.key ≡ Less))
      → (x.table == row.table) ≡ true → not_above row x ≡ true
  up_before x (inl less) same = absurd (omega (arith, less, eqb-true x.table row.table same))
  up_before x (inr at) same = ap (λ o. not (is_gt o)) at.1

  up_behind : (x : StoredRow) → (row.table < x.table) ⊎ ((row.table ≡ x.table) × (slice_cmp nat_cmp row.key x.key ≡ Less))
      → (x.table == row.table) ≡ true → not_above row x ≡ false
  up_behind x (inl less) same = absurd (omega (arith, less, eqb-true x.table row.table same))
  up_behind x (inr at) same = ap (λ o. not (is_gt o)) (greater_key row.key x.key at.1)

  pub up_to_here : (prior rest : Rows) → InOrder (prior ++ row ∷ rest) → up_to row (prior ++ row ∷ rest) ≡ of_table row.table prior ++ row ∷ []
  up_to_here prior rest s =
      let before = all_rows (λ x. place_cmp x (place_of row) ≡ Less) (λ x. (x.table == row.table) ≡ true → not_above row x ≡ true)
      (λ x less. up_before x (less_parts (place_of x) (place_of row) less)) prior (those_before prior row rest s) in
      let behind = all_rows (λ x. place_cmp (place_of row) x ≡ Less) (λ x. (x.table == row.table) ≡ true → not_above row x ≡ false)
      (λ x less. up_behind x (less_parts (place_of row) (place_of x) less)) rest (those_behind prior row rest s) in
      three_at (λ x. x.table == row.table) (not_above row) row prior rest (eq-eqb row.table row.table refl)
      (ap (λ o. not (is_gt o)) (tied_itself nat_list_cmp_total row.key))
      (filter_within (λ x. x.table == row.table) (not_above row) prior before)
      (filter_without (λ x. x.table == row.table) (not_above row) rest behind)

module _ (rows prior rest : Rows) (row : StoredRow) (split : rows ≡ prior ++ row ∷ rest) (ordered : InOrder rows) where
  up_is : up_to row rows ≡ of_table row.table prior ++ row ∷ []
  up_is = ap (up_to row) split ∙ up_to_here row prior rest (subst InOrder split ordered)

  -- with a row of a kind there are so many of it
  pub exceeds_here : (most : ℕ) (is : StoredRow → Bool) → is row ≡ true
      → exceeds most is row rows ≡ nat_lt most (length (filter is (of_table row.table prior)) + 1)
  exceeds_here most is h =
      ap (λ l. nat_lt most (length (filter is l))) up_is
      ∙ ap (λ l. nat_lt most (length l)) (filter-append is (of_table row.table prior) (row ∷ [])
      ∙ ap (λ l. filter is (of_table row.table prior) ++ l) (filter_one is row h))
      ∙ ap (nat_lt most) (length_push (filter is (of_table row.table prior)) row)

-- ---- one too many

pub one_more : (most n : ℕ) → nat_lt most (n + 1) ≡ not (nat_lt n most)
one_more most n = grind (arith, nat_tests)

second_by : {X : Type 0} (p : X → Bool) (x : X) (xs : List X) (b : Bool) → p x ≡ b
    → nat_lt 1 (length (filter p xs) + 1) ≡ list_any p xs → nat_lt 1 (length (filter p (x ∷ xs)) + 1) ≡ list_any p (x ∷ xs)
second_by p x xs true h rest = rw h (grind (arith, nat_tests))
second_by p x xs false h rest = rw h rest

pub second_is : {X : Type 0} (p : X → Bool) (xs : List X) → nat_lt 1 (length (filter p xs) + 1) ≡ list_any p xs
second_is p [] = refl
second_is p (x ∷ xs) = second_by p x xs (p x) refl (second_is p xs)

and_same : (a b c : Bool) → (a ≡ true → b ≡ c) → (a && b) ≡ (a && c)
and_same true b c same = same refl
and_same false b c same = refl

-- ---- items

room_of : (dead a b : Bool) → ((false || (not dead && not b)) || not a) ≡ not (a && (dead || b))
room_of true true true = refl
room_of true true false = refl
room_of true false true = refl
room_of true false false = refl
room_of false true true = refl
room_of false true false = refl
room_of false false true = refl
room_of false false false = refl

pub live_same : (rows : Rows) (b : Began) → began_in rows ≡ Some b → is_live_in rows ≡ is_live_at b.moment
live_same rows b is = ap (λ o row. option_map_or (λ (c : Began). is_live_at c.moment row) o false) is

pub live_of : (m : ℕ) (row : StoredRow) (i : Item) → item_in row ≡ Some i → is_live_at m row ≡ not (is_dead i m)
live_of m row i is = ap (λ o. option_map_or (λ j. not (is_dead j m)) o false) is

module _ (rows prior rest : Rows) (row : StoredRow) (split : rows ≡ prior ++ row ∷ rest) (ordered : InOrder rows) where
  -- what is bad in a row of a table
  abbrev pub kind : ℕ → Bool
  kind t =
      if t == 0 then is_bad_beginning row
      else if t == 1 then is_bad_item rows row
      else if t == 2 then is_bad_request rows row
      else if t == 3 then is_none (renewal_in rows row)
      else true

  any_here : (most : ℕ) (read : ℕ) → read ≡ length (of_table row.table prior) → exceeds most is_any row rows ≡ not (nat_lt read most)
  any_here most read count =
      exceeds_here rows prior rest row split ordered most is_any refl
      ∙ ap (λ l. nat_lt most (length l + 1)) (filter_all is_any (λ x. refl) (of_table row.table prior))
      ∙ ap (λ n. nat_lt most (n + 1)) (sym count)
      ∙ one_more most read

  live_here : (read : RowsRead) → read.living ≡ length (filter (is_live_at read.began.moment) (of_table row.table prior))
      → is_live_at read.began.moment row ≡ true → exceeds most_live (is_live_at read.began.moment) row rows ≡ not (nat_lt read.living most_live)
  live_here read living_ is =
      exceeds_here rows prior rest row split ordered most_live (is_live_at read.began.moment) is
      ∙ ap (λ n. nat_lt most_live (n + 1)) (sym living_)
      ∙ one_more most_live read.living

  item_bad : (read : RowsRead) (i : Item) → began_in rows ≡ Some read.began → HasRead (of_table row.table prior) read → item_in row ≡ Some i
      → is_bad_item rows row ≡ not (has_room read i)
  item_bad read i began has is =
      let m = read.began.moment in
      ap (λ o. (is_none o || (is_live_in rows row && exceeds most_live (is_live_in rows) row rows)) || exceeds most_rows is_any row rows) is
      ∙ ap (λ p. (false || (p row && exceeds most_live p row rows)) || exceeds most_rows is_any row rows) (live_same rows read.began began)
      ∙ ap (λ b. (false || b) || exceeds most_rows is_any row rows)
      (and_same (is_live_at m row) (exceeds most_live (is_live_at m) row rows) (not (nat_lt read.living most_live)) (live_here read has.living_))
      ∙ ap (λ b. (false || (b && not (nat_lt read.living most_live))) || exceeds most_rows is_any row rows) (live_of m row i is)
      ∙ ap (λ b. (false || (not (is_dead i m) && not (nat_lt read.living most_live))) || b) (any_here most_rows read.count has.count)
      ∙ room_of (is_dead i m) (nat_lt read.count most_rows) (nat_lt read.living most_live)

  pub bad_item : (read : RowsRead) (i : Item) → row.table ≡ 1 → began_in rows ≡ Some read.began → HasRead (of_table 1 prior) read
      → item_in row ≡ Some i → is_bad rows row ≡ not (has_room read i)
  bad_item read i mine began has is =
      ap kind mine ∙ item_bad read i began (subst (λ t. HasRead (of_table t prior) read) (sym mine) has) is

  pub bad_no_item : row.table ≡ 1 → item_in row ≡ None → is_bad rows row ≡ true
  bad_no_item mine none =
      ap kind mine
      ∙ ap (λ o. (is_none o || (is_live_in rows row && exceeds most_live (is_live_in rows) row rows)) || exceeds most_rows is_any row rows) none

-- ---- requests

place_by : (p n g : Bool) → (((not p || false) || g) || not n) ≡ not ((p && n) && not g)
place_by true true true = refl
place_by true true false = refl
place_by true false true = refl
place_by true false false = refl
place_by false true true = refl
place_by false true false = refl
place_by false false true = refl
place_by false false false = refl

or_true : (a b c : Bool) → (((a || true) || b) || c) ≡ true
or_true true b c = refl
or_true false b c = refl

any_map : {X Y : Type 0} (p : Y → Bool) (f : X → Y) (xs : List X) → list_any p (map f xs) ≡ list_any (λ x. p (f x)) xs
any_map p f [] = refl
any_map p f (x ∷ xs) = ap (λ b. p (f x) || b) (any_map p f xs)

asked_of : (text : List ℕ) (r : SubscriptionRequest) (o : Option Subscription) → is_asked text r o ≡ true → (s : Subscription) × (o ≡ Some s)
asked_of text r None h = cc h
asked_of text r (Some s) h = (s, refl)

begins_with : (text : List ℕ) (m : Message) → is_request text m ≡ true → (s : Subscription) × (subscription_in m ≡ Some s)
begins_with text m h = elim m as (λ (x : Message). is_request text x ≡ true → (s : Subscription) × (subscription_in x ≡ Some s)) [
  | message.SubscriptionRequest r ↦ λ (k : is_request text (message.SubscriptionRequest r) ≡ true). asked_of text r (first_asked r) k
  | _ ↦ λ k. absurd (cc k)
] h

held_some : (p : Message → Bool) (m x : Message) → if_holds p m ≡ Some x → (p x ≡ true)
held_some p m x h = by (p m) refl h
  where
    by : (b : Bool) → p m ≡ b → cond b (Some m) None ≡ Some x → p x ≡ true
    by true is same = let one : m ≡ x = cc same in subst (λ (y : Message). p y ≡ true) one is
    by false is same = absurd (cc same)

-- a request that is read begins with a subscription
pub read_begins : (text : List ℕ) (m : Message) → request_of_row text ≡ Some m → (s : Subscription) × (subscription_in m ≡ Some s)
unfolding request_of_row
read_begins text m is =
    begins_with text m (option_and_then_some (if_holds (is_request text)) (result_ok (message_of text)) m is
    (λ x there got. held_some (is_request text) x m got))

same_itself : (s : Subscription) → are_same (Some s) (Some s) ≡ true
same_itself s = rw (nat_list_eq_equiv.refl s.subscriber, nat_list_eq_equiv.refl s.identifier) refl

abbrev asked_under : Option Message → Option Subscription
asked_under o = option_and_then subscription_in o

-- of the rows so far one is of the same subscription
again_by : (requests : List KeptRequest) (mine : Rows) (s : Subscription) → map under_key requests ≡ map request_under_key mine
    → list_any (λ other. are_same (asked_under (request_in other)) (Some s)) mine
    ≡ list_any (λ r. are_same (subscription_in r.request) (Some s)) requests
again_by requests mine s are =
    sym (any_map (λ (e : List ℕ × Option Message). are_same (asked_under e.1) (Some s)) request_under_key mine)
    ∙ ap (list_any (λ (e : List ℕ × Option Message). are_same (asked_under e.1) (Some s))) (sym are)
    ∙ any_map (λ (e : List ℕ × Option Message). are_same (asked_under e.1) (Some s)) under_key requests

again_is : (requests : List KeptRequest) (mine : Rows) (row : StoredRow) (m : Message) (s : Subscription)
    → map under_key requests ≡ map request_under_key mine → request_in row ≡ Some m → subscription_in m ≡ Some s
    → list_any (is_of_same row) mine ≡ asks_again requests m
again_is requests mine row m s are is of =
    ap (λ (o : Option Subscription). list_any (λ other. are_same (asked_under (request_in other)) o) mine) (ap asked_under is ∙ of)
    ∙ again_by requests mine s are
    ∙ sym (ap (λ (o : Option Subscription). option_map_or (λ t. list_any (λ r. are_same (subscription_in r.request) (Some t)) requests) o false) of)

module _ (rows prior rest : Rows) (row : StoredRow) (split : rows ≡ prior ++ row ∷ rest) (ordered : InOrder rows) where
  same_here : (m : Message) (s : Subscription) → request_in row ≡ Some m → subscription_in m ≡ Some s → is_of_same row row ≡ true
  same_here m s is of =
      ap (λ (o : Option Subscription). are_same o o) (ap asked_under is ∙ of) ∙ same_itself s

  again_here : (read : RowsRead) (m : Message) → map under_key read.requests ≡ map request_under_key (of_table row.table prior)
      → request_in row ≡ Some m → exceeds 1 (is_of_same row) row rows ≡ asks_again read.requests m
  again_here read m are is =
      let begins = read_begins row.text m is in
      exceeds_here rows prior rest row split ordered 1 (is_of_same row) (same_here m begins.0 is begins.1)
      ∙ second_is (is_of_same row) (of_table row.table prior)
      ∙ again_is read.requests (of_table row.table prior) row m begins.0 are is begins.1

  request_bad : (read : RowsRead) (m : Message) → map under_key read.requests ≡ map request_under_key (of_table row.table prior)
      → request_in row ≡ Some m → is_bad_request rows row ≡ not (has_place read row.key m)
  request_bad read m are is =
      let count : length read.requests ≡ length (of_table row.table prior) =
      sym (length-map read.requests under_key) ∙ ap length are ∙ length-map (of_table row.table prior) request_under_key in
      ap (λ o. ((not (is_place row.key) || is_none o) || exceeds 1 (is_of_same row) row rows) || exceeds most_subscriptions is_any row rows) is
      ∙ ap (λ b. ((not (is_place row.key) || false) || b) || exceeds most_subscriptions is_any row rows) (again_here read m are is)
      ∙ ap (λ b. ((not (is_place row.key) || false) || asks_again read.requests m) || b)
      (any_here rows prior rest row split ordered most_subscriptions (length read.requests) count)
      ∙ place_by (is_place row.key) (nat_lt (length read.requests) most_subscriptions) (asks_again read.requests m)

  pub bad_request : (read : RowsRead) (m : Message) → row.table ≡ 2 → map under_key read.requests ≡ map request_under_key (of_table 2 prior)
      → request_in row ≡ Some m → is_bad rows row ≡ not (has_place read row.key m)
  bad_request read m mine are is =
      ap (kind rows prior rest row split ordered) mine
      ∙ request_bad read m (subst (λ t. map under_key read.requests ≡ map request_under_key (of_table t prior)) (sym mine) are) is

  pub bad_no_request : row.table ≡ 2 → request_in row ≡ None → is_bad rows row ≡ true
  bad_no_request mine none =
      ap (kind rows prior rest row split ordered) mine
      ∙ ap (λ o. ((not (is_place row.key) || is_none o) || exceeds 1 (is_of_same row) row rows) || exceeds most_subscriptions is_any row rows) none
      ∙ or_true (not (is_place row.key)) (exceeds 1 (is_of_same row) row rows) (exceeds most_subscriptions is_any row rows)

-- ---- renewals

module _ {X Y : Type 0} (p : Y → Bool) (f : X → Y) where
  mapped_at : (x : X) (xs : List X) (b : Bool) → p (f x) ≡ b → find p (map f xs) ≡ option_map f (find (λ y. p (f y)) xs)
      → find p (map f (x ∷ xs)) ≡ option_map f (find (λ y. p (f y)) (x ∷ xs))
  mapped_at x xs true h rest = rw h refl
  mapped_at x xs false h rest = rw h rest

  find_map : (xs : List X) → find p (map f xs) ≡ option_map f (find (λ x. p (f x)) xs)
  find_map [] = refl
  find_map (x ∷ xs) = mapped_at x xs (p (f x)) refl (find_map xs)

module _ {X : Type 0} (p q t : X → Bool) (same : (x : X) → p x ≡ (t x && q x)) where
  same_at : (x : X) (xs : List X) (b c : Bool) → t x ≡ b → q x ≡ c → find p xs ≡ find q (filter t xs)
      → find p (x ∷ xs) ≡ find q (filter t (x ∷ xs))
  same_at x xs true true h k rest = rw (same x) (rw h (rw k refl))
  same_at x xs true false h k rest = rw (same x) (rw h (rw k rest))
  same_at x xs false c h k rest = rw (same x) (rw h rest)

  find_same : (xs : List X) → find p xs ≡ find q (filter t xs)
  find_same [] = refl
  find_same (x ∷ xs) = same_at x xs (t x) (q x) refl refl (find_same xs)

at_place : (key : List ℕ) (row : StoredRow) → is_eq (place_cmp (place_of row) (2, key)) ≡ ((row.table == 2) && bytes_eq row.key key)
at_place key row =
    sym (tied_then (nat_cmp row.table 2) (slice_cmp nat_cmp row.key key))
    ∙ (λ i. tied_number row.table 2 i && is_eq-slice_cmp row.key key i)
  where
    tied_number : (a b : ℕ) → is_eq (nat_cmp a b) ≡ (a == b)
    tied_number a b = grind (arith, nat_tests)

found_by : (requests : List KeptRequest) (mine : Rows) (key : List ℕ) → map under_key requests ≡ map request_under_key mine
    → option_map (λ (r : KeptRequest). Some r.request) (find (λ r. bytes_eq r.place key) requests)
    ≡ option_map request_in (find (λ row. bytes_eq row.key key) mine)
found_by requests mine key are =
    let at : (List ℕ × Option Message) → Bool = λ e. bytes_eq e.0 key in
    let second : Option (List ℕ × Option Message) → Option (Option Message) = option_map (λ e. e.1) in
    sym (second_of (λ r. (r.place, Some r.request)) (find (λ (r : KeptRequest). bytes_eq r.place key) requests))
    ∙ sym (ap second (find_map at under_key requests))
    ∙ ap (λ (es : List (List ℕ × Option Message)). second (find at es)) are
    ∙ ap second (find_map at request_under_key mine)
    ∙ second_of request_under_key (find (λ row. bytes_eq row.key key) mine)
  where
    second_of : {X : Type 0} (f : X → List ℕ × Option Message) (o : Option X)
        → option_map (λ (e : List ℕ × Option Message). e.1) (option_map f o) ≡ option_map (λ x. (f x).1) o
    second_of f None = refl
    second_of f (Some x) = refl

joined : (a : Option KeptRequest) (b : Option StoredRow)
    → option_map (λ (r : KeptRequest). Some r.request) a ≡ option_map request_in b
    → option_map (λ (r : KeptRequest). r.request) a ≡ option_and_then request_of_row (option_map (λ row. row.text) b)
joined None None h = refl
joined None (Some row) h = absurd (cc h)
joined (Some r) None h = absurd (cc h)
joined (Some r) (Some row) h = cc h

-- the request under a key is that of the row of table 2
pub request_is : (rows : Rows) (requests : List KeptRequest) (key : List ℕ) → map under_key requests ≡ map request_under_key (of_table 2 rows)
    → request_at requests key ≡ option_and_then request_of_row (text_at rows 2 key)
request_is rows requests key are =
    joined (find (λ r. bytes_eq r.place key) requests) (find (λ row. bytes_eq row.key key) (of_table 2 rows))
    (found_by requests (of_table 2 rows) key are)
    ∙ sym (ap (λ (o : Option StoredRow). option_and_then request_of_row (option_map (λ row. row.text) o))
    (find_same (λ row. is_eq (place_cmp (place_of row) (2, key))) (λ row. bytes_eq row.key key) (λ row. row.table == 2) (at_place key) rows))

pub renewal_is : (rows : Rows) (requests : List KeptRequest) (row : StoredRow) → map under_key requests ≡ map request_under_key (of_table 2 rows)
    → renewal_at requests row.key row.text ≡ renewal_in rows row
renewal_is rows requests row are = ap (option_and_then (renewal_of_request row.text)) (request_is rows requests row.key are)

module _ (rows prior rest : Rows) (row : StoredRow) (split : rows ≡ prior ++ row ∷ rest) (ordered : InOrder rows) where
  pub bad_renewal : row.table ≡ 3 → is_bad rows row ≡ is_none (renewal_in rows row)
  bad_renewal mine = ap (kind rows prior rest row split ordered) mine
