-- What rows in order say that keep a producer's history: none of them is bad.
use Rattle.std.proofs.Common.{◌≡◌, ◌≤◌, ◌<◌, ℕ, suc, List, [], ◌∷◌, ◌++◌, length, map, filter, cond, Bool, true, false, ◌&&◌, ◌||◌, not, Option, None, Some, Ok, Err, Result, refl, ap, sym}
use Rattle.std.proofs.Common.{◌∙◌, subst, inl, inr, arith}
use Rattle.std.specs.Prelude.{◌==◌, IsSome, find, is_none, ok_or, option_map, if◌then◌else◌}
use Rattle.std.specs.Cmp.Lexicographic.{slice_cmp}
use Rattle.std.specs.List.{AllByRecursion as All, AllZip, Contains, cons_option, filter_map}
use Rattle.std.specs.Option.{option_and_then, option_map_or}
use Rattle.std.specs.Ordering.{is_gt, nat_cmp}
use Rattle.std.proofs.lemmas.Bool.{eqb-false, eqb-true, le-ltb, or_parts}
use Rattle.std.proofs.lemmas.List.{length-map}
use Rattle.std.proofs.lemmas.Option.{none-some, same_Some}
use Rattle.siri_records.specs.Keyed.{Items, living, most_live}
use Rattle.siri_topic.specs.declared.subscription.Subscription.{Subscription}
use Rattle.siri_messages.specs.declared.message.Message.{Message}
use Rattle.siri_messages.specs.declared.message.Message.TheVariants as message
use Rattle.siri_wire.specs.Canonical.{canonical}
use Rattle.siri_subs.specs.declared.entry.Row.{Row}
use Rattle.siri_subs.specs.Table.{EachOnce, is_held, is_of, most_subscriptions}
use Rattle.siri_subs.proofs.Once.{held_like}
use Rattle.siri_model.specs.Held.{Held, held_of}
use Rattle.siri_model.specs.Rows.{KeptLife}
use Rattle.siri_outside.specs.declared.rows.StoredRow.{StoredRow}
use Rattle.siri_outside.specs.Rows.{InOrder, RowPlace, Rows, of_table, text_at}
use Rattle.siri_outside.proofs.Order.{order_kept}
use Rattle.siri_row_texts.specs.declared.moments.Began.{Began}
use Rattle.siri_row_texts.specs.ItemRows.{moment_row}
use Rattle.siri_row_texts.specs.SubscriptionRows.{renewal_of, renewal_text, request_of, request_text}
use Rattle.siri_row_texts.specs.Reading.{began_of_row, renewal_of_row, request_of_row}
use Rattle.siri_wire.proofs.MessageValues.{all_map}
use Rattle.siri_keeping.specs.Keeping.{is_place, most_rows}
use Rattle.siri_keeping.specs.Keeps.{KeepsThese}
use Rattle.siri_keeping.specs.Opening.{SaysKept, Said, are_same, began_in, exceeds, is_any, is_bad, is_bad_beginning, is_bad_item, is_bad_request, is_live_at, is_live_in, is_of_same}
use Rattle.siri_keeping.specs.Opening.{item_in, kept_in, renewal_in, renewal_of_request, request_in, said, said_unless, subscription_in, up_to}
use Rattle.siri_keeping.proofs.Feeding.{few_passing}
use Rattle.siri_keeping.proofs.SaidItems.{IsItemRow, few_items, few_live_rows, item_row}
use Rattle.siri_keeping.proofs.TableRows.{IsIn, IsThere, all_in, all_passing, all_there, entries_at, is_in, pair_of, placed, table_is}
use Rattle.siri_keeping.proofs.KeptRequests.{first_is, number_is}
use Rattle.siri_keeping.proofs.Written.{first_or, none_in}

-- ---- tests

three : (a b c d : Bool) → a ≡ false → c ≡ false → d ≡ false → (a || (b && c) || d) ≡ false
three a true c d e f g = λ i. e i || (true && f i) || g i
three a false c d e f g = λ i. e i || (false && c) || g i

four : (a b c d : Bool) → a ≡ false → b ≡ false → c ≡ false → d ≡ false → (a || b || c || d) ≡ false
four a b c d e f g h = λ i. e i || f i || g i || h i

none_found : (p : StoredRow → Bool) (rows : Rows) → All (λ row. p row ≡ false) rows → find p rows ≡ None
none_found p [] all = refl
none_found p (row ∷ rows) all = rw (all.0) (none_found p rows all.1)

-- ---- lists

fewer_by : {X : Type 0} (p q : X → Bool) (x : X) (xs : List X) (b c : Bool) → p x ≡ b → q x ≡ c → length (filter p (filter q xs)) ≤ length (filter p xs)
    → length (filter p (filter q (x ∷ xs))) ≤ length (filter p (x ∷ xs))
fewer_by p q x xs true true e g rest = rw (e, g) (rw e (omega (arith, rest)))
fewer_by p q x xs true false e g rest = rw (e, g) (omega (arith, rest))
fewer_by p q x xs false true e g rest = rw (e, g) (rw e rest)
fewer_by p q x xs false false e g rest = rw (e, g) rest

fewer_of : {X : Type 0} (p q : X → Bool) (xs : List X) → length (filter p (filter q xs)) ≤ length (filter p xs)
fewer_of p q [] = omega arith
fewer_of p q (x ∷ xs) = fewer_by p q x xs (p x) (q x) refl refl (fewer_of p q xs)

all_both : {X : Type 0} (P Q : X → Type 0) (xs : List X) → All P xs → All Q xs → All (λ x. P x × Q x) xs
all_both P Q [] ps qs = tt
all_both P Q (x ∷ xs) ps qs = ((ps.0, qs.0), all_both P Q xs ps.1 qs.1)

zip_both : {X Y : Type 0} (R Q : X → Y → Type 0) (xs : List X) (ys : List Y) → AllZip R xs ys → AllZip Q xs ys → AllZip (λ x y. R x y × Q x y) xs ys
zip_both R Q [] [] rs qs = tt
zip_both R Q [] (y ∷ ys) rs qs = absurd rs
zip_both R Q (x ∷ xs) [] rs qs = absurd rs
zip_both R Q (x ∷ xs) (y ∷ ys) rs qs = ((rs.0, qs.0), zip_both R Q xs ys rs.1 qs.1)

pub all_unmapped : {X Y : Type 0} (P : Y → Type 0) (f : X → Y) (xs : List X) → All P (map f xs) → All (λ x. P (f x)) xs
all_unmapped P f [] all = tt
all_unmapped P f (x ∷ xs) all = (all.0, all_unmapped P f xs all.1)

one_of : {X : Type 0} (P : X → Type 0) (xs : List X) (x : X) → All P xs → Contains xs x → P x
one_of P [] x all among = absurd (none_in x among)
one_of P (y ∷ xs) x all among = elim (first_or y x xs among) [
  | inl same ↦ subst P same all.0
  | inr rest ↦ one_of P xs x all.1 rest
]

-- what stands beside one of a list
one_beside : {X S : Type 0} (R : X → S → Type 0) (P : S → Type 0) (xs : List X) (list : List S) (x : X) → AllZip R xs list → All P list → Contains xs x
    → (s : S) × R x s × P s
one_beside R P [] list x zip all among = absurd (none_in x among)
one_beside R P (y ∷ xs) [] x zip all among = absurd zip
one_beside R P (y ∷ xs) (s ∷ list) x zip all among = elim (first_or y x xs among) [
  | inl same ↦ (s, subst (λ k. R k s) same zip.0, all.0)
  | inr rest ↦ one_beside R P xs list x zip.1 all.1 rest
]

entry_few : (place : List ℕ) (o : Option (List ℕ)) (rest : List (List ℕ × List ℕ)) (n : ℕ) → length rest ≤ n → length (placed place o ++ rest) ≤ suc n
entry_few place None rest n few = omega (arith, few)
entry_few place (Some text) rest n few = omega (arith, few)

entries_few : {S : Type 0} (f : S → Option (List ℕ)) (places : List (List ℕ)) (list : List S) → length (entries_at f places list) ≤ length list
entries_few f [] list = omega arith
entries_few f (place ∷ places) [] = omega arith
entries_few f (place ∷ places) (s ∷ list) = entry_few place (f s) (entries_at f places list) (length list) (entries_few f places list)

-- ---- pairs of keys and texts

paired : {Y : Type 0} (g : List ℕ × List ℕ → Option Y) (rows : Rows) → filter_map (λ row. g (pair_of row)) rows ≡ filter_map g (map pair_of rows)
paired g [] = refl
paired g (row ∷ rows) = ap (cons_option (g (pair_of row))) (paired g rows)

long_either : (b : Bool) (row : StoredRow) (pair : List ℕ × List ℕ) (rows : Rows) (pairs : List (List ℕ × List ℕ)) → length rows ≡ length pairs
    → length (cond b (row ∷ rows) rows) ≡ length (cond b (pair ∷ pairs) pairs)
long_either true row pair rows pairs same = ap suc same
long_either false row pair rows pairs same = same

long_paired : (g : List ℕ → Bool) (rows : Rows) → length (filter (λ (row : StoredRow). g row.text) rows) ≡ length (filter (λ e. g e.1) (map pair_of rows))
long_paired g [] = refl
long_paired g (row ∷ rows) =
    long_either (g row.text) row (pair_of row) (filter (λ (r : StoredRow). g r.text) rows) (filter (λ e. g e.1) (map pair_of rows)) (long_paired g rows)

-- ---- rows of subscriptions

abbrev pub request : Held → List ℕ
request s = request_text s.asked s.base

abbrev pub renewal : Held → Option (List ℕ)
renewal s = renewal_text s.asked.subscription s.number s.base

-- the messages that are kept of a subscription
abbrev pub request_message : Held → Message
request_message s = message.SubscriptionRequest (request_of s.asked s.base)

abbrev pub renewal_message : Held → Option Message
renewal_message s = if s.number == s.base then None else Some (message.DataSupplyRequest (renewal_of s.asked.subscription s.number s.base))

-- its rows are read as these
abbrev Reads : Held → Type 0
Reads s =
    (request_of_row (request s) ≡ Some (request_message s))
    × ((text : List ℕ) → renewal s ≡ Some text
    → renewal_of_row s.asked.subscription s.base text ≡ Some (message.DataSupplyRequest (renewal_of s.asked.subscription s.number s.base)))

-- the subscription that a text of table 2 says
abbrev said_of : List ℕ → Option Subscription
said_of text = option_and_then subscription_in (request_of_row text)

said_is : (s : Held) → Reads s → said_of (request s) ≡ Some s.asked.subscription
said_is s reads = ap (option_and_then subscription_in) reads.0 ∙ first_is s.asked s.base

-- no subscription is said twice
module _ (g : List ℕ → Bool) (subscriber identifier : List ℕ) where
  abbrev Tells : Row KeptLife → Type 0
  Tells row = g (request (held_of row)) ≡ is_of subscriber identifier row

  abbrev telling : List (List ℕ) → List (Row KeptLife) → List (List ℕ × List ℕ)
  telling places old = filter (λ e. g e.1) (entries_at (λ s. Some (request s)) places (map held_of old))

  none_said : (places : List (List ℕ)) (old : List (Row KeptLife)) → is_held subscriber identifier old ≡ false → All Tells old → length (telling places old) ≡ 0
  none_said [] old none tells = refl
  none_said (place ∷ places) [] none tells = refl
  none_said (place ∷ places) (row ∷ old) none tells =
      let parts = or_parts (is_of subscriber identifier row) (is_held subscriber identifier old) none in
      ap (λ b. length (cond b ((place, request (held_of row)) ∷ telling places old) (telling places old))) (tells.0 ∙ parts.0)
      ∙ none_said places old parts.1 tells.1

  one_more : (b : Bool) (e : List ℕ × List ℕ) (rest : List (List ℕ × List ℕ)) → (b ≡ true → length rest ≡ 0) → length rest ≤ 1
      → length (cond b (e ∷ rest) rest) ≤ 1
  one_more true e rest none few = let zero_long = none refl in omega (arith, zero_long)
  one_more false e rest none few = few

  one_said : (places : List (List ℕ)) (old : List (Row KeptLife)) → EachOnce old → All Tells old → length (telling places old) ≤ 1
  one_said [] old once tells = omega arith
  one_said (place ∷ places) [] once tells = omega arith
  one_said (place ∷ places) (row ∷ old) once tells =
      one_more (g (request (held_of row))) (place, request (held_of row)) (telling places old)
      (λ is. none_said places old (held_like subscriber identifier row old (sym tells.0 ∙ is) ∙ once.0) tells.1)
      (one_said places old once.1 tells.1)

-- ---- rows that keep a history

module _ (name : List ℕ) (moment start : ℕ) (live kept : Items) (places : List (List ℕ)) (old : List (Row KeptLife)) (rows : Rows)
    (these : KeepsThese name moment start live kept places (map held_of old) rows) (ordered : InOrder rows)
    (few_live : length (living moment kept) ≤ most_live) (once : EachOnce old) (few_held : length old ≤ most_subscriptions) where
  abbrev began : Began
  began = record { moment = moment; start = start; name = name }

  abbrev helds : List Held
  helds = map held_of old

  began_is : began_in rows ≡ Some began
  began_is = ap (option_and_then began_of_row) these.moment_is ∙ these.reads.began

  -- ---- the row of the moment

  no_bad_beginning : (row : StoredRow) → IsIn 0 rows row → is_bad_beginning row ≡ false
  no_bad_beginning row here =
      let key_is : row.key ≡ [] = these.only_moment row.key (subst IsSome (sym here.there) refl) in
      let text_is : row.text ≡ moment_row moment start name =
      same_Some row.text (moment_row moment start name) (sym here.there ∙ ap (text_at rows 0) key_is ∙ these.moment_is) in
      let reads : began_of_row row.text ≡ Some began = ap began_of_row text_is ∙ these.reads.began in
      λ i. not (length (key_is i) == 0) || is_none (reads i)

  -- ---- the rows of one table up to one of them

  up_in : (table : ℕ) (row : StoredRow) → row.table ≡ table → All (IsIn table rows) (up_to row rows)
  up_in table row own =
      subst (λ t. All (IsIn t rows) (up_to row rows)) own
      (all_passing (λ (other : StoredRow). not (is_gt (slice_cmp nat_cmp other.key row.key))) (IsIn row.table rows) (IsIn row.table rows)
      (λ r is here. here) (of_table row.table rows) (all_in row.table rows ordered))

  up_ordered : (row : StoredRow) → InOrder (up_to row rows)
  up_ordered row =
      order_kept (λ (other : StoredRow). not (is_gt (slice_cmp nat_cmp other.key row.key))) (of_table row.table rows)
      (order_kept (λ (other : StoredRow). other.table == row.table) rows ordered)

  -- ---- rows of items

  says_item : (row : StoredRow) → IsIn 1 rows row → IsItemRow kept row
  says_item = item_row moment kept rows ordered these.ordered these.items these.reads.keyed these.reads.proper these.reads.items

  items_up : (row : StoredRow) → row.table ≡ 1 → All (IsItemRow kept) (up_to row rows)
  items_up row own = all_map (IsIn 1 rows) (IsItemRow kept) says_item (up_to row rows) (up_in 1 row own)

  few_any : (row : StoredRow) → row.table ≡ 1 → length (filter is_any (up_to row rows)) ≤ most_rows
  few_any row own =
      let one = few_items kept (up_to row rows) (up_ordered row) (items_up row own) in
      let two = few_passing is_any (up_to row rows) in
      let three = these.few in
      omega (arith, one, two, three)

  lives_as : (row : StoredRow) → is_live_in rows row ≡ is_live_at moment row
  lives_as row = ap (λ o. option_map_or (λ (b : Began). is_live_at b.moment row) o false) began_is

  same_filter : (p q : StoredRow → Bool) (rs : Rows) → ((row : StoredRow) → p row ≡ q row) → filter p rs ≡ filter q rs
  same_filter p q [] same = refl
  same_filter p q (row ∷ rs) same = λ i. cond (same row i) (row ∷ same_filter p q rs same i) (same_filter p q rs same i)

  few_alive : (row : StoredRow) → row.table ≡ 1 → length (filter (is_live_in rows) (up_to row rows)) ≤ most_live
  few_alive row own =
      let one =
      few_live_rows moment kept rows ordered these.ordered these.items these.reads.keyed these.reads.proper these.reads.items (up_to row rows)
      (up_ordered row) (items_up row own) in
      let two = ap length (same_filter (is_live_in rows) (is_live_at moment) (up_to row rows) lives_as) in
      omega (arith, one, two, few_live)

  no_bad_item : (row : StoredRow) → IsIn 1 rows row → is_bad_item rows row ≡ false
  no_bad_item row here =
      three (is_none (item_in row)) (is_live_in rows row) (exceeds most_live (is_live_in rows) row rows) (exceeds most_rows is_any row rows)
      (ap is_none (says_item row here).says)
      (le-ltb most_live (length (filter (is_live_in rows) (up_to row rows))) (few_alive row here.own))
      (le-ltb most_rows (length (filter is_any (up_to row rows))) (few_any row here.own))

  -- ---- rows of requests

  reads : All Reads helds
  reads =
      all_both (λ s. request_of_row (request s) ≡ Some (request_message s))
      (λ s. (text : List ℕ) → renewal s ≡ Some text
      → renewal_of_row s.asked.subscription s.base text ≡ Some (message.DataSupplyRequest (renewal_of s.asked.subscription s.number s.base)))
      helds these.reads.requests these.reads.renewals

  abbrev IsAt : List ℕ → Held → Type 0
  IsAt place s = text_at rows 2 place ≡ Some (request s)

  requests_are : map pair_of (of_table 2 rows) ≡ entries_at (λ s. Some (request s)) places helds
  requests_are = table_is (λ (s : Held). Some (request s)) 2 rows places helds ordered these.subscriptions.ascend these.subscriptions.requests these.subscriptions.only_requests

  renewals_are : map pair_of (of_table 3 rows) ≡ entries_at renewal places helds
  renewals_are = table_is renewal 3 rows places helds ordered these.subscriptions.ascend these.subscriptions.renewals these.subscriptions.only_renewals

  few_requests : (row : StoredRow) → row.table ≡ 2 → length (filter is_any (up_to row rows)) ≤ most_subscriptions
  few_requests row own =
      let one = few_passing is_any (up_to row rows) in
      let two = few_passing (λ (other : StoredRow). not (is_gt (slice_cmp nat_cmp other.key row.key))) (of_table row.table rows) in
      let three_ = ap (λ t. length (of_table t rows)) own in
      let four_ = length-map (of_table 2 rows) pair_of in
      let five = ap length requests_are in
      let six = entries_few (λ s. Some (request s)) places helds in
      let seven = length-map old held_of in
      omega (arith, one, two, three_, four_, five, six, seven, few_held)

  one_request : (row : StoredRow) → row.table ≡ 2 → (s : Held) → row.text ≡ request s → Reads s → length (filter (is_of_same row) (up_to row rows)) ≤ 1
  one_request row own s text_is its =
      let g : List ℕ → Bool = λ text. are_same (said_of text) (said_of row.text) in
      let row_says : said_of row.text ≡ Some s.asked.subscription = ap said_of text_is ∙ said_is s its in
      let tells : All (λ r. g (request (held_of r)) ≡ is_of s.asked.subscription.subscriber s.asked.subscription.identifier r) old =
      all_map (λ r. Reads (held_of r)) (λ r. g (request (held_of r)) ≡ is_of s.asked.subscription.subscriber s.asked.subscription.identifier r)
      (λ r r_reads i. are_same (said_is (held_of r) r_reads i) (row_says i)) old (all_unmapped Reads held_of old reads) in
      let one = fewer_of (is_of_same row) (λ (other : StoredRow). not (is_gt (slice_cmp nat_cmp other.key row.key))) (of_table row.table rows) in
      let two = ap (λ t. length (filter (is_of_same row) (of_table t rows))) own in
      let three_ = long_paired g (of_table 2 rows) in
      let four_ = ap (λ es. length (filter (λ e. g e.1) es)) requests_are in
      let five = one_said g s.asked.subscription.subscriber s.asked.subscription.identifier places old once tells in
      omega (arith, one, two, three_, four_, five)

  no_bad_request : (row : StoredRow) → IsIn 2 rows row → is_bad_request rows row ≡ false
  no_bad_request row here =
      let among = these.subscriptions.only_requests row.key (subst IsSome (sym here.there) refl) in
      let its = one_beside IsAt Reads places helds row.key these.subscriptions.requests reads among in
      let text_is : row.text ≡ request its.0 = same_Some row.text (request its.0) (sym here.there ∙ its.1) in
      four (not (is_place row.key)) (is_none (request_in row)) (exceeds 1 (is_of_same row) row rows) (exceeds most_subscriptions is_any row rows)
      (ap not (one_of (λ place. is_place place ≡ true) places row.key these.subscriptions.digits among))
      (ap is_none (ap request_of_row text_is ∙ its.2.0))
      (le-ltb 1 (length (filter (is_of_same row) (up_to row rows))) (one_request row here.own its.0 text_is its.2))
      (le-ltb most_subscriptions (length (filter is_any (up_to row rows))) (few_requests row here.own))

  -- ---- rows of numbers

  abbrev renewal_at : List ℕ × List ℕ → Option Message
  renewal_at e = option_and_then (renewal_of_request e.1) (option_and_then request_of_row (text_at rows 2 e.0))

  renews : (place text : List ℕ) (s : Held) → IsAt place s → Reads s → renewal s ≡ Some text
      → renewal_at (place, text) ≡ Some (message.DataSupplyRequest (renewal_of s.asked.subscription s.number s.base))
  renews place text s there its is =
      ap (λ o. option_and_then (renewal_of_request text) (option_and_then request_of_row o)) there
      ∙ ap (option_and_then (renewal_of_request text)) its.0
      ∙ (λ i. option_and_then (λ x. renewal_of_row x (number_is s.asked s.base i) text) (first_is s.asked s.base i))
      ∙ its.1 text is

  no_bad_renewal : (row : StoredRow) → IsIn 3 rows row → is_none (renewal_in rows row) ≡ false
  no_bad_renewal row here =
      let its =
      one_beside (λ place s. IsAt place s × (text_at rows 3 place ≡ renewal s)) Reads places helds row.key
      (zip_both IsAt (λ place s. text_at rows 3 place ≡ renewal s) places helds these.subscriptions.requests these.subscriptions.renewals) reads
      (these.subscriptions.only_renewals row.key (subst IsSome (sym here.there) refl)) in
      ap is_none (renews row.key row.text its.0 its.1.0 its.2 (sym its.1.1 ∙ here.there))

  -- ---- no row is bad

  no_others : (row : StoredRow) → IsThere rows row → 3 < row.table → ⊥
  no_others row there above = none-some row.text (sym (these.no_more row.table row.key above) ∙ there)

  by_table : (row : StoredRow) → IsThere rows row → (a b c d : Bool) → (row.table == 0) ≡ a → (row.table == 1) ≡ b → (row.table == 2) ≡ c → (row.table == 3) ≡ d
      → cond a (is_bad_beginning row) (cond b (is_bad_item rows row) (cond c (is_bad_request rows row) (cond d (is_none (renewal_in rows row)) true))) ≡ false
  by_table row there true b c d is_a is_b is_c is_d = no_bad_beginning row (is_in 0 rows row (eqb-true row.table 0 is_a) there)
  by_table row there false true c d is_a is_b is_c is_d = no_bad_item row (is_in 1 rows row (eqb-true row.table 1 is_b) there)
  by_table row there false false true d is_a is_b is_c is_d = no_bad_request row (is_in 2 rows row (eqb-true row.table 2 is_c) there)
  by_table row there false false false true is_a is_b is_c is_d = no_bad_renewal row (is_in 3 rows row (eqb-true row.table 3 is_d) there)
  by_table row there false false false false is_a is_b is_c is_d =
      let not_a = eqb-false row.table 0 is_a in
      let not_b = eqb-false row.table 1 is_b in
      let not_c = eqb-false row.table 2 is_c in
      let not_d = eqb-false row.table 3 is_d in
      absurd (no_others row there (omega (arith, not_a, not_b, not_c, not_d)))

  none_bad : find (is_bad rows) rows ≡ None
  none_bad =
      none_found (is_bad rows) rows
      (all_map (IsThere rows) (λ row. is_bad rows row ≡ false)
      (λ row there. by_table row there (row.table == 0) (row.table == 1) (row.table == 2) (row.table == 3) refl refl refl refl) rows (all_there rows ordered))

  -- ---- what they say

  says_by : (rs : Rows) (text : List ℕ) → text_at rs 0 [] ≡ Some text → find (is_bad rs) rs ≡ None → began_in rs ≡ Some began
      → said rs ≡ Ok (SaysKept (kept_in rs began))
  unfolding said
  says_by [] text there none is = absurd (none-some text there)
  says_by (row ∷ rest) text there none is =
      let rs : Rows = row ∷ rest in
      let nowhere : RowPlace = (0, []) in
      let first : Result Said RowPlace = Err nowhere in
      (λ i. cond (is_none (there i)) first (said_unless (none i) rs))
      ∙ ap (λ o. ok_or (option_map (λ b. SaysKept (kept_in rs b)) o) nowhere) is

  pub says_kept : said rows ≡ Ok (SaysKept (kept_in rows began))
  says_kept = says_by rows (moment_row moment start name) these.moment_is none_bad began_is

  requests_of : (ps : List (List ℕ)) (list : List Held) → AllZip IsAt ps list → All Reads list
      → filter_map (λ e. request_of_row e.1) (entries_at (λ s. Some (request s)) ps list) ≡ map request_message list
  requests_of [] [] zip all = refl
  requests_of [] (s ∷ list) zip all = absurd zip
  requests_of (place ∷ ps) [] zip all = absurd zip
  requests_of (place ∷ ps) (s ∷ list) zip all = λ i. cons_option (all.0.0 i) (requests_of ps list zip.1 all.1 i)

  pub requests_said : filter_map request_in (of_table 2 rows) ≡ map request_message helds
  requests_said =
      paired (λ e. request_of_row e.1) (of_table 2 rows) ∙ ap (filter_map (λ e. request_of_row e.1)) requests_are
      ∙ requests_of places helds these.subscriptions.requests reads

  renewals_by : (place text : List ℕ) (s : Held) (m : Message) (pairs : List (List ℕ × List ℕ)) (more : List Message) (same : Bool)
      → (same ≡ false → renewal_at (place, text) ≡ Some m) → filter_map renewal_at pairs ≡ more
      → filter_map renewal_at (placed place (cond same None (Some text)) ++ pairs) ≡ cons_option (cond same None (Some m)) more
  renewals_by place text s m pairs more true says rest = rest
  renewals_by place text s m pairs more false says rest = λ i. cons_option (says refl i) (rest i)

  renewals_of : (ps : List (List ℕ)) (list : List Held) → AllZip IsAt ps list → All Reads list
      → filter_map renewal_at (entries_at renewal ps list) ≡ filter_map renewal_message list
  renewals_of [] [] zip all = refl
  renewals_of [] (s ∷ list) zip all = absurd zip
  renewals_of (place ∷ ps) [] zip all = absurd zip
  renewals_of (place ∷ ps) (s ∷ list) zip all =
      let m : Message = message.DataSupplyRequest (renewal_of s.asked.subscription s.number s.base) in
      renewals_by place (canonical m) s m (entries_at renewal ps list) (filter_map renewal_message list) (s.number == s.base)
      (λ apart. renews place (canonical m) s zip.0 all.0 (ap (λ b. cond b None (Some (canonical m))) apart))
      (renewals_of ps list zip.1 all.1)

  pub renewals_said : filter_map (renewal_in rows) (of_table 3 rows) ≡ filter_map renewal_message helds
  renewals_said =
      paired renewal_at (of_table 3 rows) ∙ ap (filter_map renewal_at) renewals_are ∙ renewals_of places helds these.subscriptions.requests reads
