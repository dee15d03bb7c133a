-- The rows of items: each says an item that is kept, they are as many as the kept items at most, and of those that aren't dead
-- no more are said than are live.
use Rattle.std.proofs.Common.{◌≡◌, ◌≤◌, ℕ, suc, ◌+◌, List, [], ◌∷◌, ◌++◌, length, map, filter, cond, Bool, true, false, ◌||◌, not, Option, None, Some, refl, ap, sym, ◌∙◌, subst, arith}
use Rattle.std.specs.Prelude.{◌==◌, IsSome, find, option_map}
use Rattle.std.specs.Cmp.{tied_itself}
use Rattle.std.specs.List.{AllByRecursion as All, IsDistinct, cons_option, filter_map, list_any}
use Rattle.std.specs.List.Sorted.{IsStrictlySortedBy}
use Rattle.std.specs.Option.{option_map_or}
use Rattle.std.specs.Ordering.{eq_by_cmp, is_eq}
use Rattle.std.specs.declared.cmp.Ordering.TheVariants.{Less}
use Rattle.std.proofs.lemmas.Cmp.{eq_by_cmp_equiv}
use Rattle.std.proofs.lemmas.List.{length-append}
use Rattle.std.proofs.lemmas.Map.Entries.{option_filter}
use Rattle.std.proofs.lemmas.Map.Steps.{length-le_from_keys}
use Rattle.std.proofs.lemmas.Option.{none-some, same_Some}
use Rattle.siri_records.specs.declared.item.Item.{Item}
use Rattle.siri_records.specs.declared.item.Item.TheVariants as item
use Rattle.siri_records.specs.declared.item.Service.{Service}
use Rattle.siri_records.specs.declared.item.Service.TheVariants as service
use Rattle.siri_records.specs.declared.key.Key.{Key}
use Rattle.siri_records.specs.declared.key.Key.TheVariants as key
use Rattle.siri_records.specs.Ends.{is_dead}
use Rattle.siri_records.specs.Keyed.{InOrder as InOrderOfKey, Items, item_of, living}
use Rattle.siri_records.specs.Keys.{key_of}
use Rattle.siri_records.specs.Order.{key_cmp, key_cmp_total}
use Rattle.siri_records.proofs.KeyLists.{one_key}
use Rattle.siri_outside.specs.declared.rows.StoredRow.{StoredRow}
use Rattle.siri_outside.specs.Rows.{InOrder, RowPlace, Rows, of_table, place_cmp, place_of, text_at}
use Rattle.siri_outside.proofs.Order.{order_kept, place_total}
use Rattle.siri_row_texts.specs.ItemRows.{item_text, key_text}
use Rattle.siri_row_texts.specs.Reading.{item_of_row}
use Rattle.siri_tables.proofs.TableLaws.{all_joined}
use Rattle.siri_wire.proofs.MessageValues.{all_map}
use Rattle.siri_keeping.specs.Keeping.{HasItems, IsProperKey}
use Rattle.siri_keeping.specs.Opening.{by_service, is_live_at, is_told_by, item_in}
use Rattle.siri_keeping.proofs.Feeding.{HasAll, IsKept, has}
use Rattle.siri_keeping.proofs.Found.{place_exact, tied_is}
use Rattle.siri_keeping.proofs.LiveItems.{alive, live_at}
use Rattle.siri_keeping.proofs.TableRows.{IsIn, all_in, all_passing}

-- what holds of all items with their keys holds of the one that is found
pub looked : (P : Key × Item → Type 0) (items : Items) (k : Key) (i : Item) → All P items → item_of items k ≡ Some i → P (k, i)
looked P [] k i all is = absurd (none-some i is)
looked P ((j, x) ∷ items) k i all is = by (looked P items k i all.1) (is_eq (key_cmp k j)) refl is
  where
    by : (item_of items k ≡ Some i → P (k, i)) → (b : Bool) → is_eq (key_cmp k j) ≡ b → cond b (Some x) (item_of items k) ≡ Some i → P (k, i)
    by later true tied e =
        let one : k ≡ j = one_key k j tied in
        let same : x ≡ i = same_Some x i e in
        subst P (λ n. (sym one n, same n)) all.0
    by later false apart e = later e

-- ---- rows of items

-- a row of table 1 says an item that is found under its key
pub record IsItemRow (found : Items) (row : StoredRow) : Type 0 where
  pub own : row.table ≡ 1
  pub item : Item
  pub says : item_in row ≡ Some item
  pub under : item_of found (key_of item) ≡ Some item
  pub key : row.key ≡ key_text (key_of item)

module _ (found : Items) where
  keys_in : (rows : Rows) → All (IsItemRow found) rows → List Key
  keys_in [] all = []
  keys_in (row ∷ rows) all = key_of all.0.item ∷ keys_in rows all.1

  long_as : (rows : Rows) (all : All (IsItemRow found) rows) → length (keys_in rows all) ≡ length rows
  unfolding keys_in
  long_as [] all = refl
  long_as (row ∷ rows) all = ap suc (long_as rows all.1)

  apart_by : (r q : StoredRow) (k j : Key) (b : Bool) → is_eq (key_cmp k j) ≡ b → r.table ≡ q.table → place_cmp (place_of r) (place_of q) ≡ Less
      → r.key ≡ key_text k → q.key ≡ key_text j → b ≡ false
  apart_by r q k j false is tables less at_r at_q = refl
  apart_by r q k j true is tables less at_r at_q =
      let one : k ≡ j = one_key k j is in
      let keys : r.key ≡ q.key = at_r ∙ ap key_text one ∙ sym at_q in
      let same : place_of r ≡ place_of q = λ n. (tables n, keys n) in
      cc (less, ap (place_cmp (place_of r)) (sym same) ∙ tied_itself place_total (place_of r))

  apart_all : (r : StoredRow) (k : Key) (rows : Rows) (all : All (IsItemRow found) rows) → r.table ≡ 1 → r.key ≡ key_text k
      → All (λ q. place_cmp (place_of r) q ≡ Less) (map place_of rows) → All (λ j. eq_by_cmp key_cmp k j ≡ false) (keys_in rows all)
  unfolding keys_in
  apart_all r k [] all own at_r below = tt
  apart_all r k (q ∷ rows) all own at_r below = (
    apart_by r q k (key_of all.0.item) (is_eq (key_cmp k (key_of all.0.item))) refl (own ∙ sym all.0.own) below.0 at_r all.0.key,
    apart_all r k rows all.1 own at_r below.1,
  )

  distinct : (rows : Rows) (all : All (IsItemRow found) rows) → InOrder rows → IsDistinct (eq_by_cmp key_cmp) (keys_in rows all)
  unfolding keys_in IsDistinct IsStrictlySortedBy
  distinct [] all s = tt
  distinct (row ∷ rows) all s = (apart_all row (key_of all.0.item) rows all.1 all.0.own all.0.key s.0, distinct rows all.1 s.1)

  in_found : (rows : Rows) (all : All (IsItemRow found) rows) (q : Key) → list_any (eq_by_cmp key_cmp q) (keys_in rows all) ≡ true → IsSome (item_of found q)
  unfolding keys_in
  in_found [] all q some = cc some
  in_found (row ∷ rows) all q some = by (in_found rows all.1 q) (is_eq (key_cmp q (key_of all.0.item))) refl some
    where
      by : (list_any (eq_by_cmp key_cmp q) (keys_in rows all.1) ≡ true → IsSome (item_of found q)) → (b : Bool) → is_eq (key_cmp q (key_of all.0.item)) ≡ b
          → (b || list_any (eq_by_cmp key_cmp q) (keys_in rows all.1)) ≡ true → IsSome (item_of found q)
      by later true tied e = subst IsSome (sym (ap (item_of found) (one_key q (key_of all.0.item) tied) ∙ all.0.under)) refl
      by later false apart e = later e

  -- rows of different items of these are as many as these at most
  pub few_items : (rows : Rows) → InOrder rows → All (IsItemRow found) rows → length rows ≤ length found
  few_items rows s all =
      subst (λ n. n ≤ length found) (long_as rows all)
      (length-le_from_keys (eq_by_cmp_equiv key_cmp_total) (keys_in rows all) found (distinct rows all s) (in_found rows all))

-- ---- what they say

has_more : (k : Key) (b : Bool) (i : Item) (es : List Item) → has k es ≡ true → has k (cond b (i ∷ es) es) ≡ true
has_more k false i es some = some
has_more k true i es some = or_true (is_eq (key_cmp k (key_of i))) some
  where
    or_true : (b : Bool) → has k es ≡ true → (b || has k es) ≡ true
    or_true true e = refl
    or_true false e = e

has_first : (k : Key) (i : Item) (es : List Item) → k ≡ key_of i → has k (i ∷ es) ≡ true
has_first k i es own = ap (λ b. b || has k es) (ap (λ q. is_eq (key_cmp k q)) (sym own) ∙ ap is_eq (tied_itself key_cmp_total k))

-- those that pass a test which all of a key pass
has_passing : (p : Item → Bool) (P : Item → Type 0) (k : Key) → ((j : Item) → k ≡ key_of j → P j → p j ≡ true) → (es : List Item) → All P es
    → has k es ≡ true → has k (filter p es) ≡ true
has_passing p P k passes [] all some = cc some
has_passing p P k passes (j ∷ es) all some = by (has_passing p P k passes es all.1) (is_eq (key_cmp k (key_of j))) refl some
  where
    by : (has k es ≡ true → has k (filter p es) ≡ true) → (b : Bool) → is_eq (key_cmp k (key_of j)) ≡ b → (b || has k es) ≡ true → has k (cond (p j) (j ∷ filter p es) (filter p es)) ≡ true
    by later true tied e =
        let own : k ≡ key_of j = one_key k (key_of j) tied in
        ap (λ b. has k (cond b (j ∷ filter p es) (filter p es))) (passes j own all.0) ∙ has_first k j (filter p es) own
    by later false apart e = has_more k (p j) j (filter p es) (later e)

has_left : (k : Key) (xs ys : List Item) → has k xs ≡ true → has k (xs ++ ys) ≡ true
has_left k [] ys some = cc some
has_left k (i ∷ xs) ys some = by (has_left k xs ys) (is_eq (key_cmp k (key_of i))) some
  where
    by : (has k xs ≡ true → has k (xs ++ ys) ≡ true) → (b : Bool) → (b || has k xs) ≡ true → (b || has k (xs ++ ys)) ≡ true
    by later true e = refl
    by later false e = later e

has_right : (k : Key) (xs ys : List Item) → has k ys ≡ true → has k (xs ++ ys) ≡ true
has_right k [] ys some = some
has_right k (i ∷ xs) ys some = has_more k true i (xs ++ ys) (has_right k xs ys some)

-- ---- service by service

teller_of : Key → Service
teller_of (key.Visit monitoring visit) = service.Stop
teller_of (key.Journey line direction frame journey) = service.Timetable
teller_of (key.Vehicle vehicle) = service.Vehicle
teller_of (key.Situation participant number) = service.Situation

told : (i : Item) → is_told_by (teller_of (key_of i)) i ≡ true
unfolding teller_of
told (item.Visit v) = refl
told (item.Journey j) = refl
told (item.Vehicle v) = refl
told (item.Situation s) = refl

all_true : {X : Type 0} (xs : List X) → All (λ x. Unit {0}) xs
all_true [] = tt
all_true (x ∷ xs) = (tt, all_true xs)

abbrev told_by : Service → List Item → List Item
told_by s es = filter (is_told_by s) es

has_by_service : (k : Key) (es : List Item) → has k es ≡ true → has k (by_service es) ≡ true
has_by_service k es some =
    by (teller_of k) (has_passing (is_told_by (teller_of k)) (λ i. Unit {0}) k (λ i own any. ap (λ q. is_told_by (teller_of q) i) own ∙ told i) es (all_true es) some)
  where
    by : (s : Service) → has k (told_by s es) ≡ true → has k (by_service es) ≡ true
    by service.Stop e =
        has_left k (told_by service.Stop es ++ told_by service.Timetable es ++ told_by service.Vehicle es) (told_by service.Situation es)
        (has_left k (told_by service.Stop es ++ told_by service.Timetable es) (told_by service.Vehicle es) (has_left k (told_by service.Stop es) (told_by service.Timetable es) e))
    by service.Timetable e =
        has_left k (told_by service.Stop es ++ told_by service.Timetable es ++ told_by service.Vehicle es) (told_by service.Situation es)
        (has_left k (told_by service.Stop es ++ told_by service.Timetable es) (told_by service.Vehicle es) (has_right k (told_by service.Stop es) (told_by service.Timetable es) e))
    by service.Vehicle e =
        has_left k (told_by service.Stop es ++ told_by service.Timetable es ++ told_by service.Vehicle es) (told_by service.Situation es)
        (has_right k (told_by service.Stop es ++ told_by service.Timetable es) (told_by service.Vehicle es) e)
    by service.Situation e = has_right k (told_by service.Stop es ++ told_by service.Timetable es ++ told_by service.Vehicle es) (told_by service.Situation es) e

all_by_service : (P : Item → Type 0) (es : List Item) → All P es → All P (by_service es)
all_by_service P es all =
    all_joined P (told_by service.Stop es ++ told_by service.Timetable es ++ told_by service.Vehicle es) (told_by service.Situation es)
    (all_joined P (told_by service.Stop es ++ told_by service.Timetable es) (told_by service.Vehicle es)
    (all_joined P (told_by service.Stop es) (told_by service.Timetable es) (passing service.Stop) (passing service.Timetable)) (passing service.Vehicle)) (passing service.Situation)
  where
    passing : (s : Service) → All P (told_by s es)
    passing s = all_passing (is_told_by s) P P (λ i is here. here) es all

abbrev count_of : Service → List Item → ℕ
count_of s es = length (filter (is_told_by s) es)

each_once : (es : List Item) → count_of service.Stop es + count_of service.Timetable es + count_of service.Vehicle es + count_of service.Situation es ≡ length es
each_once [] = refl
each_once (item.Visit v ∷ es) = omega (arith, each_once es)
each_once (item.Journey j ∷ es) = omega (arith, each_once es)
each_once (item.Vehicle v ∷ es) = omega (arith, each_once es)
each_once (item.Situation s ∷ es) = omega (arith, each_once es)

long_by_service : (es : List Item) → length (by_service es) ≡ length es
long_by_service es =
    let stops = filter (is_told_by service.Stop) es in
    let timetables = filter (is_told_by service.Timetable) es in
    let vehicles = filter (is_told_by service.Vehicle) es in
    let situations = filter (is_told_by service.Situation) es in
    let one = length-append (stops ++ timetables ++ vehicles) situations in
    let two = length-append (stops ++ timetables) vehicles in
    let three = length-append stops timetables in
    omega (arith, one, two, three, each_once es)

-- ---- of kept items

module _ (moment : ℕ) (kept : Items) (rows : Rows) (ordered : InOrder rows) (sorted : InOrderOfKey kept) (items : HasItems rows kept)
    (keyed : All (λ e. e.0 ≡ key_of e.1) kept) (proper : All (λ e. IsProperKey e.0) kept)
    (reads : All (λ e. item_of_row (key_text e.0) (item_text e.1) ≡ Some e.1) kept) where
  item_row_by : (row : StoredRow) (k : Key) → row.table ≡ 1 → row.key ≡ key_text k → (o : Option Item) → item_of kept k ≡ o
      → option_map item_text o ≡ Some row.text → IsItemRow kept row
  item_row_by row k own same None is text = absurd (none-some row.text text)
  item_row_by row k own same (Some i) is text =
      let written : item_text i ≡ row.text = same_Some (item_text i) row.text text in
      let key_is : k ≡ key_of i = looked (λ (e : Key × Item). e.0 ≡ key_of e.1) kept k i keyed is in
      let read = looked (λ (e : Key × Item). item_of_row (key_text e.0) (item_text e.1) ≡ Some e.1) kept k i reads is in
      record {
        own = own;
        item = i;
        says = (λ n. item_of_row (same n) (sym written n)) ∙ read;
        under = ap (item_of kept) (sym key_is) ∙ is;
        key = same ∙ ap key_text key_is;
      }

  pub item_row : (row : StoredRow) → IsIn 1 rows row → IsItemRow kept row
  item_row row here =
      let its = items.only row.key (subst IsSome (sym here.there) refl) in
      item_row_by row its.0 here.own its.2 (item_of kept its.0) refl
      (sym (items.each its.0 its.1) ∙ ap (text_at rows 1) (sym its.2) ∙ here.there)

  pub live_row : (row : StoredRow) → is_live_at moment row ≡ true → IsItemRow kept row → IsItemRow (living moment kept) row
  live_row row lives r =
      let lively : not (is_dead r.item moment) ≡ true = sym (ap (λ o. option_map_or (λ i. not (is_dead i moment)) o false) r.says) ∙ lives in
      let alone : option_filter (alive moment) (Some r.item) ≡ Some r.item = rw lively refl in
      record {
        own = r.own;
        item = r.item;
        says = r.says;
        under = live_at moment kept (key_of r.item) sorted ∙ ap (option_filter (alive moment)) r.under ∙ alone;
        key = r.key;
      }

  -- ---- the items that they say

  abbrev item_rows : Rows
  item_rows = of_table 1 rows

  abbrev said_items : List Item
  said_items = filter_map item_in item_rows

  all_rows : All (IsItemRow kept) item_rows
  all_rows = all_map (IsIn 1 rows) (IsItemRow kept) item_row item_rows (all_in 1 rows ordered)

  abbrev IsUnder : Item → Type 0
  IsUnder i = item_of kept (key_of i) ≡ Some i

  all_under : (rs : Rows) → All (IsItemRow kept) rs → All IsUnder (filter_map item_in rs)
  all_under [] all = tt
  all_under (row ∷ rs) all =
      subst (λ o. All IsUnder (cons_option o (filter_map item_in rs))) (sym all.0.says) (all.0.under, all_under rs all.1)

  abbrev live_said : List Item
  live_said = filter (λ i. not (is_dead i moment)) said_items

  not_dead : (b : Bool) → not b ≡ true → b ≡ false
  not_dead false e = refl
  not_dead true e = cc e

  pub all_kept : All (IsKept moment kept) (by_service live_said)
  all_kept =
      all_by_service (IsKept moment kept) live_said
      (all_passing (λ i. not (is_dead i moment)) IsUnder (IsKept moment kept)
      (λ i lives under. record { under = under; living_ = not_dead (is_dead i moment) lives }) said_items (all_under item_rows all_rows))

  -- ---- each kept item is said

  has_found : (k : Key) (i : Item) (place text : List ℕ) → item_of_row place text ≡ Some i → k ≡ key_of i → (rs : Rows) → text_at rs 1 place ≡ Some text
      → has k (filter_map item_in (of_table 1 rs)) ≡ true
  has_found k i place text read own [] there = absurd (none-some text there)
  has_found k i place text read own (row ∷ rs) there = by (has_found k i place text read own rs) (is_eq (place_cmp (place_of row) (1, place))) refl there
    where
      more : (o : Option Item) → has k (filter_map item_in (of_table 1 rs)) ≡ true → has k (cons_option o (filter_map item_in (of_table 1 rs))) ≡ true
      more None some = some
      more (Some j) some = has_more k true j (filter_map item_in (of_table 1 rs)) some

      or_more : (b : Bool) → has k (filter_map item_in (of_table 1 rs)) ≡ true → has k (filter_map item_in (cond b (row ∷ of_table 1 rs) (of_table 1 rs))) ≡ true
      or_more true some = more (item_in row) some
      or_more false some = some

      by : (text_at rs 1 place ≡ Some text → has k (filter_map item_in (of_table 1 rs)) ≡ true) → (b : Bool) → is_eq (place_cmp (place_of row) (1, place)) ≡ b
          → option_map (λ (r : StoredRow). r.text) (cond b (Some row) (find (λ (r : StoredRow). is_eq (place_cmp (place_of r) (1, place))) rs)) ≡ Some text
          → has k (filter_map item_in (cond (row.table == 1) (row ∷ of_table 1 rs) (of_table 1 rs))) ≡ true
      by later true tied e =
          let same : place_of row ≡ (1, place) = place_exact (place_of row) (1, place) (tied_is (place_cmp (place_of row) (1, place)) tied) in
          let text_is : row.text ≡ text = same_Some row.text text e in
          let says : item_in row ≡ Some i = (λ n. item_of_row (same n).1 (text_is n)) ∙ read in
          ap (λ (p : RowPlace). has k (filter_map item_in (cond (p.0 == 1) (row ∷ of_table 1 rs) (of_table 1 rs)))) same
          ∙ ap (λ o. has k (cons_option o (filter_map item_in (of_table 1 rs)))) says
          ∙ has_first k i (filter_map item_in (of_table 1 rs)) own
      by later false apart e = or_more (row.table == 1) (later e)

  has_said : (k : Key) (i : Item) → item_of kept k ≡ Some i → has k said_items ≡ true
  has_said k i is =
      has_found k i (key_text k) (item_text i)
      (looked (λ (e : Key × Item). item_of_row (key_text e.0) (item_text e.1) ≡ Some e.1) kept k i reads is)
      (looked (λ (e : Key × Item). e.0 ≡ key_of e.1) kept k i keyed is) rows
      (items.each k (looked (λ (e : Key × Item). IsProperKey e.0) kept k i proper is) ∙ ap (option_map item_text) is)

  pub has_all : HasAll moment kept (by_service live_said)
  has_all k i is lives =
      has_by_service k live_said
      (has_passing (λ j. not (is_dead j moment)) IsUnder k
      (λ j own under. ap (λ x. not (is_dead x moment)) (same_Some j i (sym under ∙ ap (item_of kept) (sym own) ∙ is)) ∙ ap not lives)
      said_items (all_under item_rows all_rows) (has_said k i is))

  -- ---- they are few

  long_live : (rs : Rows) → length (filter (λ i. not (is_dead i moment)) (filter_map item_in rs)) ≡ length (filter (is_live_at moment) rs)
  long_live [] = refl
  long_live (row ∷ rs) = by (item_in row) (long_live rs)
    where
      either : (b : Bool) (i : Item) (those : List Item) (their : Rows) → length those ≡ length their → length (cond b (i ∷ those) those) ≡ length (cond b (row ∷ their) their)
      either true i those their same = ap suc same
      either false i those their same = same

      by : (o : Option Item) → length (filter (λ i. not (is_dead i moment)) (filter_map item_in rs)) ≡ length (filter (is_live_at moment) rs)
          → length (filter (λ i. not (is_dead i moment)) (cons_option o (filter_map item_in rs)))
          ≡ length (cond (option_map_or (λ i. not (is_dead i moment)) o false) (row ∷ filter (is_live_at moment) rs) (filter (is_live_at moment) rs))
      by None same = same
      by (Some i) same = either (not (is_dead i moment)) i (filter (λ i. not (is_dead i moment)) (filter_map item_in rs)) (filter (is_live_at moment) rs) same

  pub few_live_rows : (rs : Rows) → InOrder rs → All (IsItemRow kept) rs → length (filter (is_live_at moment) rs) ≤ length (living moment kept)
  few_live_rows rs s all =
      few_items (living moment kept) (filter (is_live_at moment) rs) (order_kept (is_live_at moment) rs s)
      (all_passing (is_live_at moment) (IsItemRow kept) (IsItemRow (living moment kept)) live_row rs all)

  pub few_fed : length (by_service live_said) ≤ length (living moment kept)
  few_fed =
      let fewer = few_live_rows item_rows (order_kept (λ (row : StoredRow). row.table == 1) rows ordered) all_rows in
      let long = long_by_service live_said in
      let said = long_live item_rows in
      omega (arith, fewer, long, said)
