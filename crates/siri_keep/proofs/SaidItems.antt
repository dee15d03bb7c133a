-- The items of table 1: what is kept of them is what the rows have, and those that aren't dead are fed again.
use Rattle.std.proofs.Common.{◌≡◌, ◌≤◌, ◌⊎◌, ℕ, ◌+◌, List, [], ◌∷◌, ◌++◌, length, map, fold, Bool, true, false, cond, not, Option, None, Some, refl, sym, ap, ◌∙◌, subst, arith, inl, inr}
use Rattle.std.specs.Prelude.{option_map, is_none, ◌==◌}
use Rattle.std.specs.Cmp.{tied_itself}
use Rattle.std.specs.List.{AllByRecursion as All, Contains, cons_option, filter, filter_map}
use Rattle.std.specs.List.Sorted.{IsStrictlySortedBy}
use Rattle.std.specs.Ordering.{is_eq}
use Rattle.std.specs.declared.cmp.Ordering.TheVariants.{Less}
use Rattle.std.proofs.lemmas.Bool.{or_from, or_left, or_right}
use Rattle.std.proofs.lemmas.List.{length-append}
use Rattle.std.proofs.lemmas.List.Elements.{All-contains, Contains-append_left, Contains-append_right}
use Rattle.std.proofs.lemmas.Map.Entries.{option_filter}
use Rattle.std.proofs.lemmas.Option.{none-some, same_Some}
use Rattle.siri_records.specs.declared.item.Item.{Item}
use Rattle.siri_records.specs.declared.item.Item.TheVariants as item
use Rattle.siri_records.specs.declared.item.Service.TheVariants as service
use Rattle.siri_records.specs.declared.key.Key.{Key}
use Rattle.siri_records.specs.Ends.{is_dead}
use Rattle.siri_records.specs.Keyed.{InOrder, Items, KeyChange, apply, item_of, living, most_live}
use Rattle.siri_records.specs.Keys.{key_of}
use Rattle.siri_records.specs.Order.{key_cmp, key_cmp_total}
use Rattle.siri_records.proofs.KeyLists.{one_key}
use Rattle.siri_change.proofs.Leads.{order_applied}
use Rattle.siri_items.specs.Proper.{IsProper}
use Rattle.siri_model.specs.History.{Observed, after_entry}
use Rattle.siri_model.proofs.Entries.{sorted_inserted}
use Rattle.siri_model.proofs.InOrder.{none_in_order}
use Rattle.siri_outside.specs.declared.rows.StoredRow.{StoredRow}
use Rattle.siri_outside.specs.Rows.{InOrder as RowsInOrder, RowPlace, Rows, of_table, place_cmp, place_of, text_at}
use Rattle.siri_outside.proofs.Order.{place_total}
use Rattle.siri_row_texts.specs.ItemRows.{item_text, key_text}
use Rattle.siri_row_texts.specs.Reading.{item_of_row}
use Rattle.siri_row_texts.proofs.Rows.{read_row_says}
use Rattle.siri_keeping.specs.Keeping.{Covers, IsProperKey}
use Rattle.siri_keeping.specs.Opening.{by_service, is_told_by, item_in}
use Rattle.siri_keeping.proofs.Feeding.{HasAll, IsKept, fed_items, has, latest, latest_none, looked_up, one_longer, with_one}
use Rattle.siri_keeping.proofs.Found.{find_kept, place_exact, tied_is}
use Rattle.siri_keeping.proofs.Kept.{texts_differ}
use Rattle.siri_keeping.proofs.LiveItems.{alive, live_at}
use Rattle.siri_keeping.proofs.ReadProper.{key_is_proper, read_item_proper}
use Rattle.siri_keeping.proofs.Written.{first_or, here, later}
use Rattle.siri_keep.proofs.Alls.{all_filtered, all_weaker, each_of_all}
use Rattle.siri_keep.proofs.Cleaned.{all_by_items}
use Rattle.siri_keep.proofs.Fed.{ReadsItem, all_appended}
use Rattle.siri_keep.proofs.SaidRows.{all_passing, among_passing}
use Rattle.siri_keep.proofs.Written.{dead_or, passed, passes}

-- ---- rows and items

-- the row of an item
abbrev pub item_row : Item → StoredRow
item_row i = record { table = 1; key = key_text (key_of i); text = item_text i }

-- an item that was read of its row
pub record ReadItem (i : Item) : Type 0 where
  pub proper : IsProper i
  pub read : item_of_row (key_text (key_of i)) (item_text i) ≡ Some i

row_read : (row : StoredRow) (i : Item) → item_in row ≡ Some i → ReadItem i
row_read row i at =
    let says = read_row_says row.key row.text i at in
    record {
      proper = read_item_proper row.key row.text i at;
      read = subst (λ key. item_of_row key (item_text i) ≡ Some i) says.1
          (subst (λ text. item_of_row row.key text ≡ Some i) says.0 at);
    }

given_at : {X Y : Type 0} (P : Y → Type 0) (f : X → Option Y) (x : X) (o : Option Y) (ys : List Y) → f x ≡ o
    → ((y : Y) → f x ≡ Some y → P y) → All P ys → All P (cons_option o ys)
given_at P f x None ys at gives rest = rest
given_at P f x (Some y) ys at gives rest = (gives y at, rest)

-- what each has that some are mapped to
pub all_given : {X Y : Type 0} (P : Y → Type 0) (f : X → Option Y) → ((x : X) (y : Y) → f x ≡ Some y → P y) → (xs : List X)
    → All P (filter_map f xs)
all_given P f gives [] = tt
all_given P f gives (x ∷ xs) = given_at P f x (f x) (filter_map f xs) refl (gives x) (all_given P f gives xs)

-- all that are read of some rows
pub all_read : (rows : Rows) → All ReadItem (filter_map item_in rows)
all_read rows = all_given ReadItem item_in row_read rows

row_of_item : (row : StoredRow) (rest : Rows) (o : Option Item) → item_in row ≡ o → row.table ≡ 1 → is_none o ≡ false
    → rest ≡ map item_row (filter_map item_in rest) → row ∷ rest ≡ map item_row (cons_option o (filter_map item_in rest))
row_of_item row rest None at table some same = absurd (cc some)
row_of_item row rest (Some i) at table some same =
    let says = read_row_says row.key row.text i at in
    let one : row ≡ item_row i = λ k. record { table = table k; key = says.1 k; text = says.0 k } in
    λ k. one k ∷ same k

-- rows that items are read of are the rows of these
pub rows_of_items : (rows : Rows) → All (λ row. (row.table ≡ 1) × (is_none (item_in row) ≡ false)) rows
    → rows ≡ map item_row (filter_map item_in rows)
rows_of_items [] all = refl
rows_of_items (row ∷ rest) all = row_of_item row rest (item_in row) refl all.0.0 all.0.1 (rows_of_items rest all.1)

-- ---- each key once

abbrev pub AreApart : List Item → Type 0
AreApart [] = Unit {0}
AreApart (i ∷ items) = (has (key_of i) items ≡ false) × AreApart items

abbrev row_place : Key → RowPlace
row_place k = (1, key_text k)

apart_keys : (k j : Key) (b : Bool) → is_eq (key_cmp k j) ≡ b → place_cmp (row_place k) (row_place j) ≡ Less → b ≡ false
apart_keys k j true is less =
    let same : k ≡ j = one_key k j is in
    let tied : is_eq (place_cmp (row_place k) (row_place j)) ≡ true =
    ap (λ x. is_eq (place_cmp (row_place k) (row_place x))) (sym same) ∙ ap is_eq (tied_itself place_total (row_place k)) in
    absurd (cc (tied, ap is_eq less))
apart_keys k j false is less = refl

none_behind : (i : Item) (items : List Item)
    → All (λ place. place_cmp (place_of (item_row i)) place ≡ Less) (map place_of (map item_row items)) → has (key_of i) items ≡ false
none_behind i [] behind = refl
none_behind i (j ∷ items) behind =
    or_from (is_eq (key_cmp (key_of i) (key_of j))) (has (key_of i) items)
    (apart_keys (key_of i) (key_of j) (is_eq (key_cmp (key_of i) (key_of j))) refl behind.0) (none_behind i items behind.1)

-- rows in order are of items of which no two have one key
pub apart_in_order : (items : List Item) → RowsInOrder (map item_row items) → AreApart items
unfolding IsStrictlySortedBy
apart_in_order [] s = tt
apart_in_order (i ∷ items) s = (none_behind i items s.0, apart_in_order items s.1)

-- ---- what is kept of items

abbrev pub change : Item → KeyChange
change i = (key_of i, Some i)

abbrev pub kept_of : List Item → Items
kept_of items = apply [] (map change items)

one_by_one : (items : List Item) (m : Items) → apply m (map change items) ≡ fold with_one m items
one_by_one [] m = refl
one_by_one (i ∷ items) m = one_by_one items (with_one m i)

kept_at : (k : Key) (items : List Item) → item_of (kept_of items) k ≡ latest k None items
kept_at k items = ap (λ m. item_of m k) (one_by_one items []) ∙ looked_up k items []

few_more : (items : List Item) (m : Items) → InOrder m → length (apply m (map change items)) ≤ length m + length items
few_more [] m s = omega arith
few_more (i ∷ items) m s =
    let rest = few_more items (with_one m i) (sorted_inserted key_cmp_total (key_of i) i m s) in
    let one = one_longer m i s in
    omega (arith, rest, one)

pub few_kept : (items : List Item) → length (kept_of items) ≤ length items
few_kept items = let few = few_more items [] none_in_order in omega (arith, few)

pub kept_in_order : (items : List Item) → InOrder (kept_of items)
kept_in_order items = order_applied [] (map change items) none_in_order

latest_own : (i : Item) (items : List Item) → has (key_of i) items ≡ false
    → (held : Option Item) → latest (key_of i) held (i ∷ items) ≡ Some i
latest_own i items none held =
    ap (λ b. latest (key_of i) (cond b (Some i) held) items) (ap is_eq (tied_itself key_cmp_total (key_of i)))
    ∙ latest_none (key_of i) items (Some i) none

-- each item is the one that is kept under its key
latest_each : (items : List Item) → AreApart items → All (λ i. (held : Option Item) → latest (key_of i) held items ≡ Some i) items
latest_each [] apart = tt
latest_each (i ∷ items) apart = (
  latest_own i items apart.0,
  all_weaker (λ j. (held : Option Item) → latest (key_of j) held items ≡ Some j)
      (λ j. (held : Option Item) → latest (key_of j) held (i ∷ items) ≡ Some j)
      (λ j is held. is (cond (is_eq (key_cmp (key_of j) (key_of i))) (Some i) held)) items (latest_each items apart.1),
)

pub own_kept : (items : List Item) → AreApart items → All (λ i. item_of (kept_of items) (key_of i) ≡ Some i) items
own_kept items apart = all_weaker (λ i. (held : Option Item) → latest (key_of i) held items ≡ Some i)
    (λ i. item_of (kept_of items) (key_of i) ≡ Some i) (λ i is. kept_at (key_of i) items ∙ is None) items (latest_each items apart)

found_here : (k : Key) (i j : Item) (items : List Item) (held : Option Item) (b : Bool) → is_eq (key_cmp k (key_of j)) ≡ b
    → cond b (Some j) held ≡ Some i → (held ≡ Some i) ⊎ ((k ≡ key_of i) × Contains (j ∷ items) i)
found_here k i j items held true is there =
    let same : j ≡ i = same_Some j i there in
    inr (one_key k (key_of j) is ∙ ap key_of same, subst (Contains (j ∷ items)) same (here j items))
found_here k i j items held false is there = inl there

found_in : (k : Key) (i : Item) (items : List Item) (held : Option Item) → latest k held items ≡ Some i
    → (held ≡ Some i) ⊎ ((k ≡ key_of i) × Contains items i)
found_in k i [] held at = inl at
found_in k i (j ∷ items) held at = elim (found_in k i items (cond (is_eq (key_cmp k (key_of j))) (Some j) held) at) [
  | inl there ↦ found_here k i j items held (is_eq (key_cmp k (key_of j))) refl there
  | inr more ↦ inr (more.0, later j i items more.1)
]

-- what is kept under a key is one of the items, which has that key
pub one_of : (k : Key) (i : Item) (items : List Item) → item_of (kept_of items) k ≡ Some i → (k ≡ key_of i) × Contains items i
one_of k i items at = elim (found_in k i items None (sym (kept_at k items) ∙ at)) [
  | inl none ↦ absurd (none-some i none)
  | inr is ↦ is
]

-- all that is kept is read back
pub kept_reads : (items : List Item) → All ReadItem items → All ReadsItem (kept_of items)
kept_reads items all = all_by_items ReadsItem (kept_of items) (kept_in_order items) (λ k i at.
    let is = one_of k i items at in
    let read = All-contains ReadItem items i (each_of_all ReadItem items all) is.1 in
    subst (λ x. ReadsItem (x, i)) (sym is.0) (record { keyed = refl; proper = key_is_proper i read.proper; read = read.read }))

-- ---- the rows of what is kept

tied_place : (k : Key) (i : Item) → k ≡ key_of i → is_eq (place_cmp (row_place (key_of i)) (row_place k)) ≡ true
tied_place k i same =
    ap (λ x. is_eq (place_cmp (row_place x) (row_place k))) (sym same) ∙ ap is_eq (tied_itself place_total (row_place k))

apart_place : (k : Key) (i : Item) → IsProperKey k → IsProperKey (key_of i) → is_eq (key_cmp k (key_of i)) ≡ false
    → (c : Bool) → is_eq (place_cmp (row_place (key_of i)) (row_place k)) ≡ c → c ≡ false
apart_place k i p q apart true is =
    let place : row_place (key_of i) ≡ row_place k =
    place_exact (row_place (key_of i)) (row_place k) (tied_is (place_cmp (row_place (key_of i)) (row_place k)) is) in
    let same : key_of i ≡ k = texts_differ (key_of i) k q p (ap (λ (x : RowPlace). x.1) place) in
    absurd (cc (ap (λ x. is_eq (key_cmp k x)) same ∙ ap is_eq (tied_itself key_cmp_total k), apart))
apart_place k i p q apart false is = refl

abbrev text_in : List Item → Key → Option (List ℕ)
text_in items k = text_at (map item_row items) 1 (key_text k)

text_here : (k : Key) (i : Item) (items : List Item) → IsProperKey k → IsProperKey (key_of i) → has (key_of i) items ≡ false
    → (b : Bool) → is_eq (key_cmp k (key_of i)) ≡ b → text_in items k ≡ option_map item_text (latest k None items)
    → text_in (i ∷ items) k ≡ option_map item_text (latest k None (i ∷ items))
text_here k i items p q none true is rest =
    let same : k ≡ key_of i = one_key k (key_of i) is in
    let mine : latest k (Some i) items ≡ Some i = latest_none k items (Some i) (subst (λ x. has x items ≡ false) (sym same) none) in
    rw (tied_place k i same, is, mine) refl
text_here k i items p q none false is rest =
    rw (apart_place k i p q is (is_eq (place_cmp (row_place (key_of i)) (row_place k))) refl, is) rest

text_of : (k : Key) (items : List Item) → IsProperKey k → All ReadItem items → AreApart items
    → text_in items k ≡ option_map item_text (latest k None items)
text_of k [] p all apart = refl
text_of k (i ∷ items) p all apart =
    text_here k i items p (key_is_proper i all.0.proper) apart.0 (is_eq (key_cmp k (key_of i))) refl (text_of k items p all.1 apart.1)

-- the rows of a table have what is found in it
pub text_tabled : (key : List ℕ) (rows : Rows) → text_at (of_table 1 rows) 1 key ≡ text_at rows 1 key
text_tabled key rows = ap (option_map (λ (row : StoredRow). row.text))
    (find_kept (λ row. is_eq (place_cmp (place_of row) (1, key))) (λ row. row.table == 1)
    (λ row tied. ap (λ (place : RowPlace). place.0 == 1) (place_exact (place_of row) (1, key) (tied_is (place_cmp (place_of row) (1, key)) tied))) rows)

pub each_text : (rows : Rows) (items : List Item) → of_table 1 rows ≡ map item_row items → All ReadItem items → AreApart items
    → (k : Key) → IsProperKey k → text_at rows 1 (key_text k) ≡ option_map item_text (item_of (kept_of items) k)
each_text rows items are all apart k p =
    sym (text_tabled (key_text k) rows)
    ∙ ap (λ (r : Rows). text_at r 1 (key_text k)) are
    ∙ text_of k items p all apart
    ∙ ap (option_map item_text) (sym (kept_at k items))

pub key_of_text : (key text : List ℕ) (o : Option Item) → item_of_row key text ≡ o → is_none o ≡ false
    → (k : Key) × IsProperKey k × (key ≡ key_text k)
key_of_text key text None at some = absurd (cc some)
key_of_text key text (Some i) at some =
    (key_of i, key_is_proper i (read_item_proper key text i at), (read_row_says key text i at).1)

-- ---- those that aren't dead

not_dead : (i : Item) (m : ℕ) (b : Bool) → is_dead i m ≡ b → not (is_dead i m) ≡ true → is_dead i m ≡ false
not_dead i m true is alive_ = absurd (cc (is, alive_))
not_dead i m false is alive_ = is

-- the items of a delivery have what all have
pub all_served : (P : Item → Type 0) (items : List Item) → All P items → All P (by_service items)
all_served P items all =
    let stops = filter (is_told_by service.Stop) items in
    let timetables = filter (is_told_by service.Timetable) items in
    let vehicles = filter (is_told_by service.Vehicle) items in
    let situations = filter (is_told_by service.Situation) items in
    all_appended P (stops ++ timetables ++ vehicles) situations
    (all_appended P (stops ++ timetables) vehicles
    (all_appended P stops timetables
    (all_filtered P (is_told_by service.Stop) items all) (all_filtered P (is_told_by service.Timetable) items all))
    (all_filtered P (is_told_by service.Vehicle) items all)) (all_filtered P (is_told_by service.Situation) items all)

served : (items : List Item) (i : Item) → Contains items i → Contains (by_service items) i
served items (item.Visit v) there =
    let i : Item = item.Visit v in
    let stops = filter (is_told_by service.Stop) items in
    let timetables = filter (is_told_by service.Timetable) items in
    let vehicles = filter (is_told_by service.Vehicle) items in
    let situations = filter (is_told_by service.Situation) items in
    Contains-append_left (stops ++ timetables ++ vehicles) situations i
    (Contains-append_left (stops ++ timetables) vehicles i
    (Contains-append_left stops timetables i (among_passing (is_told_by service.Stop) items i there refl)))
served items (item.Journey j) there =
    let i : Item = item.Journey j in
    let stops = filter (is_told_by service.Stop) items in
    let timetables = filter (is_told_by service.Timetable) items in
    let vehicles = filter (is_told_by service.Vehicle) items in
    let situations = filter (is_told_by service.Situation) items in
    Contains-append_left (stops ++ timetables ++ vehicles) situations i
    (Contains-append_left (stops ++ timetables) vehicles i
    (Contains-append_right stops timetables i (among_passing (is_told_by service.Timetable) items i there refl)))
served items (item.Vehicle v) there =
    let i : Item = item.Vehicle v in
    let stops = filter (is_told_by service.Stop) items in
    let timetables = filter (is_told_by service.Timetable) items in
    let vehicles = filter (is_told_by service.Vehicle) items in
    let situations = filter (is_told_by service.Situation) items in
    Contains-append_left (stops ++ timetables ++ vehicles) situations i
    (Contains-append_right (stops ++ timetables) vehicles i (among_passing (is_told_by service.Vehicle) items i there refl))
served items (item.Situation s) there =
    let i : Item = item.Situation s in
    let stops = filter (is_told_by service.Stop) items in
    let timetables = filter (is_told_by service.Timetable) items in
    let vehicles = filter (is_told_by service.Vehicle) items in
    let situations = filter (is_told_by service.Situation) items in
    Contains-append_right (stops ++ timetables ++ vehicles) situations i (among_passing (is_told_by service.Situation) items i there refl)

long_four : (a b c d : List Item) → length (a ++ b ++ c ++ d) ≡ length a + length b + length c + length d
long_four a b c d =
    let one = length-append (a ++ b ++ c) d in
    let two = length-append (a ++ b) c in
    let three = length-append a b in
    omega (arith, one, two, three)

abbrev told : List Item → ℕ
told items =
    length (filter (is_told_by service.Stop) items) + length (filter (is_told_by service.Timetable) items)
    + length (filter (is_told_by service.Vehicle) items) + length (filter (is_told_by service.Situation) items)

told_once : (items : List Item) → told items ≤ length items
told_once [] = omega arith
told_once (item.Visit v ∷ items) = let rest = told_once items in omega (arith, rest)
told_once (item.Journey j ∷ items) = let rest = told_once items in omega (arith, rest)
told_once (item.Vehicle v ∷ items) = let rest = told_once items in omega (arith, rest)
told_once (item.Situation s ∷ items) = let rest = told_once items in omega (arith, rest)

pub few_served : (items : List Item) → length (by_service items) ≤ length items
few_served items =
    let all = long_four (filter (is_told_by service.Stop) items) (filter (is_told_by service.Timetable) items)
    (filter (is_told_by service.Vehicle) items) (filter (is_told_by service.Situation) items) in
    let once = told_once items in
    omega (arith, all, once)

has_one : (items : List Item) (i : Item) → Contains items i → has (key_of i) items ≡ true
has_one [] i there = absurd (omega (arith, there.1))
has_one (j ∷ items) i there = elim (first_or j i items there) [
  | inl same ↦ or_left (is_eq (key_cmp (key_of i) (key_of j))) (has (key_of i) items)
      (ap (λ x. is_eq (key_cmp (key_of i) (key_of x))) same ∙ ap is_eq (tied_itself key_cmp_total (key_of i)))
  | inr more ↦ or_right (is_eq (key_cmp (key_of i) (key_of j))) (has (key_of i) items) (has_one items i more)
]

-- a feed of those that aren't dead at a moment, in the order of one delivery, leaves those of what is kept that aren't
pub fed_again : (now m : ℕ) (items : List Item) → AreApart items → length (filter (alive m) items) ≤ most_live
    → fold (after_entry now) [] (map Observed (by_service (filter (alive m) items))) ≡ living m (kept_of items)
fed_again now m items apart few =
    let live = filter (alive m) items in
    let kept = kept_of items in
    let few_ : length (by_service live) ≤ most_live = let less = few_served live in omega (arith, less, few) in
    let each : All (IsKept m kept) live = all_passing (λ i. item_of kept (key_of i) ≡ Some i) (IsKept m kept) (alive m)
    (λ i passes_ own. record { under = own; living_ = not_dead i m (is_dead i m) refl passes_ }) items (own_kept items apart) in
    let every : HasAll m kept (by_service live) = λ k i at alive_.
    let is = one_of k i items at in
    subst (λ x. has x (by_service live) ≡ true) (sym is.0)
    (has_one (by_service live) i (served live i (among_passing (alive m) items i is.1 (ap not alive_)))) in
    fed_items m kept now (by_service live) (kept_in_order items) few_ (all_served (IsKept m kept) live each) every

-- what isn't dead of what is kept is covered by it
pub covers_own : (m : ℕ) (kept : Items) → InOrder kept → Covers m (living m kept) kept
covers_own m kept s = record {
  has_live = λ k i at. (passed (alive m) (item_of kept k) i (sym (live_at m kept k s) ∙ at)).0;
  rest_dead = λ k i at. elim (dead_or i m (is_dead i m) refl) [
    | inl dead ↦ inr dead
    | inr alive_ ↦ inl (live_at m kept k s ∙ ap (option_filter (alive m)) at ∙ passes m i alive_)
  ];
}
