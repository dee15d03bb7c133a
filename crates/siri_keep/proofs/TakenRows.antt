-- What rows come to with one more.
use Rattle.std.proofs.Common.{◌≡◌, ◌⊎◌, ◌<◌, ◌≤◌, ℕ, ◌+◌, List, [], ◌∷◌, ◌++◌, length, map, find, Bool, true, false, cond, ◌||◌, not, Option, None, Some, refl, sym, ap, ◌∙◌, subst, inl}
use Rattle.std.proofs.Common.{inr, arith, append-nil}
use Rattle.std.specs.Prelude.{◌==◌, is_none, option_map, if◌then◌else◌}
use Rattle.std.specs.List.{AllByRecursion as All, filter, filter_map}
use Rattle.std.specs.Option.{option_and_then, option_or}
use Rattle.std.specs.Cmp.Lexicographic.{slice_cmp}
use Rattle.std.specs.Ordering.{nat_cmp}
use Rattle.std.specs.declared.cmp.Ordering.TheVariants.{Less}
use Rattle.std.proofs.lemmas.Bool.{cases_eq, eq-eqb, ne_eqb}
use Rattle.std.proofs.lemmas.List.{length_push, map-append}
use Rattle.std.proofs.lemmas.List.Elements.{filter-append, filter_map-append}
use Rattle.std.proofs.lemmas.List.Folds.{find-append}
use Rattle.std.proofs.lemmas.List.Sums.{fold-append}
use Rattle.siri_records.specs.declared.item.Item.{Item}
use Rattle.siri_records.specs.declared.item.Item.TheVariants as item
use Rattle.siri_records.specs.declared.item.Service.TheVariants as service
use Rattle.siri_records.specs.Ends.{is_dead}
use Rattle.siri_records.specs.Keyed.{after_change, apply, with_item}
use Rattle.siri_records.specs.Keys.{key_of}
use Rattle.siri_messages.specs.declared.message.Message.{Message}
use Rattle.siri_row_texts.specs.Reading.{began_of_row, item_of_row, request_of_row}
use Rattle.siri_outside.specs.declared.rows.StoredRow.{StoredRow}
use Rattle.siri_outside.specs.Rows.{InOrder, Rows, of_table, place_cmp, place_of, row_of}
use Rattle.siri_keeping.specs.Opening.{is_bad, is_bad_beginning, is_bad_item, is_bad_request, is_live_at, is_told_by, item_in, renewal_in, request_in}
use Rattle.siri_keep.specs.declared.by_service.ByService.{ByService}
use Rattle.siri_keep.specs.declared.opening.KeptRequest.{KeptRequest}
use Rattle.siri_keep.specs.declared.rows_read.RowsRead.{RowsRead}
use Rattle.siri_keep.specs.RowByRow.{HasRead, Taken, TellsLive, all_of, has_place, has_room, if_place, if_room, not_dead_at, renewal_at, request_under_key, taken, under_key, with_kept}
use Rattle.siri_keep.specs.RowByRow.{with_one, with_renewal, with_request}
use Rattle.siri_keep.proofs.Ahead.{all_rows, less_parts, table_le, those_before, those_behind}
use Rattle.siri_keep.proofs.BadRows.{bad_item, bad_no_item, bad_no_request, bad_renewal, bad_request, kind, live_of, renewal_is}

-- ---- rows of a table with one more

pub of_own : (t : ℕ) (prior : Rows) (row : StoredRow) → row.table ≡ t → of_table t (prior ++ row ∷ []) ≡ of_table t prior ++ row ∷ []
of_own t prior row mine =
    filter-append (λ x. x.table == t) prior (row ∷ [])
    ∙ ap (λ b. of_table t prior ++ cond b (row ∷ []) []) (eq-eqb row.table t mine)

pub of_other : (t : ℕ) (prior : Rows) (row : StoredRow) → (row.table == t) ≡ false → of_table t (prior ++ row ∷ []) ≡ of_table t prior
of_other t prior row other =
    filter-append (λ x. x.table == t) prior (row ∷ [])
    ∙ ap (λ b. of_table t prior ++ cond b (row ∷ []) []) other
    ∙ append-nil (of_table t prior)

mapped_one : {X Y : Type 0} (f : X → Option Y) (xs : List X) (x : X) (y : Y) → f x ≡ Some y
    → filter_map f (xs ++ x ∷ []) ≡ filter_map f xs ++ y ∷ []
mapped_one f xs x y is = filter_map-append f xs (x ∷ []) ∙ ap (λ l. filter_map f xs ++ l) (one is)
  where
    one : f x ≡ Some y → filter_map f (x ∷ []) ≡ y ∷ []
    one h = rw h refl

kept_one : {X : Type 0} (p : X → Bool) (xs : List X) (x : X) → p x ≡ true → filter p (xs ++ x ∷ []) ≡ filter p xs ++ x ∷ []
kept_one p xs x h = filter-append p xs (x ∷ []) ∙ ap (λ b. filter p xs ++ cond b (x ∷ []) []) h

left_one : {X : Type 0} (p : X → Bool) (xs : List X) (x : X) → p x ≡ false → filter p (xs ++ x ∷ []) ≡ filter p xs
left_one p xs x h = filter-append p xs (x ∷ []) ∙ ap (λ b. filter p xs ++ cond b (x ∷ []) []) h ∙ append-nil (filter p xs)

-- ---- items

tells_more : (live : ByService) (items : List Item) (i : Item) → TellsLive live items → TellsLive (with_one live i) (items ++ i ∷ [])
tells_more live items (item.Visit v) t = record {
  visits = ap (λ l. l ++ item.Visit v ∷ []) t.visits ∙ sym (kept_one (is_told_by service.Stop) items (item.Visit v) refl);
  journeys = t.journeys ∙ sym (left_one (is_told_by service.Timetable) items (item.Visit v) refl);
  vehicles = t.vehicles ∙ sym (left_one (is_told_by service.Vehicle) items (item.Visit v) refl);
  situations = t.situations ∙ sym (left_one (is_told_by service.Situation) items (item.Visit v) refl);
}
tells_more live items (item.Journey j) t = record {
  visits = t.visits ∙ sym (left_one (is_told_by service.Stop) items (item.Journey j) refl);
  journeys = ap (λ l. l ++ item.Journey j ∷ []) t.journeys ∙ sym (kept_one (is_told_by service.Timetable) items (item.Journey j) refl);
  vehicles = t.vehicles ∙ sym (left_one (is_told_by service.Vehicle) items (item.Journey j) refl);
  situations = t.situations ∙ sym (left_one (is_told_by service.Situation) items (item.Journey j) refl);
}
tells_more live items (item.Vehicle v) t = record {
  visits = t.visits ∙ sym (left_one (is_told_by service.Stop) items (item.Vehicle v) refl);
  journeys = t.journeys ∙ sym (left_one (is_told_by service.Timetable) items (item.Vehicle v) refl);
  vehicles = ap (λ l. l ++ item.Vehicle v ∷ []) t.vehicles ∙ sym (kept_one (is_told_by service.Vehicle) items (item.Vehicle v) refl);
  situations = t.situations ∙ sym (left_one (is_told_by service.Situation) items (item.Vehicle v) refl);
}
tells_more live items (item.Situation s) t = record {
  visits = t.visits ∙ sym (left_one (is_told_by service.Stop) items (item.Situation s) refl);
  journeys = t.journeys ∙ sym (left_one (is_told_by service.Timetable) items (item.Situation s) refl);
  vehicles = t.vehicles ∙ sym (left_one (is_told_by service.Vehicle) items (item.Situation s) refl);
  situations = ap (λ l. l ++ item.Situation s ∷ []) t.situations
      ∙ sym (kept_one (is_told_by service.Situation) items (item.Situation s) refl);
}

all_more : (items : List Item) (i : Item) → all_of (items ++ i ∷ []) ≡ with_item (all_of items) (key_of i, i)
all_more items i =
    ap (λ l. apply [] l) (map-append (λ j. (key_of j, Some j)) items (i ∷ []))
    ∙ fold-append after_change [] (map (λ j. (key_of j, Some j)) items) ((key_of i, Some i) ∷ [])

-- what was read of live items, and what is with one more, dead or not
abbrev with_if : Bool → RowsRead → Item → RowsRead
with_if dead read i = if dead then read else record read { living = read.living + 1; live = with_one read.live i }

module _ (rows : Rows) (row : StoredRow) (read : RowsRead) (i : Item) (is : item_in row ≡ Some i) (has : HasRead rows read) where
  items_more : filter_map item_in (rows ++ row ∷ []) ≡ filter_map item_in rows ++ i ∷ []
  items_more = mapped_one item_in rows row i is

  all_with : with_item read.all (key_of i, i) ≡ all_of (filter_map item_in (rows ++ row ∷ []))
  all_with =
      ap (λ all. with_item all (key_of i, i)) has.all
      ∙ sym (all_more (filter_map item_in rows) i)
      ∙ sym (ap all_of items_more)

  count_with : read.count + 1 ≡ length (rows ++ row ∷ [])
  count_with = ap (λ n. n + 1) has.count ∙ sym (length_push rows row)

  has_with : (dead : Bool) → is_dead i read.began.moment ≡ dead
      → HasRead (rows ++ row ∷ []) (record (with_if dead read i) { count = read.count + 1; all = with_item read.all (key_of i, i) })
  has_with true h =
      let m = read.began.moment in
      let not_live : is_live_at m row ≡ false = live_of m row i is ∙ ap not h in
      let same : filter (not_dead_at m) (filter_map item_in (rows ++ row ∷ [])) ≡ filter (not_dead_at m) (filter_map item_in rows) =
      ap (filter (not_dead_at m)) items_more ∙ left_one (not_dead_at m) (filter_map item_in rows) i (ap not h) in
      record {
        count = count_with;
        all = all_with;
        living_ = has.living_ ∙ sym (ap length (left_one (is_live_at m) rows row not_live));
        live = subst (TellsLive read.live) (sym same) has.live;
      }
  has_with false h =
      let m = read.began.moment in
      let is_live : is_live_at m row ≡ true = live_of m row i is ∙ ap not h in
      let more : filter (not_dead_at m) (filter_map item_in (rows ++ row ∷ [])) ≡ filter (not_dead_at m) (filter_map item_in rows) ++ i ∷ [] =
      ap (filter (not_dead_at m)) items_more ∙ kept_one (not_dead_at m) (filter_map item_in rows) i (ap not h) in
      record {
        count = count_with;
        all = all_with;
        living_ = ap (λ n. n + 1) has.living_ ∙ sym (length_push (filter (is_live_at m) rows) row)
            ∙ sym (ap length (kept_one (is_live_at m) rows row is_live));
        live = subst (TellsLive (with_one read.live i)) (sym more) (tells_more read.live (filter (not_dead_at m) (filter_map item_in rows)) i has.live);
      }

  pub has_kept : HasRead (rows ++ row ∷ []) (with_kept read i)
  has_kept = has_with (is_dead i read.began.moment) refl

-- ---- one row more of those in order

-- it is taken, or it is bad
abbrev pub StepsTo : Rows → Rows → StoredRow → Option RowsRead → Type 0
StepsTo rows prior row None = is_bad rows row ≡ true
StepsTo rows prior row (Some new) = Taken rows (prior ++ row ∷ []) new

module _ (rows prior rest : Rows) (row : StoredRow) (split : rows ≡ prior ++ row ∷ rest) (ordered : InOrder rows) (read : RowsRead)
    (t : Taken rows prior read) where
  here : InOrder (prior ++ row ∷ rest)
  here = subst InOrder split ordered

  good_with : is_bad rows row ≡ false → find (is_bad rows) (prior ++ row ∷ []) ≡ None
  good_with h =
      find-append (is_bad rows) prior (row ∷ [])
      ∙ ap (λ (o : Option StoredRow). option_or o (find (is_bad rows) (row ∷ []))) t.good
      ∙ ap (λ (b : Bool). cond b (Some row) None) h

  -- ---- table 1

  item_taken : (i : Item) → row.table ≡ 1 → item_in row ≡ Some i → is_bad rows row ≡ false → Taken rows (prior ++ row ∷ []) (with_kept read i)
  item_taken i mine is good =
      let two = of_other 2 prior row (ap (λ n. n == 2) mine) in
      let three = of_other 3 prior row (ap (λ n. n == 3) mine) in
      by (is_dead i read.began.moment) (subst (λ (l : Rows). HasRead l (with_kept read i)) (sym (of_own 1 prior row mine))
      (has_kept (of_table 1 prior) row read i is t.items)) two three
    where
      by : (dead : Bool)
          → HasRead (of_table 1 (prior ++ row ∷ [])) (record (with_if dead read i) { count = read.count + 1; all = with_item read.all (key_of i, i) })
          → of_table 2 (prior ++ row ∷ []) ≡ of_table 2 prior → of_table 3 (prior ++ row ∷ []) ≡ of_table 3 prior
          → Taken rows (prior ++ row ∷ []) (record (with_if dead read i) { count = read.count + 1; all = with_item read.all (key_of i, i) })
      by true has two three = record {
        began = t.began;
        good = good_with good;
        items = has;
        requests = t.requests ∙ sym (ap (map request_under_key) two);
        renewals = t.renewals ∙ sym (ap (filter_map (renewal_in rows)) three);
      }
      by false has two three = record {
        began = t.began;
        good = good_with good;
        items = has;
        requests = t.requests ∙ sym (ap (map request_under_key) two);
        renewals = t.renewals ∙ sym (ap (filter_map (renewal_in rows)) three);
      }

  item_by : (i : Item) → row.table ≡ 1 → item_in row ≡ Some i → (b : Bool) → has_room read i ≡ b
      → StepsTo rows prior row (if b then Some (with_kept read i) else None)
  item_by i mine is true h = item_taken i mine is (bad_item rows prior rest row split ordered read i mine t.began t.items is ∙ ap not h)
  item_by i mine is false h = bad_item rows prior rest row split ordered read i mine t.began t.items is ∙ ap not h

  item_step : row.table ≡ 1 → (o : Option Item) → item_in row ≡ o → StepsTo rows prior row (option_and_then (if_room read) o)
  item_step mine None h = bad_no_item rows prior rest row split ordered mine h
  item_step mine (Some i) h = item_by i mine h (has_room read i) refl

  -- ---- table 2

  request_taken : (m : Message) → row.table ≡ 2 → request_in row ≡ Some m → is_bad rows row ≡ false
      → Taken rows (prior ++ row ∷ []) (with_request read row.key m)
  request_taken m mine is good =
      let one : of_table 1 (prior ++ row ∷ []) ≡ of_table 1 prior = of_other 1 prior row (ap (λ n. n == 1) mine) in
      let three : of_table 3 (prior ++ row ∷ []) ≡ of_table 3 prior = of_other 3 prior row (ap (λ n. n == 3) mine) in
      let new : KeptRequest = record { place = row.key; request = m } in
      let has : HasRead (of_table 1 prior) (with_request read row.key m) =
      record { count = t.items.count; all = t.items.all; living_ = t.items.living_; live = t.items.live } in
      record {
        began = t.began;
        good = good_with good;
        items = subst (λ (l : Rows). HasRead l (with_request read row.key m)) (sym one) has;
        requests = map-append under_key read.requests (new ∷ [])
            ∙ ap (λ l. l ++ (row.key, Some m) ∷ []) t.requests
            ∙ ap (λ o. map request_under_key (of_table 2 prior) ++ (row.key, o) ∷ []) (sym is)
            ∙ sym (map-append request_under_key (of_table 2 prior) (row ∷ []))
            ∙ sym (ap (map request_under_key) (of_own 2 prior row mine));
        renewals = t.renewals ∙ sym (ap (filter_map (renewal_in rows)) three);
      }

  request_by : (m : Message) → row.table ≡ 2 → request_in row ≡ Some m → (b : Bool) → has_place read row.key m ≡ b
      → StepsTo rows prior row (if b then Some (with_request read row.key m) else None)
  request_by m mine is true h = request_taken m mine is (bad_request rows prior rest row split ordered read m mine t.requests is ∙ ap not h)
  request_by m mine is false h = bad_request rows prior rest row split ordered read m mine t.requests is ∙ ap not h

  request_step : row.table ≡ 2 → (o : Option Message) → request_in row ≡ o → StepsTo rows prior row (option_and_then (if_place read row.key) o)
  request_step mine None h = bad_no_request rows prior rest row split ordered mine h
  request_step mine (Some m) h = request_by m mine h (has_place read row.key m) refl

  -- ---- table 3

  -- all rows of table 2 are before it
  none_of_two : row.table ≡ 3 → of_table 2 (row ∷ rest) ≡ []
  none_of_two mine =
      ap (λ b. cond b (row ∷ of_table 2 rest) (of_table 2 rest)) (ap (λ n. n == 2) mine)
      ∙ none_in rest (all_rows (λ x. place_cmp (place_of row) x ≡ Less) (λ x. (x.table == 2) ≡ false)
      (λ x less. other x (table_le (place_of row) (place_of x) less)) rest (those_behind prior row rest here))
    where
      other : (x : StoredRow) → row.table ≤ x.table → (x.table == 2) ≡ false
      other x later = ne_eqb x.table 2 (λ (e : x.table ≡ 2). absurd (omega (arith, later, mine, e)))

      none_in : (xs : Rows) → All (λ (x : StoredRow). (x.table == 2) ≡ false) xs → of_table 2 xs ≡ []
      none_in [] a = refl
      none_in (x ∷ xs) a = rw (a.0) (none_in xs a.1)

  two_before : row.table ≡ 3 → of_table 2 rows ≡ of_table 2 prior
  two_before mine =
      ap (of_table 2) split ∙ filter-append (λ x. x.table == 2) prior (row ∷ rest)
      ∙ ap (λ l. of_table 2 prior ++ l) (none_of_two mine) ∙ append-nil (of_table 2 prior)

  renewal_taken : (m : Message) → row.table ≡ 3 → renewal_in rows row ≡ Some m → Taken rows (prior ++ row ∷ []) (with_renewal read m)
  renewal_taken m mine is =
      let one : of_table 1 (prior ++ row ∷ []) ≡ of_table 1 prior = of_other 1 prior row (ap (λ n. n == 1) mine) in
      let two : of_table 2 (prior ++ row ∷ []) ≡ of_table 2 prior = of_other 2 prior row (ap (λ n. n == 2) mine) in
      let has : HasRead (of_table 1 prior) (with_renewal read m) =
      record { count = t.items.count; all = t.items.all; living_ = t.items.living_; live = t.items.live } in
      record {
        began = t.began;
        good = good_with (bad_renewal rows prior rest row split ordered mine ∙ ap is_none is);
        items = subst (λ (l : Rows). HasRead l (with_renewal read m)) (sym one) has;
        requests = t.requests ∙ sym (ap (map request_under_key) two);
        renewals = ap (λ l. l ++ m ∷ []) t.renewals
            ∙ sym (mapped_one (renewal_in rows) (of_table 3 prior) row m is)
            ∙ sym (ap (filter_map (renewal_in rows)) (of_own 3 prior row mine));
      }

  renewal_by : row.table ≡ 3 → (o : Option Message) → renewal_in rows row ≡ o → StepsTo rows prior row (option_map (with_renewal read) o)
  renewal_by mine None h = bad_renewal rows prior rest row split ordered mine ∙ ap is_none h
  renewal_by mine (Some m) h = renewal_taken m mine h

  renewal_step : row.table ≡ 3 → StepsTo rows prior row (option_map (with_renewal read) (renewal_at read.requests row.key row.text))
  renewal_step mine =
      let are : map under_key read.requests ≡ map request_under_key (of_table 2 rows) =
      t.requests ∙ sym (ap (map request_under_key) (two_before mine)) in
      renewal_by mine (renewal_at read.requests row.key row.text) (sym (renewal_is rows read.requests row are))

  -- ---- other tables

  -- a row behind the first has no empty key in table 0
  not_empty : (before : Rows) → 0 < length before → All (λ x. place_cmp x (place_of row) ≡ Less) (map place_of before) → row.table ≡ 0
      → length row.key ≡ 0 → ⊥
  not_empty [] some a mine none = omega (arith, some)
  not_empty (x ∷ xs) some a mine none = by (less_parts (place_of x) (place_of row) a.0)
    where
      nothing_below : (a b : List ℕ) → length b ≡ 0 → slice_cmp nat_cmp a b ≡ Less → ⊥
      nothing_below [] [] n h = cc h
      nothing_below (k ∷ ks) [] n h = cc h
      nothing_below a (k ∷ ks) n h = omega (arith, n)

      by : (x.table < row.table) ⊎ ((x.table ≡ row.table) × (slice_cmp nat_cmp x.key row.key ≡ Less)) → ⊥
      by (inl less) = omega (arith, less, mine)
      by (inr same) = nothing_below x.key row.key none same.1

  first_step : 0 < length prior → row.table ≡ 0 → is_bad rows row ≡ true
  first_step some mine =
      let differ : length row.key ≡ 0 → ⊥ = not_empty prior some (those_before prior row rest here) mine in
      ap (kind rows prior rest row split ordered) mine
      ∙ ap (λ b. not b || is_none (began_of_row row.text)) (ne_eqb (length row.key) 0 differ)

  other_bad : (row.table ≡ 0 → ⊥) → (row.table ≡ 1 → ⊥) → (row.table ≡ 2 → ⊥) → (row.table ≡ 3 → ⊥) → is_bad rows row ≡ true
  other_bad n0 n1 n2 n3 = by (row.table == 0) (row.table == 1) (row.table == 2) (row.table == 3)
      (ne_eqb row.table 0 n0) (ne_eqb row.table 1 n1) (ne_eqb row.table 2 n2) (ne_eqb row.table 3 n3)
    where
      by : (a b c d : Bool) → a ≡ false → b ≡ false → c ≡ false → d ≡ false
          → (if a then is_bad_beginning row else if b then is_bad_item rows row else if c then is_bad_request rows row
          else if d then is_none (renewal_in rows row) else true) ≡ true
      by a b c d ha hb hc hd = rw ha (rw hb (rw hc (rw hd refl)))

  -- ---- a row of any table

  module _ (some : 0 < length prior) where
    step_other : (row.table ≡ 1 → ⊥) → (row.table ≡ 2 → ⊥) → (row.table ≡ 3 → ⊥) → (row.table ≡ 0) ⊎ (row.table ≡ 0 → ⊥)
        → is_bad rows row ≡ true
    step_other n1 n2 n3 (inl mine) = first_step some mine
    step_other n1 n2 n3 (inr n0) = other_bad n0 n1 n2 n3

    taken_other : (row.table ≡ 1 → ⊥) → (row.table ≡ 2 → ⊥) → (row.table ≡ 3 → ⊥) → taken row.table read (row_of row) ≡ None
    taken_other n1 n2 n3 = by (row.table == 1) (row.table == 2) (row.table == 3)
        (ne_eqb row.table 1 n1) (ne_eqb row.table 2 n2) (ne_eqb row.table 3 n3)
      where
        by : (b c d : Bool) → b ≡ false → c ≡ false → d ≡ false
            → (if b then option_and_then (if_room read) (item_of_row row.key row.text)
            else if c then option_and_then (if_place read row.key) (request_of_row row.text)
            else if d then option_map (with_renewal read) (renewal_at read.requests row.key row.text)
            else None) ≡ None
        by b c d hb hc hd = rw hb (rw hc (rw hd refl))

    step_three : (row.table ≡ 1 → ⊥) → (row.table ≡ 2 → ⊥) → (row.table ≡ 3) ⊎ (row.table ≡ 3 → ⊥)
        → StepsTo rows prior row (taken row.table read (row_of row))
    step_three n1 n2 (inl mine) =
        subst (λ n. StepsTo rows prior row (taken n read (row_of row))) (sym mine) (renewal_step mine)
    step_three n1 n2 (inr n3) =
        subst (StepsTo rows prior row) (sym (taken_other n1 n2 n3)) (step_other n1 n2 n3 (cases_eq row.table 0))

    step_two : (row.table ≡ 1 → ⊥) → (row.table ≡ 2) ⊎ (row.table ≡ 2 → ⊥) → StepsTo rows prior row (taken row.table read (row_of row))
    step_two n1 (inl mine) =
        subst (λ n. StepsTo rows prior row (taken n read (row_of row))) (sym mine) (request_step mine (request_in row) refl)
    step_two n1 (inr n2) = step_three n1 n2 (cases_eq row.table 3)

    step_one : (row.table ≡ 1) ⊎ (row.table ≡ 1 → ⊥) → StepsTo rows prior row (taken row.table read (row_of row))
    step_one (inl mine) =
        subst (λ n. StepsTo rows prior row (taken n read (row_of row))) (sym mine) (item_step mine (item_in row) refl)
    step_one (inr n1) = step_two n1 (cases_eq row.table 2)

    pub steps_to : StepsTo rows prior row (taken row.table read (row_of row))
    steps_to = step_one (cases_eq row.table 1)
