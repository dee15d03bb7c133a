-- How many rows of table 1 there are, and how many of items that aren't dead.
use Rattle.std.proofs.Common.{◌≡◌, ◌≤◌, ◌⊎◌, ℕ, suc, List, [], ◌∷◌, length, Bool, true, false, cond, not, ◌||◌, ◌&&◌, Option, None, Some, refl, sym, ap, ◌∙◌, subst, arith, inl, inr}
use Rattle.std.specs.Prelude.{is_none, nat_lt}
use Rattle.std.specs.Cmp.{tied_itself}
use Rattle.std.specs.Cmp.Lexicographic.{slice_cmp}
use Rattle.std.specs.List.{AllByRecursion as All, Contains, cons_option, filter, filter_map}
use Rattle.std.specs.List.Sorted.{IsStrictlySortedBy}
use Rattle.std.specs.Option.{option_map_or}
use Rattle.std.specs.Ordering.{is_gt, nat_cmp, ordering_then}
use Rattle.std.specs.declared.cmp.Ordering.TheVariants.{Less}
use Rattle.std.proofs.lemmas.Bool.{ltb-false, or_parts}
use Rattle.std.proofs.lemmas.Cmp.{nat_list_cmp_total}
use Rattle.std.proofs.lemmas.List.Elements.{All-contains}
use Rattle.siri_records.specs.declared.item.Item.{Item}
use Rattle.siri_records.specs.Ends.{is_dead}
use Rattle.siri_outside.specs.declared.rows.StoredRow.{StoredRow}
use Rattle.siri_outside.specs.Rows.{InOrder, Rows, of_table, place_cmp, place_of}
use Rattle.siri_row_texts.specs.declared.moments.Began.{Began}
use Rattle.siri_keeping.specs.Keeping.{most_rows}
use Rattle.siri_keeping.specs.Opening.{WhatIsKept, began_in, exceeds, is_any, is_live_at, is_live_in, item_in}
use Rattle.siri_keeping.proofs.LiveItems.{alive}
use Rattle.siri_keeping.proofs.Written.{here, later}
use Rattle.siri_keep.proofs.Alls.{all_unmapped, all_weaker, each_of_all}
use Rattle.siri_keep.proofs.SaidRows.{Says, bad_at, good_of}
use Rattle.siri_records.specs.Keyed.{most_live}

-- a row comes no later than another of its table
abbrev is_up_to : StoredRow → StoredRow → Bool
is_up_to row other = not (is_gt (slice_cmp nat_cmp other.key row.key))

up_to_itself : (row : StoredRow) → is_up_to row row ≡ true
up_to_itself row = ap (λ o. not (is_gt o)) (tied_itself nat_list_cmp_total row.key)

up_to_later : (row other : StoredRow) → other.table ≡ 1 → row.table ≡ 1 → place_cmp (place_of other) (place_of row) ≡ Less
    → is_up_to row other ≡ true
up_to_later row other a b less =
    let one = subst (λ n. ordering_then (nat_cmp n row.table) (slice_cmp nat_cmp other.key row.key) ≡ Less) a less in
    let two : slice_cmp nat_cmp other.key row.key ≡ Less =
    subst (λ n. ordering_then (nat_cmp 1 n) (slice_cmp nat_cmp other.key row.key) ≡ Less) b one in
    ap (λ o. not (is_gt o)) two

-- ---- the last of a kind

module _ (is : StoredRow → Bool) where
  record Last (rows : Rows) : Type 0 where
    row : StoredRow
    there : Contains rows row
    passes : is row ≡ true
    others : All (λ other. is other ≡ true → is_up_to row other ≡ true) rows

  last_first : (row : StoredRow) (rows : Rows) (b : Bool) → is row ≡ b → All (λ other. is other ≡ false) rows
      → All (λ other. is other ≡ false) (row ∷ rows) ⊎ Last (row ∷ rows)
  last_first row rows true passes none = inr (record {
    row = row;
    there = here row rows;
    passes = passes;
    others = (
      λ passes_. up_to_itself row,
      all_weaker (λ other. is other ≡ false) (λ other. is other ≡ true → is_up_to row other ≡ true)
          (λ other fails passes_. absurd (cc (fails, passes_))) rows none,
    );
  })
  last_first row rows false fails none = inl (fails, none)

  last_of : (rows : Rows) → InOrder rows → All (λ row. row.table ≡ 1) rows → All (λ row. is row ≡ false) rows ⊎ Last rows
  unfolding IsStrictlySortedBy
  last_of [] s one = inl tt
  last_of (row ∷ rows) s one = elim (last_of rows s.1 one.1) [
    | inl none ↦ last_first row rows (is row) refl none
    | inr last ↦
        let P : StoredRow → Type 0 = λ other. place_cmp (place_of row) (place_of other) ≡ Less in
        let less = All-contains P rows last.row
        (each_of_all P rows (all_unmapped (λ place. place_cmp (place_of row) place ≡ Less) place_of rows s.0)) last.there in
        let T : StoredRow → Type 0 = λ other. other.table ≡ 1 in
        let table = All-contains T rows last.row (each_of_all T rows one.1) last.there in
        inr (record {
          row = last.row;
          there = later row last.row rows last.there;
          passes = last.passes;
          others = (λ passes_. up_to_later last.row row one.0 table less, last.others);
        })
  ]

  kept_at : (row other : StoredRow) (rows : Rows) (b c : Bool) → is other ≡ b → is_up_to row other ≡ c
      → (is other ≡ true → is_up_to row other ≡ true) → filter is (filter (is_up_to row) rows) ≡ filter is rows
      → filter is (filter (is_up_to row) (other ∷ rows)) ≡ filter is (other ∷ rows)
  kept_at row other rows true true t h has rest = rw h (rw t (ap (λ xs. other ∷ xs) rest))
  kept_at row other rows true false t h has rest = absurd (cc (has t, h))
  kept_at row other rows false true t h has rest = rw h (rw t rest)
  kept_at row other rows false false t h has rest = rw h (rw t rest)

  up_to_all : (row : StoredRow) (rows : Rows) → All (λ other. is other ≡ true → is_up_to row other ≡ true) rows
      → filter is (filter (is_up_to row) rows) ≡ filter is rows
  up_to_all row [] all = refl
  up_to_all row (other ∷ rows) all =
      kept_at row other rows (is other) (is_up_to row other) refl refl all.0 (up_to_all row rows all.1)

  none_pass : (most : ℕ) (row : StoredRow) (rows : Rows) (b : Bool) → is row ≡ b → is row ≡ false → length (filter is rows) ≤ most
      → length (cond b (row ∷ filter is rows) (filter is rows)) ≤ most
  none_pass most row rows true at fails rest = absurd (cc (at, fails))
  none_pass most row rows false at fails rest = rest

  few_none : (most : ℕ) (rows : Rows) → All (λ row. is row ≡ false) rows → length (filter is rows) ≤ most
  few_none most [] none = omega arith
  few_none most (row ∷ rows) none = none_pass most row rows (is row) refl none.0 (few_none most rows none.1)

  -- where none of a kind is one too many, there are at most so many
  counted : (most : ℕ) (rows : Rows) → InOrder rows → All (λ row. row.table ≡ 1) rows
      → All (λ row. is row ≡ true → nat_lt most (length (filter is (filter (is_up_to row) rows))) ≡ false) rows
      → length (filter is rows) ≤ most
  counted most rows s one few = elim (last_of rows s one) [
    | inl none ↦ few_none most rows none
    | inr last ↦
        let P : StoredRow → Type 0 = λ row. is row ≡ true → nat_lt most (length (filter is (filter (is_up_to row) rows))) ≡ false in
        let here_ = All-contains P rows last.row (each_of_all P rows few) last.there last.passes in
        subst (λ (xs : Rows). length xs ≤ most) (up_to_all last.row rows last.others)
        (ltb-false most (length (filter is (filter (is_up_to last.row) rows))) here_)
  ]

-- ---- of what is said

all_any : (rows : Rows) → filter is_any rows ≡ rows
all_any [] = refl
all_any (row ∷ rows) = ap (λ rest. row ∷ rest) (all_any rows)

not_both : (a b : Bool) → (a && b) ≡ false → a ≡ true → b ≡ false
not_both true b e is = e
not_both false b e is = absurd (cc is)

live_row : (rows : Rows) (began : Began) (row : StoredRow) (i : Item) → began_in rows ≡ Some began → item_in row ≡ Some i
    → is_live_in rows row ≡ alive began.moment i
live_row rows began row i at is =
    ap (λ (b : Option Began). option_map_or (λ b. is_live_at b.moment row) b false) at
    ∙ ap (λ (o : Option Item). option_map_or (λ i. not (is_dead i began.moment)) o false) is

one_longer_both : (b c : Bool) (i : Item) (items : List Item) (row : StoredRow) (rows : Rows) → c ≡ b → length items ≡ length rows
    → length (cond b (i ∷ items) items) ≡ length (cond c (row ∷ rows) rows)
one_longer_both true c i items row rows same rest = rw same (ap suc rest)
one_longer_both false c i items row rows same rest = rw same rest

live_at_row : (rows : Rows) (began : Began) (row : StoredRow) (list : Rows) (o : Option Item) → began_in rows ≡ Some began
    → item_in row ≡ o → is_none o ≡ false
    → length (filter (alive began.moment) (filter_map item_in list)) ≡ length (filter (is_live_in rows) list)
    → length (filter (alive began.moment) (cons_option o (filter_map item_in list))) ≡ length (filter (is_live_in rows) (row ∷ list))
live_at_row rows began row list None at is some rest = absurd (cc some)
live_at_row rows began row list (Some i) at is some rest =
    one_longer_both (alive began.moment i) (is_live_in rows row) i (filter (alive began.moment) (filter_map item_in list)) row
    (filter (is_live_in rows) list) (live_row rows began row i at is) rest

live_rows : (rows : Rows) (began : Began) (list : Rows) → began_in rows ≡ Some began
    → All (λ row. (row.table ≡ 1) × (is_none (item_in row) ≡ false)) list
    → length (filter (alive began.moment) (filter_map item_in list)) ≡ length (filter (is_live_in rows) list)
live_rows rows began [] at all = refl
live_rows rows began (row ∷ list) at all =
    live_at_row rows began row list (item_in row) at refl all.0.1 (live_rows rows began list at all.1)

module _ (rows : Rows) (what : WhatIsKept) (s : Says rows what) where
  abbrev list : Rows
  list = of_table 1 rows

  abbrev IsGood : StoredRow → Type 0
  IsGood row = (row.table ≡ 1) × (bad_at 1 rows row ≡ false)

  pub are_items : All (λ row. (row.table ≡ 1) × (is_none (item_in row) ≡ false)) (of_table 1 rows)
  are_items = all_weaker IsGood (λ row. (row.table ≡ 1) × (is_none (item_in row) ≡ false))
      (λ row good. (
        good.0,
        (or_parts (is_none (item_in row)) (is_live_in rows row && exceeds most_live (is_live_in rows) row rows)
            (or_parts (is_none (item_in row) || (is_live_in rows row && exceeds most_live (is_live_in rows) row rows))
            (exceeds most_rows is_any row rows) good.1).0).0,
      )) list (good_of rows what s 1)

  one_table : All (λ row. row.table ≡ 1) list
  one_table = all_weaker IsGood (λ row. row.table ≡ 1) (λ row good. good.0) list (good_of rows what s 1)

  pub few_rows : InOrder (of_table 1 rows) → length (of_table 1 rows) ≤ most_rows
  few_rows order = subst (λ (xs : Rows). length xs ≤ most_rows) (all_any list) (counted is_any most_rows list order one_table
      (all_weaker IsGood (λ row. is_any row ≡ true → nat_lt most_rows (length (filter is_any (filter (is_up_to row) list))) ≡ false)
      (λ row good passes. subst (λ t. nat_lt most_rows (length (filter is_any (filter (is_up_to row) (of_table t rows)))) ≡ false) good.0
      (or_parts (is_none (item_in row) || (is_live_in rows row && exceeds most_live (is_live_in rows) row rows))
      (exceeds most_rows is_any row rows) good.1).1) list (good_of rows what s 1)))

  few_live_rows : InOrder (of_table 1 rows) → length (filter (is_live_in rows) list) ≤ most_live
  few_live_rows order = counted (is_live_in rows) most_live list order one_table
      (all_weaker IsGood
      (λ row. is_live_in rows row ≡ true → nat_lt most_live (length (filter (is_live_in rows) (filter (is_up_to row) list))) ≡ false)
      (λ row good passes. subst (λ t. nat_lt most_live (length (filter (is_live_in rows) (filter (is_up_to row) (of_table t rows)))) ≡ false) good.0
      (not_both (is_live_in rows row) (exceeds most_live (is_live_in rows) row rows)
      (or_parts (is_none (item_in row)) (is_live_in rows row && exceeds most_live (is_live_in rows) row rows)
      (or_parts (is_none (item_in row) || (is_live_in rows row && exceeds most_live (is_live_in rows) row rows))
      (exceeds most_rows is_any row rows) good.1).0).1 passes)) list (good_of rows what s 1))

  pub few_live_items : InOrder (of_table 1 rows)
      → length (filter (alive what.began.moment) (filter_map item_in (of_table 1 rows))) ≤ most_live
  few_live_items order = subst (λ n. n ≤ most_live) (sym (live_rows rows what.began list s.began are_items)) (few_live_rows order)
