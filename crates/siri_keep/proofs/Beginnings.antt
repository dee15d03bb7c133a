-- What the first of all rows says, and what all of them come to.
use Rattle.std.proofs.Common.{◌≡◌, ◌⊎◌, ◌<◌, ℕ, ◌+◌, List, [], ◌∷◌, ◌++◌, length, map, find, Bool, true, false, cond, ◌||◌, not, Option, None, Some, Ok, Err, refl, sym, ap, ◌∙◌, subst, inl}
use Rattle.std.proofs.Common.{inr, arith, append-nil, append_assoc}
use Rattle.std.specs.Prelude.{◌==◌, is_none, ok_or, option_map, if◌then◌else◌}
use Rattle.std.specs.List.{AllByRecursion as All, filter_map}
use Rattle.std.specs.Option.{option_and_then, option_or}
use Rattle.std.specs.Cmp.Lexicographic.{slice_cmp}
use Rattle.std.specs.Ordering.{is_eq, nat_cmp}
use Rattle.std.specs.declared.cmp.Ordering.{Ordering}
use Rattle.std.specs.declared.cmp.Ordering.TheVariants.{Less, Equal, Greater}
use Rattle.std.proofs.lemmas.Bool.{and_from, and_parts, cases_eq, cond-false, cond-true, eqb-true, eq-eqb, false_from_ne_true}
use Rattle.std.proofs.lemmas.List.{length_push, map-append, nil_from_length}
use Rattle.std.proofs.lemmas.List.Folds.{find-append}
use Rattle.siri_records.specs.declared.item.Item.{Item}
use Rattle.siri_model.specs.History.{Observed, entries_of}
use Rattle.siri_row_texts.specs.declared.moments.Began.{Began}
use Rattle.siri_row_texts.specs.Reading.{began_of_row}
use Rattle.siri_outside.specs.declared.rows.Row.{Row}
use Rattle.siri_outside.specs.declared.rows.StoredRow.{StoredRow}
use Rattle.siri_outside.specs.Rows.{HasByteTables, InOrder, RowPlace, Rows, is_next, next_row, of_table, place_cmp, place_of, row_of, text_at}
use Rattle.siri_keeping.specs.Opening.{SaysKept, Nothing, WhatIsKept, began_in, by_service, is_bad, kept_in, live_items, renewal_in, request_in, said, said_unless}
use Rattle.siri_keeping.proofs.Found.{place_exact}
use Rattle.siri_keep.specs.declared.by_service.ByService.{ByService}
use Rattle.siri_keep.specs.declared.opening.KeptRequest.{KeptRequest}
use Rattle.siri_keep.specs.declared.rows_read.RowsRead.{RowsRead}
use Rattle.siri_keep.specs.Walking.{IsRead}
use Rattle.siri_keep.specs.RowByRow.{HasRead, IsComing, IsPassed, Reached, SeesMore, Taken, TellsLive, first_began, live_delivery, request_under_key, taken, under_key, whole_of}
use Rattle.siri_keep.proofs.Ahead.{IsAhead, IsFirst, all_always, all_rows, coming_after, coming_next, find_ahead, find_here, find_none, less_parts, next_ahead, order_behind, passed_next}
use Rattle.siri_keep.proofs.Ahead.{passed_with, those_behind}
use Rattle.siri_keep.proofs.Alls.{all_weaker}
use Rattle.siri_keep.proofs.BadRows.{kind}
use Rattle.siri_keep.proofs.TakenRows.{StepsTo, steps_to}

-- ---- what rows say

-- where there is a row of the moment
said_there : (rows : Rows) → is_none (text_at rows 0 []) ≡ false → said rows ≡ said_unless (find (is_bad rows) rows) rows
unfolding said
said_there [] there = absurd (cc there)
said_there (row ∷ rest) there =
    cond-false (is_none (text_at (row ∷ rest) 0 [])) (Err (0, [])) (said_unless (find (is_bad (row ∷ rest)) (row ∷ rest)) (row ∷ rest)) there

-- where there is none
said_missing : (rows : Rows) → (rows ≡ [] → ⊥) → text_at rows 0 [] ≡ None → said rows ≡ Err (0, [])
unfolding said
said_missing [] some none = absurd (some refl)
said_missing (row ∷ rest) some none =
    cond-true (is_none (text_at (row ∷ rest) 0 [])) (Err (0, [])) (said_unless (find (is_bad (row ∷ rest)) (row ∷ rest)) (row ∷ rest))
    (ap (λ (o : Option (List ℕ)). is_none o) none)

said_none : said [] ≡ Ok Nothing
unfolding said
said_none = refl

said_nothing : (rows : Rows) → rows ≡ [] → said rows ≡ Ok Nothing
said_nothing rows is = ap said is ∙ said_none

text_there : (o : Option (List ℕ)) (b : Began) → option_and_then began_of_row o ≡ Some b → is_none o ≡ false
text_there None b is = absurd (cc is)
text_there (Some text) b is = refl

-- a bad row behind others that aren't
pub said_bad : (rows prior rest : Rows) (row : StoredRow) → rows ≡ prior ++ row ∷ rest → is_none (text_at rows 0 []) ≡ false
    → find (is_bad rows) prior ≡ None → is_bad rows row ≡ true → said rows ≡ Err (place_of row)
said_bad rows prior rest row split there good bad =
    said_there rows there
    ∙ ap (λ (o : Option StoredRow). said_unless o rows)
    (ap (find (is_bad rows)) split ∙ find-append (is_bad rows) prior (row ∷ rest)
    ∙ ap (λ (o : Option StoredRow). option_or o (find (is_bad rows) (row ∷ rest))) good
    ∙ find_here (is_bad rows) row rest bad)

said_good : (rows : Rows) (b : Began) → began_in rows ≡ Some b → find (is_bad rows) rows ≡ None → said rows ≡ Ok (SaysKept (kept_in rows b))
said_good rows b is good =
    said_there rows (text_there (text_at rows 0 []) b is)
    ∙ ap (λ (o : Option StoredRow). said_unless o rows) good
    ∙ ap (λ (o : Option Began). ok_or (option_map (λ (began : Began). SaysKept (kept_in rows began)) o) (0, [])) is

-- ---- the next row

-- one more, or a bad one
abbrev pub NextIs : ℕ → Rows → StoredRow → Option RowsRead → Type 0
NextIs table rows row None = said rows ≡ Err (table, row.key)
NextIs table rows row (Some new) = Reached table (Some row.key) rows new

module _ (table : ℕ) (after : Option (List ℕ)) (rows : Rows) (read : RowsRead) (r : Reached table after rows read) where
  ahead : IsAhead table r.rest (next_row table after rows)
  ahead =
      let order : InOrder r.rest = order_behind r.prior r.rest (subst InOrder r.split r.ordered) in
      subst (IsAhead table r.rest) (sym (next_ahead table after rows r.prior r.rest r.split r.passed)) (find_ahead table after r.rest r.coming order)

  next_by : (stored : StoredRow) (behind : Rows) → rows ≡ r.prior ++ stored ∷ behind → stored.table ≡ table → (o : Option RowsRead)
      → StepsTo rows r.prior stored o → NextIs table rows stored o
  next_by stored behind split mine None bad =
      said_bad rows r.prior behind stored split (text_there (text_at rows 0 []) read.began r.done.began) r.done.good bad
      ∙ ap (λ t. Err (t, stored.key)) mine
  next_by stored behind split mine (Some new) done =
      subst (λ t. Reached t (Some stored.key) rows new) mine (record {
        prior = r.prior ++ stored ∷ [];
        rest = behind;
        split = split ∙ sym (append_assoc r.prior (stored ∷ []) behind);
        ordered = r.ordered;
        bytes = r.bytes;
        begun = omega (arith, length_push r.prior stored);
        passed = passed_with stored r.prior behind (subst InOrder split r.ordered);
        coming = coming_after stored r.prior behind (subst InOrder split r.ordered);
        done = done;
      })

  -- a row that is next is taken, or is the first bad one
  pub next_taken : (row : Row) → Some row ≡ next_row table after rows → (stored : StoredRow) × (row ≡ row_of stored) × NextIs table rows stored (taken table read row)
  next_taken row is =
      let f : IsFirst table r.rest row = subst (IsAhead table r.rest) (sym is) ahead in
      let split : rows ≡ r.prior ++ f.stored ∷ f.behind = r.split ∙ ap (λ (l : Rows). r.prior ++ l) f.is in
      let step : StepsTo rows r.prior f.stored (taken f.stored.table read (row_of f.stored)) =
      steps_to rows r.prior f.behind f.stored split r.ordered read r.done r.begun in
      let here : StepsTo rows r.prior f.stored (taken table read (row_of f.stored)) =
      subst (λ t. StepsTo rows r.prior f.stored (taken t read (row_of f.stored))) f.mine step in
      let same : StepsTo rows r.prior f.stored (taken table read row) =
      subst (λ (x : Row). StepsTo rows r.prior f.stored (taken table read x)) (sym f.row_is) here in
      (f.stored, f.row_is, next_by f.stored f.behind split f.mine (taken table read row) same)

  -- where there is none the table is read
  pub next_none : None ≡ next_row table after rows → Reached (table + 1) None rows read
  next_none is =
      let all : All (λ (x : StoredRow). table < x.table) r.rest = subst (IsAhead table r.rest) (sym is) ahead in
      record {
        prior = r.prior;
        rest = r.rest;
        split = r.split;
        ordered = r.ordered;
        bytes = r.bytes;
        begun = r.begun;
        passed = all_weaker (IsPassed table after) (IsPassed (table + 1) None) (passed_next table after) r.prior r.passed;
        coming = all_weaker (λ (x : StoredRow). table < x.table) (IsComing (table + 1) None) (coming_next table) r.rest all;
        done = r.done;
      }

-- ---- the first row

coming_first : (row : StoredRow) → (row.table ≡ 0) ⊎ (row.table ≡ 0 → ⊥) → IsComing 0 None row
coming_first row (inl mine) = inl (and_from (row.table == 0) true (eq-eqb row.table 0 mine) refl)
coming_first row (inr other) = inr (omega (arith, other))

first_ahead : (rows : Rows) → InOrder rows → IsAhead 0 rows (next_row 0 None rows)
first_ahead rows s = find_ahead 0 None rows (all_always (IsComing 0 None) (λ row. coming_first row (cases_eq row.table 0)) rows) s

abbrev at_first : StoredRow → Bool
at_first row = is_eq (place_cmp (place_of row) (0, []))

tied_is : (o : Ordering) → is_eq o ≡ true → o ≡ Equal
tied_is Equal e = refl
tied_is Less e = cc
tied_is Greater e = cc

-- only a row of table 0 with the empty key is at the first place
is_first_place : (row : StoredRow) → at_first row ≡ true → place_of row ≡ (0, [])
is_first_place row h = place_exact (place_of row) (0, []) (tied_is (place_cmp (place_of row) (0, [])) h)

not_at_first : (row : StoredRow) → (place_of row ≡ (0, []) → ⊥) → at_first row ≡ false
not_at_first row differ = false_from_ne_true (at_first row) (λ h. differ (is_first_place row h))

none_at_first : (rows : Rows) → All (λ row. at_first row ≡ false) rows → text_at rows 0 [] ≡ None
none_at_first rows all = ap (option_map (λ row. row.text)) (find_none at_first rows all)

no_table : (rows : Rows) → IsAhead 0 rows None → text_at rows 0 [] ≡ None
no_table rows all =
    none_at_first rows (all_weaker (λ (x : StoredRow). 0 < x.table) (λ row. at_first row ≡ false)
    (λ row later. not_at_first row (λ h. let e : row.table ≡ 0 = ap (λ (p : RowPlace). p.0) h in absurd (omega (arith, later, e)))) rows all)

pub first_missing : (rows : Rows) → InOrder rows → None ≡ next_row 0 None rows → (rows ≡ [] → ⊥) → said rows ≡ Err (0, [])
first_missing rows s is some = said_missing rows some (no_table rows (subst (IsAhead 0 rows) (sym is) (first_ahead rows s)))

found_here : (row : StoredRow) (rest : Rows) → next_row row.table None (row ∷ rest) ≡ Some (row_of row)
found_here row rest =
    ap (option_map row_of) (find_here (is_next row.table None) row rest (and_from (row.table == row.table) true (eq-eqb row.table row.table refl) refl))

pub no_rows : (rows : Rows) → None ≡ next_row 0 None rows → SeesMore rows false → HasByteTables rows → said rows ≡ Ok Nothing
no_rows [] is none bytes = said_nothing [] refl
no_rows (row ∷ rest) is none bytes = absurd (by (cases_eq row.table 0))
  where
    differ : (o : Option Row) → o ≡ Some (row_of row) → o ≡ None → ⊥
    differ o a b = absurd (cc (a, b))

    by : (row.table ≡ 0) ⊎ (row.table ≡ 0 → ⊥) → ⊥
    by (inl mine) = differ (next_row 0 None (row ∷ rest)) (subst (λ t. next_row t None (row ∷ rest) ≡ Some (row_of row)) mine (found_here row rest)) (sym is)
    by (inr other) = differ (next_row row.table None (row ∷ rest)) (found_here row rest)
        (none row.table (omega (arith, other)) bytes.0)

module _ (rows : Rows) (row : Row) (s : InOrder rows) (bytes : HasByteTables rows) (is : Some row ≡ next_row 0 None rows) where
  first : IsFirst 0 rows row
  first = subst (IsAhead 0 rows) (sym is) (first_ahead rows s)

  stored : StoredRow
  stored = first.stored

  in_order : InOrder ([] ++ first.stored ∷ first.behind)
  in_order = subst InOrder first.is s

  keys_same : row.key ≡ first.stored.key
  keys_same = ap (λ (r : Row). r.key) first.row_is

  texts_same : row.text ≡ first.stored.text
  texts_same = ap (λ (r : Row). r.text) first.row_is

  -- ---- with the empty key

  module _ (empty : length row.key ≡ 0) where
    key_nil : first.stored.key ≡ []
    key_nil = sym keys_same ∙ nil_from_length row.key empty

    place_is : place_of first.stored ≡ (0, [])
    place_is = λ i. (first.mine i, key_nil i)

    text_is : text_at rows 0 [] ≡ Some first.stored.text
    text_is =
        ap (λ (l : Rows). text_at l 0 []) first.is
        ∙ ap (option_map (λ row. row.text))
        (find_here at_first first.stored first.behind (ap (λ (p : RowPlace). is_eq (place_cmp p (0, []))) place_is))

    there : is_none (text_at rows 0 []) ≡ false
    there = ap (λ (o : Option (List ℕ)). is_none o) text_is

    bad_is : is_bad rows first.stored ≡ is_none (began_of_row row.text)
    bad_is =
        ap (kind rows [] first.behind first.stored first.is s) first.mine
        ∙ ap (λ (k : List ℕ). not (length k == 0) || is_none (began_of_row first.stored.text)) key_nil
        ∙ ap (λ (t : List ℕ). is_none (began_of_row t)) (sym texts_same)

    unread : began_of_row row.text ≡ None → said rows ≡ Err (0, [])
    unread none =
        said_bad rows [] first.behind first.stored first.is there refl (bad_is ∙ ap (λ (o : Option Began). is_none o) none)
        ∙ ap (λ (p : RowPlace). Err p) place_is

    began_is : (b : Began) → began_of_row row.text ≡ Some b → began_in rows ≡ Some b
    began_is b h = ap (option_and_then began_of_row) text_is ∙ ap began_of_row (sym texts_same) ∙ h

    of_none : (t : ℕ) → (0 == t) ≡ false → of_table t ([] ++ first.stored ∷ []) ≡ []
    of_none t other = ap (λ (b : Bool). cond b (first.stored ∷ []) []) (ap (λ n. n == t) first.mine ∙ other)

    starts : (b : Began) (new : RowsRead) → began_of_row row.text ≡ Some b → new.began ≡ b → new.all ≡ [] → new.count ≡ 0 → new.living ≡ 0
        → TellsLive new.live [] → new.requests ≡ [] → new.renewals ≡ [] → Taken rows ([] ++ first.stored ∷ []) new
    starts b new h began all count living_ live requests renewals = record {
      began = began_is b h ∙ ap (λ (x : Began). Some x) (sym began);
      good = ap (λ (c : Bool). cond c (Some first.stored) None) (bad_is ∙ ap (λ (o : Option Began). is_none o) h);
      items = subst (λ (l : Rows). HasRead l new) (sym (of_none 1 refl))
          (record { count = count; all = all; living_ = living_; live = live });
      requests = ap (map under_key) requests ∙ sym (ap (map request_under_key) (of_none 2 refl));
      renewals = renewals ∙ sym (ap (filter_map (renewal_in rows)) (of_none 3 refl));
    }

    reached_first : (new : RowsRead) → Taken rows ([] ++ first.stored ∷ []) new → Reached 0 (Some []) rows new
    reached_first new done =
        let at : Reached first.stored.table (Some first.stored.key) rows new = record {
          prior = first.stored ∷ [];
          rest = first.behind;
          split = first.is;
          ordered = s;
          bytes = bytes;
          begun = omega arith;
          passed = passed_with first.stored [] first.behind in_order;
          coming = coming_after first.stored [] first.behind in_order;
          done = done;
        } in
        subst (λ (k : List ℕ). Reached 0 (Some k) rows new) key_nil (subst (λ t. Reached t (Some first.stored.key) rows new) first.mine at)

  -- ---- with another

  other_key : (length row.key ≡ 0 → ⊥) → said rows ≡ Err (0, [])
  other_key differ =
      said_missing rows (λ e. nothing_first (sym e ∙ first.is))
      (ap (λ (l : Rows). text_at l 0 []) first.is ∙ none_at_first (first.stored ∷ first.behind) (mine_not, others))
    where
      nothing_first : [] ≡ first.stored ∷ first.behind → ⊥
      nothing_first e = absurd (cc e)

      no_key : first.stored.key ≡ [] → ⊥
      no_key e = differ (ap length (keys_same ∙ e))

      mine_not : at_first first.stored ≡ false
      mine_not = not_at_first first.stored (λ h. no_key (ap (λ (p : RowPlace). p.1) h))

      below_none : (a : List ℕ) → slice_cmp nat_cmp a [] ≡ Less → ⊥
      below_none [] h = absurd (cc h)
      below_none (k ∷ ks) h = absurd (cc h)

      not_below : (p : RowPlace) → (p.0 < 0) ⊎ ((p.0 ≡ 0) × (slice_cmp nat_cmp p.1 [] ≡ Less)) → ⊥
      not_below p (inl less) = omega (arith, less)
      not_below p (inr same) = below_none p.1 same.1

      others : All (λ (x : StoredRow). at_first x ≡ false) first.behind
      others = all_rows (λ y. place_cmp (place_of first.stored) y ≡ Less) (λ x. at_first x ≡ false)
          (λ x less. not_at_first x (λ h. not_below (place_of first.stored)
          (less_parts (place_of first.stored) (0, []) (subst (λ (y : RowPlace). place_cmp (place_of first.stored) y ≡ Less) h less))))
          first.behind (those_behind [] first.stored first.behind in_order)

  -- ---- what it says

  unread_by : (c : Bool) → (length row.key == 0) ≡ c → (if c then began_of_row row.text else None) ≡ None → said rows ≡ Err (0, [])
  unread_by true h none = unread (eqb-true (length row.key) 0 h) none
  unread_by false h none = other_key (λ e. absurd (cc (h, eq-eqb (length row.key) 0 e)))

  pub first_unread : None ≡ first_began row → said rows ≡ Err (0, [])
  first_unread none = unread_by (length row.key == 0) refl (sym none)

  read_by : (c : Bool) (b : Began) → (length row.key == 0) ≡ c → (if c then began_of_row row.text else None) ≡ Some b
      → (length row.key ≡ 0) × (began_of_row row.text ≡ Some b)
  read_by true b h is = (eqb-true (length row.key) 0 h, is)
  read_by false b h is = absurd (cc is)

  pub first_read : (b : Began) (new : RowsRead) → Some b ≡ first_began row → new.began ≡ b → new.all ≡ [] → new.count ≡ 0
      → new.living ≡ 0 → TellsLive new.live [] → new.requests ≡ [] → new.renewals ≡ [] → Reached 0 (Some []) rows new
  first_read b new is began all count living_ live requests renewals =
      let both = read_by (length row.key == 0) b refl (sym is) in
      reached_first both.0 new (starts both.0 b new both.1 began all count living_ live requests renewals)

-- ---- all of them

past_bytes : (rest : Rows) → All (IsComing 256 None) rest → All (λ (row : StoredRow). row.table < 256) rest → rest ≡ []
past_bytes [] coming bytes = refl
past_bytes (row ∷ rest) coming bytes = absurd (by coming.0)
  where
    by : (is_next 256 None row ≡ true) ⊎ (256 < row.table) → ⊥
    by (inl next) = let same = eqb-true row.table 256 (and_parts (row.table == 256) true next).0 in omega (arith, same, bytes.0)
    by (inr later) = omega (arith, later, bytes.0)

all_back : {X : Type 0} (P : X → Type 0) (xs ys : List X) → All P (xs ++ ys) → All P ys
all_back P [] ys a = a
all_back P (x ∷ xs) ys a = all_back P xs ys a.1

some_more : {X Y : Type 0} (f : X → Option Y) (x : X) (xs : List X) (y : Y) (ys : List Y) → f x ≡ Some y → ys ≡ filter_map f xs
    → y ∷ ys ≡ filter_map f (x ∷ xs)
some_more f x xs y ys is rest = rw is (ap (λ l. y ∷ l) rest)

mapped_keys : (requests : List KeptRequest) (mine : Rows) → map under_key requests ≡ map request_under_key mine
    → map (λ (r : KeptRequest). r.place) requests ≡ map (λ (row : StoredRow). row.key) mine
mapped_keys [] [] e = refl
mapped_keys [] (row ∷ mine) e = absurd (cc e)
mapped_keys (r ∷ requests) [] e = absurd (cc e)
mapped_keys (r ∷ requests) (row ∷ mine) e =
    let first : under_key r ≡ request_under_key row = cc e in
    let rest : map under_key requests ≡ map request_under_key mine = cc e in
    λ i. (first i).0 ∷ mapped_keys requests mine rest i

mapped_requests : (requests : List KeptRequest) (mine : Rows) → map under_key requests ≡ map request_under_key mine
    → map (λ (r : KeptRequest). r.request) requests ≡ filter_map request_in mine
mapped_requests [] [] e = refl
mapped_requests [] (row ∷ mine) e = absurd (cc e)
mapped_requests (r ∷ requests) [] e = absurd (cc e)
mapped_requests (r ∷ requests) (row ∷ mine) e =
    let first : under_key r ≡ request_under_key row = cc e in
    let rest : map under_key requests ≡ map request_under_key mine = cc e in
    some_more request_in row mine r.request (map (λ (q : KeptRequest). q.request) requests)
    (sym (λ i. (first i).1)) (mapped_requests requests mine rest)

observed_all : (a b c d : List Item)
    → (map Observed a ++ []) ++ ((map Observed b ++ []) ++ ((map Observed c ++ []) ++ ((map Observed d ++ []) ++ [])))
    ≡ map Observed (((a ++ b) ++ c) ++ d)
observed_all a b c d = simp (append-nil, map-append, append_assoc) refl

live_entries : (live : ByService) (items : List Item) → TellsLive live items → entries_of (live_delivery live) ≡ map Observed (by_service items)
live_entries live items t =
    observed_all live.visits live.journeys live.vehicles live.situations
    ∙ (λ i. map Observed (((t.visits i ++ t.journeys i) ++ t.vehicles i) ++ t.situations i))

pub said_all : (rows : Rows) (read : RowsRead) → Reached 256 None rows read
    → (what : WhatIsKept) × (said rows ≡ Ok (SaysKept what)) × IsRead rows what (whole_of read)
said_all rows read r = (
  kept_in rows read.began,
  said_good rows read.began done.began done.good,
  record {
    ordered = r.ordered;
    began = refl;
    all = done.items.all;
    live = live_entries read.live (live_items (kept_in rows read.began)) done.items.live;
    requests = mapped_requests read.requests (of_table 2 rows) done.requests;
    places = mapped_keys read.requests (of_table 2 rows) done.requests;
    renewals = done.renewals;
  },
)
  where
    none_left : r.rest ≡ []
    none_left = past_bytes r.rest r.coming (all_back (λ (row : StoredRow). row.table < 256) r.prior r.rest
        (subst (All (λ (row : StoredRow). row.table < 256)) r.split
        (all_rows (λ (p : RowPlace). p.0 < 256) (λ row. row.table < 256) (λ row less. less) rows r.bytes)))

    whole : r.prior ≡ rows
    whole = sym (r.split ∙ ap (λ (l : Rows). r.prior ++ l) none_left ∙ append-nil r.prior)

    done : Taken rows rows read
    done = subst (λ (l : Rows). Taken rows l read) whole r.done
