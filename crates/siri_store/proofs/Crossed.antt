-- The stamps of a range lead to the items that have an edge there, each at its least.
use Rattle.std.proofs.Common.{◌≡◌, ℕ, ◌+◌, ◌≤◌, Bool, true, false, cond, ◌&&◌, ◌||◌, List, [], ◌∷◌, ◌++◌, map, filter}
use Rattle.std.proofs.Common.{fold, Option, Some, None, refl, ap, ◌∙◌, sym, subst, arith}
use Rattle.std.specs.Prelude.{ℤ, pos, not, nat_eq, flat_map}
use Rattle.std.specs.BTreeMap.{insert_entry, is_at}
use Rattle.std.specs.Cmp.{IsTotalOrder, Equal-is, tied_itself, then_total, on_total, nat_cmp_total}
use Rattle.std.specs.List.{AllByRecursion}
use Rattle.std.specs.List.Sorted.{IsStrictlySortedBy}
use Rattle.std.specs.Map.{keys_of, lookup}
use Rattle.std.specs.Option.{option_map_or, option_cmp}
use Rattle.std.specs.Ordering.{nat_cmp, ordering_then, is_eq}
use Rattle.std.specs.declared.cmp.Ordering.{Ordering}
use Rattle.std.specs.declared.cmp.Ordering.TheVariants.{Less, Equal, Greater}
use Rattle.std.proofs.lemmas.Bool.Decides.{nat_tests}
use Rattle.std.proofs.lemmas.List.Kept.{IsStrictlySortedBy-filter}
use Rattle.std.proofs.lemmas.Map.{lookup-none}
use Rattle.std.proofs.lemmas.Map.Lookups.{CmpEqualImpliesEq, exact_pairs, exact_unsigned}
use Rattle.std.proofs.lemmas.Map.Views.{any-filter_same}
use Rattle.siri_records.specs.declared.item.Item.{Item}
use Rattle.siri_records.specs.declared.item.Item.TheVariants as item
use Rattle.siri_records.specs.declared.item.Service.{Service}
use Rattle.siri_records.specs.declared.item.Service.TheVariants as service
use Rattle.siri_records.specs.declared.key.Key.{Key}
use Rattle.siri_records.specs.Edges.{edges_of, is_within, has_edge, listed}
use Rattle.siri_records.specs.Keyed.{Items, InOrder, item_of}
use Rattle.siri_records.specs.Order.{key_cmp, key_cmp_total}
use Rattle.siri_records.proofs.Order.{key_cmp_exact}
use Rattle.siri_store.specs.Between.{is_between, between}
use Rattle.siri_store.specs.Crossing.{least_edge, edge_cmp, in_order_of_edges, crossed_entries}
use Rattle.siri_store.specs.Held.{counted}
use Rattle.siri_store.specs.CrossWalk.{led_at, entry_list, led}
use Rattle.siri_store.specs.Stamped.{Stamp, stamp_cmp, has_stamp, has, by_edge, by_end, own_end_of, moments_of, moments_held, Tied}
use Rattle.siri_store.proofs.LeastEdge.{least_in_range}
use Rattle.siri_store.proofs.Orders.{unnamed_edge}
use Rattle.siri_store.proofs.LookUps.{by_bool, lookup-insert_entry, later_apart}
use Rattle.siri_store.proofs.Inserted.{sorted_inserted, same_entries}
use Rattle.siri_records.specs.Services.{is_of, service_of}

abbrev pub Edged : Type 0
Edged = List ((ℕ × Key) × Item)

pub edge_total : IsTotalOrder edge_cmp
edge_total =
    then_total (on_total (λ (place : ℕ × Key). place.0) nat_cmp_total)
    (on_total (λ (place : ℕ × Key). place.1) key_cmp_total)

pub edge_exact : CmpEqualImpliesEq edge_cmp
edge_exact = exact_pairs nat_cmp key_cmp exact_unsigned key_cmp_exact

stamp_edge : (order m n : ℕ) (k l : Key) → stamp_cmp (order, m, Some k) (order, n, Some l) ≡ edge_cmp (m, k) (n, l)
stamp_edge order m n k l =
    ap (λ o. ordering_then (ordering_then o (nat_cmp m n)) (key_cmp k l)) (tied_itself nat_cmp_total order)

never : (o : Ordering) → is_eq (ordering_then o Greater) ≡ false
never Less = refl
never Equal = refl
never Greater = refl

pub eq_then : (o p : Ordering) → is_eq (ordering_then o p) ≡ (is_eq o && is_eq p)
eq_then Less p = refl
eq_then Equal p = refl
eq_then Greater p = refl

eq_nat : (a b : ℕ) → is_eq (nat_cmp a b) ≡ nat_eq a b
eq_nat a b = grind (arith, nat_tests)

pub equal_numbers : (a b : ℕ) → nat_eq a b ≡ true → a ≡ b
equal_numbers a b h = grind (arith, nat_tests)

itself : (m : ℕ) → nat_eq m m ≡ true
itself m = grind (arith, nat_tests)

pub left_true : (a b : Bool) → (a && b) ≡ true → a ≡ true
left_true true b h = refl
left_true false b h = absurd (cc h)

pub right_true : (a b : Bool) → (a && b) ≡ true → b ≡ true
right_true true b h = h
right_true false b h = absurd (cc h)

pub none_both : (b : Bool) → ◌≡◌ {A = Option Item} (cond b None None) None
none_both true = refl
none_both false = refl

-- ---- what the stamps lead to, under the edge and the key

abbrev pub keyed_at : ℤ → ℕ → Key → Option Item → Edged
keyed_at from m k None = []
keyed_at from m k (Some i) = cond (has_edge from (pos m) i) [] (((m, k), i) ∷ [])

abbrev pub value : ℤ → ℕ → Option Item → Option Item
value from m None = None
value from m (Some i) = cond (has_edge from (pos m) i) None (Some i)

module _ (from : ℤ) (es : Items) where
  abbrev pub keyed : Stamp → Edged
  keyed (order, m, None) = []
  keyed (order, m, Some k) = keyed_at from m k (item_of es k)

  abbrev pub edged : List Stamp → Edged
  edged stamps = flat_map keyed stamps

  unkeyed_one : (m : ℕ) (k : Key) (h : Option Item) (rest : Edged) (rest' : Items)
      → map (λ f. (f.0.1, f.1)) rest ≡ rest'
      → map (λ f. (f.0.1, f.1)) (keyed_at from m k h ++ rest) ≡ entry_list (led_at from m k h) ++ rest'
  unkeyed_one m k None rest rest' is = is
  unkeyed_one m k (Some i) rest rest' is =
      by_bool (has_edge from (pos m) i) (λ h. rw h is) (λ h. rw h (ap (λ l. (k, i) ∷ l) is))

  pub unkeyed : (stamps : List Stamp) → map (λ f. (f.0.1, f.1)) (edged stamps) ≡ led from es stamps
  unkeyed [] = refl
  unkeyed ((order, m, None) ∷ stamps) = unkeyed stamps
  unkeyed ((order, m, Some k) ∷ stamps) =
      unkeyed_one m k (item_of es k) (edged stamps) (led from es stamps) (unkeyed stamps)

  -- they are in order
  above_one : (m : ℕ) (k : Key) (n : ℕ) (l : Key) (h : Option Item) (rest : Edged) → edge_cmp (m, k) (n, l) ≡ Less
      → AllByRecursion (λ q. edge_cmp (m, k) q ≡ Less) (keys_of rest)
      → AllByRecursion (λ q. edge_cmp (m, k) q ≡ Less) (keys_of (keyed_at from n l h ++ rest))
  above_one m k n l None rest less a = a
  above_one m k n l (Some i) rest less a = by_bool (has_edge from (pos n) i) (λ h. rw h a) (λ h. rw h (less, a))

  above_all : (order m : ℕ) (k : Key) (stamps : List Stamp)
      → AllByRecursion (λ s. stamp_cmp (order, m, Some k) s ≡ Less) stamps → AllByRecursion (λ s. s.0 ≡ order) stamps
      → AllByRecursion (λ q. edge_cmp (m, k) q ≡ Less) (keys_of (edged stamps))
  above_all order m k [] a p = tt
  above_all order m k ((o, n, None) ∷ stamps) a p = above_all order m k stamps a.1 p.1
  above_all order m k ((o, n, Some l) ∷ stamps) a p =
      above_one m k n l (item_of es l) (edged stamps)
      (sym (stamp_edge order m n k l) ∙ (ap (λ x. stamp_cmp (order, m, Some k) (x, n, Some l)) (sym p.0) ∙ a.0))
      (above_all order m k stamps a.1 p.1)

  sorted_one : (m : ℕ) (k : Key) (h : Option Item) (rest : Edged)
      → AllByRecursion (λ q. edge_cmp (m, k) q ≡ Less) (keys_of rest)
      → IsStrictlySortedBy edge_cmp (keys_of rest) → IsStrictlySortedBy edge_cmp (keys_of (keyed_at from m k h ++ rest))
  unfolding IsStrictlySortedBy
  sorted_one m k None rest a s = s
  sorted_one m k (Some i) rest a s = by_bool (has_edge from (pos m) i) (λ h. rw h s) (λ h. rw h (a, s))

  pub sorted_edged : (order : ℕ) (stamps : List Stamp) → IsStrictlySortedBy stamp_cmp stamps
      → AllByRecursion (λ s. s.0 ≡ order) stamps
      → IsStrictlySortedBy edge_cmp (keys_of (edged stamps))
  unfolding IsStrictlySortedBy
  sorted_edged order [] s p = tt
  sorted_edged order ((o, m, None) ∷ stamps) s p = sorted_edged order stamps s.1 p.1
  sorted_edged order ((o, m, Some k) ∷ stamps) s p =
      sorted_one m k (item_of es k) (edged stamps)
      (above_all order m k stamps
      (subst (λ x. AllByRecursion (λ y. stamp_cmp (x, m, Some k) y ≡ Less) stamps) p.0 s.0) p.1)
      (sorted_edged order stamps s.1 p.1)

  -- what is found there
  found_here : (q m : ℕ) (k l : Key) (h : Option Item) (rest : Edged) (b : Bool) → is_eq (edge_cmp (q, k) (m, l)) ≡ true
      → lookup (is_at (edge_cmp (q, k))) rest ≡ cond b (value from m h) None
      → lookup (is_at (edge_cmp (q, k))) (keyed_at from m l h ++ rest) ≡ value from m h
  found_here q m k l None rest b same is = is ∙ none_both b
  found_here q m k l (Some i) rest b same is = by_bool (has_edge from (pos m) i)
      (λ h. rw h ((rw h at is) ∙ none_both b))
      (λ h. rw h (ap (λ c. cond c (Some i) (lookup (is_at (edge_cmp (q, k))) rest)) same))

  passed_over : (q m : ℕ) (k l : Key) (h : Option Item) (rest : Edged) → is_eq (edge_cmp (q, k) (m, l)) ≡ false
      → lookup (is_at (edge_cmp (q, k))) (keyed_at from m l h ++ rest) ≡ lookup (is_at (edge_cmp (q, k))) rest
  passed_over q m k l None rest apart = refl
  passed_over q m k l (Some i) rest apart = by_bool (has_edge from (pos m) i)
      (λ h. rw h refl)
      (λ h. rw h (ap (λ c. cond c (Some i) (lookup (is_at (edge_cmp (q, k))) rest)) apart))

  pub found_edged : (order q : ℕ) (k : Key) (stamps : List Stamp) → AllByRecursion (λ s. s.0 ≡ order) stamps
      → lookup (is_at (edge_cmp (q, k))) (edged stamps)
      ≡ cond (has_stamp stamps (order, q, Some k)) (value from q (item_of es k)) None
  found_edged order q k [] p = refl
  found_edged order q k ((o, m, None) ∷ stamps) p =
      found_edged order q k stamps p.1
      ∙ ap (λ b. cond (b || has_stamp stamps (order, q, Some k)) (value from q (item_of es k)) None)
      (sym (never (ordering_then (nat_cmp order o) (nat_cmp q m))))
  found_edged order q k ((o, m, Some l) ∷ stamps) p =
      let rest = found_edged order q k stamps p.1 in
      let head : is_eq (stamp_cmp (order, q, Some k) (o, m, Some l)) ≡ is_eq (edge_cmp (q, k) (m, l)) =
      ap (λ x. is_eq (stamp_cmp (order, q, Some k) (x, m, Some l))) p.0 ∙ ap is_eq (stamp_edge order q m k l) in
      by_bool (is_eq (edge_cmp (q, k) (m, l)))
      (λ h.
      let same : (q, k) ≡ (m, l) = edge_exact (q, k) (m, l) ((Equal-is (edge_cmp (q, k) (m, l))).0 h) in
      let its : value from q (item_of es k) ≡ value from m (item_of es l) =
      ap (λ (x : ℕ × Key). value from x.0 (item_of es x.1)) same in
      found_here q m k l (item_of es l) (edged stamps) (has_stamp stamps (order, q, Some k)) h
      (rest ∙ ap (λ v. cond (has_stamp stamps (order, q, Some k)) v None) its)
      ∙ (sym its
      ∙ ap (λ b. cond (b || has_stamp stamps (order, q, Some k)) (value from q (item_of es k)) None) (sym (head ∙ h))))
      (λ h. passed_over q m k l (item_of es l) (edged stamps) h
      ∙ (rest ∙ ap (λ b. cond (b || has_stamp stamps (order, q, Some k)) (value from q (item_of es k)) None)
      (sym (head ∙ h))))

-- ---- what the definition gathers

abbrev pub or_else : Option Item → Option Item → Option Item
or_else None y = y
or_else (Some i) y = Some i

-- the items that pass a test, each under a moment of it and its key
module _ (crosses : Item → Bool) (edge_of : Item → ℕ) where
  abbrev under : Key × Item → ℕ × Key
  under e = (edge_of e.1, e.0)

  abbrev pub placed : Edged → Items → Edged
  placed found es =
      fold (λ found e. insert_entry edge_cmp found (under e) e.1) found (filter (λ e. crosses e.1) es)

  abbrev pub at : ℕ → Option Item → Option Item
  at q None = None
  at q (Some i) = cond (crosses i && nat_eq q (edge_of i)) (Some i) None

  -- they are in order
  pub sorted_fold : (found : Edged) (es : Items) → IsStrictlySortedBy edge_cmp (keys_of found)
      → IsStrictlySortedBy edge_cmp
      (keys_of (fold (λ found e. insert_entry edge_cmp found (under e) e.1) found es))
  sorted_fold found [] sorted = sorted
  sorted_fold found (e ∷ es) sorted =
      sorted_fold (insert_entry edge_cmp found (under e) e.1) es
      (sorted_inserted edge_total (under e) e.1 found sorted)

  -- what is found of an edge and a key
  tie : (q : ℕ) (k : Key) (e : Key × Item)
      → is_eq (edge_cmp (q, k) (under e)) ≡ (nat_eq q (edge_of e.1) && is_eq (key_cmp k e.0))
  tie q k e =
      eq_then (nat_cmp q (edge_of e.1)) (key_cmp k e.0) ∙ ap (λ b. b && is_eq (key_cmp k e.0)) (eq_nat q (edge_of e.1))

  here_bits : (crossing edge : Bool) (i : Item) (before : Option Item) → crossing ≡ true
      → cond (edge && true) (Some i) before ≡ or_else (cond (crossing && edge) (Some i) None) before
  here_bits crossing true i before h = rw h refl
  here_bits crossing false i before h = rw h refl

  apart_bits : (edge : Bool) (i : Item) (found before : Option Item)
      → or_else found (cond (edge && false) (Some i) before) ≡ or_else found before
  apart_bits true i found before = refl
  apart_bits false i found before = refl

  unlike_bits : (crossing edge : Bool) (i : Item) (before : Option Item) → crossing ≡ false
      → before ≡ or_else (cond (crossing && edge) (Some i) None) before
  unlike_bits crossing edge i before h = rw h refl

  none_first : (before : Option Item) → before ≡ or_else None before
  none_first before = refl

  pub found_placed : (q : ℕ) (k : Key) (es : Items) (found : Edged) → InOrder es
      → lookup (is_at (edge_cmp (q, k))) (placed found es)
      ≡ or_else (at q (item_of es k)) (lookup (is_at (edge_cmp (q, k))) found)
  unfolding IsStrictlySortedBy
  found_placed q k [] found sorted = none_first (lookup (is_at (edge_cmp (q, k))) found)
  found_placed q k (e ∷ es) found sorted =
      let before = lookup (is_at (edge_cmp (q, k))) found in
      let absent : is_eq (key_cmp k e.0) ≡ true → item_of es k ≡ None =
      λ h. lookup-none (is_at (key_cmp k)) es
      (later_apart key_cmp_total k e es ((Equal-is (key_cmp k e.0)).0 h) sorted.0) in
      by_bool (crosses e.1)
      (λ c.
      let rest = found_placed q k es (insert_entry edge_cmp found (under e) e.1) sorted.1
      ∙ ap (or_else (at q (item_of es k))) (lookup-insert_entry edge_total (under e) e.1 (q, k) found
      ∙ ap (λ b. cond b (Some e.1) before) (tie q k e)) in
      ap (λ b. lookup (is_at (edge_cmp (q, k)))
      (fold (λ found e. insert_entry edge_cmp found (under e) e.1) found
      (cond b (e ∷ filter (λ e. crosses e.1) es) (filter (λ e. crosses e.1) es)))) c
      ∙ (rest
      ∙ by_bool (is_eq (key_cmp k e.0))
      (λ h. (λ i. or_else (at q (absent h i)) (cond (nat_eq q (edge_of e.1) && h i) (Some e.1) before))
      ∙ (sym (none_first (cond (nat_eq q (edge_of e.1) && true) (Some e.1) before))
      ∙ (here_bits (crosses e.1) (nat_eq q (edge_of e.1)) e.1 before c
      ∙ ap (λ b. or_else (at q (cond b (Some e.1) (item_of es k))) before) (sym h))))
      (λ h. ap (λ b. or_else (at q (item_of es k)) (cond (nat_eq q (edge_of e.1) && b) (Some e.1) before)) h
      ∙ (apart_bits (nat_eq q (edge_of e.1)) e.1 (at q (item_of es k)) before
      ∙ ap (λ b. or_else (at q (cond b (Some e.1) (item_of es k))) before) (sym h)))))
      (λ c.
      ap (λ b. lookup (is_at (edge_cmp (q, k)))
      (fold (λ found e. insert_entry edge_cmp found (under e) e.1) found
      (cond b (e ∷ filter (λ e. crosses e.1) es) (filter (λ e. crosses e.1) es)))) c
      ∙ (found_placed q k es found sorted.1
      ∙ by_bool (is_eq (key_cmp k e.0))
      (λ h. ap (λ held. or_else (at q held) before) (absent h)
      ∙ (sym (none_first before)
      ∙ (unlike_bits (crosses e.1) (nat_eq q (edge_of e.1)) e.1 before c
      ∙ ap (λ b. or_else (at q (cond b (Some e.1) (item_of es k))) before) (sym h))))
      (λ h. ap (λ b. or_else (at q (cond b (Some e.1) (item_of es k))) before) (sym h))))

-- those of a service that have an edge in a range
abbrev crossing : Service → ℤ → ℤ → Item → Bool
crossing s from to i = is_of s i && has_edge from to i

abbrev first_edge : ℤ → ℤ → Item → ℕ
first_edge from to i = option_map_or (λ edge. edge) (least_edge from to i) 0

-- ---- both are the same

pub service_moments : (s : Service) (i : Item) → moments_of (by_edge s) i ≡ cond (is_of s i) (edges_of i) []
service_moments s i = ap (λ b. cond (nat_eq (by_edge s) by_end) (listed (own_end_of i)) (cond (nat_eq (by_edge s) (by_edge (service_of i)) || b) (edges_of i) [])) (unnamed_edge s i) ∙ by s i
  where
    by : (s : Service) (i : Item) → cond (nat_eq (by_edge s) by_end) (listed (own_end_of i)) (cond (nat_eq (by_edge s) (by_edge (service_of i)) || false) (edges_of i) [])
        ≡ cond (is_of s i) (edges_of i) []
    by service.Stop (item.Visit v) = refl
    by service.Stop (item.Journey j) = refl
    by service.Stop (item.Vehicle v) = refl
    by service.Stop (item.Situation x) = refl
    by service.Timetable (item.Visit v) = refl
    by service.Timetable (item.Journey j) = refl
    by service.Timetable (item.Vehicle v) = refl
    by service.Timetable (item.Situation x) = refl
    by service.Vehicle (item.Visit v) = refl
    by service.Vehicle (item.Journey j) = refl
    by service.Vehicle (item.Vehicle v) = refl
    by service.Vehicle (item.Situation x) = refl
    by service.Situation (item.Visit v) = refl
    by service.Situation (item.Journey j) = refl
    by service.Situation (item.Vehicle v) = refl
    by service.Situation (item.Situation x) = refl

lead_bits : (a b c : Bool) (i : Item) → (a && not b) ≡ c
    → cond a (cond b None (Some i)) None ≡ or_else (cond (true && c) (Some i) None) None
lead_bits true true c i h = rw (← h) refl
lead_bits true false c i h = rw (← h) refl
lead_bits false b c i h = rw (← h) refl

pub none_bits : (w : Bool) (x : Option Item) → cond (w && false) x None ≡ None
none_bits true x = refl
none_bits false x = refl

module _ (s : Service) (from to : ℤ) (q : ℕ) where
  of_item : (i : Item) (b : Bool) → is_of s i ≡ b
      → cond (is_within from to q && has q (cond b (edges_of i) [])) (value from q (Some i)) None
      ≡ or_else (cond ((b && has_edge from to i) && nat_eq q (first_edge from to i)) (Some i) None) None
  of_item i true is =
      lead_bits (is_within from to q && has q (edges_of i)) (has_edge from (pos q) i)
      (has_edge from to i && nat_eq q (first_edge from to i)) i
      (least_in_range from to q (edges_of i))
  of_item i false is = none_bits (is_within from to q) (cond (has_edge from (pos q) i) None (Some i))

  of_held : (h : Option Item)
      → cond (is_within from to q && has q (moments_held (by_edge s) h)) (value from q h) None
      ≡ or_else (at (crossing s from to) (first_edge from to) q h) None
  of_held None = none_bits (is_within from to q) None
  of_held (Some i) =
      ap (λ ms. cond (is_within from to q && has q ms) (value from q (Some i)) None) (service_moments s i)
      ∙ (of_item i (is_of s i) refl)

-- the stamps of an order whose moments pass a test
module _ (order : ℕ) (test : ℕ → Bool) (stamps : List Stamp) where
  abbrev pub passing : List Stamp
  passing = filter (λ stamp. nat_eq stamp.0 order && test stamp.1) stamps

  pub stamp_passing : (es : Items) → Tied es stamps → (q : ℕ) (k : Key)
      → has_stamp passing (order, q, Some k) ≡ (test q && has q (moments_held order (item_of es k)))
  stamp_passing es tied q k =
      any-filter_same (is_at (stamp_cmp (order, q, Some k))) (λ stamp. nat_eq stamp.0 order && test stamp.1)
      (test q) same stamps
      ∙ ap (λ b. test q && b) (tied (order, q, Some k))
    where
      same : (x : Stamp) → is_eq (stamp_cmp (order, q, Some k) x) ≡ true
          → (nat_eq x.0 order && test x.1) ≡ test q
      same x h =
          let parts =
          eq_then (ordering_then (nat_cmp order x.0) (nat_cmp q x.1)) (option_cmp key_cmp (Some k) x.2) in
          let both =
          left_true (is_eq (ordering_then (nat_cmp order x.0) (nat_cmp q x.1)))
          (is_eq (option_cmp key_cmp (Some k) x.2)) (sym parts ∙ h) in
          let each = sym (eq_then (nat_cmp order x.0) (nat_cmp q x.1)) ∙ both in
          let here : order ≡ x.0 =
          equal_numbers order x.0
          (sym (eq_nat order x.0) ∙ left_true (is_eq (nat_cmp order x.0)) (is_eq (nat_cmp q x.1)) each) in
          let moment : q ≡ x.1 =
          equal_numbers q x.1
          (sym (eq_nat q x.1) ∙ right_true (is_eq (nat_cmp order x.0)) (is_eq (nat_cmp q x.1)) each) in
          ap (λ b. b && test x.1) (ap (λ o. nat_eq o order) (sym here) ∙ itself order)
          ∙ ap test (sym moment)

pub of_order : (order : ℕ) (test : ℕ → Bool) (xs : List Stamp) → AllByRecursion (λ x. x.0 ≡ order) (passing order test xs)
of_order order test [] = tt
of_order order test (x ∷ xs) = by_bool (nat_eq x.0 order && test x.1)
    (λ h. rw h (equal_numbers x.0 order (left_true (nat_eq x.0 order) (test x.1) h), of_order order test xs))
    (λ h. rw h (of_order order test xs))

-- of an order in which the held items have the moments that they have in that of a service
abbrev pub Alike : ℕ → Service → Items → Type 0
Alike order s es = (k : Key) → moments_held order (item_of es k) ≡ moments_held (by_edge s) (item_of es k)

module _ (order : ℕ) (s : Service) (from to : ℤ) (es : Items) (stamps : List Stamp) (tied : Tied es stamps) where
  pub led_crossed : Alike order s es → InOrder es → IsStrictlySortedBy stamp_cmp stamps
      → led from es (between order from to stamps) ≡ crossed_entries s from to es
  unfolding IsStrictlySortedBy
  led_crossed alike ordered sorted =
      let there = between order from to stamps in
      let all : AllByRecursion (λ x. x.0 ≡ order) there = of_order order (is_within from to) stamps in
      let l = edged from es there in
      let r = in_order_of_edges s from to es in
      let same : l ≡ r = same_entries edge_total edge_exact l r
      (sorted_edged from es order there
      (IsStrictlySortedBy-filter stamp_cmp (is_between order from to) stamps sorted) all)
      (sorted_fold (crossing s from to) (first_edge from to) [] (filter (λ e. crossing s from to e.1) es) tt)
      (λ x. found_edged from es order x.0 x.1 there all
      ∙ (ap (λ b. cond b (value from x.0 (item_of es x.1)) None)
      (stamp_passing order (is_within from to) stamps es tied x.0 x.1 ∙ ap (λ ms. is_within from to x.0 && has x.0 ms) (alike x.1))
      ∙ (of_held s from to x.0 (item_of es x.1) ∙ sym (found_placed (crossing s from to) (first_edge from to) x.0 x.1 es [] ordered)))) in
      sym (unkeyed from es there) ∙ ap (map (λ f. (f.0.1, f.1))) same

-- ---- what a walk over them has found

pub most_counted : (before found now new all : ℕ) → now ≡ counted before found → new ≡ counted now 1 → found + 1 ≤ all
    → new ≤ before + all
most_counted before found now new all a b le = omega (arith, a, b, le)
