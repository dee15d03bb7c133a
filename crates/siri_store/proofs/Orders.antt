-- Stamps that are put, that are taken out, and that come first.
use Rattle.std.proofs.Common.{◌≡◌, ◌+◌, ◌<◌, ℕ, Bool, true, false, cond, ◌&&◌, ◌||◌, List, [], ◌∷◌, Option, Some, None, refl, ap}
use Rattle.std.proofs.Common.{◌∙◌, sym, arith}
use Rattle.std.specs.Prelude.{not, nat_eq, nat_lt, nat_le, max, ℤ, pos, int_lt}
use Rattle.std.specs.BTreeMap.Range.{range_contains}
use Rattle.std.specs.declared.ops.Bound.TheVariants.{Included, Excluded}
use Rattle.std.specs.Ordering.{nat_cmp, ordering_then, is_eq, is_lt, is_le}
use Rattle.std.specs.Option.{option_cmp, option_map_or}
use Rattle.std.specs.declared.cmp.Ordering.{Ordering}
use Rattle.std.specs.declared.cmp.Ordering.TheVariants.{Less, Equal, Greater}
use Rattle.std.proofs.lemmas.Bool.Decides.{nat_tests}
use Rattle.siri_records.specs.declared.item.Item.{Item}
use Rattle.siri_records.specs.declared.item.Item.TheVariants as item
use Rattle.siri_records.specs.declared.item.Service.{Service}
use Rattle.siri_records.specs.declared.item.Service.TheVariants as service
use Rattle.siri_records.specs.declared.key.Key.{Key}
use Rattle.siri_records.specs.Edges.{listed, edges_of}
use Rattle.siri_records.specs.Order.{key_cmp}
use Rattle.siri_store.specs.Stamped.{Stamp, stamp_cmp, has_stamp, has, moments_of, is_one_at, is_one_named, is_one_of}
use Rattle.siri_store.specs.Stamped.{by_end, by_edge, digest, is_by_name, order_of_name, own_end_of}
use Rattle.siri_store.specs.Between.{is_between, is_since}
use Rattle.siri_records.specs.Services.{service_of}

-- ---- one stamp

pub eq_then : (o p : Ordering) → is_eq (ordering_then o p) ≡ (is_eq o && is_eq p)
eq_then Less p = refl
eq_then Equal p = refl
eq_then Greater p = refl

pub eq_nat : (a b : ℕ) → is_eq (nat_cmp a b) ≡ nat_eq a b
eq_nat a b = grind (arith, nat_tests)

none_eq : (b : Bool) → (b && false) ≡ false
none_eq true = refl
none_eq false = refl

bits : (a b c : Bool) → ((a && b) && c) ≡ (a && (c && (b || false)))
bits true true true = refl
bits true true false = refl
bits true false true = refl
bits true false false = refl
bits false b c = refl

pub both_are : (a b : Bool) → (a && b) ≡ true → (a ≡ true) × (b ≡ true)
both_are true true h = (refl, refl)
both_are true false h = absurd (cc h)
both_are false b h = absurd (cc h)

pub equal_numbers : (a b : ℕ) → nat_eq a b ≡ true → a ≡ b
equal_numbers a b h = grind (arith, nat_tests)

turned_eq : (a b : ℕ) → nat_eq a b ≡ nat_eq b a
turned_eq a b = grind (arith, nat_tests)

pub one_stamp : (order moment : ℕ) (key : Key) (s : Stamp)
    → is_eq (stamp_cmp (order, moment, Some key) s) ≡ is_one_at order key (moment ∷ []) s
one_stamp order moment key (o, m, None) =
    eq_then (ordering_then (nat_cmp order o) (nat_cmp moment m)) Greater
    ∙ none_eq (is_eq (ordering_then (nat_cmp order o) (nat_cmp moment m)))
one_stamp order moment key (o, m, Some k) =
    eq_then (ordering_then (nat_cmp order o) (nat_cmp moment m)) (key_cmp key k)
    ∙ (ap (λ b. b && is_eq (key_cmp key k)) (eq_then (nat_cmp order o) (nat_cmp moment m))
    ∙ ((λ i. (eq_nat order o i && eq_nat moment m i) && is_eq (key_cmp key k))
    ∙ (bits (nat_eq order o) (nat_eq moment m) (is_eq (key_cmp key k))
    ∙ ap (λ b. nat_eq order o && (is_eq (key_cmp key k) && (b || false))) (turned_eq moment m))))

put_bits : (b c : Bool) → cond b true c ≡ (b || c)
put_bits true c = refl
put_bits false c = refl

gone_bits : (b c : Bool) → cond b false c ≡ (c && not b)
gone_bits true true = refl
gone_bits true false = refl
gone_bits false true = refl
gone_bits false false = refl

pub one_put : (old new : List Stamp) (stamp : Stamp) (order moment : ℕ) (key : Key) → stamp ≡ (order, moment, Some key)
    → ((s : Stamp) → has_stamp new s ≡ cond (is_eq (stamp_cmp stamp s)) true (has_stamp old s))
    → (s : Stamp) → has_stamp new s ≡ (is_one_at order key (moment ∷ []) s || has_stamp old s)
one_put old new stamp order moment key is updates s =
    updates s ∙ (put_bits (is_eq (stamp_cmp stamp s)) (has_stamp old s)
    ∙ ap (λ b. b || has_stamp old s) (ap (λ (x : Stamp). is_eq (stamp_cmp x s)) is ∙ one_stamp order moment key s))

pub one_gone : (old new : List Stamp) (stamp : Stamp) (order moment : ℕ) (key : Key) → stamp ≡ (order, moment, Some key)
    → ((s : Stamp) → has_stamp new s ≡ cond (is_eq (stamp_cmp stamp s)) false (has_stamp old s))
    → (s : Stamp) → has_stamp new s ≡ (has_stamp old s && not (is_one_at order key (moment ∷ []) s))
one_gone old new stamp order moment key is updates s =
    updates s ∙ (gone_bits (is_eq (stamp_cmp stamp s)) (has_stamp old s)
    ∙ ap (λ b. has_stamp old s && not b) (ap (λ (x : Stamp). is_eq (stamp_cmp x s)) is ∙ one_stamp order moment key s))

-- ---- many stamps

-- a stamp at the first moment, or at one of the others
more_bits : (a b c d : Bool) → (a && (b && (c || d))) ≡ ((a && (b && (c || false))) || (a && (b && d)))
more_bits true true true d = refl
more_bits true true false d = refl
more_bits true false c d = refl
more_bits false b c d = refl

pub one_more : (order : ℕ) (key : Key) (m : ℕ) (ms : List ℕ) (s : Stamp)
    → is_one_at order key (m ∷ ms) s ≡ (is_one_at order key (m ∷ []) s || is_one_at order key ms s)
one_more order key m ms (o, n, None) = refl
one_more order key m ms (o, n, Some k) = more_bits (nat_eq order o) (is_eq (key_cmp key k)) (nat_eq n m) (has n ms)

pub none_there : (order : ℕ) (key : Key) (s : Stamp) → is_one_at order key [] s ≡ false
none_there order key (o, n, None) = refl
none_there order key (o, n, Some k) = none_bits (nat_eq order o) (is_eq (key_cmp key k))
  where
    none_bits : (a b : Bool) → (a && (b && false)) ≡ false
    none_bits true true = refl
    none_bits true false = refl
    none_bits false b = refl

-- ---- the stamps of an item

-- an order of a name is none of those by ends and by edges
above : (n d : ℕ) → n < 5 → nat_eq (5 + d) n ≡ false
above n d below = grind (arith, nat_tests)

below_five : (s : Service) → by_edge s < 5
below_five service.Stop = omega arith
below_five service.Timetable = omega arith
below_five service.Vehicle = omega arith
below_five service.Situation = omega arith

-- no item has a name in those
pub unnamed : (order : ℕ) (i : Item) → order < 5 → is_by_name order i ≡ false
unnamed order (item.Visit v) below = above order (digest (by_edge service.Stop) v.monitoring_ref) below
unnamed order (item.Journey j) below = above order (digest (by_edge service.Timetable) j.line_ref) below
unnamed order (item.Vehicle v) below = refl
unnamed order (item.Situation s) below = refl

pub unnamed_edge : (s : Service) (i : Item) → is_by_name (by_edge s) i ≡ false
unnamed_edge s i = unnamed (by_edge s) i (below_five s)

apart : (order : ℕ) (s : Service) → nat_eq order 0 ≡ true → nat_eq order (by_edge s) ≡ false
apart order service.Stop h = grind (arith, nat_tests)
apart order service.Timetable h = grind (arith, nat_tests)
apart order service.Vehicle h = grind (arith, nat_tests)
apart order service.Situation h = grind (arith, nat_tests)

apart_name : (order : ℕ) (i : Item) → nat_eq order 0 ≡ true → is_by_name order i ≡ false
apart_name order i h = ap (λ o. is_by_name o i) (equal_numbers order 0 h) ∙ unnamed 0 i (omega arith)

item_bits : (ends edges named same e1 e2 e : Bool) → (ends ≡ true → edges ≡ false) → (ends ≡ true → named ≡ false)
    → (ends ≡ true → e ≡ e1) → (ends ≡ false → (edges || named) ≡ true → e ≡ e2)
    → (ends ≡ false → (edges || named) ≡ false → e ≡ false)
    → (same && e) ≡ ((ends && (same && e1)) || ((edges && (same && e2)) || (named && (same && e2))))
item_bits true true named same e1 e2 e unlike other a b c = absurd (cc (unlike refl))
item_bits true false true same e1 e2 e unlike other a b c = absurd (cc (other refl))
item_bits true false false true e1 e2 e unlike other a b c = a refl ∙ right e1
  where
    right : (b : Bool) → b ≡ (b || false)
    right true = refl
    right false = refl
item_bits true false false false e1 e2 e unlike other a b c = refl
item_bits false true named true e1 e2 e unlike other a b c = b refl refl ∙ twice named e2
  where
    twice : (n b : Bool) → b ≡ (b || (n && b))
    twice n true = refl
    twice true false = refl
    twice false false = refl
item_bits false true named false e1 e2 e unlike other a b c = none named
  where
    none : (n : Bool) → false ≡ (n && false)
    none true = refl
    none false = refl
item_bits false false true true e1 e2 e unlike other a b c = b refl refl
item_bits false false true false e1 e2 e unlike other a b c = refl
item_bits false false false true e1 e2 e unlike other a b c = c refl refl
item_bits false false false false e1 e2 e unlike other a b c = refl

module _ (order : ℕ) (i : Item) where
  at_end : nat_eq order by_end ≡ true → moments_of order i ≡ listed (own_end_of i)
  at_end h = rw h refl

  at_edge : nat_eq order by_end ≡ false → (nat_eq order (by_edge (service_of i)) || is_by_name order i) ≡ true
      → moments_of order i ≡ edges_of i
  at_edge h e = rw h (rw e refl)

  at_none : nat_eq order by_end ≡ false → (nat_eq order (by_edge (service_of i)) || is_by_name order i) ≡ false
      → moments_of order i ≡ []
  at_none h e = rw h (rw e refl)

named_is : (key : Key) (named : Option ℕ) (edges : List ℕ) (o m : ℕ) (k : Key)
    → (option_map_or (λ n. nat_eq n o) named false && (is_eq (key_cmp key k) && has m edges))
    ≡ is_one_named named key edges (o, m, Some k)
named_is key None edges o m k = refl
named_is key (Some n) edges o m k = refl

none_named : (key : Key) (named : Option ℕ) (edges : List ℕ) (o m : ℕ) → is_one_named named key edges (o, m, None) ≡ false
none_named key None edges o m = refl
none_named key (Some n) edges o m = refl

pub of_item : (key : Key) (i : Item) (s : Stamp)
    → is_one_of key (Some i) s
    ≡ (is_one_at by_end key (listed (own_end_of i)) s
    || (is_one_at (by_edge (service_of i)) key (edges_of i) s || is_one_named (order_of_name i) key (edges_of i) s))
of_item key i (o, m, None) = sym (none_named key (order_of_name i) (edges_of i) o m)
of_item key i (o, m, Some k) =
    item_bits (nat_eq o by_end) (nat_eq o (by_edge (service_of i))) (is_by_name o i) (is_eq (key_cmp key k))
    (has m (listed (own_end_of i))) (has m (edges_of i)) (has m (moments_of o i))
    (apart o (service_of i)) (apart_name o i)
    (λ h. ap (has m) (at_end o i h)) (λ h e. ap (has m) (at_edge o i h e)) (λ h e. ap (has m) (at_none o i h e))
    ∙ (λ j. (turned_eq o by_end j && (is_eq (key_cmp key k) && has m (listed (own_end_of i)))) ||
    ((turned_eq o (by_edge (service_of i)) j && (is_eq (key_cmp key k) && has m (edges_of i))) ||
    named_is key (order_of_name i) (edges_of i) o m k j))

-- ---- one more of many

or_true : (b : Bool) → (b || true) ≡ true
or_true true = refl
or_true false = refl

left_bits : (cur one pend pending all old new : Bool) → pending ≡ (one || pend) → new ≡ (one || cur)
    → (cur || pending) ≡ (all || old) → (new || pend) ≡ (all || old)
left_bits cur true pend pending all old new p n h = rw n (sym (or_true cur) ∙ rw p at h)
left_bits cur false pend pending all old new p n h = rw n (rw p at h)

some_bits : (cur one pend pending all old new : Bool) → pending ≡ (one || pend) → new ≡ (one || cur)
    → (cur || pending) ≡ (all || old)
    → cur ≡ (old || (all && cur)) → new ≡ (old || (all && new))
some_bits cur true pend pending true true new p n h g = n ∙ refl
some_bits cur true pend pending true false new p n h g = rw n refl
some_bits cur true pend pending false true new p n h g = n ∙ refl
some_bits true true pend pending false false new p n h g = absurd (cc h)
some_bits false true pend pending false false new p n h g = absurd (cc (p, h))
some_bits cur false pend pending all old new p n h g = rw n g

module _ (order : ℕ) (key : Key) (all pending : List ℕ) (m : ℕ) (pend : List ℕ) (is : pending ≡ m ∷ pend)
    (old cur new : List Stamp) where
  pending_bits : (s : Stamp)
      → is_one_at order key pending s ≡ (is_one_at order key (m ∷ []) s || is_one_at order key pend s)
  pending_bits s = ap (λ ms. is_one_at order key ms s) is ∙ one_more order key m pend s

  module _ (more : (s : Stamp) → has_stamp new s ≡ (is_one_at order key (m ∷ []) s || has_stamp cur s))
      (left : (s : Stamp)
      → (has_stamp cur s || is_one_at order key pending s) ≡ (is_one_at order key all s || has_stamp old s)) where
    pub left_next : (s : Stamp)
        → (has_stamp new s || is_one_at order key pend s) ≡ (is_one_at order key all s || has_stamp old s)
    left_next s =
        left_bits (has_stamp cur s) (is_one_at order key (m ∷ []) s) (is_one_at order key pend s)
        (is_one_at order key pending s)
        (is_one_at order key all s) (has_stamp old s) (has_stamp new s) (pending_bits s) (more s) (left s)

    pub some_next :
        ((s : Stamp) → has_stamp cur s ≡ (has_stamp old s || (is_one_at order key all s && has_stamp cur s)))
        → (s : Stamp) → has_stamp new s ≡ (has_stamp old s || (is_one_at order key all s && has_stamp new s))
    some_next some s =
        some_bits (has_stamp cur s) (is_one_at order key (m ∷ []) s) (is_one_at order key pend s)
        (is_one_at order key pending s)
        (is_one_at order key all s) (has_stamp old s) (has_stamp new s) (pending_bits s) (more s) (left s) (some s)

first_bits : (b c : Bool) → b ≡ (b || (c && b))
first_bits true c = refl
first_bits false true = refl
first_bits false false = refl

pub some_first : (order : ℕ) (key : Key) (all : List ℕ) (old : List Stamp) (s : Stamp)
    → has_stamp old s ≡ (has_stamp old s || (is_one_at order key all s && has_stamp old s))
some_first order key all old s = first_bits (has_stamp old s) (is_one_at order key all s)

none_or : (b : Bool) → b ≡ (b || false)
none_or true = refl
none_or false = refl

-- ---- one less of many

true_and : (b : Bool) → b ≡ (b && true)
true_and true = refl
true_and false = refl

-- ---- the stamps of an item, added and taken out

add_bits : (a b n old mid more new : Bool) → mid ≡ (a || old) → more ≡ (b || mid) → new ≡ (n || more)
    → new ≡ ((a || (b || n)) || old)
add_bits a b true old mid more new m k n = n ∙ whole a b
  where
    whole : (a b : Bool) → true ≡ ((a || (b || true)) || old)
    whole true b = refl
    whole false true = refl
    whole false false = refl
add_bits true true false old mid more new m k n = n ∙ k
add_bits true false false old mid more new m k n = n ∙ (k ∙ m)
add_bits false true false old mid more new m k n = n ∙ k
add_bits false false false old mid more new m k n = n ∙ (k ∙ m)

-- with the stamps of the order of an item's name, where it has one
abbrev pub Named : Key → Option ℕ → List ℕ → List Stamp → List Stamp → Type 0
Named key named edges mid new = (s : Stamp) → has_stamp new s ≡ (is_one_named named key edges s || has_stamp mid s)

module _ (key : Key) (i : Item) (old : List Stamp) where
  pub added : (mid more new : List Stamp)
      → ((s : Stamp) → has_stamp mid s ≡ (is_one_at by_end key (listed (own_end_of i)) s || has_stamp old s))
      → ((s : Stamp) → has_stamp more s ≡ (is_one_at (by_edge (service_of i)) key (edges_of i) s || has_stamp mid s))
      → Named key (order_of_name i) (edges_of i) more new
      → (s : Stamp) → has_stamp new s ≡ (is_one_of key (Some i) s || has_stamp old s)
  added mid more new a b n s =
      add_bits (is_one_at by_end key (listed (own_end_of i)) s) (is_one_at (by_edge (service_of i)) key (edges_of i) s)
      (is_one_named (order_of_name i) key (edges_of i) s)
      (has_stamp old s) (has_stamp mid s) (has_stamp more s) (has_stamp new s) (a s) (b s) (n s)
      ∙ ap (λ x. x || has_stamp old s) (sym (of_item key i s))

-- some stamps of an item are there, and none else is new
some_bits_of : (own part mid new old : Bool) → (part ≡ true → own ≡ true) → mid ≡ (old || (own && mid))
    → new ≡ (mid || (part && new)) → new ≡ (old || (own && new))
some_bits_of true part mid new true within m n = n ∙ ap (λ b. b || (part && new)) m
some_bits_of true part mid new false within m n = refl
some_bits_of false true mid new old within m n = absurd (cc (within refl))
some_bits_of false false mid new old within m n = n ∙ (right mid ∙ m)
  where
    right : (b : Bool) → (b || false) ≡ b
    right true = refl
    right false = refl

or_left : (a b : Bool) → a ≡ true → (a || b) ≡ true
or_left true b h = refl
or_left false b h = absurd (cc h)

or_right : (a b : Bool) → b ≡ true → (a || b) ≡ true
or_right true b h = refl
or_right false b h = h

module _ (key : Key) (i : Item) (s : Stamp) where
  abbrev one_end : Bool
  one_end = is_one_at by_end key (listed (own_end_of i)) s

  abbrev one_edge : Bool
  one_edge = is_one_at (by_edge (service_of i)) key (edges_of i) s

  abbrev one_name : Bool
  one_name = is_one_named (order_of_name i) key (edges_of i) s

  end_within : one_end ≡ true → is_one_of key (Some i) s ≡ true
  end_within h = of_item key i s ∙ or_left one_end (one_edge || one_name) h

  edge_within : one_edge ≡ true → is_one_of key (Some i) s ≡ true
  edge_within h = of_item key i s ∙ or_right one_end (one_edge || one_name) (or_left one_edge one_name h)

  name_within : one_name ≡ true → is_one_of key (Some i) s ≡ true
  name_within h = of_item key i s ∙ or_right one_end (one_edge || one_name) (or_right one_edge one_name h)

abbrev pub SomeOf : Key → Item → List Stamp → List Stamp → Type 0
SomeOf key i old new = (s : Stamp) → has_stamp new s ≡ (has_stamp old s || (is_one_of key (Some i) s && has_stamp new s))

none_more : (b c : Bool) → b ≡ (b || (c && b))
none_more true c = refl
none_more false true = refl
none_more false false = refl

module _ (key : Key) (i : Item) (old mid new : List Stamp) where
  pub some_end : ((s : Stamp) → has_stamp new s ≡ (has_stamp old s || (is_one_at by_end key (listed (own_end_of i)) s && has_stamp new s)))
      → SomeOf key i old new
  some_end n s =
      some_bits_of (is_one_of key (Some i) s) (one_end key i s) (has_stamp old s) (has_stamp new s) (has_stamp old s) (end_within key i s)
      (none_more (has_stamp old s) (is_one_of key (Some i) s)) (n s)

  pub some_edge : SomeOf key i old mid
      → ((s : Stamp) → has_stamp new s ≡ (has_stamp mid s || (is_one_at (by_edge (service_of i)) key (edges_of i) s && has_stamp new s)))
      → SomeOf key i old new
  some_edge m n s =
      some_bits_of (is_one_of key (Some i) s) (one_edge key i s) (has_stamp mid s) (has_stamp new s) (has_stamp old s) (edge_within key i s)
      (m s) (n s)

  pub some_name : SomeOf key i old mid
      → ((s : Stamp) → has_stamp new s ≡ (has_stamp mid s || (is_one_named (order_of_name i) key (edges_of i) s && has_stamp new s)))
      → SomeOf key i old new
  some_name m n s =
      some_bits_of (is_one_of key (Some i) s) (one_name key i s) (has_stamp mid s) (has_stamp new s) (has_stamp old s) (name_within key i s)
      (m s) (n s)

out_bits : (a b n kept old mid more new : Bool) → mid ≡ (old && not (a && not kept)) → more ≡ (mid && not (b && not kept))
    → new ≡ (more && not (n && not kept)) → new ≡ (old && not ((a || (b || n)) && not kept))
out_bits a b n true old mid more new m k l = l ∙ ((λ i. k i && not (n && false)) ∙ ((λ i. (m i && not (b && false)) && not (n && false)) ∙ stay a b n old))
  where
    stay : (a b n old : Bool) → (((old && not (a && false)) && not (b && false)) && not (n && false)) ≡ (old && not ((a || (b || n)) && false))
    stay true true true true = refl
    stay true true true false = refl
    stay true true false true = refl
    stay true true false false = refl
    stay true false true true = refl
    stay true false true false = refl
    stay true false false true = refl
    stay true false false false = refl
    stay false true true true = refl
    stay false true true false = refl
    stay false true false true = refl
    stay false true false false = refl
    stay false false true true = refl
    stay false false true false = refl
    stay false false false true = refl
    stay false false false false = refl
out_bits a b n false old mid more new m k l = l ∙ ((λ i. k i && not (n && true)) ∙ ((λ i. (m i && not (b && true)) && not (n && true)) ∙ gone a b n old))
  where
    gone : (a b n old : Bool) → (((old && not (a && true)) && not (b && true)) && not (n && true)) ≡ (old && not ((a || (b || n)) && true))
    gone true true true true = refl
    gone true true true false = refl
    gone true true false true = refl
    gone true true false false = refl
    gone true false true true = refl
    gone true false true false = refl
    gone true false false true = refl
    gone true false false false = refl
    gone false true true true = refl
    gone false true true false = refl
    gone false true false true = refl
    gone false true false false = refl
    gone false false true true = refl
    gone false false true false = refl
    gone false false false true = refl
    gone false false false false = refl

pub taken_out : (key : Key) (i : Item) (kept : Option Item) (old mid more new : List Stamp)
    → ((s : Stamp)
    → has_stamp mid s
    ≡ (has_stamp old s && not (is_one_at by_end key (listed (own_end_of i)) s && not (is_one_of key kept s))))
    → ((s : Stamp)
    → has_stamp more s
    ≡ (has_stamp mid s && not (is_one_at (by_edge (service_of i)) key (edges_of i) s && not (is_one_of key kept s))))
    → ((s : Stamp)
    → has_stamp new s
    ≡ (has_stamp more s && not (is_one_named (order_of_name i) key (edges_of i) s && not (is_one_of key kept s))))
    → (s : Stamp) → has_stamp new s ≡ (has_stamp old s && not (is_one_of key (Some i) s && not (is_one_of key kept s)))
taken_out key i kept old mid more new a b n s =
    out_bits (is_one_at by_end key (listed (own_end_of i)) s) (is_one_at (by_edge (service_of i)) key (edges_of i) s)
    (is_one_named (order_of_name i) key (edges_of i) s)
    (is_one_of key kept s) (has_stamp old s) (has_stamp mid s) (has_stamp more s) (has_stamp new s) (a s) (b s) (n s)
    ∙ ap (λ x. has_stamp old s && not (x && not (is_one_of key kept s))) (sym (of_item key i s))

pub none_out : (key : Key) (kept : Option Item) (old : List Stamp) (s : Stamp)
    → has_stamp old s ≡ (has_stamp old s && not (is_one_of key None s && not (is_one_of key kept s)))
none_out key kept old (o, m, None) = true_and (has_stamp old (o, m, None))
none_out key kept old (o, m, Some k) =
    true_and (has_stamp old (o, m, Some k))
    ∙ ap (λ b. has_stamp old (o, m, Some k) && not (b && not (is_one_of key kept (o, m, Some k))))
    (sym (none_eq (is_eq (key_cmp key k))))

-- ---- a range of moments

le_then : (o p : Ordering) → is_le (ordering_then o p) ≡ (is_lt o || (is_eq o && is_le p))
le_then Less p = refl
le_then Equal p = refl
le_then Greater p = refl

le_key : (o : Ordering) (k : Option Key) → is_le (ordering_then o (option_cmp key_cmp None k)) ≡ is_le o
le_key Less k = refl
le_key Equal None = refl
le_key Equal (Some k) = refl
le_key Greater k = refl

le_case : (a b : ℕ) (lt eq : Bool) → nat_lt a b ≡ lt → nat_eq a b ≡ eq
    → is_le (cond lt Less (cond eq Equal Greater)) ≡ nat_le a b
le_case a b true eq l e = grind (arith, l)
le_case a b false true l e = grind (arith, l, e)
le_case a b false false l e = grind (arith, l, e)

le_nat : (a b : ℕ) → is_le (nat_cmp a b) ≡ nat_le a b
le_nat a b = le_case a b (nat_lt a b) (nat_eq a b) refl refl

lt_case : (a b : ℕ) (lt eq : Bool) → is_lt (cond lt Less (cond eq Equal Greater)) ≡ lt
lt_case a b true eq = refl
lt_case a b false true = refl
lt_case a b false false = refl

lt_nat : (a b : ℕ) → is_lt (nat_cmp a b) ≡ nat_lt a b
lt_nat a b = lt_case a b (nat_lt a b) (nat_eq a b)

at_or_above : (order bound : ℕ) (s : Stamp)
    → is_le (stamp_cmp (order, bound, None) s) ≡ (nat_lt order s.0 || (nat_eq order s.0 && nat_le bound s.1))
at_or_above order bound (o, m, k) =
    le_key (ordering_then (nat_cmp order o) (nat_cmp bound m)) k
    ∙ (le_then (nat_cmp order o) (nat_cmp bound m)
    ∙ (λ i. lt_nat order o i || (eq_nat order o i && le_nat bound m i)))

range_bits : (lt eq low high : Bool) → (lt ≡ true → eq ≡ false)
    → ((lt || (eq && low)) && not (lt || (eq && high))) ≡ (eq && (low && not high))
range_bits true eq low high unlike = rw (unlike refl) refl
range_bits false true low high unlike = refl
range_bits false false low high unlike = refl

not_le : (a b : ℕ) → not (nat_le a b) ≡ nat_lt b a
not_le a b = grind arith

le_not : (a b : ℕ) → nat_le a b ≡ not (nat_lt b a)
le_not a b = grind arith

less_unlike : (a b : ℕ) → nat_lt a b ≡ true → nat_eq a b ≡ false
less_unlike a b h = grind (arith, nat_tests)

-- of a range that ends where it begins, or after that
capped : (from to m : ℕ) → (not (nat_lt m from) && nat_lt m (max to from)) ≡ (not (nat_lt m from) && nat_lt m to)
capped from to m = grind arith

pub in_range : (order low high : ℕ) (from to : ℤ) → ((m : ℕ) → nat_lt m low ≡ int_lt (pos m) from)
    → ((m : ℕ) → nat_lt m high ≡ int_lt (pos m) to)
    → (s : Stamp)
    → range_contains stamp_cmp (Included (order, low, None)) (Excluded (order, max high low, None)) s
    ≡ is_between order from to s
in_range order low high from to lower upper s =
    (λ i. at_or_above order low s i && not (at_or_above order (max high low) s i))
    ∙ (range_bits (nat_lt order s.0) (nat_eq order s.0) (nat_le low s.1) (nat_le (max high low) s.1)
    (less_unlike order s.0)
    ∙ (λ i. turned_eq order s.0 i &&
    ((λ j. le_not low s.1 j && not_le (max high low) s.1 j)
    ∙ (capped low high s.1 ∙ (λ j. not (lower s.1 j) && upper s.1 j))) i))

-- from one moment on, up to the next order

since_bits : (lt eq low : Bool) → (lt ≡ true → eq ≡ false) → ((lt || (eq && low)) && not lt) ≡ (eq && low)
since_bits true eq low unlike = ap (λ b. b && low) (sym (unlike refl))
since_bits false true true unlike = refl
since_bits false true false unlike = refl
since_bits false false low unlike = refl

next_order : (o n m : ℕ) → (nat_lt (o + 1) n || (nat_eq (o + 1) n && nat_le 0 m)) ≡ nat_lt o n
next_order o n m = grind (arith, nat_tests)

pub in_since : (order low : ℕ) (from : ℤ) → ((m : ℕ) → nat_lt m low ≡ int_lt (pos m) from)
    → (s : Stamp)
    → range_contains stamp_cmp (Included (order, low, None)) (Excluded (order + 1, 0, None)) s ≡ is_since order from s
in_since order low from lower s =
    (λ i. at_or_above order low s i && not (at_or_above (order + 1) 0 s i))
    ∙ (ap (λ over. (nat_lt order s.0 || (nat_eq order s.0 && nat_le low s.1)) && not over) (next_order order s.0 s.1)
    ∙ (since_bits (nat_lt order s.0) (nat_eq order s.0) (nat_le low s.1) (less_unlike order s.0)
    ∙ (λ i. turned_eq order s.0 i && (le_not low s.1 ∙ ap not (lower s.1)) i)))
