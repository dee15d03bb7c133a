-- The first so many by call moment and then key, against ranks of call moments and places.
use Rattle.std.proofs.Common.{◌≡◌, ℕ, suc, zero, ◌+◌, ◌<◌, ◌≤◌, List, [], ◌∷◌, ◌++◌, length, get_or, take, drop, map, count_by, nat_lt}
use Rattle.std.proofs.Common.{nat_eq, Bool, true, false, cond, refl, sym, ap, ◌∙◌, arith, append_assoc, inl, inr}
use Rattle.std.specs.Cmp.{IsTotalOrder, tied_itself, then_total, on_total, nat_cmp_total}
use Rattle.std.specs.Cmp.Lexicographic.{options_total}
use Rattle.std.specs.List.{filter, enumerate_from}
use Rattle.std.specs.List.Sorted.{IsSorted, IsPermutation, IsStrictlySortedBy}
use Rattle.std.specs.Map.{keys_of, values_of}
use Rattle.std.specs.Option.{option_cmp}
use Rattle.std.specs.Ordering.{nat_cmp, is_lt, is_le, ordering_reverse, ordering_then}
use Rattle.std.specs.declared.cmp.Ordering.{Ordering}
use Rattle.std.specs.declared.cmp.Ordering.TheVariants.{Less, Equal, Greater}
use Rattle.std.proofs.lemmas.Bool.{cases_lt, lt-ltb, le-ltb}
use Rattle.std.proofs.lemmas.List.{length-take-le, length-drop, get_or-take, get_or-drop}
use Rattle.std.proofs.lemmas.List.Sums.{sum_by-cons, sum_by-take-drop, count_by-le-length, count_by_more_no}
use Rattle.std.proofs.lemmas.List.Sorted.{ranks_by, sorted_far, sum_by-IsPermutation, length_permutation}
use Rattle.std.proofs.lemmas.Map.Keys.{Less-from_sorted}
use Rattle.siri_records.specs.declared.item.Item.{Item}
use Rattle.siri_records.specs.declared.key.Key.{Key}
use Rattle.siri_records.specs.Ends.{entry_of}
use Rattle.siri_records.specs.Order.{key_cmp, key_cmp_total}
use Rattle.siri_records.specs.Keyed.{Items, InOrder}
use Rattle.siri_model.specs.Direct.{soonest_cmp, items_before, soonest}
use Rattle.siri_responder.specs.Answering.{Rank, rank_cmp, rank_of, ranks_of, up_to, up_to_from}

-- ---- counting

module _ {X : Type 0} (p : X → Bool) (d : X) where
  count_cons : (x : X) (xs : List X) → count_by p (x ∷ xs) ≡ cond (p x) 1 0 + count_by p xs
  count_cons x xs = sum_by-cons (λ x. cond (p x) 1 0) x xs

  count_none : (xs : List X) → ((j : ℕ) → j < length xs → p (get_or xs j d) ≡ false) → count_by p xs ≡ 0
  count_none [] none = refl
  count_none (x ∷ xs) none =
      let rest = count_none xs (λ j lt. none (suc j) (omega (arith, lt))) in
      let first = ap {B = ℕ} (λ b. cond b 1 0) (none 0 (omega arith)) in
      count_cons x xs ∙ omega (arith, rest, first)

  count_all : (xs : List X) → ((j : ℕ) → j < length xs → p (get_or xs j d) ≡ true) → count_by p xs ≡ length xs
  count_all [] all = refl
  count_all (x ∷ xs) all =
      let rest = count_all xs (λ j lt. all (suc j) (omega (arith, lt))) in
      let first = ap {B = ℕ} (λ b. cond b 1 0) (all 0 (omega arith)) in
      count_cons x xs ∙ omega (arith, rest, first)

  count_split : (i : ℕ) (xs : List X) → count_by p (take i xs) + count_by p (drop i xs) ≡ count_by p xs
  count_split i xs = sum_by-take-drop (λ x. cond (p x) 1 0) xs i

  -- none from a place on
  count_front : (i : ℕ) (xs : List X) → i ≤ length xs → ((j : ℕ) → i ≤ j → j < length xs → p (get_or xs j d) ≡ false) → count_by p xs ≤ i
  count_front i xs le none =
      let later = count_none (drop i xs) (λ j lt. rw (get_or-drop i xs j d) (none (i + j) (omega arith) (omega (arith, lt, length-drop i xs)))) in
      omega (arith, later, count_split i xs, count_by-le-length p (take i xs), length-take-le i xs le)

  -- all before a place
  count_least : (i : ℕ) (xs : List X) → i ≤ length xs → ((j : ℕ) → j < i → p (get_or xs j d) ≡ true) → i ≤ count_by p xs
  count_least i xs le all =
      let front = count_all (take i xs) (λ j lt. let within : j < i = omega (arith, lt, length-take-le i xs le) in
      rw (get_or-take i xs j d within) (all j within)) in
      omega (arith, front, count_split i xs, length-take-le i xs le)

  -- not all
  pub count_below : (i : ℕ) (xs : List X) → i < length xs → p (get_or xs i d) ≡ false → count_by p xs < length xs
  count_below i xs lt fails =
      let le : i ≤ length xs = omega (arith, lt) in
      omega (
        arith,
        count_by_more_no p xs i d lt fails,
        count_split (i + 1) xs,
        count_by-le-length p (take i xs),
        length-take-le i xs le,
        count_by-le-length p (drop (i + 1) xs),
        length-drop (i + 1) xs,
      )

  pub filter_all : (xs : List X) → ((j : ℕ) → j < length xs → p (get_or xs j d) ≡ true) → filter p xs ≡ xs
  filter_all [] all = refl
  filter_all (x ∷ xs) all = rw (all 0 (omega arith)) (ap (λ l. x ∷ l) (filter_all xs (λ j lt. all (suc j) (omega (arith, lt)))))

pub filter_none : {X : Type 0} (p : X → Bool) → ((x : X) → p x ≡ false) → (xs : List X) → filter p xs ≡ []
filter_none p none [] = refl
filter_none p none (x ∷ xs) = rw (none x) (filter_none p none xs)

-- ---- the place of a rank in sorted ranks

module _ {X : Type 0} {R : X → X → Ordering} (total : IsTotalOrder R) where
  -- x isn't before last, and rank isn't after it
  not_before_at : (x rank last : X) (o q : Ordering) → R rank last ≡ o → R x rank ≡ q → is_lt (R x last) ≡ false → is_le o ≡ true → is_lt q ≡ false
  not_before_at x rank last o Equal h g later up = refl
  not_before_at x rank last o Greater h g later up = refl
  not_before_at x rank last Less Less h g later up = absurd (let e = ap is_lt (total.trans x rank last g h) in cc)
  not_before_at x rank last Equal Less h g later up =
      absurd (let e = ap is_lt (total.antisymm x last ∙ ap ordering_reverse (sym (total.congr rank last x h)) ∙ sym (total.antisymm x rank) ∙ g) in cc)
  not_before_at x rank last Greater Less h g later up = absurd (cc)

  -- x isn't after last, and rank is
  before_at : (x rank last : X) (o q : Ordering) → R rank last ≡ o → R last x ≡ q → is_lt q ≡ false → is_le o ≡ false → is_lt (R x rank) ≡ true
  before_at x rank last Less q h g later up = absurd (cc)
  before_at x rank last Equal q h g later up = absurd (cc)
  before_at x rank last Greater Less h g later up = absurd (cc)
  before_at x rank last Greater Equal h g later up = ap is_lt (sym (total.congr last x rank g) ∙ total.antisymm last rank ∙ ap ordering_reverse h)
  before_at x rank last Greater Greater h g later up =
      ap is_lt (total.trans x last rank (total.antisymm x last ∙ ap ordering_reverse g) (total.antisymm last rank ∙ ap ordering_reverse h))

  place_at : (xs : List X) (before : ℕ) (rank last : X) (b : Bool) → IsSorted R xs → before < length xs
      → last ≡ get_or xs before last → is_le (R rank last) ≡ b
      → nat_lt (count_by (λ x. is_lt (R x rank)) xs) (before + 1) ≡ b
  place_at xs before rank last true sorted lt is up =
      let few = count_front (λ x. is_lt (R x rank)) last before xs (omega (arith, lt)) (λ j le within.
      let later = rw (← is) at (sorted_far (λ x y. is_lt (R x y)) (ranks_by total (λ (x : X). x)) xs sorted before j last le within) in
      not_before_at (get_or xs j last) rank last (R rank last) (R (get_or xs j last) rank) refl refl later up) in
      lt-ltb _ _ (omega (arith, few))
  place_at xs before rank last false sorted lt is up =
      let many = count_least (λ x. is_lt (R x rank)) last (before + 1) xs (omega (arith, lt)) (λ j below.
      let later = rw (← is) at (sorted_far (λ x y. is_lt (R x y)) (ranks_by total (λ (x : X). x)) xs sorted j before last (omega (arith, below)) lt) in
      before_at (get_or xs j last) rank last (R rank last) (R last (get_or xs j last)) refl refl later up) in
      le-ltb _ _ (omega (arith, many))

  -- of sorted ranks at most so many come items_before than a rank, exactly where it isn't after the one at that place
  pub sorted_place : (xs ys : List X) (before : ℕ) (last : X) → IsPermutation xs ys → IsSorted R ys → before < length xs
      → last ≡ get_or ys before last → (rank : X) → nat_lt (count_by (λ x. is_lt (R x rank)) xs) (before + 1) ≡ is_le
      (R rank last)
  sorted_place xs ys before last moved sorted lt is rank =
      let same = sum_by-IsPermutation (λ x. cond (is_lt (R x rank)) 1 0) xs ys moved in
      ap (λ n. nat_lt n (before + 1)) (sym same) ∙ place_at ys before rank last (is_le (R rank last)) sorted
      (omega (arith, lt, length_permutation xs ys moved)) is refl

-- ---- keys in order are compared as their places

number_after : (i j : ℕ) → i < j → nat_cmp j i ≡ Greater
number_after i j lt = nat_cmp_total.antisymm j i ∙ ap ordering_reverse (ap (λ b. cond b Less (cond (nat_eq i j) Equal Greater)) (lt-ltb i j lt))

pub places_alike : {K : Type 0} {R : K → K → Ordering} (total : IsTotalOrder R) (ks : List K) (i j : ℕ) (d : K)
    → IsStrictlySortedBy R ks → i < length ks → j < length ks → R (get_or ks i d) (get_or ks j d) ≡ nat_cmp i j
places_alike {R = R} total ks i j d s li lj = elim (cases_lt i j) [
  | inl before ↦ Less-from_sorted R ks i j d s before lj ∙ sym (ap (λ b. cond b Less (cond (nat_eq i j) Equal Greater)) (lt-ltb i j before))
  | inr after ↦ elim (cases_lt j i) [
    | inl later ↦ total.antisymm (get_or ks i d) (get_or ks j d) ∙ ap ordering_reverse (Less-from_sorted R ks j i d s later li) ∙ sym (number_after j i later)
    | inr same ↦ let e : i ≡ j = omega arith in rw e (tied_itself total (get_or ks j d) ∙ sym (tied_itself nat_cmp_total j))
  ]
]

-- ---- entries, and their values by places

here : (k : ℕ) → k + 0 ≡ k
here k = omega arith

from_none : (j : ℕ) → j ≡ 0 + j
from_none j = omega arith

onward : (k j : ℕ) → k + suc j ≡ k + 1 + j
onward k j = omega arith

module _ (p : Key × Item → Bool) (d : Key × Item) where
  count_alike : (q : Rank → Bool) (k : ℕ) (es : Items)
      → ((j : ℕ) → j < length es → p (get_or es j d) ≡ q (rank_of (k + j, (get_or es j d).1)))
      → count_by p es ≡ count_by q (map rank_of (enumerate_from k (values_of es)))
  count_alike q k [] alike = refl
  count_alike q k (e ∷ es) alike =
      let first = alike 0 (omega arith) ∙ ap (λ n. q (rank_of (n, e.1))) (here k) in
      let rest = count_alike q (k + 1) es (λ j lt. alike (suc j) (omega (arith, lt)) ∙ ap (λ n. q (rank_of (n, (get_or es j d).1))) (onward k j)) in
      count_cons p d e es
      ∙ ap (λ b. cond b 1 0 + count_by p es) first
      ∙ ap (λ n. cond (q (rank_of (k, e.1))) 1 0 + n) rest
      ∙ sym (count_cons q (rank_of (k, e.1)) (rank_of (k, e.1)) (map rank_of (enumerate_from (k + 1) (values_of es))))

  filter_case : (q : ℕ × Item → Bool) (k : ℕ) (e : Key × Item) (es : Items) (b : Bool) → p e ≡ b → q (k, e.1) ≡ b
      → values_of (filter p es) ≡ values_of (filter q (enumerate_from (k + 1) (values_of es)))
      → values_of (filter p (e ∷ es)) ≡ values_of (filter q (enumerate_from k (values_of (e ∷ es))))
  filter_case q k e es true h g rest = rw (h, g) (ap (λ l. e.1 ∷ l) rest)
  filter_case q k e es false h g rest = rw (h, g) rest

  filter_alike : (q : ℕ × Item → Bool) (k : ℕ) (es : Items)
      → ((j : ℕ) → j < length es → p (get_or es j d) ≡ q (k + j, (get_or es j d).1))
      → values_of (filter p es) ≡ values_of (filter q (enumerate_from k (values_of es)))
  filter_alike q k [] alike = refl
  filter_alike q k (e ∷ es) alike =
      let first = alike 0 (omega arith) ∙ ap (λ n. q (n, e.1)) (here k) in
      let rest = filter_alike q (k + 1) es (λ j lt. alike (suc j) (omega (arith, lt)) ∙ ap (λ n. q (n, (get_or es j d).1)) (onward k j)) in
      filter_case q k e es (p e) refl (sym first) rest

-- ---- what is cut

pub rank_total : IsTotalOrder rank_cmp
rank_total = then_total (on_total (λ (r : Rank). r.0) (options_total nat_cmp_total)) (on_total (λ (r : Rank). r.1) nat_cmp_total)

length_keys : (es : Items) → length (keys_of es) ≡ length es
length_keys [] = refl
length_keys (e ∷ es) = ap suc (length_keys es)

key_at : (es : Items) (i : ℕ) (d : Key × Item) → get_or (keys_of es) i d.0 ≡ (get_or es i d).0
key_at [] i d = refl
key_at (e ∷ es) zero d = refl
key_at (e ∷ es) (suc i) d = key_at es i d

keys_alike : (es : Items) (i j : ℕ) (d : Key × Item) → InOrder es → i < length es → j < length es → key_cmp (get_or es i d).0 (get_or es j d).0 ≡ nat_cmp i j
keys_alike es i j d s li lj =
    rw (← key_at es i d, ← key_at es j d) (places_alike key_cmp_total (keys_of es) i j d.0 s (rw (length_keys es) li) (rw (length_keys es) lj))

-- as many come items_before by call moment and key as by call moment and place
sooner_alike : (es : Items) (i : ℕ) (d : Key × Item) → InOrder es → i < length es
    → items_before es (get_or es i d) ≡ count_by (λ r. is_lt (rank_cmp r (rank_of (i, (get_or es i d).1))))
    (ranks_of (values_of es))
sooner_alike es i d s li =
    count_alike (λ o. is_lt (soonest_cmp o (get_or es i d))) d (λ r. is_lt (rank_cmp r (rank_of (i, (get_or es i d).1)))) 0 es
    (λ j lj.
    ap (λ o. is_lt (ordering_then (option_cmp nat_cmp (entry_of (get_or es j d).1) (entry_of (get_or es i d).1)) o)) (keys_alike es j i d s lj li)
    ∙ ap (λ n. is_lt (rank_cmp (rank_of (n, (get_or es j d).1)) (rank_of (i, (get_or es i d).1)))) (from_none j))

-- those up to a rank, of which so many come items_before, are the soonest
pub soonest_up_to : (es : Items) (before : ℕ) (last : Rank) → InOrder es
    → ((rank : Rank) → nat_lt (count_by (λ r. is_lt (rank_cmp r rank)) (ranks_of (values_of es))) (before + 1) ≡ is_le
    (rank_cmp rank last)) → values_of (soonest (before + 1) es) ≡ up_to last (values_of es)
soonest_up_to [] before last s exact = refl
soonest_up_to (e ∷ es) before last s exact =
    let all : Items = e ∷ es in
    filter_alike (λ x. nat_lt (items_before all x) (before + 1)) e (λ x. is_le (rank_cmp (rank_of x) last)) 0 all
    (λ j lj.
    ap (λ n. nat_lt n (before + 1)) (sooner_alike all j e s lj)
    ∙ exact (rank_of (j, (get_or all j e).1))
    ∙ ap (λ n. is_le (rank_cmp (rank_of (n, (get_or all j e).1)) last)) (from_none j))

-- as many as there are
pub soonest_all : (es : Items) (most : ℕ) → length es ≤ most → soonest most es ≡ es
soonest_all [] most le = refl
soonest_all (e ∷ es) most le =
    let all : Items = e ∷ es in
    filter_all (λ x. nat_lt (items_before all x) most) e all (λ j lj.
    let x = get_or all j e in
    let itself = ap is_lt (tied_itself (then_total
    (on_total (λ (o : Key × Item). entry_of o.1) (options_total nat_cmp_total))
    (on_total (λ (o : Key × Item). o.0) key_cmp_total)) x) in
    lt-ltb _ _ (omega (arith, le, count_below (λ o. is_lt (soonest_cmp o x)) e j all lj itself)))

pub soonest_none : (es : Items) → soonest 0 es ≡ []
soonest_none es = filter_none (λ x. nat_lt (items_before es x) 0) (λ x. le-ltb _ _ (omega arith)) es

-- ---- lists that grow

pub pushed : {X : Type 0} (done now rest total : List X) (x : X) → done ++ x ∷ rest ≡ total → now ≡ done ++ x ∷ [] → now ++ rest ≡ total
pushed done now rest total x whole is = ap (λ l. l ++ rest) is ∙ append_assoc done (x ∷ []) rest ∙ whole

up_to_yes : (place : ℕ) (last : Rank) (x : Item) (xs : List Item) → is_le (rank_cmp (rank_of (place, x)) last) ≡ true
    → up_to_from place last (x ∷ xs) ≡ x ∷ up_to_from (place + 1) last xs
up_to_yes place last x xs h = rw h refl

up_to_no : (place : ℕ) (last : Rank) (x : Item) (xs : List Item) → is_le (rank_cmp (rank_of (place, x)) last) ≡ false
    → up_to_from place last (x ∷ xs) ≡ up_to_from (place + 1) last xs
up_to_no place last x xs h = rw h refl

pub length_ranks : (k : ℕ) (items : List Item) → length (map rank_of (enumerate_from k items)) ≡ length items
length_ranks k [] = refl
length_ranks k (x ∷ xs) = ap suc (length_ranks (k + 1) xs)

pub kept_yes : (kept now : List Item) (place : ℕ) (last : Rank) (x : Item) (items xs total : List Item) → items ≡ x ∷ xs
    → is_le (rank_cmp (rank_of (place, x)) last) ≡ true → kept ++ up_to_from place last items ≡ total
    → now ≡ kept ++ x ∷ [] → now ++ up_to_from (place + 1) last xs ≡ total
kept_yes kept now place last x items xs total is up whole grown =
    pushed kept now (up_to_from (place + 1) last xs) total x
    (ap (λ l. kept ++ l) (sym (ap (up_to_from place last) is ∙ up_to_yes place last x xs up)) ∙ whole) grown

pub kept_no : (kept now : List Item) (place : ℕ) (last : Rank) (x : Item) (items xs total : List Item) → items ≡ x ∷ xs
    → is_le (rank_cmp (rank_of (place, x)) last) ≡ false → kept ++ up_to_from place last items ≡ total → now ≡ kept
    → now ++ up_to_from (place + 1) last xs ≡ total
kept_no kept now place last x items xs total is up whole same =
    ap (λ l. l ++ up_to_from (place + 1) last xs) same ∙ ap (λ l. kept ++ l) (sym (ap (up_to_from place last) is ∙ up_to_no place last x xs up)) ∙ whole

-- ---- the cut in its three cases

length_values : (es : Items) → length (values_of es) ≡ length es
length_values [] = refl
length_values (e ∷ es) = ap suc (length_values es)

pub cut_none : (es : Items) (items : List Item) (most : ℕ) → values_of es ≡ items → length items ≤ most → items ≡ values_of (soonest most es)
cut_none es items most same le =
    sym same ∙ ap values_of (sym (soonest_all es most (omega (arith, le, ap length same, length_values es))))

pub cut_all : (es : Items) (most : ℕ) → most ≡ 0 → [] ≡ values_of (soonest most es)
cut_all es most nought = rw nought (ap values_of (sym (soonest_none es)))

pub cut_some : (es : Items) (items : List Item) (most before : ℕ) (last : Rank) → InOrder es → values_of es ≡ items
    → before + 1 ≡ most → ((rank : Rank) → nat_lt (count_by (λ r. is_lt (rank_cmp r rank)) (ranks_of items))
    (before + 1) ≡ is_le (rank_cmp rank last)) → up_to last items ≡ values_of (soonest most es)
cut_some es items most before last s same next exact =
    ap (up_to last) (sym same)
    ∙ sym (soonest_up_to es before last s (λ rank. ap (λ l. nat_lt (count_by (λ r. is_lt (rank_cmp r rank)) (ranks_of l)) (before + 1)) same ∙ exact rank))
    ∙ ap (λ n. values_of (soonest n es)) next
