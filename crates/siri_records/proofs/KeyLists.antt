-- Lists of keys in order, each once.
use Rattle.std.proofs.Common.{◌≡◌, ◌+◌, ◌≤◌, List, [], ◌∷◌, length, filter, Bool, true, false, ◌&&◌}
use Rattle.std.proofs.Common.{◌||◌}
use Rattle.std.proofs.Common.{is_some, refl, ap, sym, ◌∙◌, arith}
use Rattle.std.specs.BTreeSet.{insert_key}
use Rattle.std.specs.List.{AllByRecursion}
use Rattle.std.specs.List.Sorted.{IsStrictlySortedBy}
use Rattle.std.specs.Map.{keys_of}
use Rattle.std.specs.Ordering.{is_eq, ordering_reverse}
use Rattle.std.specs.declared.cmp.Ordering.{Ordering}
use Rattle.std.specs.declared.cmp.Ordering.TheVariants.{Less, Equal, Greater}
use Rattle.std.proofs.lemmas.List.Kept.{IsStrictlySortedBy-filter}
use Rattle.siri_records.specs.declared.item.Item.{Item}
use Rattle.siri_records.specs.declared.key.Key.{Key}
use Rattle.siri_records.specs.Keyed.{Items, item_of}
use Rattle.siri_records.specs.KeyLists.{is_among, KeysInOrder, with_keys, in_order}
use Rattle.siri_records.specs.Order.{key_cmp, key_cmp_total}
use Rattle.siri_records.proofs.Order.{key_cmp_exact, key_cmp_same}

-- ---- one key

-- whether two keys are one
abbrev pub tied : Key → Key → Bool
tied q k = is_eq (key_cmp q k)

equal_from : (o : Ordering) → is_eq o ≡ true → o ≡ Equal
equal_from Equal e = refl
equal_from Less e = cc
equal_from Greater e = cc

pub one_key : (q k : Key) → tied q k ≡ true → q ≡ k
one_key q k e = key_cmp_exact q k (equal_from (key_cmp q k) e)

pub tied_self : (k : Key) → tied k k ≡ true
tied_self k = ap is_eq (key_cmp_same k)

-- ---- keys above one

-- all of these keys are above one
abbrev AllAbove : Key → List Key → Type 0
AllAbove k ks = AllByRecursion (λ y. key_cmp k y ≡ Less) ks

reversed : (j k : Key) (o : Ordering) → key_cmp k j ≡ o → key_cmp j k ≡ ordering_reverse o
reversed j k o e = key_cmp_total.antisymm j k ∙ ap ordering_reverse e

above_trans : (j k : Key) (ks : List Key) → key_cmp j k ≡ Less → AllAbove k ks → AllAbove j ks
above_trans j k [] below a = tt
above_trans j k (y ∷ ks) below a = (key_cmp_total.trans j k y below a.0, above_trans j k ks below a.1)

none_among : (k : Key) (ks : List Key) → AllAbove k ks → is_among k ks ≡ false
none_among k [] above = refl
none_among k (y ∷ ks) above = rw (above.0) (none_among k ks above.1)

pub first_among : (k : Key) (ks : List Key) → is_among k (k ∷ ks) ≡ true
first_among k ks = rw (tied_self k) refl

-- ---- the same keys

same_rest_case : (q x : Key) (xs ys : List Key) (t : Bool) → tied q x ≡ t → AllAbove x xs → AllAbove x ys
    → (t || is_among q xs) ≡ (t || is_among q ys) → is_among q xs ≡ is_among q ys
same_rest_case q x xs ys true tie above also is =
    let here = one_key q x tie in
    ap (λ k. is_among k xs) here ∙ (none_among x xs above ∙ sym (ap (λ k. is_among k ys) here ∙ none_among x ys also))
same_rest_case q x xs ys false tie above also is = is

same_first : (x y : Key) (xs ys : List Key) (o : Ordering) → key_cmp x y ≡ o → AllAbove x xs → AllAbove y ys
    → ((q : Key) → is_among q (x ∷ xs) ≡ is_among q (y ∷ ys)) → x ≡ y
same_first x y xs ys Equal o above also is = key_cmp_exact x y o
same_first x y xs ys Less o above also is =
    absurd (cc (sym (first_among x xs) ∙ (is x ∙ none_among x (y ∷ ys) (o, above_trans x y ys o also))))
same_first x y xs ys Greater o above also is =
    let below = reversed y x Greater o in
    absurd (cc (sym (first_among y ys) ∙ (sym (is y) ∙ none_among y (x ∷ xs) (below, above_trans y x xs below above))))

-- keys in order are one list where they are the same keys
pub same_keys : (xs ys : List Key) → KeysInOrder xs → KeysInOrder ys → ((q : Key) → is_among q xs ≡ is_among q ys)
    → xs ≡ ys
unfolding IsStrictlySortedBy
same_keys [] [] s r is = refl
same_keys [] (y ∷ ys) s r is = absurd (cc (is y ∙ first_among y ys))
same_keys (x ∷ xs) [] s r is = absurd (cc (sym (is x) ∙ first_among x xs))
same_keys (x ∷ xs) (y ∷ ys) s r is =
    let first = same_first x y xs ys (key_cmp x y) refl s.0 r.0 is in
    let above : AllAbove x ys = rw first (r.0) in
    let rest = same_keys xs ys s.1 r.1 (λ q. same_rest_case q x xs ys (tied q x) refl s.0 above
    (is q ∙ ap (λ k. tied q k || is_among q ys) (sym first))) in
    λ i. first i ∷ rest i

-- ---- keys that pass a test

pub order_passing : (p : Key → Bool) (ks : List Key) → KeysInOrder ks → KeysInOrder (filter p ks)
order_passing p ks s = IsStrictlySortedBy-filter key_cmp p ks s

and_true : (b : Bool) → b ≡ (b && true)
and_true true = refl
and_true false = refl

and_false : (b : Bool) → false ≡ (b && false)
and_false true = refl
and_false false = refl

among_passing_case : (p : Key → Bool) (q k : Key) (ks : List Key) (b t : Bool) → p k ≡ b → tied q k ≡ t
    → is_among q (filter p ks) ≡ (is_among q ks && p q) → is_among q (filter p (k ∷ ks)) ≡ (is_among q (k ∷ ks) && p q)
among_passing_case p q k ks true true h tie rest = rw h (rw tie (sym (ap p (one_key q k tie) ∙ h)))
among_passing_case p q k ks true false h tie rest = rw h (rw tie rest)
among_passing_case p q k ks false true h tie rest =
    let off : p q ≡ false = ap p (one_key q k tie) ∙ h in
    rw h (rw tie (rest ∙ (ap (λ c. is_among q ks && c) off ∙ (sym (and_false (is_among q ks)) ∙ sym off))))
among_passing_case p q k ks false false h tie rest = rw h (rw tie rest)

-- a key is among those that pass where it is one of them and passes
pub among_passing : (p : Key → Bool) (q : Key) (ks : List Key) → is_among q (filter p ks) ≡ (is_among q ks && p q)
among_passing p q [] = refl
among_passing p q (k ∷ ks) = among_passing_case p q k ks (p k) (tied q k) refl refl (among_passing p q ks)

-- ---- more keys

above_inserted_case : (j k x : Key) (xs : List Key) (o : Ordering) → key_cmp k x ≡ o → key_cmp j k ≡ Less
    → AllAbove j (x ∷ xs)
    → AllAbove j (insert_key key_cmp xs k) → AllAbove j (insert_key key_cmp (x ∷ xs) k)
above_inserted_case j k x xs Less o below above rest = rw o (below, above)
above_inserted_case j k x xs Equal o below above rest = rw o above
above_inserted_case j k x xs Greater o below above rest = rw o (above.0, rest)

above_inserted : (j k : Key) (xs : List Key) → key_cmp j k ≡ Less → AllAbove j xs → AllAbove j (insert_key key_cmp xs k)
above_inserted j k [] below above = (below, tt)
above_inserted j k (x ∷ xs) below above =
    above_inserted_case j k x xs (key_cmp k x) refl below above (above_inserted j k xs below above.1)

order_inserted_case : (k x : Key) (xs : List Key) (o : Ordering) → key_cmp k x ≡ o → KeysInOrder (x ∷ xs)
    → KeysInOrder (insert_key key_cmp xs k) → KeysInOrder (insert_key key_cmp (x ∷ xs) k)
unfolding IsStrictlySortedBy
order_inserted_case k x xs Less o s rest = rw o ((o, above_trans k x xs o s.0), s)
order_inserted_case k x xs Equal o s rest = rw o s
order_inserted_case k x xs Greater o s rest = rw o (above_inserted x k xs (reversed x k Greater o) s.0, rest)

-- a key more keeps the order
pub order_inserted : (k : Key) (xs : List Key) → KeysInOrder xs → KeysInOrder (insert_key key_cmp xs k)
unfolding IsStrictlySortedBy
order_inserted k [] s = (tt, tt)
order_inserted k (x ∷ xs) s = order_inserted_case k x xs (key_cmp k x) refl s (order_inserted k xs s.1)

or_twice : (a b : Bool) → (a || b) ≡ (a || (a || b))
or_twice true b = refl
or_twice false b = refl

or_swap : (a b c : Bool) → (a || (b || c)) ≡ (b || (a || c))
or_swap true true c = refl
or_swap true false c = refl
or_swap false true c = refl
or_swap false false c = refl

or_false : (a : Bool) → a ≡ (a || false)
or_false true = refl
or_false false = refl

or_last : (a b c : Bool) → ((b || a) || c) ≡ (a || (b || c))
or_last true true c = refl
or_last true false c = refl
or_last false true c = refl
or_last false false c = refl

among_case : (q k x : Key) (xs : List Key) (o : Ordering) → key_cmp k x ≡ o
    → is_among q (insert_key key_cmp xs k) ≡ (tied q k || is_among q xs)
    → is_among q (insert_key key_cmp (x ∷ xs) k) ≡ (tied q k || is_among q (x ∷ xs))
among_case q k x xs Less o rest = rw o refl
among_case q k x xs Equal o rest =
    rw o (or_twice (tied q x) (is_among q xs) ∙ ap (λ j. tied q j || (tied q x || is_among q xs)) (sym (key_cmp_exact k x o)))
among_case q k x xs Greater o rest = rw o (ap (λ b. tied q x || b) rest ∙ or_swap (tied q x) (tied q k) (is_among q xs))

-- the keys with one more are it and they
pub among_inserted : (q k : Key) (xs : List Key) → is_among q (insert_key key_cmp xs k) ≡ (tied q k || is_among q xs)
among_inserted q k [] = refl
among_inserted q k (x ∷ xs) = among_case q k x xs (key_cmp k x) refl (among_inserted q k xs)

-- more keys keep the order
pub order_with : (xs ks : List Key) → KeysInOrder xs → KeysInOrder (with_keys xs ks)
order_with xs [] s = s
order_with xs (k ∷ ks) s = order_with (insert_key key_cmp xs k) ks (order_inserted k xs s)

pub order_in_order : (ks : List Key) → KeysInOrder (in_order ks)
unfolding IsStrictlySortedBy
order_in_order ks = order_with [] ks tt

-- the keys with more of them are both
pub among_with : (q : Key) (xs ks : List Key) → is_among q (with_keys xs ks) ≡ (is_among q xs || is_among q ks)
among_with q xs [] = or_false (is_among q xs)
among_with q xs (k ∷ ks) =
    among_with q (insert_key key_cmp xs k) ks
    ∙ (ap (λ b. b || is_among q ks) (among_inserted q k xs) ∙ or_last (is_among q xs) (tied q k) (is_among q ks))

pub among_in_order : (q : Key) (ks : List Key) → is_among q (in_order ks) ≡ is_among q ks
among_in_order q ks = among_with q [] ks

none_of_both : (a b : Bool) → (a || b) ≡ false → (a ≡ false) × (b ≡ false)
none_of_both false b h = (refl, h)
none_of_both true b h = absurd (cc h)

-- a key that isn't among them afterwards wasn't before, and is none of the new ones
pub untouched_with : (q : Key) (xs ks : List Key) → is_among q (with_keys xs ks) ≡ false
    → (is_among q xs ≡ false) × (is_among q ks ≡ false)
untouched_with q xs ks out = none_of_both (is_among q xs) (is_among q ks) (sym (among_with q xs ks) ∙ out)

-- more keys are the same where their members are
pub same_with : (xs ks ls : List Key) → KeysInOrder xs → ((q : Key) → is_among q ks ≡ is_among q ls)
    → with_keys xs ks ≡ with_keys xs ls
same_with xs ks ls s is =
    same_keys (with_keys xs ks) (with_keys xs ls) (order_with xs ks s) (order_with xs ls s)
    (λ q. among_with q xs ks ∙ (ap (λ b. is_among q xs || b) (is q) ∙ sym (among_with q xs ls)))

-- keys in order are the same keys
pub same_in_order : (ks ls : List Key) → ((q : Key) → is_among q ks ≡ is_among q ls) → in_order ks ≡ in_order ls
unfolding IsStrictlySortedBy
same_in_order ks ls is = same_with [] ks ls tt is

length_inserted_case : (k x : Key) (xs : List Key) (o : Ordering) → key_cmp k x ≡ o
    → length (insert_key key_cmp xs k) ≤ length xs + 1 → length (insert_key key_cmp (x ∷ xs) k) ≤ length (x ∷ xs) + 1
length_inserted_case k x xs Less o rest = rw o (omega arith)
length_inserted_case k x xs Equal o rest = rw o (omega arith)
length_inserted_case k x xs Greater o rest = rw o (omega (arith, rest))

length_inserted : (k : Key) (xs : List Key) → length (insert_key key_cmp xs k) ≤ length xs + 1
length_inserted k [] = omega arith
length_inserted k (x ∷ xs) = length_inserted_case k x xs (key_cmp k x) refl (length_inserted k xs)

pub length_with : (xs ks : List Key) → length (with_keys xs ks) ≤ length xs + length ks
length_with xs [] = omega arith
length_with xs (k ∷ ks) = omega (arith, length_inserted k xs, length_with (insert_key key_cmp xs k) ks)

-- ---- keys of items

among_keys_case : (q : Key) (e : Key × Item) (es : Items) (t : Bool) → tied q e.0 ≡ t
    → is_among q (keys_of es) ≡ is_some (item_of es q)
    → is_among q (keys_of (e ∷ es)) ≡ is_some (item_of (e ∷ es) q)
among_keys_case q e es true h rest = rw h refl
among_keys_case q e es false h rest = rw h rest

-- a key is among those of items where it has one
pub among_keys : (q : Key) (es : Items) → is_among q (keys_of es) ≡ is_some (item_of es q)
among_keys q [] = refl
among_keys q (e ∷ es) = among_keys_case q e es (tied q e.0) refl (among_keys q es)
