-- Changes in parts of a hundred, of each the items before the removals.
use Rattle.std.proofs.Common.{◌≡◌, ℕ, ℤ, option_map, zero, suc, ◌+◌, ◌*◌, ◌/◌, ◌<◌, ◌≤◌, max, List, [], ◌∷◌, ◌++◌, length, map, filter}
use Rattle.std.proofs.Common.{fold, take, drop, Bool, true, false, not, ◌||◌, Option, Some, None, refl, ap, sym, ◌∙◌, subst, arith}
use Rattle.std.specs.List.{flat_map, range_with_len}
use Rattle.std.specs.List.Sorted.{IsStrictlySortedBy}
use Rattle.std.specs.Option.{option_eq}
use Rattle.std.specs.declared.cmp.Ordering.{Ordering}
use Rattle.std.specs.declared.cmp.Ordering.TheVariants.{Less, Equal, Greater}
use Rattle.siri_records.specs.declared.key.Key.{Key}
use Rattle.siri_records.specs.declared.item.Item.{Item}
use Rattle.siri_records.specs.Near.{is_near}
use Rattle.siri_records.specs.Order.{key_cmp}
use Rattle.siri_records.proofs.NearLaws.{near_itself}
use Rattle.siri_records.specs.Keyed.{Items, InOrder, item_of, with_item, KeyChange, after_change, apply, most_live}
use Rattle.siri_change.specs.Changes.{keys_of_both, acknowledged_if_near, meets, changes, target}
use Rattle.siri_change.specs.Parts.{whole, load, base_view, led_to, part_after, parts_count, parts_of, has_item, as_sent, apply_parts}
use Rattle.siri_records.proofs.Placed.{take_whole}
use Rattle.siri_change.proofs.Walks.{above_first, changes_added, changed, chosen, keys_chosen}
use Rattle.siri_change.proofs.Leads.{tied, one_key, all_from, mentions, Fits, leads, changes_lead, fits_on, without_change}

-- ---- the parts of a list are the list

drop_all : {A : Type 0} (i : ℕ) → drop {A = A} i [] ≡ []
drop_all zero = refl
drop_all (suc i) = refl

take_none : {A : Type 0} (i : ℕ) → take {A = A} i [] ≡ []
take_none zero = refl
take_none (suc i) = refl

drop_twice : {A : Type 0} (i j k : ℕ) (xs : List A) → k ≡ i + j → drop j (drop i xs) ≡ drop k xs
drop_twice zero j k xs e = let same : j ≡ k = omega (arith, e) in ap (λ n. drop n xs) same
drop_twice (suc i) j k [] e = drop_all j ∙ sym (drop_all k)
drop_twice (suc i) j zero (x ∷ xs) e = absurd (omega (arith, e))
drop_twice (suc i) j (suc k) (x ∷ xs) e = drop_twice i j k xs (omega (arith, e))

take_twice : {A : Type 0} (i j k : ℕ) (xs : List A) → k ≡ i + j → take i xs ++ take j (drop i xs) ≡ take k xs
take_twice zero j k xs e = let same : j ≡ k = omega (arith, e) in ap (λ n. take n xs) same
take_twice (suc i) j k [] e = take_none j ∙ sym (take_none k)
take_twice (suc i) j zero (x ∷ xs) e = absurd (omega (arith, e))
take_twice (suc i) j (suc k) (x ∷ xs) e = ap (λ l. x ∷ l) (take_twice i j k xs (omega (arith, e)))

joined : {A : Type 0} (list : List A) (from n : ℕ) → flat_map (λ x. x) (map (part_after list) (range_with_len from n)) ≡ take (100 * n) (drop (100 * from) list)
joined list from zero = refl
joined list from (suc n) =
    ap (λ l. part_after list from ++ l) (joined list (from + 1) n)
    ∙ (ap (λ l. part_after list from ++ take (100 * n) l) (sym (drop_twice (100 * from) 100 (100 * (from + 1)) list (omega arith)))
    ∙ take_twice 100 (100 * n) (100 * suc n) (drop (100 * from) list) (omega arith))

fills : (n : ℕ) → n ≤ 100 * max 1 ((n + 99) / 100)
fills n = omega arith

fewest : (n : ℕ) → 1 ≤ max 1 ((n + 99) / 100)
fewest n = omega arith

most : (n : ℕ) → n ≤ 40000 → max 1 ((n + 99) / 100) ≤ 400
most n few = omega (arith, few)

pub parts_joined : {A : Type 0} (list : List A) → flat_map (λ x. x) (parts_of list) ≡ list
parts_joined list = joined list 0 (parts_count list) ∙ take_whole list (100 * parts_count list) (fills (length list))

length_range : (from n : ℕ) → length (range_with_len from n) ≡ n
length_range from zero = refl
length_range from (suc n) = ap suc (length_range (from + 1) n)

pub length_map : {A B : Type 0} (f : A → B) (xs : List A) → length (map f xs) ≡ length xs
length_map f [] = refl
length_map f (x ∷ xs) = ap suc (length_map f xs)

pub parts_number : {A : Type 0} (list : List A) → length (parts_of list) ≡ parts_count list
parts_number list = length_map (part_after list) (range_with_len 0 (parts_count list)) ∙ length_range 0 (parts_count list)

pub some_part : {A : Type 0} (list : List A) → 0 < length (parts_of list)
some_part list = rw (parts_number list) (fewest (length list))

pub few_parts : {A : Type 0} (list : List A) → length list ≤ 40000 → length (parts_of list) ≤ 400
few_parts list few = rw (parts_number list) (most (length list) few)

-- ---- the items of a part before its removals

or_swap : (a b c : Bool) → (a || (b || c)) ≡ (b || (a || c))
or_swap true true c = refl
or_swap true false c = refl
or_swap false true c = refl
or_swap false false c = refl

or_assoc : (a b c : Bool) → ((a || b) || c) ≡ (a || (b || c))
or_assoc true b c = refl
or_assoc false b c = refl

mentions_append : (q : Key) (cs ds : List KeyChange) → mentions q (cs ++ ds) ≡ (mentions q cs || mentions q ds)
mentions_append q [] ds = refl
mentions_append q (c ∷ cs) ds = ap (λ b. tied q c.0 || b) (mentions_append q cs ds) ∙ sym (or_assoc (tied q c.0) (mentions q cs) (mentions q ds))

mentions_parted : (q : Key) (cs : List KeyChange) → (mentions q (filter has_item cs) || mentions q (filter (λ c. not (has_item c)) cs)) ≡ mentions q cs
mentions_parted q [] = refl
mentions_parted q ((k, Some x) ∷ cs) =
    or_assoc (tied q k) (mentions q (filter has_item cs)) (mentions q (filter (λ c. not (has_item c)) cs)) ∙ ap (λ b. tied q k || b) (mentions_parted q cs)
mentions_parted q ((k, None) ∷ cs) =
    or_swap (mentions q (filter has_item cs)) (tied q k) (mentions q (filter (λ c. not (has_item c)) cs)) ∙ ap (λ b. tied q k || b) (mentions_parted q cs)

mentions_sent : (q : Key) (cs : List KeyChange) → mentions q (as_sent cs) ≡ mentions q cs
mentions_sent q cs = mentions_append q (filter has_item cs) (filter (λ c. not (has_item c)) cs) ∙ mentions_parted q cs

fits_append : (t : Items) (cs ds : List KeyChange) → Fits t cs → Fits t ds → Fits t (cs ++ ds)
fits_append t [] ds h k = k
fits_append t (c ∷ cs) ds h k = (h.0, fits_append t cs ds h.1 k)

fits_items : (t : Items) (cs : List KeyChange) → Fits t cs → Fits t (filter has_item cs)
fits_items t [] h = tt
fits_items t ((k, Some x) ∷ cs) h = (h.0, fits_items t cs h.1)
fits_items t ((k, None) ∷ cs) h = fits_items t cs h.1

fits_removals : (t : Items) (cs : List KeyChange) → Fits t cs → Fits t (filter (λ c. not (has_item c)) cs)
fits_removals t [] h = tt
fits_removals t ((k, Some x) ∷ cs) h = fits_removals t cs h.1
fits_removals t ((k, None) ∷ cs) h = (h.0, fits_removals t cs h.1)

fits_sent : (t : Items) (cs : List KeyChange) → Fits t cs → Fits t (as_sent cs)
fits_sent t cs h = fits_append t (filter has_item cs) (filter (λ c. not (has_item c)) cs) (fits_items t cs h) (fits_removals t cs h)

-- ---- all parts

all_sent : List (List KeyChange) → List KeyChange
all_sent parts = flat_map as_sent parts

all_of : List (List KeyChange) → List KeyChange
all_of parts = flat_map (λ part. part) parts

mentions_parts : (q : Key) (parts : List (List KeyChange)) → mentions q (all_sent parts) ≡ mentions q (all_of parts)
unfolding all_sent all_of
mentions_parts q [] = refl
mentions_parts q (p ∷ parts) =
    mentions_append q (as_sent p) (all_sent parts)
    ∙ ((λ i. mentions_sent q p i || mentions_parts q parts i) ∙ sym (mentions_append q p (all_of parts)))

left_fits : (t : Items) (cs ds : List KeyChange) → Fits t (cs ++ ds) → Fits t cs
left_fits t [] ds h = tt
left_fits t (c ∷ cs) ds h = (h.0, left_fits t cs ds h.1)

right_fits : (t : Items) (cs ds : List KeyChange) → Fits t (cs ++ ds) → Fits t ds
right_fits t [] ds h = h
right_fits t (c ∷ cs) ds h = right_fits t cs ds h.1

fits_parts : (t : Items) (parts : List (List KeyChange)) → Fits t (all_of parts) → Fits t (all_sent parts)
unfolding all_sent all_of
fits_parts t [] h = tt
fits_parts t (p ∷ parts) h =
    fits_append t (as_sent p) (all_sent parts) (fits_sent t p (left_fits t p (all_of parts) h)) (fits_parts t parts (right_fits t p (all_of parts) h))

pub applied_append : (a : Items) (cs ds : List KeyChange) → apply a (cs ++ ds) ≡ apply (apply a cs) ds
applied_append a [] ds = refl
applied_append a (c ∷ cs) ds = applied_append (after_change a c) cs ds

applied_parts : (a : Items) (parts : List (List KeyChange)) → apply_parts a parts ≡ apply a (all_sent parts)
unfolding all_sent
applied_parts a [] = refl
applied_parts a (p ∷ parts) = applied_parts (apply a (as_sent p)) parts ∙ sym (applied_append a (as_sent p) (all_sent parts))

parts_lead : (a t : Items) (cs : List KeyChange) → InOrder a → InOrder t → Fits t cs
    → ((q : Key) → mentions q cs ≡ false → item_of a q ≡ item_of t q) → apply_parts a (parts_of cs) ≡ t
unfolding all_of
parts_lead a t cs s r fits elsewhere =
    let same : all_of (parts_of cs) ≡ cs = parts_joined cs in
    applied_parts a (parts_of cs)
    ∙ leads a t (all_sent (parts_of cs)) s r
    (fits_parts t (parts_of cs) (subst (λ (l : List KeyChange). Fits t l) (sym same) fits))
    (λ q none. elsewhere q (ap (mentions q) (sym same) ∙ (sym (mentions_parts q (parts_of cs)) ∙ none)))

-- all of a view are the changes from the empty one
whole_changes : (t : Items) → InOrder t → changes [] t ≡ whole t
unfolding IsStrictlySortedBy
whole_changes [] s = refl
whole_changes (f ∷ t) s = changes_added f [] t tt (above_first f t s) ∙ ap (λ l. (f.0, Some f.1) ∷ l) (whole_changes t s.1)

empty_order : InOrder {X = Item} []
unfolding IsStrictlySortedBy
empty_order = tt

pub load_leads : (a t : Items) (incremental : Bool) → InOrder a → InOrder t → apply_parts (base_view a incremental) (parts_of (load a t incremental)) ≡ t
load_leads a t true s r = parts_lead a t (changes a t) s r (fits_on a t (keys_of_both a t)) (without_change a t)
load_leads a t false s r =
    ap (λ l. apply_parts [] (parts_of l)) (sym (whole_changes t r))
    ∙ parts_lead [] t (changes [] t) empty_order r (fits_on [] t (keys_of_both [] t)) (without_change [] t)

-- at once
pub load_applied : (a t : Items) (incremental : Bool) → InOrder a → InOrder t → led_to a incremental (load a t incremental) ≡ t
load_applied a t true s r = changes_lead a t s r
load_applied a t false s r = ap (apply []) (sym (whole_changes t r)) ∙ changes_lead [] t empty_order r

-- ---- how many

length_with_case : (e f : Key × Item) (a : Items) (o : Ordering) → key_cmp f.0 e.0 ≡ o
    → length (with_item a f) ≤ length a + 1 → length (with_item (e ∷ a) f) ≤ length (e ∷ a) + 1
length_with_case e f a Less o rest = rw o (omega arith)
length_with_case e f a Equal o rest = rw o (omega arith)
length_with_case e f a Greater o rest = rw o (omega (arith, rest))

length_with : (a : Items) (f : Key × Item) → length (with_item a f) ≤ length a + 1
length_with [] f = omega arith
length_with (e ∷ a) f = length_with_case e f a (key_cmp f.0 e.0) refl (length_with a f)

length_both : (a b : Items) → length (fold with_item a b) ≤ length a + length b
length_both a [] = omega arith
length_both a (f ∷ b) = omega (arith, length_both (with_item a f) b, length_with a f)

length_filter_case : {A : Type 0} (p : A → Bool) (x : A) (xs : List A) (t : Bool) → p x ≡ t
    → length (filter p xs) ≤ length xs → length (filter p (x ∷ xs)) ≤ length (x ∷ xs)
length_filter_case p x xs true h rest = rw h (omega (arith, rest))
length_filter_case p x xs false h rest = rw h (omega (arith, rest))

length_filter : {A : Type 0} (p : A → Bool) (xs : List A) → length (filter p xs) ≤ length xs
length_filter p [] = omega arith
length_filter p (x ∷ xs) = length_filter_case p x xs (p x) refl (length_filter p xs)

few_changes : (a t : Items) → length (changes a t) ≤ length a + length t
few_changes a t =
    let ks = keys_of_both a t in
    let mapped = length_map {B = KeyChange} (λ key. (key, item_of t key)) (filter (changed a t) ks) in
    let kept = length_filter (changed a t) ks in
    let keys : length ks ≡ length (fold with_item a t) = length_map (λ (e : Key × Item). e.0) (fold with_item a t) in
    omega (arith, mapped, kept, keys, length_both a t)

few_loaded : (a t : Items) (incremental : Bool) → length a ≤ most_live → length t ≤ most_live → length (load a t incremental) ≤ 40000
few_loaded a t true p q = omega (arith, p, q, few_changes a t)
few_loaded a t false p q =
    let mapped = length_map {B = KeyChange} (λ (e : Key × Item). (e.0, Some e.1)) t in
    omega (arith, q, mapped)

pub load_few : (a t : Items) (incremental : Bool) → length a ≤ most_live → length t ≤ most_live → length (parts_of (load a t incremental)) ≤ 400
load_few a t incremental p q = few_parts (load a t incremental) (few_loaded a t incremental p q)

-- ---- targets

pub target_order : (slack : ℤ) (incremental : Bool) (a direct : Items) → InOrder direct → InOrder (target slack incremental a direct)
target_order slack true a direct s = rw (keys_chosen slack a direct) s
target_order slack false a direct s = s

pub target_length : (slack : ℤ) (incremental : Bool) (a direct : Items) → length (target slack incremental a direct) ≡ length direct
target_length slack true a direct = length_map (chosen slack a) direct
target_length slack false a direct = refl

chosen_case : (slack : ℤ) (a direct : Items) (e : Key × Item) (q : Key) (t : Bool) → tied q e.0 ≡ t
    → item_of (map (chosen slack a) direct) q ≡ option_map (acknowledged_if_near slack (item_of a q)) (item_of direct q)
    → item_of (map (chosen slack a) (e ∷ direct)) q ≡ option_map (acknowledged_if_near slack (item_of a q))
    (item_of (e ∷ direct) q)
chosen_case slack a direct e q true h rest = rw h (ap (λ k. Some (acknowledged_if_near slack (item_of a k) e.1)) (sym (one_key q e.0 h)))
chosen_case slack a direct e q false h rest = rw h rest

-- the target has of each key the chosen one of its items
item_chosen : (slack : ℤ) (a direct : Items) (q : Key)
    → item_of (map (chosen slack a) direct) q ≡ option_map (acknowledged_if_near slack (item_of a q)) (item_of direct q)
item_chosen slack a [] q = refl
item_chosen slack a (e ∷ direct) q = chosen_case slack a direct e q (tied q e.0) refl (item_chosen slack a direct q)

kept_is_near : (slack : ℤ) (held : Item) (listed : Item) (t : Bool) → is_near slack held listed ≡ t
    → is_near slack (acknowledged_if_near slack (Some held) listed) listed ≡ true
kept_is_near slack held listed true h = rw (h, h) refl
kept_is_near slack held listed false h = rw h (near_itself slack listed)

chosen_is_near : (slack : ℤ) (held : Option Item) (listed : Item) → is_near slack (acknowledged_if_near slack held listed) listed ≡ true
chosen_is_near slack None listed = near_itself slack listed
chosen_is_near slack (Some held) listed = kept_is_near slack held listed (is_near slack held listed) refl

agree_chosen : (slack : ℤ) (held : Option Item) (listed : Option Item)
    → option_eq (is_near slack) (option_map (acknowledged_if_near slack held) listed) listed ≡ true
agree_chosen slack held None = refl
agree_chosen slack held (Some listed) = chosen_is_near slack held listed

agree_itself : (slack : ℤ) (listed : Option Item) → option_eq (is_near slack) listed listed ≡ true
agree_itself slack None = refl
agree_itself slack (Some listed) = near_itself slack listed

-- a target meets the direct response
pub target_meets : (slack : ℤ) (incremental : Bool) (a direct : Items) → meets slack (target slack incremental a direct) direct ≡ true
target_meets slack true a direct =
    all_from (is_near slack) (map (chosen slack a) direct) direct (keys_of_both (map (chosen slack a) direct) direct)
    (λ q. ap (λ x. option_eq (is_near slack) x (item_of direct q)) (item_chosen slack a direct q) ∙ agree_chosen slack (item_of a q) (item_of direct q))
target_meets slack false a direct = all_from (is_near slack) direct direct (keys_of_both direct direct) (λ q. agree_itself slack (item_of direct q))
