-- The first so many visits by entry and then key, put in order of key, are the direct response; and how many are looked at for them.
use Rattle.std.proofs.Common.{◌≡◌, ℕ, zero, suc, ◌+◌, ◌-◌, ◌≤◌, Bool, true, false, cond, ◌&&◌, List, [], ◌∷◌, filter, fold, length}
use Rattle.std.proofs.Common.{take, nat_lt, slice_get, count_by, Option, Some, None, refl, inl, inr, ap, ◌∙◌, sym, subst, arith}
use Rattle.std.specs.Cmp.{IsTotalOrder, tied_itself, then_total, on_total, nat_cmp_total}
use Rattle.std.specs.Cmp.Lexicographic.{options_total}
use Rattle.std.specs.List.{AllByRecursion, list_any}
use Rattle.std.specs.List.Sorted.{IsStrictlySortedBy}
use Rattle.std.specs.Map.{keys_of}
use Rattle.std.specs.Ordering.{is_eq, is_lt, ordering_reverse}
use Rattle.std.specs.Prelude.{not, ◌⊎◌}
use Rattle.std.specs.declared.cmp.Ordering.{Ordering}
use Rattle.std.specs.declared.cmp.Ordering.TheVariants.{Less}
use Rattle.std.proofs.lemmas.Bool.{ltb-true, ltb-false}
use Rattle.std.proofs.lemmas.List.Kept.{IsStrictlySortedBy-filter}
use Rattle.std.proofs.lemmas.List.Sums.{length-filter}
use Rattle.siri_records.specs.declared.item.Item.{Item}
use Rattle.siri_records.specs.declared.item.Item.TheVariants as item
use Rattle.siri_records.specs.declared.item.Service.TheVariants as service
use Rattle.siri_records.specs.declared.key.Key.{Key}
use Rattle.siri_records.specs.Ends.{entry_of}
use Rattle.siri_records.specs.Keyed.{Items, InOrder, apply, item_of, with_item}
use Rattle.siri_records.specs.Order.{key_cmp, key_cmp_total}
use Rattle.siri_records.proofs.Kept.{sorted_kept}
use Rattle.siri_records.proofs.KeyLists.{tied, one_key}
use Rattle.siri_topic.specs.declared.topics.StopTopic.{StopTopic}
use Rattle.siri_topic.specs.declared.topics.Topic.{Topic}
use Rattle.siri_topic.specs.declared.topics.Topic.TheVariants as topic
use Rattle.siri_topic.specs.declared.windows.Window.{Window}
use Rattle.siri_topic.specs.Shown.{is_before, is_from, is_shown, window_of}
use Rattle.siri_change.specs.Parts.{whole}
use Rattle.siri_change.proofs.Leads.{Fits, mentions, leads}
use Rattle.siri_model.specs.Direct.{at_most, direct_to, items_before, most_of, shown, soonest, soonest_cmp}
use Rattle.siri_model.specs.Followed.{comes_up_to, enters_from, enters_in, visits_to}
use Rattle.siri_model.proofs.Lawful.{shown_in_order}
use Rattle.siri_store.specs.Candidates.{candidates, may_be_shown}
use Rattle.siri_store.specs.First.{enters, first_entries, looked_until, visits_for}
use Rattle.siri_store.specs.Walk.{shown_at}
use Rattle.siri_store.proofs.Firsts.{by_alike, filter_visits, looked_first, looked_over, shown_enters}
use Rattle.siri_store.proofs.LookUps.{by_bool}
use Rattle.siri_responder.specs.Firsts.{AreWithin}
use Rattle.siri_responder.proofs.ByEntry.{passing, passing_cons, visits_all, visits_passing, visits_sorted}
use Rattle.siri_records.specs.Services.{is_of}
use Rattle.siri_topic.specs.Services.{is_served}

-- ---- tests of lists

module _ {X : Type 0} (p q : X → Bool) where
  both_passing : (xs : List X) → passing q (filter p xs) ≡ passing (λ x. p x && q x) xs
  both_passing [] = refl
  both_passing (x ∷ xs) = by_bool (p x)
      (λ h. by_bool (q x) (λ t. rw (h, t) (ap suc (both_passing xs))) (λ t. rw (h, t) (both_passing xs)))
      (λ h. rw h (both_passing xs))

  fewer_pass : ((x : X) → p x ≡ true → q x ≡ true) → (xs : List X) → passing p xs ≤ passing q xs
  fewer_pass implies [] = omega arith
  fewer_pass implies (x ∷ xs) = by_bool (p x)
      (λ h. omega (arith, passing_cons p x xs, passing_cons q x xs, ap {B = ℕ} (λ b. cond b 1 0) h, ap {B = ℕ} (λ b. cond b 1 0) (implies x h), fewer_pass implies xs))
      (λ h. omega (arith, passing_cons p x xs, passing_cons q x xs, ap {B = ℕ} (λ b. cond b 1 0) h, fewer_pass implies xs))

filter_same : {X : Type 0} (p q : X → Bool) → ((x : X) → p x ≡ q x) → (xs : List X) → filter p xs ≡ filter q xs
filter_same p q same xs = ap (λ t. filter t xs) (λ i x. same x i)

none_any : {X : Type 0} (q : X → Bool) (xs : List X) → list_any q xs ≡ false → passing q xs ≡ 0
none_any q [] none = refl
none_any q (x ∷ xs) none = by_bool (q x)
    (λ h. absurd (cc (rw h at none)))
    (λ h. rw h (none_any q xs (rw h at none)))

any_none : {X : Type 0} (q : X → Bool) (xs : List X) → passing q xs ≡ 0 → list_any q xs ≡ false
any_none q [] none = refl
any_none q (x ∷ xs) none = by_bool (q x)
    (λ h. absurd (omega (arith, none, passing_cons q x xs, ap {B = ℕ} (λ b. cond b 1 0) h)))
    (λ h. rw h (any_none q xs (rw h at none)))

any_same : {X : Type 0} (q : X → Bool) (xs ys : List X) → passing q xs ≡ passing q ys → list_any q xs ≡ list_any q ys
any_same q xs ys same = by_bool (list_any q xs)
    (λ h. h ∙ by_bool (list_any q ys)
    (λ g. sym g)
    (λ g. absurd (cc (sym h ∙ any_none q xs (same ∙ none_any q ys g)))))
    (λ h. h ∙ sym (any_none q ys (sym same ∙ none_any q xs h)))

filtered_all : {X : Type 0} (p : X → Bool) (Q R : X → Type 0) → ((x : X) → p x ≡ true → Q x → R x) → (xs : List X)
    → AllByRecursion Q xs → AllByRecursion R (filter p xs)
filtered_all p Q R holds [] all = tt
filtered_all p Q R holds (x ∷ xs) all = by_bool (p x)
    (λ h. rw h (holds x h all.0, filtered_all p Q R holds xs all.1))
    (λ h. rw h (filtered_all p Q R holds xs all.1))

take_none : {X : Type 0} (n : ℕ) → take {A = X} n [] ≡ []
take_none zero = refl
take_none (suc n) = refl

at_none : (k : ℕ) → k + 0 ≡ k
at_none k = omega arith

onward : (k i : ℕ) → k + suc i ≡ k + 1 + i
onward k i = omega arith

from_none : (i : ℕ) → i ≡ 0 + i
from_none i = omega arith

less_none : (n : ℕ) → n - 0 ≡ n
less_none n = omega arith

-- those that pass are the first so many, where they pass by their places
filter_places : {X : Type 0} (p : X → Bool) (most k : ℕ) (xs : List X)
    → ((i : ℕ) (x : X) → slice_get xs i ≡ Some x → p x ≡ nat_lt (k + i) most) → filter p xs ≡ take (most - k) xs
filter_places p most k [] alike = sym (take_none (most - k))
filter_places p most k (x ∷ xs) alike =
    let here : p x ≡ nat_lt k most = alike 0 x refl ∙ ap (λ n. nat_lt n most) (at_none k) in
    let rest : filter p xs ≡ take (most - (k + 1)) xs =
    filter_places p most (k + 1) xs (λ i y at. alike (suc i) y at ∙ ap (λ n. nat_lt n most) (onward k i)) in
    by_bool (nat_lt k most)
    (λ h. let more : most - k ≡ suc (most - (k + 1)) = omega (arith, ltb-true k most h) in
    rw (here ∙ h) (ap (λ l. x ∷ l) rest ∙ sym (ap (λ n. take n (x ∷ xs)) more)))
    (λ h. let none : most - k ≡ 0 = omega (arith, ltb-false k most h) in
    let still : most - (k + 1) ≡ 0 = omega (arith, ltb-false k most h) in
    rw (here ∙ h) (rest ∙ (ap (λ n. take n xs) still ∙ sym (ap (λ n. take n (x ∷ xs)) none))))

-- ---- how many come before one of a list in order

module _ {X : Type 0} (R : X → X → Ordering) (total : IsTotalOrder R) where
  abbrev below : X → X → Bool
  below e o = is_lt (R o e)

  not_below : (e y : X) → R e y ≡ Less → below e y ≡ false
  not_below e y less = ap is_lt (total.antisymm y e ∙ ap ordering_reverse less)

  none_below : (e : X) (xs : List X) → AllByRecursion (λ y. R e y ≡ Less) xs → passing (below e) xs ≡ 0
  none_below e [] all = refl
  none_below e (y ∷ ys) all = rw (not_below e y all.0) (none_below e ys all.1)

  below_there : (x : X) (xs : List X) → AllByRecursion (λ y. R x y ≡ Less) xs → (i : ℕ) (e : X) → slice_get xs i ≡ Some e → R x e ≡ Less
  below_there x [] all i e at = absurd (cc at)
  below_there x (y ∷ ys) all zero e at = let same : y ≡ e = cc at in ap (R x) (sym same) ∙ all.0
  below_there x (y ∷ ys) all (suc i) e at = below_there x ys all.1 i e at

  before_place : (xs : List X) → IsStrictlySortedBy R xs → (i : ℕ) (e : X) → slice_get xs i ≡ Some e → passing (below e) xs ≡ i
  unfolding IsStrictlySortedBy
  before_place [] s i e at = absurd (cc at)
  before_place (x ∷ xs) s zero e at =
      let same : x ≡ e = cc at in
      let itself : below e x ≡ false = ap is_lt (ap (λ y. R x y) (sym same) ∙ tied_itself total x) in
      rw itself (ap (λ y. passing (below y) xs) (sym same) ∙ none_below x xs s.0)
  before_place (x ∷ xs) s (suc i) e at =
      let first : below e x ≡ true = ap is_lt (below_there x xs s.0 i e at) in
      rw first (ap suc (before_place xs s.1 i e at))

soonest_total : IsTotalOrder soonest_cmp
soonest_total = then_total (on_total (λ (o : Key × Item). entry_of o.1) (options_total nat_cmp_total)) (on_total (λ (o : Key × Item). o.0) key_cmp_total)

-- ---- what is found of a key

after : (e x : Key × Item) → key_cmp e.0 x.0 ≡ Less → tied x.0 e.0 ≡ false
after e x less = ap is_eq (key_cmp_total.antisymm x.0 e.0 ∙ ap ordering_reverse less)

later_found : (e : Key × Item) (es xs : Items) → AllByRecursion (λ y. key_cmp e.0 y ≡ Less) (keys_of xs)
    → AllByRecursion (λ (x : Key × Item). item_of es x.0 ≡ Some x.1) xs
    → AllByRecursion (λ (x : Key × Item). item_of (e ∷ es) x.0 ≡ Some x.1) xs
later_found e es [] above all = tt
later_found e es (x ∷ xs) above all = (rw (after e x above.0) all.0, later_found e es xs above.1 all.1)

found_all : (es : Items) → InOrder es → AllByRecursion (λ (x : Key × Item). item_of es x.0 ≡ Some x.1) es
unfolding IsStrictlySortedBy
found_all [] s = tt
found_all (e ∷ es) s =
    (rw (ap is_eq (tied_itself key_cmp_total e.0)) refl, later_found e es es s.0 (found_all es s.1))

module _ (p : Key × Item → Bool) (q : Key) (i : Item) where
  item_passing : (es : Items) → item_of es q ≡ Some i → p (q, i) ≡ true → item_of (filter p es) q ≡ Some i
  item_passing [] is pass = absurd (cc is)
  item_passing (e ∷ es) is pass = by_bool (tied q e.0)
      (λ tie.
      let item : e.1 ≡ i = cc (rw tie at is) in
      let key = one_key q e.0 tie in
      let here : p e ≡ true = ap p (λ j. (sym key j, item j)) ∙ pass in
      rw here (rw tie (ap Some item)))
      (λ tie.
      let rest = item_passing es (rw tie at is) pass in
      by_bool (p e) (λ h. rw h (rw tie rest)) (λ h. rw h rest))

none_tied : (q : Key) (es : Items) → passing (λ (e : Key × Item). tied q e.0) es ≡ 0 → item_of es q ≡ None
none_tied q [] none = refl
none_tied q (e ∷ es) none = by_bool (tied q e.0)
    (λ tie. absurd (omega (arith, none, passing_cons (λ (x : Key × Item). tied q x.0) e es, ap {B = ℕ} (λ b. cond b 1 0) tie)))
    (λ tie. rw tie (none_tied q es (rw tie at none)))

whole_put : (found es : Items) → fold with_item found es ≡ apply found (whole es)
whole_put found [] = refl
whole_put found (e ∷ es) = whole_put (with_item found e) es

whole_mentions : (q : Key) (es : Items) → mentions q (whole es) ≡ list_any (λ (e : Key × Item). tied q e.0) es
whole_mentions q [] = refl
whole_mentions q (e ∷ es) = by_bool (tied q e.0) (λ h. rw h refl) (λ h. rw h (whole_mentions q es))

whole_fits : (t es : Items) → AllByRecursion (λ (e : Key × Item). Some e.1 ≡ item_of t e.0) es → Fits t (whole es)
whole_fits t [] all = tt
whole_fits t (e ∷ es) all = (all.0, whole_fits t es all.1)

-- ---- how many are looked at

module _ (p : Key × Item → Bool) where
  looked_few : (most : ℕ) (es : Items) → looked_until p most es ≤ length es
  looked_few zero es = omega arith
  looked_few (suc most) [] = omega arith
  looked_few (suc most) (e ∷ es) = omega (arith, looked_few (cond (p e) most (suc most)) es)

  up_to_first : (e : Key × Item) (es : Items) → AllByRecursion (λ y. soonest_cmp e y ≡ Less) es
      → (n : ℕ) → suc n ≤ length (filter p es) → comes_up_to (take (suc n) (filter p es)) e ≡ true
  up_to_first e [] above n some = absurd (omega (arith, some))
  up_to_first e (x ∷ es) above n some = by_bool (p x)
      (λ h. rw h (rw (ap not (not_below soonest_cmp soonest_total e x above.0)) refl))
      (λ h. rw h (up_to_first e es above.1 n (rw h at some)))

  up_to_more : (x e : Key × Item) (xs : Items) → comes_up_to xs e ≡ true → comes_up_to (x ∷ xs) e ≡ true
  up_to_more x e xs up = by_bool (not (is_lt (soonest_cmp x e))) (λ h. rw h refl) (λ h. rw h up)

  up_to_itself : (e : Key × Item) (xs : Items) → comes_up_to (e ∷ xs) e ≡ true
  up_to_itself e xs = rw (ap is_lt (tied_itself soonest_total e)) refl

  looked_up_to : (most : ℕ) (es : Items) → IsStrictlySortedBy soonest_cmp es → most ≤ length (filter p es)
      → looked_until p most es ≤ passing (comes_up_to (take most (filter p es))) es
  unfolding IsStrictlySortedBy
  looked_up_to zero es s some = omega arith
  looked_up_to (suc most) [] s some = omega arith
  looked_up_to (suc most) (e ∷ es) s some = by_bool (p e)
      (λ h.
      let some_left : most ≤ length (filter p es) = omega (arith, rw h at some) in
      let rest = looked_up_to most es s.1 some_left in
      let xs = take most (filter p es) in
      let more = fewer_pass (comes_up_to xs) (comes_up_to (e ∷ xs)) (λ x up. up_to_more e x xs up) es in
      let here = ap {B = ℕ} (λ b. cond b 1 0) (up_to_itself e xs) in
      let is : filter p (e ∷ es) ≡ e ∷ filter p es = rw h refl in
      let whole : suc (looked_until p most es) ≤ passing (comes_up_to (e ∷ xs)) (e ∷ es) =
      omega (arith, rest, more, here, passing_cons (comes_up_to (e ∷ xs)) e es) in
      subst (λ (l : Items). looked_until p (suc most) (e ∷ es) ≤ passing (comes_up_to l) (e ∷ es)) (sym (ap (take (suc most)) is))
      (omega (arith, looked_first p most e es h, whole)))
      (λ h.
      let some_left : suc most ≤ length (filter p es) = rw h at some in
      let rest = looked_up_to (suc most) es s.1 some_left in
      let xs = take (suc most) (filter p es) in
      let here = ap {B = ℕ} (λ b. cond b 1 0) (up_to_first e es s.0 most some_left) in
      let is : filter p (e ∷ es) ≡ filter p es = rw h refl in
      let whole : suc (looked_until p (suc most) es) ≤ passing (comes_up_to xs) (e ∷ es) =
      omega (arith, rest, here, passing_cons (comes_up_to xs) e es) in
      subst (λ (l : Items). looked_until p (suc most) (e ∷ es) ≤ passing (comes_up_to l) (e ∷ es)) (sym (ap (take (suc most)) is))
      (omega (arith, looked_over p most e es h, whole)))

length_take : {X : Type 0} (n : ℕ) (xs : List X) → n ≤ length xs ⊎ (length (take n xs) ≡ length xs)
length_take zero xs = inl (omega arith)
length_take (suc n) [] = inr refl
length_take (suc n) (x ∷ xs) = by (length_take n xs)
  where
    by : n ≤ length xs ⊎ (length (take n xs) ≡ length xs) → suc n ≤ suc (length xs) ⊎ (suc (length (take n xs)) ≡ suc (length xs))
    by (inl le) = inl (omega (arith, le))
    by (inr is) = inr (ap suc is)

all_pass : {X : Type 0} (xs : List X) → passing (λ x. true) xs ≡ length xs
all_pass [] = refl
all_pass (x ∷ xs) = ap suc (all_pass xs)

-- ---- the direct response to a topic of stop monitoring

module _ (t : StopTopic) (now : ℕ) (es : Items) (s : InOrder es) (most : ℕ) where
  abbrev asked : Topic
  asked = topic.Stop t

  abbrev window : Window
  window = window_of asked now

  abbrev walked : Items
  walked = visits_for asked now es

  abbrev lent : Items
  lent = first_entries asked now es

  abbrev all : Items
  all = shown now es asked

  lent_walked : filter (λ (e : Key × Item). is_shown asked e.1 now) walked ≡ lent
  lent_walked =
      filter_visits (enters window) (λ i. is_shown asked i now) es s
      ∙ by_alike (λ i. enters window i && is_shown asked i now) (λ i. is_shown asked i now) (shown_enters window t now refl) es

  walked_sorted : IsStrictlySortedBy soonest_cmp walked
  walked_sorted = visits_sorted window es s

  lent_sorted : IsStrictlySortedBy soonest_cmp lent
  lent_sorted = subst (λ (l : Items). IsStrictlySortedBy soonest_cmp l) lent_walked
      (IsStrictlySortedBy-filter soonest_cmp (λ (e : Key × Item). is_shown asked e.1 now) walked walked_sorted)

  visits_alone : (i : Item) → (is_of service.Stop i && is_shown asked i now) ≡ is_shown asked i now
  visits_alone (item.Visit v) = refl
  visits_alone (item.Journey j) = refl
  visits_alone (item.Vehicle v) = refl
  visits_alone (item.Situation x) = refl

  those_are : filter (λ (e : Key × Item). is_of service.Stop e.1 && is_shown asked e.1 now) es ≡ all
  those_are = filter_same (λ (e : Key × Item). is_of service.Stop e.1 && is_shown asked e.1 now) (λ (e : Key × Item). is_shown asked e.1 now)
      (λ e. visits_alone e.1) es

  lent_passing : (q : Key × Item → Bool) → passing q lent ≡ passing q all
  lent_passing q = visits_passing (λ i. is_shown asked i now) es s q ∙ ap (passing q) those_are

  -- as many come before one of them
  abbrev is_first : Key × Item → Bool
  is_first e = nat_lt (items_before all e) most

  before : (e : Key × Item) → items_before all e ≡ passing (below soonest_cmp soonest_total e) lent
  before e = sym (length-filter (below soonest_cmp soonest_total e) all) ∙ sym (lent_passing (below soonest_cmp soonest_total e))

  cut : filter is_first lent ≡ take most lent
  cut = filter_places is_first most 0 lent
      (λ i e at. ap (λ n. nat_lt n most) (before e ∙ (before_place soonest_cmp soonest_total lent lent_sorted i e at ∙ from_none i)))
      ∙ ap (λ n. take n lent) (less_none most)

  ordered : InOrder all
  ordered = shown_in_order now es asked s

  abbrev firsts : Items
  firsts = soonest most all

  lent_found : AllByRecursion (λ (e : Key × Item). item_of all e.0 ≡ Some e.1) lent
  lent_found = visits_all (λ i. is_shown asked i now) es s (λ e. item_of all e.0 ≡ Some e.1)
      (subst (λ (l : Items). AllByRecursion (λ (e : Key × Item). item_of all e.0 ≡ Some e.1) l) (sym those_are) (found_all all ordered))

  fits : Fits firsts (whole (filter is_first lent))
  fits = whole_fits firsts (filter is_first lent)
      (filtered_all is_first (λ e. item_of all e.0 ≡ Some e.1) (λ e. Some e.1 ≡ item_of firsts e.0)
      (λ e pass found. sym (item_passing is_first e.0 e.1 all found pass)) lent lent_found)

  first_passing : (q : Key × Item → Bool) → passing q (filter is_first lent) ≡ passing q firsts
  first_passing q = both_passing is_first q lent ∙ (lent_passing (λ e. is_first e && q e) ∙ sym (both_passing is_first q all))

  elsewhere : (q : Key) → mentions q (whole (filter is_first lent)) ≡ false → item_of [] q ≡ item_of firsts q
  elsewhere q none = sym (none_tied q firsts
      (sym (first_passing (λ e. tied q e.0))
      ∙ none_any (λ (e : Key × Item). tied q e.0) (filter is_first lent) (sym (whole_mentions q (filter is_first lent)) ∙ none)))

  pub firsts_are : fold with_item [] (take most lent) ≡ firsts
  unfolding IsStrictlySortedBy
  firsts_are =
      ap (fold with_item []) (sym cut)
      ∙ (whole_put [] (filter is_first lent)
      ∙ leads [] firsts (whole (filter is_first lent)) tt (sorted_kept is_first key_cmp all ordered) fits elsewhere)

  -- ---- how many visits are looked at for them

  abbrev looked : ℕ
  looked = looked_until (shown_at asked now) most walked

  walked_length : length walked ≡ passing (λ (e : Key × Item). is_of service.Stop e.1 && enters window e.1) es
  walked_length =
      sym (all_pass walked)
      ∙ (visits_passing (enters window) es s (λ e. true)
      ∙ all_pass (filter (λ (e : Key × Item). is_of service.Stop e.1 && enters window e.1) es))

  pub looked_all : looked ≤ length es
  looked_all = omega (
    arith,
    looked_few (shown_at asked now) most walked,
    walked_length,
    fewer_pass (λ (e : Key × Item). is_of service.Stop e.1 && enters window e.1) (λ e. true) (λ e h. refl) es,
    all_pass es,
  )

  visits_served : (i : Item) → is_served asked i ≡ is_of service.Stop i
  visits_served (item.Visit v) = refl
  visits_served (item.Journey j) = refl
  visits_served (item.Vehicle v) = refl
  visits_served (item.Situation x) = refl

  enters_bits : (served from before : Bool) → (served && (from && before)) ≡ true → ((served && from) && before) ≡ true
  enters_bits true from before h = h
  enters_bits false from before h = absurd (cc h)

  from_bits : (served from before up : Bool) → ((served && (from && before)) && up) ≡ true → ((served && from) && up) ≡ true
  from_bits true true true up h = h
  from_bits true true false up h = absurd (cc h)
  from_bits true false before up h = absurd (cc h)
  from_bits false from before up h = absurd (cc h)

  enters_all : (e : Key × Item) → (is_of service.Stop e.1 && enters window e.1) ≡ true → enters_in asked window e.1 ≡ true
  enters_all e h =
      enters_bits (is_served asked e.1) (is_from window.from (entry_of e.1)) (is_before window.to (entry_of e.1))
      (ap (λ b. b && enters window e.1) (visits_served e.1) ∙ h)

  all_within : looked ≤ count_by (λ (e : Key × Item). enters_in asked window e.1) es
  all_within = omega (
    arith,
    looked_few (shown_at asked now) most walked,
    walked_length,
    fewer_pass (λ (e : Key × Item). is_of service.Stop e.1 && enters window e.1) (λ (e : Key × Item). enters_in asked window e.1) enters_all es,
    length-filter (λ (e : Key × Item). enters_in asked window e.1) es,
  )

  first_length : length firsts ≡ length (take most lent)
  first_length = sym (all_pass firsts) ∙ (sym (first_passing (λ e. true)) ∙ (all_pass (filter is_first lent) ∙ ap (λ (l : Items). length l) cut))

  enough : most ≤ length firsts → most ≤ length (filter (shown_at asked now) walked)
  enough le = by (length_take most lent)
    where
      by : most ≤ length lent ⊎ (length (take most lent) ≡ length lent) → most ≤ length (filter (shown_at asked now) walked)
      by (inl few) = omega (arith, few, ap (λ (l : Items). length l) lent_walked)
      by (inr same) = omega (arith, le, first_length, same, ap (λ (l : Items). length l) lent_walked)

  abbrev up_to_lent : Key × Item → Bool
  up_to_lent e = comes_up_to (take most (filter (shown_at asked now) walked)) e

  lent_up_to : (e : Key × Item) → up_to_lent e ≡ comes_up_to firsts e
  lent_up_to e =
      ap (λ (l : Items). comes_up_to (take most l) e) lent_walked
      ∙ (ap (λ (l : Items). comes_up_to l e) (sym cut)
      ∙ any_same (λ (other : Key × Item). not (is_lt (soonest_cmp other e))) (filter is_first lent) firsts
      (first_passing (λ other. not (is_lt (soonest_cmp other e)))))

  up_to_all : (e : Key × Item) → ((is_of service.Stop e.1 && enters window e.1) && up_to_lent e) ≡ true
      → (enters_from asked window e.1 && comes_up_to firsts e) ≡ true
  up_to_all e h =
      from_bits (is_served asked e.1) (is_from window.from (entry_of e.1)) (is_before window.to (entry_of e.1)) (comes_up_to firsts e)
      ((λ i. (visits_served e.1 i && enters window e.1) && sym (lent_up_to e) i) ∙ h)

  up_to_within : most ≤ length firsts
      → looked ≤ count_by (λ (e : Key × Item). enters_from asked window e.1 && comes_up_to firsts e) es
  up_to_within le = omega (
    arith,
    looked_up_to (shown_at asked now) most walked walked_sorted (enough le),
    visits_passing (enters window) es s up_to_lent,
    both_passing (λ (e : Key × Item). is_of service.Stop e.1 && enters window e.1) up_to_lent es,
    fewer_pass (λ (e : Key × Item). (is_of service.Stop e.1 && enters window e.1) && up_to_lent e)
        (λ (e : Key × Item). enters_from asked window e.1 && comes_up_to firsts e) up_to_all es,
    length-filter (λ (e : Key × Item). enters_from asked window e.1 && comes_up_to firsts e) es,
  )

  pub looked_within : looked ≤ visits_to asked most window firsts es
  looked_within = by_bool (nat_lt (length firsts) most)
      (λ h. rw h all_within)
      (λ h. rw h (up_to_within (ltb-false (length firsts) most h)))

-- ---- the direct response to any topic that has MaximumStopVisits

pub first_are : (now : ℕ) (es : Items) (topic : Topic) (most : ℕ) → InOrder es → most_of topic ≡ Some most
    → fold with_item [] (take most (first_entries topic now es)) ≡ direct_to now es topic
first_are now es (topic.Stop t) most s is =
    firsts_are t now es s most ∙ ap (λ m. at_most m (shown now es (topic.Stop t))) (sym is)
first_are now es (topic.Timetable t) most s is = absurd (cc is)
first_are now es (topic.Vehicle t) most s is = absurd (cc is)
first_are now es (topic.Situation t) most s is = absurd (cc is)

first_few : (now : ℕ) (es : Items) (topic : Topic) (most : ℕ) → InOrder es → most_of topic ≡ Some most
    → looked_until (shown_at topic now) most (visits_for topic now es) ≤ length es
first_few now es (topic.Stop t) most s is = looked_all t now es s most
first_few now es (topic.Timetable t) most s is = absurd (cc is)
first_few now es (topic.Vehicle t) most s is = absurd (cc is)
first_few now es (topic.Situation t) most s is = absurd (cc is)

-- of those that may be shown to the topic by their keys
asked_ordered : (es : Items) (topic : Topic) → InOrder es → InOrder (candidates topic es)
asked_ordered es topic s = sorted_kept (λ (e : Key × Item). may_be_shown topic e.0) key_cmp es s

module _ (now : ℕ) (es : Items) (topic : Topic) (most before after : ℕ) (s : InOrder es) (is : most_of topic ≡ Some most)
    (le : after ≤ before + looked_until (shown_at topic now) most (visits_for topic now (candidates topic es))) where
  pub first_asked : after ≤ before + length (candidates topic es)
  first_asked = omega (arith, le, first_few now (candidates topic es) topic most (asked_ordered es topic s) is)

  pub first_held : after ≤ before + length es
  first_held = omega (arith, first_asked, fewer_pass (λ (e : Key × Item). may_be_shown topic e.0) (λ e. true) (λ e h. refl) es, all_pass es)

same_most : (a b : ℕ) (m : Option ℕ) → m ≡ Some a → m ≡ Some b → a ≡ b
same_most a b m x y = cc (sym x ∙ y)

within_visits : (now : ℕ) (es : Items) (topic : Topic) (most before after : ℕ) → InOrder es → most_of topic ≡ Some most
    → after ≤ before + looked_until (shown_at topic now) most (visits_for topic now es) → AreWithin now es topic before after
within_visits now es (topic.Stop t) most before after s is le other named =
    let same = same_most most other (most_of (topic.Stop t)) is named in
    let direct : soonest most (shown now es (topic.Stop t)) ≡ direct_to now es (topic.Stop t) =
    ap (λ m. at_most m (shown now es (topic.Stop t))) (sym is) in
    let bound : visits_to (topic.Stop t) most (window_of (topic.Stop t) now) (soonest most (shown now es (topic.Stop t))) es
    ≡ visits_to (topic.Stop t) other (window_of (topic.Stop t) now) (direct_to now es (topic.Stop t)) es =
    λ i. visits_to (topic.Stop t) (same i) (window_of (topic.Stop t) now) (direct i) es in
    omega (arith, le, looked_within t now es s most, bound)
within_visits now es (topic.Timetable t) most before after s is le other named = absurd (cc is)
within_visits now es (topic.Vehicle t) most before after s is le other named = absurd (cc is)
within_visits now es (topic.Situation t) most before after s is le other named = absurd (cc is)

pub first_within : (now : ℕ) (es : Items) (topic : Topic) (most before after : ℕ) → InOrder es → most_of topic ≡ Some most
    → after ≤ before + looked_until (shown_at topic now) most (visits_for topic now (candidates topic es))
    → AreWithin now (candidates topic es) topic before after
first_within now es topic most before after s is le =
    within_visits now (candidates topic es) topic most before after (asked_ordered es topic s) is le
