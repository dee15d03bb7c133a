-- What the store says that was crossed is what the ends of the topic's window crossed.
use Rattle.std.proofs.Common.{◌≡◌, ℕ, ℤ, ◌+◌, ◌≤◌, List, [], ◌∷◌, length, filter, map, fold, count_by, Bool, true, false, ◌&&◌, ◌||◌, cond}
use Rattle.std.proofs.Common.{Option, Some, None, is_some, refl, ap, sym, ◌∙◌, arith}
use Rattle.std.specs.Prelude.{unwrap_or}
use Rattle.std.specs.BTreeMap.{insert_entry}
use Rattle.std.specs.List.{AllByRecursion, list_any}
use Rattle.std.specs.List.Sorted.{IsStrictlySortedBy}
use Rattle.std.specs.Ordering.{ordering_then, ordering_reverse, is_eq}
use Rattle.std.specs.declared.cmp.Ordering.{Ordering}
use Rattle.std.specs.declared.cmp.Ordering.TheVariants.{Less, Equal, Greater}
use Rattle.std.proofs.lemmas.List.{length-map}
use Rattle.std.proofs.lemmas.List.Sums.{length-filter}
use Rattle.siri_records.specs.Edges.{has_edge}
use Rattle.siri_records.specs.declared.item.Item.{Item}
use Rattle.siri_records.specs.declared.item.Item.TheVariants as item
use Rattle.siri_records.specs.declared.item.Service.{Service}
use Rattle.siri_records.specs.declared.item.Service.TheVariants as service
use Rattle.siri_records.specs.declared.key.Key.{Key}
use Rattle.siri_records.specs.Keyed.{Items, InOrder, item_of, with_item}
use Rattle.siri_records.specs.Order.{key_cmp, key_cmp_total}
use Rattle.siri_records.proofs.KeyLists.{tied, one_key, tied_self}
use Rattle.siri_records.proofs.Order.{key_cmp_exact}
use Rattle.siri_topic.specs.Crossed.{is_crossed, far_end_between}
use Rattle.siri_topic.specs.Shown.{window_of}
use Rattle.siri_topic.specs.declared.topics.Topic.{Topic}
use Rattle.siri_topic.specs.declared.topics.VehicleTopic.{VehicleTopic}
use Rattle.siri_topic.specs.declared.topics.Topic.TheVariants as topic
use Rattle.siri_topic.specs.declared.windows.Window.{Window}
use Rattle.siri_model.specs.Followed.{edges_passed, far_edges_passed, items_passed}
use Rattle.siri_model.specs.Looks.{crossed_items}
use Rattle.siri_model.proofs.Current.{lookup_inserted}
use Rattle.siri_model.proofs.Entries.{IsBelow, below_less, sorted_inserted, sorted_passing}
use Rattle.siri_store.specs.Crossing.{edge_cmp, under_edge, crossed_entries}
use Rattle.siri_responder.specs.Looking.{with_items, near_entries, far_between, far_entries}
use Rattle.siri_records.proofs.ItemsPassing.{kept_if, item_kept}
use Rattle.siri_records.specs.Services.{is_of}
use Rattle.siri_topic.specs.Services.{is_served, service_asked}

-- ---- items in order are one list where the same is held of each key

none_below : (k : Key) (es : Items) → IsBelow key_cmp k es → item_of es k ≡ None
none_below k [] below = refl
none_below k (e ∷ es) below = rw (below.0) (none_below k es below.1)

first_found : (e : Key × Item) (es : Items) → item_of (e ∷ es) e.0 ≡ Some e.1
first_found e es = ap (λ c. cond c (Some e.1) (item_of es e.0)) (tied_self e.0)

first_alone : (x y : Key × Item) (es : Items) → key_cmp x.0 y.0 ≡ Less → IsBelow key_cmp y.0 es → item_of (y ∷ es) x.0 ≡ None
first_alone x y es less below = none_below x.0 (y ∷ es) (less, below_less key_cmp_total x.0 y.0 es less below)

same_rest_case : (x y : Key × Item) (xs ys : Items) (q : Key) (t : Bool) → tied q x.0 ≡ t → x.0 ≡ y.0 → IsBelow key_cmp x.0 xs → IsBelow key_cmp y.0 ys
    → item_of (x ∷ xs) q ≡ item_of (y ∷ ys) q → item_of xs q ≡ item_of ys q
same_rest_case x y xs ys q true h key above also is =
    let here = one_key q x.0 h in
    ap (item_of xs) here ∙ (none_below x.0 xs above ∙ sym (ap (item_of ys) (here ∙ key) ∙ none_below y.0 ys also))
same_rest_case x y xs ys q false h key above also is =
    let other : tied q y.0 ≡ false = ap (λ k. tied q k) (sym key) ∙ h in
    sym (ap (λ c. cond c (Some x.1) (item_of xs q)) h) ∙ (is ∙ ap (λ c. cond c (Some y.1) (item_of ys q)) other)

one_item : (x y : Item) → ◌≡◌ {A = Option Item} (Some x) (Some y) → x ≡ y
one_item x y is = ap (λ o. unwrap_or o x) is

same_first : (x y : Key × Item) (xs ys : Items) (o : Ordering) → key_cmp x.0 y.0 ≡ o → IsBelow key_cmp x.0 xs → IsBelow key_cmp y.0 ys
    → ((q : Key) → item_of (x ∷ xs) q ≡ item_of (y ∷ ys) q) → x.0 ≡ y.0
same_first x y xs ys Equal h above also is = key_cmp_exact x.0 y.0 h
same_first x y xs ys Less h above also is = absurd (cc (sym (first_found x xs) ∙ (is x.0 ∙ first_alone x y ys h also)))
same_first x y xs ys Greater h above also is =
    let below = key_cmp_total.antisymm y.0 x.0 ∙ ap ordering_reverse h in
    absurd (cc (sym (first_found y ys) ∙ (sym (is y.0) ∙ first_alone y x xs below above)))

same_items : (xs ys : Items) → InOrder xs → InOrder ys → ((q : Key) → item_of xs q ≡ item_of ys q) → xs ≡ ys
unfolding IsStrictlySortedBy
same_items [] [] s r is = refl
same_items [] (y ∷ ys) s r is = absurd (cc (is y.0 ∙ first_found y ys))
same_items (x ∷ xs) [] s r is = absurd (cc (sym (is x.0) ∙ first_found x xs))
same_items (x ∷ xs) (y ∷ ys) s r is =
    let key = same_first x y xs ys (key_cmp x.0 y.0) refl s.0 r.0 is in
    let value = one_item x.1 y.1 (sym (first_found x xs) ∙ (is x.0 ∙ (ap (item_of (y ∷ ys)) key ∙ first_found y ys))) in
    let rest = same_items xs ys s.1 r.1 (λ q. same_rest_case x y xs ys q (tied q x.0) refl key s.0 r.0 (is q)) in
    λ i. (key i, value i) ∷ rest i

-- ---- items that are put under their keys

-- these are held
abbrev AreHeld : Items → Items → Type 0
AreHeld held xs = AllByRecursion (λ e. item_of held e.0 ≡ Some e.1) xs

-- one of these has a key
abbrev any_of : Key → Items → Bool
any_of q xs = list_any (λ e. tied q e.0) xs

put_case : (held acc : Items) (e : Key × Item) (q : Key) (a t : Bool) → tied q e.0 ≡ t → item_of held e.0 ≡ Some e.1
    → cond a (item_of held q) (cond t (Some e.1) (item_of acc q)) ≡ cond (t || a) (item_of held q) (item_of acc q)
put_case held acc e q true true h is = refl
put_case held acc e q true false h is = refl
put_case held acc e q false true h is = sym (ap (item_of held) (one_key q e.0 h) ∙ is)
put_case held acc e q false false h is = refl

put_found : (held acc xs : Items) (q : Key) → AreHeld held xs → item_of (with_items acc xs) q ≡ cond (any_of q xs) (item_of held q) (item_of acc q)
put_found held acc [] q all = refl
put_found held acc (e ∷ xs) q all =
    put_found held (with_item acc e) xs q all.1
    ∙ (ap (λ o. cond (any_of q xs) (item_of held q) o) (lookup_inserted key_cmp_total key_cmp_exact q e.0 e.1 acc)
    ∙ put_case held acc e q (any_of q xs) (tied q e.0) refl all.0)

put_in_order : (acc xs : Items) → InOrder acc → InOrder (with_items acc xs)
put_in_order acc [] s = s
put_in_order acc (e ∷ xs) s = put_in_order (with_item acc e) xs (sorted_inserted key_cmp_total e.0 e.1 acc s)

-- ---- in the order of their edges

abbrev Placed : Type 0
Placed = (ℕ × Key) × Item

abbrev any_placed : Key → List Placed → Bool
any_placed q fs = list_any (λ f. tied q f.0.1) fs

abbrev ArePlaced : Items → List Placed → Type 0
ArePlaced held fs = AllByRecursion (λ f. item_of held f.0.1 ≡ Some f.1) fs

second_ties : (o p : Ordering) → ordering_then o p ≡ Equal → p ≡ Equal
second_ties Equal p e = e
second_ties Less p e = absurd (cc e)
second_ties Greater p e = absurd (cc e)

one_place : (p f : ℕ × Key) → edge_cmp p f ≡ Equal → p.1 ≡ f.1
one_place p f e = key_cmp_exact p.1 f.1 (second_ties _ (key_cmp p.1 f.1) e)

or_twice : (a b : Bool) → (a || b) ≡ (a || (a || b))
or_twice true b = refl
or_twice false b = refl

or_swap : (a b c : Bool) → (a || (b || c)) ≡ (b || (a || c))
or_swap true true c = refl
or_swap true false c = refl
or_swap false true c = refl
or_swap false false c = refl

any_inserted_case : (q : Key) (p : ℕ × Key) (i : Item) (f : Placed) (fs : List Placed) (o : Ordering) → edge_cmp p f.0 ≡ o
    → any_placed q (insert_entry edge_cmp fs p i) ≡ (tied q p.1 || any_placed q fs)
    → any_placed q (insert_entry edge_cmp (f ∷ fs) p i) ≡ (tied q p.1 || any_placed q (f ∷ fs))
any_inserted_case q p i f fs Less h rest = rw h refl
any_inserted_case q p i f fs Equal h rest =
    rw h (or_twice (tied q f.0.1) (any_placed q fs) ∙ ap (λ k. tied q k || (tied q f.0.1 || any_placed q fs)) (sym (one_place p f.0 h)))
any_inserted_case q p i f fs Greater h rest = rw h (ap (λ b. tied q f.0.1 || b) rest ∙ or_swap (tied q f.0.1) (tied q p.1) (any_placed q fs))

any_inserted : (q : Key) (p : ℕ × Key) (i : Item) (fs : List Placed) → any_placed q (insert_entry edge_cmp fs p i) ≡ (tied q p.1 || any_placed q fs)
any_inserted q p i [] = refl
any_inserted q p i (f ∷ fs) = any_inserted_case q p i f fs (edge_cmp p f.0) refl (any_inserted q p i fs)

placed_case : (held : Items) (p : ℕ × Key) (i : Item) (f : Placed) (fs : List Placed) (o : Ordering) → edge_cmp p f.0 ≡ o → item_of held p.1 ≡ Some i
    → ArePlaced held (f ∷ fs) → ArePlaced held (insert_entry edge_cmp fs p i) → ArePlaced held (insert_entry edge_cmp (f ∷ fs) p i)
placed_case held p i f fs Less h is all rest = rw h (is, all)
placed_case held p i f fs Equal h is all rest = rw h (ap (item_of held) (sym (one_place p f.0 h)) ∙ is, all.1)
placed_case held p i f fs Greater h is all rest = rw h (all.0, rest)

placed_inserted : (held : Items) (p : ℕ × Key) (i : Item) (fs : List Placed) → item_of held p.1 ≡ Some i → ArePlaced held fs
    → ArePlaced held (insert_entry edge_cmp fs p i)
placed_inserted held p i [] is all = (is, tt)
placed_inserted held p i (f ∷ fs) is all = placed_case held p i f fs (edge_cmp p f.0) refl is all (placed_inserted held p i fs is all.1)

longer_case : (p : ℕ × Key) (i : Item) (f : Placed) (fs : List Placed) (o : Ordering) → edge_cmp p f.0 ≡ o
    → length (insert_entry edge_cmp fs p i) ≤ length fs + 1 → length (insert_entry edge_cmp (f ∷ fs) p i) ≤ length (f ∷ fs) + 1
longer_case p i f fs Less h rest = rw h (omega arith)
longer_case p i f fs Equal h rest = rw h (omega arith)
longer_case p i f fs Greater h rest = rw h (omega (arith, rest))

longer : (p : ℕ × Key) (i : Item) (fs : List Placed) → length (insert_entry edge_cmp fs p i) ≤ length fs + 1
longer p i [] = omega arith
longer p i (f ∷ fs) = longer_case p i f fs (edge_cmp p f.0) refl (longer p i fs)

module _ (from to : ℤ) where
  abbrev placed : List Placed → Items → List Placed
  placed fs xs = fold (λ found e. insert_entry edge_cmp found (under_edge from to e) e.1) fs xs

  any_all : (q : Key) (fs : List Placed) (xs : Items) → any_placed q (placed fs xs) ≡ (any_of q xs || any_placed q fs)
  any_all q fs [] = refl
  any_all q fs (e ∷ xs) =
      any_all q (insert_entry edge_cmp fs (under_edge from to e) e.1) xs
      ∙ (ap (λ b. any_of q xs || b) (any_inserted q (under_edge from to e) e.1 fs)
      ∙ or_assoc (any_of q xs) (tied q e.0) (any_placed q fs))
    where
      or_assoc : (a b c : Bool) → (a || (b || c)) ≡ ((b || a) || c)
      or_assoc true true c = refl
      or_assoc true false c = refl
      or_assoc false true c = refl
      or_assoc false false c = refl

  placed_all : (held : Items) (fs : List Placed) (xs : Items) → AreHeld held xs → ArePlaced held fs → ArePlaced held (placed fs xs)
  placed_all held fs [] all before = before
  placed_all held fs (e ∷ xs) all before =
      placed_all held (insert_entry edge_cmp fs (under_edge from to e) e.1) xs all.1
      (placed_inserted held (under_edge from to e) e.1 fs all.0 before)

  longer_all : (fs : List Placed) (xs : Items) → length (placed fs xs) ≤ length fs + length xs
  longer_all fs [] = omega arith
  longer_all fs (e ∷ xs) =
      omega (arith, longer_all (insert_entry edge_cmp fs (under_edge from to e) e.1) xs, longer (under_edge from to e) e.1 fs)

-- as entries

any_map : (q : Key) (fs : List Placed) → any_of q (map (λ f. (f.0.1, f.1)) fs) ≡ any_placed q fs
any_map q [] = refl
any_map q (f ∷ fs) = ap (λ b. tied q f.0.1 || b) (any_map q fs)

held_map : (held : Items) (fs : List Placed) → ArePlaced held fs → AreHeld held (map (λ f. (f.0.1, f.1)) fs)
held_map held [] all = tt
held_map held (f ∷ fs) all = (all.0, held_map held fs all.1)

-- ---- of those that are held

apart_from : (x y : Key) → key_cmp x y ≡ Less → tied y x ≡ false
apart_from x y less = ap is_eq (key_cmp_total.antisymm y x ∙ ap ordering_reverse less)

held_later : (e : Key × Item) (es xs : Items) → IsBelow key_cmp e.0 xs → AreHeld es xs → AreHeld (e ∷ es) xs
held_later e es [] below all = tt
held_later e es (x ∷ xs) below all =
    (ap (λ c. cond c (Some e.1) (item_of es x.0)) (apart_from e.0 x.0 below.0) ∙ all.0, held_later e es xs below.1 all.1)

held_themselves : (es : Items) → InOrder es → AreHeld es es
unfolding IsStrictlySortedBy
held_themselves [] s = tt
held_themselves (e ∷ es) s = (
  ap (λ c. cond c (Some e.1) (item_of es e.0)) (tied_self e.0),
  held_later e es es s.0 (held_themselves es s.1),
)

held_passing_case : (held : Items) (p : Key × Item → Bool) (e : Key × Item) (xs : Items) (b : Bool) → p e ≡ b → AreHeld held (e ∷ xs)
    → AreHeld held (filter p xs) → AreHeld held (filter p (e ∷ xs))
held_passing_case held p e xs true h all rest = rw h (all.0, rest)
held_passing_case held p e xs false h all rest = rw h rest

held_passing : (held : Items) (p : Key × Item → Bool) (xs : Items) → AreHeld held xs → AreHeld held (filter p xs)
held_passing held p [] all = tt
held_passing held p (e ∷ xs) all = held_passing_case held p e xs (p e) refl all (held_passing held p xs all.1)

any_is_case : (q : Key) (e : Key × Item) (xs : Items) (t : Bool) → tied q e.0 ≡ t → any_of q xs ≡ is_some (item_of xs q)
    → any_of q (e ∷ xs) ≡ is_some (item_of (e ∷ xs) q)
any_is_case q e xs true h rest = rw h refl
any_is_case q e xs false h rest = rw h rest

any_is : (q : Key) (xs : Items) → any_of q xs ≡ is_some (item_of xs q)
any_is q [] = refl
any_is q (e ∷ xs) = any_is_case q e xs (tied q e.0) refl (any_is q xs)

-- what has an edge of a service
abbrev has_one : Service → ℤ → ℤ → Item → Bool
has_one s from to i = is_of s i && has_edge from to i

module _ (s : Service) (from to : ℤ) (held : Items) where
  passing : Items
  passing = filter (λ e. has_one s from to e.1) held

  or_false : (a : Bool) → (a || false) ≡ a
  or_false true = refl
  or_false false = refl

  any_crossed : InOrder held → (q : Key) → any_of q (crossed_entries s from to held) ≡ is_some (kept_if (has_one s from to) (item_of held q))
  unfolding passing
  any_crossed ordered q =
      any_map q (placed from to [] passing)
      ∙ (any_all from to q [] passing
      ∙ (or_false (any_of q passing)
      ∙ (any_is q passing
      ∙ ap is_some (item_kept (has_one s from to) q held ordered))))

  crossed_held : InOrder held → AreHeld held (crossed_entries s from to held)
  unfolding passing
  crossed_held ordered =
      held_map held (placed from to [] passing)
      (placed_all from to held [] passing (held_passing held (λ e. has_one s from to e.1) held (held_themselves held ordered)) tt)

  few_crossed : length (crossed_entries s from to held) ≤ count_by (λ e. has_one s from to e.1) held
  unfolding passing
  few_crossed = omega (
    arith,
    length-map {A = Placed} {B = Key × Item} (placed from to [] passing) (λ f. (f.0.1, f.1)),
    longer_all from to [] passing,
    length-filter (λ (e : Key × Item). has_one s from to e.1) held,
  )

-- ---- by the ends of a window

near_one : Topic → Window → Window → Item → Bool
near_one (topic.Situation t) earlier now i = has_one service.Situation earlier.from now.from i
near_one t earlier now i = false

far_one : Topic → Option ℤ → Option ℤ → Item → Bool
far_one t (Some from) (Some to) i = has_one (service_asked t) from to i
far_one t from to i = false

none_kept : (held : Option Item) → false ≡ is_some (kept_if (λ i. false) held)
none_kept None = refl
none_kept (Some i) = refl

module _ (held : Items) (ordered : InOrder held) where
  any_near : (t : Topic) (earlier now : Window) (q : Key) → any_of q (near_entries t earlier now held) ≡ is_some (kept_if (near_one t earlier now) (item_of held q))
  unfolding near_one
  any_near (topic.Situation t) earlier now q = any_crossed service.Situation earlier.from now.from held ordered q
  any_near (topic.Stop t) earlier now q = none_kept (item_of held q)
  any_near (topic.Timetable t) earlier now q = none_kept (item_of held q)
  any_near (topic.Vehicle t) earlier now q = none_kept (item_of held q)

  near_held : (t : Topic) (earlier now : Window) → AreHeld held (near_entries t earlier now held)
  near_held (topic.Situation t) earlier now = crossed_held service.Situation earlier.from now.from held ordered
  near_held (topic.Stop t) earlier now = tt
  near_held (topic.Timetable t) earlier now = tt
  near_held (topic.Vehicle t) earlier now = tt

  any_far : (t : Topic) (from to : Option ℤ) (q : Key) → any_of q (far_between t from to held) ≡ is_some (kept_if (far_one t from to) (item_of held q))
  unfolding far_one
  any_far t (Some from) (Some to) q = any_crossed (service_asked t) from to held ordered q
  any_far t (Some from) None q = none_kept (item_of held q)
  any_far t None to q = none_kept (item_of held q)

  far_held : (t : Topic) (from to : Option ℤ) → AreHeld held (far_between t from to held)
  far_held t (Some from) (Some to) = crossed_held (service_asked t) from to held ordered
  far_held t (Some from) None = tt
  far_held t None to = tt

-- the far end, of an item of the service
far_same : (t : Topic) (from to : Option ℤ) (i : Item) → is_of (service_asked t) i ≡ true → far_end_between from to i ≡ far_one t from to i
unfolding far_one
far_same t (Some from) (Some to) i h = rw h refl
far_same t (Some from) None i h = refl
far_same t None to i h = refl

far_none : (t : Topic) (from to : Option ℤ) (i : Item) → is_of (service_asked t) i ≡ false → false ≡ far_one t from to i
unfolding far_one
far_none t (Some from) (Some to) i h = rw h refl
far_none t (Some from) None i h = refl
far_none t None to i h = refl

never_vehicle : (t : VehicleTopic) (before now : ℕ) (i : Item)
    → false ≡ far_one (topic.Vehicle t) (window_of (topic.Vehicle t) before).to (window_of (topic.Vehicle t) now).to i
unfolding far_one
never_vehicle t before now i = refl

-- an item is crossed where one of the ends passed an edge of it
crossed_by : (t : Topic) (before now : ℕ) (i : Item)
    → is_crossed t before now i ≡ (near_one t (window_of t before) (window_of t now) i || far_one t (window_of t before).to (window_of t now).to i)
unfolding near_one
crossed_by (topic.Stop t) before now (item.Visit v) = far_same (topic.Stop t) _ _ (item.Visit v) refl
crossed_by (topic.Stop t) before now (item.Journey j) = far_none (topic.Stop t) _ _ (item.Journey j) refl
crossed_by (topic.Stop t) before now (item.Vehicle v) = far_none (topic.Stop t) _ _ (item.Vehicle v) refl
crossed_by (topic.Stop t) before now (item.Situation s) = far_none (topic.Stop t) _ _ (item.Situation s) refl
crossed_by (topic.Timetable t) before now (item.Visit v) = far_none (topic.Timetable t) _ _ (item.Visit v) refl
crossed_by (topic.Timetable t) before now (item.Journey j) = far_same (topic.Timetable t) _ _ (item.Journey j) refl
crossed_by (topic.Timetable t) before now (item.Vehicle v) = far_none (topic.Timetable t) _ _ (item.Vehicle v) refl
crossed_by (topic.Timetable t) before now (item.Situation s) = far_none (topic.Timetable t) _ _ (item.Situation s) refl
crossed_by (topic.Vehicle t) before now i = never_vehicle t before now i
crossed_by (topic.Situation t) before now (item.Visit v) = far_none (topic.Situation t) _ _ (item.Visit v) refl
crossed_by (topic.Situation t) before now (item.Journey j) = far_none (topic.Situation t) _ _ (item.Journey j) refl
crossed_by (topic.Situation t) before now (item.Vehicle v) = far_none (topic.Situation t) _ _ (item.Vehicle v) refl
crossed_by (topic.Situation t) before now (item.Situation s) =
    ap (λ b. has_edge (window_of (topic.Situation t) before).from (window_of (topic.Situation t) now).from (item.Situation s) || b)
    (far_same (topic.Situation t) _ _ (item.Situation s) refl)

-- ---- all of them

some_if : (i : Item) (b : Bool) → is_some (cond b (Some i) None) ≡ b
some_if i true = refl
some_if i false = refl

both_case : (i : Item) (a b c : Bool) → c ≡ (a || b) → cond b (Some i) (cond a (Some i) None) ≡ cond c (Some i) None
both_case i true true c is = sym (ap (λ c. cond c (Some i) None) is)
both_case i true false c is = sym (ap (λ c. cond c (Some i) None) is)
both_case i false true c is = sym (ap (λ c. cond c (Some i) None) is)
both_case i false false c is = sym (ap (λ c. cond c (Some i) None) is)

both : (near far crossed : Item → Bool) (held : Option Item) → ((i : Item) → crossed i ≡ (near i || far i))
    → cond (is_some (kept_if far held)) held (cond (is_some (kept_if near held)) held None) ≡ kept_if crossed held
both near far crossed None is = refl
both near far crossed (Some i) is =
    (λ j. cond (some_if i (far i) j) (Some i) (cond (some_if i (near i) j) (Some i) None))
    ∙ both_case i (near i) (far i) (crossed i) (is i)

module _ (t : Topic) (before now : ℕ) (held : Items) (ordered : InOrder held) where
  abbrev near : Items
  near = near_entries t (window_of t before) (window_of t now) held

  abbrev far : Items
  far = far_entries t (window_of t before) (window_of t now) held

  abbrev all : Items
  all = with_items (with_items [] near) far

  crossed_at : (q : Key) → item_of all q ≡ item_of (crossed_items t before now held) q
  crossed_at q =
      put_found held (with_items [] near) far q (far_held held ordered t (window_of t before).to (window_of t now).to)
      ∙ (ap (λ o. cond (any_of q far) (item_of held q) o) (put_found held [] near q (near_held held ordered t (window_of t before) (window_of t now)))
      ∙ ((λ j. cond (any_far held ordered t (window_of t before).to (window_of t now).to q j) (item_of held q)
      (cond (any_near held ordered t (window_of t before) (window_of t now) q j) (item_of held q) None))
      ∙ (both (near_one t (window_of t before) (window_of t now)) (far_one t (window_of t before).to (window_of t now).to)
      (is_crossed t before now) (item_of held q) (crossed_by t before now)
      ∙ sym (item_kept (is_crossed t before now) q held ordered))))

  none_in_order : InOrder {X = Item} []
  unfolding IsStrictlySortedBy
  none_in_order = tt

  crossed_are : all ≡ crossed_items t before now held
  crossed_are =
      same_items all (crossed_items t before now held)
      (put_in_order (with_items [] near) far (put_in_order [] near none_in_order))
      (sorted_passing key_cmp (is_crossed t before now) held ordered)
      crossed_at

-- ---- how many there are

served_same : (t : Topic) (i : Item) → is_of (service_asked t) i ≡ is_served t i
served_same (topic.Stop t) (item.Visit v) = refl
served_same (topic.Stop t) (item.Journey j) = refl
served_same (topic.Stop t) (item.Vehicle v) = refl
served_same (topic.Stop t) (item.Situation s) = refl
served_same (topic.Timetable t) (item.Visit v) = refl
served_same (topic.Timetable t) (item.Journey j) = refl
served_same (topic.Timetable t) (item.Vehicle v) = refl
served_same (topic.Timetable t) (item.Situation s) = refl
served_same (topic.Vehicle t) (item.Visit v) = refl
served_same (topic.Vehicle t) (item.Journey j) = refl
served_same (topic.Vehicle t) (item.Vehicle v) = refl
served_same (topic.Vehicle t) (item.Situation s) = refl
served_same (topic.Situation t) (item.Visit v) = refl
served_same (topic.Situation t) (item.Journey j) = refl
served_same (topic.Situation t) (item.Vehicle v) = refl
served_same (topic.Situation t) (item.Situation s) = refl

few_passed : (t : Topic) (from to : ℤ) (held : Items) → length (crossed_entries (service_asked t) from to held) ≤ edges_passed t held from to
few_passed t from to held =
    let same : count_by (λ e. has_one (service_asked t) from to e.1) held ≡ edges_passed t held from to =
    ap (λ (f : Item → Bool). count_by (λ e. f e.1 && has_edge from to e.1) held) (λ j i. served_same t i j) in
    omega (arith, few_crossed (service_asked t) from to held, same)

few_near : (t : Topic) (earlier now : Window) (held : Items) → length (near_entries t earlier now held) ≤ edges_passed t held earlier.from now.from
few_near (topic.Situation t) earlier now held = few_passed (topic.Situation t) earlier.from now.from held
few_near (topic.Stop t) earlier now held = omega arith
few_near (topic.Timetable t) earlier now held = omega arith
few_near (topic.Vehicle t) earlier now held = omega arith

few_far : (t : Topic) (from to : Option ℤ) (held : Items) → length (far_between t from to held) ≤ far_edges_passed t held from to
few_far t (Some from) (Some to) held = few_passed t from to held
few_far t (Some from) None held = omega arith
few_far t None to held = omega arith

few_near_and_far : (t : Topic) (before now : ℕ) (held : Items)
    → length (near_entries t (window_of t before) (window_of t now) held) + length (far_entries t (window_of t before) (window_of t now) held)
    ≤ items_passed t held before now
few_near_and_far t before now held = omega (
  arith,
  few_near t (window_of t before) (window_of t now) held,
  few_far t (window_of t before).to (window_of t now).to held,
)

-- ---- by windows that are those of the topic

module _ (t : Topic) (before now : ℕ) (held : Items) (earlier later : Window) (e : earlier ≡ window_of t before) (l : later ≡ window_of t now) where
  pub few_found : length (near_entries t earlier later held) + length (far_entries t earlier later held) ≤ items_passed t held before now
  few_found = rw (e, l) (few_near_and_far t before now held)

  pub crossed_found : InOrder held
      → with_items (with_items [] (near_entries t earlier later held)) (far_entries t earlier later held) ≡ crossed_items t before now held
  crossed_found ordered = rw (e, l) (crossed_are t before now held ordered)
