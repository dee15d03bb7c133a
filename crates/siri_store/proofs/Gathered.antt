-- Entries that are shown, gathered in order.
use Rattle.std.proofs.Common.{◌≡◌, ℕ, ◌+◌, ◌-◌, ◌<◌, ◌≤◌, true, false, List, [], ◌∷◌, ◌++◌, length, drop}
use Rattle.std.proofs.Common.{slice_range, append_assoc, append-nil, length-append, Option, Some, None, arith, ap, sym}
use Rattle.std.proofs.Common.{◌∙◌, subst, refl}
use Rattle.std.specs.Prelude.{MatchOption}
use Rattle.std.specs.Borrow.{Bor}
use Rattle.std.specs.List.{AllByRecursion}
use Rattle.std.specs.List.Sorted.{IsStrictlySortedBy}
use Rattle.std.specs.Map.{keys_of}
use Rattle.std.specs.declared.alloc.Global.{Global}
use Rattle.std.specs.declared.cmp.Ordering.{Ordering}
use Rattle.std.specs.declared.cmp.Ordering.TheVariants.{Less}
use Rattle.std.specs.declared.rc.Rc.{Rc}
use Rattle.std.proofs.lemmas.List.{map_push}
use Rattle.siri_records.specs.declared.key.Key.{Key}
use Rattle.siri_records.specs.declared.item.Item.{Item}
use Rattle.siri_records.specs.Keyed.{Items, InOrder, unshared}
use Rattle.siri_records.specs.Order.{key_cmp}
use Rattle.siri_records.proofs.Kept.{sorted_kept}
use Rattle.siri_topic.specs.declared.topics.Topic.{Topic}
use Rattle.siri_topic.specs.Shown.{is_shown}
use Rattle.siri_store.specs.Held.{counted}
use Rattle.siri_store.specs.Walk.{Steps, Walked, shown_at, shown_entries}
use Rattle.siri_store.specs.declared.selected.Selected.{Selected}
use Rattle.siri_store.proofs.Ranges.{range_next}

all_front : {K X : Type 0} (P : K → Type 0) (es : List (K × X)) (e : K × X) (more : List (K × X))
    → AllByRecursion P (keys_of (es ++ e ∷ more)) → AllByRecursion P (keys_of es ++ e.0 ∷ [])
all_front P [] e more a = (a.0, tt)
all_front P (x ∷ es) e more a = (a.0, all_front P es e more a.1)

-- a front of entries in order is in order
sorted_front : {K X : Type 0} (cmp : K → K → Ordering) (es : List (K × X)) (e : K × X) (more : List (K × X))
    → IsStrictlySortedBy cmp (keys_of (es ++ e ∷ more)) → IsStrictlySortedBy cmp (keys_of es ++ e.0 ∷ [])
unfolding IsStrictlySortedBy
sorted_front cmp [] e more s = (tt, tt)
sorted_front cmp (x ∷ es) e more s = (all_front (λ y. cmp x.0 y ≡ Less) es e more s.0, sorted_front cmp es e more s.1)

-- the key of the next of entries in order is above those gathered so far
pub next_above : (found rest more all : Items) (e : Key × Item) → InOrder all → found ++ rest ≡ all → rest ≡ e ∷ more
    → IsStrictlySortedBy key_cmp (keys_of found ++ e.0 ∷ [])
next_above found rest more all e ordered so_far is =
    let whole : found ++ e ∷ more ≡ all = ap (λ l. found ++ l) (sym is) ∙ so_far in
    sorted_front key_cmp found e more (subst (λ (l : Items). InOrder l) (sym whole) ordered)

-- of entries in order those that are shown are in order
pub shown_in_order : (topic : Topic) (moment : ℕ) (es : Items) → InOrder es → InOrder (shown_entries topic moment es)
shown_in_order topic moment es ordered = sorted_kept (shown_at topic moment) key_cmp es ordered

-- ---- an entry at the place of a range

pub shown_next : (topic : Topic) (moment : ℕ) (es : Items) (from to : ℕ) (e : Key × Item) → from < to
    → drop from es ≡ e ∷ drop (from + 1) es → is_shown topic e.1 moment ≡ true
    → shown_entries topic moment (slice_range es from to) ≡ e ∷ shown_entries topic moment
    (slice_range es (from + 1) to)
shown_next topic moment es from to e lt is shown =
    ap (shown_entries topic moment) (range_next es from to e lt is) ∙ rw shown refl

pub unshown_next : (topic : Topic) (moment : ℕ) (es : Items) (from to : ℕ) (e : Key × Item) → from < to
    → drop from es ≡ e ∷ drop (from + 1) es → is_shown topic e.1 moment ≡ false
    → shown_entries topic moment (slice_range es from to) ≡ shown_entries topic moment (slice_range es (from + 1) to)
unshown_next topic moment es from to e lt is unshown =
    ap (shown_entries topic moment) (range_next es from to e lt is) ∙ rw unshown refl

-- ---- a step of a walk

-- one more was found, and those to come are one less
pub found_one : {A : Type 0} (found more rest next all : List A) (x : A) → more ≡ found ++ x ∷ [] → rest ≡ x ∷ next
    → found ++ rest ≡ all → more ++ next ≡ all
found_one found more rest next all x one is so_far =
    ap (λ l. l ++ next) one ∙ (append_assoc found (x ∷ []) next ∙ (ap (λ l. found ++ l) (sym is) ∙ so_far))

-- the same of items, however they are shared
pub one_more : (found more : List (Rc Item Global)) (item : Rc Item Global) (i : Item) → more ≡ found ++ item ∷ []
    → item.value ≡ i → unshared more ≡ unshared found ++ i ∷ []
one_more found more item i one is =
    ap unshared one ∙ (map_push (λ (x : Rc Item Global). x.value) found item ∙ ap (λ y. unshared found ++ y ∷ []) is)

-- with none to come those found are all
pub all_found : {A : Type 0} (found rest all : List A) → rest ≡ [] → found ++ rest ≡ all → found ≡ all
all_found found rest all none so_far = sym (append-nil found) ∙ (ap (λ l. found ++ l) (sym none) ∙ so_far)

-- those found are fewer than all as long as one is to come
pub found_fewer : {A : Type 0} (found rest next all : List A) (x : A) → rest ≡ x ∷ next → found ++ rest ≡ all
    → length found + 1 ≤ length all
found_fewer found rest next all x is so_far =
    omega (arith, ap length so_far, length-append found rest, ap length is)

-- ---- steps of a walk, counted

pub counted_none : (reads n : ℕ) → n ≡ 0 → reads ≡ counted reads n
counted_none reads n none = omega arith

counted_more : (old before reads n m : ℕ) → before ≡ counted old n → reads ≡ counted before m
    → reads ≡ counted old (n + m)
counted_more old before reads n m so_far more = omega arith

-- ---- how far a walk has gone

pub walked_none : (s : Selected) → Walked s s
walked_none s = record {
  onward = omega arith;
  within = omega arith;
  end = refl;
  counter = counted_none s.counter.now (s.place - s.place) (omega arith);
  same_counter = refl;
  topic = refl;
  moment = refl;
  entries = refl;
}

onward_at : {A : Type 0} (r : Option A) (from to : ℕ) → MatchOption r (from ≤ to) (λ _. from + 1 ≤ to) → from ≤ to
onward_at None from to on = on
onward_at (Some x) from to on = omega (arith, on)

pub walked_on : (s t u : Selected) (r : Option (Bor (Rc Item Global))) → Walked s t → Steps t r u → Walked s u
walked_on s t u r so_far step =
    let onward = onward_at r t.place u.place step.onward in
    let between : (t.place - s.place) + (u.place - t.place) ≡ u.place - s.place =
    omega (arith, so_far.onward, onward) in
    record {
      onward = omega (arith, so_far.onward, onward);
      within = omega (arith, so_far.within, so_far.end, step.within);
      end = step.end ∙ so_far.end;
      counter = counted_more s.counter.now t.counter.now u.counter.now (t.place - s.place) (u.place - t.place)
          so_far.counter step.counter ∙ ap (counted s.counter.now) between;
      same_counter = step.same_counter ∙ so_far.same_counter;
      topic = step.topic ∙ so_far.topic;
      moment = step.moment ∙ so_far.moment;
      entries = step.entries ∙ so_far.entries;
    }
