-- The stamps of what may be shown to a topic by its key are tied to the candidates, as all stamps are to all items.
use Rattle.std.proofs.Common.{◌≡◌, ℕ, Bool, true, false, cond, ◌&&◌, List, [], ◌∷◌, ◌++◌, map, filter, fold, Option, Some, None, refl}
use Rattle.std.proofs.Common.{ap, ◌∙◌, sym, arith}
use Rattle.std.specs.Prelude.{ℤ, nat_eq, is_some, ◌+◌, ◌||◌}
use Rattle.std.specs.BTreeMap.{insert_entry, is_at}
use Rattle.std.specs.Cmp.{Equal-is}
use Rattle.std.specs.Cmp.Lexicographic.{bytes_decides}
use Rattle.std.specs.List.{All, AllByRecursion}
use Rattle.std.specs.List.Sorted.{IsStrictlySortedBy}
use Rattle.std.specs.Ordering.{is_eq}
use Rattle.std.specs.Option.{option_map_or}
use Rattle.std.proofs.lemmas.Bool.Decides.{nat_tests}
use Rattle.std.proofs.lemmas.List.Elements.{All-from_recursion, recursion_from_All}
use Rattle.std.proofs.lemmas.List.Kept.{IsStrictlySortedBy-filter}
use Rattle.std.proofs.lemmas.Map.Views.{any-filter_same}
use Rattle.siri_records.specs.declared.item.Item.{Item}
use Rattle.siri_records.specs.declared.item.Item.TheVariants as item
use Rattle.siri_records.specs.declared.item.Service.TheVariants as service
use Rattle.siri_records.specs.declared.key.Key.{Key}
use Rattle.siri_records.specs.Edges.{edges_of, listed}
use Rattle.siri_records.specs.Keyed.{Items, InOrder, item_of}
use Rattle.siri_records.specs.Keys.{key_of}
use Rattle.siri_records.specs.Order.{key_cmp}
use Rattle.siri_records.specs.Services.{is_of, service_of}
use Rattle.siri_records.proofs.Kept.{sorted_kept}
use Rattle.siri_records.proofs.Order.{key_cmp_exact}
use Rattle.siri_topic.specs.Agreement.{same_name}
use Rattle.siri_topic.specs.declared.topics.LineDirection.{LineDirection}
use Rattle.siri_topic.specs.declared.topics.StopTopic.{StopTopic}
use Rattle.siri_topic.specs.declared.topics.Topic.{Topic}
use Rattle.siri_topic.specs.declared.topics.Topic.TheVariants as topic
use Rattle.siri_topic.specs.declared.windows.Window.{Window}
use Rattle.siri_topic.specs.Services.{service_asked}
use Rattle.siri_topic.specs.Shown.{is_before, is_from, is_shown, window_of}
use Rattle.siri_store.specs.Asked.{asked_stamps, is_asked}
use Rattle.siri_store.specs.Between.{between, inside, is_between, is_inside}
use Rattle.siri_store.specs.Candidates.{UnderOwnKeys, candidates, may_be_line, may_be_shown}
use Rattle.siri_store.specs.Crossing.{crossed_entries, edge_cmp}
use Rattle.siri_store.specs.CrossWalk.{entry_list, led, led_at, led_by}
use Rattle.siri_store.specs.First.{enters, first_entries, under_entry, visits_by_entry, visits_for}
use Rattle.siri_store.specs.Stamped.{Stamp, Tied, by_edge, by_name, digest, has, is_by_name, is_stamped}
use Rattle.siri_store.specs.Stamped.{moments_held, moments_of, order_asked, order_of_lines, order_of_name, own_end_of, stamp_cmp}
use Rattle.siri_store.specs.Visits.{AreVisits, all_lead}
use Rattle.siri_store.specs.Walk.{shown_entries}
use Rattle.siri_store.proofs.Crossed.{Alike, Edged, led_crossed, none_both}
use Rattle.siri_store.proofs.FirstStamps.{same_stamps}
use Rattle.siri_store.proofs.Firsts.{all_visits, are_visits, nothing_of, shown_visits}
use Rattle.siri_store.proofs.Leads.{visits_lead}
use Rattle.siri_store.proofs.LookUps.{by_bool}
use Rattle.siri_store.proofs.OwnKeys.{Own, all_showing, own_found}
use Rattle.siri_store.proofs.Ranges.{filter_through}

-- ---- what is held of a key among those whose keys pass a test

module _ (p : Key → Bool) where
  asked_case : (k : Key) (e : Key × Item) (es : Items) (b t : Bool) → p e.0 ≡ b → is_eq (key_cmp k e.0) ≡ t
      → item_of (filter (λ f. p f.0) es) k ≡ cond (p k) (item_of es k) None
      → item_of (filter (λ f. p f.0) (e ∷ es)) k ≡ cond (p k) (item_of (e ∷ es) k) None
  asked_case k e es true true h tie rest =
      let same : p k ≡ true = ap p (key_cmp_exact k e.0 ((Equal-is (key_cmp k e.0)).0 tie)) ∙ h in
      rw h (rw tie (sym (ap (λ c. cond c (Some e.1) None) same)))
  asked_case k e es true false h tie rest = rw h (rw tie rest)
  asked_case k e es false true h tie rest =
      let same : p k ≡ false = ap p (key_cmp_exact k e.0 ((Equal-is (key_cmp k e.0)).0 tie)) ∙ h in
      rw h (rw tie (rest ∙ (ap (λ c. cond c (item_of es k) None) same ∙ sym (ap (λ c. cond c (Some e.1) None) same))))
  asked_case k e es false false h tie rest = rw h (rw tie rest)

  pub item_asked : (k : Key) (es : Items) → item_of (filter (λ f. p f.0) es) k ≡ cond (p k) (item_of es k) None
  item_asked k [] = sym (none_both (p k))
  item_asked k (e ∷ es) = asked_case k e es (p e.0) (is_eq (key_cmp k e.0)) refl refl (item_asked k es)

-- ---- tests in either order

module _ {X : Type 0} (p q : X → Bool) where
  turned_case : (x : X) (xs : List X) (b c : Bool) → p x ≡ b → q x ≡ c
      → filter p (filter q xs) ≡ filter q (filter p xs) → filter p (filter q (x ∷ xs)) ≡ filter q (filter p (x ∷ xs))
  turned_case x xs true true h k rest = rw (h, k, h) (ap (λ l. x ∷ l) rest)
  turned_case x xs true false h k rest = rw (h, k) rest
  turned_case x xs false true h k rest = rw (h, k, h) rest
  turned_case x xs false false h k rest = rw (h, k) rest

  pub filters_turned : (xs : List X) → filter p (filter q xs) ≡ filter q (filter p xs)
  filters_turned [] = refl
  filters_turned (x ∷ xs) = turned_case x xs (p x) (q x) refl refl (filters_turned xs)

-- those that pass a test pass it
module _ {X : Type 0} (p : X → Bool) where
  each_passes : (xs : List X) → AllByRecursion (λ x. p x ≡ true) (filter p xs)
  each_passes [] = tt
  each_passes (x ∷ xs) = by_bool (p x) (λ h. rw h (h, each_passes xs)) (λ h. rw h (each_passes xs))

  pub all_pass : (xs : List X) → All (λ x. p x ≡ true) (filter p xs)
  all_pass xs = All-from_recursion (λ x. p x ≡ true) (filter p xs) (each_passes xs)

-- ---- the stamps

module _ (t : Topic) (es : Items) where
  test_bits : (m : ℕ) (o : ℕ) (b : Bool) (h : Option Item)
      → (b && has m (moments_held o h)) ≡ has m (moments_held o (cond b h None))
  test_bits m o true h = refl
  test_bits m o false h = refl

  pub tied_asked : (stamps : List Stamp) → Tied es stamps → Tied (candidates t es) (asked_stamps t stamps)
  tied_asked stamps tied s =
      any-filter_same (is_at (stamp_cmp s)) (is_asked t) (is_asked t s)
      (λ x h. ap (is_asked t) (sym (same_stamps s x h))) stamps
      ∙ (ap (λ b. is_asked t s && b) (tied s) ∙ by s)
    where
      by : (s : Stamp) → (is_asked t s && is_stamped es s) ≡ is_stamped (candidates t es) s
      by (o, m, None) = refl
      by (o, m, Some k) =
          test_bits m o (may_be_shown t k) (item_of es k)
          ∙ ap (λ h. has m (moments_held o h)) (sym (item_asked (may_be_shown t) k es))

  led_case : (from : ℤ) (s : Stamp) → is_asked t s ≡ true → led_by from (candidates t es) s ≡ led_by from es s
  led_case from (o, m, None) h = refl
  led_case from (o, m, Some k) h =
      ap (led_at from m k) (item_asked (may_be_shown t) k es ∙ ap (λ b. cond b (item_of es k) None) h)

  pub led_asked : (from : ℤ) (stamps : List Stamp) → led from (candidates t es) (asked_stamps t stamps) ≡ led from es (asked_stamps t stamps)
  led_asked from [] = refl
  led_asked from (s ∷ stamps) = by_bool (is_asked t s)
      (λ h. rw h (λ i. entry_list (led_case from s h i) ++ led_asked from stamps i))
      (λ h. rw h (led_asked from stamps))

-- ---- the moments of a candidate

names_alike : (m n : List ℕ) → same_name m n ≡ true → m ≡ n
names_alike m n h = (bytes_decides m n).0 h

no_end : (d : ℕ) → nat_eq (5 + d) 0 ≡ false
no_end d = grind (arith, nat_tests)

itself : (d : ℕ) → nat_eq (5 + d) (5 + d) ≡ true
itself d = grind (arith, nat_tests)

or_true : (b : Bool) → (b || true) ≡ true
or_true true = refl
or_true false = refl

-- in the order of its name an item has its edges
named_moments : (i : Item) (d : ℕ) → order_of_name i ≡ Some (5 + d) → moments_of (5 + d) i ≡ edges_of i
named_moments i d is =
    let named : is_by_name (5 + d) i ≡ true = ap (λ o. option_map_or (λ n. nat_eq n (5 + d)) o false) is ∙ itself d in
    ap (λ b. cond b (listed (own_end_of i)) (cond (nat_eq (5 + d) (by_edge (service_of i)) || is_by_name (5 + d) i) (edges_of i) [])) (no_end d)
    ∙ ap (λ b. cond b (edges_of i) [])
    (ap (λ b. nat_eq (5 + d) (by_edge (service_of i)) || b) named ∙ or_true (nat_eq (5 + d) (by_edge (service_of i))))

-- as in the order of its service
edge_moments : (i : Item) → moments_of (by_edge (service_of i)) i ≡ edges_of i
edge_moments (item.Visit v) = refl
edge_moments (item.Journey j) = refl
edge_moments (item.Vehicle v) = refl
edge_moments (item.Situation s) = refl

lines_moments : (lines : List LineDirection) (i : Item) (line : List ℕ) → order_of_name i ≡ Some (by_name service.Timetable line)
    → service_of i ≡ service.Timetable → may_be_line lines line ≡ true
    → moments_of (order_of_lines lines) i ≡ moments_of (by_edge service.Timetable) i
lines_moments [] i line named of may = refl
lines_moments (only ∷ []) i line named of may =
    let same : line ≡ only.line_ref = names_alike line only.line_ref may in
    named_moments i (digest (by_edge service.Timetable) only.line_ref)
    (named ∙ ap (λ l. Some (by_name service.Timetable l)) same)
    ∙ (sym (edge_moments i) ∙ ap (λ s. moments_of (by_edge s) i) of)
lines_moments (one ∷ other ∷ lines) i line named of may = refl

asked_moments : (t : Topic) (i : Item) → may_be_shown t (key_of i) ≡ true
    → moments_of (order_asked t) i ≡ moments_of (by_edge (service_asked t)) i
asked_moments (topic.Stop t) (item.Visit v) may =
    let same : v.monitoring_ref ≡ t.monitoring_ref = names_alike v.monitoring_ref t.monitoring_ref may in
    named_moments (item.Visit v) (digest (by_edge service.Stop) t.monitoring_ref)
    (ap (λ n. Some (by_name service.Stop n)) same)
    ∙ sym (edge_moments (item.Visit v))
asked_moments (topic.Stop t) (item.Journey j) may = absurd (cc may)
asked_moments (topic.Stop t) (item.Vehicle v) may = absurd (cc may)
asked_moments (topic.Stop t) (item.Situation s) may = absurd (cc may)
asked_moments (topic.Timetable t) (item.Visit v) may = absurd (cc may)
asked_moments (topic.Timetable t) (item.Journey j) may =
    lines_moments t.lines (item.Journey j) j.line_ref refl refl may
asked_moments (topic.Timetable t) (item.Vehicle v) may = absurd (cc may)
asked_moments (topic.Timetable t) (item.Situation s) may = absurd (cc may)
asked_moments (topic.Vehicle t) i may = refl
asked_moments (topic.Situation t) i may = refl

module _ (t : Topic) (es : Items) (own : UnderOwnKeys es) where
  held_alike : (k : Key) (b : Bool) (h : Option Item) → may_be_shown t k ≡ b → item_of es k ≡ h
      → moments_held (order_asked t) (cond b h None) ≡ moments_held (by_edge (service_asked t)) (cond b h None)
  held_alike k false h may is = refl
  held_alike k true None may is = refl
  held_alike k true (Some i) may is =
      asked_moments t i (ap (may_be_shown t) (sym (own_found es k i (recursion_from_All Own es own) is)) ∙ may)

  pub alike : Alike (order_asked t) (service_asked t) (candidates t es)
  alike k =
      ap (moments_held (order_asked t)) (item_asked (may_be_shown t) k es)
      ∙ (held_alike k (may_be_shown t k) (item_of es k) refl refl
      ∙ ap (moments_held (by_edge (service_asked t))) (sym (item_asked (may_be_shown t) k es)))

-- ---- so what was proved of all items serves for the candidates

module _ (t : Topic) (es : Items) (stamps : List Stamp) (own : UnderOwnKeys es) (tied : Tied es stamps) (ordered : InOrder es)
    (sorted : IsStrictlySortedBy stamp_cmp stamps) where
  abbrev those : Items
  those = candidates t es

  abbrev theirs : List Stamp
  theirs = asked_stamps t stamps

  those_ordered : InOrder those
  those_ordered = sorted_kept (λ (e : Key × Item). may_be_shown t e.0) key_cmp es ordered

  theirs_sorted : IsStrictlySortedBy stamp_cmp theirs
  theirs_sorted = IsStrictlySortedBy-filter stamp_cmp (is_asked t) stamps sorted

  theirs_tied : Tied those theirs
  theirs_tied = tied_asked t es stamps tied

  pub asked_crossed : (from to : ℤ) → led from es (asked_stamps t (between (order_asked t) from to stamps))
      ≡ crossed_entries (service_asked t) from to those
  asked_crossed from to =
      sym (led_asked t es from (between (order_asked t) from to stamps))
      ∙ (ap (led from those) (filters_turned (is_asked t) (is_between (order_asked t) from to) stamps)
      ∙ led_crossed (order_asked t) (service_asked t) from to those theirs theirs_tied (alike t es own) those_ordered theirs_sorted)

-- of the visits of a stop
module _ (t : StopTopic) (now : ℕ) (window : Window) (is : window ≡ window_of (topic.Stop t) now) (es : Items) (stamps : List Stamp)
    (own : UnderOwnKeys es) (tied : Tied es stamps) (ordered : InOrder es) (sorted : IsStrictlySortedBy stamp_cmp stamps) where
  abbrev asked : Topic
  asked = topic.Stop t

  abbrev its : List Stamp
  its = inside (order_asked asked) window stamps

  turned : asked_stamps asked its ≡ inside (order_asked asked) window (asked_stamps asked stamps)
  turned = filters_turned (is_asked asked) (is_inside (order_asked asked) window) stamps

  same_led : led window.from es (asked_stamps asked its)
      ≡ led window.from (candidates asked es) (inside (order_asked asked) window (asked_stamps asked stamps))
  same_led = sym (led_asked asked es window.from its) ∙ ap (led window.from (candidates asked es)) turned

  visits : AreVisits window (candidates asked es) (inside (order_asked asked) window (asked_stamps asked stamps))
  visits = are_visits (order_asked asked) window (candidates asked es) (asked_stamps asked stamps)
      (theirs_tied asked es stamps own tied ordered sorted) (those_ordered asked es stamps own tied ordered sorted)
      (theirs_sorted asked es stamps own tied ordered sorted) (alike asked es own)

  pub asked_visits : led window.from es (asked_stamps asked its) ≡ visits_for asked now (candidates asked es)
  asked_visits =
      same_led
      ∙ (all_visits window (candidates asked es) (inside (order_asked asked) window (asked_stamps asked stamps)) visits
      ∙ ap (λ w. visits_by_entry (enters w) (candidates asked es)) is)

  asked_first : first_entries asked now (candidates asked es) ≡ first_entries asked now es
  asked_first =
      ap (λ (l : Items). map {B = Key × Item} (λ (f : (ℕ × Key) × Item). (f.0.1, f.1)) (fold (λ (found : Edged) e. insert_entry edge_cmp found (under_entry e) e.1) [] l))
      (filter_through (λ (e : Key × Item). may_be_shown asked e.0) (λ (e : Key × Item). is_of service.Stop e.1 && is_shown asked e.1 now) es
      (through es (all_showing asked now es (recursion_from_All Own es own))))
    where
      right : (a b : Bool) → (a && b) ≡ true → b ≡ true
      right true b h = h
      right false b h = absurd (cc h)

      through : (es : Items) → AllByRecursion (λ e. is_shown asked e.1 now ≡ true → may_be_shown asked e.0 ≡ true) es
          → AllByRecursion (λ e. (is_of service.Stop e.1 && is_shown asked e.1 now) ≡ true → may_be_shown asked e.0 ≡ true) es
      through [] a = tt
      through (e ∷ es) a = ((λ h. a.0 (right (is_of service.Stop e.1) (is_shown asked e.1 now) h)), through es a.1)

  pub asked_shown : shown_entries asked now (led window.from es (asked_stamps asked its)) ≡ first_entries asked now es
  asked_shown =
      ap (shown_entries asked now) same_led
      ∙ (shown_visits window (candidates asked es) (inside (order_asked asked) window (asked_stamps asked stamps)) visits t now is ∙ asked_first)

  lead_same : (some : List Stamp) → all_lead window.from (candidates asked es) (asked_stamps asked some) ≡ true
      → all_lead window.from es (asked_stamps asked some) ≡ true
  lead_same some h = sym (alike_lead some) ∙ h
    where
      alike_lead : (some : List Stamp) → all_lead window.from (candidates asked es) (asked_stamps asked some) ≡ all_lead window.from es (asked_stamps asked some)
      alike_lead [] = refl
      alike_lead (s ∷ some) = by_bool (is_asked asked s)
          (λ h. rw h (λ i. is_some (led_case asked es window.from s h i) && alike_lead some i))
          (λ h. rw h (alike_lead some))

  pub asked_lead : all_lead window.from es (asked_stamps asked its) ≡ true
  asked_lead = lead_same its
      (ap (all_lead window.from (candidates asked es)) turned
      ∙ visits_lead (order_asked asked) window.from (candidates asked es) (asked_stamps asked stamps)
      (theirs_tied asked es stamps own tied ordered sorted) (alike asked es own)
      (λ m. is_from window.from (Some m) && is_before window.to (Some m)))

-- to a topic of another service nothing is shown
pub record NoneOf (from : ℤ) (t : Topic) (now : ℕ) (es : Items) (there : List Stamp) : Type 0 where
  pub visits : led from es there ≡ visits_for t now (candidates t es)
  pub shown : shown_entries t now (led from es there) ≡ first_entries t now es

pub none_of : (from : ℤ) (now : ℕ) (es : Items) (there : List Stamp) → there ≡ [] → (t : Topic)
    → ((s : StopTopic) → t ≡ topic.Stop s → ⊥) → NoneOf from t now es there
none_of from now es there none t other =
    let nothing = nothing_of from now es there none t other in
    record { visits = nothing.visits ∙ no_visits t other; shown = nothing.shown }
  where
    no_visits : (t : Topic) → ((s : StopTopic) → t ≡ topic.Stop s → ⊥) → visits_for t now es ≡ visits_for t now (candidates t es)
    no_visits (topic.Stop s) other = absurd (other s refl)
    no_visits (topic.Timetable s) other = refl
    no_visits (topic.Vehicle s) other = refl
    no_visits (topic.Situation s) other = refl
