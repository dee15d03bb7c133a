-- The visits of a window by their stamps; and a walk over them until so many pass a test.
use Rattle.std.proofs.Common.{◌≡◌, ℕ, suc, zero, ◌+◌, ◌-◌, ◌≤◌, Bool, true, false, cond, ◌&&◌, ◌||◌, List, [], ◌∷◌, ◌++◌, map, filter, fold}
use Rattle.std.proofs.Common.{append_assoc, drop, take, Option, Some, None, refl, ap, ◌∙◌, sym, arith}
use Rattle.std.specs.Prelude.{ℤ, pos, nat_eq}
use Rattle.std.specs.BTreeMap.{insert_entry, is_at}
use Rattle.std.specs.Cmp.{Equal-is}
use Rattle.std.specs.List.{list_any}
use Rattle.std.specs.List.Sorted.{IsStrictlySortedBy}
use Rattle.std.specs.Map.{keys_of, lookup}
use Rattle.std.specs.Option.{option_map_or}
use Rattle.std.specs.Ordering.{is_eq}
use Rattle.std.proofs.lemmas.Bool.Decides.{nat_tests}
use Rattle.std.proofs.lemmas.Int.{ints}
use Rattle.std.proofs.lemmas.List.Kept.{IsStrictlySortedBy-filter}
use Rattle.std.proofs.lemmas.Map.{lookup-none}
use Rattle.siri_records.specs.declared.item.Item.{Item}
use Rattle.siri_records.specs.declared.item.Item.TheVariants as item
use Rattle.siri_records.specs.declared.item.Service.TheVariants as service
use Rattle.siri_records.specs.declared.key.Key.{Key}
use Rattle.siri_records.specs.Edges.{edges_of, is_within, listed}
use Rattle.siri_records.specs.Ends.{entry_of}
use Rattle.siri_records.specs.Keyed.{Items, InOrder, item_of}
use Rattle.siri_records.proofs.ItemsPassing.{kept_if}
use Rattle.siri_records.proofs.Kept.{sorted_kept}
use Rattle.siri_topic.specs.Agreement.{agrees}
use Rattle.siri_topic.specs.declared.topics.StopTopic.{StopTopic}
use Rattle.siri_topic.specs.declared.topics.Topic.{Topic}
use Rattle.siri_topic.specs.declared.topics.Topic.TheVariants as topic
use Rattle.siri_topic.specs.declared.windows.Window.{Window}
use Rattle.siri_topic.specs.Shown.{is_from, is_before, is_shown, window_of}
use Rattle.siri_store.specs.Between.{between, inside, since}
use Rattle.siri_store.specs.Crossing.{edge_cmp}
use Rattle.siri_store.specs.CrossWalk.{led}
use Rattle.siri_store.specs.First.{under_entry, enters, first_entries, looked_until, visits_by_entry, visits_for}
use Rattle.siri_store.specs.Held.{counted}
use Rattle.siri_store.specs.Stamped.{Stamp, stamp_cmp, has, moments_held, Tied}
use Rattle.siri_store.specs.Visits.{AreVisits}
use Rattle.siri_store.specs.Walk.{shown_entries}
use Rattle.siri_store.proofs.Crossed.{Edged, edge_total, edge_exact, edged, unkeyed, sorted_edged, found_edged, value, or_else}
use Rattle.siri_store.proofs.Crossed.{Alike, at, placed, sorted_fold, found_placed, service_moments, none_bits, of_order, stamp_passing}
use Rattle.siri_store.proofs.Inserted.{same_entries}
use Rattle.siri_store.proofs.LookUps.{by_bool, later_apart}
use Rattle.siri_records.specs.Services.{is_of}

-- ---- a test of what was found

module _ (p : Item → Bool) where
  abbrev kept : Edged → Edged
  kept xs = filter (λ f. p f.1) xs

  lookup_case : (x : ℕ × Key) (f : (ℕ × Key) × Item) (xs : Edged) (b t : Bool) → p f.1 ≡ b → is_eq (edge_cmp x f.0) ≡ t
      → (t ≡ true → lookup (is_at (edge_cmp x)) xs ≡ None)
      → lookup (is_at (edge_cmp x)) (kept xs) ≡ kept_if p (lookup (is_at (edge_cmp x)) xs)
      → lookup (is_at (edge_cmp x)) (kept (f ∷ xs)) ≡ kept_if p (lookup (is_at (edge_cmp x)) (f ∷ xs))
  lookup_case x f xs true true h t none rest = rw h (rw t (sym (ap (λ c. cond c (Some f.1) None) h)))
  lookup_case x f xs true false h t none rest = rw h (rw t rest)
  lookup_case x f xs false true h t none rest =
      rw h (rw t (rest ∙ (ap (kept_if p) (none refl) ∙ sym (ap (λ c. cond c (Some f.1) None) h))))
  lookup_case x f xs false false h t none rest = rw h (rw t rest)

  pub lookup_kept : (x : ℕ × Key) (xs : Edged) → IsStrictlySortedBy edge_cmp (keys_of xs)
      → lookup (is_at (edge_cmp x)) (kept xs) ≡ kept_if p (lookup (is_at (edge_cmp x)) xs)
  unfolding IsStrictlySortedBy
  lookup_kept x [] s = refl
  lookup_kept x (f ∷ xs) s =
      lookup_case x f xs (p f.1) (is_eq (edge_cmp x f.0)) refl refl
      (λ t. lookup-none (is_at (edge_cmp x)) xs (later_apart edge_total x f xs ((Equal-is (edge_cmp x f.0)).0 t) s.0))
      (lookup_kept x xs s.1)

  -- without their moments
  pub kept_unkeyed : (xs : Edged) → map {B = Key × Item} (λ f. (f.0.1, f.1)) (kept xs) ≡ filter (λ e. p e.1) (map {B = Key × Item} (λ f. (f.0.1, f.1)) xs)
  kept_unkeyed [] = refl
  kept_unkeyed (f ∷ xs) = by_bool (p f.1)
      (λ h. rw h (ap (λ (l : Items). (f.0.1, f.1) ∷ l) (kept_unkeyed xs)))
      (λ h. rw h (kept_unkeyed xs))

-- ---- a visit has one edge, its entry

visit_edges : (i : Item) → is_of service.Stop i ≡ true → edges_of i ≡ listed (entry_of i)
visit_edges (item.Visit v) is = refl
visit_edges (item.Journey j) is = absurd (cc is)
visit_edges (item.Vehicle v) is = absurd (cc is)
visit_edges (item.Situation s) is = absurd (cc is)

abbrev in_window : Window → ℕ → Bool
in_window window m = is_from window.from (Some m) && is_before window.to (Some m)

abbrev pub entry_at : Item → ℕ
entry_at i = option_map_or (λ moment. moment) (entry_of i) 0

-- no edge before itself
pub not_before : (from : ℤ) (q m : ℕ) → nat_eq q m ≡ true → is_within from (pos q) m ≡ false
not_before from q m h = grind (arith, nat_tests, ints)

equal_numbers : (a b : ℕ) → nat_eq a b ≡ true → a ≡ b
equal_numbers a b h = grind (arith, nat_tests)

module _ (window : Window) (p : Item → Bool) where
  abbrev enters_passing : Item → Bool
  enters_passing i = is_of service.Stop i && (enters window i && p i)

  entry_bits : (w b same edge : Bool) (i : Item) → p i ≡ b → (same ≡ true → edge ≡ false)
      → kept_if p (cond (w && (same || false)) (cond (edge || false) None (Some i)) None)
      ≡ or_else (cond ((true && (w && p i)) && same) (Some i) None) None
  entry_bits true true true edge i h none = rw (none refl) (rw h refl)
  entry_bits true false true edge i h none = rw (none refl) (rw h refl)
  entry_bits true b false edge i h none = rw h (by b)
    where
      by : (b : Bool) → ◌≡◌ {A = Option Item} None (or_else (cond ((true && (true && b)) && false) (Some i) None) None)
      by true = refl
      by false = refl
  entry_bits false b same edge i h none = by same
    where
      by : (same : Bool) → ◌≡◌ {A = Option Item} None (or_else (cond ((true && (false && p i)) && same) (Some i) None) None)
      by true = refl
      by false = refl

  of_entry : (q : ℕ) (i : Item) (m : Option ℕ)
      → kept_if p (cond (in_window window q && has q (listed m)) (cond (list_any (is_within window.from (pos q)) (listed m)) None (Some i)) None)
      ≡ or_else (cond ((true && ((is_from window.from m && is_before window.to m) && p i)) && nat_eq q (option_map_or (λ moment. moment) m 0)) (Some i) None) None
  of_entry q i None = ap (kept_if p) (none_bits (in_window window q) (Some i))
  of_entry q i (Some m) =
      by_bool (nat_eq q m)
      (λ h. ap (λ w. kept_if p (cond (w && (nat_eq q m || false)) (cond (is_within window.from (pos q) m || false) None (Some i)) None))
      (ap (in_window window) (equal_numbers q m h))
      ∙ entry_bits (in_window window m) (p i) (nat_eq q m) (is_within window.from (pos q) m) i refl (λ same. not_before window.from q m same))
      (λ h. rw h (unlike (in_window window q) (in_window window m) (p i)))
    where
      unlike : (w v b : Bool) → kept_if p (cond (w && (false || false)) (cond (is_within window.from (pos q) m || false) None (Some i)) None)
          ≡ or_else (cond ((true && (v && b)) && false) (Some i) None) None
      unlike true true true = refl
      unlike true true false = refl
      unlike true false b = refl
      unlike false true true = refl
      unlike false true false = refl
      unlike false false b = refl

  of_item : (q : ℕ) (i : Item) (b : Bool) → is_of service.Stop i ≡ b
      → kept_if p (cond (in_window window q && has q (cond b (edges_of i) [])) (value window.from q (Some i)) None)
      ≡ or_else (cond ((b && (enters window i && p i)) && nat_eq q (entry_at i)) (Some i) None) None
  of_item q i true is =
      ap (λ es. kept_if p (cond (in_window window q && has q es) (cond (list_any (is_within window.from (pos q)) es) None (Some i)) None))
      (visit_edges i is)
      ∙ of_entry q i (entry_of i)
  of_item q i false is = ap (kept_if p) (none_bits (in_window window q) (value window.from q (Some i)))

  of_held : (q : ℕ) (h : Option Item)
      → kept_if p (cond (in_window window q && has q (moments_held 1 h)) (value window.from q h) None)
      ≡ or_else (at enters_passing entry_at q h) None
  of_held q None = ap (kept_if p) (none_bits (in_window window q) None)
  of_held q (Some i) =
      ap (λ ms. kept_if p (cond (in_window window q && has q ms) (value window.from q (Some i)) None)) (service_moments service.Stop i)
      ∙ of_item q i (is_of service.Stop i) refl

  module _ (order : ℕ) (es : Items) (stamps : List Stamp) (tied : Tied es stamps) where
    pub led_visits : Alike order service.Stop es → InOrder es → IsStrictlySortedBy stamp_cmp stamps
        → filter (λ e. p e.1) (led window.from es (inside order window stamps)) ≡ visits_by_entry (λ i. enters window i && p i) es
    unfolding IsStrictlySortedBy
    led_visits alike ordered sorted =
        let there = inside order window stamps in
        let all = of_order order (in_window window) stamps in
        let found = edged window.from es there in
        let found_sorted = sorted_edged window.from es order there
        (IsStrictlySortedBy-filter stamp_cmp (λ stamp. nat_eq stamp.0 order && in_window window stamp.1) stamps sorted) all in
        let l = filter (λ (f : (ℕ × Key) × Item). p f.1) found in
        let r = placed enters_passing entry_at [] es in
        let same : l ≡ r = same_entries edge_total edge_exact l r
        (sorted_kept (λ (f : (ℕ × Key) × Item). p f.1) edge_cmp found found_sorted)
        (sorted_fold enters_passing entry_at [] (filter (λ e. enters_passing e.1) es) tt)
        (λ x. lookup_kept p x found found_sorted
        ∙ (ap (kept_if p) (found_edged window.from es order x.0 x.1 there all
        ∙ ap (λ b. cond b (value window.from x.0 (item_of es x.1)) None)
        (stamp_passing order (in_window window) stamps es tied x.0 x.1 ∙ ap (λ ms. in_window window x.0 && has x.0 ms) (alike x.1)))
        ∙ (of_held x.0 (item_of es x.1) ∙ sym (found_placed enters_passing entry_at x.0 x.1 es [] ordered)))) in
        ap (filter (λ (e : Key × Item). p e.1)) (sym (unkeyed window.from es there))
        ∙ (sym (kept_unkeyed p found) ∙ ap (map {B = Key × Item} (λ (f : (ℕ × Key) × Item). (f.0.1, f.1))) same)

-- the stamps of a window that has a far end, and of one that has none
pub inside_to : (order : ℕ) (window : Window) (to : ℤ) (stamps : List Stamp) → window.to ≡ Some to
    → between order window.from to stamps ≡ inside order window stamps
inside_to order window to stamps is =
    ap (λ t. filter (λ (s : Stamp). nat_eq s.0 order && (is_from window.from (Some s.1) && is_before t (Some s.1))) stamps) (sym is)

true_and : (a b : Bool) → (a && b) ≡ (a && (b && true))
true_and true true = refl
true_and true false = refl
true_and false b = refl

pub inside_since : (order : ℕ) (window : Window) (stamps : List Stamp) → window.to ≡ None
    → since order window.from stamps ≡ inside order window stamps
inside_since order window stamps is =
    (λ i. filter (λ (s : Stamp). true_and (nat_eq s.0 order) (is_from window.from (Some s.1)) i) stamps)
    ∙ ap (λ t. filter (λ (s : Stamp). nat_eq s.0 order && (is_from window.from (Some s.1) && is_before t (Some s.1))) stamps) (sym is)

module _ (order : ℕ) (window : Window) (es : Items) (stamps : List Stamp) (tied : Tied es stamps) (ordered : InOrder es)
    (sorted : IsStrictlySortedBy stamp_cmp stamps) where
  pub are_visits : Alike order service.Stop es → AreVisits window es (inside order window stamps)
  are_visits alike p = led_visits window p order es stamps tied alike ordered sorted

-- ---- all of them, and those that are shown

all_kept : (es : Items) → filter (λ (e : Key × Item). true) es ≡ es
all_kept [] = refl
all_kept (e ∷ es) = ap (λ l. e ∷ l) (all_kept es)

filter_alike : (p q : Key × Item → Bool) → ((e : Key × Item) → p e ≡ q e) → (es : Items) → filter p es ≡ filter q es
filter_alike p q alike es = ap (λ t. filter t es) (λ i e. alike e i)

and_true : (b : Bool) → (b && true) ≡ b
and_true true = refl
and_true false = refl

pub by_alike : (p q : Item → Bool) → ((i : Item) → (is_of service.Stop i && p i) ≡ (is_of service.Stop i && q i)) → (es : Items)
    → visits_by_entry p es ≡ visits_by_entry q es
by_alike p q alike es =
    ap (λ (l : Items). map {B = Key × Item} (λ (f : (ℕ × Key) × Item). (f.0.1, f.1)) (fold (λ (found : Edged) e. insert_entry edge_cmp found (under_entry e) e.1) [] l))
    (filter_alike (λ e. is_of service.Stop e.1 && p e.1) (λ e. is_of service.Stop e.1 && q e.1) (λ e. alike e.1) es)

-- what is shown to a topic of stop monitoring has its entry in the window
module _ (window : Window) (t : StopTopic) (now : ℕ) (is : window ≡ window_of (topic.Stop t) now) where
  enters_bits : (agrees enters : Bool) → (enters && (agrees && true && enters)) ≡ (agrees && true && enters)
  enters_bits true true = refl
  enters_bits true false = refl
  enters_bits false true = refl
  enters_bits false false = refl

  pub shown_enters : (i : Item)
      → (is_of service.Stop i && (enters window i && is_shown (topic.Stop t) i now)) ≡ (is_of service.Stop i && is_shown (topic.Stop t) i now)
  shown_enters (item.Visit v) =
      ap (λ w. enters w (item.Visit v) && is_shown (topic.Stop t) (item.Visit v) now) is
      ∙ enters_bits (agrees (topic.Stop t) (item.Visit v)) (enters (window_of (topic.Stop t) now) (item.Visit v))
  shown_enters (item.Journey j) = refl
  shown_enters (item.Vehicle v) = refl
  shown_enters (item.Situation s) = refl

module _ (window : Window) (es : Items) (there : List Stamp) (visits : AreVisits window es there) where
  pub all_visits : led window.from es there ≡ visits_by_entry (enters window) es
  all_visits =
      sym (all_kept (led window.from es there))
      ∙ (visits (λ i. true)
      ∙ by_alike (λ i. enters window i && true) (enters window) (λ i. ap (λ b. is_of service.Stop i && b) (and_true (enters window i))) es)

  pub shown_visits : (t : StopTopic) (now : ℕ) → window ≡ window_of (topic.Stop t) now
      → shown_entries (topic.Stop t) now (led window.from es there) ≡ first_entries (topic.Stop t) now es
  shown_visits t now is =
      visits (λ i. is_shown (topic.Stop t) i now)
      ∙ by_alike (λ i. enters window i && is_shown (topic.Stop t) i now) (λ i. is_shown (topic.Stop t) i now) (shown_enters window t now is) es

-- of the visits that pass a test, those that pass another, are those that pass both
module _ (p q : Item → Bool) where
  abbrev one : Item → Bool
  one i = is_of service.Stop i && p i

  abbrev two : Item → Bool
  two i = is_of service.Stop i && (p i && q i)

  both_bits : (s a e b : Bool) (i : Item) → q i ≡ b
      → kept_if q (or_else (cond ((s && a) && e) (Some i) None) None) ≡ or_else (cond ((s && (a && q i)) && e) (Some i) None) None
  both_bits true true true true i h = rw h refl
  both_bits true true true false i h = rw h refl
  both_bits true true false true i h = rw h refl
  both_bits true true false false i h = rw h refl
  both_bits true false e b i h = refl
  both_bits false a e b i h = refl

  both_held : (m : ℕ) (h : Option Item) → kept_if q (or_else (at one entry_at m h) None) ≡ or_else (at two entry_at m h) None
  both_held m None = refl
  both_held m (Some i) = both_bits (is_of service.Stop i) (p i) (nat_eq m (entry_at i)) (q i) i refl

  pub filter_visits : (es : Items) → InOrder es
      → filter (λ e. q e.1) (visits_by_entry p es) ≡ visits_by_entry (λ i. p i && q i) es
  unfolding IsStrictlySortedBy
  filter_visits es ordered =
      let found = placed one entry_at [] es in
      let sorted = sorted_fold one entry_at [] (filter (λ e. one e.1) es) tt in
      let l = filter (λ (f : (ℕ × Key) × Item). q f.1) found in
      let r = placed two entry_at [] es in
      let same : l ≡ r = same_entries edge_total edge_exact l r
      (sorted_kept (λ (f : (ℕ × Key) × Item). q f.1) edge_cmp found sorted)
      (sorted_fold two entry_at [] (filter (λ e. two e.1) es) tt)
      (λ x. lookup_kept q x found sorted
      ∙ (ap (kept_if q) (found_placed one entry_at x.0 x.1 es [] ordered)
      ∙ (both_held x.0 (item_of es x.1) ∙ sym (found_placed two entry_at x.0 x.1 es [] ordered)))) in
      sym (kept_unkeyed q found) ∙ ap (map {B = Key × Item} (λ (f : (ℕ × Key) × Item). (f.0.1, f.1))) same

-- ---- a topic of another service

none_pass : {X : Type 0} (p : X → Bool) → ((x : X) → p x ≡ false) → (xs : List X) → filter p xs ≡ []
none_pass p none [] = refl
none_pass p none (x ∷ xs) = rw (none x) (none_pass p none xs)

none_within : (m : ℕ) → is_within (pos 0) (pos 0) m ≡ false
none_within m = grind (arith, ints)

and_false : (b : Bool) → (b && false) ≡ false
and_false true = refl
and_false false = refl

pub none_between : (order : ℕ) (stamps : List Stamp) → between order (pos 0) (pos 0) stamps ≡ []
none_between order stamps =
    none_pass (λ (s : Stamp). nat_eq s.0 order && is_within (pos 0) (pos 0) s.1)
    (λ s. ap (λ b. nat_eq s.0 order && b) (none_within s.1) ∙ and_false (nat_eq s.0 order)) stamps

-- what is known of a walk for it: nothing is looked at
pub record Nothing (from : ℤ) (t : Topic) (now : ℕ) (es : Items) (there : List Stamp) : Type 0 where
  pub visits : led from es there ≡ visits_for t now es
  pub shown : shown_entries t now (led from es there) ≡ first_entries t now es

module _ (from : ℤ) (now : ℕ) (es : Items) (there : List Stamp) (none : there ≡ []) where
  none_led : led from es there ≡ []
  none_led = ap (led from es) none

  none_first : (t : Topic) → ((i : Item) → (is_of service.Stop i && is_shown t i now) ≡ false) → first_entries t now es ≡ []
  none_first t hidden =
      ap (λ (l : Items). map {B = Key × Item} (λ (f : (ℕ × Key) × Item). (f.0.1, f.1)) (fold (λ (found : Edged) e. insert_entry edge_cmp found (under_entry e) e.1) [] l))
      (none_pass (λ (e : Key × Item). is_of service.Stop e.1 && is_shown t e.1 now) (λ e. hidden e.1) es)

  nothing : (t : Topic) → visits_for t now es ≡ [] → ((i : Item) → (is_of service.Stop i && is_shown t i now) ≡ false) → Nothing from t now es there
  nothing t others hidden = record {
    visits = none_led ∙ sym others;
    shown = ap (shown_entries t now) none_led ∙ sym (none_first t hidden);
  }

  pub nothing_of : (t : Topic) → ((s : StopTopic) → t ≡ topic.Stop s → ⊥) → Nothing from t now es there
  nothing_of (topic.Stop s) other = absurd (other s refl)
  nothing_of (topic.Timetable t) other = nothing (topic.Timetable t) refl by
    where
      by : (i : Item) → (is_of service.Stop i && is_shown (topic.Timetable t) i now) ≡ false
      by (item.Visit v) = refl
      by (item.Journey j) = refl
      by (item.Vehicle v) = refl
      by (item.Situation s) = refl
  nothing_of (topic.Vehicle t) other = nothing (topic.Vehicle t) refl by
    where
      by : (i : Item) → (is_of service.Stop i && is_shown (topic.Vehicle t) i now) ≡ false
      by (item.Visit v) = refl
      by (item.Journey j) = refl
      by (item.Vehicle v) = refl
      by (item.Situation s) = refl
  nothing_of (topic.Situation t) other = nothing (topic.Situation t) refl by
    where
      by : (i : Item) → (is_of service.Stop i && is_shown (topic.Situation t) i now) ≡ false
      by (item.Visit v) = refl
      by (item.Journey j) = refl
      by (item.Vehicle v) = refl
      by (item.Situation s) = refl

-- ---- a walk until so many pass

module _ (p : Key × Item → Bool) where
  pub looked_none : (most : ℕ) → looked_until p most [] ≡ 0
  looked_none zero = refl
  looked_none (suc most) = refl

  pub looked_first : (n : ℕ) (e : Key × Item) (es : Items) → p e ≡ true → looked_until p (suc n) (e ∷ es) ≡ suc (looked_until p n es)
  looked_first n e es h = ap (λ b. suc (looked_until p (cond b n (suc n)) es)) h

  pub looked_over : (n : ℕ) (e : Key × Item) (es : Items) → p e ≡ false → looked_until p (suc n) (e ∷ es) ≡ suc (looked_until p (suc n) es)
  looked_over n e es h = ap (λ b. suc (looked_until p (cond b n (suc n)) es)) h

  drop_next : (n : ℕ) (e : Key × Item) (es : Items) (m : ℕ) → m ≡ suc n → drop m (e ∷ es) ≡ drop n es
  drop_next n e es m is = ap (λ k. drop k (e ∷ es)) is

  -- until the first that passes, and from there on until so many more do
  pub looked_step : (n : ℕ) (es : Items) → looked_until p (suc n) es ≡ looked_until p 1 es + looked_until p n (drop (looked_until p 1 es) es)
  looked_step n [] = omega (arith, looked_none n)
  looked_step n (e ∷ es) = by_bool (p e)
      (λ h. looked_first n e es h
      ∙ omega (arith, looked_first 0 e es h, ap (looked_until p n) (drop_next 0 e es (looked_until p 1 (e ∷ es)) (looked_first 0 e es h))))
      (λ h. looked_over n e es h
      ∙ omega (
        arith,
        looked_over 0 e es h,
        looked_step n es,
        ap (looked_until p n) (drop_next (looked_until p 1 es) e es (looked_until p 1 (e ∷ es)) (looked_over 0 e es h)),
      ))

  -- where none passes all are looked at, however many are wanted
  pub looked_all : (n : ℕ) (es : Items) → filter p es ≡ [] → looked_until p (suc n) es ≡ looked_until p 1 es
  looked_all n [] none = refl
  looked_all n (e ∷ es) none = by_bool (p e)
      (λ h. absurd (cc (rw h at none)))
      (λ h. looked_over n e es h ∙ (ap suc (looked_all n es (rw h at none)) ∙ sym (looked_over 0 e es h)))

-- one that doesn't pass
module _ (p : Key × Item → Bool) (e : Key × Item) (old new first : Items) (is : old ≡ e ∷ new) where
  pub over_same : p e ≡ false → filter p new ≡ filter p old
  over_same h = sym (ap (filter p) is ∙ rw h refl)

  pub over_dropped : p e ≡ false → drop (looked_until p 1 new) new ≡ drop (looked_until p 1 old) old
  over_dropped h = sym (ap (λ l. drop (looked_until p 1 l) l) is ∙ ap (λ n. drop n (e ∷ new)) (looked_over p 0 e new h))

  pub over_looked : p e ≡ false → looked_until p 1 old ≡ suc (looked_until p 1 new)
  over_looked h = ap (looked_until p 1) is ∙ looked_over p 0 e new h

  pub found_dropped : p e ≡ true → new ≡ drop (looked_until p 1 old) old
  found_dropped h = sym (ap (λ l. drop (looked_until p 1 l) l) is ∙ ap (λ n. drop n (e ∷ new)) (looked_first p 0 e new h))

  pub found_looked : p e ≡ true → looked_until p 1 old ≡ 1
  found_looked h = ap (looked_until p 1) is ∙ looked_first p 0 e new h

-- ---- the first so many in one call

take_none : {X : Type 0} (n : ℕ) → take {A = X} n [] ≡ []
take_none zero = refl
take_none (suc n) = refl

before_it : (left : ℕ) → (left ≡ 0 → ⊥) → left ≡ suc (left - 1)
before_it zero some = absurd (some refl)
before_it (suc n) some = omega arith

take_one : {X : Type 0} (left : ℕ) (x : X) (xs : List X) → left ≡ suc (left - 1) → take left (x ∷ xs) ≡ x ∷ take (left - 1) xs
take_one left x xs is = ap (λ n. take n (x ∷ xs)) is

pub one_found : {X : Type 0} (found more rest next total : List X) (x : X) (left : ℕ) → (left ≡ 0 → ⊥) → more ≡ found ++ x ∷ []
    → rest ≡ x ∷ next → found ++ take left rest ≡ total → more ++ take (left - 1) next ≡ total
one_found found more rest next total x left some one is so_far =
    ap (λ l. l ++ take (left - 1) next) one
    ∙ (append_assoc found (x ∷ []) (take (left - 1) next)
    ∙ (ap (λ l. found ++ l) (sym (ap (take left) is ∙ take_one left x next (before_it left some))) ∙ so_far))

module _ (p : Key × Item → Bool) (most left : ℕ) (all old : Items) (start before : ℕ)
    (counter : before ≡ counted start (looked_until p most all - looked_until p left old))
    (fewer : looked_until p left old ≤ looked_until p most all) where
  module _ (some : left ≡ 0 → ⊥) (now : ℕ) (step : now ≡ counted before (looked_until p 1 old)) where
    of_left : looked_until p left old ≡ looked_until p (suc (left - 1)) old
    of_left = ap (λ n. looked_until p n old) (before_it left some)

    pub none_counted : filter p old ≡ [] → now ≡ counted start (looked_until p most all)
    none_counted none = omega (arith, counter, fewer, step, of_left, looked_all p (left - 1) old none)

    module _ (new : Items) (looked : new ≡ drop (looked_until p 1 old) old) where
      both : looked_until p left old ≡ looked_until p 1 old + looked_until p (left - 1) new
      both = of_left ∙ (looked_step p (left - 1) old
          ∙ ap (λ l. looked_until p 1 old + looked_until p (left - 1) l) (sym looked))

      pub more_counted : now ≡ counted start (looked_until p most all - looked_until p (left - 1) new)
      more_counted = omega (arith, counter, fewer, step, both)

      pub still_fewer : looked_until p (left - 1) new ≤ looked_until p most all
      still_fewer = omega (arith, fewer, both)

      pub within : now ≤ start + looked_until p most all
      within = omega (arith, counter, fewer, step, both)

      pub risen : start ≤ now
      risen = omega (arith, counter, step)
