-- Items under their own keys, and which of them are shown.
use Rattle.std.proofs.Common.{◌≡◌, ℕ, ◌≤◌, List, [], ◌∷◌, filter, length, take, drop, Bool, true, false, ◌&&◌, ◌||◌, refl, ap, sym, ◌∙◌}
use Rattle.std.proofs.Common.{Some, slice_range}
use Rattle.std.specs.Cmp.{Equal-is}
use Rattle.std.specs.List.{All, AllByRecursion}
use Rattle.std.specs.Map.{remove_entry}
use Rattle.std.specs.BTreeMap.{insert_entry, is_at}
use Rattle.std.specs.Ordering.{is_eq}
use Rattle.std.specs.declared.cmp.Ordering.{Ordering}
use Rattle.std.specs.declared.cmp.Ordering.TheVariants.{Less, Equal, Greater}
use Rattle.std.proofs.lemmas.List.Elements.{All-from_recursion, recursion_from_All, All-weaker}
use Rattle.siri_records.specs.declared.item.Item.{Item}
use Rattle.siri_records.specs.declared.item.Item.TheVariants as item
use Rattle.siri_records.specs.declared.journey.Journey.{Journey}
use Rattle.siri_records.specs.declared.key.Key.{Key}
use Rattle.siri_records.specs.Keyed.{Items, item_of}
use Rattle.siri_records.specs.Keys.{key_of}
use Rattle.siri_records.specs.Order.{key_cmp}
use Rattle.siri_records.proofs.Order.{key_cmp_exact}
use Rattle.siri_topic.specs.declared.topics.LineDirection.{LineDirection}
use Rattle.siri_topic.specs.declared.topics.Topic.{Topic}
use Rattle.siri_topic.specs.declared.topics.Topic.TheVariants as topic
use Rattle.siri_topic.specs.Agreement.{agrees, has_journey, has_visit, is_on, is_on_a_line}
use Rattle.siri_topic.specs.Shown.{is_shown}
use Rattle.siri_store.specs.Candidates.{UnderOwnKeys, may_be_line, may_be_shown, candidates}
use Rattle.siri_store.specs.Sides.{is_below}
use Rattle.siri_store.specs.Walk.{shown_at, shown_entries}
use Rattle.siri_store.proofs.LookUps.{by_bool}
use Rattle.siri_store.proofs.Ranges.{filter_through, in_turn, range_is_kept, range_after, range_before}
use Rattle.siri_store.proofs.Sides.{below_none, above_none, between_all, not_both}

-- ---- what the store's calls keep

abbrev pub Own : Key × Item → Type 0
Own e = e.0 ≡ key_of e.1

put_case : (es : Items) (e : Key × Item) (k : Key) (i : Item) (o : Ordering) → key_cmp k e.0 ≡ o → k ≡ key_of i → Own e
    → AllByRecursion Own es → AllByRecursion Own (insert_entry key_cmp es k i)
    → AllByRecursion Own (insert_entry key_cmp (e ∷ es) k i)
put_case es e k i Less is own first rest more = rw is (own, (first, rest))
put_case es e k i Equal is own first rest more = rw is (sym (key_cmp_exact k e.0 is) ∙ own, rest)
put_case es e k i Greater is own first rest more = rw is (first, more)

put_own : (es : Items) (k : Key) (i : Item) → k ≡ key_of i → AllByRecursion Own es
    → AllByRecursion Own (insert_entry key_cmp es k i)
put_own [] k i own a = (own, tt)
put_own (e ∷ es) k i own a = put_case es e k i (key_cmp k e.0) refl own a.0 a.1 (put_own es k i own a.1)

pub own_put : (es : Items) (k : Key) (i : Item) → k ≡ key_of i → UnderOwnKeys es
    → UnderOwnKeys (insert_entry key_cmp es k i)
own_put es k i own all =
    All-from_recursion Own (insert_entry key_cmp es k i) (put_own es k i own (recursion_from_All Own es all))

remove_case : (test : Key → Bool) (e : Key × Item) (es : Items) (b : Bool) → test e.0 ≡ b → Own e
    → AllByRecursion Own es → AllByRecursion Own (remove_entry test es)
    → AllByRecursion Own (remove_entry test (e ∷ es))
remove_case test e es true is first rest less = rw is rest
remove_case test e es false is first rest less = rw is (first, less)

remove_own : (test : Key → Bool) (es : Items) → AllByRecursion Own es → AllByRecursion Own (remove_entry test es)
remove_own test [] a = tt
remove_own test (e ∷ es) a = remove_case test e es (test e.0) refl a.0 a.1 (remove_own test es a.1)

pub own_removed : (es : Items) (k : Key) → UnderOwnKeys es → UnderOwnKeys (remove_entry (is_at (key_cmp k)) es)
own_removed es k all =
    All-from_recursion Own (remove_entry (is_at (key_cmp k)) es)
    (remove_own (is_at (key_cmp k)) es (recursion_from_All Own es all))

-- ---- what is shown may be shown by its key

both_left : (a b : Bool) → (a && b) ≡ true → a ≡ true
both_left true b is = refl
both_left false b is = absurd (cc is)

both_right : (a b : Bool) → (a && b) ≡ true → b ≡ true
both_right true b is = is
both_right false b is = absurd (cc is)

or_none : (b : Bool) → (b || false) ≡ true → b ≡ true
or_none true is = refl
or_none false is = absurd (cc is)

on_line : (lines : List LineDirection) (j : Journey) → is_on_a_line lines j ≡ true → may_be_line lines j.line_ref ≡ true
on_line [] j is = refl
on_line (only ∷ []) j is = both_left _ _ (or_none (is_on only j) is)
on_line (one ∷ other ∷ lines) j is = refl

pub agreeing : (t : Topic) (i : Item) → agrees t i ≡ true → may_be_shown t (key_of i) ≡ true
unfolding has_visit has_journey
agreeing (topic.Stop t) (item.Visit v) is = both_left _ _ (both_left _ _ (both_left _ _ (both_left _ _ is)))
agreeing (topic.Timetable t) (item.Journey j) is = on_line t.lines j (both_right _ _ is)
agreeing (topic.Vehicle t) (item.Vehicle v) is = refl
agreeing (topic.Situation t) (item.Situation s) is = refl
agreeing t i is = absurd (cc is)

pub showing : (t : Topic) (now : ℕ) (e : Key × Item) → Own e → is_shown t e.1 now ≡ true → may_be_shown t e.0 ≡ true
showing t now e own is = ap (may_be_shown t) own ∙ agreeing t e.1 (both_left _ _ (both_left _ _ is))

-- what is held of a key is of that key
pub own_found : (es : Items) (k : Key) (i : Item) → AllByRecursion Own es → item_of es k ≡ Some i → k ≡ key_of i
own_found [] k i own is = absurd (cc is)
own_found (e ∷ es) k i own is = by_bool (is_eq (key_cmp k e.0))
    (λ h.
    let same : e.1 ≡ i = cc (rw h at is) in
    key_cmp_exact k e.0 ((Equal-is (key_cmp k e.0)).0 h) ∙ (own.0 ∙ ap key_of same))
    (λ h. own_found es k i own.1 (rw h at is))

-- and isn't shown where its key says so
pub hidden : (t : Topic) (now : ℕ) (k : Key) (i : Item) → k ≡ key_of i → may_be_shown t k ≡ false → is_shown t i now ≡ false
hidden t now k i own may = by_bool (is_shown t i now)
    (λ h. absurd (cc (sym may ∙ showing t now (k, i) own h)))
    (λ h. h)

pub all_showing : (t : Topic) (now : ℕ) (es : Items) → AllByRecursion Own es
    → AllByRecursion (λ e. is_shown t e.1 now ≡ true → may_be_shown t e.0 ≡ true) es
all_showing t now [] a = tt
all_showing t now (e ∷ es) a = (showing t now e a.0, all_showing t now es a.1)

-- what is shown of the candidates is what is shown of all
pub shown_candidates : (t : Topic) (now : ℕ) (es : Items) → UnderOwnKeys es
    → shown_entries t now (candidates t es) ≡ shown_entries t now es
shown_candidates t now es all = filter_through (λ (e : Key × Item). may_be_shown t e.0) (shown_at t now) es
    (all_showing t now es (recursion_from_All Own es all))

-- so where they stand together, what is shown there is what is shown of all
pub shown_there : (t : Topic) (now : ℕ) (es : Items) (from to : ℕ) → UnderOwnKeys es
    → slice_range es from to ≡ candidates t es → shown_entries t now (slice_range es from to) ≡ shown_entries t now es
shown_there t now es from to all is = ap (shown_entries t now) is ∙ shown_candidates t now es all

-- ---- their places

module _ {X : Type 0} (t : Topic) (es : List (Key × X)) (from to : ℕ) where
  pub places_rise : from ≤ length es
      → All (λ e. is_below t Equal e.0 ≡ true) (take from es) → All (λ e. is_below t Greater e.0 ≡ false) (drop to es)
      → from ≤ to
  places_rise within before after =
      in_turn (λ (e : Key × X). is_below t Equal e.0 ≡ true)
      (λ (e : Key × X). is_below t Greater e.0 ≡ false) es from to (λ e. not_both t e.0) within before after

  -- between the first that isn't below the middle side and the first that is above it, they are those that may be shown
  pub places_are : from ≤ to
      → All (λ e. is_below t Equal e.0 ≡ true) (take from es) → All (λ e. is_below t Equal e.0 ≡ false) (drop from es)
      → All (λ e. is_below t Greater e.0 ≡ true) (take to es) → All (λ e. is_below t Greater e.0 ≡ false) (drop to es)
      → slice_range es from to ≡ filter (λ e. may_be_shown t e.0) es
  places_are le below not_below not_above above =
      let after = range_after (λ (e : Key × X). is_below t Equal e.0 ≡ false) es from to not_below in
      let before = range_before (λ (e : Key × X). is_below t Greater e.0 ≡ true) es from to le not_above in
      range_is_kept (λ (e : Key × X). may_be_shown t e.0) es from to le
      (All-weaker (λ (e : Key × X). is_below t Equal e.0 ≡ true) (λ (e : Key × X). may_be_shown t e.0 ≡ false)
      (λ e. below_none t e.0) (take from es) below)
      (λ k d lt. between_all t _ (after k d lt) (before k d lt))
      (All-weaker (λ (e : Key × X). is_below t Greater e.0 ≡ false) (λ (e : Key × X). may_be_shown t e.0 ≡ false)
      (λ e. above_none t e.0) (drop to es) above)
