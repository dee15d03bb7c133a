-- A later look at a subscription whose topic has MaximumStopVisits, where something may have changed.
use Rattle.std.proofs.Common.{◌≡◌, ℕ, ℤ, ◌+◌, ◌≤◌, zero, suc, List, [], ◌∷◌, filter, length, Bool, true, false, cond, not, ◌&&◌}
use Rattle.std.proofs.Common.{Option, Some, None, is_some, refl, ap, sym, ◌∙◌, arith}
use Rattle.std.specs.Prelude.{◌==◌, count_by, nat_eq, if◌then◌else◌}
use Rattle.std.proofs.lemmas.Bool.Decides.{nat_tests}
use Rattle.std.specs.Map.{keys_of}
use Rattle.std.proofs.lemmas.List.Sums.{length-filter}
use Rattle.siri_records.specs.declared.item.Item.{Item}
use Rattle.siri_records.specs.declared.item.Item.TheVariants as item
use Rattle.siri_records.specs.declared.key.Key.{Key}
use Rattle.siri_records.specs.Near.{is_near}
use Rattle.siri_records.specs.Keyed.{Items, InOrder, KeyChange}
use Rattle.siri_topic.specs.declared.topics.StopTopic.{StopTopic}
use Rattle.siri_topic.specs.declared.topics.Topic.{Topic}
use Rattle.siri_topic.specs.declared.topics.Topic.TheVariants as topic
use Rattle.siri_topic.specs.Crossed.{is_crossed, far_end_between, far_end_passed}
use Rattle.siri_topic.specs.Shown.{window_of}
use Rattle.siri_change.specs.Changes.{agree_on, changes, keys_of_both, target}
use Rattle.siri_change.proofs.Leads.{none_of_both, agree_none}
use Rattle.siri_change.proofs.Levels.{looks_by_keys, order_both}
use Rattle.siri_store.specs.Candidates.{candidates, may_be_shown}
use Rattle.siri_store.specs.Marked.{keys_since}
use Rattle.siri_subs.specs.rounds.Wanted.{RoundsOfChanges}
use Rattle.siri_subs.specs.declared.entry.Row.{Row}
use Rattle.siri_model.specs.Direct.{direct_to, most_of}
use Rattle.siri_model.specs.Followed.{asked_since, far_edges_passed, first_visits, items_passed, keys_apart}
use Rattle.siri_model.specs.Looks.{crossed_items, found_of}
use Rattle.siri_model.specs.Rows.{asked_of}
use Rattle.siri_responder.specs.Firsts.{AreWithin}
use Rattle.siri_responder.specs.Known.{Known}
use Rattle.siri_subscriptions.specs.declared.course.Course.{Course}
use Rattle.siri_subscriptions.specs.declared.course.Looked.{Looked}
use Rattle.siri_subscriptions.specs.declared.looks.Finding.{Finding}
use Rattle.siri_subscriptions.specs.declared.looks.Opening.{Opening}
use Rattle.siri_subscriptions.specs.Again.{crossed_since, touched_keys}
use Rattle.siri_subscriptions.specs.Courses.{kept_row}
use Rattle.siri_subscriptions.specs.Due.{IsFound, apart_at}
use Rattle.siri_subscriptions.specs.Looked.{look_of}
use Rattle.siri_subscriptions.specs.Openings.{with_opening}
use Rattle.siri_subscriptions.specs.Rounds.{looked as looked_at}
use Rattle.siri_subscriptions.proofs.Apart.{apart_kept, apart_opened}
use Rattle.siri_subscriptions.proofs.ByKeys.{keys_found}
use Rattle.siri_subscriptions.proofs.Found.{due, due_begins, stays}
use Rattle.siri_topic.specs.Services.{is_served}

-- ---- the whole direct response

-- what leads a view to a direct response changes the keys on which they don't agree
pub unlike_are : (slack : ℤ) (view direct : Items) → InOrder view → InOrder direct
    → keys_of (changes view (target slack true view direct)) ≡ keys_apart slack view direct
unlike_are slack view direct s r =
    let both = keys_of_both view direct in
    let look = looks_by_keys slack view direct both s r (order_both view direct s) (λ key out.
    let none = none_of_both view direct key out in agree_none (is_near slack) view direct key none.0 none.1) in
    ap keys_of look.carries
    ∙ keys_found direct (filter (λ key. not (agree_on (is_near slack) view direct key)) both)

module _ (now : ℕ) (items : Items) (row : Row Course) (level : row.slot.rounds.outstanding ≡ None) where
  abbrev whole : Items
  whole = direct_to now items row.wanted.topic

  asked_is : (asked_of (kept_row row)).subscription ≡ row.wanted
  asked_is = refl

  -- a look finds that a round opens exactly where one is due
  opened_case : (opening : Option Opening) (b : Bool) → due row.wanted whole row.slot.rounds ≡ b
      → with_opening now opening row.slot.rounds ≡ looked_at (asked_of (kept_row row)) whole now row.slot.rounds
      → is_some opening ≡ b
  opened_case None false h is = refl
  opened_case (Some o) true h is = refl
  opened_case (Some o) false h is =
      absurd (cc (ap (λ (r : RoundsOfChanges). r.outstanding)
      (is ∙ sym (stays row.wanted whole row.slot.rounds level h (asked_of (kept_row row)) asked_is now)) ∙ level))
  opened_case None true h is =
      absurd (cc (sym level ∙ ap (λ (r : RoundsOfChanges). r.outstanding)
      (is ∙ sym (due_begins row.wanted whole row.slot.rounds level h (asked_of (kept_row row)) asked_is now))))

  pub whole_apart : (finding : Finding) → IsFound now items row finding → (keys : List Key)
      → keys ≡ cond (is_some finding.opening) [] (keys_apart row.wanted.slack row.slot.rounds.acknowledged whole)
      → Some keys ≡ apart_at now items row
  whole_apart finding found keys is =
      by (due row.wanted whole row.slot.rounds) refl
      (is ∙ ap (λ b. cond b [] (keys_apart row.wanted.slack row.slot.rounds.acknowledged whole))
      (opened_case finding.opening (due row.wanted whole row.slot.rounds) refl found.opening))
    where
      by : (b : Bool) → due row.wanted whole row.slot.rounds ≡ b
          → keys ≡ cond b [] (keys_apart row.wanted.slack row.slot.rounds.acknowledged whole)
          → Some keys ≡ apart_at now items row
      by true h same = ap Some same ∙ apart_opened now items row level h
      by false h same = ap Some same ∙ apart_kept now items row level h

-- ---- how many visits are looked at

-- two filters, in either order
filters_case : {X : Type 0} (p q : X → Bool) (x : X) (xs : List X) (b c : Bool) → p x ≡ b → q x ≡ c
    → filter p (filter q xs) ≡ filter q (filter p xs) → filter p (filter q (x ∷ xs)) ≡ filter q (filter p (x ∷ xs))
filters_case p q x xs true true h k rest = rw (h, k, h) (ap (λ l. x ∷ l) rest)
filters_case p q x xs true false h k rest = rw (h, k) rest
filters_case p q x xs false true h k rest = rw (h, k, h) rest
filters_case p q x xs false false h k rest = rw (h, k) rest

filters_turn : {X : Type 0} (p q : X → Bool) (xs : List X) → filter p (filter q xs) ≡ filter q (filter p xs)
filters_turn p q [] = refl
filters_turn p q (x ∷ xs) = filters_case p q x xs (p x) (q x) refl refl (filters_turn p q xs)

none_counted : (p : Key × Item → Bool) (items : Items) → ((e : Key × Item) → p e ≡ false) → count_by p items ≡ 0
none_counted p [] none = refl
none_counted p (e ∷ items) none = rw (none e) (none_counted p items none)

and_false : (b : Bool) → (b && false) ≡ false
and_false true = refl
and_false false = refl

-- those of which the far end of a window passed an edge
far_counted : (topic : Topic) (from to : Option ℤ) (items : Items)
    → count_by (λ entry. is_served topic entry.1 && far_end_between from to entry.1) items ≡ far_edges_passed topic items from to
far_counted topic (Some from) (Some to) items = refl
far_counted topic (Some from) None items =
    none_counted (λ entry. is_served topic entry.1 && false) items (λ entry. and_false (is_served topic entry.1))
far_counted topic None to items =
    none_counted (λ entry. is_served topic entry.1 && false) items (λ entry. and_false (is_served topic entry.1))

stop_crossed : (t : StopTopic) (before now : ℕ) (i : Item)
    → is_crossed (topic.Stop t) before now i ≡ (is_served (topic.Stop t) i && far_end_passed (topic.Stop t) before now i)
stop_crossed t before now (item.Visit v) = refl
stop_crossed t before now (item.Journey j) = refl
stop_crossed t before now (item.Vehicle v) = refl
stop_crossed t before now (item.Situation s) = refl

few_crossed : (topic : Topic) (before now : ℕ) (items : Items) → is_some (most_of topic) ≡ true
    → length (crossed_items topic before now items) ≤ items_passed topic items before now
few_crossed (topic.Stop t) before now items limit =
    let one = topic.Stop t in
    let passed = length-filter {X = Key × Item} (λ entry. is_crossed one before now entry.1) items
    ∙ ((λ i. count_by (λ (entry : Key × Item). stop_crossed t before now entry.1 i) items)
    ∙ far_counted one (window_of one before).to (window_of one now).to items) in
    omega (arith, passed)
few_crossed (topic.Timetable t) before now items limit = absurd (cc limit)
few_crossed (topic.Vehicle t) before now items limit = absurd (cc limit)
few_crossed (topic.Situation t) before now items limit = absurd (cc limit)

within_first : (now : ℕ) (items : Items) (topic : Topic) (most : Option ℕ) → most_of topic ≡ most → is_some most ≡ true
    → (before after : ℕ) → AreWithin now items topic before after → after ≤ before + first_visits now items topic most
within_first now items topic (Some most) is limit before after within = within most is
within_first now items topic None is limit before after within = absurd (cc limit)

counts_if : (b : Bool) (visits before after : ℕ) → b ≡ false → after ≤ before + visits → after ≤ before + cond b 0 visits
counts_if true visits before after off le = absurd (cc off)
counts_if false visits before after off le = le

not_zero : (n : ℕ) → 1 ≤ n → (n == 0) ≡ false
not_zero n some = grind (arith, nat_tests, some)

counts_where_changed : (changed visits before after : ℕ) → 1 ≤ changed → after ≤ before + visits
    → after ≤ before + (if changed == 0 then 0 else visits)
counts_where_changed changed visits before after some le = counts_if (changed == 0) visits before after (not_zero changed some) le

-- none was found and none crossed, or some was
left_true : (a b : Bool) → (a && b) ≡ true → a ≡ true
left_true true b h = refl
left_true false b h = absurd (cc h)

right_true : (a b : Bool) → (a && b) ≡ true → b ≡ true
right_true true b h = h
right_true false b h = absurd (cc h)

is_zero : (n : ℕ) → nat_eq n 0 ≡ true → n ≡ 0
is_zero n h = grind (arith, nat_tests)

pub both_none : (found crossed : ℕ) → (nat_eq found 0 && nat_eq crossed 0) ≡ true → (found ≡ 0) × (crossed ≡ 0)
both_none found crossed h =
    (is_zero found (left_true (nat_eq found 0) (nat_eq crossed 0) h), is_zero crossed (right_true (nat_eq found 0) (nat_eq crossed 0) h))

pub some_found : (found crossed : ℕ) → (nat_eq found 0 && nat_eq crossed 0) ≡ false → 1 ≤ found + crossed
some_found zero zero h = absurd (cc h)
some_found zero (suc n) h = omega arith
some_found (suc n) crossed h = omega arith

found_length : (items : Items) (keys : List Key) → length (found_of items keys) ≡ length keys
found_length items [] = refl
found_length items (k ∷ keys) = ap suc (found_length items keys)

-- those that are crossed of the candidates are the candidates of those that are crossed
asked_crossed : (topic : Topic) (before now : ℕ) (items : Items)
    → candidates topic (crossed_items topic before now items) ≡ crossed_items topic before now (candidates topic items)
asked_crossed topic before now items = filters_turn (λ (e : Key × Item). may_be_shown topic e.0)
    (λ (e : Key × Item). is_crossed topic before now e.1) items

module _ (known : Known) (topic : Topic) (looked : Looked) (limit : is_some (most_of topic) ≡ true)
    (found : List KeyChange) (is : found ≡ found_of known.held (touched_keys known topic looked))
    (crossed : Items) (are : crossed ≡ crossed_since known topic looked) where
  abbrev since : ℕ
  since = asked_since known.moment known.held topic (look_of known.marks looked)

  -- none was touched or crossed where none was found
  pub none_touched : length found ≡ 0 → touched_keys known topic looked ≡ []
  none_touched none = empty (touched_keys known topic looked) (sym (found_length known.held _) ∙ (sym (ap length is) ∙ none))
    where
      empty : (keys : List Key) → length keys ≡ 0 → keys ≡ []
      empty [] h = refl
      empty (k ∷ keys) h = absurd (omega (arith, h))

  pub none_crossed : length crossed ≡ 0 → crossed_since known topic looked ≡ []
  none_crossed none = sym are ∙ empty crossed none
    where
      empty : (items : Items) → length items ≡ 0 → items ≡ []
      empty [] h = refl
      empty (e ∷ items) h = absurd (omega (arith, h))

  pub whole_bound : 1 ≤ length found + length crossed → (after : ℕ)
      → AreWithin known.moment (candidates topic known.held) topic known.reads after
      → after ≤ known.reads + (if since == 0 then 0 else first_visits known.moment (candidates topic known.held) topic (most_of topic))
  whole_bound some after within =
      let touched = ap length is ∙ (found_length known.held (touched_keys known topic looked)
      ∙ length-filter (may_be_shown topic) (keys_since known.marks.log looked.number)) in
      let passed = few_crossed topic looked.moment known.moment (candidates topic known.held) limit in
      let crosses = ap length (are ∙ asked_crossed topic looked.moment known.moment known.held) in
      counts_where_changed since (first_visits known.moment (candidates topic known.held) topic (most_of topic)) known.reads after
      (omega (arith, some, touched, passed, crosses))
      (within_first known.moment (candidates topic known.held) topic (most_of topic) refl limit known.reads after within)
