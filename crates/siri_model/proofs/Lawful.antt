-- What lives ask of views and parts holds of items and histories.
use Rattle.std.proofs.Common.{◌≡◌, ℕ, ◌≤◌, nat_lt, List, [], ◌∷◌, length, Bool, true, false, not, ◌&&◌, Option, Some, None}
use Rattle.std.proofs.Common.{refl, ap, sym, subst, ◌∙◌, arith}
use Rattle.std.specs.List.{filter, list_all}
use Rattle.std.proofs.lemmas.Bool.{and_from, and_parts}
use Rattle.std.proofs.lemmas.List.Elements.{All-head, All-tail}
use Rattle.std.proofs.lemmas.List.Filters.{length-filter_both}
use Rattle.std.specs.BTreeMap.{is_at}
use Rattle.siri_records.specs.declared.item.Item.{Item}
use Rattle.siri_records.specs.declared.key.Key.{Key}
use Rattle.siri_records.specs.Ends.{is_dead}
use Rattle.siri_records.specs.Keys.{key_of}
use Rattle.siri_records.specs.Order.{key_cmp}
use Rattle.siri_records.specs.Keyed.{Items, living, InOrder, most_live}
use Rattle.siri_records.proofs.Kept.{sorted_kept}
use Rattle.siri_topic.specs.declared.topics.Topic.{Topic}
use Rattle.siri_topic.specs.Shown.{is_shown}
use Rattle.siri_topic.proofs.Dead.{dead_are_never_shown}
use Rattle.siri_change.specs.Views.{is_keyed, is_view}
use Rattle.siri_change.specs.Parts as part
use Rattle.siri_change.specs.Parts.{Carried}
use Rattle.siri_change.proofs.Carriage.{carried_views_lead, carried_some, carried_few}
use Rattle.siri_change.proofs.Viewed.{view_parts, view_from, view_stated, own_key, view_target}
use Rattle.siri_life.specs.Meaning.{IsLawful, apply_parts}
use Rattle.siri_model.specs.Direct.{at_most, direct_to, items_before, most_of, shown}
use Rattle.siri_model.specs.History.{History, IsKeyed, now_of, current}
use Rattle.siri_messages.specs.Asked.{AskedFor}
use Rattle.siri_model.specs.Meaning.{direct_of, meaning}
use Rattle.siri_model.proofs.Current.{current_keyed, few_live, keyed_passing}
use Rattle.siri_model.proofs.Entries.{filter_stronger, sorted_passing}
use Rattle.siri_model.proofs.InOrder.{current_in_order}

-- ---- what is shown

alive_where_shown : (topic : Topic) (item : Item) (now : ℕ) (dead : Bool) → is_dead item now ≡ dead → is_shown topic item now ≡ true → not dead ≡ true
alive_where_shown topic item now true dead shows = absurd (let hidden = dead_are_never_shown topic item now dead in cc)
alive_where_shown topic item now false dead shows = refl

-- of the live items is shown what is shown of all
pub shown_live : (now : ℕ) (items : Items) (topic : Topic) → shown now (living now items) topic ≡ shown now items topic
shown_live now items topic =
    filter_stronger (λ (e : Key × Item). not (is_dead e.1 now)) (λ (e : Key × Item). is_shown topic e.1 now)
    (λ e shows. alive_where_shown topic e.1 now (is_dead e.1 now) refl shows) items

pub shown_in_order : (now : ℕ) (items : Items) (topic : Topic) → InOrder items → InOrder (shown now items topic)
shown_in_order now items topic s = sorted_passing key_cmp (λ item. is_shown topic item now) items s

few_passing : {X : Type 0} (p : X → Bool) (xs : List X) → length (filter p xs) ≤ length xs
few_passing p xs = omega (arith, length-filter_both p (λ x. not (p x)) (λ x. refl) xs)

few_shown : (h : History) (topic : Topic) → length (shown (now_of h) (current h) topic) ≤ most_live
few_shown h topic =
    let now = now_of h in
    let few = few_passing (λ (e : Key × Item). is_shown topic e.1 now) (living now (current h)) in
    subst (λ (items : Items). length items ≤ most_live) (shown_live now (current h) topic) (omega (arith, few, few_live h))

keyed_test : (items : Items) → IsKeyed items → is_keyed items ≡ true
keyed_test [] k = refl
keyed_test (e ∷ items) k =
    let own = All-head (λ (e : Key × Item). e.0 ≡ key_of e.1) e items k in
    and_from (is_at (key_cmp (key_of e.1)) e.0) (is_keyed items)
    (subst (λ key. is_at (key_cmp (key_of e.1)) key ≡ true) (sym own) (own_key e.1))
    (keyed_test items (All-tail (λ (e : Key × Item). e.0 ≡ key_of e.1) e items k))

-- what is shown is a view
shown_view : (h : History) (topic : Topic) → is_view (shown (now_of h) (current h) topic) ≡ true
shown_view h topic =
    let keyed = keyed_passing (λ (item : Item). is_shown topic item (now_of h)) (current h) (current_keyed h) in
    (view_stated (shown (now_of h) (current h) topic)).1 (
      shown_in_order (now_of h) (current h) topic (current_in_order h),
      keyed_test (shown (now_of h) (current h) topic) keyed,
      few_shown h topic,
    )

-- ---- the first so many of what is shown

all_case : (p q : Key × Item → Bool) (e : Key × Item) (es : Items) (b : Bool) → p e ≡ b
    → (q e && list_all q es) ≡ true → list_all q (filter p es) ≡ true → list_all q (filter p (e ∷ es)) ≡ true
all_case p q e es true is all rest =
    rw is (and_from (q e) (list_all q (filter p es)) (and_parts (q e) (list_all q es) all).0 rest)
all_case p q e es false is all rest = rw is rest

-- what holds of all holds of those that pass
all_passing : (p q : Key × Item → Bool) (es : Items) → list_all q es ≡ true → list_all q (filter p es) ≡ true
all_passing p q [] all = refl
all_passing p q (e ∷ es) all =
    all_case p q e es (p e) refl all (all_passing p q es (and_parts (q e) (list_all q es) all).1)

-- whatever of a view passes a test, of keys and items together, is a view
view_passing : (p : Key × Item → Bool) (es : Items) → is_view es ≡ true → is_view (filter p es) ≡ true
view_passing p es viewed =
    let v = view_parts es viewed in
    view_from (filter p es) (record {
      ordered = sorted_kept p key_cmp es v.ordered;
      keyed = all_passing p (λ e. is_at (key_cmp (key_of e.1)) e.0) es v.keyed;
      small = omega (arith, few_passing p es, v.small);
    })

limited_view : (most : Option ℕ) (es : Items) → is_view es ≡ true → is_view (at_most most es) ≡ true
limited_view None es viewed = viewed
limited_view (Some most) es viewed = view_passing (λ (e : Key × Item). nat_lt (items_before es e) most) es viewed

limited_in_order : (most : Option ℕ) (es : Items) → InOrder es → InOrder (at_most most es)
limited_in_order None es s = s
limited_in_order (Some most) es s = sorted_kept (λ (e : Key × Item). nat_lt (items_before es e) most) key_cmp es s

-- ---- direct responses

-- the direct response by the live items is that by all
pub direct_live : (now : ℕ) (items : Items) (topic : Topic) → direct_to now (living now items) topic ≡ direct_to now items topic
direct_live now items topic = ap (at_most (most_of topic)) (shown_live now items topic)

pub direct_in_order : (now : ℕ) (items : Items) (topic : Topic) → InOrder items → InOrder (direct_to now items topic)
direct_in_order now items topic s = limited_in_order (most_of topic) (shown now items topic) (shown_in_order now items topic s)

-- of a topic without MaximumStopVisits it is all that is shown
pub unlimited : (now : ℕ) (items : Items) (topic : Topic) → most_of topic ≡ None → direct_to now items topic ≡ shown now items topic
unlimited now items topic none = ap (λ most. at_most most (shown now items topic)) none

-- a direct response is a view
pub direct_view : (h : History) (wanted : AskedFor) → is_view (direct_of h wanted) ≡ true
direct_view h wanted =
    let topic = wanted.subscription.topic in
    limited_view (most_of topic) (shown (now_of h) (current h) topic) (shown_view h topic)

-- ---- the laws

-- parts one after the other, in the words of lives and in those of changes
pub parts_apply : (view : Items) (parts : List Carried) → apply_parts meaning view parts ≡ part.apply_carried view parts
parts_apply view [] = refl
parts_apply view (p ∷ parts) = parts_apply (meaning.apply view p) parts

pub meaning_lawful : IsLawful meaning
meaning_lawful = record {
  parts_lead_to_the_target = λ a t w viewed leads. parts_apply (part.base_view a w.subscription.incremental)
      (meaning.load a t w) ∙ carried_views_lead a t w.subscription.incremental viewed leads;
  some_part = λ a t w. carried_some a t w.subscription.incremental;
  few_parts = λ a t w viewed leads. carried_few a t w.subscription.incremental viewed leads;
  empty_is_view = refl;
  target_is_view = λ a h w viewed. view_target w.subscription.slack w.subscription.incremental a (direct_of h w) viewed (direct_view h w);
}
