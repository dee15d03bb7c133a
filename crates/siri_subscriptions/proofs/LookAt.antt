-- What is found of the keys that may have changed since a look.
use Rattle.std.proofs.Common.{◌≡◌, ℕ, ◌+◌, ◌≤◌, Bool, true, false, List, [], ◌∷◌, filter, fold, length, map, Option, Some, None, is_some, refl, ap, sym, subst, ◌∙◌, arith}
use Rattle.std.specs.Prelude.{◌==◌, if◌then◌else◌}
use Rattle.std.specs.Map.{keys_of}
use Rattle.siri_records.specs.declared.key.Key.{Key}
use Rattle.siri_records.specs.Keyed.{Items, InOrder, KeyChange, item_of}
use Rattle.siri_records.specs.KeyLists.{KeysInOrder, with_keys}
use Rattle.siri_records.proofs.KeyLists.{order_in_order}
use Rattle.siri_topic.specs.declared.topics.Topic.{Topic}
use Rattle.siri_topic.specs.Crossed.{is_crossed}
use Rattle.siri_store.specs.Candidates.{candidates, may_be_shown}
use Rattle.siri_store.specs.Marked.{is_since, keys_since}
use Rattle.siri_model.specs.Direct.{direct_to, most_of}
use Rattle.siri_model.specs.Followed.{asked_since, bound_since, complete_set, first_visits, items_passed}
use Rattle.siri_model.specs.Looks.{crossed_items, found_of}
use Rattle.siri_model.specs.Rows.{KeptLife}
use Rattle.siri_responder.specs.Known.{Known}
use Rattle.siri_subs.specs.declared.entry.Row.{Row}
use Rattle.siri_subscriptions.specs.declared.course.Looked.{Looked}
use Rattle.siri_subscriptions.specs.Again.{crossed_since, keys_looked_at, touched_keys, with_held}
use Rattle.siri_subscriptions.specs.Looked.{look_of}
use Rattle.siri_subscriptions.proofs.ByKeys.{keys_found}
use Rattle.siri_subscriptions.proofs.Merged.{found_merged, passing_held, some_held}

module _ (start known : Known) (same : known ≡ record start { reads = known.reads }) (topic : Topic)
    (looked : Looked) where
  still : (list : List KeyChange) → list ≡ found_of start.held (keys_looked_at start topic looked)
      → list ≡ found_of known.held (keys_looked_at known topic looked)
  still list is = subst (λ (k : Known). list ≡ found_of k.held (keys_looked_at k topic looked)) (sym same) is

  module _ (found : List KeyChange) (is : found ≡ found_of start.held (touched_keys start topic looked))
      (crossed : Items) (are : crossed ≡ crossed_since start topic looked) where
    pub both : InOrder start.held → (list : List KeyChange) → list ≡ fold with_held found crossed
        → list ≡ found_of known.held (keys_looked_at known topic looked)
    both ordered list merged =
        still list (merged ∙ ((λ i. fold with_held (is i) (are i))
        ∙ found_merged start.held (crossed_since start topic looked) (touched_keys start topic looked)
        (some_held start.held (λ entry. may_be_shown topic entry.0) (crossed_items topic looked.moment start.moment start.held)
        (passing_held (λ entry. is_crossed topic looked.moment start.moment entry.1) start.held ordered))))

    -- where nothing was crossed, what was touched is all
    pub none_merged : length crossed ≡ 0 → found ≡ found_of known.held (keys_looked_at known topic looked)
    none_merged none =
        still found (is ∙ ap (λ (items : Items). found_of start.held (with_keys (touched_keys start topic looked) (keys_of items)))
        (sym (sym are ∙ empty crossed none)))
      where
        empty : (items : Items) → length items ≡ 0 → items ≡ []
        empty [] h = refl
        empty (e ∷ items) h = absurd (omega (arith, h))

  -- what was touched and crossed, by what is known once it was found
  pub touched_still : (found : List KeyChange) → found ≡ found_of start.held (touched_keys start topic looked)
      → found ≡ found_of known.held (touched_keys known topic looked)
  touched_still found is = subst (λ (k : Known). found ≡ found_of k.held (touched_keys k topic looked)) (sym same) is

  pub crossed_still : (crossed : Items) → crossed ≡ crossed_since start topic looked → crossed ≡ crossed_since known topic looked
  crossed_still crossed are = subst (λ (k : Known). crossed ≡ crossed_since k topic looked) (sym same) are

-- ---- of what was touched, what may be shown

found_case : (topic : Topic) (items : Items) (k : Key) (keys : List Key) (b : Bool) → may_be_shown topic k ≡ b
    → filter (λ (change : KeyChange). may_be_shown topic change.0) (found_of items keys) ≡ found_of items (filter (may_be_shown topic) keys)
    → filter (λ (change : KeyChange). may_be_shown topic change.0) (found_of items (k ∷ keys)) ≡ found_of items (filter (may_be_shown topic) (k ∷ keys))
found_case topic items k keys true is rest = rw is (ap (λ l. (k, item_of items k) ∷ l) rest)
found_case topic items k keys false is rest = rw is rest

pub found_asked : (topic : Topic) (items : Items) (keys : List Key)
    → filter (λ (change : KeyChange). may_be_shown topic change.0) (found_of items keys) ≡ found_of items (filter (may_be_shown topic) keys)
found_asked topic items [] = refl
found_asked topic items (k ∷ keys) = found_case topic items k keys (may_be_shown topic k) refl (found_asked topic items keys)

-- what was found is in order of key
pub found_in_order : (known : Known) (number : ℕ) (found : List KeyChange)
    → found ≡ found_of known.held (keys_since known.marks.log number) → InOrder found
found_in_order known number found is =
    subst KeysInOrder (sym (ap keys_of is ∙ keys_found known.held (keys_since known.marks.log number)))
    (order_in_order (map (λ mark. mark.1) (filter (is_since number) known.marks.log)))

-- a topic has MaximumStopVisits, or none
pub no_limit : (most : Option ℕ) → is_some most ≡ false → most ≡ None
no_limit None none = refl
no_limit (Some most) none = absurd (cc none)

-- ---- how many items are looked at

sum_of : (after crossed found before touched passed complete first : ℕ) → after ≤ crossed + first → crossed ≤ found + passed
    → found ≤ before + touched → after ≤ before + (touched + passed + complete + first)
sum_of after crossed found before touched passed complete first a b c = omega (arith, a, b, c)

sum_with : (after crossed found before touched passed complete first : ℕ) → after ≤ crossed + complete → crossed ≤ found + passed
    → found ≤ before + touched → after ≤ before + (touched + passed + complete + first)
sum_with after crossed found before touched passed complete first a b c = omega (arith, a, b, c)

-- what was touched since a look is found first, and then what crossed since then
module _ (start found known : Known) (found_is : found ≡ record start { reads = found.reads })
    (known_is : known ≡ record start { reads = known.reads }) (row : Row KeptLife) (looked : Looked)
    (touches : found.reads ≤ start.reads + length (keys_since start.marks.log looked.number))
    (passes : known.reads ≤ found.reads + items_passed row.wanted.topic (candidates row.wanted.topic found.held) looked.moment found.moment) where
  abbrev topic : Topic
  topic = row.wanted.topic

  abbrev since : Known → ℕ
  since k = asked_since k.moment k.held topic (look_of k.marks looked)

  abbrev visits : Known → ℕ
  visits k = if since k == 0 then 0 else first_visits k.moment (candidates topic k.held) topic (most_of topic)

  abbrev most : ℕ
  most = start.reads + bound_since start.moment start.held row (Some (look_of start.marks looked))

  pub visits_within : (after : ℕ) → after ≤ known.reads + visits known → after ≤ most
  visits_within after within =
      sum_of after known.reads found.reads start.reads (length (keys_since start.marks.log looked.number))
      (items_passed topic (candidates topic start.held) looked.moment start.moment)
      (complete_set row (direct_to start.moment start.held topic)) (visits start)
      (subst (λ (k : Known). after ≤ k.reads + visits k) known_is within)
      (subst (λ (k : Known). known.reads ≤ k.reads + items_passed topic (candidates topic k.held) looked.moment k.moment) found_is passes) touches

  pub complete_within : (after : ℕ) → after ≤ known.reads + complete_set row (direct_to known.moment known.held topic) → after ≤ most
  complete_within after within =
      sum_with after known.reads found.reads start.reads (length (keys_since start.marks.log looked.number))
      (items_passed topic (candidates topic start.held) looked.moment start.moment)
      (complete_set row (direct_to start.moment start.held topic)) (visits start)
      (subst (λ (k : Known). after ≤ k.reads + complete_set row (direct_to k.moment k.held topic)) known_is within)
      (subst (λ (k : Known). known.reads ≤ k.reads + items_passed topic (candidates topic k.held) looked.moment k.moment) found_is passes) touches

  pub passed_within : known.reads ≤ most
  passed_within =
      sum_of known.reads known.reads found.reads start.reads (length (keys_since start.marks.log looked.number))
      (items_passed topic (candidates topic start.held) looked.moment start.moment)
      (complete_set row (direct_to start.moment start.held topic)) (visits start) (omega arith)
      (subst (λ (k : Known). known.reads ≤ k.reads + items_passed topic (candidates topic k.held) looked.moment k.moment) found_is passes) touches
