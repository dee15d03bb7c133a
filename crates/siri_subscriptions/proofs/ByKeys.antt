-- What a look finds that isn't the first, by the keys that may have changed.
use Rattle.std.proofs.Common.{◌≡◌, ℕ, List, [], ◌∷◌, ◌++◌, map, filter, length, nat_eq}
use Rattle.std.proofs.Common.{Bool, true, false, not, ◌&&◌, ◌||◌, Option, Some, None, refl, ap, sym, ◌∙◌}
use Rattle.std.proofs.Common.{subst}
use Rattle.std.specs.Option.{option_eq}
use Rattle.std.specs.Map.{keys_of}
use Rattle.siri_records.specs.declared.item.Item.{Item}
use Rattle.siri_records.specs.declared.key.Key.{Key}
use Rattle.siri_records.specs.Near.{is_near}
use Rattle.siri_records.specs.Keyed.{Items, InOrder, KeyChange, item_of}
use Rattle.siri_records.specs.KeyLists.{is_among, KeysInOrder, in_order}
use Rattle.siri_records.proofs.ItemsPassing.{kept_if, item_kept, none_out}
use Rattle.siri_records.proofs.KeyLists.{among_passing, among_with, order_passing, order_with, order_in_order}
use Rattle.siri_topic.specs.declared.topics.Topic.{Topic}
use Rattle.siri_topic.specs.Crossed.{is_crossed}
use Rattle.siri_change.specs.Changes.{agree_on, meets}
use Rattle.siri_change.specs.Looks.{AgreeOutside, changes_among}
use Rattle.siri_store.specs.Candidates.{candidates, may_be_shown}
use Rattle.siri_store.specs.Marked.{is_since, keys_since}
use Rattle.siri_subs.specs.declared.entry.Row.{Row}
use Rattle.siri_model.specs.Direct.{direct_to, most_of}
use Rattle.siri_model.proofs.Lawful.{unlimited}
use Rattle.siri_model.specs.Facts.{IsAsThen}
use Rattle.siri_model.specs.Followed.{goal_of, keys_apart}
use Rattle.siri_model.specs.Looks.{crossed_items, found_of, changes_found}
use Rattle.siri_responder.specs.Known.{Known}
use Rattle.siri_subscriptions.specs.declared.course.Course.{Course}
use Rattle.siri_subscriptions.specs.declared.course.Looked.{Looked}
use Rattle.siri_subscriptions.specs.Again.{AreLive, crossed_since, is_other, keys_looked_at, touched_keys}
use Rattle.siri_subscriptions.specs.Courses.{kept}
use Rattle.siri_subscriptions.specs.Looked.{FollowsLook, look_of}
use Rattle.siri_model.proofs.Apart.{looks_tell_apart}
use Rattle.siri_model.proofs.Outside.{same_by_key, found_tell}
use Rattle.siri_model.specs.laws.Apart.{AgreeElsewhere, TellApart, still_apart}

-- ---- lists of keys

or_none : (a b : Bool) → (a || b) ≡ false → (a ≡ false) × (b ≡ false)
or_none false b h = (refl, h)
or_none true b h = absurd (cc h)

pub keys_found : (items : Items) (keys : List Key) → keys_of (found_of items keys) ≡ keys
keys_found items [] = refl
keys_found items (k ∷ keys) = ap (λ ks. k ∷ ks) (keys_found items keys)

-- ---- the keys that aren't looked at

-- none that is held of a key outside those of crossed items is crossed
pub uncrossed_by : (topic : Topic) (before now : ℕ) (held : Option Item)
    → kept_if (λ i. is_crossed topic before now i) held ≡ None
    → (i : Item) → held ≡ Some i → is_crossed topic before now i ≡ false
uncrossed_by topic before now None none i is = absurd (cc is)
uncrossed_by topic before now (Some j) none i is = by (is_crossed topic before now j) refl
  where
    same : j ≡ i
    same = cc is

    by : (b : Bool) → is_crossed topic before now j ≡ b → is_crossed topic before now i ≡ false
    by true h = absurd (cc (rw h at none))
    by false h = ap (is_crossed topic before now) (sym same) ∙ h

-- the keys of the items that may be shown are those of all that may be of such an item
asked_case : (topic : Topic) (e : Key × Item) (items : Items) (b : Bool) → may_be_shown topic e.0 ≡ b
    → keys_of (candidates topic items) ≡ filter (may_be_shown topic) (keys_of items)
    → keys_of (candidates topic (e ∷ items)) ≡ filter (may_be_shown topic) (keys_of (e ∷ items))
asked_case topic e items true is rest = rw is (ap (λ ks. e.0 ∷ ks) rest)
asked_case topic e items false is rest = rw is rest

keys_asked : (topic : Topic) (items : Items) → keys_of (candidates topic items) ≡ filter (may_be_shown topic) (keys_of items)
keys_asked topic [] = refl
keys_asked topic (e ∷ items) = asked_case topic e items (may_be_shown topic e.0) refl (keys_asked topic items)

and_true : (a b : Bool) → b ≡ true → (a && b) ≡ a
and_true true b is = is
and_true false b is = refl

-- a key of an item that may be shown is among some of these where it is among all
asked_among : (topic : Topic) (key : Key) (keys : List Key) → may_be_shown topic key ≡ true
    → is_among key keys ≡ is_among key (filter (may_be_shown topic) keys)
asked_among topic key keys may =
    sym (among_passing (may_be_shown topic) key keys ∙ and_true (is_among key keys) (may_be_shown topic key) may)

-- it wasn't touched and no live item of it was crossed, where it isn't one of those that are looked at
pub as_then : (known : Known) (topic : Topic) (looked : Looked) (live : AreLive known) (key : Key)
    → is_among key (touched_keys known topic looked) ≡ false → is_among key (keys_of (crossed_since known topic looked)) ≡ false
    → may_be_shown topic key ≡ true → IsAsThen topic known.moment known.held (look_of known.marks looked) key
as_then known topic looked live key untouched uncrossed may =
    let crossed = crossed_items topic looked.moment known.moment known.held in
    let out : is_among key (keys_of crossed) ≡ false =
    asked_among topic key (keys_of crossed) may ∙ (ap (is_among key) (sym (keys_asked topic crossed)) ∙ uncrossed) in
    record {
      untouched = asked_among topic key (keys_since known.marks.log looked.number) may ∙ untouched;
      uncrossed = λ i is. (
        live.alive key i is,
        uncrossed_by topic looked.moment known.moment (item_of known.held key)
            (sym (item_kept (λ i. is_crossed topic looked.moment known.moment i) key known.held live.ordered)
            ∙ none_out crossed key out) i is,
      );
    }

module _ (known : Known) (row : Row Course) (looked : Looked) (live : AreLive known)
    (follows : FollowsLook known row looked)
    (level : row.slot.rounds.outstanding ≡ None) (limitless : most_of row.wanted.topic ≡ None) where
  abbrev view : Items
  view = row.slot.rounds.acknowledged

  abbrev topic : Topic
  topic = row.wanted.topic

  abbrev direct : Items
  direct = direct_to known.moment known.held topic

  abbrev keys : List Key
  keys = keys_looked_at known topic looked

  abbrev earlier : Items
  earlier = direct_to looked.moment follows.facts.then topic

  -- nothing is outstanding: the view that the consumer is led to is the acknowledged one
  goal_is : goal_of (kept row.slot).rounds ≡ view
  goal_is = rw level refl

  module _ (key : Key) (out : is_among key keys ≡ false) where
    parts : (is_among key (touched_keys known topic looked) ≡ false)
        × (is_among key (keys_of (crossed_since known topic looked)) ≡ false)
    parts =
        let touched = touched_keys known topic looked in
        let crossed = keys_of (crossed_since known topic looked) in
        or_none _ _ (sym (among_with key touched crossed) ∙ out)

    -- the same is shown of it as at the last look
    same_then : item_of direct key ≡ item_of earlier key
    same_then =
        ap (λ items. item_of items key) (unlimited known.moment known.held topic limitless)
        ∙ (same_by_key topic looked.moment known.moment follows.facts.then known.held key
        follows.facts.ordered follows.facts.keyed live.ordered live.keyed follows.facts.earlier
        (λ may. let is = as_then known topic looked live key parts.0 parts.1 may in (follows.facts.untouched key is.untouched, is.uncrossed))
        ∙ ap (λ items. item_of items key) (sym (unlimited looked.moment follows.facts.then topic limitless)))

    agree_then : agree_on (is_near row.wanted.slack) view direct key
        ≡ agree_on (is_near row.wanted.slack) (goal_of (kept row.slot).rounds) earlier key
    agree_then = λ i. option_eq (is_near row.wanted.slack) (item_of (sym goal_is i) key) (same_then i)

  -- a key that isn't looked at agrees exactly where it isn't kept apart
  elsewhere : AgreeElsewhere row.wanted.slack view direct keys looked.apart
  elsewhere key out = by (is_among key looked.apart) refl
    where
      by : (b : Bool) → is_among key looked.apart ≡ b → agree_on (is_near row.wanted.slack) view direct key ≡ not b
      by true on = agree_then key out ∙ follows.facts.differs key on
      by false off = agree_then key out ∙ follows.facts.agrees key off

  pub outside : looked.apart ≡ [] → AgreeOutside row.wanted.slack view direct keys
  outside none key out = elsewhere key out ∙ ap (λ ks. not (is_among key ks)) none

  -- ---- the keys that are kept apart after it

  -- the keys looked at on which they disagree, and those kept apart that weren't looked at
  abbrev changes : List KeyChange
  changes = changes_found row.wanted.slack view row.wanted.topic known.moment (found_of known.held keys)

  abbrev left : List Key
  left = filter (is_other (found_of known.held keys)) looked.apart

  pub changes_are : changes ≡ changes_among row.wanted.slack view direct keys
  changes_are =
      found_tell row.wanted.slack view known.held row.wanted.topic known.moment keys live.ordered
      ∙ ap (λ items. changes_among row.wanted.slack view items keys) (sym (unlimited known.moment known.held row.wanted.topic limitless))

  left_are : left ≡ still_apart keys looked.apart
  left_are = ap (λ ks. filter (λ key. not (is_among key ks)) looked.apart) (keys_found known.held keys)

  told : InOrder view → TellApart row.wanted.slack view direct keys looked.apart
  told s = looks_tell_apart row.wanted.slack view direct keys looked.apart s elsewhere

  pub apart_is : InOrder view → in_order (keys_of changes ++ left) ≡ keys_apart row.wanted.slack view direct
  apart_is s = (λ i. in_order (keys_of (changes_are i) ++ left_are i)) ∙ (told s).apart_again

  -- the view is level where there are none
  pub level_is : InOrder view → (nat_eq (length changes) 0 && nat_eq (length left) 0)
      ≡ meets row.wanted.slack view direct
  level_is s = (λ i. nat_eq (length (changes_are i)) 0 && nat_eq (length (left_are i)) 0) ∙ sym (told s).level

  -- what was found of them is in order
  pub keys_are : (found : List KeyChange) → found ≡ found_of known.held keys → keys_of found ≡ keys
  keys_are found is = ap keys_of is ∙ keys_found known.held keys

  keys_ordered : KeysInOrder keys
  keys_ordered =
      order_with (touched_keys known topic looked) (keys_of (crossed_since known topic looked))
      (order_passing (may_be_shown topic) (keys_since known.marks.log looked.number)
      (order_in_order (map (λ mark. mark.1) (filter (is_since looked.number) known.marks.log))))

  pub found_ordered : (found : List KeyChange) → found ≡ found_of known.held keys → KeysInOrder (keys_of found)
  found_ordered found is = subst KeysInOrder (sym (keys_are found is)) keys_ordered

  pub found_again : (found : List KeyChange) → found ≡ found_of known.held keys
      → found ≡ found_of known.held (keys_of found)
  found_again found is = is ∙ ap (found_of known.held) (sym (keys_are found is))
