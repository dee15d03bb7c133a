-- What a relay's subscribers see of its view, and of its source.
use Rattle.std.proofs.Common.{◌≡◌, ℕ, ◌+◌, pos, List, [], ◌∷◌, filter, Bool, true, false, not, is_some, Option, Some, None, refl, ap, sym, ◌∙◌, subst, arith}
use Rattle.std.specs.Prelude.{if◌then◌else◌, nat_lt, length, ◌==◌}
use Rattle.std.specs.List.Sorted.{IsStrictlySortedBy}
use Rattle.std.proofs.lemmas.Bool.{and_parts}
use Rattle.siri_records.specs.declared.item.Item.{Item}
use Rattle.siri_records.specs.declared.key.Key.{Key}
use Rattle.siri_records.specs.Keyed.{Items, InOrder, item_of, living}
use Rattle.siri_records.specs.Near.{is_near}
use Rattle.siri_records.proofs.NearLaws.{near_joins}
use Rattle.siri_topic.specs.Shown.{is_shown}
use Rattle.siri_topic.specs.declared.topics.Topic.{Topic}
use Rattle.siri_change.specs.Changes.{Meets, meets}
use Rattle.siri_change.specs.Parts.{Carried}
use Rattle.siri_change.proofs.Leads.{meets_stated, tied, one_key}
use Rattle.siri_change.proofs.Walks.{Above, none_below}
use Rattle.siri_messages.specs.Asked.{AskedFor}
use Rattle.siri_life.specs.Life.{Outstanding, is_quiet, quiet_at}
use Rattle.siri_model.specs.Direct.{at_most, direct_to, items_before, most_of, shown}
use Rattle.siri_model.specs.History.{History, current, now_of}
use Rattle.siri_model.specs.Lives.{Living, is_settled, life_of, number_if_quiet, quiet_number}
use Rattle.siri_model.specs.Meaning.{direct_of, meaning}
use Rattle.siri_model.proofs.Lawful.{direct_live, shown_in_order}
use Rattle.siri_model.proofs.InOrder.{current_in_order}
use Rattle.siri_relay.specs.Nearness.{IsNearSource, ShowsView}

-- ---- a level relay

-- the direct response over a view is the one over what is live
over_view : (h : History) (view : Items) (topic : Topic) → living (now_of h) (current h) ≡ living (now_of h) view
    → direct_to (now_of h) (current h) topic ≡ direct_to (now_of h) view topic
over_view h view topic same =
    sym (direct_live (now_of h) (current h) topic) ∙ (ap (λ l. direct_to (now_of h) l topic) same ∙ direct_live (now_of h) view topic)

-- what a number that is told as quiet says of the life
shows_if : (h : History) (view : Items) (subscriber identifier : List ℕ) (number : ℕ) (living' : Option Living)
    → life_of subscriber identifier h ≡ living' → living (now_of h) (current h) ≡ living (now_of h) view
    → number_if_quiet h living' ≡ Some number → ShowsView h subscriber identifier number view
shows_if h view subscriber identifier number None held same quiet = absurd (cc quiet)
shows_if h view subscriber identifier number (Some l) held same quiet =
    by (is_quiet meaning l (direct_of h l.wanted)) refl quiet
  where
    met : (o : Option (Outstanding Items Carried)) → quiet_at meaning o l (direct_of h l.wanted) ≡ true
        → meets l.wanted.subscription.slack l.acknowledged (direct_of h l.wanted) ≡ true
    met None e = (and_parts (not (length l.rounds == 0)) (meets l.wanted.subscription.slack l.acknowledged (direct_of h l.wanted)) e).1
    met (Some o) e = absurd (cc e)

    by : (b : Bool) → is_quiet meaning l (direct_of h l.wanted) ≡ b → (if b then Some l.number else None) ≡ Some number
        → ShowsView h subscriber identifier number view
    by false e is = absurd (cc is)
    by true e is = record {
      life = l;
      held = held;
      numbered = cc is;
      meets = subst (Meets l.wanted.subscription.slack l.acknowledged) (over_view h view l.wanted.subscription.topic same)
          ((meets_stated l.wanted.subscription.slack l.acknowledged (direct_of h l.wanted)).0 (met l.outstanding e));
    }

shows_settled : (h : History) (view : Items) (subscriber identifier : List ℕ) (number : ℕ) (b : Bool)
    → living (now_of h) (current h) ≡ living (now_of h) view
    → (if b then number_if_quiet h (life_of subscriber identifier h) else None) ≡ Some number → ShowsView h subscriber identifier number view
shows_settled h view subscriber identifier number false same quiet = absurd (cc quiet)
shows_settled h view subscriber identifier number true same quiet =
    shows_if h view subscriber identifier number (life_of subscriber identifier h) refl same quiet

pub shows_view : (h : History) (view : Items) (subscriber identifier : List ℕ) (number : ℕ)
    → living (now_of h) (current h) ≡ living (now_of h) view → quiet_number h subscriber identifier ≡ Some number
    → ShowsView h subscriber identifier number view
shows_view h view subscriber identifier number same quiet = shows_settled h view subscriber identifier number (is_settled h) same quiet

-- ---- the source

-- what is found among items that pass a test is found among all of them
found_case : (p : Key × Item → Bool) (e : Key × Item) (items : Items) (q : Key) (i : Item) (b t : Bool) → p e ≡ b → tied q e.0 ≡ t
    → Above e.0 items → (item_of (filter p items) q ≡ Some i → item_of items q ≡ Some i)
    → item_of (filter p (e ∷ items)) q ≡ Some i → item_of (e ∷ items) q ≡ Some i
found_case p e items q i true true h tie above rest is =
    let here : item_of (filter p (e ∷ items)) q ≡ Some e.1 = rw h (rw tie refl) in
    let there : item_of (e ∷ items) q ≡ Some e.1 = rw tie refl in
    there ∙ (sym here ∙ is)
found_case p e items q i true false h tie above rest is =
    let here : item_of (filter p (e ∷ items)) q ≡ item_of (filter p items) q = rw h (rw tie refl) in
    let there : item_of (e ∷ items) q ≡ item_of items q = rw tie refl in
    there ∙ rest (sym here ∙ is)
found_case p e items q i false true h tie above rest is =
    let here : item_of (filter p (e ∷ items)) q ≡ item_of (filter p items) q = rw h refl in
    let none : item_of items q ≡ None = ap (item_of items) (one_key q e.0 tie) ∙ none_below e.0 items above in
    absurd (cc (sym none ∙ rest (sym here ∙ is)))
found_case p e items q i false false h tie above rest is =
    let here : item_of (filter p (e ∷ items)) q ≡ item_of (filter p items) q = rw h refl in
    let there : item_of (e ∷ items) q ≡ item_of items q = rw tie refl in
    there ∙ rest (sym here ∙ is)

found_passing : (p : Key × Item → Bool) (items : Items) (q : Key) (i : Item) → InOrder items → item_of (filter p items) q ≡ Some i → item_of items q ≡ Some i
unfolding IsStrictlySortedBy
found_passing p [] q i s is = is
found_passing p (e ∷ items) q i s is =
    found_case p e items q i (p e) (tied q e.0) refl refl s.0 (found_passing p items q i s.1) is

found_most : (most : Option ℕ) (items : Items) (q : Key) (i : Item) → InOrder items → item_of (at_most most items) q ≡ Some i → item_of items q ≡ Some i
found_most None items q i s is = is
found_most (Some most) items q i s is = found_passing (λ entry. nat_lt (items_before items entry) most) items q i s is

-- what a direct response has of a key is what is current of it
found_direct : (now : ℕ) (items : Items) (topic : Topic) (q : Key) (i : Item) → InOrder items → item_of (direct_to now items topic) q ≡ Some i → item_of items q ≡ Some i
found_direct now items topic q i s is =
    found_passing (λ entry. is_shown topic entry.1 now) items q i s
    (found_most (most_of topic) (shown now items topic) q i (shown_in_order now items topic s) is)

some_item : (x : Option Item) → is_some x ≡ true → (i : Item) × (x ≡ Some i)
some_item None h = absurd (cc h)
some_item (Some i) h = (i, refl)

pub near_source : (p q : ℕ) (source : History) (asked : AskedFor) (view acknowledged : Items) (now : ℕ) (topic : Topic) → InOrder view
    → Meets (pos p) view (direct_of source asked) → Meets (pos q) acknowledged (direct_to now view topic)
    → IsNearSource (p + q) acknowledged source
near_source p q source asked view acknowledged now topic order up down key i is =
    let mid = some_item (item_of (direct_to now view topic) key) (sym (down.keys key) ∙ ap is_some is) in
    let own = found_direct now view topic key mid.0 order mid.1 in
    let far = some_item (item_of (direct_of source asked) key) (sym (up.keys key) ∙ ap is_some own) in
    let near = near_joins q p i mid.0 far.0 (down.near key i mid.0 is mid.1) (up.near key mid.0 far.0 own far.1) in
    let sum : q + p ≡ p + q = omega arith in (
      far.0,
      found_direct (now_of source) (current source) asked.subscription.topic key far.0 (current_in_order source) far.1,
      subst (λ n. is_near (pos n) i far.0 ≡ true) sum near,
    )
