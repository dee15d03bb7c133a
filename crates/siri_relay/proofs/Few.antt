-- What a view has of some keys, and the changes at them.
use Rattle.std.proofs.Common.{◌≡◌, inl, inr, List, [], ◌∷◌, length, filter, Bool, true, false, not, ◌&&◌, ◌||◌, cond, Option, Some, None, refl, ap, sym, ◌∙◌}
use Rattle.std.specs.Option.{option_eq}
use Rattle.siri_records.specs.declared.item.Item.{Item}
use Rattle.siri_records.specs.declared.key.Key.{Key}
use Rattle.siri_records.specs.KeyLists.{is_among}
use Rattle.siri_records.specs.Keyed.{Items, InOrder, after_change, apply, item_of}
use Rattle.siri_records.proofs.KeyLists.{among_passing, order_passing, same_keys}
use Rattle.siri_change.specs.Same.{is_same}
use Rattle.siri_change.specs.Changes.{agree_on, changes, keys_of_both}
use Rattle.siri_change.proofs.Leads.{agree_none, held_after, none_of_both, one_key, order_after, order_applied, same_views, tied}
use Rattle.siri_change.proofs.Levels.{order_both}
use Rattle.siri_change.proofs.SameItems.{same_itself}
use Rattle.siri_model.proofs.InOrder.{none_in_order}
use Rattle.siri_relay.specs.Named.{IsRound, changes_to, items_at}

pub none_in : {A : Type 0} (list : List A) → length list ≡ 0 → list ≡ []
none_in [] none = refl
none_in (x ∷ list) none = absurd (cc none)

-- ---- a view at some keys

one_more : (view : Items) (k q : Key) (m : Option Item) (b d : Bool) → tied q k ≡ b
    → cond d (item_of view q) (cond b (item_of view k) m) ≡ cond (b || d) (item_of view q) m
one_more view k q m true true tie = refl
one_more view k q m true false tie = ap (item_of view) (sym (one_key q k tie))
one_more view k q m false true tie = refl
one_more view k q m false false tie = refl

held_onto : (keys : List Key) (view a : Items) (q : Key) → InOrder a
    → item_of (apply a (changes_to keys view)) q ≡ cond (is_among q keys) (item_of view q) (item_of a q)
held_onto [] view a q s = refl
held_onto (k ∷ keys) view a q s =
    held_onto keys view (after_change a (k, item_of view k)) q (order_after a (k, item_of view k) s)
    ∙ (ap (λ m. cond (is_among q keys) (item_of view q) m) (held_after a (k, item_of view k) q s)
    ∙ one_more view k q (item_of a q) (tied q k) (is_among q keys) refl)

held_at : (keys : List Key) (view : Items) (q : Key) → item_of (items_at keys view) q ≡ cond (is_among q keys) (item_of view q) None
held_at keys view q = held_onto keys view [] q none_in_order

order_at : (keys : List Key) (view : Items) → InOrder (items_at keys view)
order_at keys view = order_applied [] (changes_to keys view) none_in_order

all_or_none : (b : Bool) (x : Option Item) → (b ≡ false → x ≡ None) → cond b x None ≡ x
all_or_none true x none = refl
all_or_none false x none = sym (none refl)

-- at these keys a view that has no others is whole
at_all : (keys : List Key) (view : Items) → InOrder view → ((key : Key) → is_among key keys ≡ false → item_of view key ≡ None)
    → items_at keys view ≡ view
at_all keys view s none =
    same_views (items_at keys view) view (order_at keys view) s
    (λ q. held_at keys view q ∙ all_or_none (is_among q keys) (item_of view q) (none q))

-- ---- the changes there

-- two views have the same of all other keys
abbrev SameBut : List Key → Items → Items → Type 0
SameBut keys before after = (key : Key) → is_among key keys ≡ false → item_of after key ≡ item_of before key

abbrev differs : Items → Items → Key → Bool
differs before after key = not (agree_on is_same before after key)

same_option : (x : Option Item) → option_eq is_same x x ≡ true
same_option None = refl
same_option (Some i) = same_itself i

test_at : (b : Bool) (x y : Option Item) → (b ≡ false → y ≡ x)
    → not (option_eq is_same (cond b x None) (cond b y None)) ≡ not (option_eq is_same x y)
test_at true x y same = refl
test_at false x y same = ap not (sym (ap (option_eq is_same x) (same refl) ∙ same_option x))

differs_at : (keys : List Key) (before after : Items) (q : Key) → SameBut keys before after
    → differs (items_at keys before) (items_at keys after) q ≡ differs before after q
differs_at keys before after q same =
    (λ i. not (option_eq is_same (held_at keys before q i) (held_at keys after q i)))
    ∙ test_at (is_among q keys) (item_of before q) (item_of after q) (same q)

-- a key that differs is one of either
of_both : (a b : Items) (q : Key) (r d : Bool) → agree_on is_same a b q ≡ r → is_among q (keys_of_both a b) ≡ d → (d && not r) ≡ not r
of_both a b q true true h m = refl
of_both a b q true false h m = refl
of_both a b q false true h m = refl
of_both a b q false false h m = let n = none_of_both a b q m in absurd (cc (sym h ∙ agree_none is_same a b q n.0 n.1))

among_differing : (a b : Items) (q : Key) → is_among q (filter (differs a b) (keys_of_both a b)) ≡ differs a b q
among_differing a b q =
    among_passing (differs a b) q (keys_of_both a b)
    ∙ of_both a b q (agree_on is_same a b q) (is_among q (keys_of_both a b)) refl refl

same_differing : (keys : List Key) (before after : Items) → InOrder before → SameBut keys before after
    → filter (differs (items_at keys before) (items_at keys after)) (keys_of_both (items_at keys before) (items_at keys after))
    ≡ filter (differs before after) (keys_of_both before after)
same_differing keys before after s same =
    let old = items_at keys before in
    let new = items_at keys after in
    same_keys (filter (differs old new) (keys_of_both old new)) (filter (differs before after) (keys_of_both before after))
    (order_passing (differs old new) (keys_of_both old new) (order_both old new (order_at keys before)))
    (order_passing (differs before after) (keys_of_both before after) (order_both before after s))
    (λ q. among_differing old new q ∙ (differs_at keys before after q same ∙ sym (among_differing before after q)))

-- of a key that differs the second view has the same there
value_at : (keys : List Key) (before after : Items) (k : Key) → agree_on is_same before after k ≡ false → SameBut keys before after
    → item_of (items_at keys after) k ≡ item_of after k
value_at keys before after k apart same = held_at keys after k ∙ by (is_among k keys) refl
  where
    by : (b : Bool) → is_among k keys ≡ b → cond b (item_of after k) None ≡ item_of after k
    by true there = refl
    by false out =
        absurd (cc (sym apart ∙ (ap (option_eq is_same (item_of before k)) (same k out) ∙ same_option (item_of before k))))

values_case : (keys : List Key) (before after : Items) (k : Key) (ks : List Key) (b : Bool) → agree_on is_same before after k ≡ b
    → SameBut keys before after
    → changes_to (filter (differs before after) ks) (items_at keys after) ≡ changes_to (filter (differs before after) ks) after
    → changes_to (filter (differs before after) (k ∷ ks)) (items_at keys after) ≡ changes_to (filter (differs before after) (k ∷ ks)) after
values_case keys before after k ks true h same rest = rw h rest
values_case keys before after k ks false h same rest = rw h (λ i. (k, value_at keys before after k h same i) ∷ rest i)

values_at : (keys : List Key) (before after : Items) (ks : List Key) → SameBut keys before after
    → changes_to (filter (differs before after) ks) (items_at keys after) ≡ changes_to (filter (differs before after) ks) after
values_at keys before after [] same = refl
values_at keys before after (k ∷ ks) same =
    values_case keys before after k ks (agree_on is_same before after k) refl same (values_at keys before after ks same)

-- views that are the same but at some keys differ by the changes at these
changes_there : (keys : List Key) (before after : Items) → InOrder before → SameBut keys before after
    → changes (items_at keys before) (items_at keys after) ≡ changes before after
changes_there keys before after s same =
    ap (λ ks. changes_to ks (items_at keys after)) (same_differing keys before after s same)
    ∙ values_at keys before after (keys_of_both before after) same

-- the changes of a round by which a view has more keys than those that it names
pub round_changes : (keys : List Key) (before after : Items) → InOrder before → InOrder after → IsRound keys before after
    → (length (items_at keys after) ≡ length after → ⊥) → changes (items_at keys before) (items_at keys after) ≡ changes before after
round_changes keys before after s r (inl same) more = changes_there keys before after s same
round_changes keys before after s r (inr none) more = absurd (more (ap length (at_all keys after r none)))
