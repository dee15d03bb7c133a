-- A view of at most 20,000 items finds room where nothing but its keys is live.
use Rattle.std.proofs.Common.{◌≡◌, ℕ, ◌+◌, ◌≤◌, ◌⊎◌, inl, inr, List, [], ◌∷◌, length, map, fold, Bool, true, false, not, ◌&&◌, cond, nat_le, is_some, ◌||◌, Option, Some, None, refl, ap}
use Rattle.std.proofs.Common.{sym, ◌∙◌, subst, arith}
use Rattle.std.specs.Prelude.{if◌then◌else◌}
use Rattle.std.specs.List.{AllByRecursion}
use Rattle.std.specs.List.Sorted.{IsStrictlySortedBy}
use Rattle.std.specs.BTreeMap.{insert_entry}
use Rattle.std.specs.Map.{keys_of}
use Rattle.std.specs.declared.cmp.Ordering.{Ordering}
use Rattle.std.specs.declared.cmp.Ordering.TheVariants.{Less, Equal, Greater}
use Rattle.std.proofs.lemmas.Bool.{lt-leb}
use Rattle.siri_records.specs.declared.item.Item.{Item}
use Rattle.siri_records.specs.declared.key.Key.{Key}
use Rattle.siri_records.specs.Ends.{is_dead}
use Rattle.siri_records.specs.Keys.{key_of}
use Rattle.siri_records.specs.Order.{key_cmp}
use Rattle.siri_records.specs.Keyed.{Items, InOrder, item_of, living, most_live}
use Rattle.siri_records.proofs.Order.{key_cmp_exact}
use Rattle.siri_records.proofs.ItemsPassing.{order_kept, item_kept, kept_if}
use Rattle.siri_model.specs.History.{Entry, Observed, Withdrawn, is_refused, is_live, after_entry}
use Rattle.siri_model.specs.Fed.{refuses}
use Rattle.siri_model.specs.Last.{entry_key, is_of, left_by}
use Rattle.siri_change.proofs.Walks.{Above, none_below, item_here, reversed, above_trans}
use Rattle.siri_change.proofs.Leads.{tied, one_key, order_with, held_with}
use Rattle.siri_model.proofs.Current.{entry_leaves}
use Rattle.siri_model.proofs.InOrder.{in_order_after}

-- ---- how many

-- each key of some items is one of others
abbrev pub Within : Items → Items → Type 0
Within a t = (q : Key) → is_some (item_of a q) ≡ true → is_some (item_of t q) ≡ true

-- an item of a key that isn't held is one more
length_put_case : (k : Key) (x : Item) (e : Key × Item) (a : Items) (o : Ordering) → key_cmp k e.0 ≡ o
    → item_of (e ∷ a) k ≡ None → (item_of a k ≡ None → length (insert_entry key_cmp a k x) ≡ length a + 1)
    → length (insert_entry key_cmp (e ∷ a) k x) ≡ length (e ∷ a) + 1
length_put_case k x e a Less o none rest = rw o (omega arith)
length_put_case k x e a Equal o none rest = let here : item_of (e ∷ a) k ≡ Some e.1 = rw o refl in absurd (cc (sym none ∙ here))
length_put_case k x e a Greater o none rest =
    let past : item_of (e ∷ a) k ≡ item_of a k = rw o refl in
    let less = rest (sym past ∙ none) in
    rw o (omega (arith, less))

length_put : (k : Key) (x : Item) (a : Items) → item_of a k ≡ None → length (insert_entry key_cmp a k x) ≡ length a + 1
length_put k x [] none = refl
length_put k x (e ∷ a) none = length_put_case k x e a (key_cmp k e.0) refl none (length_put k x a)

fewer_case : (e f : Key × Item) (a t : Items) (o : Ordering) → key_cmp e.0 f.0 ≡ o → Above e.0 a → Above f.0 t
    → Within (e ∷ a) (f ∷ t) → (Within a t → length a ≤ length t) → (Within (e ∷ a) t → length (e ∷ a) ≤ length t)
    → length (e ∷ a) ≤ length (f ∷ t)
fewer_case e f a t Less o above also within both second =
    let there = within e.0 (ap is_some (item_here e.0 e.1 a)) in
    let none = none_below e.0 (f ∷ t) (o, above_trans e.0 f.0 (keys_of t) o also) in
    absurd (cc (sym there ∙ ap is_some none))
fewer_case e f a t Equal o above also within both second =
    let less = both (λ q held. past q (tied q e.0) refl held) in omega (arith, less)
  where
    past : (q : Key) (b : Bool) → tied q e.0 ≡ b → is_some (item_of a q) ≡ true → is_some (item_of t q) ≡ true
    past q true tie held =
        let none = ap (item_of a) (one_key q e.0 tie) ∙ none_below e.0 a above in
        absurd (cc (sym held ∙ ap is_some none))
    past q false tie held =
        let here : item_of (e ∷ a) q ≡ item_of a q = rw tie refl in
        let other : tied q f.0 ≡ false = ap (tied q) (sym (key_cmp_exact e.0 f.0 o)) ∙ tie in
        let there : item_of (f ∷ t) q ≡ item_of t q = rw other refl in
        ap is_some (sym there) ∙ within q (ap is_some here ∙ held)
fewer_case e f a t Greater o above also within both second =
    let less = second (λ q held. past q (tied q f.0) refl held) in omega (arith, less)
  where
    below : key_cmp f.0 e.0 ≡ Less
    below = reversed f.0 e.0 Greater o

    past : (q : Key) (b : Bool) → tied q f.0 ≡ b → is_some (item_of (e ∷ a) q) ≡ true → is_some (item_of t q) ≡ true
    past q true tie held =
        let none = ap (item_of (e ∷ a)) (one_key q f.0 tie) ∙ none_below f.0 (e ∷ a) (below, above_trans f.0 e.0 (keys_of a) below above) in
        absurd (cc (sym held ∙ ap is_some none))
    past q false tie held =
        let there : item_of (f ∷ t) q ≡ item_of t q = rw tie refl in
        ap is_some (sym there) ∙ within q held

-- no more items than those that have their keys
fewer : (a t : Items) → InOrder a → InOrder t → Within a t → length a ≤ length t
unfolding IsStrictlySortedBy
fewer [] t s r within = omega arith
fewer (e ∷ a) [] s r within = absurd (cc (sym (within e.0 (ap is_some (item_here e.0 e.1 a)))))
fewer (e ∷ a) (f ∷ t) s r within =
    fewer_case e f a t (key_cmp e.0 f.0) refl s.0 r.0 within (fewer a t s.1 r.1) (fewer (e ∷ a) t s r.1)

-- and one less where a key of these isn't held
fewer_by_one : (a t : Items) (k : Key) (x : Item) → InOrder a → InOrder t → Within a t → item_of a k ≡ None
    → is_some (item_of t k) ≡ true → length a + 1 ≤ length t
fewer_by_one a t k x s r within none there =
    let more = length_put k x a none in
    let less = fewer (insert_entry key_cmp a k x) t (order_with k x a s) r (λ q held. put q (tied q k) refl held) in
    omega (arith, more, less)
  where
    put : (q : Key) (b : Bool) → tied q k ≡ b → is_some (item_of (insert_entry key_cmp a k x) q) ≡ true → is_some (item_of t q) ≡ true
    put q true tie held = ap (λ j. is_some (item_of t j)) (one_key q k tie) ∙ there
    put q false tie held =
        let same : item_of (insert_entry key_cmp a k x) q ≡ item_of a q = held_with k x a q ∙ rw tie refl in
        within q (ap is_some (sym same) ∙ held)

-- ---- no observation is refused

live_none : (now : ℕ) (items : Items) (k : Key) → is_live now items k ≡ false → item_of (living now items) k ≡ None
live_none now items k dead = none_some (item_of (living now items) k) dead
  where
    none_some : (x : Option Item) → is_some x ≡ false → x ≡ None
    none_some None h = refl
    none_some (Some i) h = absurd (cc h)

both_false : (d l f : Bool) → (l ≡ false → f ≡ false) → (not d && (not l && f)) ≡ false
both_false true l f rest = refl
both_false false true f rest = refl
both_false false false f rest = rest refl

alive_order : (now : ℕ) (items : Items) → InOrder items → InOrder (living now items)
alive_order now items s = order_kept (λ i. not (is_dead i now)) items s

-- what a view has of a key finds room, where nothing but the view's keys is live
has_place : (now : ℕ) (items t : Items) (i : Item) → InOrder items → InOrder t → length t ≤ most_live
    → Within (living now items) t → is_some (item_of t (key_of i)) ≡ true → is_refused now items i ≡ false
has_place now items t i s r few within there =
    both_false (is_dead i now) (is_live now items (key_of i)) (nat_le most_live (length (living now items)))
    (λ dead. let less = fewer_by_one (living now items) t (key_of i) i (alive_order now items s) r within (live_none now items (key_of i) dead) there in
    lt-leb most_live (length (living now items)) (omega (arith, less, few)))

-- ---- what entries leave

-- each entry leaves what a view has of its key
abbrev pub FitsView : Items → List Entry → Type 0
FitsView t entries = AllByRecursion (λ e. left_by e ≡ item_of t (entry_key e)) entries

-- some entry is of a key
abbrev pub names : Key → List Entry → Bool
names q [] = false
names q (e ∷ entries) = is_of q e || names q entries

-- none of the entries is refused as it comes
abbrev pub NoneRefused : ℕ → Items → List Entry → Type 0
NoneRefused now items [] = Unit {0}
NoneRefused now items (e ∷ entries) = (refuses now items e ≡ false) × NoneRefused now (after_entry now items e) entries

-- the items after entries
abbrev pub after_all : ℕ → Items → List Entry → Items
after_all now items entries = fold (after_entry now) items entries

-- an entry leaves the item of a key as it was, or as the view has it
left_case : (t items : Items) (now : ℕ) (e : Entry) (q : Key) (b r : Bool) → is_of q e ≡ b → left_by e ≡ item_of t (entry_key e)
    → ((if b then (if r then item_of items q else left_by e) else item_of items q) ≡ item_of items q)
    ⊎ ((if b then (if r then item_of items q else left_by e) else item_of items q) ≡ item_of t q)
left_case t items now e q false r h fits = inl refl
left_case t items now e q true true h fits = inl refl
left_case t items now e q true false h fits = inr (fits ∙ ap (item_of t) (sym (one_key q (entry_key e) h)))

left_one : (t items : Items) (now : ℕ) (e : Entry) (q : Key) → InOrder items → left_by e ≡ item_of t (entry_key e)
    → (item_of (after_entry now items e) q ≡ item_of items q) ⊎ (item_of (after_entry now items e) q ≡ item_of t q)
left_one t items now e q s fits =
    subst (λ (x : Option Item). (x ≡ item_of items q) ⊎ (x ≡ item_of t q)) (sym (entry_leaves now items q e s))
    (left_case t items now e q (is_of q e) (refuses now items e) refl fits)

pub left_either : (t items : Items) (now : ℕ) (entries : List Entry) (q : Key) → InOrder items → FitsView t entries
    → (item_of (after_all now items entries) q ≡ item_of items q) ⊎ (item_of (after_all now items entries) q ≡ item_of t q)
left_either t items now [] q s fits = inl refl
left_either t items now (e ∷ entries) q s fits =
    elim (left_either t (after_entry now items e) now entries q (in_order_after now items e s) fits.1) [
      | inr same ↦ inr same
      | inl same ↦ elim (left_one t items now e q s fits.0) [
        | inl here ↦ inl (same ∙ here)
        | inr here ↦ inr (same ∙ here)
      ]
    ]

-- entries of which none is refused leave what the view has of their keys
fed_case : (t items : Items) (e : Entry) (q : Key) (b r : Bool) → is_of q e ≡ b → r ≡ false → left_by e ≡ item_of t (entry_key e)
    → (if b then (if r then item_of items q else left_by e) else item_of items q) ≡ cond b (item_of t q) (item_of items q)
fed_case t items e q false r h k fits = refl
fed_case t items e q true r h k fits = rw k (fits ∙ ap (item_of t) (sym (one_key q (entry_key e) h)))

cond_or : {X : Type 0} (b c : Bool) (x y : X) → cond c x (cond b x y) ≡ cond (b || c) x y
cond_or true true x y = refl
cond_or true false x y = refl
cond_or false true x y = refl
cond_or false false x y = refl

pub fed_at : (t items : Items) (now : ℕ) (entries : List Entry) (q : Key) → InOrder items → FitsView t entries
    → NoneRefused now items entries
    → item_of (after_all now items entries) q ≡ cond (names q entries) (item_of t q) (item_of items q)
fed_at t items now [] q s fits none = refl
fed_at t items now (e ∷ entries) q s fits none =
    fed_at t (after_entry now items e) now entries q (in_order_after now items e s) fits.1 none.1
    ∙ ap (λ x. cond (names q entries) (item_of t q) x) (entry_leaves now items q e s
    ∙ fed_case t items e q (is_of q e) (refuses now items e) refl none.0 fits.0)
    ∙ cond_or (is_of q e) (names q entries) (item_of t q) (item_of items q)

-- ---- what is live

pub live_at : (now : ℕ) (items : Items) (q : Key) → InOrder items → item_of (living now items) q ≡ kept_if (λ i. not (is_dead i now)) (item_of items q)
live_at now items q s = item_kept (λ i. not (is_dead i now)) q items s

-- ---- feeds of removals, and of what a view has

pub removals_taken : (now : ℕ) (items : Items) (keys : List Key) → NoneRefused now items (map Withdrawn keys)
removals_taken now items [] = tt
removals_taken now items (k ∷ keys) = (refl, removals_taken now (after_entry now items (Withdrawn k)) keys)

-- items that are left as they were, or as the view has them
abbrev pub LeftEither : Items → Items → Items → Type 0
LeftEither t before after = (q : Key) → (item_of after q ≡ item_of before q) ⊎ (item_of after q ≡ item_of t q)

pub some_kept : (p : Item → Bool) (x : Option Item) → is_some (kept_if p x) ≡ true → is_some x ≡ true
some_kept p None h = h
some_kept p (Some i) h = refl

within_after : (now : ℕ) (t before after : Items) → InOrder before → InOrder after → LeftEither t before after
    → Within (living now before) t → Within (living now after) t
within_after now t before after s r either within q live =
    let p : Item → Bool = λ i. not (is_dead i now) in
    let there : is_some (kept_if p (item_of after q)) ≡ true = ap is_some (sym (item_kept p q after r)) ∙ live in
    elim (either q) [
      | inl same ↦ within q (ap is_some (item_kept p q before s) ∙ (ap (λ x. is_some (kept_if p x)) (sym same) ∙ there))
      | inr same ↦ some_kept p (item_of t q) (ap (λ x. is_some (kept_if p x)) (sym same) ∙ there)
    ]

pub items_taken : (now : ℕ) (t items : Items) (list : List Item) → InOrder items → InOrder t → length t ≤ most_live
    → Within (living now items) t → FitsView t (map Observed list) → NoneRefused now items (map Observed list)
items_taken now t items [] s r few within fits = tt
items_taken now t items (i ∷ list) s r few within fits =
    let after = after_entry now items (Observed i) in
    let order = in_order_after now items (Observed i) s in (
      has_place now items t i s r few within (ap is_some (sym fits.0)),
      items_taken now t after list order r few
          (within_after now t items after s order (λ q. left_one t items now (Observed i) q s fits.0) within) fits.1,
    )
