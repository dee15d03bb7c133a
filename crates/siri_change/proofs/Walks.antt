-- Two views side by side, in order of key.
use Rattle.std.proofs.Common.{◌≡◌, ℕ, ℤ, zero, suc, ◌+◌, List, [], ◌∷◌, ◌++◌, drop, take, map, filter, fold, Bool, true, false, not, ◌&&◌}
use Rattle.std.proofs.Common.{Some, None, slice_get, refl, ap, sym, ◌∙◌, subst, append_assoc}
use Rattle.std.specs.List.{AllByRecursion, list_all}
use Rattle.std.specs.List.Sorted.{IsStrictlySortedBy}
use Rattle.std.specs.Option.{option_eq}
use Rattle.std.specs.Map.{keys_of}
use Rattle.std.specs.Ordering.{is_eq, ordering_reverse}
use Rattle.std.specs.declared.cmp.Ordering.{Ordering}
use Rattle.std.specs.declared.cmp.Ordering.TheVariants.{Less, Equal, Greater}
use Rattle.siri_records.specs.declared.key.Key.{Key}
use Rattle.siri_records.specs.declared.item.Item.{Item}
use Rattle.siri_records.specs.Near.{is_near}
use Rattle.siri_records.specs.Order.{key_cmp, key_cmp_total}
use Rattle.siri_records.proofs.Order.{key_cmp_exact, key_cmp_same}
use Rattle.siri_records.specs.Keyed.{Items, InOrder, item_of, with_item, KeyChange}
use Rattle.siri_change.specs.Same.{is_same}
use Rattle.siri_change.specs.Changes.{keys_of_both, agree_on, meets, acknowledged_if_near, target, changes}
use Rattle.siri_records.proofs.Placed.{drop_at, drop_past, take_at, take_past, keys_append}

-- ---- keys above one

-- all of these keys are above one
abbrev pub AllAbove : Key → List Key → Type 0
AllAbove k ks = AllByRecursion (λ y. key_cmp k y ≡ Less) ks

abbrev pub Above : {X : Type 0} → Key → List (Key × X) → Type 0
Above k view = AllAbove k (keys_of view)

pub reversed : (j k : Key) (o : Ordering) → key_cmp k j ≡ o → key_cmp j k ≡ ordering_reverse o
reversed j k o e = key_cmp_total.antisymm j k ∙ ap ordering_reverse e

pub above_trans : (j k : Key) (ks : List Key) → key_cmp j k ≡ Less → AllAbove k ks → AllAbove j ks
above_trans j k [] below a = tt
above_trans j k (y ∷ ks) below a = (key_cmp_total.trans j k y below a.0, above_trans j k ks below a.1)

above_case : (k : Key) (e : Key × Item) (a : Items) (f : Key × Item) (o : Ordering) → key_cmp f.0 e.0 ≡ o
    → Above k (e ∷ a) → key_cmp k f.0 ≡ Less → Above k (with_item a f) → Above k (with_item (e ∷ a) f)
above_case k e a f Less o above here rest = rw o (here, above)
above_case k e a f Equal o above here rest = rw o above
above_case k e a f Greater o above here rest = rw o (above.0, rest)

pub above_with : (k : Key) (a : Items) (f : Key × Item) → Above k a → key_cmp k f.0 ≡ Less → Above k (with_item a f)
above_with k [] f above here = (here, tt)
above_with k (e ∷ a) f above here = above_case k e a f (key_cmp f.0 e.0) refl above here (above_with k a f above.1 here)

pub above_both : (k : Key) (a b : Items) → Above k a → Above k b → AllAbove k (keys_of_both a b)
above_both k a [] above also = above
above_both k a (f ∷ b) above also = above_both k (with_item a f) b (above_with k a f above also.0) also.1

-- ---- the first of either view

with_first : (f : Key × Item) (a : Items) → Above f.0 a → with_item a f ≡ f ∷ a
with_first f [] above = refl
with_first f (e ∷ a) above = rw (above.0) refl

with_later : (e f : Key × Item) (a : Items) → key_cmp e.0 f.0 ≡ Less → with_item (e ∷ a) f ≡ e ∷ with_item a f
with_later e f a below = rw (reversed f.0 e.0 Less below) refl

fold_later : (e : Key × Item) (a b : Items) → Above e.0 b → fold with_item (e ∷ a) b ≡ e ∷ fold with_item a b
fold_later e a [] above = refl
fold_later e a (f ∷ b) above = ap (λ m. fold with_item m b) (with_later e f a above.0) ∙ fold_later e (with_item a f) b above.1

pub keys_first : (e : Key × Item) (a b : Items) → Above e.0 b → keys_of_both (e ∷ a) b ≡ e.0 ∷ keys_of_both a b
keys_first e a b above = ap keys_of (fold_later e a b above)

pub keys_second : (f : Key × Item) (a b : Items) → Above f.0 a → Above f.0 b → keys_of_both a (f ∷ b) ≡ f.0 ∷ keys_of_both a b
keys_second f a b above also = ap (λ m. keys_of (fold with_item m b)) (with_first f a above) ∙ keys_first f a b also

pub keys_tied : (k : Key) (x y : Item) (a b : Items) → Above k b → keys_of_both ((k, x) ∷ a) ((k, y) ∷ b) ≡ k ∷ keys_of_both a b
keys_tied k x y a b above =
    let tied : with_item ((k, x) ∷ a) (k, y) ≡ (k, y) ∷ a = rw (key_cmp_same k) refl in
    ap (λ m. keys_of (fold with_item m b)) tied ∙ keys_first (k, y) a b above

-- ---- what is held of a key

pub none_below : (k : Key) (view : Items) → Above k view → item_of view k ≡ None
none_below k [] above = refl
none_below k (e ∷ view) above = rw (above.0) (none_below k view above.1)

pub item_here : (k : Key) (x : Item) (view : Items) → item_of ((k, x) ∷ view) k ≡ Some x
item_here k x view = rw (key_cmp_same k) refl

pub item_later : (e : Key × Item) (view : Items) (k : Key) → key_cmp e.0 k ≡ Less → item_of (e ∷ view) k ≡ item_of view k
item_later e view k below = rw (reversed k e.0 Less below) refl

-- two views hold the same of some keys
abbrev pub Alike : List Key → Items → Items → Type 0
Alike ks a b = AllByRecursion (λ k. item_of a k ≡ item_of b k) ks

pub alike_itself : (ks : List Key) (a : Items) → Alike ks a a
alike_itself [] a = tt
alike_itself (k ∷ ks) a = (refl, alike_itself ks a)

pub alike_later : (ks : List Key) (e : Key × Item) (view : Items) → AllAbove e.0 ks → Alike ks (e ∷ view) view
alike_later [] e view above = tt
alike_later (k ∷ ks) e view above = (item_later e view k above.0, alike_later ks e view above.1)

-- ---- changes

abbrev pub changed : Items → Items → Key → Bool
changed a b key = not (agree_on is_same a b key)

abbrev pub changes_on : List Key → Items → Items → List KeyChange
changes_on ks a b = map (λ key. (key, item_of b key)) (filter (changed a b) ks)

pub on_changed : (k : Key) (ks : List Key) (a b : Items) → agree_on is_same a b k ≡ false → changes_on (k ∷ ks) a b ≡ (k, item_of b k) ∷ changes_on ks a b
on_changed k ks a b apart = rw apart refl

pub on_same : (k : Key) (ks : List Key) (a b : Items) → agree_on is_same a b k ≡ true → changes_on (k ∷ ks) a b ≡ changes_on ks a b
on_same k ks a b agree = rw agree refl

agree_alike : (test : Item → Item → Bool) (k : Key) (a a' b b' : Items) → item_of a k ≡ item_of a' k
    → item_of b k ≡ item_of b' k → agree_on test a b k ≡ agree_on test a' b' k
agree_alike test k a a' b b' p q = λ i. option_eq test (p i) (q i)

on_alike_case : (k : Key) (ks : List Key) (a a' b b' : Items) (t : Bool) → agree_on is_same a b k ≡ t
    → item_of a k ≡ item_of a' k → item_of b k ≡ item_of b' k → changes_on ks a b ≡ changes_on ks a' b'
    → changes_on (k ∷ ks) a b ≡ changes_on (k ∷ ks) a' b'
on_alike_case k ks a a' b b' true t p q rest =
    on_same k ks a b t ∙ (rest ∙ sym (on_same k ks a' b' (sym (agree_alike is_same k a a' b b' p q) ∙ t)))
on_alike_case k ks a a' b b' false t p q rest =
    on_changed k ks a b t ∙ ((λ i. (k, q i) ∷ rest i) ∙ sym (on_changed k ks a' b' (sym (agree_alike is_same k a a' b b' p q) ∙ t)))

on_alike : (ks : List Key) (a a' b b' : Items) → Alike ks a a' → Alike ks b b' → changes_on ks a b ≡ changes_on ks a' b'
on_alike [] a a' b b' p q = refl
on_alike (k ∷ ks) a a' b b' p q = on_alike_case k ks a a' b b' (agree_on is_same a b k) refl p.0 q.0 (on_alike ks a a' b b' p.1 q.1)

-- a key that the second view doesn't have
pub changes_removed : (e : Key × Item) (a b : Items) → Above e.0 a → Above e.0 b → changes (e ∷ a) b ≡ (e.0, None) ∷ changes a b
changes_removed e a b above also =
    let ks = keys_of_both a b in
    let none = none_below e.0 b also in
    let apart : agree_on is_same (e ∷ a) b e.0 ≡ false = rw (item_here e.0 e.1 a, none) refl in
    ap (λ l. changes_on l (e ∷ a) b) (keys_first e a b also)
    ∙ (on_changed e.0 ks (e ∷ a) b apart
    ∙ (λ i. (e.0, none i) ∷ on_alike ks (e ∷ a) a b b (alike_later ks e a (above_both e.0 a b above also)) (alike_itself ks b) i))

-- a key that the first view doesn't have
pub changes_added : (f : Key × Item) (a b : Items) → Above f.0 a → Above f.0 b → changes a (f ∷ b) ≡ (f.0, Some f.1) ∷ changes a b
changes_added f a b above also =
    let ks = keys_of_both a b in
    let here = item_here f.0 f.1 b in
    let apart : agree_on is_same a (f ∷ b) f.0 ≡ false = rw (none_below f.0 a above, here) refl in
    ap (λ l. changes_on l a (f ∷ b)) (keys_second f a b above also)
    ∙ (on_changed f.0 ks a (f ∷ b) apart
    ∙ (λ i. (f.0, here i) ∷ on_alike ks a a (f ∷ b) b (alike_itself ks a) (alike_later ks f b (above_both f.0 a b above also)) i))

-- a key that both have
agree_tied : (test : Item → Item → Bool) (k : Key) (x y : Item) (a b : Items) → agree_on test ((k, x) ∷ a) ((k, y) ∷ b) k ≡ test x y
agree_tied test k x y a b = rw (item_here k x a, item_here k y b) refl

pub changes_kept : (k : Key) (x y : Item) (a b : Items) → Above k a → Above k b → is_same x y ≡ true → changes ((k, x) ∷ a) ((k, y) ∷ b) ≡ changes a b
changes_kept k x y a b above also same =
    let ks = keys_of_both a b in
    let up = above_both k a b above also in
    ap (λ l. changes_on l ((k, x) ∷ a) ((k, y) ∷ b)) (keys_tied k x y a b also)
    ∙ (on_same k ks ((k, x) ∷ a) ((k, y) ∷ b) (agree_tied is_same k x y a b ∙ same)
    ∙ on_alike ks ((k, x) ∷ a) a ((k, y) ∷ b) b (alike_later ks (k, x) a up) (alike_later ks (k, y) b up))

pub changes_replaced : (k : Key) (x y : Item) (a b : Items) → Above k a → Above k b → is_same x y ≡ false
    → changes ((k, x) ∷ a) ((k, y) ∷ b) ≡ (k, Some y) ∷ changes a b
changes_replaced k x y a b above also apart =
    let ks = keys_of_both a b in
    let up = above_both k a b above also in
    let here = item_here k y b in
    ap (λ l. changes_on l ((k, x) ∷ a) ((k, y) ∷ b)) (keys_tied k x y a b also)
    ∙ (on_changed k ks ((k, x) ∷ a) ((k, y) ∷ b) (agree_tied is_same k x y a b ∙ apart)
    ∙ (λ i. (k, here i) ∷ on_alike ks ((k, x) ∷ a) a ((k, y) ∷ b) b (alike_later ks (k, x) a up) (alike_later ks (k, y) b up) i))

-- ---- from two places on

pub order_drop : (a : Items) (i : ℕ) → InOrder a → InOrder (drop i a)
unfolding IsStrictlySortedBy
order_drop [] zero s = tt
order_drop [] (suc i) s = tt
order_drop (e ∷ a) zero s = s
order_drop (e ∷ a) (suc i) s = order_drop a i s.1

pub above_first : (e : Key × Item) (a : Items) → InOrder (e ∷ a) → Above e.0 a
unfolding IsStrictlySortedBy
above_first e a s = s.0

-- the keys after a place are above the one there
pub above_rest : (a : Items) (i : ℕ) (e : Key × Item) → InOrder a → Some e ≡ slice_get a i → Above e.0 (drop (i + 1) a)
above_rest a i e s is = above_first e (drop (i + 1) a) (subst InOrder (drop_at a i e (sym is)) (order_drop a i s))

-- the keys from a place on are above one that is below the one there
pub above_from : (k : Key) (a : Items) (i : ℕ) (e : Key × Item) → InOrder a → Some e ≡ slice_get a i → key_cmp k e.0 ≡ Less → Above k (drop i a)
above_from k a i e s is below =
    subst (λ (l : Items). Above k l) (sym (drop_at a i e (sym is))) (below, above_trans k e.0 (keys_of (drop (i + 1) a)) below (above_rest a i e s is))

pub above_past : (k : Key) (a : Items) (i : ℕ) → None ≡ slice_get a i → Above k (drop i a)
above_past k a i is = subst (λ (l : Items). Above k l) (sym (drop_past a i (sym is))) tt

module _ (a b : Items) (i j : ℕ) where
  pub removed_at : (e : Key × Item) → InOrder a → Some e ≡ slice_get a i → Above e.0 (drop j b)
      → changes (drop i a) (drop j b) ≡ (e.0, None) ∷ changes (drop (i + 1) a) (drop j b)
  removed_at e s is above =
      ap (λ l. changes l (drop j b)) (drop_at a i e (sym is)) ∙ changes_removed e (drop (i + 1) a) (drop j b) (above_rest a i e s is) above

  pub added_at : (f : Key × Item) → InOrder b → Some f ≡ slice_get b j → Above f.0 (drop i a)
      → changes (drop i a) (drop j b) ≡ (f.0, Some f.1) ∷ changes (drop i a) (drop (j + 1) b)
  added_at f s is above =
      ap (λ l. changes (drop i a) l) (drop_at b j f (sym is)) ∙ changes_added f (drop i a) (drop (j + 1) b) above (above_rest b j f s is)

  -- both views from their places on, where the keys there tie
  tied_at : (e f : Key × Item) → Some e ≡ slice_get a i → Some f ≡ slice_get b j → key_cmp e.0 f.0 ≡ Equal
      → (drop i a ≡ (f.0, e.1) ∷ drop (i + 1) a) × (drop j b ≡ (f.0, f.1) ∷ drop (j + 1) b)
  tied_at e f is also tie =
      (drop_at a i e (sym is) ∙ (λ t. (key_cmp_exact e.0 f.0 tie t, e.1) ∷ drop (i + 1) a), drop_at b j f (sym also))

  above_tied : (e f : Key × Item) → InOrder a → Some e ≡ slice_get a i → key_cmp e.0 f.0 ≡ Equal → Above f.0 (drop (i + 1) a)
  above_tied e f s is tie = subst (λ (k : Key). Above k (drop (i + 1) a)) (key_cmp_exact e.0 f.0 tie) (above_rest a i e s is)

  pub kept_at : (e f : Key × Item) → InOrder a → InOrder b → Some e ≡ slice_get a i → Some f ≡ slice_get b j
      → key_cmp e.0 f.0 ≡ Equal → is_same e.1 f.1 ≡ true → changes (drop i a) (drop j b) ≡ changes (drop (i + 1) a)
      (drop (j + 1) b)
  kept_at e f s t is also tie same =
      let at_both = tied_at e f is also tie in
      (λ u. changes (at_both.0 u) (at_both.1 u)) ∙ changes_kept f.0 e.1 f.1 (drop (i + 1) a) (drop (j + 1) b)
      (above_tied e f s is tie) (above_rest b j f t also) same

  pub replaced_at : (e f : Key × Item) → InOrder a → InOrder b → Some e ≡ slice_get a i → Some f ≡ slice_get b j
      → key_cmp e.0 f.0 ≡ Equal → is_same e.1 f.1 ≡ false
      → changes (drop i a) (drop j b) ≡ (f.0, Some f.1) ∷ changes (drop (i + 1) a) (drop (j + 1) b)
  replaced_at e f s t is also tie apart =
      let at_both = tied_at e f is also tie in
      (λ u. changes (at_both.0 u) (at_both.1 u)) ∙ changes_replaced f.0 e.1 f.1 (drop (i + 1) a) (drop (j + 1) b)
      (above_tied e f s is tie) (above_rest b j f t also) apart

pub none_left : (a b : Items) (i j : ℕ) → None ≡ slice_get a i → None ≡ slice_get b j → changes (drop i a) (drop j b) ≡ []
none_left a b i j is also = rw (drop_past a i (sym is), drop_past b j (sym also)) refl

-- one more change was written
pub written : (done more now next whole : List KeyChange) (c d : KeyChange) → more ≡ done ++ c ∷ [] → c ≡ d
    → now ≡ d ∷ next → done ++ now ≡ whole → more ++ next ≡ whole
written done more now next whole c d one same step all =
    ap (λ l. l ++ next) one ∙ (append_assoc done (c ∷ []) next ∙ (ap (λ x. done ++ x ∷ next) same ∙ (ap (λ l. done ++ l) (sym step) ∙ all)))

-- ---- meets

all_alike : (test : Item → Item → Bool) (ks : List Key) (a a' b b' : Items) → Alike ks a a' → Alike ks b b'
    → list_all (agree_on test a b) ks ≡ list_all (agree_on test a' b') ks
all_alike test [] a a' b b' p q = refl
all_alike test (k ∷ ks) a a' b b' p q = λ i. agree_alike test k a a' b b' p.0 q.0 i && all_alike test ks a a' b b' p.1 q.1 i

-- a key that the second view doesn't have
unmet_first : (slack : ℤ) (e : Key × Item) (a b : Items) → Above e.0 b → meets slack (e ∷ a) b ≡ false
unmet_first slack e a b also =
    let apart : agree_on (is_near slack) (e ∷ a) b e.0 ≡ false = rw (item_here e.0 e.1 a, none_below e.0 b also) refl in
    ap (λ ks. list_all (agree_on (is_near slack) (e ∷ a) b) ks) (keys_first e a b also) ∙ rw apart refl

-- a key that the first view doesn't have
unmet_second : (slack : ℤ) (f : Key × Item) (a b : Items) → Above f.0 a → Above f.0 b → meets slack a (f ∷ b) ≡ false
unmet_second slack f a b above also =
    let apart : agree_on (is_near slack) a (f ∷ b) f.0 ≡ false = rw (none_below f.0 a above, item_here f.0 f.1 b) refl in
    ap (λ ks. list_all (agree_on (is_near slack) a (f ∷ b)) ks) (keys_second f a b above also) ∙ rw apart refl

-- a key that both have
met_tied : (slack : ℤ) (k : Key) (x y : Item) (a b : Items) → Above k a → Above k b
    → meets slack ((k, x) ∷ a) ((k, y) ∷ b) ≡ (is_near slack x y && meets slack a b)
met_tied slack k x y a b above also =
    let ks = keys_of_both a b in
    let up = above_both k a b above also in
    ap (λ l. list_all (agree_on (is_near slack) ((k, x) ∷ a) ((k, y) ∷ b)) l) (keys_tied k x y a b also)
    ∙ (λ i. agree_tied (is_near slack) k x y a b i && all_alike (is_near slack) ks ((k, x) ∷ a) a ((k, y) ∷ b) b
    (alike_later ks (k, x) a up) (alike_later ks (k, y) b up) i)

met_case : (slack : ℤ) (e f : Key × Item) (a b : Items) (o : Ordering) → key_cmp e.0 f.0 ≡ o → Above e.0 a → Above f.0 b
    → meets slack (e ∷ a) (f ∷ b) ≡ ((is_eq o && is_near slack e.1 f.1) && meets slack a b)
met_case slack e f a b Less o above also = unmet_first slack e a (f ∷ b) (o, above_trans e.0 f.0 (keys_of b) o also)
met_case slack e f a b Greater o above also =
    let below = reversed f.0 e.0 Greater o in
    unmet_second slack f (e ∷ a) b (below, above_trans f.0 e.0 (keys_of a) below above) also
met_case slack e f a b Equal o above also =
    let same = key_cmp_exact e.0 f.0 o in
    (λ t. meets slack ((same t, e.1) ∷ a) (f ∷ b)) ∙ met_tied slack f.0 e.1 f.1 a b (subst (λ (k : Key). Above k a) same above) also

pub met_at : (slack : ℤ) (a b : Items) (i : ℕ) (e f : Key × Item) → InOrder a → InOrder b → Some e ≡ slice_get a i
    → Some f ≡ slice_get b i → meets slack (drop i a)
    (drop i b) ≡ ((is_eq (key_cmp e.0 f.0) && is_near slack e.1 f.1) && meets slack (drop (i + 1) a) (drop (i + 1) b))
met_at slack a b i e f s t is also =
    (λ u. meets slack (drop_at a i e (sym is) u) (drop_at b i f (sym also) u))
    ∙ met_case slack e f (drop (i + 1) a) (drop (i + 1) b) (key_cmp e.0 f.0) refl (above_rest a i e s is) (above_rest b i f t also)

pub met_past : (slack : ℤ) (a b : Items) (i : ℕ) → None ≡ slice_get a i → None ≡ slice_get b i → meets slack (drop i a) (drop i b) ≡ true
met_past slack a b i is also = rw (drop_past a i (sym is), drop_past b i (sym also)) refl

pub unmet_longer : (slack : ℤ) (a b : Items) (i : ℕ) (e : Key × Item) → Some e ≡ slice_get a i → None ≡ slice_get b i
    → meets slack (drop i a) (drop i b) ≡ false
unmet_longer slack a b i e is also =
    (λ u. meets slack (drop_at a i e (sym is) u) (drop_past b i (sym also) u)) ∙ unmet_first slack e (drop (i + 1) a) [] tt

pub unmet_shorter : (slack : ℤ) (a b : Items) (i : ℕ) (f : Key × Item) → InOrder b → None ≡ slice_get a i
    → Some f ≡ slice_get b i → meets slack (drop i a) (drop i b) ≡ false
unmet_shorter slack a b i f t is also =
    (λ u. meets slack (drop_past a i (sym is) u) (drop_at b i f (sym also) u)) ∙ unmet_second slack f [] (drop (i + 1) b) tt (above_rest b i f t also)

-- ---- the target, item by item

abbrev pub chosen : ℤ → Items → Key × Item → Key × Item
chosen slack acknowledged entry = (entry.0, acknowledged_if_near slack (item_of acknowledged entry.0) entry.1)

pub keys_chosen : (slack : ℤ) (acknowledged l : Items) → keys_of (map (chosen slack acknowledged) l) ≡ keys_of l
keys_chosen slack acknowledged [] = refl
keys_chosen slack acknowledged (e ∷ l) = ap (λ ks. e.0 ∷ ks) (keys_chosen slack acknowledged l)

chosen_append : (slack : ℤ) (acknowledged l : Items) (e : Key × Item)
    → map (chosen slack acknowledged) (l ++ e ∷ []) ≡ map (chosen slack acknowledged) l
    ++ chosen slack acknowledged e ∷ []
chosen_append slack acknowledged [] e = refl
chosen_append slack acknowledged (x ∷ l) e = ap (λ t. chosen slack acknowledged x ∷ t) (chosen_append slack acknowledged l e)

above_taken : (k : Key) (l : Items) (i : ℕ) → Above k l → Above k (take i l)
above_taken k [] zero above = tt
above_taken k [] (suc i) above = tt
above_taken k (e ∷ l) zero above = tt
above_taken k (e ∷ l) (suc i) above = (above.0, above_taken k l i above.1)

order_taken : (l : Items) (i : ℕ) → InOrder l → InOrder (take i l)
unfolding IsStrictlySortedBy
order_taken [] zero s = tt
order_taken [] (suc i) s = tt
order_taken (e ∷ l) zero s = tt
order_taken (e ∷ l) (suc i) s = (above_taken e.0 l i s.0, order_taken l i s.1)

-- the next key is above those before it
pub next_in_order : (slack : ℤ) (acknowledged direct target : Items) (i : ℕ) (e : Key × Item) (k : Key) → InOrder direct
    → Some e ≡ slice_get direct i → target ≡ map (chosen slack acknowledged) (take i direct) → k ≡ e.0
    → IsStrictlySortedBy key_cmp (keys_of target ++ k ∷ [])
next_in_order slack acknowledged direct target i e k s is so_far same =
    let keys : keys_of target ++ k ∷ [] ≡ keys_of (take (i + 1) direct) =
    (λ t. keys_of (so_far t) ++ same t ∷ [])
    ∙ (ap (λ ks. ks ++ e.0 ∷ []) (keys_chosen slack acknowledged (take i direct))
    ∙ (sym (keys_append (take i direct) e) ∙ ap keys_of (sym (take_at direct i e (sym is))))) in
    rw keys (order_taken direct (i + 1) s)

pub chosen_next : (slack : ℤ) (acknowledged direct target more : Items) (i : ℕ) (e : Key × Item) (k : Key) (x : Item)
    → Some e ≡ slice_get direct i → target ≡ map (chosen slack acknowledged) (take i direct)
    → more ≡ target ++ (k, x) ∷ [] → k ≡ e.0 → x ≡ acknowledged_if_near slack (item_of acknowledged e.0) e.1
    → more ≡ map (chosen slack acknowledged) (take (i + 1) direct)
chosen_next slack acknowledged direct target more i e k x is so_far one same which =
    one
    ∙ ((λ t. so_far t ++ (same t, which t) ∷ [])
    ∙ (sym (chosen_append slack acknowledged (take i direct) e) ∙ ap (map (chosen slack acknowledged)) (sym (take_at direct i e (sym is)))))

-- ---- whether they meet, entry by entry

both_tests : (r t u : Bool) → r ≡ t → r ≡ false → (t && u) ≡ false
both_tests r t u is apart = ap (λ x. x && u) (sym is ∙ apart)

pub apart_here : (slack : ℤ) (a b : Items) (i : ℕ) (e f : Key × Item) (r : Bool) → InOrder a → InOrder b
    → Some e ≡ slice_get a i → Some f ≡ slice_get b i → r ≡ (is_eq (key_cmp e.0 f.0) && is_near slack e.1 f.1)
    → r ≡ false → meets slack (drop i a) (drop i b) ≡ meets slack a b → true ≡ not (meets slack a b)
apart_here slack a b i e f r s t is also told apart so_far =
    sym (ap not (sym so_far ∙ (met_at slack a b i e f s t is also ∙ both_tests r _ _ told apart)))

pub met_here : (slack : ℤ) (a b : Items) (i : ℕ) (e f : Key × Item) (r : Bool) → InOrder a → InOrder b
    → Some e ≡ slice_get a i → Some f ≡ slice_get b i → r ≡ (is_eq (key_cmp e.0 f.0) && is_near slack e.1 f.1)
    → r ≡ true → meets slack (drop i a) (drop i b) ≡ meets slack a b
    → meets slack (drop (i + 1) a) (drop (i + 1) b) ≡ meets slack a b
met_here slack a b i e f r s t is also told near so_far =
    ap (λ x. x && meets slack (drop (i + 1) a) (drop (i + 1) b)) (sym near ∙ told) ∙ (sym (met_at slack a b i e f s t is also) ∙ so_far)

pub all_chosen : (slack : ℤ) (incremental : Bool) (acknowledged direct so_far : Items) (i : ℕ) → incremental ≡ true
    → so_far ≡ map (chosen slack acknowledged) (take i direct) → None ≡ slice_get direct i
    → so_far ≡ target slack incremental acknowledged direct
all_chosen slack incremental acknowledged direct so_far i on is past =
    is ∙ (ap (map (chosen slack acknowledged)) (take_past direct i (sym past)) ∙ rw on refl)
