-- The changes from one view to another lead to it, in parts too.
use Rattle.std.proofs.Common.{◌≡◌, List, [], ◌∷◌, Bool, true, false, cond, ◌&&◌, ◌||◌, Option, Some, None, refl, ap, sym, ◌∙◌, subst}
use Rattle.std.specs.List.{AllByRecursion, list_all, list_any}
use Rattle.std.specs.List.Sorted.{IsStrictlySortedBy}
use Rattle.std.specs.Prelude.{◌↔◌, is_some, ℤ}
use Rattle.std.specs.Option.{option_eq}
use Rattle.std.specs.Map.{keys_of, remove_entry}
use Rattle.std.specs.BTreeMap.{insert_entry, is_at}
use Rattle.std.specs.Ordering.{is_eq}
use Rattle.std.specs.declared.cmp.Ordering.{Ordering}
use Rattle.std.specs.declared.cmp.Ordering.TheVariants.{Less, Equal, Greater}
use Rattle.siri_records.specs.declared.key.Key.{Key}
use Rattle.siri_records.specs.declared.item.Item.{Item}
use Rattle.siri_records.specs.Near.{is_near}
use Rattle.siri_records.specs.Order.{key_cmp}
use Rattle.siri_records.proofs.Order.{key_cmp_exact, key_cmp_same}
use Rattle.siri_records.specs.Keyed.{Items, InOrder, item_of, with_item, KeyChange, after_change, apply}
use Rattle.siri_change.specs.Same.{is_same}
use Rattle.siri_change.specs.Changes.{keys_of_both, agree_on, Meets, meets, changes}
use Rattle.std.proofs.lemmas.Bool.{and_parts, and_from}
use Rattle.siri_change.proofs.SameItems.{same_exact}
use Rattle.siri_change.proofs.Walks.{Above, reversed, above_trans, above_with, none_below, item_here, changes_on, on_same, on_changed}

-- ---- views with the same items

-- whether two keys are one
abbrev pub tied : Key → Key → Bool
tied q k = is_eq (key_cmp q k)

equal_from : (o : Ordering) → is_eq o ≡ true → o ≡ Equal
equal_from Equal e = refl
equal_from Less e = cc
equal_from Greater e = cc

pub one_key : (q k : Key) → tied q k ≡ true → q ≡ k
one_key q k e = key_cmp_exact q k (equal_from (key_cmp q k) e)

tied_itself : (k : Key) → tied k k ≡ true
tied_itself k = ap is_eq (key_cmp_same k)

some_here : (e : Key × Item) (view : Items) → item_of (e ∷ view) e.0 ≡ Some e.1
some_here e view = item_here e.0 e.1 view

-- views in order that hold the same of each key are one
same_rest : (q : Key) (e f : Key × Item) (a b : Items) (t : Bool) → tied q e.0 ≡ t → e ≡ f → Above e.0 a → Above f.0 b
    → item_of (e ∷ a) q ≡ item_of (f ∷ b) q → item_of a q ≡ item_of b q
same_rest q e f a b true h same above also is =
    let here = one_key q e.0 h in
    ap (item_of a) here ∙ (none_below e.0 a above ∙ sym (none_below f.0 b also) ∙ ap (item_of b) (sym (here ∙ ap (λ x. x.0) same)))
same_rest q e f a b false h same above also is =
    let left : item_of (e ∷ a) q ≡ item_of a q = rw h refl in
    let right : item_of (f ∷ b) q ≡ item_of b q = rw (← same, h) refl in
    sym left ∙ (is ∙ right)

same_head : (e f : Key × Item) (a b : Items) (o : Ordering) → key_cmp e.0 f.0 ≡ o → Above e.0 a → Above f.0 b
    → ((q : Key) → item_of (e ∷ a) q ≡ item_of (f ∷ b) q) → e ≡ f
same_head e f a b Less o above also is =
    absurd (cc (sym (some_here e a) ∙ (is e.0 ∙ none_below e.0 (f ∷ b) (o, above_trans e.0 f.0 (keys_of b) o also))))
same_head e f a b Greater o above also is =
    let below = reversed f.0 e.0 Greater o in
    absurd (cc (sym (some_here f b) ∙ (sym (is f.0) ∙ none_below f.0 (e ∷ a) (below, above_trans f.0 e.0 (keys_of a) below above))))
same_head e f a b Equal o above also is =
    let key = key_cmp_exact e.0 f.0 o in
    let item : Some e.1 ≡ Some f.1 = sym (some_here e a) ∙ (is e.0 ∙ (ap (item_of (f ∷ b)) key ∙ some_here f b)) in
    let value : e.1 ≡ f.1 = cc item in
    λ i. (key i, value i)

pub same_views : (a b : Items) → InOrder a → InOrder b → ((q : Key) → item_of a q ≡ item_of b q) → a ≡ b
unfolding IsStrictlySortedBy
same_views [] [] s t is = refl
same_views [] (f ∷ b) s t is = absurd (cc (is f.0 ∙ some_here f b))
same_views (e ∷ a) [] s t is = absurd (cc (sym (is e.0) ∙ some_here e a))
same_views (e ∷ a) (f ∷ b) s t is =
    let head = same_head e f a b (key_cmp e.0 f.0) refl s.0 t.0 is in
    let rest = same_views a b s.1 t.1 (λ q. same_rest q e f a b (tied q e.0) refl head s.0 t.0 (is q)) in
    λ i. head i ∷ rest i

-- ---- what is held of a key after a change

cond_twice : (t : Bool) (x y z : Option Item) → cond t x z ≡ cond t x (cond t y z)
cond_twice true x y z = refl
cond_twice false x y z = refl

-- a key that is tied with one isn't tied with another
not_both : (q k j : Key) (t : Bool) → tied q k ≡ t → tied q j ≡ true → tied k j ≡ false → t ≡ false
not_both q k j true h also apart = cc (sym apart ∙ (ap (λ x. tied x j) (sym (one_key q k h)) ∙ also))
not_both q k j false h also apart = refl

cond_swap : (b t : Bool) (x y z : Option Item) → (t ≡ true → b ≡ false) → cond t y (cond b x z) ≡ cond b x (cond t y z)
cond_swap true true x y z only = absurd (cc (only refl))
cond_swap true false x y z only = refl
cond_swap false true x y z only = refl
cond_swap false false x y z only = refl

held_with_case : (k : Key) (x : Item) (e : Key × Item) (a : Items) (q : Key) (o : Ordering) → key_cmp k e.0 ≡ o
    → item_of (insert_entry key_cmp a k x) q ≡ cond (tied q k) (Some x) (item_of a q)
    → item_of (insert_entry key_cmp (e ∷ a) k x) q ≡ cond (tied q k) (Some x) (item_of (e ∷ a) q)
held_with_case k x e a q Less o rest = rw o refl
held_with_case k x e a q Equal o rest =
    let put : insert_entry key_cmp (e ∷ a) k x ≡ (e.0, x) ∷ a = rw o refl in
    let same = key_cmp_exact k e.0 o in
    ap (λ l. item_of l q) put
    ∙ (cond_twice (tied q e.0) (Some x) (Some e.1) (item_of a q)
    ∙ ap (λ j. cond (tied q j) (Some x) (item_of (e ∷ a) q)) (sym same))
held_with_case k x e a q Greater o rest =
    let put : insert_entry key_cmp (e ∷ a) k x ≡ e ∷ insert_entry key_cmp a k x = rw o refl in
    ap (λ l. item_of l q) put
    ∙ (ap (λ r. cond (tied q e.0) (Some e.1) r) rest
    ∙ cond_swap (tied q k) (tied q e.0) (Some x) (Some e.1) (item_of a q) (λ h. not_both q k e.0 (tied q k) refl h (ap is_eq o)))

pub held_with : (k : Key) (x : Item) (a : Items) (q : Key) → item_of (insert_entry key_cmp a k x) q ≡ cond (tied q k) (Some x) (item_of a q)
held_with k x [] q = refl
held_with k x (e ∷ a) q = held_with_case k x e a q (key_cmp k e.0) refl (held_with k x a q)

held_gone : (k : Key) (e : Key × Item) (a : Items) (q : Key) (t : Bool) → tied q k ≡ t → k ≡ e.0 → Above e.0 a → item_of a q ≡ cond t None (item_of (e ∷ a) q)
held_gone k e a q true h same above = ap (item_of a) (one_key q k h ∙ same) ∙ none_below e.0 a above
held_gone k e a q false h same above =
    let apart : tied q e.0 ≡ false = ap (tied q) (sym same) ∙ h in
    rw apart refl

held_without_case : (k : Key) (e : Key × Item) (a : Items) (q : Key) (t : Bool) → tied k e.0 ≡ t → Above e.0 a
    → item_of (remove_entry (is_at (key_cmp k)) a) q ≡ cond (tied q k) None (item_of a q)
    → item_of (remove_entry (is_at (key_cmp k)) (e ∷ a)) q ≡ cond (tied q k) None (item_of (e ∷ a) q)
held_without_case k e a q true h above rest =
    let left : remove_entry (is_at (key_cmp k)) (e ∷ a) ≡ a = rw h refl in
    ap (λ l. item_of l q) left ∙ held_gone k e a q (tied q k) refl (one_key k e.0 h) above
held_without_case k e a q false h above rest =
    let left : remove_entry (is_at (key_cmp k)) (e ∷ a) ≡ e ∷ remove_entry (is_at (key_cmp k)) a = rw h refl in
    ap (λ l. item_of l q) left
    ∙ (ap (λ r. cond (tied q e.0) (Some e.1) r) rest
    ∙ cond_swap (tied q k) (tied q e.0) None (Some e.1) (item_of a q) (λ also. not_both q k e.0 (tied q k) refl also h))

pub held_without : (k : Key) (a : Items) (q : Key) → InOrder a → item_of (remove_entry (is_at (key_cmp k)) a) q ≡ cond (tied q k) None (item_of a q)
unfolding IsStrictlySortedBy
held_without k [] q s = none_at (tied q k)
  where
    none_at : (t : Bool) → ◌≡◌ {A = Option Item} None (cond t None None)
    none_at true = refl
    none_at false = refl
held_without k (e ∷ a) q s = held_without_case k e a q (tied k e.0) refl s.0 (held_without k a q s.1)

pub held_after : (a : Items) (c : KeyChange) (q : Key) → InOrder a → item_of (after_change a c) q ≡ cond (tied q c.0) c.1 (item_of a q)
held_after a (k, None) q s = held_without k a q s
held_after a (k, Some x) q s = held_with k x a q

-- ---- views stay in order

order_with_case : (k : Key) (x : Item) (e : Key × Item) (a : Items) (o : Ordering) → key_cmp k e.0 ≡ o → InOrder (e ∷ a)
    → InOrder (insert_entry key_cmp a k x) → InOrder (insert_entry key_cmp (e ∷ a) k x)
unfolding IsStrictlySortedBy
order_with_case k x e a Less o s rest = rw o ((o, above_trans k e.0 (keys_of a) o s.0), s)
order_with_case k x e a Equal o s rest = rw o s
order_with_case k x e a Greater o s rest = rw o (above_with e.0 a (k, x) s.0 (reversed e.0 k Greater o), rest)

pub order_with : (k : Key) (x : Item) (a : Items) → InOrder a → InOrder (insert_entry key_cmp a k x)
unfolding IsStrictlySortedBy
order_with k x [] s = (tt, tt)
order_with k x (e ∷ a) s = order_with_case k x e a (key_cmp k e.0) refl s (order_with k x a s.1)

above_without_case : (j k : Key) (e : Key × Item) (a : Items) (t : Bool) → tied k e.0 ≡ t → Above j (e ∷ a)
    → Above j (remove_entry (is_at (key_cmp k)) a) → Above j (remove_entry (is_at (key_cmp k)) (e ∷ a))
above_without_case j k e a true h above rest = rw h (above.1)
above_without_case j k e a false h above rest = rw h (above.0, rest)

above_without : (j k : Key) (a : Items) → Above j a → Above j (remove_entry (is_at (key_cmp k)) a)
above_without j k [] above = tt
above_without j k (e ∷ a) above = above_without_case j k e a (tied k e.0) refl above (above_without j k a above.1)

order_without_case : (k : Key) (e : Key × Item) (a : Items) (t : Bool) → tied k e.0 ≡ t → InOrder (e ∷ a)
    → InOrder (remove_entry (is_at (key_cmp k)) a) → InOrder (remove_entry (is_at (key_cmp k)) (e ∷ a))
unfolding IsStrictlySortedBy
order_without_case k e a true h s rest = rw h (s.1)
order_without_case k e a false h s rest = rw h (above_without e.0 k a s.0, rest)

pub order_without : (k : Key) (a : Items) → InOrder a → InOrder (remove_entry (is_at (key_cmp k)) a)
unfolding IsStrictlySortedBy
order_without k [] s = tt
order_without k (e ∷ a) s = order_without_case k e a (tied k e.0) refl s (order_without k a s.1)

pub order_after : (a : Items) (c : KeyChange) → InOrder a → InOrder (after_change a c)
order_after a (k, None) s = order_without k a s
order_after a (k, Some x) s = order_with k x a s

pub order_applied : (a : Items) (cs : List KeyChange) → InOrder a → InOrder (apply a cs)
order_applied a [] s = s
order_applied a (c ∷ cs) s = order_applied (after_change a c) cs (order_after a c s)

-- ---- changes that have what a view has

-- some change is of this key
abbrev pub mentions : Key → List KeyChange → Bool
mentions q cs = list_any (λ c. tied q c.0) cs

-- each change has what the view has of its key
abbrev pub Fits : Items → List KeyChange → Type 0
Fits t cs = AllByRecursion (λ c. c.1 ≡ item_of t c.0) cs

one_more : (t : Items) (c : KeyChange) (q : Key) (m : Option Item) (b d : Bool) → tied q c.0 ≡ b → c.1 ≡ item_of t c.0
    → cond d (item_of t q) (cond b c.1 m) ≡ cond (b || d) (item_of t q) m
one_more t c q m true true h fits = refl
one_more t c q m true false h fits = fits ∙ ap (item_of t) (sym (one_key q c.0 h))
one_more t c q m false true h fits = refl
one_more t c q m false false h fits = refl

held_applied : (t a : Items) (cs : List KeyChange) (q : Key) → InOrder a → Fits t cs → item_of (apply a cs) q ≡ cond (mentions q cs) (item_of t q) (item_of a q)
held_applied t a [] q s fits = refl
held_applied t a (c ∷ cs) q s fits =
    held_applied t (after_change a c) cs q (order_after a c s) fits.1
    ∙ (ap (λ m. cond (mentions q cs) (item_of t q) m) (held_after a c q s)
    ∙ one_more t c q (item_of a q) (tied q c.0) (mentions q cs) refl fits.0)

where_same : (d : Bool) (x y : Option Item) → (d ≡ false → y ≡ x) → cond d x y ≡ x
where_same true x y same = refl
where_same false x y same = same refl

-- they lead to it, where the views are the same elsewhere
pub leads : (a t : Items) (cs : List KeyChange) → InOrder a → InOrder t → Fits t cs
    → ((q : Key) → mentions q cs ≡ false → item_of a q ≡ item_of t q) → apply a cs ≡ t
leads a t cs s r fits elsewhere =
    same_views (apply a cs) t (order_applied a cs s) r
    (λ q. held_applied t a cs q s fits ∙ where_same (mentions q cs) (item_of t q) (item_of a q) (elsewhere q))

-- ---- the changes of two views

fits_case : (a t : Items) (k : Key) (ks : List Key) (b : Bool) → agree_on is_same a t k ≡ b → Fits t (changes_on ks a t) → Fits t (changes_on (k ∷ ks) a t)
fits_case a t k ks true h rest = subst (λ (l : List KeyChange). Fits t l) (sym (on_same k ks a t h)) rest
fits_case a t k ks false h rest = subst (λ (l : List KeyChange). Fits t l) (sym (on_changed k ks a t h)) (refl, rest)

pub fits_on : (a t : Items) (ks : List Key) → Fits t (changes_on ks a t)
fits_on a t [] = tt
fits_on a t (k ∷ ks) = fits_case a t k ks (agree_on is_same a t k) refl (fits_on a t ks)

abbrev pub has : Key → List Key → Bool
has q ks = list_any (tied q) ks

agree_same : (x y : Option Item) → option_eq is_same x y ≡ true → x ≡ y
agree_same None None e = refl
agree_same (Some x) (Some y) e = ap Some (same_exact x y e)
agree_same None (Some y) e = cc
agree_same (Some x) None e = cc

pub off_left : (b c : Bool) → (b || c) ≡ false → b ≡ false
off_left true c h = h
off_left false c h = refl

pub off_right : (b c : Bool) → (b || c) ≡ false → c ≡ false
off_right true c h = cc
off_right false c h = h

same_on_case : (a t : Items) (q k : Key) (ks : List Key) (b d : Bool) → agree_on is_same a t k ≡ b → tied q k ≡ d
    → mentions q (changes_on (k ∷ ks) a t) ≡ false → (d || has q ks) ≡ true
    → (mentions q (changes_on ks a t) ≡ false → has q ks ≡ true → item_of a q ≡ item_of t q) → item_of a q ≡ item_of t q
same_on_case a t q k ks true true h tie none there rest =
    let here = one_key q k tie in
    ap (item_of a) here ∙ (agree_same (item_of a k) (item_of t k) h ∙ ap (item_of t) (sym here))
same_on_case a t q k ks true false h tie none there rest = rest (subst (λ (l : List KeyChange). mentions q l ≡ false) (on_same k ks a t h) none) there
same_on_case a t q k ks false true h tie none there rest =
    let off = subst (λ (l : List KeyChange). mentions q l ≡ false) (on_changed k ks a t h) none in
    absurd (cc (sym tie ∙ off_left (tied q k) (mentions q (changes_on ks a t)) off))
same_on_case a t q k ks false false h tie none there rest =
    let off = subst (λ (l : List KeyChange). mentions q l ≡ false) (on_changed k ks a t h) none in
    rest (off_right (tied q k) (mentions q (changes_on ks a t)) off) there

-- a key without a change is the same in both
same_on : (a t : Items) (q : Key) (ks : List Key) → mentions q (changes_on ks a t) ≡ false → has q ks ≡ true → item_of a q ≡ item_of t q
same_on a t q [] none there = cc
same_on a t q (k ∷ ks) none there = same_on_case a t q k ks (agree_on is_same a t k) (tied q k) refl refl none there (same_on a t q ks)

none_by_keys_case : (e : Key × Item) (a : Items) (q : Key) (t : Bool) → tied q e.0 ≡ t
    → (t || has q (keys_of a)) ≡ false → (has q (keys_of a) ≡ false → item_of a q ≡ None) → item_of (e ∷ a) q ≡ None
none_by_keys_case e a q true h off rest = cc
none_by_keys_case e a q false h off rest = rw h (rest off)

none_by_keys : (a : Items) (q : Key) → has q (keys_of a) ≡ false → item_of a q ≡ None
none_by_keys [] q off = refl
none_by_keys (e ∷ a) q off = none_by_keys_case e a q (tied q e.0) refl off (none_by_keys a q)

cond_none : (t : Bool) (x : Item) (m : Option Item) → cond t (Some x) m ≡ None → (t ≡ false) × (m ≡ None)
cond_none true x m e = absurd (cc e)
cond_none false x m e = (refl, e)

-- a key of neither
pub none_of_both : (a t : Items) (q : Key) → has q (keys_of_both a t) ≡ false → (item_of a q ≡ None) × (item_of t q ≡ None)
none_of_both a [] q off = (none_by_keys a q off, refl)
none_of_both a (f ∷ t) q off =
    let rest = none_of_both (with_item a f) t q off in
    let parts = cond_none (tied q f.0) f.1 (item_of a q) (sym (held_with f.0 f.1 a q) ∙ rest.0) in
    (parts.1, rw (parts.0) (rest.1))

same_elsewhere : (a t : Items) (q : Key) (b : Bool) → has q (keys_of_both a t) ≡ b → mentions q (changes a t) ≡ false → item_of a q ≡ item_of t q
same_elsewhere a t q true h none = same_on a t q (keys_of_both a t) none h
same_elsewhere a t q false h none = let n = none_of_both a t q h in n.0 ∙ sym n.1

pub without_change : (a t : Items) (q : Key) → mentions q (changes a t) ≡ false → item_of a q ≡ item_of t q
without_change a t q none = same_elsewhere a t q (has q (keys_of_both a t)) refl none

pub changes_lead : (a t : Items) → InOrder a → InOrder t → apply a (changes a t) ≡ t
changes_lead a t s r = leads a t (changes a t) s r (fits_on a t (keys_of_both a t)) (without_change a t)

-- ---- meets

pub agree_none : (test : Item → Item → Bool) (a b : Items) (q : Key) → item_of a q ≡ None → item_of b q ≡ None → agree_on test a b q ≡ true
agree_none test a b q p r = λ i. option_eq test (p i) (r i)

all_at_case : (test : Item → Item → Bool) (a b : Items) (q k : Key) (ks : List Key) (d : Bool) → tied q k ≡ d
    → (agree_on test a b k && list_all (agree_on test a b) ks) ≡ true → (d || has q ks) ≡ true
    → (list_all (agree_on test a b) ks ≡ true → has q ks ≡ true → agree_on test a b q ≡ true)
    → agree_on test a b q ≡ true
all_at_case test a b q k ks true tie all there rest =
    ap (agree_on test a b) (one_key q k tie) ∙ (and_parts (agree_on test a b k) (list_all (agree_on test a b) ks) all).0
all_at_case test a b q k ks false tie all there rest = rest ((and_parts (agree_on test a b k) (list_all (agree_on test a b) ks) all).1) there

pub all_at : (test : Item → Item → Bool) (a b : Items) (q : Key) (ks : List Key) → list_all (agree_on test a b) ks ≡ true
    → has q ks ≡ true → agree_on test a b q ≡ true
all_at test a b q [] all there = cc
all_at test a b q (k ∷ ks) all there = all_at_case test a b q k ks (tied q k) refl all there (all_at test a b q ks)

pub agree_case : (test : Item → Item → Bool) (a b : Items) (q : Key) (d : Bool) → has q (keys_of_both a b) ≡ d
    → list_all (agree_on test a b) (keys_of_both a b) ≡ true → agree_on test a b q ≡ true
agree_case test a b q true h all = all_at test a b q (keys_of_both a b) all h
agree_case test a b q false h all = let n = none_of_both a b q h in agree_none test a b q n.0 n.1

agree_each : (slack : ℤ) (a b : Items) (q : Key) → meets slack a b ≡ true → agree_on (is_near slack) a b q ≡ true
agree_each slack a b q all = agree_case (is_near slack) a b q (has q (keys_of_both a b)) refl all

pub all_from : (test : Item → Item → Bool) (a b : Items) (ks : List Key) → ((q : Key) → agree_on test a b q ≡ true) → list_all (agree_on test a b) ks ≡ true
all_from test a b [] each = refl
all_from test a b (k ∷ ks) each = and_from (agree_on test a b k) (list_all (agree_on test a b) ks) (each k) (all_from test a b ks each)

keys_agree : (slack : ℤ) (x y : Option Item) → option_eq (is_near slack) x y ≡ true → is_some x ≡ is_some y
keys_agree slack None None e = refl
keys_agree slack (Some x) (Some y) e = refl
keys_agree slack None (Some y) e = cc
keys_agree slack (Some x) None e = cc

near_agree : (slack : ℤ) (x y : Option Item) (i j : Item) → option_eq (is_near slack) x y ≡ true → x ≡ Some i → y ≡ Some j → is_near slack i j ≡ true
near_agree slack x y i j e p q = sym (λ t. option_eq (is_near slack) (p t) (q t)) ∙ e

agree_from : (slack : ℤ) (x y : Option Item) → is_some x ≡ is_some y
    → ((i j : Item) → x ≡ Some i → y ≡ Some j → is_near slack i j ≡ true) → option_eq (is_near slack) x y ≡ true
agree_from slack None None same near = refl
agree_from slack (Some x) (Some y) same near = near x y refl refl
agree_from slack None (Some y) same near = absurd (cc same)
agree_from slack (Some x) None same near = absurd (cc same)

-- the test says what is stated
pub meets_stated : (slack : ℤ) (a b : Items) → (meets slack a b ≡ true) ↔ Meets slack a b
meets_stated slack a b = (
  (λ all. record {
    keys = λ q. keys_agree slack (item_of a q) (item_of b q) (agree_each slack a b q all);
    near = λ q i j p r. near_agree slack (item_of a q) (item_of b q) i j (agree_each slack a b q all) p r;
  }),
  (λ m. all_from (is_near slack) a b (keys_of_both a b) (λ q. agree_from slack (item_of a q) (item_of b q) (m.keys q) (m.near q))),
)
