-- What is held of a key where the items that pass a test are kept.
use Rattle.std.proofs.Common.{◌≡◌, [], ◌∷◌, filter, Bool, true, false, cond, is_some, Option, Some, None, refl, ap, sym, ◌∙◌}
use Rattle.std.specs.List.{AllByRecursion}
use Rattle.std.specs.List.Sorted.{IsStrictlySortedBy}
use Rattle.std.specs.Map.{keys_of}
use Rattle.std.specs.declared.cmp.Ordering.TheVariants.{Less}
use Rattle.siri_records.specs.declared.item.Item.{Item}
use Rattle.siri_records.specs.declared.key.Key.{Key}
use Rattle.siri_records.specs.Keyed.{Items, InOrder, item_of}
use Rattle.siri_records.specs.KeyLists.{is_among}
use Rattle.siri_records.specs.Order.{key_cmp}
use Rattle.siri_records.proofs.Kept.{sorted_kept, all_kept}
use Rattle.siri_records.proofs.KeyLists.{tied, one_key, among_keys}

-- the items that pass are in order
pub order_kept : (p : Item → Bool) (items : Items) → InOrder items → InOrder (filter (λ e. p e.1) items)
order_kept p items s = sorted_kept (λ (e : Key × Item). p e.1) key_cmp items s

-- an item where it passes
abbrev pub kept_if : (Item → Bool) → Option Item → Option Item
kept_if p None = None
kept_if p (Some i) = cond (p i) (Some i) None

none_above : (k : Key) (items : Items) → AllByRecursion (λ y. key_cmp k y ≡ Less) (keys_of items) → item_of items k ≡ None
none_above k [] above = refl
none_above k (e ∷ items) above = rw (above.0) (none_above k items above.1)

item_kept_case : (p : Item → Bool) (k : Key) (e : Key × Item) (items : Items) (b t : Bool) → p e.1 ≡ b → tied k e.0 ≡ t
    → AllByRecursion (λ y. key_cmp e.0 y ≡ Less) (keys_of items)
    → item_of (filter (λ f. p f.1) items) k ≡ kept_if p (item_of items k)
    → item_of (filter (λ f. p f.1) (e ∷ items)) k ≡ kept_if p (item_of (e ∷ items) k)
item_kept_case p k e items true true h tie above rest = rw h (rw tie (sym (ap (λ c. cond c (Some e.1) None) h)))
item_kept_case p k e items true false h tie above rest = rw h (rw tie rest)
item_kept_case p k e items false true h tie above rest =
    let over = all_kept (λ (f : Key × Item). p f.1) (λ y. key_cmp e.0 y ≡ Less) items above in
    let none : item_of (filter (λ f. p f.1) items) k ≡ None =
    ap (item_of (filter (λ f. p f.1) items)) (one_key k e.0 tie) ∙ none_above e.0 (filter (λ f. p f.1) items) over in
    rw h (rw tie (none ∙ sym (ap (λ c. cond c (Some e.1) None) h)))
item_kept_case p k e items false false h tie above rest = rw h (rw tie rest)

-- what passes is found where it was
pub item_kept : (p : Item → Bool) (k : Key) (items : Items) → InOrder items
    → item_of (filter (λ f. p f.1) items) k ≡ kept_if p (item_of items k)
unfolding IsStrictlySortedBy
item_kept p k [] s = refl
item_kept p k (e ∷ items) s = item_kept_case p k e items (p e.1) (tied k e.0) refl refl s.0 (item_kept p k items s.1)

-- ---- keys of items

none_some : (x : Option Item) → is_some x ≡ false → x ≡ None
none_some None h = refl
none_some (Some i) h = absurd (cc h)

-- a key that isn't among those of items has none
pub none_out : (items : Items) (q : Key) → is_among q (keys_of items) ≡ false → item_of items q ≡ None
none_out items q out = none_some (item_of items q) (sym (among_keys q items) ∙ out)
