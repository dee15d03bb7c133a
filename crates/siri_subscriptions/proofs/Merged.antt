-- What was found, merged with items that are held.
use Rattle.std.proofs.Common.{◌≡◌, ℕ, ◌+◌, List, [], ◌∷◌, ◌++◌, drop, fold, filter, Bool, true, false}
use Rattle.std.proofs.Common.{Some, None, slice_get, refl, ap, sym, ◌∙◌, append_assoc}
use Rattle.std.specs.BTreeSet.{insert_key}
use Rattle.std.specs.List.{AllByRecursion}
use Rattle.std.specs.List.Sorted.{IsStrictlySortedBy}
use Rattle.std.specs.Map.{keys_of}
use Rattle.std.specs.declared.cmp.Ordering.{Ordering}
use Rattle.std.specs.declared.cmp.Ordering.TheVariants.{Less, Equal, Greater}
use Rattle.siri_records.specs.declared.item.Item.{Item}
use Rattle.siri_records.specs.declared.key.Key.{Key}
use Rattle.siri_records.specs.KeyLists.{with_keys}
use Rattle.siri_records.specs.Keyed.{Items, InOrder, KeyChange, item_of}
use Rattle.siri_records.specs.Order.{key_cmp}
use Rattle.siri_records.proofs.Order.{key_cmp_exact}
use Rattle.siri_records.proofs.Placed.{drop_at, drop_past}
use Rattle.siri_change.proofs.Walks.{Above, above_rest, reversed, item_here, item_later}
use Rattle.siri_model.specs.Looks.{found_of}
use Rattle.siri_subscriptions.specs.Again.{with_held}

-- ---- from two places on

-- what is left to merge
abbrev pub merging : List KeyChange → Items → ℕ → ℕ → List KeyChange
merging found items i j = fold with_held (drop i found) (drop j items)

with_later : (c : KeyChange) (found : List KeyChange) (e : Key × Item) → key_cmp c.0 e.0 ≡ Less
    → with_held (c ∷ found) e ≡ c ∷ with_held found e
with_later c found e below = rw (reversed e.0 c.0 Less below) refl

-- a change below all items comes first
merged_first : (c : KeyChange) (found : List KeyChange) (items : Items) → Above c.0 items
    → fold with_held (c ∷ found) items ≡ c ∷ fold with_held found items
merged_first c found [] above = refl
merged_first c found (e ∷ items) above =
    ap (λ l. fold with_held l items) (with_later c found e above.0) ∙ merged_first c (with_held found e) items above.1

abbrev held : Key × Item → KeyChange
held e = (e.0, Some e.1)

below_case : (c : KeyChange) (found : List KeyChange) (e : Key × Item) → key_cmp c.0 e.0 ≡ Greater
    → with_held (c ∷ found) e ≡ held e ∷ c ∷ found
below_case c found e over = rw (reversed e.0 c.0 Greater over) refl

tied_case : (c : KeyChange) (found : List KeyChange) (e : Key × Item) → key_cmp c.0 e.0 ≡ Equal
    → with_held (c ∷ found) e ≡ held e ∷ found
tied_case c found e tie = rw (reversed e.0 c.0 Equal tie) (λ i. (key_cmp_exact c.0 e.0 tie i, Some e.1) ∷ found)

module _ (found : List KeyChange) (items : Items) (i j : ℕ) where
  pub none_left : None ≡ slice_get found i → None ≡ slice_get items j → merging found items i j ≡ []
  none_left is also = rw (drop_past found i (sym is), drop_past items j (sym also)) refl

  -- the next of what was found comes first
  pub found_next : (c : KeyChange) → Some c ≡ slice_get found i → Above c.0 (drop j items)
      → merging found items i j ≡ c ∷ merging found items (i + 1) j
  found_next c is above = ap (λ l. fold with_held l (drop j items)) (drop_at found i c (sym is))
      ∙ merged_first c (drop (i + 1) found) (drop j items) above

  items_at : (e : Key × Item) (l : List KeyChange) → Some e ≡ slice_get items j
      → fold with_held l (drop j items) ≡ fold with_held (with_held l e) (drop (j + 1) items)
  items_at e l is = ap (fold with_held l) (drop_at items j e (sym is))

  -- the next item comes first: where nothing is left of what was found, or it is below that, or it is of the same key
  pub item_last : (e : Key × Item) → InOrder items → None ≡ slice_get found i → Some e ≡ slice_get items j
      → merging found items i j ≡ held e ∷ merging found items i (j + 1)
  item_last e s is also =
      let none = drop_past found i (sym is) in
      ap (λ l. fold with_held l (drop j items)) none
      ∙ (items_at e [] also
      ∙ (merged_first (held e) [] (drop (j + 1) items) (above_rest items j e s also)
      ∙ ap (λ l. held e ∷ fold with_held l (drop (j + 1) items)) (sym none)))

  pub item_next : (c : KeyChange) (e : Key × Item) → InOrder items → Some c ≡ slice_get found i
      → Some e ≡ slice_get items j
      → key_cmp c.0 e.0 ≡ Greater → merging found items i j ≡ held e ∷ merging found items i (j + 1)
  item_next c e s is also over =
      let here = drop_at found i c (sym is) in
      ap (λ l. fold with_held l (drop j items)) here
      ∙ (items_at e (c ∷ drop (i + 1) found) also
      ∙ (ap (λ l. fold with_held l (drop (j + 1) items)) (below_case c (drop (i + 1) found) e over)
      ∙ (merged_first (held e) (c ∷ drop (i + 1) found) (drop (j + 1) items) (above_rest items j e s also)
      ∙ ap (λ l. held e ∷ fold with_held l (drop (j + 1) items)) (sym here))))

  pub item_tied : (c : KeyChange) (e : Key × Item) → InOrder items → Some c ≡ slice_get found i
      → Some e ≡ slice_get items j
      → key_cmp c.0 e.0 ≡ Equal → merging found items i j ≡ held e ∷ merging found items (i + 1) (j + 1)
  item_tied c e s is also tie =
      ap (λ l. fold with_held l (drop j items)) (drop_at found i c (sym is))
      ∙ (items_at e (c ∷ drop (i + 1) found) also
      ∙ (ap (λ l. fold with_held l (drop (j + 1) items)) (tied_case c (drop (i + 1) found) e tie)
      ∙ merged_first (held e) (drop (i + 1) found) (drop (j + 1) items) (above_rest items j e s also)))

-- one more was written
pub written : (done more now next whole : List KeyChange) (c d : KeyChange) → more ≡ done ++ c ∷ [] → c ≡ d
    → now ≡ d ∷ next → done ++ now ≡ whole → more ++ next ≡ whole
written done more now next whole c d one same step all =
    ap (λ l. l ++ next) one ∙ (append_assoc done (c ∷ []) next
    ∙ (ap (λ x. done ++ x ∷ next) same ∙ (ap (λ l. done ++ l) (sym step) ∙ all)))

-- ---- what is found of the keys of both

-- these items are the ones that are held of their keys
abbrev pub AreHeld : Items → Items → Type 0
AreHeld items es = AllByRecursion (λ e. item_of items e.0 ≡ Some e.1) es

with_case : (items : Items) (k x : Key) (i : Item) (keys : List Key) (o : Ordering) → key_cmp k x ≡ o
    → item_of items k ≡ Some i
    → with_held (found_of items keys) (k, i) ≡ found_of items (insert_key key_cmp keys k)
    → with_held (found_of items (x ∷ keys)) (k, i) ≡ found_of items (insert_key key_cmp (x ∷ keys) k)
with_case items k x i keys Less o is rest = rw o (λ j. (k, sym is j) ∷ (x, item_of items x) ∷ found_of items keys)
with_case items k x i keys Equal o is rest =
    rw o (λ j. (x, (sym is ∙ ap (item_of items) (key_cmp_exact k x o)) j) ∷ found_of items keys)
with_case items k x i keys Greater o is rest = rw o (λ j. (x, item_of items x) ∷ rest j)

found_with : (items : Items) (k : Key) (i : Item) (keys : List Key) → item_of items k ≡ Some i
    → with_held (found_of items keys) (k, i) ≡ found_of items (insert_key key_cmp keys k)
found_with items k i [] is = λ j. (k, sym is j) ∷ []
found_with items k i (x ∷ keys) is = with_case items k x i keys (key_cmp k x) refl is (found_with items k i keys is)

pub found_merged : (items es : Items) (keys : List Key) → AreHeld items es
    → fold with_held (found_of items keys) es ≡ found_of items (with_keys keys (keys_of es))
found_merged items [] keys are = refl
found_merged items (e ∷ es) keys are =
    ap (λ l. fold with_held l es) (found_with items e.0 e.1 keys are.0)
    ∙ found_merged items es (insert_key key_cmp keys e.0) are.1

-- ---- items that pass a test are held

later_held : (e : Key × Item) (items es : Items) → Above e.0 es → AreHeld items es → AreHeld (e ∷ items) es
later_held e items [] above are = tt
later_held e items (f ∷ es) above are = (item_later e items f.0 above.0 ∙ are.0, later_held e items es above.1 are.1)

above_passing_case : (p : Key × Item → Bool) (k : Key) (e : Key × Item) (items : Items) (b : Bool) → p e ≡ b
    → Above k (e ∷ items)
    → Above k (filter p items) → Above k (filter p (e ∷ items))
above_passing_case p k e items true h above rest = rw h (above.0, rest)
above_passing_case p k e items false h above rest = rw h rest

above_passing : (p : Key × Item → Bool) (k : Key) (items : Items) → Above k items → Above k (filter p items)
above_passing p k [] above = tt
above_passing p k (e ∷ items) above = above_passing_case p k e items (p e) refl above (above_passing p k items above.1)

held_case : (p : Key × Item → Bool) (e : Key × Item) (items : Items) (b : Bool) → p e ≡ b → Above e.0 items
    → AreHeld items (filter p items) → AreHeld (e ∷ items) (filter p (e ∷ items))
held_case p e items true h above rest =
    rw h (item_here e.0 e.1 items, later_held e items (filter p items) (above_passing p e.0 items above) rest)
held_case p e items false h above rest = rw h (later_held e items (filter p items)
    (above_passing p e.0 items above) rest)

pub passing_held : (p : Key × Item → Bool) (items : Items) → InOrder items → AreHeld items (filter p items)
unfolding IsStrictlySortedBy
passing_held p [] s = tt
passing_held p (e ∷ items) s = held_case p e items (p e) refl s.0 (passing_held p items s.1)

some_case : (items : Items) (p : Key × Item → Bool) (e : Key × Item) (es : Items) (b : Bool) → p e ≡ b
    → item_of items e.0 ≡ Some e.1 → AreHeld items (filter p es) → AreHeld items (filter p (e ∷ es))
some_case items p e es true h here rest = rw h (here, rest)
some_case items p e es false h here rest = rw h rest

-- and so are some of items that are held
pub some_held : (items : Items) (p : Key × Item → Bool) (es : Items) → AreHeld items es → AreHeld items (filter p es)
some_held items p [] are = tt
some_held items p (e ∷ es) are = some_case items p e es (p e) refl are.0 (some_held items p es are.1)
