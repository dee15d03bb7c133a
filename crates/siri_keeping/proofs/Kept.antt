-- What is kept after a feed.
use Rattle.std.proofs.Common.{◌≡◌, ◌≢◌, ◌⊎◌, ℕ, List, [], ◌∷◌, map, fold, cond, Bool, true, false, ◌||◌, not, Option, None}
use Rattle.std.proofs.Common.{Some, Result, Ok, Err, refl, ap, sym, ◌∙◌, subst, inl, inr, append-nil}
use Rattle.std.specs.Prelude.{option_map, IsSome}
use Rattle.std.specs.List.{AllByRecursion as All}
use Rattle.std.specs.Cmp.{tied_itself}
use Rattle.std.specs.Ordering.{is_eq}
use Rattle.std.proofs.lemmas.Map.Entries.{option_filter}
use Rattle.siri_outside.specs.declared.errors.OutsideError.{OutsideError}
use Rattle.siri_outside.specs.declared.errors.OutsideError.TheVariants as outside
use Rattle.siri_records.specs.declared.item.Item.{Item}
use Rattle.siri_records.specs.declared.key.Key.{Key}
use Rattle.siri_records.specs.Ends.{is_dead}
use Rattle.siri_records.specs.Keyed.{InOrder, Items, after_change, apply, item_of}
use Rattle.siri_records.specs.Order.{key_cmp, key_cmp_total}
use Rattle.siri_records.proofs.KeyLists.{one_key}
use Rattle.siri_records.proofs.Order.{key_cmp_exact}
use Rattle.siri_model.specs.History.{Entry, after_entry}
use Rattle.siri_model.specs.Last.{after_one, entry_key, is_of}
use Rattle.siri_model.proofs.Current.{entry_leaves, lookup_inserted, lookup_removed}
use Rattle.siri_model.proofs.Entries.{sorted_inserted, sorted_removed}
use Rattle.siri_model.proofs.InOrder.{in_order_after, in_order_all}
use Rattle.siri_outside.specs.declared.rows.Put.{Put}
use Rattle.siri_outside.specs.Rows.{RowPlace, Rows, place_cmp, text_at, with_put, with_puts}
use Rattle.siri_outside.proofs.Order.{place_total}
use Rattle.siri_outside.specs.Shelves.{ShelfState, Writes}
use Rattle.siri_row_texts.specs.ItemRows.{item_text, key_text}
use Rattle.siri_row_texts.proofs.Rows.{one_text_one_key}
use Rattle.siri_keeping.specs.Keeping.{AddsOnly, Covers, HasItems, IsProperKey, change_to, changes_to, live_after}
use Rattle.siri_keeping.specs.Keeping.{live_of, put_to, puts_to}
use Rattle.siri_keeping.proofs.Found.{place_exact, text_elsewhere, text_there, tied_is}
use Rattle.siri_keeping.proofs.LiveItems.{live_at}

-- ---- keys

same_key : (k j : Key) → k ≡ j → is_eq (key_cmp k j) ≡ true
same_key k j e = ap (λ x. is_eq (key_cmp k x)) (sym e) ∙ ap is_eq (tied_itself key_cmp_total k)

pub texts_differ : (k j : Key) → IsProperKey k → IsProperKey j → key_text k ≡ key_text j → k ≡ j
texts_differ k j p q e = one_text_one_key p.0 q.0 k j p.1 q.1 e

-- a key is among these
abbrev pub is_named : Key → List Key → Bool
is_named k [] = false
is_named k (j ∷ keys) = is_eq (key_cmp k j) || is_named k keys

-- ---- items, one change after the other

changed_in_order : (m : Items) (k : Key) (o : Option Item) → InOrder m → InOrder (after_change m (k, o))
changed_in_order m k None s = sorted_removed key_cmp_total k m s
changed_in_order m k (Some i) s = sorted_inserted key_cmp_total k i m s

changed_leaves : (m : Items) (k j : Key) (o : Option Item) → InOrder m
    → item_of (after_change m (j, o)) k ≡ cond (is_eq (key_cmp k j)) o (item_of m k)
changed_leaves m k j None s = lookup_removed key_cmp_total key_cmp_exact k j m s
changed_leaves m k j (Some i) s = lookup_inserted key_cmp_total key_cmp_exact k j i m

-- after the changes of some keys, a key has what is live of it where it is named, and what it had where it isn't
leaves_at : (live m : Items) (k j : Key) (keys : List Key) (b c : Bool) → is_eq (key_cmp k j) ≡ b → is_named k keys ≡ c
    → item_of (apply (after_change m (change_to live j)) (changes_to live keys)) k ≡ cond c (item_of live k) (item_of (after_change m (change_to live j)) k)
    → item_of (after_change m (change_to live j)) k ≡ cond b (item_of live j) (item_of m k)
    → item_of (apply m (changes_to live (j ∷ keys))) k ≡ cond (is_named k (j ∷ keys)) (item_of live k) (item_of m k)
leaves_at live m k j keys true true e n rest one = rw e rest
leaves_at live m k j keys true false e n rest one = rw e (rest ∙ one ∙ ap (item_of live) (sym (one_key k j e)))
leaves_at live m k j keys false true e n rest one = rw (e, n) rest
leaves_at live m k j keys false false e n rest one = rw (e, n) (rest ∙ one)

pub changes_leave : (live : Items) (k : Key) (keys : List Key) (m : Items) → InOrder m
    → item_of (apply m (changes_to live keys)) k ≡ cond (is_named k keys) (item_of live k) (item_of m k)
changes_leave live k [] m s = refl
changes_leave live k (j ∷ keys) m s =
    let after = after_change m (change_to live j) in
    let rest = changes_leave live k keys after (changed_in_order m j (item_of live j) s) in
    leaves_at live m k j keys (is_eq (key_cmp k j)) (is_named k keys) refl refl rest (changed_leaves m k j (item_of live j) s)

-- ---- rows, one put after the other

module _ (live : Items) where
  abbrev place : Key → RowPlace
  place k = (1, key_text k)

  -- the text at a key's place, and what is written of the item of a key
  abbrev row_at : Rows → Key → Option (List ℕ)
  row_at rows k = text_at rows 1 (key_text k)

  abbrev written : Items → Key → Option (List ℕ)
  written items k = option_map item_text (item_of items k)

  differ : (k j : Key) → IsProperKey k → IsProperKey j → is_eq (key_cmp k j) ≡ false → place k ≡ place j → ⊥
  differ k j p q apart same = cc (same_key k j (texts_differ k j p q (ap (λ (at : RowPlace). at.1) same)), apart)

  put_at : (rows : Rows) (k j : Key) → IsProperKey k → IsProperKey j → (b : Bool) → is_eq (key_cmp k j) ≡ b
      → row_at (with_put rows (put_to live j)) k ≡ cond b (written live j) (row_at rows k)
  put_at rows k j p q true e =
      ap (λ x. row_at (with_put rows (put_to live j)) x) (one_key k j e) ∙ text_there (put_to live j) rows
  put_at rows k j p q false e = text_elsewhere (put_to live j) rows (place k) (differ k j p q e)

  rows_at : (rows : Rows) (k j : Key) (keys : List Key) (b c : Bool) → is_eq (key_cmp k j) ≡ b → is_named k keys ≡ c
      → row_at (with_puts (with_put rows (put_to live j)) (puts_to live keys)) k
      ≡ cond c (written live k) (row_at (with_put rows (put_to live j)) k)
      → row_at (with_put rows (put_to live j)) k ≡ cond b (written live j) (row_at rows k)
      → row_at (with_puts rows (puts_to live (j ∷ keys))) k ≡ cond (is_named k (j ∷ keys)) (written live k) (row_at rows k)
  rows_at rows k j keys true true e n rest one = rw e rest
  rows_at rows k j keys true false e n rest one =
      rw e (rest ∙ one ∙ ap (λ x. written live x) (sym (one_key k j e)))
  rows_at rows k j keys false true e n rest one = rw (e, n) rest
  rows_at rows k j keys false false e n rest one = rw (e, n) (rest ∙ one)

  puts_leave : (k : Key) → IsProperKey k → (keys : List Key) → All IsProperKey keys → (rows : Rows)
      → row_at (with_puts rows (puts_to live keys)) k ≡ cond (is_named k keys) (written live k) (row_at rows k)
  puts_leave k p [] are rows = refl
  puts_leave k p (j ∷ keys) are rows =
      rows_at rows k j keys (is_eq (key_cmp k j)) (is_named k keys) refl refl
      (puts_leave k p keys are.1 (with_put rows (put_to live j))) (put_at rows k j p are.0 (is_eq (key_cmp k j)) refl)

  -- a row of table 1 is of a key
  abbrev IsOfKey : List ℕ → Type 0
  IsOfKey key = (k : Key) × IsProperKey k × (key ≡ key_text k)

  abbrev AreOfKeys : Rows → Type 0
  AreOfKeys rows = (key : List ℕ) → IsSome (text_at rows 1 key) → IsOfKey key

  decided : (j : Key) → IsProperKey j → (key : List ℕ) (b : Bool) → is_eq (place_cmp (1, key) (place j)) ≡ b → IsOfKey key ⊎ ((1, key) ≡ place j → ⊥)
  decided j is key true e = inl (j, is, ap (λ (p : RowPlace). p.1) (place_exact (1, key) (place j) (tied_is (place_cmp (1, key) (place j)) e)))
  decided j is key false e =
      inr (λ same. cc (ap (λ (p : RowPlace). is_eq (place_cmp p (place j))) same ∙ ap is_eq (tied_itself place_total (place j)), e))

  one_of_keys : (rows : Rows) (j : Key) → IsProperKey j → AreOfKeys rows → AreOfKeys (with_put rows (put_to live j))
  one_of_keys rows j is are key some = elim (decided j is key (is_eq (place_cmp (1, key) (place j))) refl) [
    | inl of ↦ of
    | inr apart ↦ are key (subst IsSome (text_elsewhere (put_to live j) rows (1, key) apart) some)
  ]

  all_of_keys : (keys : List Key) → All IsProperKey keys → (rows : Rows) → AreOfKeys rows → AreOfKeys (with_puts rows (puts_to live keys))
  all_of_keys [] proper rows are = are
  all_of_keys (j ∷ keys) proper rows are =
      all_of_keys keys proper.1 (with_put rows (put_to live j)) (one_of_keys rows j proper.0 are)

  combined : (m : Items) (k : Key) (b : Bool)
      → cond b (written live k) (written m k) ≡ option_map item_text (cond b (item_of live k) (item_of m k))
  combined m k true = refl
  combined m k false = refl

  pub each_kept : (rows : Rows) (m : Items) (keys : List Key) → All IsProperKey keys → InOrder m
      → ((k : Key) → IsProperKey k → row_at rows k ≡ written m k)
      → (k : Key) → IsProperKey k
      → row_at (with_puts rows (puts_to live keys)) k ≡ written (apply m (changes_to live keys)) k
  each_kept rows m keys proper s each k p =
      puts_leave k p keys proper rows
      ∙ ap (cond (is_named k keys) (written live k)) (each k p)
      ∙ combined m k (is_named k keys)
      ∙ ap (option_map item_text) (sym (changes_leave live k keys m s))

pub has_items_after : (live : Items) (rows : Rows) (mirror : Items) (keys : List Key) → All IsProperKey keys
    → InOrder mirror → HasItems rows mirror → HasItems (with_puts rows (puts_to live keys)) (apply mirror (changes_to live keys))
has_items_after live rows mirror keys proper s has = record {
  each = each_kept live rows mirror keys proper s has.each;
  only = all_of_keys live keys proper rows has.only;
}

-- other tables stay
pub others_stay : (live : Items) (keys : List Key) (rows : Rows) (table : ℕ) (key : List ℕ) → table ≢ 1
    → text_at (with_puts rows (puts_to live keys)) table key ≡ text_at rows table key
others_stay live [] rows table key apart = refl
others_stay live (j ∷ keys) rows table key apart =
    others_stay live keys (with_put rows (put_to live j)) table key apart
    ∙ text_elsewhere (put_to live j) rows (table, key) (λ same. apart (ap (λ (p : RowPlace). p.0) same))

-- ---- live items

unnamed_at : (now : ℕ) (items : Items) (k : Key) (e : Entry) (entries : List Entry) (b : Bool) → is_of k e ≡ b
    → is_named k (map entry_key (e ∷ entries)) ≡ false
    → (is_named k (map entry_key entries) ≡ false) × (after_one now items k (item_of items k) e ≡ item_of items k)
unnamed_at now items k e entries true h none = absurd (cc (h, none))
unnamed_at now items k e entries false h none = (rw h at none, rw h refl)

-- a key that no entry names has the item that it had
pub unnamed_same : (now : ℕ) (k : Key) (entries : List Entry) (items : Items) → InOrder items
    → is_named k (map entry_key entries) ≡ false → item_of (fold (after_entry now) items entries) k ≡ item_of items k
unnamed_same now k [] items s none = refl
unnamed_same now k (e ∷ entries) items s none =
    let one = unnamed_at now items k e entries (is_of k e) refl none in
    unnamed_same now k entries (after_entry now items e) (in_order_after now items e s) one.0 ∙ entry_leaves now items k e s ∙ one.1

unnamed_live : (now : ℕ) (k : Key) (entries : List Entry) (items : Items) → InOrder items → is_named k (map entry_key entries) ≡ false
    → item_of (live_after now items entries) k ≡ item_of (live_of now items) k
unnamed_live now k entries items s none =
    live_at now (fold (after_entry now) items entries) k (in_order_all now items entries s)
    ∙ ap (option_filter (λ i. not (is_dead i now))) (unnamed_same now k entries items s none)
    ∙ sym (live_at now items k s)

module _ (now : ℕ) (items mirror : Items) (entries : List Entry) (s : InOrder items) (t : InOrder mirror)
    (covers : Covers now (live_of now items) mirror) where
  abbrev keys : List Key
  keys = map entry_key entries

  abbrev after : Items
  after = live_after now items entries

  abbrev kept : Items
  kept = apply mirror (changes_to after keys)

  live_case : (k : Key) (i : Item) (b : Bool) → is_named k keys ≡ b → item_of after k ≡ Some i
      → cond b (item_of after k) (item_of mirror k) ≡ Some i
  live_case k i true n h = h
  live_case k i false n h = covers.has_live k i (sym (unnamed_live now k entries items s n) ∙ h)

  rest_case : (k : Key) (i : Item) (b : Bool) → is_named k keys ≡ b → cond b (item_of after k) (item_of mirror k) ≡ Some i
      → (item_of after k ≡ Some i) ⊎ (is_dead i now ≡ true)
  rest_case k i true n h = inl h
  rest_case k i false n h = elim (covers.rest_dead k i h) [
    | inl live ↦ inl (unnamed_live now k entries items s n ∙ live)
    | inr dead ↦ inr dead
  ]

  pub covers_after : Covers now (live_after now items entries) (apply mirror (changes_to (live_after now items entries) (map entry_key entries)))
  covers_after = record {
    has_live = λ k i h. changes_leave after k keys mirror t ∙ live_case k i (is_named k keys) refl h;
    rest_dead = λ k i h. rest_case k i (is_named k keys) refl (sym (changes_leave after k keys mirror t) ∙ h);
  }

-- ---- what was live stays live

stays_live : (live : Items) (k : Key) (i : Item) (had : Option Item) (b : Bool) → item_of live k ≡ Some i → had ≡ Some i
    → cond b (item_of live k) had ≡ Some i
stays_live live k i had true e h = e
stays_live live k i had false e h = h

stays_dead : (now : ℕ) (live : Items) (k : Key) (i : Item) (had : Option Item) (b : Bool) → cond b (item_of live k) had ≡ Some i
    → (had ≡ Some i → (item_of live k ≡ Some i) ⊎ (is_dead i now ≡ true)) → (item_of live k ≡ Some i) ⊎ (is_dead i now ≡ true)
stays_dead now live k i had true e rest = inl e
stays_dead now live k i had false e rest = rest e

-- the puts of any keys, by what is live
pub covers_still : (now : ℕ) (live mirror : Items) (keys : List Key) → InOrder mirror → Covers now live mirror
    → Covers now live (apply mirror (changes_to live keys))
covers_still now live mirror keys s covers = record {
  has_live =
      λ k i h. changes_leave live k keys mirror s ∙ stays_live live k i (item_of mirror k) (is_named k keys) h (covers.has_live k i h);
  rest_dead =
      λ k i h. stays_dead now live k i (item_of mirror k) (is_named k keys) (sym (changes_leave live k keys mirror s) ∙ h) (covers.rest_dead k i);
}

-- ---- stops

pub stop_leaves : {T : Type 0} (Before After : Rows → Type 0) (puts : List Put) (old new : ShelfState) (result : Result T OutsideError)
    → Writes puts old new result → Before old.rows → After (with_puts old.rows puts) → AddsOnly Before After old new
stop_leaves Before After puts old new (Ok done) w was will =
    let there : After new.rows = subst After (sym w.rows) will in
    record { added = new.rows ∷ []; trail = w.trail; each = (inr there, tt); present = inr there; named = w.named }
stop_leaves Before After puts old new (Err outside.Failed) w was will =
    record {
      added =
          with_puts old.rows puts ∷ old.rows ∷ [];
      trail = w.trail;
      each = (inr will, (inl was, tt));
      present = inl (subst Before (sym w.rows) was);
      named = w.named;
    }
stop_leaves Before After puts old new (Err outside.OutOfMemory) (inl same) was will =
    record {
      added =
          [];
      trail = ap (λ (s : ShelfState). s.trail) same ∙ sym (append-nil old.trail);
      each = tt;
      present = inl (subst (λ (s : ShelfState). Before s.rows) (sym same) was);
      named = ap (λ (s : ShelfState). s.named) same;
    }
stop_leaves Before After puts old new (Err outside.OutOfMemory) (inr w) was will =
    record {
      added =
          with_puts old.rows puts ∷ old.rows ∷ [];
      trail = w.trail;
      each = (inr will, (inl was, tt));
      present = inl (subst Before (sym w.rows) was);
      named = w.named;
    }

-- what was there, or what is there with the puts
pub stop_leaves_these : {T : Type 0} (puts : List Put) (old new : ShelfState) (result : Result T OutsideError)
    → Writes puts old new result → AddsOnly (λ rows. rows ≡ old.rows) (λ rows. rows ≡ with_puts old.rows puts) old new
stop_leaves_these puts old new result w =
    stop_leaves (λ rows. rows ≡ old.rows) (λ rows. rows ≡ with_puts old.rows puts) puts old new result w refl refl
