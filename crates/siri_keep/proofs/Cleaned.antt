-- The rows of dead items leave.
use Rattle.std.proofs.Common.{◌≡◌, ℕ, List, [], ◌∷◌, Bool, true, false, cond, Option, None, Some, refl, sym, ap, ◌∙◌, inl, inr}
use Rattle.std.specs.Prelude.{option_map}
use Rattle.std.specs.List.{AllByRecursion as All, Contains}
use Rattle.std.specs.Cmp.{eq_by_cmp_equiv}
use Rattle.std.specs.Map.{keys_of}
use Rattle.std.specs.Ordering.{is_eq}
use Rattle.std.proofs.lemmas.List.Elements.{All-contains, All-contains_itself, All-weaker}
use Rattle.std.proofs.lemmas.Map.Entries.{lookup-filter-values, option_filter}
use Rattle.std.proofs.lemmas.Map.Keys.{IsDistinct-from_sorted}
use Rattle.std.proofs.lemmas.Map.Views.{Contains-from_lookup, lookup-from_Contains}
use Rattle.siri_records.specs.declared.item.Item.{Item}
use Rattle.siri_records.specs.declared.key.Key.{Key}
use Rattle.siri_records.specs.Ends.{is_dead}
use Rattle.siri_records.specs.Keyed.{InOrder, Items, apply, dead_of, item_of}
use Rattle.siri_records.specs.Order.{key_cmp, key_cmp_total}
use Rattle.siri_records.proofs.KeyLists.{one_key}
use Rattle.siri_change.proofs.Leads.{order_applied, same_views}
use Rattle.siri_row_texts.specs.ItemRows.{item_text, key_text}
use Rattle.siri_model.proofs.Entries.{sorted_passing}
use Rattle.siri_keeping.specs.Keeping.{Covers, changes_to, puts_to}
use Rattle.siri_keeping.proofs.Kept.{changes_leave, is_named}
use Rattle.siri_keep.proofs.Alls.{all_mapped, all_of_each, each_of_all}
use Rattle.siri_keep.proofs.Written.{passed}

-- ---- what holds of each item that is found

pub all_by_items : (Q : Key × Item → Type 0) (m : Items) → InOrder m → ((k : Key) (i : Item) → item_of m k ≡ Some i → Q (k, i)) → All Q m
all_by_items Q m s each =
    let there : (e : Key × Item) → Contains m e → Q e = λ e c.
    each e.0 e.1 (lookup-from_Contains (eq_by_cmp_equiv key_cmp_total) e.0 e.1 m (IsDistinct-from_sorted key_cmp _ s) c) in
    all_of_each Q m (All-weaker (Contains m) Q there m (All-contains_itself m))

pub item_by_all : (Q : Key × Item → Type 0) (m : Items) (k : Key) (i : Item) → All Q m → item_of m k ≡ Some i → Q (k, i)
item_by_all Q m k i all at = All-contains Q m (k, i) (each_of_all Q m all) (Contains-from_lookup one_key k i m at)

-- ---- dead items

named_here : (k : Key) (i : Item) (e : Key × Item) (items : Items) (b : Bool) → is_eq (key_cmp k e.0) ≡ b
    → item_of (e ∷ items) k ≡ Some i → (item_of items k ≡ Some i → is_named k (keys_of items) ≡ true)
    → is_named k (keys_of (e ∷ items)) ≡ true
named_here k i e items true h at rest = rw h refl
named_here k i e items false h at rest = rw h (rest (rw h at at))

-- a key with an item among these is named among their keys
named_at : (k : Key) (i : Item) (items : Items) → item_of items k ≡ Some i → is_named k (keys_of items) ≡ true
named_at k i [] at = cc
named_at k i (e ∷ items) at = named_here k i e items (is_eq (key_cmp k e.0)) refl at (named_at k i items)

-- keys of which none is live
changes_none : (live : Items) (keys : List Key) → All (λ k. item_of live k ≡ None) keys → changes_to live keys ≡ changes_to [] keys
changes_none live [] all = refl
changes_none live (k ∷ keys) all = λ i. (k, all.0 i) ∷ changes_none live keys all.1 i

puts_none : (live : Items) (keys : List Key) → All (λ k. item_of live k ≡ None) keys → puts_to live keys ≡ puts_to [] keys
puts_none live [] all = refl
puts_none live (k ∷ keys) all =
    λ i. record { table = 1; key = key_text k; text = option_map item_text (all.0 i) } ∷ puts_none live keys all.1 i

dead_passes : (now : ℕ) (i : Item) → is_dead i now ≡ true → option_filter (λ i. is_dead i now) (Some i) ≡ Some i
dead_passes now i dead = rw dead refl

module _ (now : ℕ) (live mirror : Items) (s : InOrder live) (t : InOrder mirror) (covers : Covers now live mirror) where
  abbrev pub dead_keys : List Key
  dead_keys = keys_of (dead_of now mirror)

  dead_named : (k : Key) (i : Item) → item_of mirror k ≡ Some i → is_dead i now ≡ true → is_named k dead_keys ≡ true
  dead_named k i at dead = named_at k i (dead_of now mirror)
      (lookup-filter-values (eq_by_cmp_equiv key_cmp_total) (λ i. is_dead i now) k mirror (IsDistinct-from_sorted key_cmp _ t)
      ∙ ap (option_filter (λ i. is_dead i now)) at
      ∙ dead_passes now i dead)

  -- a key that nothing is kept of isn't live
  none_live : (k : Key) (o : Option Item) → item_of live k ≡ o → item_of mirror k ≡ None → None ≡ o
  none_live k None at none = refl
  none_live k (Some i) at none = absurd (cc (covers.has_live k i at, none))

  left_at : (k : Key) (b : Bool) (o : Option Item) → is_named k dead_keys ≡ b → item_of mirror k ≡ o
      → cond b (item_of live k) o ≡ item_of live k
  left_at k true o named at = refl
  left_at k false None named at = none_live k (item_of live k) refl at
  left_at k false (Some i) named at = elim (covers.rest_dead k i at) [
    | inl live ↦ sym live
    | inr dead ↦ absurd (cc (dead_named k i at dead, named))
  ]

  -- without the dead ones those that are live are left
  pub live_left : apply mirror (changes_to live dead_keys) ≡ live
  live_left = same_views (apply mirror (changes_to live dead_keys)) live (order_applied mirror (changes_to live dead_keys) t) s
      (λ k. changes_leave live k dead_keys mirror t ∙ left_at k (is_named k dead_keys) (item_of mirror k) refl refl)

  -- ---- where what is live isn't dead, no dead key is live

  module _ (alive : (k : Key) (i : Item) → item_of live k ≡ Some i → is_dead i now ≡ false) where
    not_live : (k : Key) (i : Item) → item_of (dead_of now mirror) k ≡ Some i → item_of live k ≡ None
    not_live k i at = by (item_of live k) refl
      where
        there : (item_of mirror k ≡ Some i) × (is_dead i now ≡ true)
        there = passed (λ i. is_dead i now) (item_of mirror k) i
            (sym (lookup-filter-values (eq_by_cmp_equiv key_cmp_total) (λ i. is_dead i now) k mirror (IsDistinct-from_sorted key_cmp _ t)) ∙ at)

        by : (o : Option Item) → item_of live k ≡ o → item_of live k ≡ None
        by None is = is
        by (Some j) is = absurd (cc (covers.has_live k j is, alive k j is, there.0, there.1))

    none_dead : All (λ k. item_of live k ≡ None) dead_keys
    none_dead = all_mapped (λ k. item_of live k ≡ None) (λ (e : Key × Item). e.0) (dead_of now mirror)
        (all_by_items (λ e. item_of live e.0 ≡ None) (dead_of now mirror)
        (sorted_passing key_cmp (λ (i : Item). is_dead i now) mirror t) not_live)

    -- so none of them need be looked up
    pub unlooked_changes : changes_to live dead_keys ≡ changes_to [] dead_keys
    unlooked_changes = changes_none live dead_keys none_dead

    pub unlooked_puts : puts_to live dead_keys ≡ puts_to [] dead_keys
    unlooked_puts = puts_none live dead_keys none_dead
