-- The live items are those of the kept ones that aren't dead.
use Rattle.std.proofs.Common.{◌≡◌, ℕ, Bool, false, not, Option, None, Some, refl, ap, sym, ◌∙◌, inl, inr}
use Rattle.std.specs.Cmp.{eq_by_cmp_equiv}
use Rattle.std.proofs.lemmas.Map.Entries.{lookup-filter-values, option_filter}
use Rattle.std.proofs.lemmas.Map.Keys.{IsDistinct-from_sorted}
use Rattle.std.proofs.lemmas.Option.{none-some}
use Rattle.siri_records.specs.declared.item.Item.{Item}
use Rattle.siri_records.specs.declared.key.Key.{Key}
use Rattle.siri_records.specs.Ends.{is_dead}
use Rattle.siri_records.specs.Keyed.{InOrder, Items, item_of, living}
use Rattle.siri_records.specs.Order.{key_cmp, key_cmp_total}
use Rattle.siri_model.proofs.Entries.{sorted_passing}
use Rattle.siri_keeping.specs.Keeping.{Covers}
use Rattle.siri_keeping.proofs.SameItems.{same_items}

pub live_at : (now : ℕ) (items : Items) (k : Key) → InOrder items
    → item_of (living now items) k ≡ option_filter (λ i. not (is_dead i now)) (item_of items k)
live_at now items k s =
    lookup-filter-values (eq_by_cmp_equiv key_cmp_total) (λ i. not (is_dead i now)) k items (IsDistinct-from_sorted key_cmp _ s)

-- ---- of one key

abbrev pub alive : ℕ → Item → Bool
alive now i = not (is_dead i now)

alive_some : (now : ℕ) (o : Option Item) (i : Item) (b : Bool) → is_dead i now ≡ b → o ≡ Some i → b ≡ false → option_filter (alive now) o ≡ Some i
alive_some now o i b is some living = ap (option_filter (alive now)) some ∙ rw (is, living) refl

-- what is live, and what is kept
module _ (now : ℕ) (live kept : Items) (covers : Covers now live kept) (alive_all : (k : Key) (i : Item) → item_of live k ≡ Some i → is_dead i now ≡ false) where
  of_key : (k : Key) (had kept_has : Option Item) → item_of live k ≡ had → item_of kept k ≡ kept_has → option_filter (alive now) kept_has ≡ had
  of_key k (Some i) kept_has is has =
      alive_some now kept_has i (is_dead i now) refl (sym has ∙ covers.has_live k i is) (alive_all k i is)
  of_key k None None is has = refl
  of_key k None (Some i) is has = elim (covers.rest_dead k i has) [
    | inl live_has ↦ absurd (none-some i (sym is ∙ live_has))
    | inr dead ↦ rw dead refl
  ]

  pub living_kept : InOrder live → InOrder kept → living now kept ≡ live
  living_kept s t =
      same_items (living now kept) live (sorted_passing key_cmp (alive now) kept t) s
      (λ k. live_at now kept k t ∙ of_key k (item_of live k) (item_of kept k) refl refl)
