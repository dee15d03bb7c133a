-- What is held at a place is what is kept under its identifier.
use Rattle.std.proofs.Common.{◌≡◌, ℕ, Option, Some, None, refl, sym, ap, ◌∙◌, subst}
use Rattle.std.specs.Prelude.{option_map, slice_get}
use Rattle.std.specs.List.Sorted.{IsStrictlySortedBy}
use Rattle.std.specs.Map.{keys_of}
use Rattle.std.proofs.lemmas.Cmp.{eq_by_cmp_equiv, nat_list_cmp_total}
use Rattle.std.proofs.lemmas.Map.Entries.{lookup_from_place}
use Rattle.std.proofs.lemmas.Map.Keys.{IsDistinct-from_sorted}
use Rattle.std.proofs.lemmas.Option.{none-some, same_Some}
use Rattle.siri_life.specs.Named.{Name}
use Rattle.siri_records.specs.Keyed.{Items}
use Rattle.siri_view.specs.declared.outcome.Held.{Held}
use Rattle.siri_view.specs.Consuming.{held_by}
use Rattle.siri_view.specs.Kept.{Holdings, HeldSubscription, kept_of, name_cmp}
use Rattle.siri_runs.specs.consumers.inner.Shown.{shown}

pub record IsHeldAt (held : Holdings) (i : ℕ) (identifier : Name) : Type 0 where
  pub kept : HeldSubscription
  pub there : slice_get held i ≡ Some (identifier, kept)
  pub is_kept : kept_of identifier held ≡ Some kept

pub held_at : (held : Holdings) (i : ℕ) (identifier : Name) → IsStrictlySortedBy name_cmp (keys_of held)
    → Some identifier ≡ option_map (λ entry. entry.0) (slice_get held i) → IsHeldAt held i identifier
held_at held i identifier ordered is = by (slice_get held i) refl is
  where
    by : (o : Option (Name × HeldSubscription)) → slice_get held i ≡ o → Some identifier ≡ option_map (λ entry. entry.0) o → IsHeldAt held i identifier
    by None there is = absurd (cc)
    by (Some entry) there is =
        let same : entry.0 ≡ identifier = cc in
        subst (IsHeldAt held i) same (record {
          kept = entry.1;
          there = there;
          is_kept = lookup_from_place (eq_by_cmp_equiv nat_list_cmp_total) held i entry.0 entry.1
              (IsDistinct-from_sorted name_cmp (keys_of held) ordered) there;
        })

-- it is shown by what is kept
pub shown_is : (held : Holdings) (i : ℕ) (identifier : Name) (round : Held) (view : Items)
    (at : IsHeldAt held i identifier) → Some round ≡ option_map held_by (kept_of identifier held)
    → Some view ≡ option_map (λ kept. kept.view) (kept_of identifier held)
    → Some (identifier, round, view) ≡ option_map shown (slice_get held i)
shown_is held i identifier round view at round_is view_is =
    let p : round ≡ held_by at.kept = same_Some _ _ (round_is ∙ ap (option_map held_by) at.is_kept) in
    let q : view ≡ at.kept.view = same_Some _ _ (view_is ∙ ap (option_map (λ (kept : HeldSubscription). kept.view)) at.is_kept) in
    ap (λ (r : Held). Some (identifier, r, view)) p
    ∙ ap (λ (v : Items). Some (identifier, held_by at.kept, v)) q
    ∙ sym (ap (option_map shown) at.there)

pub not_lost : {A : Type 0} (held : Holdings) (i : ℕ) (identifier : Name) (of : HeldSubscription → A)
    (at : IsHeldAt held i identifier) → None ≡ option_map of (kept_of identifier held) → ⊥
not_lost held i identifier of at none = none-some (of at.kept) (none ∙ ap (option_map of) at.is_kept)
