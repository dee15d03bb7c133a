-- All of a view, entry by entry.
use Rattle.std.proofs.Common.{◌≡◌, ℕ, ◌+◌, List, [], ◌∷◌, ◌++◌, drop, Some, None, slice_get, ap, sym, ◌∙◌, append_assoc}
use Rattle.std.proofs.lemmas.List.{append-nil}
use Rattle.siri_records.specs.declared.key.Key.{Key}
use Rattle.siri_records.specs.declared.item.Item.{Item}
use Rattle.siri_records.specs.Keyed.{Items, KeyChange}
use Rattle.siri_records.proofs.Placed.{drop_at, drop_past}
use Rattle.siri_change.specs.Parts.{whole}

pub whole_next : (view : Items) (so_far more : List KeyChange) (place : ℕ) (entry : Key × Item) (change : KeyChange) → slice_get view place ≡ Some entry
    → change ≡ (entry.0, Some entry.1) → more ≡ so_far ++ change ∷ [] → so_far ++ whole (drop place view) ≡ whole view
    → more ++ whole (drop (place + 1) view) ≡ whole view
whole_next view so_far more place entry change at is pushed all =
    let rest = whole (drop (place + 1) view) in
    ap (λ l. l ++ rest) pushed
    ∙ (append_assoc so_far (change ∷ []) rest
    ∙ (ap (λ c. so_far ++ c ∷ rest) is
    ∙ (ap (λ l. so_far ++ whole l) (sym (drop_at view place entry at)) ∙ all)))

pub whole_done : (view : Items) (so_far : List KeyChange) (place : ℕ) → slice_get view place ≡ None
    → so_far ++ whole (drop place view) ≡ whole view → so_far ≡ whole view
whole_done view so_far place past all =
    sym (append-nil so_far) ∙ (ap (λ l. so_far ++ whole l) (sym (drop_past view place past)) ∙ all)
