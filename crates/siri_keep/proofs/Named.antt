-- The keys that the entries of a delivery name.
use Rattle.std.proofs.Common.{◌≡◌, List, [], ◌∷◌, ◌++◌, map, flat_map, refl, ap, sym, ◌∙◌}
use Rattle.std.proofs.lemmas.List.{append_assoc, map-append}
use Rattle.siri_records.specs.declared.item.Item.{Item}
use Rattle.siri_records.specs.declared.key.Key.{Key}
use Rattle.siri_records.specs.Keys.{key_of}
use Rattle.siri_messages.specs.declared.deliveries.FunctionalDelivery.{FunctionalDelivery}
use Rattle.siri_model.specs.History.{Entry, Observed, Withdrawn, entries_in}
use Rattle.siri_model.specs.Last.{entry_key}

observed : (items : List Item) → map entry_key (map Observed items) ≡ map key_of items
observed [] = refl
observed (i ∷ items) = ap (λ keys. key_of i ∷ keys) (observed items)

withdrawn : (keys : List Key) → map entry_key (map Withdrawn keys) ≡ keys
withdrawn [] = refl
withdrawn (k ∷ keys) = ap (λ all. k ∷ all) (withdrawn keys)

pub named_first : (f : FunctionalDelivery) (rest : List Entry)
    → map entry_key (entries_in f ++ rest) ≡ (map key_of f.items ++ f.removals) ++ map entry_key rest
named_first f rest =
    map-append entry_key (entries_in f) rest
    ∙ ap (λ keys. keys ++ map entry_key rest) (map-append entry_key (map Observed f.items) (map Withdrawn f.removals)
    ∙ (λ i. observed f.items i ++ withdrawn f.removals i))

-- one more delivery
pub named_step : (into one two sum : List Key) (f : FunctionalDelivery) (all rest : List FunctionalDelivery)
    → one ≡ into ++ map key_of f.items → two ≡ one ++ f.removals → all ≡ f ∷ rest
    → into ++ map entry_key (flat_map entries_in all) ≡ sum → two ++ map entry_key (flat_map entries_in rest) ≡ sum
named_step into one two sum f all rest first second here is =
    let behind = map entry_key (flat_map entries_in rest) in
    let items = map key_of f.items in
    ap (λ keys. keys ++ behind) (second ∙ ap (λ keys. keys ++ f.removals) first ∙ append_assoc into items f.removals)
    ∙ append_assoc into (items ++ f.removals) behind
    ∙ ap (λ keys. into ++ keys) (sym (named_first f (flat_map entries_in rest)))
    ∙ ap (λ (fs : List FunctionalDelivery). into ++ map entry_key (flat_map entries_in fs)) (sym here)
    ∙ is
