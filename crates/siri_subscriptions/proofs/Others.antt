-- The items that are shown of the keys that weren't found, key by key.
use Rattle.std.proofs.Common.{◌≡◌, ℕ, ◌+◌, List, [], ◌∷◌, ◌++◌, map, filter, drop, length, Bool, true, false, None}
use Rattle.std.proofs.Common.{Some, slice_get, ap, sym, ◌∙◌, refl, arith}
use Rattle.std.specs.Map.{keys_of}
use Rattle.std.proofs.lemmas.List.{map-append}
use Rattle.siri_records.specs.declared.item.Item.{Item}
use Rattle.siri_records.specs.declared.key.Key.{Key}
use Rattle.siri_records.specs.Keyed.{Items, KeyChange, apply}
use Rattle.siri_records.proofs.Placed.{drop_at, drop_past}
use Rattle.siri_change.proofs.InParts.{applied_append}
use Rattle.siri_topic.specs.declared.topics.Topic.{Topic}
use Rattle.siri_responder.specs.Known.{Known}
use Rattle.siri_subscriptions.specs.Again.{is_other, shown_of}

length_both : (xs ys : List Key) → length (xs ++ ys) ≡ length xs + length ys
length_both [] ys = grind arith
length_both (x ∷ xs) ys = let rest = length_both xs ys in grind (arith, rest)

module _ (known : Known) (topic : Topic) (found : List KeyChange) (view : Items) where
  -- the keys from a place on that weren't found
  abbrev pub others_from : ℕ → List Key
  others_from place = filter (is_other found) (keys_of (drop place view))

  abbrev pub leads : Items → ℕ → Items
  leads items place = apply items (map (shown_of known topic) (others_from place))

  split : (k : Key) (ks : List Key) (b : Bool) → is_other found k ≡ b
      → filter (is_other found) (k ∷ ks) ≡ filter (is_other found) (k ∷ []) ++ filter (is_other found) ks
  split k ks true h = rw h refl
  split k ks false h = rw h refl

  module _ (place : ℕ) (e : Key × Item) (at : slice_get view place ≡ Some e) where
    next : others_from place ≡ filter (is_other found) (e.0 ∷ []) ++ others_from (place + 1)
    next =
        ap (λ (l : Items). filter (is_other found) (keys_of l)) (drop_at view place e at)
        ∙ split e.0 (keys_of (drop (place + 1) view)) (is_other found e.0) refl

    pub put_next : (items more whole : Items) → more
        ≡ apply items (map (shown_of known topic) (filter (is_other found) (e.0 ∷ [])))
        → leads items place ≡ whole → leads more (place + 1) ≡ whole
    put_next items more whole put so_far =
        let one = map (shown_of known topic) (filter (is_other found) (e.0 ∷ [])) in
        let rest = map (shown_of known topic) (others_from (place + 1)) in
        ap (λ m. apply m rest) put
        ∙ (sym (applied_append items one rest)
        ∙ (ap (apply items) (sym (map-append (shown_of known topic) (filter (is_other found) (e.0 ∷ []))
        (others_from (place + 1))))
        ∙ (ap (λ ks. apply items (map (shown_of known topic) ks)) (sym next) ∙ so_far)))

    pub count_next : length (others_from place) ≡ length (filter (is_other found) (e.0 ∷ [])) + length
        (others_from (place + 1))
    count_next = ap length next ∙ length_both (filter (is_other found) (e.0 ∷ [])) (others_from (place + 1))

  pub none_next : (place : ℕ) → slice_get view place ≡ None → others_from place ≡ []
  none_next place past = ap (λ (l : Items). filter (is_other found) (keys_of l)) (drop_past view place past)
