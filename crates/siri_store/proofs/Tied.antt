-- The stamps stay those of the held items.
use Rattle.std.proofs.Common.{◌≡◌, ℕ, Bool, true, false, cond, ◌&&◌, ◌||◌, List, Option, Some, None, refl, ap, ◌∙◌, sym}
use Rattle.std.specs.Prelude.{not}
use Rattle.std.specs.Map.{remove_entry}
use Rattle.std.specs.BTreeMap.{insert_entry, is_at}
use Rattle.std.specs.Ordering.{is_eq}
use Rattle.std.specs.Cmp.{Equal-is}
use Rattle.std.proofs.lemmas.Cmp.{tied_back}
use Rattle.siri_records.specs.declared.item.Item.{Item}
use Rattle.siri_records.specs.declared.key.Key.{Key}
use Rattle.siri_records.specs.Keyed.{Items, InOrder, item_of}
use Rattle.siri_records.specs.Order.{key_cmp, key_cmp_total}
use Rattle.siri_store.specs.Stamped.{Stamp, has_stamp, has, moments_held, is_one_of, Tied}
use Rattle.siri_store.proofs.LookUps.{by_bool, lookup-insert_entry, lookup-removed, same_look}

same_tie : (a b : Key) → is_eq (key_cmp a b) ≡ is_eq (key_cmp b a)
same_tie a b = by_bool (is_eq (key_cmp a b))
    (λ h. h ∙ sym (ap is_eq (tied_back key_cmp_total a b ((Equal-is (key_cmp a b)).0 h))))
    (λ h. by_bool (is_eq (key_cmp b a))
    (λ g. ap is_eq (tied_back key_cmp_total b a ((Equal-is (key_cmp b a)).0 g)) ∙ sym g)
    (λ g. h ∙ sym g))

-- what is held of one key is held of another that ties with it
held_alike : (es : Items) (key k : Key) (order moment : ℕ) → is_eq (key_cmp key k) ≡ true
    → has moment (moments_held order (item_of es key)) ≡ has moment (moments_held order (item_of es k))
held_alike es key k order moment same =
    ap (λ held. has moment (moments_held order held))
    (same_look key_cmp_total es key k ((Equal-is (key_cmp key k)).0 same))

put_bits : (same new old before added after : Bool) → (same ≡ true → old ≡ before)
    → added ≡ ((same && new) || before) → after ≡ (added && not ((same && old) && not (same && new)))
    → after ≡ cond same new before
put_bits true true old before added after alike a b = rw b (rw a (bits old))
  where
    bits : (old : Bool) → (true && not (old && false)) ≡ true
    bits true = refl
    bits false = refl
put_bits true false old before added after alike a b = rw b (rw a (rw (← alike refl) (bits old)))
  where
    bits : (old : Bool) → (old && not (old && true)) ≡ false
    bits true = refl
    bits false = refl
put_bits false new old before added after alike a b = rw b (rw a (bits before))
  where
    bits : (b : Bool) → (b && true) ≡ b
    bits true = refl
    bits false = refl

back_bits : (same new old before added after : Bool) → (same ≡ true → old ≡ before)
    → added ≡ (before || ((same && new) && added)) → after ≡ (added && not ((same && new) && not (same && old)))
    → after ≡ before
back_bits true new true before added after alike a b =
    rw b (rw (← alike refl) (rw (a ∙ ap (λ x. x || (new && added)) (sym (alike refl))) (bits new)))
  where
    bits : (new : Bool) → not (new && false) ≡ true
    bits true = refl
    bits false = refl
back_bits true new false before added after alike a b =
    rw b (rw (← alike refl) (bits new added (a ∙ ap (λ x. x || (new && added)) (sym (alike refl)))))
  where
    bits : (new added : Bool) → added ≡ (new && added) → (added && not (new && true)) ≡ false
    bits true true a = refl
    bits true false a = refl
    bits false true a = a
    bits false false a = refl
back_bits false new old before added after alike a b = rw b (bits before added a)
  where
    bits : (before added : Bool) → added ≡ (before || false) → (added && true) ≡ before
    bits true true a = refl
    bits true false a = a
    bits false true a = a
    bits false false a = refl

taken_bits : (same old before after : Bool) → (same ≡ true → old ≡ before)
    → after ≡ (before && not ((same && old) && not (same && false)))
    → after ≡ cond same false before
taken_bits true old before after alike b = rw b (rw (← alike refl) (bits old))
  where
    bits : (old : Bool) → (old && not (old && true)) ≡ false
    bits true = refl
    bits false = refl
taken_bits false old before after alike b = rw b (bits before)
  where
    bits : (b : Bool) → (b && true) ≡ b
    bits true = refl
    bits false = refl

module _ (es : Items) (key : Key) (i : Item) (before added after : List Stamp) (tied : Tied es before) where
  -- after a put: the stamps of the new item were added, and then those went that only the old one has
  pub tied_put : ((s : Stamp) → has_stamp added s ≡ (is_one_of key (Some i) s || has_stamp before s))
      → ((s : Stamp)
      → has_stamp after s
      ≡ (has_stamp added s && not (is_one_of key (item_of es key) s && not (is_one_of key (Some i) s))))
      → Tied (insert_entry key_cmp es key i) after
  tied_put more less (order, moment, None) = rw less (rw more (rw tied refl))
  tied_put more less (order, moment, Some k) =
      put_bits (is_eq (key_cmp key k)) (has moment (moments_held order (Some i)))
      (has moment (moments_held order (item_of es key)))
      (has moment (moments_held order (item_of es k))) (has_stamp added (order, moment, Some k))
      (has_stamp after (order, moment, Some k))
      (held_alike es key k order moment)
      (more (order, moment, Some k)
      ∙ ap (λ b. is_one_of key (Some i) (order, moment, Some k) || b) (tied (order, moment, Some k)))
      (less (order, moment, Some k))
      ∙ (at_key (is_eq (key_cmp key k)) (item_of es k) ∙ ap (λ held. has moment (moments_held order held))
      (ap (λ b. cond b (Some i) (item_of es k)) (same_tie key k) ∙ sym (lookup-insert_entry key_cmp_total key i k es)))
    where
      at_key : (b : Bool) (held : Option Item)
          → cond b (has moment (moments_held order (Some i))) (has moment (moments_held order held))
          ≡ has moment (moments_held order (cond b (Some i) held))
      at_key true held = refl
      at_key false held = refl

  -- after want of memory: some stamps of the new item were added, and then those went that only it has
  pub tied_back_again :
      ((s : Stamp) → has_stamp added s ≡ (has_stamp before s || (is_one_of key (Some i) s && has_stamp added s)))
      → ((s : Stamp)
      → has_stamp after s
      ≡ (has_stamp added s && not (is_one_of key (Some i) s && not (is_one_of key (item_of es key) s))))
      → Tied es after
  tied_back_again more less (order, moment, None) = rw less (rw more (rw tied refl))
  tied_back_again more less (order, moment, Some k) =
      back_bits (is_eq (key_cmp key k)) (has moment (moments_held order (Some i)))
      (has moment (moments_held order (item_of es key)))
      (has moment (moments_held order (item_of es k))) (has_stamp added (order, moment, Some k))
      (has_stamp after (order, moment, Some k))
      (held_alike es key k order moment)
      (more (order, moment, Some k)
      ∙ ap (λ b. b || (is_one_of key (Some i) (order, moment, Some k) && has_stamp added (order, moment, Some k)))
      (tied (order, moment, Some k)))
      (less (order, moment, Some k))

-- after a removal: the stamps of the item went
pub tied_taken : (es : Items) (key : Key) (before after : List Stamp) → InOrder es → Tied es before
    → ((s : Stamp)
    → has_stamp after s ≡ (has_stamp before s && not (is_one_of key (item_of es key) s && not (is_one_of key None s))))
    → Tied (remove_entry (is_at (key_cmp key)) es) after
tied_taken es key before after sorted tied less (order, moment, None) = rw less (rw tied refl)
tied_taken es key before after sorted tied less (order, moment, Some k) =
    taken_bits (is_eq (key_cmp key k)) (has moment (moments_held order (item_of es key)))
    (has moment (moments_held order (item_of es k)))
    (has_stamp after (order, moment, Some k)) (held_alike es key k order moment)
    (less (order, moment, Some k)
    ∙ ap (λ b. b && not
    (is_one_of key (item_of es key) (order, moment, Some k) && not (is_one_of key None (order, moment, Some k))))
    (tied (order, moment, Some k)))
    ∙ (at_key (is_eq (key_cmp key k)) (item_of es k) ∙ ap (λ held. has moment (moments_held order held))
    (ap (λ b. cond b None (item_of es k)) (same_tie key k) ∙ sym (lookup-removed key_cmp_total key k es sorted)))
  where
    at_key : (b : Bool) (held : Option Item)
        → cond b false (has moment (moments_held order held)) ≡ has moment (moments_held order (cond b None held))
    at_key true held = refl
    at_key false held = refl

-- where the key isn't held nothing went
pub tied_not_held : (es : Items) (key : Key) (stamps : List Stamp) → InOrder es → Tied es stamps → item_of es key ≡ None
    → Tied (remove_entry (is_at (key_cmp key)) es) stamps
tied_not_held es key stamps sorted tied none =
    tied_taken es key stamps stamps sorted tied
    (λ s. none_of s
    ∙ ap (λ held. has_stamp stamps s && not (is_one_of key held s && not (is_one_of key None s))) (sym none))
  where
    bits : (a b : Bool) → a ≡ (a && not ((b && false) && not (b && false)))
    bits true true = refl
    bits true false = refl
    bits false b = refl

    none_of : (s : Stamp)
        → has_stamp stamps s ≡ (has_stamp stamps s && not (is_one_of key None s && not (is_one_of key None s)))
    none_of (order, moment, None) = right (has_stamp stamps (order, moment, None))
      where
        right : (a : Bool) → a ≡ (a && true)
        right true = refl
        right false = refl
    none_of (order, moment, Some k) = bits (has_stamp stamps (order, moment, Some k)) (is_eq (key_cmp key k))
