-- A key that is sought by halves among those that were found.
use Rattle.std.proofs.Common.{◌≡◌, ℕ, suc, zero, List, [], ◌∷◌, false, Result, Ok, Err, refl, sym}
use Rattle.std.specs.Prelude.{is_ok}
use Rattle.std.specs.List.{AllByRecursion}
use Rattle.std.specs.List.Sorted.{IsStrictlySortedBy}
use Rattle.std.specs.Map.{keys_of}
use Rattle.std.specs.declared.cmp.Ordering.TheVariants.{Less}
use Rattle.siri_records.specs.declared.key.Key.{Key}
use Rattle.siri_records.specs.KeyLists.{is_among, KeysInOrder}
use Rattle.siri_records.specs.Keyed.{KeyChange}
use Rattle.siri_records.specs.Order.{key_cmp}
use Rattle.siri_records.specs.Places.{Finds}
use Rattle.siri_change.proofs.Walks.{above_trans}

above_none : (k : Key) (ks : List Key) → AllByRecursion (λ y. key_cmp k y ≡ Less) ks → is_among k ks ≡ false
above_none k [] above = refl
above_none k (y ∷ ks) above = rw (above.0) (above_none k ks above.1)

pub sought : (k : Key) (found : List KeyChange) (place : Result ℕ ℕ) → KeysInOrder (keys_of found)
    → Finds (key_cmp k) found place
    → is_ok place ≡ is_among k (keys_of found)
unfolding IsStrictlySortedBy
sought k [] (Ok i) s at = absurd at
sought k [] (Err zero) s at = refl
sought k [] (Err (suc i)) s at = absurd at
sought k (c ∷ found) (Ok zero) s at = rw at refl
sought k (c ∷ found) (Ok (suc i)) s at = rw (at.0) (sought k found (Ok i) s.1 at.1)
sought k (c ∷ found) (Err zero) s at = rw at (sym (above_none k (keys_of found) (above_trans k c.0
    (keys_of found) at s.0)))
sought k (c ∷ found) (Err (suc i)) s at = rw (at.0) (sought k found (Err i) s.1 at.1)
