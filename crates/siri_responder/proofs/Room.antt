-- No more keys are held than may be live, and there is room for the mark of each.
use Rattle.std.proofs.Common.{◌≡◌, ℕ, ◌+◌, ◌≤◌, length, Bool, true, false, ◌&&◌, not, nat_le, Option, Some, None, is_some, refl, arith}
use Rattle.std.specs.Prelude.{unwrap_or, option_map}
use Rattle.std.proofs.lemmas.Bool.{leb-false}
use Rattle.siri_records.specs.declared.item.Item.{Item}
use Rattle.siri_records.specs.declared.key.Key.{Key}
use Rattle.siri_records.specs.Ends.{is_dead}
use Rattle.siri_records.specs.Keys.{key_of}
use Rattle.siri_records.specs.Keyed.{InOrder, item_of, most_live}
use Rattle.siri_records.specs.Order.{key_cmp_total}
use Rattle.siri_records.proofs.Order.{key_cmp_exact}
use Rattle.siri_model.proofs.Current.{length_removed, length_inserted}
use Rattle.siri_store.specs.Held.{Held}
use Rattle.siri_store.specs.Calls.{refuses, observed, without}

not_full : (b : Bool) → (b && true) ≡ false → b ≡ false
not_full true h = absurd (cc h)
not_full false h = refl

few_put : (new old : ℕ) (held : Option Item) → new + unwrap_or (option_map (λ x. 1) held) 0 ≡ old + 1
    → (nat_le most_live old && not (is_some held)) ≡ false → old ≤ most_live → new ≤ most_live
few_put new old (Some item) longer room few = omega (arith, longer, few)
few_put new old None longer room few =
    let below = leb-false most_live old (not_full (nat_le most_live old) room) in
    omega (arith, longer, below)

-- a key that is withdrawn takes no room
pub shorter : (s : Held) (k : Key) → length (without s k).entries ≤ length s.entries
shorter s k = length_removed key_cmp_total key_cmp_exact k s.entries

few_at : (s : Held) (i : Item) (dead : Bool) → InOrder s.entries → is_dead i s.moment ≡ dead → refuses s i ≡ false
    → length s.entries ≤ most_live → length (observed s i).entries ≤ most_live
few_at s i true ordered d taken few = rw d (omega (arith, shorter s (key_of i), few))
few_at s i false ordered d taken few =
    rw d (few_put _ (length s.entries) (item_of s.entries (key_of i))
    (length_inserted key_cmp_total key_cmp_exact (key_of i) i s.entries ordered) (rw d at taken) few)

pub few_observed : (s : Held) (i : Item) → InOrder s.entries → refuses s i ≡ false → length s.entries ≤ most_live
    → length (observed s i).entries ≤ most_live
few_observed s i ordered taken few = few_at s i (is_dead i s.moment) ordered refl taken few

one_more_at : (s : Held) (i : Item) (dead : Bool) → InOrder s.entries → is_dead i s.moment ≡ dead → length (observed s i).entries ≤ length s.entries + 1
one_more_at s i true ordered d = rw d (omega (arith, shorter s (key_of i)))
one_more_at s i false ordered d = rw d (omega (arith, length_inserted key_cmp_total key_cmp_exact (key_of i) i s.entries ordered))

-- an item that is observed takes at most that of one more
pub one_more : (s : Held) (i : Item) → InOrder s.entries → length (observed s i).entries ≤ length s.entries + 1
one_more s i ordered = one_more_at s i (is_dead i s.moment) ordered refl
