-- None of the items is dead that live on, also where the counter of steps rises.
use Rattle.std.proofs.Common.{◌≡◌, ℕ, [], ◌∷◌, Bool, true, false, Some, refl, ap, sym, subst, ◌∙◌}
use Rattle.siri_records.specs.declared.item.Item.{Item}
use Rattle.siri_records.specs.declared.key.Key.{Key}
use Rattle.siri_records.specs.Ends.{is_dead}
use Rattle.siri_records.specs.Keyed.{Items, item_of, living}
use Rattle.siri_records.proofs.KeyLists.{tied}
use Rattle.siri_responder.specs.Known.{Known}
use Rattle.siri_subscriptions.specs.Again.{AreLive}

alive_case : (moment : ℕ) (k : Key) (i : Item) (e : Key × Item) (items : Items) (d t : Bool) → is_dead e.1 moment ≡ d
    → tied k e.0 ≡ t
    → item_of (living moment (e ∷ items)) k ≡ Some i
    → (item_of (living moment items) k ≡ Some i → is_dead i moment ≡ false)
    → is_dead i moment ≡ false
alive_case moment k i e items true t dead tie is rest = rest (rw dead at is)
alive_case moment k i e items false true dead tie is rest =
    let here : Some e.1 ≡ Some i = rw tie at (rw dead at is) in
    let same : e.1 ≡ i = cc here in
    ap (λ j. is_dead j moment) (sym same) ∙ dead
alive_case moment k i e items false false dead tie is rest = rest (rw tie at (rw dead at is))

pub alive_in : (moment : ℕ) (items : Items) (k : Key) (i : Item) → item_of (living moment items) k ≡ Some i
    → is_dead i moment ≡ false
alive_in moment [] k i is = absurd (cc is)
alive_in moment (e ∷ items) k i is =
    alive_case moment k i e items (is_dead e.1 moment) (tied k e.0) refl refl is (alive_in moment items k i)

pub live_still : (start known : Known) → known ≡ record start { reads = known.reads } → AreLive start → AreLive known
live_still start known same live = subst AreLive (sym same) (record { ordered = live.ordered; keyed = live.keyed; alive = live.alive })
