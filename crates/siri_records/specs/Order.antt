-- The order of keys.
use Rattle.std.specs.Prelude.{ℕ, List, [], ◌∷◌, Option, Some}
use Rattle.std.specs.declared.cmp.Ordering.{Ordering}
use Rattle.std.specs.Ordering.{nat_cmp, on, then_cmp}
use Rattle.std.specs.Option.{option_cmp}
use Rattle.std.specs.Cmp.{IsTotalOrder, then_total, on_total, nat_cmp_total}
use Rattle.std.specs.Cmp.Lexicographic.{slice_cmp, lists_total, options_total, nat_list_cmp_total}
use Rattle.siri_records.specs.declared.key.Key.{Key}
use Rattle.siri_records.specs.declared.key.Key.TheVariants.{Visit, Journey, Vehicle, Situation}

-- visits first, then journeys, vehicles, situations
abbrev pub rank : Key → ℕ
rank (Visit monitoring item) = 0
rank (Journey line direction frame journey) = 1
rank (Vehicle vehicle) = 2
rank (Situation participant number) = 3

-- the names that a key is made of, in turn (EN 15531-3, CEN/TS 15531-5)
abbrev pub names : Key → List (Option (List ℕ))
names (Visit monitoring item) = Some monitoring ∷ Some item ∷ []
names (Journey line direction frame journey) = Some line ∷ direction ∷ frame ∷ Some journey ∷ []
names (Vehicle vehicle) = Some vehicle ∷ []
names (Situation participant number) = participant ∷ Some number ∷ []

-- names in order of their bytes, an absent one first
abbrev pub name_cmp : Option (List ℕ) → Option (List ℕ) → Ordering
name_cmp = option_cmp (slice_cmp nat_cmp)

-- keys in order of their kind and then of their names in turn
abbrev pub key_cmp : Key → Key → Ordering
key_cmp = then_cmp (on rank nat_cmp) (on names (slice_cmp name_cmp))

-- it is total, so that shared keys may be ordered by it
pub key_cmp_total : IsTotalOrder key_cmp
key_cmp_total = then_total (on_total rank nat_cmp_total) (on_total names (lists_total (options_total nat_list_cmp_total)))
