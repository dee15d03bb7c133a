-- Items that are recorded at one time and near with no slack are equal in every field.
use Rattle.std.proofs.Common.{◌≡◌, pos, Bool, true, nat_eq, ap, ◌∙◌, sym, subst}
use Rattle.std.proofs.lemmas.Bool.{and_parts}
use Rattle.std.specs.Bool.{IsTrue}
use Rattle.std.specs.Prelude.{◌↔◌}
use Rattle.std.specs.Option.{option_eq}
use Rattle.siri_records.specs.declared.item.Item.{Item}
use Rattle.siri_records.specs.declared.item.Item.TheVariants as item
use Rattle.siri_records.specs.Near.{is_near}
use Rattle.siri_records.proofs.NearLaws.{visit_equal, journey_equal, vehicle_equal, situation_equal, near_itself}
use Rattle.siri_records.proofs.NearTests.{number_laws, optional_laws}
use Rattle.siri_change.specs.Same.{recorded_at, is_same}

-- recorded at one time, and near with no slack
pub same_from_near : (a b : Item) → recorded_at a ≡ recorded_at b → is_near (pos 0) a b ≡ true → a ≡ b
same_from_near (item.Visit a) (item.Visit b) r e = ap item.Visit (visit_equal a b r e)
same_from_near (item.Journey a) (item.Journey b) r e = ap item.Journey (journey_equal a b r e)
same_from_near (item.Vehicle a) (item.Vehicle b) r e = ap item.Vehicle (vehicle_equal a b r e)
same_from_near (item.Situation a) (item.Situation b) r e = ap item.Situation (situation_equal a b e)
same_from_near a b r e = cc

-- the two tests that an item is the same
parts : (a b : Item) → is_same a b ≡ true
    → (option_eq nat_eq (recorded_at a) (recorded_at b) ≡ true) × (is_near (pos 0) a b ≡ true)
parts a b e = and_parts (option_eq nat_eq (recorded_at a) (recorded_at b)) (is_near (pos 0) a b) e

-- the test holds of equal items alone, and of each item and itself
pub same_exact : (a b : Item) → is_same a b ≡ true → a ≡ b
same_exact a b e =
    same_from_near a b ((optional_laws number_laws).exact (recorded_at a) (recorded_at b) (parts a b e).0) (parts a b e).1

pub same_itself : (a : Item) → is_same a a ≡ true
same_itself a = rw ((optional_laws number_laws).itself (pos 0) (recorded_at a), near_itself (pos 0) a)

pub same_where_equal : (a b : Item) → a ≡ b → is_same a b ≡ true
same_where_equal a b e = subst (λ (x : Item). is_same a x ≡ true) e (same_itself a)

pub same_parts : (a b : Item) (r : Bool)
    → option_eq nat_eq (recorded_at a) (recorded_at b) ≡ true → r ≡ is_near (pos 0) a b → IsTrue r ↔ (a ≡ b)
same_parts a b r recorded near =
    ((λ t. same_exact a b (rw recorded (sym near ∙ t))), (λ e. near ∙ (parts a b (same_where_equal a b e)).1))
