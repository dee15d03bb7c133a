use Rattle.std.proofs.Common.{◌≡◌, subst, ap}
use Rattle.std.specs.declared.cmp.Ordering.TheVariants.{Equal}
use Rattle.siri_records.specs.Order.{key_cmp, key_cmp_total}
use Rattle.siri_records.proofs.Order.{cmp_is_key_cmp, key_cmp_exact, key_cmp_same}
use Rattle.siri_records.proofs.key.keys_are_in_order.Goals as goal

pub returns-clause-stated : goal.returns-clause-stated
returns-clause-stated c a b = ap (λ order. order a b) cmp_is_key_cmp

pub returns-clause-total : goal.returns-clause-total
returns-clause-total c = key_cmp_total

pub returns-clause-exact : goal.returns-clause-exact
returns-clause-exact c a b = (key_cmp_exact a b, λ e. subst (λ k. key_cmp a k ≡ Equal) e (key_cmp_same a))
