-- What comes of a plan where there was no memory.
use Rattle.std.proofs.Common.{None, Some, Option, refl, inl}
use Rattle.siri_outside.specs.Wires.{WireState}
use Rattle.siri_get.specs.declared.plan.Plan.{Plan}
use Rattle.siri_get.specs.declared.plan.Plan.TheVariants as plan
use Rattle.siri_get.specs.Exchanges.{ComesOfPlan}
use Rattle.std.specs.Prelude.{ℕ, List}

-- nothing was asked for want of memory, and the wire is as it was
pub nothing_asked : (host : List ℕ) (p : Plan) (x : Option WireState) → ComesOfPlan host p x x None
nothing_asked host (plan.Asks target) None = tt
nothing_asked host (plan.Asks target) (Some wire) = inl refl
nothing_asked host (plan.Tells told) x = (tt, refl)
