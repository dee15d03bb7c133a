-- Reading step by step.
use Rattle.std.proofs.Common.{Result, refl}
use Rattle.siri_tables.specs.declared.refusal.TableError.{TableError}
use Rattle.siri_tables.specs.declared.refusal.TableError.TheVariants as errors
use Rattle.siri_tables.specs.Refusals.{◌>>=◌, Refusal, Fails}

-- where a step fails, so does what goes on from it
pub stops : {A B : Type 0} (e : TableError) (r : Result A Refusal) (f : A → Result B Refusal) → Fails e r → Fails e (r >>= f)
stops errors.OutOfMemory r f failed = tt
stops (errors.Refused path reason) r f failed = rw failed refl
