use Rattle.std.proofs.Common.{refl}
use Rattle.siri_keeping.proofs.Reopened.{says, what}
use Rattle.siri_keeping.proofs.reopened_laws.what_is_kept_is_said.Goals as goal

pub returns : goal.returns
returns c = λ name rows h ordered keeps. (what name rows h ordered keeps, says name rows h ordered keeps, refl)
