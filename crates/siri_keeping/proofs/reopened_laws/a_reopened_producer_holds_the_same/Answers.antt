use Rattle.siri_keeping.proofs.Reopened.{holds}
use Rattle.siri_keeping.proofs.reopened_laws.a_reopened_producer_holds_the_same.Goals as goal

pub returns : goal.returns
returns c = λ name rows h start now what ordered keeps is. holds name rows h ordered keeps start now what is
