use Rattle.siri_keeping.proofs.Reopened.{shows}
use Rattle.siri_keeping.proofs.reopened_laws.a_reopened_producer_shows_the_same.Goals as goal

pub returns : goal.returns
returns c = λ name rows h start now what ordered keeps is topic. shows name rows h ordered keeps start now what is topic
