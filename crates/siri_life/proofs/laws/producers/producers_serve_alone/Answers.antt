use Rattle.siri_life.proofs.Serves
use Rattle.siri_life.proofs.laws.producers.producers_serve_alone.Goals as goal

pub returns-clause-serves : goal.returns-clause-serves
returns-clause-serves g c f all n = Serves.acts_serve f all n

pub returns-clause-sends : goal.returns-clause-sends
returns-clause-sends g c f all n = Serves.acts_send f all n
