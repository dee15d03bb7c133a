use Rattle.siri_life.proofs.Serves
use Rattle.siri_life.proofs.laws.producers.networks_serve_as_their_producer.Goals as goal

pub returns : goal.returns
returns g c f n e = Serves.step_serves f n e
