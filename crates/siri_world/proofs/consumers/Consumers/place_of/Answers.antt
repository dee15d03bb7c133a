use Rattle.siri_world.proofs.Found.{place_is}
use Rattle.siri_world.proofs.consumers.Consumers.place_of.Goals as goal

pub returns : goal.returns
returns c = place_is c.args.name.now c.args.self.now c.position.result c.position.ensures
