use Rattle.siri_world_model.proofs.Worlds.{world_stands}
use Rattle.siri_world_model.proofs.laws.networks.worlds_are_networks.Goals as goal

pub returns : goal.returns
returns c events = (world_stands events).1
