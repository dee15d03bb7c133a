use Rattle.siri_life.proofs.Restarting
use Rattle.siri_life.proofs.laws.networks.consumers_restart.Goals as goal

pub returns : goal.returns
returns g c f who number held n apart holds is = Restarting.all_restart f who held number n apart holds is
