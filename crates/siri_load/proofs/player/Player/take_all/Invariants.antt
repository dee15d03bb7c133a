use Rattle.std.proofs.Common.{◌-◌}
use Rattle.siri_load.specs.Load.{Progress}
use Rattle.siri_load.specs.Playing.{Plays, takes}
use Rattle.siri_load.proofs.Turns.{Taking}
use Rattle.siri_load.proofs.player.Player.take_all.Given as goal

abbrev pub invariant-loop-self : goal.invariant-loop-self
invariant-loop-self l = (first : Progress) → Plays l.initial.self first → Taking (takes l.network) first l.self

abbrev pub decreases-loop-self : goal.decreases-loop-self
decreases-loop-self l = 1000000 - l.self.looked
