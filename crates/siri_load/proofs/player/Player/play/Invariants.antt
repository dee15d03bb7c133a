use Rattle.siri_load.specs.Load.{Progress}
use Rattle.siri_load.specs.Playing.{Plays}
use Rattle.siri_load.proofs.Turns.{Going}
use Rattle.siri_load.proofs.player.Player.play.Given as goal

abbrev pub invariant-loop : goal.invariant-loop
invariant-loop l = (first : Progress) → Plays l.initial.self first → Going l.count first l.counter l.self
