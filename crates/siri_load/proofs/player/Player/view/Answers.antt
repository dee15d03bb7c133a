use Rattle.std.proofs.Common.{refl}
use Rattle.std.proofs.lemmas.Result.{IfOk-weaker}
use Rattle.siri_load.proofs.Steps.{plays_as}
use Rattle.siri_load.proofs.Told.{shows_view, shows_none}
use Rattle.siri_load.proofs.player.Player.view.Goals as goal

pub returns-in-Err : goal.returns-in-Err
returns-in-Err c = λ progress plays.
    let now = plays_as _ _ progress c.self.view_is plays in
    IfOk-weaker c.untold.result _ _ (λ lines untold. shows_none _ _ c.args.number _ _ progress c.in-Err.error _
    refl c.in_ok-event.ensures untold now refl
    ((c.in-Err.ensures {u = tt}).refused progress.events now.world) (c.in-Err.ensures {u = tt}).rest)
    c.untold.ensures

pub returns : goal.returns
returns c = λ progress plays.
    let now = plays_as _ _ progress c.self.view_is plays in
    shows_view _ _ c.args.number _ _ progress _ _ refl c.in_ok-event.ensures c.into_vec.ensures now refl
    ((c.in-Ok.ensures {u = tt}).lines progress.events now.world)
    ((c.in-Ok.ensures {u = tt}).ok progress.events now.world)
