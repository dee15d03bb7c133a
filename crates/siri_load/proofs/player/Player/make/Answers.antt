use Rattle.std.proofs.Common.{◌+◌, Err, refl, sym, ap, ◌∙◌, arith}
use Rattle.siri_load.proofs.Steps.{made_late, makes_line, makes_none, plays_as}
use Rattle.siri_load.proofs.player.Player.make.Goals as goal

pub returns-then-line-gt-MOST_LINES-clause-made : goal.returns-then-line-gt-MOST_LINES-clause-made
returns-then-line-gt-MOST_LINES-clause-made c = λ progress plays.
    let now = plays_as _ _ progress c.self.view_is plays in
    made_late c.args.event.value progress (omega (arith, now.lines)) ∙ ap (λ n. Err (n + 1)) (sym now.lines)

pub returns-in-Err-clause-made : goal.returns-in-Err-clause-made
returns-in-Err-clause-made c = λ progress plays.
    let now = plays_as _ _ progress c.self.view_is plays in
    makes_none c.args.self.now _ _ progress _ _ _ refl c.of.ensures (omega (arith, now.lines))
    (ap (λ n. n + 1) now.lines) ((c.in-Err.ensures {u = tt}).refused progress.events now.world)

pub returns-clause-made : goal.returns-clause-made
returns-clause-made c = λ progress plays.
    let now = plays_as _ _ progress c.self.view_is plays in
    makes_line _ _ _ _ progress _ refl (omega arith)
    (record { number = refl; moment = refl; lines = refl; looked = refl; lost = refl }) now
    ((c.in-Ok.ensures {u = tt}).lines progress.events now.world)
    ((c.in-Ok.ensures {u = tt}).ok progress.events now.world)
