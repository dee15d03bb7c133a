use Rattle.std.proofs.Common.{◌≡◌, ◌==◌, ℕ, false, Result, ne_eqb, sym, ap, ◌∙◌, subst}
use Rattle.siri_load.specs.Generator.{drawn}
use Rattle.siri_load.specs.Load.{Progress, draws}
use Rattle.siri_load.specs.Playing.{Brings}
use Rattle.siri_load.proofs.Steps.{plays_as}
use Rattle.siri_load.proofs.Draws.{draws_plays, chosen_delivered}
use Rattle.siri_load.proofs.player.Player.deliver_or_lose.Goals as goal

pub returns-clause-done : goal.returns-clause-done
returns-clause-done c = λ progress plays.
    let now = plays_as _ _ progress c.self.view_is plays in
    let drawn_plays = draws_plays _ progress _ c.draw.ensures.number now in
    let not_zero : (drawn (draws progress).number 10 == 0) ≡ false =
    ap (λ (n : ℕ). n == 0) (ap (λ n. drawn n 10) (sym drawn_plays.number) ∙ sym c.draw.ensures.value)
    ∙ ne_eqb c.draw.result 0 c.if-draw-eq0.false in
    let family : Result Progress ℕ → Type 0 = λ outcome. Brings c.deliver.new.self c.deliver.result outcome in
    subst family (sym (chosen_delivered progress not_zero)) (c.deliver.ensures.done (draws progress) drawn_plays)
