use Rattle.std.proofs.Common.{◌≡◌, ℕ, Ok, Err, sym, ap, ◌∙◌, subst}
use Rattle.std.proofs.lemmas.Result.{err_from_is_err_and}
use Rattle.siri_load.specs.Generator.{drawn}
use Rattle.siri_load.specs.Load.{draws, makes_by, takes_all, delivers_or_loses}
use Rattle.siri_load.specs.Playing.{Brings}
use Rattle.siri_load.proofs.Steps.{plays_as, brings_on, brings_none, gives_as}
use Rattle.siri_load.proofs.Draws.{draws_plays}
use Rattle.siri_load.proofs.player.Player.happen.Goals as goal

pub returns-in_err-make_drawn : goal.returns-in_err-make_drawn
returns-in_err-make_drawn c = λ progress plays.
    let now = plays_as _ _ progress c.self.view_is plays in
    let drawn_plays = draws_plays _ progress _ c.draw-choice.ensures.number now in
    let choice : drawn (draws progress).number 10 ≡ c.draw-choice.result = ap (λ n. drawn n 10) (sym drawn_plays.number) ∙ sym c.draw-choice.ensures.value in
    let p = err_from_is_err_and c.from_residual.result c.from_residual.ensures.1 in
    let family : ℕ → Type 0 = λ choice. Brings c.make_drawn.new.self (Err c.in_err-make_drawn.field-0.0) (makes_by choice (draws progress)) in
    gives_as c.make_drawn.new.self c.from_residual.result c.in_err-make_drawn.field-0.0 _ (p.1 ∙ ap Err p.2)
    (brings_none c.make_drawn.new.self c.make_drawn.new.self c.in_err-make_drawn.field-0.0 (takes_all delivers_or_loses)
    (makes_by (drawn (draws progress).number 10) (draws progress))
    (subst family (sym choice) (c.in_err-make_drawn.ensures {u = tt} (draws progress) drawn_plays)))

pub returns : goal.returns
returns c = λ progress plays.
    let now = plays_as _ _ progress c.self.view_is plays in
    let drawn_plays = draws_plays _ progress _ c.draw-choice.ensures.number now in
    let choice : drawn (draws progress).number 10 ≡ c.draw-choice.result = ap (λ n. drawn n 10) (sym drawn_plays.number) ∙ sym c.draw-choice.ensures.value in
    let family : ℕ → Type 0 = λ choice. Brings c.make_drawn.new.self (Ok c.in_ok-make_drawn.field-0) (makes_by choice (draws progress)) in
    brings_on c.make_drawn.new.self c.take_all.new.self c.in_ok-make_drawn.field-0 c.take_all.result
    (takes_all delivers_or_loses) (makes_by (drawn (draws progress).number 10) (draws progress))
    (subst family (sym choice) (c.in_ok-make_drawn.ensures {u = tt} (draws progress) drawn_plays))
    c.take_all.ensures
