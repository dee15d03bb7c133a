use Rattle.std.proofs.Common.{Some, [], ◌∷◌, ◌++◌, take, ap, sym, ◌∙◌, append_assoc}
use Rattle.std.specs.Prelude.{option_map}
use Rattle.siri_world_model.specs.Lines as line
use Rattle.siri_world_model.specs.Lines.{told_lines}
use Rattle.siri_world.specs.Serving.{item_lines}
use Rattle.siri_world.proofs.Listed.{all_items, more_items, told_more}
use Rattle.siri_world.proofs.viewing.push_items.Goals as goal

pub loop-place-preserved : goal.loop-place-preserved
loop-place-preserved c =
    let before = told_lines c.args.lines.now in
    let view = c.args.view.now in
    let place = c.loop-place.place in
    let value = c.in_ok-clone.field-0.value in
    ap told_lines c.in_ok-push.ensures.ok ∙ told_more c.loop-place.lines _ ∙ ap (λ l. l ++ line.Item value ∷ []) c.loop-place.invariant
    ∙ append_assoc before (item_lines (take place view)) (line.Item value ∷ [])
    ∙ ap (λ l. before ++ l) (sym (more_items view place value
    (ap Some c.in_ok-clone.ensures.cases ∙ sym (ap (option_map (λ item. item.now.value)) c.in-Some.is)
    ∙ c.at.ensures)))

pub returns-in_default : goal.returns-in_default
returns-in_default c =
    c.loop-place.invariant ∙ ap (λ l. told_lines c.args.lines.now ++ l)
    (all_items c.args.view.now c.loop-place.place
    (sym (ap (option_map (λ item. item.now.value)) c.in_default.is) ∙ c.at.ensures))
