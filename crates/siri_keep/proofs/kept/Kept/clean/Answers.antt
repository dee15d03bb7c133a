use Rattle.std.proofs.Common.{[], ap, ◌∙◌}
use Rattle.siri_keep.specs.declared.kept.Kept.{Kept}
use Rattle.siri_keep.proofs.Fronts.{name_stays, stands_on, told_cleaned, told_fronts, told_goes}
use Rattle.siri_keep.proofs.Told.{on_ok_any}
use Rattle.siri_keep.proofs.kept.Kept.clean.Goals as goal

pub returns-in-Ok-clause-ok : goal.returns-in-Ok-clause-ok
returns-in-Ok-clause-ok g c = told_goes c.args.self.now c.plan_clean.new.self c.write.new.self [] c.in-Ok.puts c.in-Ok.ensures.ok
    c.write.ensures.rest c.write.result _ _ c.write.ensures.told

pub returns-in-Ok-clause-cleaned : goal.returns-in-Ok-clause-cleaned
returns-in-Ok-clause-cleaned g c = told_cleaned c.args.self.now c.in-Ok.puts c.in-Ok.ensures.cleaned c.write.result _ _ c.write.ensures.told

pub returns-in-Ok-clause-trail : goal.returns-in-Ok-clause-trail
returns-in-Ok-clause-trail g c = told_fronts c.args.self.now c.plan_clean.new.self c.write.new.self [] c.in-Ok.puts c.in-Ok.ensures.ok
    c.write.ensures.rest c.write.result _ _ c.write.ensures.told

pub returns-in-Ok-clause-stands : goal.returns-in-Ok-clause-stands
returns-in-Ok-clause-stands g c = on_ok_any c.write.result _ (stands_on c.args.self.now c.plan_clean.new.self c.write.new.self []
    c.in-Ok.puts c.in-Ok.ensures.ok c.write.ensures.rest)

pub returns-in-Ok-clause-name : goal.returns-in-Ok-clause-name
returns-in-Ok-clause-name g c = on_ok_any c.write.result _ (name_stays c.args.self.now c.plan_clean.new.self c.write.new.self []
    c.in-Ok.puts c.in-Ok.ensures.ok c.write.ensures.rest)

pub returns-in-Ok-clause-looks : goal.returns-in-Ok-clause-looks
returns-in-Ok-clause-looks g c = ap (λ (k : Kept). k.producer) c.write.ensures.rest ∙ c.plan_clean.ensures.producer
