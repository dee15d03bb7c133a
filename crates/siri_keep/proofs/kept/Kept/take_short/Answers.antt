use Rattle.std.proofs.Common.{[], ◌∷◌, Ok}
use Rattle.siri_model.specs.History.{Take}
use Rattle.siri_producer.specs.declared.answers.Answer.{Answer}
use Rattle.siri_keep.proofs.Fronts.{follows_on, name_stays, stands_on, told_fronts, told_fronts_same, told_goes, told_stays_err}
use Rattle.siri_keep.proofs.Looks.{looks_written}
use Rattle.siri_keep.proofs.kept.Kept.take_short.Goals as goal

pub returns-in-Ok-write-clause-ok : goal.returns-in-Ok-write-clause-ok
returns-in-Ok-write-clause-ok g c = told_goes c.args.self.now c.plan_take.new.self c.write.new.self (Take c.args.message ∷ [])
    c.in-Ok.planned.puts c.in-Ok.ensures.ok c.write.ensures.rest (Ok c.in-Ok-write.field-0) _ _ c.in-Ok-write.ensures.told

pub returns-in-Ok-write-clause-trail : goal.returns-in-Ok-write-clause-trail
returns-in-Ok-write-clause-trail g c = told_fronts c.args.self.now c.plan_take.new.self c.write.new.self (Take c.args.message ∷ [])
    c.in-Ok.planned.puts c.in-Ok.ensures.ok c.write.ensures.rest c.write.result _ _ c.write.ensures.told

pub returns-in-Err-write-clause-trail : goal.returns-in-Err-write-clause-trail
returns-in-Err-write-clause-trail g c = told_fronts c.args.self.now c.plan_take.new.self c.write.new.self (Take c.args.message ∷ [])
    c.in-Ok.planned.puts c.in-Ok.ensures.ok c.write.ensures.rest c.write.result _ _ c.write.ensures.told

pub returns-in-Ok-write-clause-stands : goal.returns-in-Ok-write-clause-stands
returns-in-Ok-write-clause-stands g c = stands_on c.args.self.now c.plan_take.new.self c.write.new.self (Take c.args.message ∷ [])
    c.in-Ok.planned.puts c.in-Ok.ensures.ok c.write.ensures.rest

pub returns-in-Ok-write-clause-name : goal.returns-in-Ok-write-clause-name
returns-in-Ok-write-clause-name g c = name_stays c.args.self.now c.plan_take.new.self c.write.new.self (Take c.args.message ∷ [])
    c.in-Ok.planned.puts c.in-Ok.ensures.ok c.write.ensures.rest

pub returns-in-Err-clause-trail : goal.returns-in-Err-clause-trail
returns-in-Err-clause-trail g c = told_fronts_same c.args.self.now (Take c.args.message ∷ []) _

pub returns-in-Err-write-clause-stays : goal.returns-in-Err-write-clause-stays
returns-in-Err-write-clause-stays g c = told_stays_err (Unit {0}) Answer c.in-Ok.planned.puts c.in-Err-write.error _ _ c.in-Err-write.ensures.told

pub returns-in-Ok-write-clause-follows : goal.returns-in-Ok-write-clause-follows
returns-in-Ok-write-clause-follows g c = follows_on c.args.self.now c.plan_take.new.self c.write.new.self (Take c.args.message ∷ [])
    c.in-Ok.planned.puts c.in-Ok.ensures.ok c.write.ensures.rest

pub returns-in-Ok-write-clause-looks : goal.returns-in-Ok-write-clause-looks
returns-in-Ok-write-clause-looks g c = looks_written c.args.self.now c.plan_take.new.self c.write.new.self c.args.message
    c.plan_take.ensures.looks c.write.ensures.rest

pub returns-in-Err-write-clause-looks : goal.returns-in-Err-write-clause-looks
returns-in-Err-write-clause-looks g c = looks_written c.args.self.now c.plan_take.new.self c.write.new.self c.args.message
    c.plan_take.ensures.looks c.write.ensures.rest
