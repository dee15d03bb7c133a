use Rattle.std.proofs.lemmas.Result.{IfOk-weaker}
use Rattle.std.proofs.Common.{◌≡◌, sym, ◌∙◌}
use Rattle.siri_model.specs.Direct.{shown}
use Rattle.siri_model.proofs.Lawful.{unlimited}
use Rattle.siri_responder.proofs.directs.direct_to.Goals as goal

pub returns-in-None-clause-ok : goal.returns-in-None-clause-ok
returns-in-None-clause-ok c =
    let now = c.args.store.now.moment in
    let held = c.args.store.now.entries in
    IfOk-weaker c.shown_entries.result (λ items. items ≡ shown now held c.args.topic.now) _
    (λ items is. is ∙ sym (unlimited now held c.args.topic.now (sym c.in-None.ensures))) c.shown_entries.ensures.ok

pub returns-in-None-clause-first : goal.returns-in-None-clause-first
returns-in-None-clause-first c = λ most named. absurd (cc (c.in-None.ensures ∙ named))
