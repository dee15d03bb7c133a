use Rattle.std.proofs.Common.{◌≡◌, ◌∙◌, sym, ap}
use Rattle.std.specs.Map.{values_of}
use Rattle.std.proofs.lemmas.Result.{IfOk-weaker}
use Rattle.siri_records.specs.Keyed.{Items, InOrder, unshared}
use Rattle.siri_model.specs.Direct.{shown, soonest}
use Rattle.siri_model.proofs.Lawful.{shown_in_order}
use Rattle.siri_responder.proofs.Shown.{answering_most, answering_all}
use Rattle.siri_responder.proofs.answers.answering.Goals as goal

pub returns-in-Some-clause-ok : goal.returns-in-Some-clause-ok
returns-in-Some-clause-ok c =
    let topic = c.args.topic.now in
    let now = c.args.store.now.moment in
    let held = c.args.store.now.entries in
    let same = sym (ap unshared c.deref.ensures.value ∙ c.in_ok-shown.ensures.ok) in
    IfOk-weaker c.soonest.result (λ kept. (entries : Items) → InOrder entries
    → values_of entries ≡ unshared c.deref.result.now → kept ≡ values_of (soonest c.in-Some.most entries)) _
    (λ kept is. is (shown now held topic) (shown_in_order now held topic c.shown.ensures.ordered) same
    ∙ answering_most now held topic c.in-Some.most c.in-Some.ensures) c.soonest.ensures

pub returns-clause-ok : goal.returns-clause-ok
returns-clause-ok c =
    let topic = c.args.topic.now in
    let now = c.args.store.now.moment in
    let held = c.args.store.now.entries in
    IfOk-weaker c.shared.result (λ shared. shared ≡ unshared c.deref-in-None.result.now) _
    (λ shared is. is ∙ ap unshared c.deref-in-None.ensures.value ∙ c.in_ok-shown.ensures.ok ∙ answering_all now held topic c.in-None.ensures) c.shared.ensures
