use Rattle.std.proofs.Common.{ap, ◌∙◌}
use Rattle.siri_store.specs.Held.{Held}
use Rattle.siri_responder.proofs.Shown.{answers_held, response_is}
use Rattle.siri_responder.proofs.response.response_to.Goals as goal

pub returns-clause-ok : goal.returns-clause-ok
returns-clause-ok c =
    let store = c.args.store.now in
    let request = c.args.request.now in
    let now-2 = ap (λ (t : Held). t.moment) c.in_ok-answer_all.ensures.rest in
    let held-2 = ap (λ (t : Held). t.entries) c.in_ok-answer_all.ensures.rest in
    let now-3 = ap (λ (t : Held). t.moment) c.in_ok-answer_all-2.ensures.rest ∙ now-2 in
    let held-3 = ap (λ (t : Held). t.entries) c.in_ok-answer_all-2.ensures.rest ∙ held-2 in
    let now-4 = ap (λ (t : Held). t.moment) c.in_ok-answer_all-3.ensures.rest ∙ now-3 in
    let held-4 = ap (λ (t : Held). t.entries) c.in_ok-answer_all-3.ensures.rest ∙ held-3 in
    response_is c.args.name.now store.moment store.entries request _ _ _ _ _ _ _
    c.now.ensures
    c.in_ok-copy.ensures
    c.in_ok-copy-2.ensures
    c.in_ok-answer_all.ensures.ok
    (answers_held store.moment _ store.entries _ request.estimated_timetable_request _ now-2 held-2 c.in_ok-answer_all-2.ensures.ok)
    (answers_held store.moment _ store.entries _ request.vehicle_monitoring_request _ now-3 held-3 c.in_ok-answer_all-3.ensures.ok)
    (answers_held store.moment _ store.entries _ request.situation_exchange_request _ now-4 held-4 c.in_ok-answer_all-4.ensures.ok)
