use Rattle.std.proofs.Common.{◌-◌, ◌+◌, ◌≤◌, ◌≡◌, ◌∙◌, arith, length}
use Rattle.std.proofs.lemmas.Result.{IfOk-weaker}
use Rattle.siri_records.specs.Keyed.{unshared}
use Rattle.siri_responder.specs.Answering.{up_to}
use Rattle.siri_records.proofs.Placed.{length_mapped}
use Rattle.siri_responder.proofs.Ranks.{cut_none, cut_all, cut_some}
use Rattle.siri_responder.proofs.soonest.soonest.Goals as goal

pub returns-then-items-most : goal.returns-then-items-most
returns-then-items-most c =
    let items = unshared c.args.items.now in
    let le : length items ≤ c.args.most = omega (arith, c.if-items-most.true, length_mapped (λ item. item.value) c.args.items.now) in
    IfOk-weaker c.shared.result (λ shared. shared ≡ items) _ (λ shared is entries s same. is ∙ cut_none entries items c.args.most same le) c.shared.ensures

pub returns-then-most-eq0 : goal.returns-then-most-eq0
returns-then-most-eq0 c = λ entries s same. c.new.ensures ∙ cut_all entries c.args.most c.if-most-eq0.true

pub returns : goal.returns
returns c =
    let items = unshared c.args.items.now in
    let next : c.args.most - 1 + 1 ≡ c.args.most = omega (arith, c.if-most-eq0.false) in
    IfOk-weaker c.up_to.result (λ kept. kept ≡ up_to c.in_ok-last.last items) _
    (λ kept is entries s same. is ∙ cut_some entries items c.args.most
    (c.args.most - 1) c.in_ok-last.last s same next c.in_ok-last.ensures) c.up_to.ensures
