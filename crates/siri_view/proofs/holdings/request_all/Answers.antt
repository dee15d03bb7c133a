use Rattle.std.proofs.Common.{◌≡◌, suc, ◌+◌, ◌++◌, [], ◌∷◌, ◌∙◌, take, ap, sym, arith}
use Rattle.siri_view.specs.Consuming.{all_data_from}
use Rattle.siri_view.specs.Sending.{all_data_request}
use Rattle.siri_view.proofs.Restarted.{more_requests}
use Rattle.siri_view.proofs.holdings.request_all.Goals as goal

pub loop-entry-preserved : goal.loop-entry-preserved
loop-entry-preserved c =
    let e = c.entry-item.result in
    let es = c.args.entries.now in
    let name = c.args.name.now in
    let more = more_requests name c.args.now c.args.first es c.loop-entry.entry-index e c.loop-entry.number (omega arith)
    c.entry-item.is c.loop-entry.invariant.number in
    let next : suc c.loop-entry.entry-index ≡ c.loop-entry.entry-index + 1 = omega arith in
    let request = c.in_ok-request.ensures ∙ ap (all_data_request name c.args.now e.0 c.loop-entry.number) c.base.ensures in record {
      number = omega arith;
      made = c.in_ok-push.ensures.ok
          ∙ ((λ j. c.loop-entry.invariant.made j ++ request j ∷ [])
          ∙ (sym more ∙ ap (λ count. all_data_from name c.args.now c.args.first (take count es)) next));
    }
