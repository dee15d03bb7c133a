use Rattle.std.proofs.Common.{sym, ◌∙◌}
use Rattle.siri_model.specs.Direct.{response}
use Rattle.siri_model.specs.History.{current, now_of}
use Rattle.siri_deliveries.proofs.Framed.{of_bare_head}
use Rattle.siri_ends.proofs.Lends.{if_ok}
use Rattle.siri_ends.proofs.LentTexts.{bare_response, direct_filled}
use Rattle.siri_ends.proofs.lending.direct_frame.Goals as goal

pub returns : goal.returns
returns c = if_ok c.reply_frame-frame.result _ _
    (λ frame said. λ h stands.
    let name = c.args.producer.now.responder.name in
    let now = now_of h in
    let items = current h in
    let request = c.args.request.now in
    direct_filled name now items request c.requires frame
    ∙ said (response name now items request)
    (of_bare_head (response name now items request) c.in_ok-head.head
    (bare_response name now items request ∙ sym (c.in_ok-head.ensures h stands))))
    c.reply_frame-frame.ensures.text
