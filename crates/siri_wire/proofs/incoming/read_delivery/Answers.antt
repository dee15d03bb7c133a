use Rattle.std.proofs.Common.{◌≤◌, length, arith}
use Rattle.siri_json.specs.Tree.{longest_document}
use Rattle.siri_wire.proofs.Plain.{where_ok, message_is}
use Rattle.siri_wire.proofs.incoming.read_delivery.Goals as goal

pub returns-in-Ok : goal.returns-in-Ok
returns-in-Ok c =
    let same = c.in-Ok.ensures.cases.0 in
    let short : length c.args.document.now ≤ longest_document = omega arith in
    where_ok c.delivery_of.result _ _
    (λ delivery h. message_is c.args.document.now h.0 delivery c.in-Ok.ensures.cases.1 short (rw (same) at h.1) h.2)
    c.delivery_of.ensures
