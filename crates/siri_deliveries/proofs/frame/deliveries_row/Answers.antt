use Rattle.std.proofs.Common.{◌<◌, length, arith}
use Rattle.siri_deliveries.specs.Frame.{deliveries_of}
use Rattle.siri_deliveries.proofs.Framed.{row_in_steps}
use Rattle.siri_deliveries.proofs.frame.deliveries_row.Goals as goal

pub returns-clause-text : goal.returns-clause-text
returns-clause-text c d ts count goes =
    let none = c.if-count-eq0.false in
    let some : 0 < length (deliveries_of c.args.service d) = omega arith in
    row_in_steps d c.args.service c.args.name.now c.args.pieces.now c.cut.new.pieces c.push.new.self
    c.further_places.new.pieces
    c.args.out.now c.key.new.self c.begin_list.new.self c.cut.new.out c.end_list.new.self ts
    c.in_ok-key.ensures.ok c.in_ok-begin_list.ensures.ok c.in_ok-cut.ensures.pieces c.in_ok-cut.ensures.out
    c.in_ok-push.ensures.ok
    c.in_ok-end_list.ensures.ok some (c.in_ok-further_places.ensures.text d count) goes
