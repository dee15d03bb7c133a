use Rattle.std.proofs.Common.{refl}
use Rattle.json.specs.Json.{object}
use Rattle.siri_deliveries.proofs.Apart.{situations_are}
use Rattle.siri_deliveries.proofs.incoming_deliveries.SituationsApart.next.Goals as goal

pub returns : goal.returns
returns c =
    let came = c.in_ok-items.ensures in
    (object came.0, came.1, refl, situations_are came.0 c.in_ok-items.items came.3)
