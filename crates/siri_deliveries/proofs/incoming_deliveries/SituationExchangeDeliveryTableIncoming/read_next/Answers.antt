use Rattle.siri_json.specs.Shown.{shown}
use Rattle.siri_deliveries.proofs.Apart.{situations_apart}
use Rattle.siri_deliveries.proofs.incoming_deliveries.SituationExchangeDeliveryTableIncoming.read_next.Goals as goal

pub returns : goal.returns
returns c =
    let came = c.in_ok-others.ensures in
    (came.0, came.1, situations_apart came.0 (shown c.in_ok-others.others) c.in_ok-others.items came.2 came.3 c.in_ok-delivery.delivery c.in_ok-delivery.ensures)
