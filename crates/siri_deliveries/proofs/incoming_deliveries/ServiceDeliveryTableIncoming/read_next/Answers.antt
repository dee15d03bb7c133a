use Rattle.siri_json.specs.Shown.{shown}
use Rattle.siri_deliveries.proofs.Apart.{deliveries_apart}
use Rattle.siri_deliveries.proofs.incoming_deliveries.ServiceDeliveryTableIncoming.read_next.Goals as goal

pub returns : goal.returns
returns c =
    let came = c.in_ok-others.ensures in
    (came.0, came.1, deliveries_apart came.0 (shown c.in_ok-others.others) c.in_ok-others.deliveries came.2 came.3 c.in_ok-delivery.delivery c.in_ok-delivery.ensures)
