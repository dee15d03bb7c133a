use Rattle.std.proofs.Common.{◌≤◌, length}
use Rattle.siri_json.specs.Shown.{shown}
use Rattle.siri_deliveries.specs.Frames.{concat_frames}
use Rattle.siri_deliveries.specs.Limits.{most_entries}
use Rattle.siri_deliveries.proofs.Apart.{journeys_apart}
use Rattle.siri_deliveries.proofs.incoming_deliveries.EstimatedTimetableDeliveryTableIncoming.read_next.Goals as goal

pub returns : goal.returns
returns c =
    let came = c.in_ok-others.ensures in
    let few : length (concat_frames c.in_ok-others.frames) ≤ most_entries = rw (c.len.ensures, c.in_ok-items.ensures) at c.if-len-gt-MOST_ENTRIES.false in
    (came.0, came.1, rw (c.in_ok-items.ensures) (journeys_apart came.0 (shown c.in_ok-others.others) c.in_ok-others.frames came.2 came.3 few c.in_ok-delivery.delivery c.in_ok-delivery.ensures))
