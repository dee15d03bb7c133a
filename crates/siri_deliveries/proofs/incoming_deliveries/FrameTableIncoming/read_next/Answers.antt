use Rattle.siri_json.specs.Shown.{shown}
use Rattle.siri_deliveries.proofs.Apart.{frame_apart}
use Rattle.siri_deliveries.proofs.incoming_deliveries.FrameTableIncoming.read_next.Goals as goal

pub returns : goal.returns
returns c =
    let came = c.in_ok-others.ensures in (
      came.0,
      came.1,
      rw (c.in_ok-journeys_of_frame.ensures) (frame_apart came.0 (shown c.in_ok-others.others) c.in_ok-others.journeys c.in_ok-recorded_at_time.recorded_at_time came.2
          came.3 c.in_ok-recorded_at_time.ensures),
    )
