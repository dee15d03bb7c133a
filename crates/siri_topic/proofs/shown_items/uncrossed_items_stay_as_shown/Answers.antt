use Rattle.siri_topic.proofs.Stays.{stays_shown}
use Rattle.siri_topic.proofs.shown_items.uncrossed_items_stay_as_shown.Goals as goal

pub returns : goal.returns
returns c = stays_shown
