use Rattle.siri_topic.proofs.Dead.{dead_are_never_shown}
use Rattle.siri_topic.proofs.shown_items.dead_items_are_never_shown.Goals as goal

pub returns : goal.returns
returns c = dead_are_never_shown
