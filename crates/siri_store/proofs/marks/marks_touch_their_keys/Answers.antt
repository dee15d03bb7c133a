use Rattle.siri_store.proofs.Touching.{marks_touch}
use Rattle.siri_store.proofs.marks.marks_touch_their_keys.Goals as goal

pub returns : goal.returns
returns c = marks_touch
