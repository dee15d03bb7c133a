use Rattle.std.proofs.lemmas.Bool.{le-leb}
use Rattle.siri_replay.proofs.arguments.is_consumer_word.Goals as goal

pub returns-then-text-le64 : goal.returns-then-text-le64
returns-then-text-le64 c = rw (le-leb _ _ c.if-text-le64.true) c.is_all_consumer_bytes.ensures
