use Rattle.std.proofs.Common.{refl}
use Rattle.siri_ends.proofs.lite.laws.all_else_asks_what_it_asks_without_queries.Goals as goal

pub returns : goal.returns
returns c = λ request other. rw other refl
