use Rattle.std.proofs.Common.{refl}
use Rattle.siri_ends.proofs.lite.laws.a_get_of_an_unknown_path_is_refused.Goals as goal

pub returns : goal.returns
returns c = λ target body query none. rw (query, none) refl
