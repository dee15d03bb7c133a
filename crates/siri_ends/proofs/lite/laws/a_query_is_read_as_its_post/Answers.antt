use Rattle.siri_ends.proofs.Queries.{read_as_its_post}
use Rattle.siri_ends.proofs.lite.laws.a_query_is_read_as_its_post.Goals as goal

pub returns : goal.returns
returns c = read_as_its_post
