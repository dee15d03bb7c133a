use Rattle.siri_laws.proofs.lite.Run.{served_as_posts}
use Rattle.siri_laws.proofs.lite_laws.queries_are_served_as_posts.Goals as goal

pub returns : goal.returns
returns c = served_as_posts
