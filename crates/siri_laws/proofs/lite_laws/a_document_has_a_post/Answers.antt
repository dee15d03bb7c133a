use Rattle.siri_laws.proofs.lite.Having.{has_post}
use Rattle.siri_laws.proofs.lite_laws.a_document_has_a_post.Goals as goal

pub returns : goal.returns
returns c = has_post
