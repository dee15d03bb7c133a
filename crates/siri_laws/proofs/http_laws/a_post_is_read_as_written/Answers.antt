use Rattle.siri_laws.proofs.http.ReadBack.{post_as_written}
use Rattle.siri_laws.proofs.http_laws.a_post_is_read_as_written.Goals as goal

pub returns : goal.returns
returns c = post_as_written
