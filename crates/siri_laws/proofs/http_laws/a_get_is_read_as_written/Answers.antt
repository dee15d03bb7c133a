use Rattle.siri_laws.proofs.http.ReadBack.{get_as_written}
use Rattle.siri_laws.proofs.http_laws.a_get_is_read_as_written.Goals as goal

pub returns : goal.returns
returns c = get_as_written
