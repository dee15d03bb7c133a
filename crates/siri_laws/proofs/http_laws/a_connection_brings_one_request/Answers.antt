use Rattle.siri_laws.proofs.http.OneRequest.{brings_one}
use Rattle.siri_laws.proofs.http_laws.a_connection_brings_one_request.Goals as goal

pub returns : goal.returns
returns c = brings_one
