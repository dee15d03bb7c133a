use Rattle.siri_laws.proofs.queries.ReadBack.{read_back}
use Rattle.siri_laws.proofs.query_laws.queries_are_requests.Goals as goal

pub returns : goal.returns
returns c = read_back
