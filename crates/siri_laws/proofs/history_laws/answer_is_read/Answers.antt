use Rattle.siri_laws.proofs.Responses.{read_again}
use Rattle.siri_laws.proofs.history_laws.answer_is_read.Goals as goal

pub returns : goal.returns
returns c = read_again
