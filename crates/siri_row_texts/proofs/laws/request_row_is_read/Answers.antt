use Rattle.siri_row_texts.proofs.Requests.{request_row_read}
use Rattle.siri_row_texts.proofs.laws.request_row_is_read.Goals as goal

pub returns : goal.returns
returns c = request_row_read
