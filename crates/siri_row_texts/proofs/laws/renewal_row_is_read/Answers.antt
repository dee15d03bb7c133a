use Rattle.siri_row_texts.proofs.Requests.{renewal_row_read}
use Rattle.siri_row_texts.proofs.laws.renewal_row_is_read.Goals as goal

pub returns : goal.returns
returns c = renewal_row_read
