use Rattle.siri_row_texts.proofs.MomentRows.{began_row_read}
use Rattle.siri_row_texts.proofs.laws.moment_row_is_read.Goals as goal

pub returns : goal.returns
returns c = began_row_read
