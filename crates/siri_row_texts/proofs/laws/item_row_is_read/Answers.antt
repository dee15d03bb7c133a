use Rattle.siri_row_texts.proofs.Rows.{item_row_read}
use Rattle.siri_row_texts.proofs.laws.item_row_is_read.Goals as goal

pub returns : goal.returns
returns c = item_row_read
