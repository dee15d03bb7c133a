use Rattle.siri_row_texts.proofs.Rows.{read_row_says}
use Rattle.siri_row_texts.proofs.laws.read_row_is_written.Goals as goal

pub returns : goal.returns
returns c = read_row_says
