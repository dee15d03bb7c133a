use Rattle.siri_row_texts.proofs.Rows.{one_text_one_key}
use Rattle.siri_row_texts.proofs.laws.key_texts_determine_their_keys.Goals as goal

pub returns : goal.returns
returns c = one_text_one_key
