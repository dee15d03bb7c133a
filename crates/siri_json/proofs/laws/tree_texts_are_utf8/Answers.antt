use Rattle.siri_json.proofs.TreeTexts.{tree_is_utf8}
use Rattle.siri_json.proofs.laws.tree_texts_are_utf8.Goals as goal

pub returns : goal.returns
returns c = tree_is_utf8
