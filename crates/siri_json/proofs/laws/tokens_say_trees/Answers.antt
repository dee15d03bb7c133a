use Rattle.serde_json.proofs.Texts.{print-outline}
use Rattle.siri_json.proofs.laws.tokens_say_trees.Goals as goal

pub returns : goal.returns
returns c = print-outline
