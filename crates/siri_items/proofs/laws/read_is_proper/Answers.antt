use Rattle.siri_json.proofs.TreeTexts.{tree_is_utf8}
use Rattle.siri_items.proofs.ItemLaws.{read_proper}
use Rattle.siri_items.proofs.laws.read_is_proper.Goals as goal

pub returns-clause-of_document : goal.returns-clause-of_document
returns-clause-of_document c = λ service document d i tree read. read_proper service d i (tree_is_utf8 document d tree) read

pub returns-clause-of_tree : goal.returns-clause-of_tree
returns-clause-of_tree c = read_proper
