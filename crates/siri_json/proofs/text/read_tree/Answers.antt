use Rattle.siri_json.specs.Shown.{shown}
use Rattle.siri_json.proofs.Direct.{tree_is, tree_nests}
use Rattle.siri_json.proofs.text.read_tree.Goals as goal

pub returns-clause-nests : goal.returns-clause-nests
returns-clause-nests c = tree_nests c.args.document.now (shown c.in_ok-read.field-0) (tree_is c.args.document.now _ c.in_ok-read.ensures.tree)
