-- The tokens of a tree, in the order in which its compact text says them.
use Rattle.std.specs.Prelude.{◌≡◌, List}
use Rattle.json.specs.Token.{Token}
use Rattle.json.specs.Tree.{json_tokens}
use Rattle.json.specs.Print.{print}
use Rattle.serde_json.specs.Data.{Data}
use Rattle.serde_json.specs.Written.{outline, compact_text}

abbrev pub tokens_of : Data → List Token
tokens_of d = json_tokens (outline d)

-- the text of the tokens of a tree is its compact text
abbrev pub TokensSayTrees : Type 0
TokensSayTrees = (d : Data) → print (tokens_of d) ≡ compact_text d
