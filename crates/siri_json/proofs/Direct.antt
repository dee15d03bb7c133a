-- The tree of a document is what the document itself says, with texts for its numbers.
use Rattle.std.proofs.Common.{◌≡◌, ◌≤◌, ℕ, Bool, true, false, cond, List, Option, Some, None, option_map, option_and_then, refl, sym, ap, ap₂, ◌∙◌}
use Rattle.std.specs.Str.{is_utf8}
use Rattle.json.specs.Json as json
use Rattle.json.specs.Lex.{lex, between, fresh, tokens}
use Rattle.serde_json.specs.Data.{Data, depth}
use Rattle.serde_json.specs.Read.{of_json, max_depth, read}
use Rattle.serde_json.proofs.Nesting.{depth-read}
use Rattle.siri_json.specs.Quoted.{quoted}
use Rattle.siri_json.specs.Tree.{json_of, tree_of}
use Rattle.siri_json.specs.Shown.{data_of, said, whole}
use Rattle.siri_json.proofs.Free.{value_is_free}
use Rattle.siri_json.proofs.NumberFree.{IsFree, of_json-free}
use Rattle.siri_json.proofs.Lexed.{lexed_alike}
use Rattle.siri_json.proofs.Punctuated.{punctuated}
use Rattle.siri_json.proofs.Trees.{same_data}
use Rattle.siri_json.proofs.Utf8.{is_utf8-quoted}

free_at : (b : Bool) (o : Option json.Json) → ((j : json.Json) → o ≡ Some j → IsFree j)
    → cond b (option_and_then of_json o) None ≡ cond b (option_map data_of o) None
free_at true None h = refl
free_at true (Some j) h = of_json-free j (h j refl)
free_at false o h = refl

pushed : (b : Bool) (o : Option json.Json) → cond b (option_map data_of o) None ≡ option_map data_of (cond b o None)
pushed true o = refl
pushed false o = refl

-- the law: the quoting is the same as taking numbers for texts
pub tree_of_is : (document : List ℕ) → tree_of document ≡ option_map data_of (said document)
unfolding json_of said
tree_of_is document =
    let own = whole (json.value max_depth (tokens document)) in
    let after = whole (json.value max_depth (tokens (quoted document))) in
    let same = same_data max_depth (tokens document) (tokens (quoted document))
    (punctuated (lex between document) (lex between (quoted document)) (lexed_alike document) fresh) in
    free_at (is_utf8 (quoted document)) after (value_is_free document)
    ∙ ap₂ (λ (b : Bool) (o : Option Data). cond b o None) (sym (is_utf8-quoted document)) (sym same)
    ∙ pushed (is_utf8 document) own

pub tree_is : (document : List ℕ) (j : json.Json) → said document ≡ Some j → tree_of document ≡ Some (data_of j)
tree_is document j e = tree_of_is document ∙ ap (option_map data_of) e

pub no_tree : (document : List ℕ) → said document ≡ None → tree_of document ≡ None
no_tree document e = tree_of_is document ∙ ap (option_map data_of) e

nests_at : (b : Bool) (text : List ℕ) (d : Data) → cond b (read text) None ≡ Some d → depth d ≤ max_depth
nests_at true text d e = depth-read text d e
nests_at false text d e = absurd (cc)

pub tree_nests : (document : List ℕ) (d : Data) → tree_of document ≡ Some d → depth d ≤ max_depth
unfolding json_of
tree_nests document d e = nests_at (is_utf8 (quoted document)) (quoted document) d e
