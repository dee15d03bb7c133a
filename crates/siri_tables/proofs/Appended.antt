-- What calls put behind the tokens that were there, taken together.
use Rattle.std.proofs.Common.{◌≡◌, ℕ, List, [], ◌∷◌, ◌++◌, Option, Some, None, refl, sym, ap, ◌∙◌, append_assoc}
use Rattle.std.specs.List.{cons_option}
use Rattle.json.specs.Token.{Token, key, string, begin_object, end_object, begin_array, end_array}
use Rattle.json.specs.Tree.{items_tokens}
use Rattle.serde_json.specs.Data.{Data, no_members}
use Rattle.serde_json.specs.View.{items_of}
use Rattle.serde_json.specs.Written.{items_outline}
use Rattle.siri_json.specs.Tokens.{tokens_of}
use Rattle.siri_tables.specs.Appended.{row_tokens, entries_tokens, Appends, AppendsRow}
use Rattle.siri_tables.specs.Writing.{with_rows, object_unless_empty, array_unless_empty, written_text}

-- a name, and then what is written
pub row_appended : (name : List ℕ) (w : Option Data) (old new : List Token) → Appends w (old ++ key name ∷ []) new → new ≡ old ++ row_tokens name w
row_appended name None old new is = absurd is
row_appended name (Some d) old new is = is ∙ append_assoc old (key name ∷ []) (tokens_of d)

-- a row that is written
pub row_is : (name : List ℕ) (w : Option Data) (old new : List Token) → AppendsRow name w old new → new ≡ old ++ row_tokens name w
row_is name None old new is = absurd is
row_is name (Some d) old new is = is

-- one entry more
pub entry_appended : (w : Option Data) (ds : List Data) (old new : List Token) → Appends w old new
    → new ++ entries_tokens ds ≡ old ++ entries_tokens (cons_option w ds)
entry_appended None ds old new is = absurd is
entry_appended (Some d) ds old new is = rw is (append_assoc old (tokens_of d) (entries_tokens ds))

entries_close : (ds : List Data) → items_tokens (items_outline (items_of ds)) ≡ entries_tokens ds ++ end_array ∷ []
entries_close [] = refl
entries_close (d ∷ ds) = ap (λ ts. tokens_of d ++ ts) (entries_close ds) ∙ sym (append_assoc (tokens_of d) (entries_tokens ds) (end_array ∷ []))

regroup : (old a b c : List Token) (k e : Token) → ((((old ++ k ∷ []) ++ e ∷ []) ++ a) ++ b) ++ c ≡ old ++ k ∷ e ∷ (a ++ (b ++ c))
regroup old a b c k e = simp append_assoc

-- a list whose first entry is written
pub list_appended : (name : List ℕ) (w : Option Data) (ds : List Data) (old first : List Token) → Appends w ((old ++ key name ∷ []) ++ begin_array ∷ []) first
    → AppendsRow name (array_unless_empty (cons_option w ds)) old ((first ++ entries_tokens ds) ++ end_array ∷ [])
list_appended name None ds old first is = absurd is
list_appended name (Some d) ds old first is =
    rw is (regroup old (tokens_of d) (entries_tokens ds) (end_array ∷ []) (key name) begin_array
    ∙ ap (λ ts. old ++ key name ∷ begin_array ∷ (tokens_of d ++ ts)) (sym (entries_close ds)))

-- an object of one row that is written
regroup_object : (old a : List Token) (b n c : Token) → ((old ++ b ∷ []) ++ n ∷ a) ++ c ∷ [] ≡ old ++ b ∷ n ∷ (a ++ c ∷ [])
regroup_object old a b n c = simp append_assoc

pub object_appended : (name : List ℕ) (w : Option Data) (old new : List Token) → AppendsRow name w (old ++ begin_object ∷ []) new
    → Appends (object_unless_empty (with_rows no_members ((name, w) ∷ []))) old (new ++ end_object ∷ [])
object_appended name None old new is = absurd is
object_appended name (Some d) old new is = rw is (regroup_object old (tokens_of d) begin_object (key name) end_object)

pub name_in_order : (old : List Token) (inner name : List ℕ)
    → ((old ++ begin_object ∷ []) ++ row_tokens inner (written_text name)) ++ end_object ∷ [] ≡ old
    ++ begin_object ∷ key inner ∷ string name ∷ end_object ∷ []
name_in_order old inner name = simp append_assoc
