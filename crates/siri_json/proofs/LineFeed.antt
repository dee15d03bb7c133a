-- A line feed behind the compact text of an object is passed over.
use Rattle.std.proofs.Common.{◌≡◌, ℕ, ◌≤◌, Bool, true, false, cond, ◌&&◌, List, [], ◌∷◌, ◌++◌, Some, option_map}
use Rattle.std.proofs.Common.{refl, sym, ap, ap₂, ◌∙◌, append_assoc, append-nil}
use Rattle.std.specs.Prelude.{IsUtf8}
use Rattle.std.proofs.lemmas.Str.{IsUtf8-append}
use Rattle.json.specs.Json as json
use Rattle.json.specs.Token.{Token, begin_object, end_object, begin_array, end_array, key, string, number, boolean, null, bad}
use Rattle.json.specs.Word.{ends_word, word}
use Rattle.json.specs.Lex.{Lexeme, token, comma, colon, string_token, lex, between, fresh, punctuate, tokens}
use Rattle.json.specs.Print.{escape, quoted as string_text, token_text, begins, ends, separator, print_from, print, IsPrintable, ArePrintable}
use Rattle.json.specs.Tree.{json_tokens}
use Rattle.json.proofs.Printed.Strings.{content-escape, lex-escape}
use Rattle.json.proofs.Printed.Numbers.{lex-number, in_word-ended}
use Rattle.json.proofs.Printed.Utf8.{IsUtf8-are_ascii}
use Rattle.json.proofs.Printed.Trees.{ArePrintable-json_tokens}
use Rattle.serde_json.specs.Data.{Data, object, Members, depth}
use Rattle.serde_json.specs.Read.{max_depth}
use Rattle.serde_json.specs.Written.{outline, compact_text}
use Rattle.serde_json.proofs.Texts.{print-outline}
use Rattle.siri_json.specs.Canonical.{IsCanonical, as_texts}
use Rattle.siri_json.specs.Shown.{data_of, whole}
use Rattle.siri_json.specs.Tree.{tree_of}
use Rattle.siri_json.proofs.Back.{has_numbers, data_of-outline, tokens_say}
use Rattle.siri_json.proofs.CompactText.{IsUtf8-compact_text}
use Rattle.siri_json.proofs.Direct.{tree_of_is}
use Rattle.siri_json.proofs.Texts.{said_is}

-- the byte of a line feed
feed : List ℕ
feed = 10 ∷ []

-- ---- the lexemes of one token before any text

lexemes_of : Token → List Lexeme
lexemes_of begin_object = token begin_object ∷ []
lexemes_of end_object = token end_object ∷ []
lexemes_of begin_array = token begin_array ∷ []
lexemes_of end_array = token end_array ∷ []
lexemes_of (key s) = token (string s) ∷ colon ∷ []
lexemes_of (string s) = token (string s) ∷ []
lexemes_of (number s) = token (number s) ∷ []
lexemes_of (boolean b) = token (boolean b) ∷ []
lexemes_of null = token null ∷ []
lexemes_of bad = []

lex_string : (s r : List ℕ) → lex between (string_text s ++ r) ≡ token (string s) ∷ lex between r
unfolding lex
lex_string s r =
    let e = append_assoc (escape s) (34 ∷ []) r in
    ap (λ l. lex between (34 ∷ l)) e ∙ ap₂ (λ o l. token (string_token o) ∷ l) (content-escape s r) (lex-escape s r)

lex_token : (t : Token) (r : List ℕ) → IsPrintable t → (ends t ≡ true → ends_word r ≡ true) → lex between (token_text t ++ r) ≡ lexemes_of t ++ lex between r
unfolding lex word lexemes_of
lex_token begin_object r h ended = refl
lex_token end_object r h ended = refl
lex_token begin_array r h ended = refl
lex_token end_array r h ended = refl
lex_token (key s) r h ended = ap (lex between) (append_assoc (string_text s) (58 ∷ []) r) ∙ lex_string s (58 ∷ r)
lex_token (string s) r h ended = lex_string s r
lex_token (number s) r h ended = lex-number s r h (ended refl)
lex_token (boolean true) r h ended = ap₂ (λ b l. token (cond b (boolean true) bad) ∷ l) (ended refl) (in_word-ended r (ended refl))
lex_token (boolean false) r h ended = ap₂ (λ b l. token (cond b (boolean false) bad) ∷ l) (ended refl) (in_word-ended r (ended refl))
lex_token null r h ended = ap₂ (λ b l. token (cond b null bad) ∷ l) (ended refl) (in_word-ended r (ended refl))
lex_token bad r h ended = absurd h

-- ---- texts of tokens

lex_comma : (b : Bool) (r : List ℕ) → lex between (cond b (44 ∷ []) [] ++ r) ≡ cond b (comma ∷ []) [] ++ lex between r
unfolding lex
lex_comma true r = refl
lex_comma false r = refl

-- after a value stands a comma, a closing bracket or what follows
value_ends : (ts : List Token) (r : List ℕ) → ends_word r ≡ true → ArePrintable ts → ends_word (print_from true ts ++ r) ≡ true
unfolding print_from ArePrintable
value_ends [] r e h = e
value_ends (begin_object ∷ ts) r e h = refl
value_ends (end_object ∷ ts) r e h = refl
value_ends (begin_array ∷ ts) r e h = refl
value_ends (end_array ∷ ts) r e h = refl
value_ends (key s ∷ ts) r e h = refl
value_ends (string s ∷ ts) r e h = refl
value_ends (number s ∷ ts) r e h = refl
value_ends (boolean b ∷ ts) r e h = refl
value_ends (null ∷ ts) r e h = refl
value_ends (bad ∷ ts) r e h = absurd h.0

lexemes : Bool → List Token → List Lexeme
lexemes c [] = []
lexemes c (t ∷ ts) = cond (c && begins t) (comma ∷ []) [] ++ (lexemes_of t ++ lexemes (ends t) ts)

-- what follows the printed tokens is lexed for itself
lex_print : (c : Bool) (ts : List Token) (r : List ℕ) → ends_word r ≡ true → ArePrintable ts
    → lex between (print_from c ts ++ r) ≡ lexemes c ts ++ lex between r
unfolding lex print_from ArePrintable lexemes
lex_print c [] r e h = refl
lex_print c (t ∷ ts) r e h =
    let rest = print_from (ends t) ts in
    let last = lexemes (ends t) ts in
    ap (lex between) (append_assoc (separator c t) (token_text t ++ rest) r ∙ ap (λ l. separator c t ++ l) (append_assoc (token_text t) rest r))
    ∙ (lex_comma (c && begins t) (token_text t ++ (rest ++ r))
    ∙ (ap (λ l. cond (c && begins t) (comma ∷ []) [] ++ l)
    (lex_token t (rest ++ r) h.0 (λ at. ap (λ b. ends_word (print_from b ts ++ r)) at ∙ value_ends ts r e h.1)
    ∙ ap (λ l. lexemes_of t ++ l) (lex_print (ends t) ts r e h.1)
    ∙ sym (append_assoc (lexemes_of t) last (lex between r)))
    ∙ sym (append_assoc (cond (c && begins t) (comma ∷ []) []) (lexemes_of t ++ last) (lex between r))))

lex_feed : (c : Bool) (ts : List Token) → ArePrintable ts → lex between (print_from c ts ++ feed) ≡ lex between (print_from c ts ++ [])
unfolding lex feed
lex_feed c ts h = lex_print c ts feed refl h ∙ sym (lex_print c ts [] refl h)

-- ---- texts of trees

tokens_feed : (d : Data) → IsCanonical d → tokens (compact_text d ++ feed) ≡ tokens (compact_text d)
tokens_feed d h =
    let text : print (json_tokens (outline d)) ≡ compact_text d = print-outline d in
    let same = lex_feed false (json_tokens (outline d)) (ArePrintable-json_tokens (outline d) (has_numbers d h)) in
    ap (λ t. tokens (t ++ feed)) (sym text) ∙ (ap (punctuate fresh) same ∙ (ap tokens (append-nil _) ∙ ap tokens text))

-- the compact text of an object and a line feed, read as a document, are the tree with texts for its numbers
pub tree_of-line : (ms : Members) → IsCanonical (object ms) → depth (object ms) ≤ max_depth
    → tree_of (compact_text (object ms) ++ 10 ∷ []) ≡ Some (as_texts (object ms))
unfolding feed
tree_of-line ms h shallow =
    let d = object ms in
    let text = compact_text d ++ 10 ∷ [] in
    let utf8 : IsUtf8 text = IsUtf8-append _ _ (IsUtf8-compact_text d h) (IsUtf8-are_ascii _ refl) in
    let is = ap (λ ts. whole (json.value max_depth ts)) (tokens_feed d h) ∙ tokens_say d h shallow in
    tree_of_is text ∙ (ap (option_map data_of) (said_is text (outline d) utf8 is) ∙ ap Some (data_of-outline d h))
