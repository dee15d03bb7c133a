-- The tree of a document has UTF-8 texts, since the document that is read is UTF-8: a text begins and ends beside a quote, and
-- an escape stands for a character.
use Rattle.std.proofs.Common.{◌≡◌, ℕ, zero, suc, ◌+◌, ◌<◌, ◌≤◌, Bool, true, false, cond, ◌&&◌, ◌||◌, ◌==◌, nat_lt, nat_le, List, [], ◌∷◌}
use Rattle.std.proofs.Common.{◌++◌, length, Option, Some, None, option_map, option_and_then, Ordering, Less, Equal}
use Rattle.std.proofs.Common.{Greater, nat_cmp, inl, inr, refl, sym, ◌∙◌, subst, arith, append_assoc, append-nil}
use Rattle.std.specs.Prelude.{IfSome, IsUtf8, ⊤}
use Rattle.std.specs.Char.{digit_value, is_digit, encode_utf8, IsScalar}
use Rattle.std.specs.Cmp.Lexicographic.{slice_cmp}
use Rattle.std.specs.List.{AllByRecursion}
use Rattle.std.specs.Ordering.{match_ordering}
use Rattle.std.specs.Str.{is_utf8}
use Rattle.std.proofs.lemmas.Bool.{and_parts, cases_lt, ltb-true, lt-ltb, le-ltb, le-leb, leb-true, eqb-true, true≢false}
use Rattle.std.proofs.lemmas.Str.{IsUtf8-append, IsUtf8-encode, IsUtf8-from_ascii}
use Rattle.std.proofs.lemmas.Str.{IsUtf8-from_is_utf8}
use Rattle.std.proofs.lemmas.Str.Ascii.{IsAscii-nil, IsAscii-cons}
use Rattle.json.specs.Token.{Token}
use Rattle.json.specs.Text.{code_unit, short_escape, is_high_surrogate, is_low_surrogate, surrogate_pair, Within, plain, after_backslash}
use Rattle.json.specs.Text.{after_u, after_high, prepend, content}
use Rattle.json.specs.Word.{is_operator, is_space, head, ends_word, after_number, number_before, word}
use Rattle.json.specs.Lex.{Lexeme, token, comma, colon, Class, quote, backslash, operator, space, other, class, operator_lexeme}
use Rattle.json.specs.Lex.{string_token, Mode, between, in_word, in_string, in_escape, lex_byte, lex}
use Rattle.json.specs.Lex.{Place, fresh, after_value, after_comma, after_key, begins_colon, may_begin, may_close, if_allowed, place_token, punctuate, tokens}
use Rattle.json.specs.Json as json
use Rattle.json.specs.Json.{Parse, parse_map, after_end_array, read_key, items_step, members_step, items, members, value_with, value}
use Rattle.serde_json.specs.Data.{Data, number, array, object, item, Members, no_members, member, put}
use Rattle.serde_json.specs.Read.{number_of, of_json, of_items, of_members, max_depth, read}
use Rattle.siri_json.specs.Quoted.{quoted}
use Rattle.siri_json.specs.Tree.{json_of, tree_of}
use Rattle.siri_json.proofs.Utf8.{cut, past}
use Rattle.siri_json.specs.TextsOfTrees.{TextsAreUtf8, ItemTextsAreUtf8, MemberTextsAreUtf8, DocumentTextsAreUtf8}

-- ---- what may be absent

both : {A : Type 0} (P : A → Type 0) (b : Bool) (x y : Option A) → (b ≡ true → IfSome x P) → (b ≡ false → IfSome y P) → IfSome (cond b x y) P
both P true x y f g = f refl
both P false x y f g = g refl

and_then_is : {A B : Type 0} (Q : A → Type 0) (P : B → Type 0) (f : A → Option B) (o : Option A) → IfSome o Q
    → ((a : A) → Q a → IfSome (f a) P) → IfSome (option_and_then f o) P
and_then_is Q P f None is h = tt
and_then_is Q P f (Some a) is h = h a is

mapped : {A B : Type 0} (Q : A → Type 0) (P : B → Type 0) (f : A → B) (o : Option A) → IfSome o Q → ((a : A) → Q a → P (f a)) → IfSome (option_map f o) P
mapped Q P f None is h = tt
mapped Q P f (Some a) is h = h a is

anything : {A : Type 0} (o : Option A) → IfSome o (λ a. ⊤)
anything None = tt
anything (Some a) = tt

-- ---- texts beside an ASCII byte

one_byte : (x : ℕ) → x < 128 → IsUtf8 (x ∷ [])
one_byte x low = IsUtf8-from_ascii (x ∷ []) (IsAscii-cons x [] low IsAscii-nil)

moved_on : (p xs : List ℕ) (x : ℕ) → IsUtf8 (p ++ x ∷ xs) → IsUtf8 ((p ++ x ∷ []) ++ xs)
moved_on p xs x u = subst IsUtf8 (sym (append_assoc p (x ∷ []) xs)) u

low_byte : (x n : ℕ) → n < 128 → (x == n) ≡ true → x < 128
low_byte x n small e = let same = eqb-true x n e in omega (arith, same, small)

-- ---- escapes

abbrev AreLow : ℕ → ℕ → Type 0
AreLow x c = (x < 128) × (c < 128)

either : {Q : Type 0} (a b : Bool) → (a ≡ true → Q) → (b ≡ true → Q) → (a || b) ≡ true → Q
either true b f g e = f refl
either false b f g e = g e

picked : (x n c : ℕ) (rest : Option ℕ) → n < 128 → c < 128 → IfSome rest (AreLow x) → IfSome (cond (x == n) (Some c) rest) (AreLow x)
picked x n c rest small low is = both (AreLow x) (x == n) (Some c) rest (λ e. (low_byte x n small e, low)) (λ e. is)

short_is : (x : ℕ) → IfSome (short_escape x) (AreLow x)
unfolding short_escape
short_is x =
    both (AreLow x) ((x == 34) || (x == 92) || (x == 47)) (Some x) _
    (λ e.
    let low = either ((x == 34) || (x == 92)) (x == 47)
    (λ f. either (x == 34) (x == 92) (low_byte x 34 (omega arith)) (low_byte x 92 (omega arith)) f)
    (low_byte x 47 (omega arith)) e in
    (low, low))
    (λ e.
    picked x 98 8 _ (omega arith) (omega arith) (picked x 102 12 _ (omega arith) (omega arith) (picked x 110 10 _ (omega arith) (omega arith)
    (picked x 114 13 _ (omega arith) (omega arith) (picked x 116 9 None (omega arith) (omega arith) tt)))))

past_letters : (x : ℕ) → 123 ≤ x → digit_value x ≡ 36
past_letters x le =
    rw (
      le-ltb x 48 (omega (arith, le)),
      le-ltb x 58 (omega (arith, le)),
      le-ltb x 65 (omega (arith, le)),
      le-ltb x 91 (omega (arith, le)),
      le-ltb x 97 (omega (arith, le)),
      le-ltb x 123 le,
    ) refl

hex_small : (x : ℕ) → is_digit x 16 ≡ true → digit_value x < 16
hex_small x h = ltb-true (digit_value x) 16 h

hex_low : (x : ℕ) → is_digit x 16 ≡ true → x < 128
hex_low x h = elim (cases_lt x 123) [
  | inl below ↦ omega (arith, below)
  | inr above ↦ let value = past_letters x above in let small = hex_small x h in absurd (omega (arith, value, small))
]

-- a code unit, and the four bytes that spell it
abbrev IsUnit : ℕ → ℕ → ℕ → ℕ → ℕ → Type 0
IsUnit a b c d u = (u < 65536) × ((a < 128) × (b < 128)) × ((c < 128) × (d < 128))

unit_is : (a b c d : ℕ) → IfSome (code_unit a b c d) (IsUnit a b c d)
unfolding code_unit
unit_is a b c d =
    both (IsUnit a b c d) (is_digit a 16 && is_digit b 16 && is_digit c 16 && is_digit d 16) _ None
    (λ e.
    let p = and_parts (is_digit a 16 && is_digit b 16 && is_digit c 16) (is_digit d 16) e in
    let q = and_parts (is_digit a 16 && is_digit b 16) (is_digit c 16) p.0 in
    let r = and_parts (is_digit a 16) (is_digit b 16) q.0 in
    (omega (arith, hex_small a r.0, hex_small b r.1, hex_small c q.1, hex_small d p.1), (hex_low a r.0, hex_low b r.1), (hex_low c q.1, hex_low d p.1)))
    (λ e. tt)

low_scalar : (c : ℕ) → c < 55296 → IsScalar c
low_scalar c below = rw (lt-ltb c 55296 below) refl

high_scalar : (c : ℕ) → 57344 ≤ c → c < 1114112 → IsScalar c
high_scalar c above below = rw (le-ltb c 55296 (omega (arith, above)), le-leb 57344 c above, lt-ltb c 1114112 below) refl

is_high : (u : ℕ) → 55296 ≤ u → u < 56320 → is_high_surrogate u ≡ true
is_high u above below = rw (le-leb 55296 u above, lt-ltb u 56320 below) refl

is_low : (u : ℕ) → 56320 ≤ u → u < 57344 → is_low_surrogate u ≡ true
is_low u above below = rw (le-leb 56320 u above, lt-ltb u 57344 below) refl

unit_scalar : (u : ℕ) → u < 65536 → is_high_surrogate u ≡ false → is_low_surrogate u ≡ false → IsScalar u
unit_scalar u small no_high no_low = elim (cases_lt u 55296) [
  | inl below ↦ low_scalar u below
  | inr above ↦ elim (cases_lt u 56320) [
    | inl below ↦ absurd (true≢false (sym (is_high u above below) ∙ no_high))
    | inr over ↦ elim (cases_lt u 57344) [
      | inl below ↦ absurd (true≢false (sym (is_low u over below) ∙ no_low))
      | inr past ↦ high_scalar u past (omega (arith, small))
    ]
  ]
]

pair_scalar : (h l : ℕ) → is_high_surrogate h ≡ true → is_low_surrogate l ≡ true → IsScalar (surrogate_pair h l)
pair_scalar h l high low =
    let p = and_parts (nat_le 55296 h) (nat_lt h 56320) high in
    let q = and_parts (nat_le 56320 l) (nat_lt l 57344) low in
    let h_above = leb-true 55296 h p.0 in
    let h_below = ltb-true h 56320 p.1 in
    let l_above = leb-true 56320 l q.0 in
    let l_below = ltb-true l 57344 q.1 in
    high_scalar (surrogate_pair h l) (omega (arith, h_above, h_below, l_above, l_below)) (omega (arith, h_above, h_below, l_above, l_below))

-- ---- the content of a text

joined : (p : List ℕ) (r : Option (List ℕ)) → IsUtf8 p → IfSome r IsUtf8 → IfSome r (λ s. IsUtf8 (p ++ s))
joined p None u is = tt
joined p (Some s) u is = IsUtf8-append p s u is

after_one : (p : List ℕ) (x : ℕ) (r : Option (List ℕ)) → IfSome r (λ s. IsUtf8 ((p ++ x ∷ []) ++ s)) → IfSome (prepend (x ∷ []) r) (λ s. IsUtf8 (p ++ s))
after_one p x None is = tt
after_one p x (Some s) is = subst IsUtf8 (append_assoc p (x ∷ []) s) is

ahead : (bytes : List ℕ) (r : Option (List ℕ)) → IsUtf8 bytes → IfSome r IsUtf8 → IfSome (prepend bytes r) IsUtf8
ahead bytes None u is = tt
ahead bytes (Some s) u is = IsUtf8-append bytes s u is

-- what is read where the text so far, and what follows, is UTF-8
abbrev IsContent : Within → List ℕ → Type 0
IsContent plain xs = (p : List ℕ) → IsUtf8 (p ++ xs) → IfSome (content plain xs) (λ s. IsUtf8 (p ++ s))
IsContent after_backslash xs = IsUtf8 xs → IfSome (content after_backslash xs) IsUtf8
IsContent after_u xs = IsUtf8 xs → IfSome (content after_u xs) IsUtf8
IsContent (after_high h) xs = is_high_surrogate h ≡ true → IsUtf8 xs → IfSome (content (after_high h) xs) IsUtf8

content_is : (w : Within) (xs : List ℕ) → IsContent w xs
unfolding content
content_is plain [] = λ p u. tt
content_is plain (x ∷ xs) = λ p u.
    both (λ s. IsUtf8 (p ++ s)) (x == 34) (Some []) _
    (λ q. subst IsUtf8 (sym (append-nil p)) (cut p xs x (low_byte x 34 (omega arith) q) u).0)
    (λ q. both (λ s. IsUtf8 (p ++ s)) (x == 92) (content after_backslash xs) _
    (λ b. joined p (content after_backslash xs) (cut p xs x (low_byte x 92 (omega arith) b) u).0
    (content_is after_backslash xs (past x xs (low_byte x 92 (omega arith) b) (cut p xs x (low_byte x 92 (omega arith) b) u).1)))
    (λ b. both (λ s. IsUtf8 (p ++ s)) (nat_lt x 32) None _ (λ l. tt)
    (λ l. after_one p x (content plain xs) (content_is plain xs (p ++ x ∷ []) (moved_on p xs x u)))))
content_is after_backslash [] = λ u. tt
content_is after_backslash (x ∷ xs) = λ u.
    both IsUtf8 (x == 117) (content after_u xs) _ (λ e. content_is after_u xs (past x xs (low_byte x 117 (omega arith) e) u))
    (λ e. and_then_is (AreLow x) IsUtf8 _ (short_escape x) (short_is x)
    (λ c low. ahead (c ∷ []) (content plain xs) (one_byte c low.1)
    (content_is plain xs [] (past x xs low.0 u))))
content_is after_u [] = λ u. tt
content_is after_u (a ∷ []) = λ u. tt
content_is after_u (a ∷ b ∷ []) = λ u. tt
content_is after_u (a ∷ b ∷ c ∷ []) = λ u. tt
content_is after_u (a ∷ b ∷ c ∷ d ∷ xs) = λ u.
    and_then_is (IsUnit a b c d) IsUtf8 _ (code_unit a b c d) (unit_is a b c d) (λ unit is.
    let rest = past d xs is.2.1 (past c (d ∷ xs) is.2.0 (past b (c ∷ d ∷ xs) is.1.1 (past a (b ∷ c ∷ d ∷ xs) is.1.0 u))) in
    both IsUtf8 (is_high_surrogate unit) (content (after_high unit) xs) _ (λ h. content_is (after_high unit) xs h rest)
    (λ h. both IsUtf8 (is_low_surrogate unit) None _ (λ l. tt)
    (λ l. ahead (encode_utf8 unit) (content plain xs) (IsUtf8-encode unit (unit_scalar unit is.0 h l))
    (content_is plain xs [] rest))))
content_is (after_high h) [] = λ high u. tt
content_is (after_high h) (s ∷ []) = λ high u. tt
content_is (after_high h) (s ∷ t ∷ []) = λ high u. tt
content_is (after_high h) (s ∷ t ∷ a ∷ []) = λ high u. tt
content_is (after_high h) (s ∷ t ∷ a ∷ b ∷ []) = λ high u. tt
content_is (after_high h) (s ∷ t ∷ a ∷ b ∷ c ∷ []) = λ high u. tt
content_is (after_high h) (s ∷ t ∷ a ∷ b ∷ c ∷ d ∷ xs) = λ high u.
    both IsUtf8 ((s == 92) && (t == 117)) _ None (λ e.
    let p = and_parts (s == 92) (t == 117) e in
    let unit = past t (a ∷ b ∷ c ∷ d ∷ xs) (low_byte t 117 (omega arith) p.1)
    (past s (t ∷ a ∷ b ∷ c ∷ d ∷ xs) (low_byte s 92 (omega arith) p.0) u) in
    and_then_is (IsUnit a b c d) IsUtf8 _ (code_unit a b c d) (unit_is a b c d) (λ l is.
    let rest = past d xs is.2.1 (past c (d ∷ xs) is.2.0 (past b (c ∷ d ∷ xs) is.1.1 (past a (b ∷ c ∷ d ∷ xs) is.1.0 unit))) in
    both IsUtf8 (is_low_surrogate l) _ None (λ low. ahead (encode_utf8 (surrogate_pair h l)) (content plain xs)
    (IsUtf8-encode (surrogate_pair h l) (pair_scalar h l high low)) (content_is plain xs [] rest)) (λ low. tt)))
    (λ e. tt)

-- ---- tokens

abbrev TokenIs : Token → Type 0
TokenIs Token.begin_object = ⊤
TokenIs Token.end_object = ⊤
TokenIs Token.begin_array = ⊤
TokenIs Token.end_array = ⊤
TokenIs (Token.key s) = ⊤
TokenIs (Token.string s) = IsUtf8 s
TokenIs (Token.number s) = ⊤
TokenIs (Token.boolean b) = ⊤
TokenIs Token.null = ⊤
TokenIs Token.bad = ⊤

abbrev TokensAre : List Token → Type 0
TokensAre ts = AllByRecursion TokenIs ts

abbrev LexemeIs : Lexeme → Type 0
LexemeIs (token t) = TokenIs t
LexemeIs comma = ⊤
LexemeIs colon = ⊤

one_of : (b : Bool) (t u : Token) → TokenIs t → TokenIs u → TokenIs (cond b t u)
one_of true t u p q = p
one_of false t u p q = q

number_word : (t : List ℕ) (o : Option (List ℕ)) → TokenIs (number_before t o)
number_word t None = tt
number_word t (Some r) = one_of (ends_word r) _ Token.bad tt tt

word_is : (t : List ℕ) → TokenIs (word t)
unfolding word
word_is t =
    one_of (head t == 116) _ _ (one_of _ (Token.boolean true) Token.bad tt tt) (one_of (head t == 102) _ _ (one_of _ (Token.boolean false) Token.bad tt tt)
    (one_of (head t == 110) _ _ (one_of _ Token.null Token.bad tt tt) (number_word t (after_number t))))

text_token : (o : Option (List ℕ)) → IfSome o IsUtf8 → TokenIs (string_token o)
text_token None is = tt
text_token (Some s) is = is

one_lexeme : (b : Bool) (l m : Lexeme) → LexemeIs l → LexemeIs m → LexemeIs (cond b l m)
one_lexeme true l m p q = p
one_lexeme false l m p q = q

operator_is : (x : ℕ) → LexemeIs (operator_lexeme x)
operator_is x =
    one_lexeme (x == 123) (token Token.begin_object) _ tt
    (one_lexeme (x == 125) (token Token.end_object) _ tt (one_lexeme (x == 91) (token Token.begin_array) _ tt
    (one_lexeme (x == 93) (token Token.end_array) _ tt (one_lexeme (x == 44) comma colon tt tt))))

abbrev IfQuote : Class → Type 0 → Type 0
IfQuote quote Q = Q
IfQuote backslash Q = ⊤
IfQuote operator Q = ⊤
IfQuote space Q = ⊤
IfQuote other Q = ⊤

class_is : (Q : Type 0) (q b o s : Bool) → (q ≡ true → Q) → IfQuote (cond q quote (cond b backslash (cond o operator (cond s space other)))) Q
class_is Q true b o s h = h refl
class_is Q false true o s h = tt
class_is Q false false true s h = tt
class_is Q false false false true h = tt
class_is Q false false false false h = tt

byte_is : (m : Mode) (c : Class) (x : ℕ) (xs : List ℕ) (k : Mode → List Lexeme)
    → IfQuote c (IfSome (content plain xs) IsUtf8) → ((next : Mode) → AllByRecursion LexemeIs (k next))
    → AllByRecursion LexemeIs (lex_byte m c x xs k)
byte_is between quote x xs k text rest = (text_token (content plain xs) text, rest in_string)
byte_is between backslash x xs k text rest = (tt, rest in_word)
byte_is between operator x xs k text rest = (operator_is x, rest between)
byte_is between space x xs k text rest = rest between
byte_is between other x xs k text rest = (word_is (x ∷ xs), rest in_word)
byte_is in_word quote x xs k text rest = rest in_word
byte_is in_word backslash x xs k text rest = rest in_word
byte_is in_word operator x xs k text rest = (operator_is x, rest between)
byte_is in_word space x xs k text rest = rest between
byte_is in_word other x xs k text rest = rest in_word
byte_is in_string quote x xs k text rest = rest between
byte_is in_string backslash x xs k text rest = rest in_escape
byte_is in_string operator x xs k text rest = rest in_string
byte_is in_string space x xs k text rest = rest in_string
byte_is in_string other x xs k text rest = rest in_string
byte_is in_escape c x xs k text rest = rest in_string

lex_is : (m : Mode) (p xs : List ℕ) → IsUtf8 (p ++ xs) → AllByRecursion LexemeIs (lex m xs)
unfolding lex
lex_is m p [] u = tt
lex_is m p (x ∷ xs) u =
    byte_is m (class x) x xs (λ next. lex next xs)
    (class_is _ (x == 34) (x == 92) (is_operator x) (is_space x)
    (λ e. content_is plain xs [] (past x xs (low_byte x 34 (omega arith) e)
    (cut p xs x (low_byte x 34 (omega arith) e) u).1)))
    (λ next. lex_is next (p ++ x ∷ []) xs (moved_on p xs x u))

allowed_is : (b : Bool) (t : Token) (k : Place → List Token) (next : Place) → TokenIs t → ((q : Place) → TokensAre (k q)) → TokensAre (if_allowed b t k next)
allowed_is true t k next is rest = (is, rest next)
allowed_is false t k next is rest = (tt, tt)

place_is : (p : Place) (t : Token) (before_colon : Bool) (k : Place → List Token) → TokenIs t
    → ((q : Place) → TokensAre (k q)) → TokensAre (place_token p t before_colon k)
place_is p Token.begin_object b k is rest = allowed_is (may_begin p) Token.begin_object k fresh tt rest
place_is p Token.end_object b k is rest = allowed_is (may_close p) Token.end_object k after_value tt rest
place_is p Token.begin_array b k is rest = allowed_is (may_begin p) Token.begin_array k fresh tt rest
place_is p Token.end_array b k is rest = allowed_is (may_close p) Token.end_array k after_value tt rest
place_is p (Token.key s) b k is rest = (tt, tt)
place_is p (Token.string s) true k is rest = allowed_is (may_begin p) (Token.key s) k after_key tt rest
place_is p (Token.string s) false k is rest = allowed_is (may_begin p) (Token.string s) k after_value is rest
place_is p (Token.number s) b k is rest = allowed_is (may_begin p) (Token.number s) k after_value tt rest
place_is p (Token.boolean v) b k is rest = allowed_is (may_begin p) (Token.boolean v) k after_value tt rest
place_is p Token.null b k is rest = allowed_is (may_begin p) Token.null k after_value tt rest
place_is p Token.bad b k is rest = (tt, tt)

punctuated : (p : Place) (ls : List Lexeme) → AllByRecursion LexemeIs ls → TokensAre (punctuate p ls)
unfolding punctuate
punctuated fresh [] is = tt
punctuated after_value [] is = tt
punctuated after_comma [] is = (tt, tt)
punctuated after_key [] is = (tt, tt)
punctuated fresh (token t ∷ ls) is = place_is fresh t (begins_colon ls) (λ next. punctuate next ls) is.0 (λ next. punctuated next ls is.1)
punctuated after_value (token t ∷ ls) is = place_is after_value t (begins_colon ls) (λ next. punctuate next ls) is.0 (λ next. punctuated next ls is.1)
punctuated after_comma (token t ∷ ls) is = place_is after_comma t (begins_colon ls) (λ next. punctuate next ls) is.0 (λ next. punctuated next ls is.1)
punctuated after_key (token t ∷ ls) is = place_is after_key t (begins_colon ls) (λ next. punctuate next ls) is.0 (λ next. punctuated next ls is.1)
punctuated fresh (comma ∷ ls) is = (tt, tt)
punctuated after_value (comma ∷ ls) is = punctuated after_comma ls is.1
punctuated after_comma (comma ∷ ls) is = (tt, tt)
punctuated after_key (comma ∷ ls) is = (tt, tt)
punctuated fresh (colon ∷ ls) is = (tt, tt)
punctuated after_value (colon ∷ ls) is = (tt, tt)
punctuated after_comma (colon ∷ ls) is = (tt, tt)
punctuated after_key (colon ∷ ls) is = punctuated fresh ls is.1

-- ---- values

abbrev mutual
  JsonIs : json.Json → Type 0
  JsonIs json.null = ⊤
  JsonIs (json.boolean b) = ⊤
  JsonIs (json.number s) = ⊤
  JsonIs (json.string s) = IsUtf8 s
  JsonIs (json.array js) = JsonItemsAre js
  JsonIs (json.object ms) = JsonMembersAre ms

  JsonItemsAre : json.Items → Type 0
  JsonItemsAre json.no_items = ⊤
  JsonItemsAre (json.item j js) = JsonIs j × JsonItemsAre js

  JsonMembersAre : json.Members → Type 0
  JsonMembersAre json.no_members = ⊤
  JsonMembersAre (json.member k j ms) = JsonIs j × JsonMembersAre ms

-- what was parsed, and the tokens after it
abbrev Parsed : {A : Type 0} → (A → Type 0) → A × List Token → Type 0
Parsed P p = P p.0 × TokensAre p.1

abbrev Parses : {A : Type 0} → (A → Type 0) → Parse A → Type 0
Parses P parse = (ts : List Token) → TokensAre ts → IfSome (parse ts) (Parsed P)

parsed_map : {A B : Type 0} (P : A → Type 0) (Q : B → Type 0) (f : A → B) (r : Option (A × List Token))
    → IfSome r (Parsed P) → ((a : A) → P a → Q (f a)) → IfSome (parse_map f r) (Parsed Q)
parsed_map P Q f None is h = tt
parsed_map P Q f (Some p) is h = (h p.0 is.0, is.1)

end_is : (ts : List Token) → TokensAre ts → IfSome (after_end_array ts) TokensAre
end_is [] is = tt
end_is (Token.begin_object ∷ ts) is = tt
end_is (Token.end_object ∷ ts) is = tt
end_is (Token.begin_array ∷ ts) is = tt
end_is (Token.end_array ∷ ts) is = is.1
end_is (Token.key s ∷ ts) is = tt
end_is (Token.string s ∷ ts) is = tt
end_is (Token.number s ∷ ts) is = tt
end_is (Token.boolean b ∷ ts) is = tt
end_is (Token.null ∷ ts) is = tt
end_is (Token.bad ∷ ts) is = tt

key_is : (ts : List Token) → TokensAre ts → IfSome (read_key ts) (λ p. TokensAre p.1)
key_is [] is = tt
key_is (Token.begin_object ∷ ts) is = tt
key_is (Token.end_object ∷ ts) is = is.1
key_is (Token.begin_array ∷ ts) is = tt
key_is (Token.end_array ∷ ts) is = tt
key_is (Token.key s ∷ ts) is = is.1
key_is (Token.string s ∷ ts) is = tt
key_is (Token.number s ∷ ts) is = tt
key_is (Token.boolean b ∷ ts) is = tt
key_is (Token.null ∷ ts) is = tt
key_is (Token.bad ∷ ts) is = tt

items_step_is : (v : Parse json.Json) (more : Parse json.Items) → Parses JsonIs v → Parses JsonItemsAre more
    → (ts : List Token) → TokensAre ts → (o : Option (List Token)) → IfSome o TokensAre
    → IfSome (items_step v more ts o) (Parsed JsonItemsAre)
items_step_is v more h k ts is (Some rest) after = (tt, after)
items_step_is v more h k ts is None after =
    and_then_is (Parsed JsonIs) (Parsed JsonItemsAre) _ (v ts) (h ts is)
    (λ p q. parsed_map JsonItemsAre JsonItemsAre (json.item p.0) (more p.1) (k p.1 q.1) (λ a b. (q.0, b)))

items_are : (v : Parse json.Json) → Parses JsonIs v → (n : ℕ) → Parses JsonItemsAre (items v n)
unfolding items
items_are v h zero = λ ts is. tt
items_are v h (suc n) = λ ts is. items_step_is v (items v n) h (items_are v h n) ts is (after_end_array ts) (end_is ts is)

members_step_is : (v : Parse json.Json) (more : Parse json.Members) → Parses JsonIs v → Parses JsonMembersAre more
    → (k : Option (List ℕ)) (ts : List Token) → TokensAre ts
    → IfSome (members_step v more k ts) (Parsed JsonMembersAre)
members_step_is v more h r None ts is = (tt, is)
members_step_is v more h r (Some k) ts is =
    and_then_is (Parsed JsonIs) (Parsed JsonMembersAre) _ (v ts) (h ts is)
    (λ p q. parsed_map JsonMembersAre JsonMembersAre (json.member k p.0) (more p.1) (r p.1 q.1) (λ a b. (q.0, b)))

members_are : (v : Parse json.Json) → Parses JsonIs v → (n : ℕ) → Parses JsonMembersAre (members v n)
unfolding members
members_are v h zero = λ ts is. tt
members_are v h (suc n) = λ ts is.
    and_then_is (λ p. TokensAre p.1) (Parsed JsonMembersAre) _ (read_key ts) (key_is ts is)
    (λ p q. members_step_is v (members v n) h (members_are v h n) p.0 p.1 q)

value_with_is : (a : Parse json.Items) (o : Parse json.Members) → Parses JsonItemsAre a → Parses JsonMembersAre o → Parses JsonIs (value_with a o)
value_with_is a o h k [] is = tt
value_with_is a o h k (Token.begin_object ∷ ts) is = parsed_map JsonMembersAre JsonIs json.object (o ts) (k ts is.1) (λ ms all. all)
value_with_is a o h k (Token.end_object ∷ ts) is = tt
value_with_is a o h k (Token.begin_array ∷ ts) is = parsed_map JsonItemsAre JsonIs json.array (a ts) (h ts is.1) (λ js all. all)
value_with_is a o h k (Token.end_array ∷ ts) is = tt
value_with_is a o h k (Token.key s ∷ ts) is = tt
value_with_is a o h k (Token.string s ∷ ts) is = (is.0, is.1)
value_with_is a o h k (Token.number s ∷ ts) is = (tt, is.1)
value_with_is a o h k (Token.boolean b ∷ ts) is = (tt, is.1)
value_with_is a o h k (Token.null ∷ ts) is = (tt, is.1)
value_with_is a o h k (Token.bad ∷ ts) is = tt

value_is : (depth : ℕ) → Parses JsonIs (value depth)
unfolding value
value_is zero = value_with_is (λ ts. None) (λ ts. None) (λ ts is. tt) (λ ts is. tt)
value_is (suc depth) =
    value_with_is (λ ts. items (value depth) (length ts) ts) (λ ts. members (value depth) (length ts) ts)
    (λ ts is. items_are (value depth) (value_is depth) (length ts) ts is)
    (λ ts is. members_are (value depth) (value_is depth) (length ts) ts is)

-- ---- trees

in_order : (o : Ordering) (a b c : Members) → MemberTextsAreUtf8 a → MemberTextsAreUtf8 b → MemberTextsAreUtf8 c → MemberTextsAreUtf8 (match_ordering o a b c)
in_order Less a b c p q r = p
in_order Equal a b c p q r = q
in_order Greater a b c p q r = r

put_is : (k : List ℕ) (d : Data) (ms : Members) → TextsAreUtf8 d → MemberTextsAreUtf8 ms → MemberTextsAreUtf8 (put k d ms)
put_is k d no_members u is = (u, tt)
put_is k d (member l e ms) u is =
    in_order (slice_cmp nat_cmp k l) (member k d (member l e ms)) (member l d ms) (member l e (put k d ms)) (u, is) (u, is.1) (is.0, put_is k d ms u is.1)

mutual
  json_is : (j : json.Json) → JsonIs j → IfSome (of_json j) TextsAreUtf8
  json_is json.null is = tt
  json_is (json.boolean b) is = tt
  json_is (json.number s) is = mapped (λ n. ⊤) TextsAreUtf8 number (number_of s) (anything (number_of s)) (λ n all. tt)
  json_is (json.string s) is = is
  json_is (json.array js) is = mapped ItemTextsAreUtf8 TextsAreUtf8 array (of_items js) (json_items js is) (λ ds all. all)
  json_is (json.object ms) is = mapped MemberTextsAreUtf8 TextsAreUtf8 object (of_members ms no_members) (json_members ms no_members is tt) (λ found all. all)

  json_items : (js : json.Items) → JsonItemsAre js → IfSome (of_items js) ItemTextsAreUtf8
  json_items json.no_items is = tt
  json_items (json.item j js) is =
      and_then_is TextsAreUtf8 ItemTextsAreUtf8 _ (of_json j) (json_is j is.0)
      (λ d u. mapped ItemTextsAreUtf8 ItemTextsAreUtf8 (item d) (of_items js) (json_items js is.1)
      (λ ds all. (u, all)))

  json_members : (ms : json.Members) (found : Members) → JsonMembersAre ms → MemberTextsAreUtf8 found → IfSome (of_members ms found) MemberTextsAreUtf8
  json_members json.no_members found is so_far = so_far
  json_members (json.member k j ms) found is so_far =
      and_then_is TextsAreUtf8 MemberTextsAreUtf8 _ (of_json j) (json_is j is.0) (λ d u. json_members ms (put k d found) is.1 (put_is k d found u so_far))

last_is : (j : json.Json) (ts : List Token) → JsonIs j → IfSome (json.if_last j ts) JsonIs
last_is j [] is = is
last_is j (t ∷ ts) is = tt

read_is : (text : List ℕ) → IsUtf8 text → IfSome (read text) TextsAreUtf8
read_is text u =
    and_then_is JsonIs TextsAreUtf8 of_json _
    (and_then_is (Parsed JsonIs) JsonIs (λ p. json.if_last p.0 p.1) (value max_depth (tokens text))
    (value_is max_depth (tokens text) (punctuated fresh (lex between text) (lex_is between [] text u)))
    (λ p q. last_is p.0 p.1 q.0))
    json_is

json_by : (text : List ℕ) (b : Bool) → is_utf8 text ≡ b → IfSome (cond b (read text) None) TextsAreUtf8
json_by text true is = read_is text (IsUtf8-from_is_utf8 text is)
json_by text false is = tt

json_texts : (text : List ℕ) → IfSome (json_of text) TextsAreUtf8
unfolding json_of
json_texts text = json_by text (is_utf8 text) refl

tree_texts : (document : List ℕ) → IfSome (tree_of document) TextsAreUtf8
tree_texts document = json_texts (quoted document)

-- the tree of a document has UTF-8 texts
pub tree_is_utf8 : DocumentTextsAreUtf8
tree_is_utf8 document d e = subst (λ (o : Option Data). IfSome o TextsAreUtf8) e (tree_texts document)
