-- What stands at the front of a text and of its quoted text.
use Rattle.std.proofs.Common.{◌≡◌, ℕ, suc, ◌-◌, Bool, true, false, cond, not, ◌&&◌, ◌||◌, ◌==◌, nat_lt, List, [], ◌∷◌, ◌++◌, length, take}
use Rattle.std.proofs.Common.{drop, Option, Some, None, refl, sym, ap, ap₂, ◌∙◌, arith}
use Rattle.std.proofs.lemmas.Bool.{true≢false, false≢true}
use Rattle.json.specs.Token.{Token, begin_object, end_object, begin_array, end_array, number, boolean, null, bad}
use Rattle.json.specs.Ascii as ascii
use Rattle.json.specs.Text.{content, plain, prepend}
use Rattle.json.specs.Word.{is_operator, is_space, head, ends_word, after_number, number_before, literal, word}
use Rattle.json.specs.Lex.{Lexeme, token, comma, colon, Class, string_token, Mode, between, lex_byte, lex, begins_colon}
use Rattle.siri_json.specs.Pieces.{run_length}
use Rattle.siri_json.proofs.Pieces.{quoted-other, from_run}
use Rattle.siri_json.specs.Quoted.{is_run_byte, is_number, is_before_colon, run_text, after_outside, quoted_from, quoted}
use Rattle.siri_json.proofs.Words.{AllRun, AllRun-first, differs, run_is_other, after_run, number_run}
use Rattle.siri_json.proofs.Clean.{class_of, at_space}
use Rattle.siri_json.proofs.Alike.{Clashes, Clashing}

-- ---- no colon

op_at : (a b c d e f : Bool) (ls : List Lexeme) → (a || b || c || d || f || e) ≡ true → f ≡ false
    → begins_colon (cond a (token begin_object)
    (cond b (token end_object) (cond c (token begin_array)
    (cond d (token end_array) (cond e comma colon)))) ∷ ls) ≡ false
op_at true b c d e f ls h k = refl
op_at false true c d e f ls h k = refl
op_at false false true d e f ls h k = refl
op_at false false false true e f ls h k = refl
op_at false false false false true f ls h k = refl
op_at false false false false false true ls h k = absurd (true≢false k)
op_at false false false false false false ls h k = absurd (false≢true h)

front_at : (x : ℕ) (ys : List ℕ) (q b o s : Bool) → is_operator x ≡ o → s ≡ false → (x == 58) ≡ false
    → begins_colon (lex_byte between (class_of q b o s) x ys (λ (m : Mode). lex m ys)) ≡ false
unfolding class_of
front_at x ys true b o s io is k = refl
front_at x ys false true o s io is k = refl
front_at x ys false false true s io is k = op_at (x == 123) (x == 125) (x == 91) (x == 93) (x == 44) (x == 58) (lex between ys) io k
front_at x ys false false false true io is k = absurd (true≢false is)
front_at x ys false false false false io is k = refl

-- neither a colon nor white space
front : (x : ℕ) (ys : List ℕ) → is_space x ≡ false → (x == 58) ≡ false → begins_colon (lex between (x ∷ ys)) ≡ false
unfolding class_of lex
front x ys is k = front_at x ys (x == 34) (x == 92) (is_operator x) (is_space x) refl is k

no_colon_at : (x : ℕ) (xs : List ℕ) (b : Bool) → is_space x ≡ b → cond b (is_before_colon xs) (x == ascii.colon) ≡ false
    → (is_before_colon xs ≡ false → begins_colon (lex between xs) ≡ false) → begins_colon (lex between (x ∷ xs)) ≡ false
unfolding lex
no_colon_at x xs true e h later = at_space (λ (y : ℕ). begins_colon (lex between (y ∷ xs)) ≡ false) x (later h) (later h) (later h) (later h) e
no_colon_at x xs false e h later = front x xs e h

pub no_colon : (xs : List ℕ) → is_before_colon xs ≡ false → begins_colon (lex between xs) ≡ false
unfolding lex
no_colon [] h = refl
no_colon (x ∷ xs) h = no_colon_at x xs (is_space x) refl h (no_colon xs)

run_front_at : (b : Bool) (x : ℕ) (run rest : List ℕ) → is_run_byte x ≡ true
    → begins_colon (lex between (cond b (34 ∷ ((x ∷ run) ++ 34 ∷ [])) (x ∷ run) ++ rest)) ≡ false
unfolding lex
run_front_at true x run rest r = refl
run_front_at false x run rest r = ap (λ (c : Class). begins_colon (lex_byte between c x (run ++ rest) (λ (m : Mode). lex m (run ++ rest)))) (run_is_other x r)

take_at_1 : (x : ℕ) (xs : List ℕ) (b : Bool) → b ≡ true → take (cond b (suc (run_length xs)) 0) (x ∷ xs) ≡ x ∷ take (run_length xs) xs
take_at_1 x xs true e = refl
take_at_1 x xs false e = absurd (false≢true e)

drop_at_1 : (x : ℕ) (xs : List ℕ) (b : Bool) → b ≡ true → drop (cond b (suc (run_length xs)) 0) (x ∷ xs) ≡ drop (run_length xs) xs
drop_at_1 x xs true e = refl
drop_at_1 x xs false e = absurd (false≢true e)

-- the quoted text of a text that begins with a run
pub quoted-run : (x : ℕ) (xs : List ℕ) → is_run_byte x ≡ true
    → quoted (x ∷ xs) ≡ run_text (x ∷ take (run_length xs) xs) (drop (run_length xs) xs)
    ++ quoted (drop (run_length xs) xs)
quoted-run x xs r =
    from_run (x ∷ xs) [] ∙ ap₂ (λ (t u : List ℕ). run_text t u ++ quoted u) (take_at_1 x xs (is_run_byte x) r) (drop_at_1 x xs (is_run_byte x) r)

quoted_no_colon_at : (x : ℕ) (xs : List ℕ) (b r : Bool) → is_space x ≡ b → is_run_byte x ≡ r → cond b (is_before_colon xs) (x == ascii.colon) ≡ false
    → (is_before_colon xs ≡ false → begins_colon (lex between (quoted xs)) ≡ false) → begins_colon (lex between (quoted (x ∷ xs))) ≡ false
unfolding quoted_from lex after_number
quoted_no_colon_at x xs true r e er h later = at_space
    (λ (y : ℕ). begins_colon (lex between (quoted (y ∷ xs))) ≡ false) x (later h) (later h) (later h) (later h) e
quoted_no_colon_at x xs false true e er h later =
    ap (λ (t : List ℕ). begins_colon (lex between t)) (quoted-run x xs er)
    ∙ run_front_at (is_number (x ∷ take (run_length xs) xs) && not (is_before_colon (drop (run_length xs) xs))) x
    (take (run_length xs) xs) (quoted (drop (run_length xs) xs)) er
quoted_no_colon_at x xs false false e er h later = ap (λ (t : List ℕ). begins_colon (lex between t))
    (quoted-other x xs er) ∙ front x (quoted_from (after_outside x) xs) e h

pub quoted_no_colon : (xs : List ℕ) → is_before_colon xs ≡ false → begins_colon (lex between (quoted xs)) ≡ false
unfolding quoted_from lex after_number
quoted_no_colon [] h = refl
quoted_no_colon (x ∷ xs) h = quoted_no_colon_at x xs (is_space x) (is_run_byte x) refl refl h (quoted_no_colon xs)

-- ---- the content of a run in quotes

run_high : (x : ℕ) → is_run_byte x ≡ true → nat_lt x 32 ≡ false
run_high x h = grind arith

content_on : (x : ℕ) (xs : List ℕ) → is_run_byte x ≡ true → content plain (x ∷ xs) ≡ prepend (x ∷ []) (content plain xs)
unfolding content
content_on x xs r = rw (differs x 34 r refl, differs x 92 r refl, run_high x r)

pub content-run : (run rest : List ℕ) → AllRun run → content plain (run ++ 34 ∷ rest) ≡ Some run
unfolding content
content-run [] rest h = refl
content-run (x ∷ run) rest h = let both = AllRun-first x run h in content_on x (run ++ 34 ∷ rest) both.0 ∙ ap (prepend (x ∷ [])) (content-run run rest both.1)

-- ---- words

pub no_number_at : (t : List ℕ) (o : Option (List ℕ)) → ((q : List ℕ) → o ≡ Some q → ends_word q ≡ true → ⊥) → number_before t o ≡ bad
no_number_at t None h = refl
no_number_at t (Some q) h = go (ends_word q) refl
  where
    go : (b : Bool) → ends_word q ≡ b → cond b (number (take (length t - length q) t)) bad ≡ bad
    go true e = absurd (h q refl e)
    go false e = refl

-- a run that is no number, or after which the word goes on, is a fault
pub word-bad : (x : ℕ) (run rest : List ℕ) → AllRun (x ∷ run) → after_run rest ≡ rest
    → (is_number (x ∷ run) && ends_word rest) ≡ false → word (x ∷ (run ++ rest)) ≡ bad
unfolding word
word-bad x run rest h stops never =
    let both = AllRun-first x run h in
    rw (differs x 116 both.0 refl, differs x 102 both.0 refl, differs x 110 both.0 refl)
    (no_number_at (x ∷ (run ++ rest)) (after_number (x ∷ (run ++ rest)))
    (λ q e ends. let found = number_run (x ∷ run) rest q h stops e ends in true≢false (sym (ap₂ (λ (a b : Bool). a && b) found.0 found.1) ∙ never)))

clash_literal : (b : Bool) (t : Token) → Clashes t → Clashes (cond b t bad)
unfolding Clashes
clash_literal true t h = h
clash_literal false t h = tt

clash_number : (t : List ℕ) (o : Option (List ℕ)) → Clashes (number_before t o)
unfolding Clashes
clash_number t None = tt
clash_number t (Some q) = clash_literal (ends_word q) (number (take (length t - length q) t)) tt

clash_word_at : (t : List ℕ) (a b c : Bool)
    → Clashes (cond a (literal ascii.true_text (boolean true) t)
    (cond b (literal ascii.false_text (boolean false) t)
    (cond c (literal ascii.null_text null t) (number_before t (after_number t)))))
unfolding Clashes
clash_word_at t true b c = clash_literal _ (boolean true) tt
clash_word_at t false true c = clash_literal _ (boolean false) tt
clash_word_at t false false true = clash_literal _ null tt
clash_word_at t false false false = clash_number t (after_number t)

clash_word : (t : List ℕ) → Clashes (word t)
unfolding word
clash_word t = clash_word_at t (head t == 116) (head t == 102) (head t == 110)

clash_string : (o : Option (List ℕ)) → Clashes (string_token o)
unfolding Clashes
clash_string None = tt
clash_string (Some s) = tt

clashing_at : (x : ℕ) (ys : List ℕ) (q b o s : Bool) → (o || s) ≡ false → Clashing (lex_byte between (class_of q b o s) x ys (λ (m : Mode). lex m ys))
unfolding class_of Clashing Clashes
clashing_at x ys true b o s h = clash_string (content plain ys)
clashing_at x ys false true o s h = tt
clashing_at x ys false false true s h = absurd (true≢false h)
clashing_at x ys false false false true h = absurd (true≢false h)
clashing_at x ys false false false false h = clash_word (x ∷ ys)

-- what goes on a word clashes with a value before it
pub clashing : (x : ℕ) (ys : List ℕ) → (is_operator x || is_space x) ≡ false → Clashing (lex between (x ∷ ys))
unfolding class_of lex
clashing x ys h = clashing_at x ys (x == 34) (x == 92) (is_operator x) (is_space x) h
