-- What a lexer makes of a quoted text: a number stands only before a colon, or after a fault.
use Rattle.std.proofs.Common.{◌≡◌, ℕ, suc, ◌-◌, Bool, true, false, cond, not, ◌&&◌, ◌||◌, ◌==◌, nat_eq, List, [], ◌∷◌, ◌++◌, length, take}
use Rattle.std.proofs.Common.{drop, Option, Some, None, inl, inr, ◌⊎◌, refl, sym, ap, ◌∙◌, subst, append_assoc, append-nil}
use Rattle.std.proofs.lemmas.Bool.{true≢false, false≢true, eqb-true, ne_eqb, and_parts, or_cases}
use Rattle.std.specs.Prelude.{⊤}
use Rattle.std.specs.List.{starts_with}
use Rattle.json.specs.Token.{Token, begin_object, end_object, begin_array, end_array, key, string, number, boolean, null, bad}
use Rattle.json.specs.Ascii as ascii
use Rattle.json.specs.Text.{content, plain}
use Rattle.json.specs.Word.{is_operator, is_space, ends_word, after_number, number_before, literal, word}
use Rattle.json.specs.Lex.{Lexeme, token, comma, colon, Class, quote, backslash, operator, space, other, class, operator_lexeme}
use Rattle.json.specs.Lex.{string_token, Mode, between, in_word, in_string, in_escape, lex_byte, lex, begins_colon}
use Rattle.json.proofs.Printed.Numbers.{in_word-ended}
use Rattle.siri_json.specs.Quoted.{is_run_byte, is_number, is_before_colon, run_text, outside, inside, after_outside, quoted_from, quoted}
use Rattle.siri_json.specs.Pieces.{run_length}
use Rattle.siri_json.proofs.Pieces.{quoted-other}
use Rattle.siri_json.proofs.Words.{AllRun, AllRun-nil, AllRun-push, AllRun-first, differs, run_no_stop, run_is_other, after_run, number_run}

-- up to the first fault, each number stands before a colon
unfoldable pub Clean : List Lexeme → Type 0
Clean [] = ⊤
Clean (token begin_object ∷ ls) = Clean ls
Clean (token end_object ∷ ls) = Clean ls
Clean (token begin_array ∷ ls) = Clean ls
Clean (token end_array ∷ ls) = Clean ls
Clean (token (key s) ∷ ls) = Clean ls
Clean (token (string s) ∷ ls) = Clean ls
Clean (token (number s) ∷ ls) = begins_colon ls ≡ true
Clean (token (boolean b) ∷ ls) = Clean ls
Clean (token null ∷ ls) = Clean ls
Clean (token bad ∷ ls) = ⊤
Clean (comma ∷ ls) = Clean ls
Clean (colon ∷ ls) = Clean ls

clean_nil : Clean []
unfolding Clean
clean_nil = tt

clean_bad : (ls : List Lexeme) → Clean (token bad ∷ ls)
unfolding Clean
clean_bad ls = tt

-- ---- lexemes

clean_string : (o : Option (List ℕ)) (ls : List Lexeme) → Clean ls → Clean (token (string_token o) ∷ ls)
unfolding Clean
clean_string None ls h = tt
clean_string (Some s) ls h = h

operator_at : (a b c d e : Bool) (ls : List Lexeme) → Clean ls
    → Clean (cond a (token begin_object) (cond b (token end_object)
    (cond c (token begin_array) (cond d (token end_array) (cond e comma colon)))) ∷ ls)
unfolding Clean
operator_at true b c d e ls h = h
operator_at false true c d e ls h = h
operator_at false false true d e ls h = h
operator_at false false false true e ls h = h
operator_at false false false false true ls h = h
operator_at false false false false false ls h = h

clean_operator : (x : ℕ) (ls : List Lexeme) → Clean ls → Clean (operator_lexeme x ∷ ls)
clean_operator x ls h = operator_at (x == ascii.open_brace) (x == ascii.close_brace) (x == ascii.open_bracket)
    (x == ascii.close_bracket) (x == ascii.comma) ls h

number_at : (t : List ℕ) (o : Option (List ℕ)) (ls : List Lexeme)
    → ((q : List ℕ) → o ≡ Some q → ends_word q ≡ true → begins_colon ls ≡ true) → Clean (token (number_before t o) ∷ ls)
unfolding Clean
number_at t None ls h = tt
number_at t (Some q) ls h = go (ends_word q) refl
  where
    go : (b : Bool) → ends_word q ≡ b → Clean (token (cond b (number (take (length t - length q) t)) bad) ∷ ls)
    go true e = h q refl e
    go false e = tt

-- ---- words

-- no quote comes before the end of the word
unfoldable pub unbroken : List ℕ → Bool
unbroken [] = true
unbroken (y ∷ ys) = cond (y == 34) false (cond (is_operator y || is_space y) true (unbroken ys))

unfoldable pub AreLetters : List ℕ → Type 0
AreLetters [] = ⊤
AreLetters (n ∷ ns) = ((n == 34) ≡ false) × AreLetters ns

pub stop_no_quote : (y : ℕ) → (is_operator y || is_space y) ≡ true → (y == 34) ≡ false
stop_no_quote y h = ne_eqb y 34 (λ e. true≢false (sym h ∙ ap (λ (c : ℕ). is_operator c || is_space c) e))

unbroken_end : (ys : List ℕ) → ends_word ys ≡ true → unbroken ys ≡ true
unfolding unbroken
unbroken_end [] h = refl
unbroken_end (y ∷ ys) h = rw (stop_no_quote y h, h)

letter_on : (y : ℕ) (ys : List ℕ) (b : Bool) → (y == 34) ≡ false → unbroken ys ≡ true → cond (y == 34) false (cond b true (unbroken ys)) ≡ true
letter_on y ys true e h = rw e
letter_on y ys false e h = rw (e, h)

-- where the letters of a name stand, and then the word ends
pub unbroken_name : (name ys : List ℕ) → AreLetters name → (starts_with nat_eq ys name && ends_word (drop (length name) ys)) ≡ true → unbroken ys ≡ true
unfolding AreLetters unbroken
unbroken_name [] ys l h = unbroken_end ys h
unbroken_name (n ∷ name) [] l h = absurd (false≢true h)
unbroken_name (n ∷ name) (y ∷ ys) l h =
    let both = and_parts _ _ h in
    let first = and_parts _ _ both.0 in
    letter_on y ys _ (ap (λ (c : ℕ). c == 34) (sym (eqb-true n y first.0)) ∙ l.0) (unbroken_name name ys l.1 (rw (first.1, both.1)))

literal_at : (b : Bool) (t : Token) (ls : List Lexeme) → (Clean ls → Clean (token t ∷ ls)) → (b ≡ true → Clean ls) → Clean (token (cond b t bad) ∷ ls)
unfolding Clean
literal_at true t ls f h = f (h refl)
literal_at false t ls f h = tt

pub letters_true : AreLetters (114 ∷ 117 ∷ 101 ∷ [])
unfolding AreLetters
letters_true = (refl, (refl, (refl, tt)))

pub letters_false : AreLetters (97 ∷ 108 ∷ 115 ∷ 101 ∷ [])
unfolding AreLetters
letters_false = (refl, (refl, (refl, (refl, tt))))

pub letters_null : AreLetters (117 ∷ 108 ∷ 108 ∷ [])
unfolding AreLetters
letters_null = (refl, (refl, (refl, tt)))

pub tail_of : (x n : ℕ) (name ys : List ℕ) → (starts_with nat_eq (x ∷ ys) (n ∷ name) && ends_word (drop (suc (length name)) (x ∷ ys))) ≡ true
    → (starts_with nat_eq ys name && ends_word (drop (length name) ys)) ≡ true
tail_of x n name ys h =
    let both = and_parts (starts_with nat_eq (x ∷ ys) (n ∷ name)) (ends_word (drop (suc (length name)) (x ∷ ys))) h in
    let first = and_parts (n == x) (starts_with nat_eq ys name) both.0 in
    let last : ends_word (drop (length name) ys) ≡ true = both.1 in
    rw (first.1, last)

good_boolean : (b : Bool) (ls : List Lexeme) → Clean ls → Clean (token (boolean b) ∷ ls)
unfolding Clean
good_boolean b ls h = h

good_null : (ls : List Lexeme) → Clean ls → Clean (token null ∷ ls)
unfolding Clean
good_null ls h = h

-- the word at x: a number as the run says, or a name after whose end the rest is clean
word_at : (x : ℕ) (ys : List ℕ) (ls : List Lexeme) (t f n : Bool) → (unbroken ys ≡ true → Clean ls)
    → ((q : List ℕ) → after_number (x ∷ ys) ≡ Some q → ends_word q ≡ true → begins_colon ls ≡ true)
    → Clean (token (cond t (literal ascii.true_text (boolean true) (x ∷ ys))
    (cond f (literal ascii.false_text (boolean false) (x ∷ ys))
    (cond n (literal ascii.null_text null (x ∷ ys)) (number_before (x ∷ ys) (after_number (x ∷ ys)))))) ∷ ls)
word_at x ys ls true f n h k = literal_at _ (boolean true) ls (good_boolean true ls)
    (λ e. h (unbroken_name (114 ∷ 117 ∷ 101 ∷ []) ys letters_true (tail_of x 116 (114 ∷ 117 ∷ 101 ∷ []) ys e)))
word_at x ys ls false true n h k = literal_at _ (boolean false) ls (good_boolean false ls)
    (λ e. h (unbroken_name (97 ∷ 108 ∷ 115 ∷ 101 ∷ []) ys letters_false
    (tail_of x 102 (97 ∷ 108 ∷ 115 ∷ 101 ∷ []) ys e)))
word_at x ys ls false false true h k = literal_at _ null ls (good_null ls)
    (λ e. h (unbroken_name (117 ∷ 108 ∷ 108 ∷ []) ys letters_null (tail_of x 110 (117 ∷ 108 ∷ 108 ∷ []) ys e)))
word_at x ys ls false false false h k = number_at (x ∷ ys) (after_number (x ∷ ys)) ls k

clean_word : (x : ℕ) (ys : List ℕ) (ls : List Lexeme) → (unbroken ys ≡ true → Clean ls)
    → ((q : List ℕ) → after_number (x ∷ ys) ≡ Some q → ends_word q ≡ true → begins_colon ls ≡ true) → Clean (token (word (x ∷ ys)) ∷ ls)
unfolding word
clean_word x ys ls h k = word_at x ys ls (x == 116) (x == 102) (x == 110) h k

number_alone_at : (x : ℕ) (ys : List ℕ) (ls : List Lexeme) → is_run_byte x ≡ true
    → ((q : List ℕ) → after_number (x ∷ ys) ≡ Some q → ends_word q ≡ true → begins_colon ls ≡ true) → Clean (token (word (x ∷ ys)) ∷ ls)
unfolding word
number_alone_at x ys ls r k = rw (differs x 116 r refl, differs x 102 r refl, differs x 110 r refl) (number_at (x ∷ ys) (after_number (x ∷ ys)) ls k)

-- ---- the lexer goes over a run

pub in_word_other : (x : ℕ) (xs : List ℕ) → class x ≡ other → lex in_word (x ∷ xs) ≡ lex in_word xs
unfolding lex
in_word_other x xs e = ap (λ (c : Class). lex_byte in_word c x xs (λ (m : Mode). lex m xs)) e

pub in_word_run : (run rest : List ℕ) → AllRun run → lex in_word (run ++ rest) ≡ lex in_word rest
in_word_run [] rest h = refl
in_word_run (x ∷ run) rest h = let both = AllRun-first x run h in in_word_other x (run ++ rest) (run_is_other x both.0) ∙ in_word_run run rest both.1

pub in_string_other : (x : ℕ) (xs : List ℕ) → class x ≡ other → lex in_string (x ∷ xs) ≡ lex in_string xs
unfolding lex
in_string_other x xs e = ap (λ (c : Class). lex_byte in_string c x xs (λ (m : Mode). lex m xs)) e

pub in_string_run : (run rest : List ℕ) → AllRun run → lex in_string (run ++ rest) ≡ lex in_string rest
in_string_run [] rest h = refl
in_string_run (x ∷ run) rest h = let both = AllRun-first x run h in in_string_other x (run ++ rest) (run_is_other x both.0) ∙ in_string_run run rest both.1

pub unbroken_run : (run rest : List ℕ) → AllRun run → unbroken (run ++ rest) ≡ true → unbroken rest ≡ true
unfolding unbroken
unbroken_run [] rest h u = u
unbroken_run (x ∷ run) rest h u =
    let both = AllRun-first x run h in
    unbroken_run run rest both.1 (rw (differs x 34 both.0 refl, run_no_stop x both.0) at u)

-- ---- colons

pub at_space : (P : ℕ → Type 0) (x : ℕ) → P 32 → P 9 → P 10 → P 13 → is_space x ≡ true → P x
at_space P x a b c d h = third (or_cases ((x == 32) || (x == 9) || (x == 10)) (x == 13) h)
  where
    first : ((x == 32) ≡ true) ⊎ ((x == 9) ≡ true) → P x
    first (inl e) = subst P (sym (eqb-true x 32 e)) a
    first (inr e) = subst P (sym (eqb-true x 9 e)) b

    second : (((x == 32) || (x == 9)) ≡ true) ⊎ ((x == 10) ≡ true) → P x
    second (inl e) = first (or_cases (x == 32) (x == 9) e)
    second (inr e) = subst P (sym (eqb-true x 10 e)) c

    third : (((x == 32) || (x == 9) || (x == 10)) ≡ true) ⊎ ((x == 13) ≡ true) → P x
    third (inl e) = second (or_cases ((x == 32) || (x == 9)) (x == 10) e)
    third (inr e) = subst P (sym (eqb-true x 13 e)) d

colon_at : (x : ℕ) (xs : List ℕ) (b : Bool) → is_space x ≡ b → cond b (is_before_colon xs) (x == ascii.colon) ≡ true
    → (is_before_colon xs ≡ true → begins_colon (lex between (quoted xs)) ≡ true) → begins_colon (lex between (quoted (x ∷ xs))) ≡ true
unfolding quoted_from lex after_number
colon_at x xs true e h later = at_space (λ (y : ℕ). begins_colon (lex between (quoted (y ∷ xs))) ≡ true) x (later h) (later h) (later h) (later h) e
colon_at x xs false e h later = subst (λ (y : ℕ). begins_colon (lex between (quoted (y ∷ xs))) ≡ true) (sym (eqb-true x 58 h)) refl

colon_follows : (xs : List ℕ) → is_before_colon xs ≡ true → begins_colon (lex between (quoted xs)) ≡ true
colon_follows [] h = absurd (false≢true h)
colon_follows (x ∷ xs) h = colon_at x xs (is_space x) refl h (colon_follows xs)

-- ---- the whole text

record Goes (xs : List ℕ) : Type 0 where
  out : (run : List ℕ) → AllRun run → Clean (lex between (quoted_from (outside run) xs))
  plainly : Clean (lex in_string (quoted_from (inside false) xs))
  escaping : Clean (lex in_escape (quoted_from (inside true) xs))
  word : (run : List ℕ) → AllRun run → unbroken (quoted_from (outside run) xs) ≡ true → Clean (lex in_word (quoted_from (outside run) xs))

-- after a run that isn't in quotes
bare : (run rest : List ℕ) → AllRun run → after_run rest ≡ rest → (is_number run ≡ true → ends_word rest ≡ true → begins_colon (lex between rest) ≡ true)
    → Clean (lex between rest) → Clean (lex between (run ++ rest))
unfolding lex
bare [] rest h stops colons clean = clean
bare (x ∷ run) rest h stops colons clean =
    let both = AllRun-first x run h in
    let ls = lex in_word (run ++ rest) in
    let same : ls ≡ lex in_word rest = in_word_run run rest both.1 in
    subst (λ (c : Class). Clean (lex_byte between c x (run ++ rest) (λ (m : Mode). lex m (run ++ rest)))) (sym (run_is_other x both.0))
    (number_alone_at x (run ++ rest) ls both.0
    (λ q e ends. let found = number_run (x ∷ run) rest q h stops e ends in ap begins_colon (same ∙ in_word-ended rest found.1) ∙ colons found.0 found.1))

-- a run in quotes
in_quotes : (run rest : List ℕ) → AllRun run → Clean (lex between rest) → Clean (lex between (34 ∷ (run ++ 34 ∷ rest)))
unfolding lex
in_quotes run rest h clean =
    clean_string (content plain (run ++ 34 ∷ rest)) _ (subst Clean (sym (in_string_run run (34 ∷ rest) h)) clean)

run_at : (b : Bool) (run rest : List ℕ) → AllRun run → after_run rest ≡ rest
    → (b ≡ false → is_number run ≡ true → ends_word rest ≡ true → begins_colon (lex between rest) ≡ true)
    → Clean (lex between rest) → Clean (lex between (cond b (34 ∷ (run ++ 34 ∷ [])) run ++ rest))
run_at true run rest h stops colons clean = subst (λ (t : List ℕ). Clean (lex between (34 ∷ t)))
    (sym (append_assoc run (34 ∷ []) rest)) (in_quotes run rest h clean)
run_at false run rest h stops colons clean = bare run rest h stops (colons refl) clean

word_run_at : (b : Bool) (run rest : List ℕ) → AllRun run → (unbroken rest ≡ true → Clean (lex in_word rest))
    → unbroken (cond b (34 ∷ (run ++ 34 ∷ [])) run ++ rest) ≡ true
    → Clean (lex in_word (cond b (34 ∷ (run ++ 34 ∷ [])) run ++ rest))
unfolding unbroken
word_run_at true run rest h clean u = absurd (false≢true u)
word_run_at false run rest h clean u = subst Clean (sym (in_word_run run rest h)) (clean (unbroken_run run rest h u))

pub not_before : (n c : Bool) → (n && not c) ≡ false → n ≡ true → c ≡ true
not_before true true e h = refl
not_before true false e h = absurd (true≢false e)
not_before false c e h = absurd (false≢true h)

pub at_end : (run : List ℕ) → run_text run [] ++ [] ≡ quoted_from (outside run) []
unfolding quoted_from
at_end run = append-nil (run_text run [])

goes_nil : Goes []
unfolding quoted_from lex
goes_nil = record {
  out = λ run h. subst (λ (t : List ℕ). Clean (lex between t)) (at_end run)
      (run_at (is_number run && not false) run [] h refl
      (λ e n ends. absurd (true≢false (sym (not_before (is_number run) false e n)))) clean_nil);
  plainly = clean_nil;
  escaping = clean_nil;
  word = λ run h u. subst (λ (t : List ℕ). Clean (lex in_word t)) (at_end run)
      (word_run_at (is_number run && not false) run [] h (λ v. clean_nil) (ap unbroken (at_end run) ∙ u));
}

-- ---- a byte that is of no run

-- what follows it
follows : ℕ → List ℕ → List ℕ
follows x xs = quoted_from (after_outside x) xs

pub stops_at : (x : ℕ) (ys : List ℕ) (b : Bool) → b ≡ false → drop (cond b (suc (run_length ys)) 0) (x ∷ ys) ≡ x ∷ ys
stops_at x ys true e = absurd (true≢false e)
stops_at x ys false e = refl

unfoldable pub class_of : Bool → Bool → Bool → Bool → Class
class_of q b o s = cond q quote (cond b backslash (cond o operator (cond s space other)))

no_number : (x : ℕ) (ys : List ℕ) (ls : List Lexeme) → is_run_byte x ≡ false → (q : List ℕ)
    → after_number (x ∷ ys) ≡ Some q → ends_word q ≡ true → begins_colon ls ≡ true
unfolding after_number
no_number x ys ls e q is ends = absurd (false≢true (number_run [] (x ∷ ys) q AllRun-nil (stops_at x ys (is_run_byte x) e) is ends).0)

tail_at : (x : ℕ) (xs : List ℕ) (q b o s : Bool) → Goes xs → is_run_byte x ≡ false
    → Clean (lex_byte between (class_of q b o s) x (quoted_from (cond q (inside false) (outside [])) xs)
    (λ (m : Mode). lex m (quoted_from (cond q (inside false) (outside [])) xs)))
unfolding class_of
tail_at x xs true b o s ih e = clean_string (content plain (quoted_from (inside false) xs)) _ ih.plainly
tail_at x xs false true o s ih e = clean_bad _
tail_at x xs false false true s ih e = clean_operator x _ (ih.out [] AllRun-nil)
tail_at x xs false false false true ih e = ih.out [] AllRun-nil
tail_at x xs false false false false ih e = clean_word x (quoted xs) (lex in_word (quoted xs)) (ih.word [] AllRun-nil)
    (no_number x (quoted xs) (lex in_word (quoted xs)) e)

tail_between : (x : ℕ) (xs : List ℕ) → Goes xs → is_run_byte x ≡ false → Clean (lex between (x ∷ quoted_from (after_outside x) xs))
unfolding class_of lex
tail_between x xs ih e = tail_at x xs (x == 34) (x == 92) (is_operator x) (is_space x) ih e

tail_word_at : (x : ℕ) (xs : List ℕ) (q b o s : Bool) → Goes xs → (b ≡ true → (o || s) ≡ false)
    → cond q false (cond (o || s) true (unbroken (quoted_from (cond q (inside false) (outside [])) xs))) ≡ true
    → Clean (lex_byte in_word (class_of q b o s) x (quoted_from (cond q (inside false) (outside [])) xs)
    (λ (m : Mode). lex m (quoted_from (cond q (inside false) (outside [])) xs)))
unfolding class_of
tail_word_at x xs true b o s ih k u = absurd (false≢true u)
tail_word_at x xs false true true s ih k u = absurd (true≢false (k refl))
tail_word_at x xs false true false true ih k u = absurd (true≢false (k refl))
tail_word_at x xs false true false false ih k u = ih.word [] AllRun-nil u
tail_word_at x xs false false true s ih k u = clean_operator x _ (ih.out [] AllRun-nil)
tail_word_at x xs false false false true ih k u = ih.out [] AllRun-nil
tail_word_at x xs false false false false ih k u = ih.word [] AllRun-nil u

tail_word : (x : ℕ) (xs : List ℕ) → Goes xs → unbroken (x ∷ quoted_from (after_outside x) xs) ≡ true
    → Clean (lex in_word (x ∷ quoted_from (after_outside x) xs))
unfolding class_of lex unbroken
tail_word x xs ih u = tail_word_at x xs (x == 34) (x == 92) (is_operator x) (is_space x) ih
    (λ e. ap (λ (c : ℕ). is_operator c || is_space c) (eqb-true x 92 e)) u

-- ---- strings

plain_at : (x : ℕ) (xs : List ℕ) (q b o s : Bool) → Goes xs
    → Clean (lex_byte in_string (class_of q b o s) x
    (quoted_from (cond (q && not false) (outside []) (inside (b && not false))) xs)
    (λ (m : Mode). lex m (quoted_from (cond (q && not false) (outside []) (inside (b && not false))) xs)))
unfolding class_of
plain_at x xs true b o s ih = ih.out [] AllRun-nil
plain_at x xs false true o s ih = ih.escaping
plain_at x xs false false true s ih = ih.plainly
plain_at x xs false false false true ih = ih.plainly
plain_at x xs false false false false ih = ih.plainly

escape_at : (x : ℕ) (xs : List ℕ) (q b o s : Bool) → Goes xs
    → Clean (lex_byte in_escape (class_of q b o s) x
    (quoted_from (cond (q && not true) (outside []) (inside (b && not true))) xs)
    (λ (m : Mode). lex m (quoted_from (cond (q && not true) (outside []) (inside (b && not true))) xs)))
unfolding class_of
escape_at x xs true true o s ih = ih.plainly
escape_at x xs true false o s ih = ih.plainly
escape_at x xs false true o s ih = ih.plainly
escape_at x xs false false true s ih = ih.plainly
escape_at x xs false false false true ih = ih.plainly
escape_at x xs false false false false ih = ih.plainly

-- ---- one byte more

colons_at : (x : ℕ) (xs run : List ℕ) → is_run_byte x ≡ false → (is_number run && not (is_before_colon (x ∷ xs))) ≡ false → is_number run ≡ true
    → begins_colon (lex between (x ∷ quoted_from (after_outside x) xs)) ≡ true
colons_at x xs run e k n = ap (λ (t : List ℕ). begins_colon (lex between t)) (sym (quoted-other x xs e))
    ∙ colon_follows (x ∷ xs) (not_before (is_number run) (is_before_colon (x ∷ xs)) k n)

out_at : (x : ℕ) (xs run : List ℕ) (b : Bool) → is_run_byte x ≡ b → Goes xs → AllRun run
    → Clean (lex between (cond b (quoted_from (outside (run ++ x ∷ [])) xs) (run_text run (x ∷ xs) ++ x ∷ quoted_from (after_outside x) xs)))
out_at x xs run true e ih h = ih.out (run ++ x ∷ []) (AllRun-push run x h e)
out_at x xs run false e ih h =
    run_at (is_number run && not (is_before_colon (x ∷ xs))) run (x ∷ quoted_from (after_outside x) xs) h
    (stops_at x (quoted_from (after_outside x) xs) (is_run_byte x) e)
    (λ k n ends. colons_at x xs run e k n) (tail_between x xs ih e)

word_out_at : (x : ℕ) (xs run : List ℕ) (b : Bool) → is_run_byte x ≡ b → Goes xs → AllRun run
    → unbroken (cond b (quoted_from (outside (run ++ x ∷ [])) xs) (run_text run (x ∷ xs) ++ x ∷ quoted_from (after_outside x) xs)) ≡ true
    → Clean (lex in_word (cond b (quoted_from (outside (run ++ x ∷ [])) xs) (run_text run (x ∷ xs) ++ x ∷ quoted_from (after_outside x) xs)))
word_out_at x xs run true e ih h u = ih.word (run ++ x ∷ []) (AllRun-push run x h e) u
word_out_at x xs run false e ih h u =
    word_run_at (is_number run && not (is_before_colon (x ∷ xs))) run (x ∷ quoted_from (after_outside x) xs) h (tail_word x xs ih) u

goes_cons : (x : ℕ) (xs : List ℕ) → Goes xs → Goes (x ∷ xs)
unfolding quoted_from lex class_of
goes_cons x xs ih = record {
  out = λ run h. out_at x xs run (is_run_byte x) refl ih h;
  plainly = plain_at x xs (x == 34) (x == 92) (is_operator x) (is_space x) ih;
  escaping = escape_at x xs (x == 34) (x == 92) (is_operator x) (is_space x) ih;
  word = λ run h u. word_out_at x xs run (is_run_byte x) refl ih h u;
}

goes : (xs : List ℕ) → Goes xs
goes [] = goes_nil
goes (x ∷ xs) = goes_cons x xs (goes xs)

-- in a quoted text, up to the first fault, each number stands before a colon
pub quoted_is_clean : (text : List ℕ) → Clean (lex between (quoted text))
quoted_is_clean text = (goes text).out [] AllRun-nil
