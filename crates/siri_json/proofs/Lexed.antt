-- A text and its quoted text, lexed side by side.
use Rattle.std.proofs.Common.{◌≡◌, ℕ, suc, Bool, true, false, cond, not, ◌&&◌, ◌||◌, ◌==◌, nat_eq, List, [], ◌∷◌, ◌++◌, length, take, drop}
use Rattle.std.proofs.Common.{Option, Some, None, refl, sym, ap, ap₂, ◌∙◌, subst, append_assoc}
use Rattle.std.proofs.lemmas.Bool.{true≢false, false≢true, eqb-true, ne_eqb}
use Rattle.std.specs.List.{starts_with}
use Rattle.json.specs.Token.{Token, string, number, boolean, null, bad}
use Rattle.json.specs.Ascii as ascii
use Rattle.json.specs.Text.{content, plain}
use Rattle.json.specs.Word.{is_operator, is_space, ends_word, after_number, number_before, literal, word}
use Rattle.json.specs.Lex.{Lexeme, token, Class, operator_lexeme, string_token, Mode, between, in_word, in_string, in_escape, lex_byte, lex, begins_colon}
use Rattle.json.specs.Print.{IsNumber}
use Rattle.json.proofs.Printed.Numbers.{lex-number}
use Rattle.siri_json.specs.Pieces.{run_length}
use Rattle.siri_json.proofs.Pieces.{quoted-other}
use Rattle.siri_json.specs.Quoted.{is_run_byte, is_number, is_whole, is_before_colon, run_text, outside, inside, after_outside, quoted_from, quoted}
use Rattle.siri_json.proofs.Words.{AllRun, AllRun-nil, AllRun-push, AllRun-first, run_no_stop, run_is_other, after_run, number_run}
use Rattle.siri_json.proofs.Clean.{class_of, at_space, unbroken, unbroken_name, letters_true, letters_false, letters_null, tail_of}
use Rattle.siri_json.proofs.Clean.{in_word_run, in_string_run, unbroken_run, stops_at, at_end}
use Rattle.siri_json.proofs.Contents.{content-quoted}
use Rattle.siri_json.proofs.Alike.{Alike, alike_nil, alike_one, alike_bad, alike_replaced, alike_stuck, Clashing}
use Rattle.siri_json.proofs.Fronts.{no_colon, quoted_no_colon, quoted-run, content-run, word-bad, no_number_at, clashing}

-- ---- names

abbrev test : List ℕ → List ℕ → Bool
test name xs = starts_with nat_eq xs name && ends_word (drop (length name) xs)

and_3 : (c a b p q : Bool) → (p && q) ≡ (a && b) → ((c && p) && q) ≡ ((c && a) && b)
and_3 true a b p q h = h
and_3 false a b p q h = refl

miss : (n z : ℕ) (name zs : List ℕ) → (n == z) ≡ false → test (n ∷ name) (z ∷ zs) ≡ false
miss n z name zs e = rw e

apart : (n y : ℕ) → is_run_byte n ≡ false → is_run_byte y ≡ true → (n == y) ≡ false
apart n y hn hy = ne_eqb n y (λ e. true≢false (sym hy ∙ ap is_run_byte (sym e) ∙ hn))

miss_run : (b : Bool) (n y : ℕ) (name run rest : List ℕ) → (n == 34) ≡ false → (n == y) ≡ false
    → test (n ∷ name) (cond b (34 ∷ ((y ∷ run) ++ 34 ∷ [])) (y ∷ run) ++ rest) ≡ false
miss_run true n y name run rest q e = miss n 34 name _ q
miss_run false n y name run rest q e = miss n y name _ e

step_at : (n y : ℕ) (name ys : List ℕ) (r q : Bool) → is_run_byte y ≡ r → (y == 34) ≡ q → is_run_byte n ≡ false → (n == 34) ≡ false
    → ((zs : List ℕ) → test name (quoted zs) ≡ test name zs) → test (n ∷ name) (quoted (y ∷ ys)) ≡ test (n ∷ name) (y ∷ ys)
unfolding quoted_from
step_at n y name ys true q er eq hn hq later =
    ap (test (n ∷ name)) (quoted-run y ys er)
    ∙ miss_run (is_number (y ∷ take (run_length ys) ys) && not (is_before_colon (drop (run_length ys) ys))) n y name
    (take (run_length ys) ys) (quoted (drop (run_length ys) ys)) hq (apart n y hn er)
    ∙ sym (miss n y name ys (apart n y hn er))
step_at n y name ys false true er eq hn hq later =
    let e : (n == y) ≡ false = ap (λ (c : ℕ). n == c) (eqb-true y 34 eq) ∙ hq in
    ap (test (n ∷ name)) (quoted-other y ys er) ∙ miss n y name (quoted_from (after_outside y) ys) e ∙ sym (miss n y name ys e)
step_at n y name ys false false er eq hn hq later =
    ap (test (n ∷ name)) (quoted-other y ys er ∙ ap (λ (b : Bool). y ∷ quoted_from (cond b (inside false) (outside [])) ys) eq)
    ∙ and_3 (n == y) (starts_with nat_eq ys name) (ends_word (drop (length name) ys))
    (starts_with nat_eq (quoted ys) name) (ends_word (drop (length name) (quoted ys))) (later ys)

step : (n : ℕ) (name : List ℕ) → is_run_byte n ≡ false → (n == 34) ≡ false
    → ((zs : List ℕ) → test name (quoted zs) ≡ test name zs) → (xs : List ℕ)
    → test (n ∷ name) (quoted xs) ≡ test (n ∷ name) xs
unfolding quoted_from after_number
step n name hn hq later [] = refl
step n name hn hq later (y ∷ ys) = step_at n y name ys (is_run_byte y) (y == 34) refl refl hn hq later

end_run : (b : Bool) (y : ℕ) (run rest : List ℕ) → is_run_byte y ≡ true → ends_word (cond b (34 ∷ ((y ∷ run) ++ 34 ∷ [])) (y ∷ run) ++ rest) ≡ false
end_run true y run rest r = refl
end_run false y run rest r = run_no_stop y r

end_at : (y : ℕ) (ys : List ℕ) (r : Bool) → is_run_byte y ≡ r → ends_word (quoted (y ∷ ys)) ≡ ends_word (y ∷ ys)
end_at y ys true er =
    ap ends_word (quoted-run y ys er)
    ∙ end_run (is_number (y ∷ take (run_length ys) ys) && not (is_before_colon (drop (run_length ys) ys))) y
    (take (run_length ys) ys) (quoted (drop (run_length ys) ys)) er ∙ sym (run_no_stop y er)
end_at y ys false er = ap ends_word (quoted-other y ys er)

ends : (xs : List ℕ) → ends_word (quoted xs) ≡ ends_word xs
unfolding quoted_from after_number
ends [] = refl
ends (y ∷ ys) = end_at y ys (is_run_byte y) refl

-- in a run that is no number
inner_at : (y : ℕ) (ys : List ℕ) (r : Bool) → is_run_byte y ≡ r
    → ends_word (take (cond r (suc (run_length ys)) 0) (y ∷ ys) ++ quoted (drop (cond r (suc (run_length ys)) 0) (y ∷ ys))) ≡ ends_word (y ∷ ys)
inner_at y ys true er = refl
inner_at y ys false er = ends (y ∷ ys)

inner : (ys : List ℕ) → ends_word (take (run_length ys) ys ++ quoted (drop (run_length ys) ys)) ≡ ends_word ys
unfolding quoted_from after_number
inner [] = refl
inner (y ∷ ys) = inner_at y ys (is_run_byte y) refl

last_at : (y : ℕ) (ys : List ℕ) (c r : Bool) → (101 == y) ≡ c → is_run_byte y ≡ r → test (101 ∷ []) (quoted (y ∷ ys)) ≡ test (101 ∷ []) (y ∷ ys)
unfolding after_number
last_at y ys true r ec er =
    subst (λ (z : ℕ). test (101 ∷ []) (quoted (z ∷ ys)) ≡ test (101 ∷ []) (z ∷ ys)) (eqb-true 101 y ec)
    (ap (test (101 ∷ [])) (quoted-run 101 ys refl) ∙ inner ys)
last_at y ys false true ec er =
    ap (test (101 ∷ [])) (quoted-run y ys er)
    ∙ miss_run (is_number (y ∷ take (run_length ys) ys) && not (is_before_colon (drop (run_length ys) ys))) 101 y []
    (take (run_length ys) ys) (quoted (drop (run_length ys) ys)) refl ec ∙ sym (miss 101 y [] ys ec)
last_at y ys false false ec er = ap (test (101 ∷ [])) (quoted-other y ys er) ∙ miss 101 y [] (quoted_from (after_outside y) ys) ec ∙ sym (miss 101 y [] ys ec)

last : (xs : List ℕ) → test (101 ∷ []) (quoted xs) ≡ test (101 ∷ []) xs
unfolding quoted_from after_number
last [] = refl
last (y ∷ ys) = last_at y ys (101 == y) (is_run_byte y) refl refl

true_same : (xs : List ℕ) → test (114 ∷ 117 ∷ 101 ∷ []) (quoted xs) ≡ test (114 ∷ 117 ∷ 101 ∷ []) xs
true_same = step 114 (117 ∷ 101 ∷ []) refl refl (step 117 (101 ∷ []) refl refl last)

false_same : (xs : List ℕ) → test (97 ∷ 108 ∷ 115 ∷ 101 ∷ []) (quoted xs) ≡ test (97 ∷ 108 ∷ 115 ∷ 101 ∷ []) xs
false_same = step 97 (108 ∷ 115 ∷ 101 ∷ []) refl refl (step 108 (115 ∷ 101 ∷ []) refl refl (step 115 (101 ∷ []) refl refl last))

null_same : (xs : List ℕ) → test (117 ∷ 108 ∷ 108 ∷ []) (quoted xs) ≡ test (117 ∷ 108 ∷ 108 ∷ []) xs
null_same = step 117 (108 ∷ 108 ∷ []) refl refl (step 108 (108 ∷ []) refl refl (step 108 [] refl refl ends))

-- ---- words

named : (b c : Bool) (t : Token) (ls ms : List Lexeme) → c ≡ b → (b ≡ true → c ≡ true → Alike ls ms)
    → Alike (token (cond b t bad) ∷ ls) (token (cond c t bad) ∷ ms)
named true true t ls ms e h = alike_one (token t) ls ms (h refl refl)
named false false t ls ms e h = alike_bad ls ms
named true false t ls ms e h = absurd (false≢true e)
named false true t ls ms e h = absurd (true≢false e)

no_run : (x : ℕ) (ys : List ℕ) → is_run_byte x ≡ false → number_before (x ∷ ys) (after_number (x ∷ ys)) ≡ bad
unfolding after_number
no_run x ys e = no_number_at (x ∷ ys) (after_number (x ∷ ys))
    (λ q is ended. false≢true (number_run [] (x ∷ ys) q AllRun-nil (stops_at x ys (is_run_byte x) e) is ended).0)

words_at : (x : ℕ) (xs ys : List ℕ) (ls ms : List Lexeme) (t f n : Bool) → is_run_byte x ≡ false → ys ≡ quoted xs
    → (unbroken xs ≡ true → unbroken ys ≡ true → Alike ls ms)
    → Alike (token (cond t (literal ascii.true_text (boolean true) (x ∷ xs))
    (cond f (literal ascii.false_text (boolean false) (x ∷ xs))
    (cond n (literal ascii.null_text null (x ∷ xs)) (number_before (x ∷ xs) (after_number (x ∷ xs)))))) ∷ ls)
    (token (cond t (literal ascii.true_text (boolean true) (x ∷ ys))
    (cond f (literal ascii.false_text (boolean false) (x ∷ ys))
    (cond n (literal ascii.null_text null (x ∷ ys)) (number_before (x ∷ ys) (after_number (x ∷ ys)))))) ∷ ms)
words_at x xs ys ls ms true f n e is h =
    let name = 114 ∷ 117 ∷ 101 ∷ [] in
    named (test (116 ∷ name) (x ∷ xs)) (test (116 ∷ name) (x ∷ ys)) (boolean true) ls ms
    (and_3 (116 == x) (starts_with nat_eq xs name) (ends_word (drop 3 xs)) (starts_with nat_eq ys name)
    (ends_word (drop 3 ys)) (ap (test name) is ∙ true_same xs))
    (λ a b. h (unbroken_name name xs letters_true (tail_of x 116 name xs a)) (unbroken_name name ys letters_true (tail_of x 116 name ys b)))
words_at x xs ys ls ms false true n e is h =
    let name = 97 ∷ 108 ∷ 115 ∷ 101 ∷ [] in
    named (test (102 ∷ name) (x ∷ xs)) (test (102 ∷ name) (x ∷ ys)) (boolean false) ls ms
    (and_3 (102 == x) (starts_with nat_eq xs name) (ends_word (drop 4 xs)) (starts_with nat_eq ys name)
    (ends_word (drop 4 ys)) (ap (test name) is ∙ false_same xs))
    (λ a b. h (unbroken_name name xs letters_false (tail_of x 102 name xs a)) (unbroken_name name ys letters_false (tail_of x 102 name ys b)))
words_at x xs ys ls ms false false true e is h =
    let name = 117 ∷ 108 ∷ 108 ∷ [] in
    named (test (110 ∷ name) (x ∷ xs)) (test (110 ∷ name) (x ∷ ys)) null ls ms
    (and_3 (110 == x) (starts_with nat_eq xs name) (ends_word (drop 3 xs)) (starts_with nat_eq ys name)
    (ends_word (drop 3 ys)) (ap (test name) is ∙ null_same xs))
    (λ a b. h (unbroken_name name xs letters_null (tail_of x 110 name xs a)) (unbroken_name name ys letters_null (tail_of x 110 name ys b)))
words_at x xs ys ls ms false false false e is h =
    subst (λ (t : Token). Alike (token t ∷ ls) (token (number_before (x ∷ ys) (after_number (x ∷ ys))) ∷ ms)) (sym (no_run x xs e))
    (subst (λ (t : Token). Alike (token bad ∷ ls) (token t ∷ ms)) (sym (no_run x ys e)) (alike_bad ls ms))

words : (x : ℕ) (xs : List ℕ) (ls ms : List Lexeme) → is_run_byte x ≡ false → (unbroken xs ≡ true → unbroken (quoted xs) ≡ true → Alike ls ms)
    → Alike (token (word (x ∷ xs)) ∷ ls) (token (word (x ∷ quoted xs)) ∷ ms)
unfolding word
words x xs ls ms e h = words_at x xs (quoted xs) ls ms (x == 116) (x == 102) (x == 110) e refl h

-- ---- runs

lex_word : (x : ℕ) (ys : List ℕ) → is_run_byte x ≡ true → lex between (x ∷ ys) ≡ token (word (x ∷ ys)) ∷ lex in_word ys
unfolding lex
lex_word x ys r = ap (λ (c : Class). lex_byte between c x ys (λ (m : Mode). lex m ys)) (run_is_other x r)

lex_quote : (ys : List ℕ) → lex between (34 ∷ ys) ≡ token (string_token (content plain ys)) ∷ lex in_string ys
unfolding lex
lex_quote ys = refl

lex_close : (ys : List ℕ) → lex in_string (34 ∷ ys) ≡ lex between ys
unfolding lex
lex_close ys = refl

lex_quoted : (run rest : List ℕ) → AllRun run → lex between (34 ∷ (run ++ 34 ∷ rest)) ≡ token (string run) ∷ lex between rest
lex_quoted run rest h =
    lex_quote (run ++ 34 ∷ rest) ∙ ap₂ (λ (o : Option (List ℕ)) (ls : List Lexeme). token (string_token o) ∷ ls)
    (content-run run rest h) (in_string_run run (34 ∷ rest) h ∙ lex_close rest)

lex_bad : (x : ℕ) (run rest : List ℕ) → AllRun (x ∷ run) → after_run rest ≡ rest
    → (is_number (x ∷ run) && ends_word rest) ≡ false → lex between (x ∷ (run ++ rest)) ≡ token bad ∷ lex in_word
    (run ++ rest)
lex_bad x run rest h stops never =
    lex_word x (run ++ rest) (AllRun-first x run h).0 ∙ ap (λ (t : Token). token t ∷ lex in_word (run ++ rest)) (word-bad x run rest h stops never)

is_number-true : (o : Option (List ℕ)) → is_whole o ≡ true → o ≡ Some []
is_number-true None h = absurd (false≢true h)
is_number-true (Some []) h = refl
is_number-true (Some (x ∷ xs)) h = absurd (false≢true h)

-- the rest after a run, and its quoted text
record Rests (rest tail : List ℕ) : Type 0 where
  alike : Alike (lex between rest) (lex between tail)
  same_end : ends_word tail ≡ ends_word rest
  stops : after_run rest ≡ rest
  tail_stops : after_run tail ≡ tail
  plain_colon : is_before_colon rest ≡ false → begins_colon (lex between rest) ≡ false
  tail_colon : is_before_colon rest ≡ false → begins_colon (lex between tail) ≡ false
  ended : is_before_colon rest ≡ true → ends_word rest ≡ true
  clash : ends_word rest ≡ false → Clashing (lex between tail)

both_alike : {a b : List Lexeme} (c d : List Lexeme) → a ≡ c → b ≡ d → Alike c d → Alike a b
both_alike {a} {b} c d p q h = subst (λ (x : List Lexeme). Alike x b) (sym p) (subst (λ (y : List Lexeme). Alike c y) (sym q) h)

run_at : (x : ℕ) (run rest tail : List ℕ) (n c e : Bool) → is_number (x ∷ run) ≡ n → is_before_colon rest ≡ c
    → ends_word rest ≡ e → AllRun (x ∷ run) → Rests rest tail
    → Alike (lex between (x ∷ (run ++ rest))) (lex between (cond (n && not c) (34 ∷ ((x ∷ run) ++ 34 ∷ [])) (x ∷ run) ++ tail))
run_at x run rest tail false c e en ec ee h r =
    both_alike (token bad ∷ lex in_word (run ++ rest)) (token bad ∷ lex in_word (run ++ tail))
    (lex_bad x run rest h r.stops (ap (λ (b : Bool). b && ends_word rest) en))
    (lex_bad x run tail h r.tail_stops (ap (λ (b : Bool). b && ends_word tail) en)) (alike_bad _ _)
run_at x run rest tail true true e en ec ee h r =
    let number_is : IsNumber (x ∷ run) = is_number-true (after_number (x ∷ run)) en in
    both_alike (token (number (x ∷ run)) ∷ lex between rest) (token (number (x ∷ run)) ∷ lex between tail)
    (lex-number (x ∷ run) rest number_is (r.ended ec)) (lex-number (x ∷ run) tail number_is (r.same_end ∙ r.ended ec)) (alike_one _ _ _ r.alike)
run_at x run rest tail true false true en ec ee h r =
    let number_is : IsNumber (x ∷ run) = is_number-true (after_number (x ∷ run)) en in
    both_alike (token (number (x ∷ run)) ∷ lex between rest) (token (string (x ∷ run)) ∷ lex between tail)
    (lex-number (x ∷ run) rest number_is ee)
    (ap (λ (t : List ℕ). lex between (34 ∷ t)) (append_assoc (x ∷ run) (34 ∷ []) tail) ∙ lex_quoted (x ∷ run) tail h)
    (alike_replaced (x ∷ run) _ _ (r.plain_colon ec) (r.tail_colon ec) r.alike)
run_at x run rest tail true false false en ec ee h r =
    both_alike (token bad ∷ lex in_word (run ++ rest)) (token (string (x ∷ run)) ∷ lex between tail)
    (lex_bad x run rest h r.stops (ap₂ (λ (a b : Bool). a && b) en ee))
    (ap (λ (t : List ℕ). lex between (34 ∷ t)) (append_assoc (x ∷ run) (34 ∷ []) tail) ∙ lex_quoted (x ∷ run) tail h)
    (alike_stuck (x ∷ run) _ _ (r.clash ee))

runs_alike : (run rest tail : List ℕ) → AllRun run → Rests rest tail → Alike (lex between (run ++ rest)) (lex between (run_text run rest ++ tail))
unfolding after_number
runs_alike [] rest tail h r = r.alike
runs_alike (x ∷ run) rest tail h r = run_at x run rest tail (is_number (x ∷ run)) (is_before_colon rest) (ends_word rest) refl refl refl h r

word_run_at : (b : Bool) (run rest tail : List ℕ) → AllRun run → (unbroken rest ≡ true → unbroken tail ≡ true → Alike (lex in_word rest) (lex in_word tail))
    → unbroken (run ++ rest) ≡ true → unbroken (cond b (34 ∷ (run ++ 34 ∷ [])) run ++ tail) ≡ true
    → Alike (lex in_word (run ++ rest)) (lex in_word (cond b (34 ∷ (run ++ 34 ∷ [])) run ++ tail))
unfolding unbroken
word_run_at true run rest tail h k u v = absurd (false≢true v)
word_run_at false run rest tail h k u v =
    both_alike (lex in_word rest) (lex in_word tail) (in_word_run run rest h) (in_word_run run tail h)
    (k (unbroken_run run rest h u) (unbroken_run run tail h v))

-- ---- the whole text

record Runs (xs : List ℕ) : Type 0 where
  out : (run : List ℕ) → AllRun run → Alike (lex between (run ++ xs)) (lex between (quoted_from (outside run) xs))
  plainly : Alike (lex in_string xs) (lex in_string (quoted_from (inside false) xs))
  escaping : Alike (lex in_escape xs) (lex in_escape (quoted_from (inside true) xs))
  word : (run : List ℕ) → AllRun run → unbroken (run ++ xs) ≡ true → unbroken (quoted_from (outside run) xs) ≡ true
      → Alike (lex in_word (run ++ xs)) (lex in_word (quoted_from (outside run) xs))

rests_nil : Rests [] []
unfolding lex
rests_nil = record {
  alike = alike_nil;
  same_end = refl;
  stops = refl;
  tail_stops = refl;
  plain_colon = λ h. refl;
  tail_colon = λ h. refl;
  ended = λ h. refl;
  clash = λ h. absurd (true≢false h);
}

nil_word : Alike (lex in_word []) (lex in_word [])
unfolding lex
nil_word = alike_nil

runs_nil : Runs []
unfolding quoted_from lex
runs_nil = record {
  out = λ run h. subst (λ (t : List ℕ). Alike (lex between (run ++ [])) (lex between t)) (at_end run) (runs_alike run [] [] h rests_nil);
  plainly = alike_nil;
  escaping = alike_nil;
  word = λ run h u v. subst (λ (t : List ℕ). Alike (lex in_word (run ++ [])) (lex in_word t)) (at_end run)
      (word_run_at (is_number run && not false) run [] [] h (λ a b. nil_word) u (ap unbroken (at_end run) ∙ v));
}

-- a byte that is of no run
tail_at : (x : ℕ) (xs : List ℕ) (q b o s : Bool) → Runs xs → is_run_byte x ≡ false
    → Alike (lex_byte between (class_of q b o s) x xs (λ (m : Mode). lex m xs))
    (lex_byte between (class_of q b o s) x (quoted_from (cond q (inside false) (outside [])) xs)
    (λ (m : Mode). lex m (quoted_from (cond q (inside false) (outside [])) xs)))
unfolding class_of
tail_at x xs true b o s ih e =
    subst (λ (c : Option (List ℕ)). Alike (token (string_token (content plain xs)) ∷ lex in_string xs)
    (token (string_token c) ∷ lex in_string (quoted_from (inside false) xs))) (sym (content-quoted xs))
    (alike_one _ _ _ ih.plainly)
tail_at x xs false true o s ih e = alike_bad _ _
tail_at x xs false false true s ih e = alike_one (operator_lexeme x) _ _ (ih.out [] AllRun-nil)
tail_at x xs false false false true ih e = ih.out [] AllRun-nil
tail_at x xs false false false false ih e = words x xs (lex in_word xs) (lex in_word (quoted xs)) e (ih.word [] AllRun-nil)

tail_between : (x : ℕ) (xs : List ℕ) → Runs xs → is_run_byte x ≡ false → Alike (lex between (x ∷ xs)) (lex between (x ∷ quoted_from (after_outside x) xs))
unfolding class_of lex
tail_between x xs ih e = tail_at x xs (x == 34) (x == 92) (is_operator x) (is_space x) ih e

tail_word_at : (x : ℕ) (xs : List ℕ) (q b o s : Bool) → Runs xs → (b ≡ true → (o || s) ≡ false) → cond q false (cond (o || s) true (unbroken xs)) ≡ true
    → cond q false (cond (o || s) true (unbroken (quoted_from (cond q (inside false) (outside [])) xs))) ≡ true
    → Alike (lex_byte in_word (class_of q b o s) x xs (λ (m : Mode). lex m xs))
    (lex_byte in_word (class_of q b o s) x (quoted_from (cond q (inside false) (outside [])) xs)
    (λ (m : Mode). lex m (quoted_from (cond q (inside false) (outside [])) xs)))
unfolding class_of
tail_word_at x xs true b o s ih k u v = absurd (false≢true u)
tail_word_at x xs false true true s ih k u v = absurd (true≢false (k refl))
tail_word_at x xs false true false true ih k u v = absurd (true≢false (k refl))
tail_word_at x xs false true false false ih k u v = ih.word [] AllRun-nil u v
tail_word_at x xs false false true s ih k u v = alike_one (operator_lexeme x) _ _ (ih.out [] AllRun-nil)
tail_word_at x xs false false false true ih k u v = ih.out [] AllRun-nil
tail_word_at x xs false false false false ih k u v = ih.word [] AllRun-nil u v

tail_word : (x : ℕ) (xs : List ℕ) → Runs xs → unbroken (x ∷ xs) ≡ true → unbroken (x ∷ quoted_from (after_outside x) xs) ≡ true
    → Alike (lex in_word (x ∷ xs)) (lex in_word (x ∷ quoted_from (after_outside x) xs))
unfolding class_of lex unbroken
tail_word x xs ih u v = tail_word_at x xs (x == 34) (x == 92) (is_operator x) (is_space x) ih
    (λ e. ap (λ (c : ℕ). is_operator c || is_space c) (eqb-true x 92 e)) u v

plain_at : (x : ℕ) (xs : List ℕ) (q b o s : Bool) → Runs xs
    → Alike (lex_byte in_string (class_of q b o s) x xs (λ (m : Mode). lex m xs))
    (lex_byte in_string (class_of q b o s) x
    (quoted_from (cond (q && not false) (outside []) (inside (b && not false))) xs)
    (λ (m : Mode). lex m (quoted_from (cond (q && not false) (outside []) (inside (b && not false))) xs)))
unfolding class_of
plain_at x xs true b o s ih = ih.out [] AllRun-nil
plain_at x xs false true o s ih = ih.escaping
plain_at x xs false false true s ih = ih.plainly
plain_at x xs false false false true ih = ih.plainly
plain_at x xs false false false false ih = ih.plainly

escape_at : (x : ℕ) (xs : List ℕ) (q b o s : Bool) → Runs xs
    → Alike (lex_byte in_escape (class_of q b o s) x xs (λ (m : Mode). lex m xs))
    (lex_byte in_escape (class_of q b o s) x
    (quoted_from (cond (q && not true) (outside []) (inside (b && not true))) xs)
    (λ (m : Mode). lex m (quoted_from (cond (q && not true) (outside []) (inside (b && not true))) xs)))
unfolding class_of
escape_at x xs true true o s ih = ih.plainly
escape_at x xs true false o s ih = ih.plainly
escape_at x xs false true o s ih = ih.plainly
escape_at x xs false false true s ih = ih.plainly
escape_at x xs false false false true ih = ih.plainly
escape_at x xs false false false false ih = ih.plainly

colon_ends_at : (x : ℕ) (xs : List ℕ) (b : Bool) → is_space x ≡ b → cond b (is_before_colon xs) (x == ascii.colon) ≡ true → (is_operator x || is_space x) ≡ true
colon_ends_at x xs true e h = at_space (λ (y : ℕ). (is_operator y || is_space y) ≡ true) x refl refl refl refl e
colon_ends_at x xs false e h = ap (λ (y : ℕ). is_operator y || is_space y) (eqb-true x 58 h)

rests_cons : (x : ℕ) (xs : List ℕ) → Runs xs → is_run_byte x ≡ false → Rests (x ∷ xs) (x ∷ quoted_from (after_outside x) xs)
rests_cons x xs ih e = record {
  alike = tail_between x xs ih e;
  same_end = refl;
  stops = stops_at x xs (is_run_byte x) e;
  tail_stops = stops_at x (quoted_from (after_outside x) xs) (is_run_byte x) e;
  plain_colon = no_colon (x ∷ xs);
  tail_colon = λ h. ap (λ (t : List ℕ). begins_colon (lex between t)) (sym (quoted-other x xs e)) ∙ quoted_no_colon (x ∷ xs) h;
  ended = colon_ends_at x xs (is_space x) refl;
  clash = clashing x (quoted_from (after_outside x) xs);
}

out_at : (x : ℕ) (xs run : List ℕ) (b : Bool) → is_run_byte x ≡ b → Runs xs → AllRun run
    → Alike (lex between (run ++ x ∷ xs)) (lex between
    (cond b (quoted_from (outside (run ++ x ∷ [])) xs)
    (run_text run (x ∷ xs) ++ x ∷ quoted_from (after_outside x) xs)))
out_at x xs run true e ih h =
    subst (λ (t : List ℕ). Alike (lex between t) (lex between (quoted_from (outside (run ++ x ∷ [])) xs)))
    (append_assoc run (x ∷ []) xs) (ih.out (run ++ x ∷ []) (AllRun-push run x h e))
out_at x xs run false e ih h = runs_alike run (x ∷ xs) (x ∷ quoted_from (after_outside x) xs) h (rests_cons x xs ih e)

word_out_at : (x : ℕ) (xs run : List ℕ) (b : Bool) → is_run_byte x ≡ b → Runs xs → AllRun run → unbroken (run ++ x ∷ xs) ≡ true
    → unbroken (cond b (quoted_from (outside (run ++ x ∷ [])) xs) (run_text run (x ∷ xs) ++ x ∷ quoted_from (after_outside x) xs)) ≡ true
    → Alike (lex in_word (run ++ x ∷ xs)) (lex in_word
    (cond b (quoted_from (outside (run ++ x ∷ [])) xs)
    (run_text run (x ∷ xs) ++ x ∷ quoted_from (after_outside x) xs)))
word_out_at x xs run true e ih h u v =
    let same = append_assoc run (x ∷ []) xs in
    subst (λ (t : List ℕ). Alike (lex in_word t) (lex in_word (quoted_from (outside (run ++ x ∷ [])) xs))) same
    (ih.word (run ++ x ∷ []) (AllRun-push run x h e) (ap unbroken same ∙ u) v)
word_out_at x xs run false e ih h u v =
    word_run_at (is_number run && not (is_before_colon (x ∷ xs))) run (x ∷ xs) (x ∷ quoted_from (after_outside x) xs) h (tail_word x xs ih) u v

runs_cons : (x : ℕ) (xs : List ℕ) → Runs xs → Runs (x ∷ xs)
unfolding quoted_from lex class_of
runs_cons x xs ih = record {
  out = λ run h. out_at x xs run (is_run_byte x) refl ih h;
  plainly = plain_at x xs (x == 34) (x == 92) (is_operator x) (is_space x) ih;
  escaping = escape_at x xs (x == 34) (x == 92) (is_operator x) (is_space x) ih;
  word = λ run h u v. word_out_at x xs run (is_run_byte x) refl ih h u v;
}

runs : (xs : List ℕ) → Runs xs
runs [] = runs_nil
runs (x ∷ xs) = runs_cons x xs (runs xs)

-- a text and its quoted text give the same, with strings for numbers, up to the first fault
pub lexed_alike : (text : List ℕ) → Alike (lex between text) (lex between (quoted text))
lexed_alike text = (runs text).out [] AllRun-nil
