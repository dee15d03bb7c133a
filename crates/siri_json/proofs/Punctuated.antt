-- The tokens of texts that lex alike.
use Rattle.std.proofs.Common.{◌≡◌, ℕ, Bool, true, false, List, [], ◌∷◌, inl, inr, ◌⊎◌, refl, sym, ap, ◌∙◌, subst}
use Rattle.std.proofs.lemmas.Bool.{true≢false}
use Rattle.std.specs.Prelude.{⊤}
use Rattle.json.specs.Token.{Token, begin_object, end_object, begin_array, end_array, key, string, number, boolean, null, bad}
use Rattle.json.specs.Lex.{Lexeme, token, comma, colon, begins_colon, Place, fresh, after_value, after_comma, after_key, may_begin}
use Rattle.json.specs.Lex.{may_close, if_allowed, place_token, punctuate}
use Rattle.siri_json.proofs.Alike.{Alike, Stuck, Clashes, Clashing, Replaces}

-- a fault comes next
abbrev pub Fails : List Token → Type 0
Fails [] = ⊥
Fails (begin_object ∷ ts) = ⊥
Fails (end_object ∷ ts) = ⊥
Fails (begin_array ∷ ts) = ⊥
Fails (end_array ∷ ts) = ⊥
Fails (key s ∷ ts) = ⊥
Fails (string s ∷ ts) = ⊥
Fails (number s ∷ ts) = ⊥
Fails (boolean b ∷ ts) = ⊥
Fails (null ∷ ts) = ⊥
Fails (bad ∷ ts) = ⊤

-- a fault comes next, or after one string
abbrev pub Halts : List Token → Type 0
Halts [] = ⊥
Halts (begin_object ∷ ts) = ⊥
Halts (end_object ∷ ts) = ⊥
Halts (begin_array ∷ ts) = ⊥
Halts (end_array ∷ ts) = ⊥
Halts (key s ∷ ts) = ⊥
Halts (string s ∷ ts) = Fails ts
Halts (number s ∷ ts) = ⊥
Halts (boolean b ∷ ts) = ⊥
Halts (null ∷ ts) = ⊥
Halts (bad ∷ ts) = ⊤

abbrev pub Becomes : Token → Token → Type 0
Becomes t u = (s : List ℕ) × (t ≡ number s) × (u ≡ string s)

abbrev pub Matches : List Token → List Token → Type 0
Matches [] [] = ⊤
Matches [] (u ∷ us) = ⊥
Matches (t ∷ ts) [] = ⊥
Matches (t ∷ ts) (u ∷ us) = (Halts (t ∷ ts) × Halts (u ∷ us)) ⊎ (((t ≡ u) ⊎ Becomes t u) × Matches ts us)

halting : (ts us : List Token) → Halts ts → Halts us → Matches ts us
halting [] us h k = absurd h
halting (t ∷ ts) [] h k = absurd k
halting (t ∷ ts) (u ∷ us) h k = inl (h, k)

-- ---- faults

clash_fails : (t : Token) (b : Bool) (k : Place → List Token) → Clashes t → Fails (place_token after_value t b k)
unfolding Clashes
clash_fails begin_object b k h = absurd h
clash_fails end_object b k h = absurd h
clash_fails begin_array b k h = absurd h
clash_fails end_array b k h = absurd h
clash_fails (key s) b k h = tt
clash_fails (string s) true k h = tt
clash_fails (string s) false k h = tt
clash_fails (number s) b k h = tt
clash_fails (boolean v) b k h = tt
clash_fails null b k h = tt
clash_fails bad b k h = tt

clashing_fails : (ls : List Lexeme) → Clashing ls → Fails (punctuate after_value ls)
unfolding Clashing punctuate
clashing_fails [] h = absurd h
clashing_fails (token t ∷ ls) h = clash_fails t (begins_colon ls) (λ n. punctuate n ls) h
clashing_fails (comma ∷ ls) h = absurd h
clashing_fails (colon ∷ ls) h = absurd h

clashing_colon : (ls : List Lexeme) → Clashing ls → begins_colon ls ≡ false
unfolding Clashing
clashing_colon [] h = absurd h
clashing_colon (token t ∷ ls) h = refl
clashing_colon (comma ∷ ls) h = absurd h
clashing_colon (colon ∷ ls) h = absurd h

string_halts_at : (b : Bool) (s : List ℕ) (k : Place → List Token) → Fails (k after_value) → Halts (if_allowed b (string s) k after_value)
string_halts_at true s k h = h
string_halts_at false s k h = tt

string_halts : (p : Place) (c : Bool) (s : List ℕ) (k : Place → List Token) → c ≡ false → Fails (k after_value) → Halts (place_token p (string s) c k)
string_halts p true s k e h = absurd (true≢false e)
string_halts p false s k e h = string_halts_at (may_begin p) s k h

stuck_halts : (ls : List Lexeme) → Stuck ls → (p : Place) → Halts (punctuate p ls)
unfolding Stuck punctuate
stuck_halts [] h p = absurd h
stuck_halts (token begin_object ∷ ls) h p = absurd h
stuck_halts (token end_object ∷ ls) h p = absurd h
stuck_halts (token begin_array ∷ ls) h p = absurd h
stuck_halts (token end_array ∷ ls) h p = absurd h
stuck_halts (token (key s) ∷ ls) h p = absurd h
stuck_halts (token (string s) ∷ ls) h p = string_halts p (begins_colon ls) s (λ n. punctuate n ls) (clashing_colon ls h) (clashing_fails ls h)
stuck_halts (token (number s) ∷ ls) h p = absurd h
stuck_halts (token (boolean b) ∷ ls) h p = absurd h
stuck_halts (token null ∷ ls) h p = absurd h
stuck_halts (token bad ∷ ls) h p = tt
stuck_halts (comma ∷ ls) h p = absurd h
stuck_halts (colon ∷ ls) h p = absurd h

-- ---- colons

stuck_colon : (ls : List Lexeme) → Stuck ls → begins_colon ls ≡ false
unfolding Stuck
stuck_colon [] h = absurd h
stuck_colon (token t ∷ ls) h = refl
stuck_colon (comma ∷ ls) h = absurd h
stuck_colon (colon ∷ ls) h = absurd h

colon_of : Lexeme → Bool
colon_of (token t) = false
colon_of comma = false
colon_of colon = true

colon_first : (l : Lexeme) (ls : List Lexeme) → begins_colon (l ∷ ls) ≡ colon_of l
unfolding colon_of
colon_first (token t) ls = refl
colon_first comma ls = refl
colon_first colon ls = refl

same_colon : (ls ms : List Lexeme) → Alike ls ms → begins_colon ls ≡ begins_colon ms
unfolding Alike Replaces colon_of
same_colon [] [] h = refl
same_colon [] (m ∷ ms) h = absurd h
same_colon (l ∷ ls) [] h = absurd h
same_colon (l ∷ ls) (m ∷ ms) (inl h) = stuck_colon (l ∷ ls) h.0 ∙ sym (stuck_colon (m ∷ ms) h.1)
same_colon (l ∷ ls) (m ∷ ms) (inr (inl e, h)) = colon_first l ls ∙ ap colon_of e ∙ sym (colon_first m ms)
same_colon (l ∷ ls) (m ∷ ms) (inr (inr r, h)) = colon_first l ls ∙ ap colon_of r.1 ∙ sym (colon_first m ms ∙ ap colon_of r.2)

-- ---- tokens

allowed : (b : Bool) (t : Token) (k j : Place → List Token) (next : Place) → Matches (k next) (j next) → Matches (if_allowed b t k next) (if_allowed b t j next)
allowed true t k j next h = inr (inl refl, h)
allowed false t k j next h = inl (tt, tt)

replaced : (b : Bool) (s : List ℕ) (k j : Place → List Token) → Matches (k after_value) (j after_value)
    → Matches (if_allowed b (number s) k after_value) (if_allowed b (string s) j after_value)
replaced true s k j h = inr (inr (s, refl, refl), h)
replaced false s k j h = inl (tt, tt)

one_token : (p : Place) (t : Token) (b : Bool) (k j : Place → List Token) → ((n : Place) → Matches (k n) (j n))
    → Matches (place_token p t b k) (place_token p t b j)
one_token p begin_object b k j h = allowed (may_begin p) begin_object k j fresh (h fresh)
one_token p end_object b k j h = allowed (may_close p) end_object k j after_value (h after_value)
one_token p begin_array b k j h = allowed (may_begin p) begin_array k j fresh (h fresh)
one_token p end_array b k j h = allowed (may_close p) end_array k j after_value (h after_value)
one_token p (key s) b k j h = inl (tt, tt)
one_token p (string s) true k j h = allowed (may_begin p) (key s) k j after_key (h after_key)
one_token p (string s) false k j h = allowed (may_begin p) (string s) k j after_value (h after_value)
one_token p (number s) b k j h = allowed (may_begin p) (number s) k j after_value (h after_value)
one_token p (boolean v) b k j h = allowed (may_begin p) (boolean v) k j after_value (h after_value)
one_token p null b k j h = allowed (may_begin p) null k j after_value (h after_value)
one_token p bad b k j h = inl (tt, tt)

one_lexeme : (l : Lexeme) (ls ms : List Lexeme) (p : Place) → begins_colon ls ≡ begins_colon ms
    → ((n : Place) → Matches (punctuate n ls) (punctuate n ms)) → Matches (punctuate p (l ∷ ls)) (punctuate p (l ∷ ms))
unfolding punctuate
one_lexeme (token t) ls ms p e h =
    subst (λ (b : Bool). Matches (place_token p t (begins_colon ls) (λ n. punctuate n ls)) (place_token p t b (λ n. punctuate n ms))) e
    (one_token p t (begins_colon ls) (λ n. punctuate n ls) (λ n. punctuate n ms) h)
one_lexeme comma ls ms fresh e h = inl (tt, tt)
one_lexeme comma ls ms after_value e h = h after_comma
one_lexeme comma ls ms after_comma e h = inl (tt, tt)
one_lexeme comma ls ms after_key e h = inl (tt, tt)
one_lexeme colon ls ms fresh e h = inl (tt, tt)
one_lexeme colon ls ms after_value e h = inl (tt, tt)
one_lexeme colon ls ms after_comma e h = inl (tt, tt)
one_lexeme colon ls ms after_key e h = h fresh

replaced_lexeme_at : (s : List ℕ) (ls ms : List Lexeme) (p : Place) (b : Bool) → b ≡ false → ((n : Place) → Matches (punctuate n ls) (punctuate n ms))
    → Matches (place_token p (number s) (begins_colon ls) (λ n. punctuate n ls)) (place_token p (string s) b (λ n. punctuate n ms))
replaced_lexeme_at s ls ms p true e h = absurd (true≢false e)
replaced_lexeme_at s ls ms p false e h = replaced (may_begin p) s (λ n. punctuate n ls) (λ n. punctuate n ms) (h after_value)

replaced_lexeme : (s : List ℕ) (ls ms : List Lexeme) (p : Place) → begins_colon ms ≡ false → ((n : Place) → Matches (punctuate n ls) (punctuate n ms))
    → Matches (punctuate p (token (number s) ∷ ls)) (punctuate p (token (string s) ∷ ms))
unfolding punctuate
replaced_lexeme s ls ms p e h = replaced_lexeme_at s ls ms p (begins_colon ms) e h

pub punctuated : (ls ms : List Lexeme) → Alike ls ms → (p : Place) → Matches (punctuate p ls) (punctuate p ms)
unfolding Alike punctuate Replaces
punctuated [] [] h fresh = tt
punctuated [] [] h after_value = tt
punctuated [] [] h after_comma = inl (tt, tt)
punctuated [] [] h after_key = inl (tt, tt)
punctuated [] (m ∷ ms) h p = absurd h
punctuated (l ∷ ls) [] h p = absurd h
punctuated (l ∷ ls) (m ∷ ms) (inl h) p = halting (punctuate p (l ∷ ls)) (punctuate p (m ∷ ms)) (stuck_halts (l ∷ ls) h.0 p) (stuck_halts (m ∷ ms) h.1 p)
punctuated (l ∷ ls) (m ∷ ms) (inr (inl e, h)) p =
    subst (λ (x : Lexeme). Matches (punctuate p (l ∷ ls)) (punctuate p (x ∷ ms))) e (one_lexeme l ls ms p (same_colon ls ms h) (punctuated ls ms h))
punctuated (l ∷ ls) (m ∷ ms) (inr (inr r, h)) p =
    subst (λ (x : Lexeme). Matches (punctuate p (x ∷ ls)) (punctuate p (m ∷ ms))) (sym r.1)
    (subst (λ (x : Lexeme). Matches (punctuate p (token (number r.0) ∷ ls)) (punctuate p (x ∷ ms))) (sym r.2)
    (replaced_lexeme r.0 ls ms p r.4 (punctuated ls ms h)))
