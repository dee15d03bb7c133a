-- In the value of a quoted text no number stands.
use Rattle.std.proofs.Common.{◌≡◌, ℕ, zero, suc, Bool, true, false, List, [], ◌∷◌, length, Option, Some, None, option_and_then, inl, inr}
use Rattle.std.proofs.Common.{◌⊎◌, sym, ap, subst}
use Rattle.std.proofs.lemmas.Bool.{false≢true}
use Rattle.std.specs.Prelude.{⊤}
use Rattle.json.specs.Token.{Token, begin_object, end_object, begin_array, end_array, key, string, number, boolean, null, bad}
use Rattle.json.specs.Lex.{Lexeme, token, comma, colon, between, lex, begins_colon, Place, fresh, after_value, after_comma, after_key}
use Rattle.json.specs.Lex.{may_begin, may_close, if_allowed, punctuate, tokens}
use Rattle.json.specs.Json as json
use Rattle.json.specs.Json.{Json, Items, Members, Parse, parse_map, after_end_array, read_key, items_step, members_step, items, members, value_with, value}
use Rattle.siri_json.specs.Quoted.{quoted}
use Rattle.serde_json.specs.Read.{max_depth}
use Rattle.siri_json.specs.Shown.{whole}
use Rattle.siri_json.proofs.NumberFree.{IsFree, ItemsAreFree, MembersAreFree}
use Rattle.siri_json.proofs.Clean.{Clean, quoted_is_clean}
use Rattle.siri_json.proofs.Faults.{Refuses, refuses_items, refuses_members, refuses_value}
use Rattle.siri_json.proofs.Punctuated.{Fails}

-- each number stands before a fault
abbrev Numberless : List Token → Type 0
Numberless [] = ⊤
Numberless (begin_object ∷ ts) = Numberless ts
Numberless (end_object ∷ ts) = Numberless ts
Numberless (begin_array ∷ ts) = Numberless ts
Numberless (end_array ∷ ts) = Numberless ts
Numberless (key s ∷ ts) = Numberless ts
Numberless (string s ∷ ts) = Numberless ts
Numberless (number s ∷ ts) = Fails ts
Numberless (boolean b ∷ ts) = Numberless ts
Numberless (null ∷ ts) = Numberless ts
Numberless (bad ∷ ts) = ⊤

-- ---- commas and colons

after_colon : (p : Place) (ls : List Lexeme) → begins_colon ls ≡ true → Fails (punctuate after_value ls)
unfolding punctuate
after_colon p [] h = absurd (false≢true h)
after_colon p (token t ∷ ls) h = absurd (false≢true h)
after_colon p (comma ∷ ls) h = absurd (false≢true h)
after_colon p (colon ∷ ls) h = tt

allowed : (b : Bool) (t : Token) (k : Place → List Token) (next : Place)
    → (Numberless (k next) → Numberless (t ∷ k next)) → Numberless (k next) → Numberless (if_allowed b t k next)
allowed true t k next f h = f h
allowed false t k next f h = tt

allowed_number : (b : Bool) (s : List ℕ) (k : Place → List Token) → Fails (k after_value) → Numberless (if_allowed b (number s) k after_value)
allowed_number true s k h = h
allowed_number false s k h = tt

text_at : (p : Place) (c : Bool) (s : List ℕ) (k : Place → List Token) → ((q : Place) → Numberless (k q))
    → Numberless (Rattle.json.specs.Lex.place_token p (string s) c k)
text_at p true s k h = allowed (may_begin p) (key s) k after_key (λ x. x) (h after_key)
text_at p false s k h = allowed (may_begin p) (string s) k after_value (λ x. x) (h after_value)

numberless : (ls : List Lexeme) → Clean ls → (p : Place) → Numberless (punctuate p ls)
unfolding punctuate Clean
numberless [] h fresh = tt
numberless [] h after_value = tt
numberless [] h after_comma = tt
numberless [] h after_key = tt
numberless (token begin_object ∷ ls) h p = allowed (may_begin p) begin_object (λ n. punctuate n ls) fresh (λ x. x) (numberless ls h fresh)
numberless (token end_object ∷ ls) h p = allowed (may_close p) end_object (λ n. punctuate n ls) after_value (λ x. x) (numberless ls h after_value)
numberless (token begin_array ∷ ls) h p = allowed (may_begin p) begin_array (λ n. punctuate n ls) fresh (λ x. x) (numberless ls h fresh)
numberless (token end_array ∷ ls) h p = allowed (may_close p) end_array (λ n. punctuate n ls) after_value (λ x. x) (numberless ls h after_value)
numberless (token (key s) ∷ ls) h p = tt
numberless (token (string s) ∷ ls) h p = text_at p (begins_colon ls) s (λ n. punctuate n ls) (numberless ls h)
numberless (token (number s) ∷ ls) h p = allowed_number (may_begin p) s (λ n. punctuate n ls) (after_colon p ls h)
numberless (token (boolean b) ∷ ls) h p = allowed (may_begin p) (boolean b) (λ n. punctuate n ls) after_value (λ x. x) (numberless ls h after_value)
numberless (token null ∷ ls) h p = allowed (may_begin p) null (λ n. punctuate n ls) after_value (λ x. x) (numberless ls h after_value)
numberless (token bad ∷ ls) h p = tt
numberless (comma ∷ ls) h fresh = tt
numberless (comma ∷ ls) h after_value = numberless ls h after_comma
numberless (comma ∷ ls) h after_comma = tt
numberless (comma ∷ ls) h after_key = tt
numberless (colon ∷ ls) h fresh = tt
numberless (colon ∷ ls) h after_value = tt
numberless (colon ∷ ls) h after_comma = tt
numberless (colon ∷ ls) h after_key = numberless ls h fresh

-- ---- values

-- after the value comes a text without numbers, or a fault
abbrev Gives : {A : Type 0} → (A → Type 0) → Option (A × List Token) → Type 0
Gives Q None = ⊤
Gives Q (Some p) = (Q p.0 × Numberless p.1) ⊎ Fails p.1

abbrev Keeps : {A : Type 0} → (A → Type 0) → Parse A → Type 0
Keeps Q p = (ts : List Token) → Numberless ts → Gives Q (p ts)

mapped : {A B : Type 0} (P : A → Type 0) (Q : B → Type 0) (f : A → B) → ((a : A) → P a → Q (f a))
    → (o : Option (A × List Token)) → Gives P o → Gives Q (parse_map f o)
mapped P Q f g None h = tt
mapped P Q f g (Some p) (inl h) = inl (g p.0 h.0, h.1)
mapped P Q f g (Some p) (inr h) = inr h

refused : {B : Type 0} (Q : B → Type 0) (o : Option (B × List Token)) → o ≡ None → Gives Q o
refused Q o e = subst (Gives Q) (sym e) tt

and_more : {B : Type 0} (Q : B → Type 0) (f : Json → B → B) → ((j : Json) (b : B) → IsFree j → Q b → Q (f j b)) → (more : Parse B) → Keeps Q more → Refuses more
    → (o : Option (Json × List Token)) → Gives IsFree o → Gives Q (option_and_then (λ q. parse_map (f q.0) (more q.1)) o)
and_more Q f g more keeps never None h = tt
and_more Q f g more keeps never (Some q) (inl h) = mapped Q Q (f q.0) (λ b. g q.0 b h.0) _ (keeps q.1 h.1)
and_more Q f g more keeps never (Some q) (inr h) = refused Q _ (ap (parse_map (f q.0)) (never q.1 h))

abbrev Rest : Option (List Token) → Type 0
Rest None = ⊤
Rest (Some r) = Numberless r

closing : (ts : List Token) → Numberless ts → Rest (after_end_array ts)
closing [] h = tt
closing (begin_object ∷ ts) h = tt
closing (end_object ∷ ts) h = tt
closing (begin_array ∷ ts) h = tt
closing (end_array ∷ ts) h = h
closing (key s ∷ ts) h = tt
closing (string s ∷ ts) h = tt
closing (number s ∷ ts) h = tt
closing (boolean v ∷ ts) h = tt
closing (null ∷ ts) h = tt
closing (bad ∷ ts) h = tt

abbrev Named : Option (Option (List ℕ) × List Token) → Type 0
Named None = ⊤
Named (Some p) = Numberless p.1

naming : (ts : List Token) → Numberless ts → Named (read_key ts)
naming [] h = tt
naming (begin_object ∷ ts) h = tt
naming (end_object ∷ ts) h = h
naming (begin_array ∷ ts) h = tt
naming (end_array ∷ ts) h = tt
naming (key s ∷ ts) h = h
naming (string s ∷ ts) h = tt
naming (number s ∷ ts) h = tt
naming (boolean v ∷ ts) h = tt
naming (null ∷ ts) h = tt
naming (bad ∷ ts) h = tt

module _ (p : Parse Json) (keeps : Keeps IsFree p) (refuses : Refuses p) where
  item_turn : (more : Parse Items) → Keeps ItemsAreFree more → Refuses more → (ts : List Token) → Numberless ts
      → (o : Option (List Token)) → Rest o → Gives ItemsAreFree (items_step p more ts o)
  item_turn more again never ts h (Some r) q = inl (tt, q)
  item_turn more again never ts h None q = and_more ItemsAreFree json.item (λ j b x y. (x, y)) more again never (p ts) (keeps ts h)

  Keeps-items : (n : ℕ) → Keeps ItemsAreFree (items p n)
  unfolding items
  Keeps-items zero ts h = tt
  Keeps-items (suc n) ts h =
      item_turn (items p n) (Keeps-items n) (refuses_items p refuses n) ts h (after_end_array ts) (closing ts h)

  member_turn : (more : Parse Members) → Keeps MembersAreFree more → Refuses more → (o : Option (Option (List ℕ) × List Token)) → Named o
      → Gives MembersAreFree (option_and_then (λ q. members_step p more q.0 q.1) o)
  member_turn more again never None h = tt
  member_turn more again never (Some (None, s)) h = inl (tt, h)
  member_turn more again never (Some (Some k, s)) h = and_more MembersAreFree (json.member k) (λ j b x y. (x, y)) more again never (p s) (keeps s h)

  Keeps-members : (n : ℕ) → Keeps MembersAreFree (members p n)
  unfolding members
  Keeps-members zero ts h = tt
  Keeps-members (suc n) ts h =
      member_turn (members p n) (Keeps-members n) (refuses_members p refuses n) (read_key ts) (naming ts h)

Keeps-value_with : (a : Parse Items) (o : Parse Members) → Keeps ItemsAreFree a → Keeps MembersAreFree o → Keeps IsFree (value_with a o)
Keeps-value_with a o p q [] h = tt
Keeps-value_with a o p q (begin_object ∷ ts) h = mapped MembersAreFree IsFree json.object (λ m x. x) _ (q ts h)
Keeps-value_with a o p q (end_object ∷ ts) h = tt
Keeps-value_with a o p q (begin_array ∷ ts) h = mapped ItemsAreFree IsFree json.array (λ m x. x) _ (p ts h)
Keeps-value_with a o p q (end_array ∷ ts) h = tt
Keeps-value_with a o p q (key s ∷ ts) h = tt
Keeps-value_with a o p q (string s ∷ ts) h = inl (tt, h)
Keeps-value_with a o p q (number s ∷ ts) h = inr h
Keeps-value_with a o p q (boolean v ∷ ts) h = inl (tt, h)
Keeps-value_with a o p q (null ∷ ts) h = inl (tt, h)
Keeps-value_with a o p q (bad ∷ ts) h = tt

Keeps-value : (depth : ℕ) → Keeps IsFree (value depth)
unfolding value
Keeps-value zero = Keeps-value_with (λ ts. None) (λ ts. None) (λ ts h. tt) (λ ts h. tt)
Keeps-value (suc d) =
    Keeps-value_with (λ ts. items (value d) (length ts) ts) (λ ts. members (value d) (length ts) ts)
    (λ ts. Keeps-items (value d) (Keeps-value d) (refuses_value d) (length ts) ts)
    (λ ts. Keeps-members (value d) (Keeps-value d) (refuses_value d) (length ts) ts)

abbrev IfFound : Option Json → Type 0
IfFound None = ⊤
IfFound (Some j) = IsFree j

last : (o : Option (Json × List Token)) → Gives IsFree o → IfFound (whole o)
last None h = tt
last (Some (j, [])) (inl h) = h.0
last (Some (j, [])) (inr h) = absurd h
last (Some (j, t ∷ ts)) h = tt

-- in the value of a quoted text no number stands
pub value_is_free : (text : List ℕ) (j : Json) → whole (value max_depth (tokens (quoted text))) ≡ Some j → IsFree j
value_is_free text j e =
    subst IfFound e (last _ (Keeps-value max_depth (tokens (quoted text)) (numberless (lex between (quoted text)) (quoted_is_clean text) fresh)))
