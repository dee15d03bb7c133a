-- At a fault nothing is read.
use Rattle.std.proofs.Common.{◌≡◌, ℕ, zero, suc, List, [], ◌∷◌, length, Option, None, option_and_then, refl, ap, ◌∙◌}
use Rattle.json.specs.Token.{Token, begin_object, end_object, begin_array, end_array, key, string, number, boolean, null, bad}
use Rattle.json.specs.Json as json
use Rattle.json.specs.Json.{Json, Items, Members, Parse, parse_map, after_end_array, read_key, items_step, members_step}
use Rattle.json.specs.Json.{items, members, value_with, value}
use Rattle.siri_json.proofs.Punctuated.{Fails}

abbrev pub Refuses : {A : Type 0} → Parse A → Type 0
Refuses p = (ts : List Token) → Fails ts → p ts ≡ None

no_end : (ts : List Token) → Fails ts → after_end_array ts ≡ None
no_end [] h = absurd h
no_end (begin_object ∷ ts) h = absurd h
no_end (end_object ∷ ts) h = absurd h
no_end (begin_array ∷ ts) h = absurd h
no_end (end_array ∷ ts) h = absurd h
no_end (key s ∷ ts) h = absurd h
no_end (string s ∷ ts) h = absurd h
no_end (number s ∷ ts) h = absurd h
no_end (boolean v ∷ ts) h = absurd h
no_end (null ∷ ts) h = absurd h
no_end (bad ∷ ts) h = refl

no_key : (ts : List Token) → Fails ts → read_key ts ≡ None
no_key [] h = absurd h
no_key (begin_object ∷ ts) h = absurd h
no_key (end_object ∷ ts) h = absurd h
no_key (begin_array ∷ ts) h = absurd h
no_key (end_array ∷ ts) h = absurd h
no_key (key s ∷ ts) h = absurd h
no_key (string s ∷ ts) h = absurd h
no_key (number s ∷ ts) h = absurd h
no_key (boolean v ∷ ts) h = absurd h
no_key (null ∷ ts) h = absurd h
no_key (bad ∷ ts) h = refl

no_value : (a : Parse Items) (o : Parse Members) (ts : List Token) → Fails ts → value_with a o ts ≡ None
no_value a o [] h = absurd h
no_value a o (begin_object ∷ ts) h = absurd h
no_value a o (end_object ∷ ts) h = absurd h
no_value a o (begin_array ∷ ts) h = absurd h
no_value a o (end_array ∷ ts) h = absurd h
no_value a o (key s ∷ ts) h = absurd h
no_value a o (string s ∷ ts) h = absurd h
no_value a o (number s ∷ ts) h = absurd h
no_value a o (boolean v ∷ ts) h = absurd h
no_value a o (null ∷ ts) h = absurd h
no_value a o (bad ∷ ts) h = refl

pub refuses_items : (p : Parse Json) → Refuses p → (n : ℕ) → Refuses (items p n)
unfolding items
refuses_items p never zero ts h = refl
refuses_items p never (suc n) ts h =
    ap (items_step p (items p n) ts) (no_end ts h)
    ∙ ap (option_and_then (λ (q : Json × List Token). parse_map (json.item q.0) (items p n q.1))) (never ts h)

pub refuses_members : (p : Parse Json) → Refuses p → (n : ℕ) → Refuses (members p n)
unfolding members
refuses_members p never zero ts h = refl
refuses_members p never (suc n) ts h =
    ap (option_and_then (λ (q : Option (List ℕ) × List Token). members_step p (members p n) q.0 q.1)) (no_key ts h)

pub refuses_value : (d : ℕ) → Refuses (value d)
unfolding value
refuses_value zero ts h = no_value (λ ts. None) (λ ts. None) ts h
refuses_value (suc d) ts h = no_value (λ ts. items (value d) (length ts) ts) (λ ts. members (value d) (length ts) ts) ts h
