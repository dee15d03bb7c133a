-- The values of tokens that match stand for the same data.
use Rattle.std.proofs.Common.{◌≡◌, ℕ, zero, suc, ◌<◌, ◌≤◌, List, [], ◌∷◌, length, Option, Some, None, option_map, option_and_then, inl, inr}
use Rattle.std.proofs.Common.{◌⊎◌, refl, sym, ap, ap₂, ◌∙◌, subst, arith}
use Rattle.std.specs.Prelude.{⊤}
use Rattle.json.specs.Token.{Token, begin_object, end_object, begin_array, end_array, key, string, number, boolean, null, bad}
use Rattle.json.specs.Json as json
use Rattle.json.specs.Json.{Json, Items, Members, Parse, parse_map, after_end_array, read_key, items_step, members_step, items, members, value_with, value}
use Rattle.json.proofs.Grammar.{left, skip_value-shorter, read_key-shorter}
use Rattle.serde_json.specs.Data.{Data, object as data_object, array as data_array, Members as DataMembers, no_members, item as data_item, put}
use Rattle.siri_json.specs.Shown.{data_of, items_data, members_data, whole}
use Rattle.siri_json.proofs.Faults.{Refuses, refuses_items, refuses_members, refuses_value}
use Rattle.siri_json.proofs.Punctuated.{Fails, Halts, Matches}

-- nothing was read, or a fault comes next
abbrev StopsO : {A : Type 0} → Option (A × List Token) → Type 0
StopsO None = ⊤
StopsO (Some p) = Fails p.1

abbrev Both : {A : Type 0} → (A → A → Type 0) → Option (A × List Token) → Option (A × List Token) → Type 0
Both R None p = ⊥
Both R (Some a) None = ⊥
Both R (Some a) (Some b) = R a.0 b.0 × Matches a.1 b.1

abbrev Rel : {A : Type 0} → (A → A → Type 0) → Option (A × List Token) → Option (A × List Token) → Type 0
Rel R o p = (StopsO o × StopsO p) ⊎ Both R o p

abbrev RJ : Json → Json → Type 0
RJ j k = data_of j ≡ data_of k

abbrev RI : Items → Items → Type 0
RI j k = items_data j ≡ items_data k

abbrev RM : Members → Members → Type 0
RM j k = (found : DataMembers) → members_data j found ≡ members_data k found

mapped_stops : {A B : Type 0} (f : A → B) (o : Option (A × List Token)) → StopsO o → StopsO (parse_map f o)
mapped_stops f None h = tt
mapped_stops f (Some a) h = h

mapped : {A B : Type 0} (R : A → A → Type 0) (S : B → B → Type 0) (f g : A → B) → ((a b : A) → R a b → S (f a) (g b))
    → (o p : Option (A × List Token)) → Rel R o p → Rel S (parse_map f o) (parse_map g p)
mapped R S f g k o p (inl h) = inl (mapped_stops f o h.0, mapped_stops g p h.1)
mapped R S f g k None p (inr h) = absurd h
mapped R S f g k (Some a) None (inr h) = absurd h
mapped R S f g k (Some a) (Some b) (inr h) = inr (k a.0 b.0 h.0, h.1)

none_stops : {A : Type 0} (o : Option (A × List Token)) → o ≡ None → StopsO o
none_stops o e = subst StopsO (sym e) tt

then_stops : {B : Type 0} (f : Json → B → B) (more : Parse B) → Refuses more → (o : Option (Json × List Token))
    → StopsO o → StopsO (option_and_then (λ q. parse_map (f q.0) (more q.1)) o)
then_stops f more never None h = tt
then_stops f more never (Some q) h = none_stops _ (ap (parse_map (f q.0)) (never q.1 h))

-- the parts that come after a value, where both have one
then_rel : {B : Type 0} (S : B → B → Type 0) (f g : Json → B → B)
    → ((j k : Json) (a b : B) → RJ j k → S a b → S (f j a) (g k b)) → (more again : Parse B) → Refuses more
    → Refuses again
    → (o p : Option (Json × List Token)) → ((q r : Json × List Token) → o ≡ Some q → p ≡ Some r → Matches q.1 r.1 → Rel S (more q.1) (again r.1)) → Rel RJ o p
    → Rel S (option_and_then (λ q. parse_map (f q.0) (more q.1)) o) (option_and_then (λ q. parse_map (g q.0) (again q.1)) p)
then_rel S f g k more again x y o p later (inl h) = inl (then_stops f more x o h.0, then_stops g again y p h.1)
then_rel S f g k more again x y None p later (inr h) = absurd h
then_rel S f g k more again x y (Some q) None later (inr h) = absurd h
then_rel S f g k more again x y (Some q) (Some r) later (inr h) =
    mapped S S (f q.0) (g r.0) (λ a b s. k q.0 r.0 a b h.0 s) (more q.1) (again r.1) (later q r refl refl h.1)

-- ---- one step of each part

halted_value : (a : Parse Items) (o : Parse Members) (ts : List Token) → Halts ts → StopsO (value_with a o ts)
halted_value a o [] h = absurd h
halted_value a o (begin_object ∷ ts) h = absurd h
halted_value a o (end_object ∷ ts) h = absurd h
halted_value a o (begin_array ∷ ts) h = absurd h
halted_value a o (end_array ∷ ts) h = absurd h
halted_value a o (key s ∷ ts) h = absurd h
halted_value a o (string s ∷ ts) h = h
halted_value a o (number s ∷ ts) h = absurd h
halted_value a o (boolean v ∷ ts) h = absurd h
halted_value a o (null ∷ ts) h = absurd h
halted_value a o (bad ∷ ts) h = tt

halted_end : (ts : List Token) → Halts ts → after_end_array ts ≡ None
halted_end [] h = absurd h
halted_end (begin_object ∷ ts) h = absurd h
halted_end (end_object ∷ ts) h = absurd h
halted_end (begin_array ∷ ts) h = absurd h
halted_end (end_array ∷ ts) h = absurd h
halted_end (key s ∷ ts) h = absurd h
halted_end (string s ∷ ts) h = refl
halted_end (number s ∷ ts) h = absurd h
halted_end (boolean v ∷ ts) h = absurd h
halted_end (null ∷ ts) h = absurd h
halted_end (bad ∷ ts) h = refl

halted_key : (ts : List Token) → Halts ts → read_key ts ≡ None
halted_key [] h = absurd h
halted_key (begin_object ∷ ts) h = absurd h
halted_key (end_object ∷ ts) h = absurd h
halted_key (begin_array ∷ ts) h = absurd h
halted_key (end_array ∷ ts) h = absurd h
halted_key (key s ∷ ts) h = absurd h
halted_key (string s ∷ ts) h = refl
halted_key (number s ∷ ts) h = absurd h
halted_key (boolean v ∷ ts) h = absurd h
halted_key (null ∷ ts) h = absurd h
halted_key (bad ∷ ts) h = refl

abbrev Ends : Option (List Token) → Option (List Token) → Type 0
Ends None None = ⊤
Ends None (Some s) = ⊥
Ends (Some r) None = ⊥
Ends (Some r) (Some s) = Matches r s

end_one : (t : Token) (ts us : List Token) → Matches ts us → Ends (after_end_array (t ∷ ts)) (after_end_array (t ∷ us))
end_one begin_object ts us h = tt
end_one end_object ts us h = tt
end_one begin_array ts us h = tt
end_one end_array ts us h = h
end_one (key s) ts us h = tt
end_one (string s) ts us h = tt
end_one (number s) ts us h = tt
end_one (boolean v) ts us h = tt
end_one null ts us h = tt
end_one bad ts us h = tt

ends : (ts us : List Token) → Matches ts us → Ends (after_end_array ts) (after_end_array us)
ends [] [] h = tt
ends [] (u ∷ us) h = absurd h
ends (t ∷ ts) [] h = absurd h
ends (t ∷ ts) (u ∷ us) (inl h) = subst (λ (o : Option (List Token)). Ends o (after_end_array (u ∷ us)))
    (sym (halted_end (t ∷ ts) h.0)) (subst (λ (o : Option (List Token)). Ends None o)
    (sym (halted_end (u ∷ us) h.1)) tt)
ends (t ∷ ts) (u ∷ us) (inr (inl e, h)) = subst (λ (x : Token). Ends (after_end_array (t ∷ ts)) (after_end_array (x ∷ us))) e (end_one t ts us h)
ends (t ∷ ts) (u ∷ us) (inr (inr r, h)) =
    subst (λ (x : Token). Ends (after_end_array (x ∷ ts)) (after_end_array (u ∷ us))) (sym r.1)
    (subst (λ (x : Token). Ends None (after_end_array (x ∷ us))) (sym r.2) tt)

abbrev Keys : Option (Option (List ℕ) × List Token) → Option (Option (List ℕ) × List Token) → Type 0
Keys None None = ⊤
Keys None (Some q) = ⊥
Keys (Some p) None = ⊥
Keys (Some p) (Some q) = (p.0 ≡ q.0) × Matches p.1 q.1

key_one : (t : Token) (ts us : List Token) → Matches ts us → Keys (read_key (t ∷ ts)) (read_key (t ∷ us))
key_one begin_object ts us h = tt
key_one end_object ts us h = (refl, h)
key_one begin_array ts us h = tt
key_one end_array ts us h = tt
key_one (key s) ts us h = (refl, h)
key_one (string s) ts us h = tt
key_one (number s) ts us h = tt
key_one (boolean v) ts us h = tt
key_one null ts us h = tt
key_one bad ts us h = tt

keys : (ts us : List Token) → Matches ts us → Keys (read_key ts) (read_key us)
keys [] [] h = tt
keys [] (u ∷ us) h = absurd h
keys (t ∷ ts) [] h = absurd h
keys (t ∷ ts) (u ∷ us) (inl h) =
    subst (λ (o : Option (Option (List ℕ) × List Token)). Keys o (read_key (u ∷ us))) (sym (halted_key (t ∷ ts) h.0))
    (subst (λ (o : Option (Option (List ℕ) × List Token)). Keys None o) (sym (halted_key (u ∷ us) h.1)) tt)
keys (t ∷ ts) (u ∷ us) (inr (inl e, h)) = subst (λ (x : Token). Keys (read_key (t ∷ ts)) (read_key (x ∷ us))) e (key_one t ts us h)
keys (t ∷ ts) (u ∷ us) (inr (inr r, h)) = subst (λ (x : Token). Keys (read_key (x ∷ ts)) (read_key (u ∷ us))) (sym r.1)
    (subst (λ (x : Token). Keys None (read_key (x ∷ us))) (sym r.2) tt)

-- ---- lists and objects

abbrev named : Option (List ℕ) → List Token → Option (Option (List ℕ) × List Token)
named k ts = Some (k, ts)

Shorter : Parse Json → Type 0
Shorter p = (ts : List Token) (q : Json × List Token) → p ts ≡ Some q → length q.1 < length ts

module _ (p : Parse Json) (never : Refuses p) (shorter : Shorter p) (rel : (ts us : List Token) → Matches ts us → Rel RJ (p ts) (p us)) where
  item_turn : (more again : Parse Items) → Refuses more → Refuses again → (ts us : List Token)
      → ((q r : Json × List Token) → p ts ≡ Some q → p us ≡ Some r → Matches q.1 r.1 → Rel RI (more q.1) (again r.1))
      → Rel RJ (p ts) (p us) → (o e : Option (List Token)) → Ends o e → Rel RI (items_step p more ts o) (items_step p again us e)
  item_turn more again x y ts us later h None None m = then_rel RI json.item json.item (λ j k a b r s. ap₂ data_item r s) more again x y (p ts) (p us) later h
  item_turn more again x y ts us later h None (Some s) m = absurd m
  item_turn more again x y ts us later h (Some r) None m = absurd m
  item_turn more again x y ts us later h (Some r) (Some s) m = inr (refl, m)

  member_turn : (more again : Parse Members) → Refuses more → Refuses again
      → (o e : Option (Option (List ℕ) × List Token)) → Keys o e
      → ((k : Option (List ℕ)) (ts us : List Token) → o ≡ named k ts → e ≡ named k us → (q r : Json × List Token)
      → p ts ≡ Some q → p us ≡ Some r → Matches q.1 r.1 → Rel RM (more q.1) (again r.1))
      → Rel RM (option_and_then (λ q. members_step p more q.0 q.1) o) (option_and_then (λ q. members_step p again q.0 q.1) e)
  member_turn more again x y None None m later = inl (tt, tt)
  member_turn more again x y None (Some r) m later = absurd m
  member_turn more again x y (Some q) None m later = absurd m
  member_turn more again x y (Some (k, ts)) (Some (l, us)) m later = go k l m.0 later
    where
      go : (k l : Option (List ℕ)) → k ≡ l
          → ((i : Option (List ℕ)) (vs ws : List Token) → named k ts ≡ named i vs → named l us ≡ named i ws
          → (q r : Json × List Token) → p vs ≡ Some q → p ws ≡ Some r → Matches q.1 r.1
          → Rel RM (more q.1) (again r.1))
          → Rel RM (members_step p more k ts) (members_step p again l us)
      go None None e next = inr (λ found. refl, m.1)
      go None (Some b) e next = absurd (cc)
      go (Some a) None e next = absurd (cc)
      go (Some a) (Some b) e next =
          let same : a ≡ b = cc in
          then_rel RM (json.member a) (json.member b)
          (λ j i c d r s found. s (put a (data_of j) found)
          ∙ ap₂ (λ (k : List ℕ) (v : Data). members_data d (put k v found)) same r) more again x y (p ts) (p us)
          (next (Some a) ts us refl (ap (λ (k : List ℕ). named (Some k) us) (sym same))) (rel ts us m.1)

  empty_items : (n : ℕ) → p [] ≡ None → items p n [] ≡ None
  unfolding items
  empty_items zero e = refl
  empty_items (suc n) e = ap (option_and_then (λ (q : Json × List Token). parse_map (json.item q.0) (items p n q.1))) e

  empty_members : (n : ℕ) → members p n [] ≡ None
  unfolding members
  empty_members zero = refl
  empty_members (suc n) = refl

  items_rel : (n m : ℕ) (ts us : List Token) → p [] ≡ None → length ts ≤ n → length us ≤ m → Matches ts us → Rel RI (items p n ts) (items p m us)
  unfolding items Shorter
  items_rel n m [] [] e x y h = inl (none_stops _ (empty_items n e), none_stops _ (empty_items m e))
  items_rel n m [] (u ∷ us) e x y h = absurd h
  items_rel n m (t ∷ ts) [] e x y h = absurd h
  items_rel zero m (t ∷ ts) (u ∷ us) e x y h = absurd (omega arith)
  items_rel (suc n) zero (t ∷ ts) (u ∷ us) e x y h = absurd (omega arith)
  items_rel (suc n) (suc m) (t ∷ ts) (u ∷ us) e x y h =
      item_turn (items p n) (items p m) (refuses_items p never n) (refuses_items p never m) (t ∷ ts) (u ∷ us)
      (λ q r is it k. let less = shorter (t ∷ ts) q is in let fewer = shorter (u ∷ us) r it in
      items_rel n m q.1 r.1 e (omega (arith, less)) (omega (arith, fewer)) k)
      (rel (t ∷ ts) (u ∷ us) h) (after_end_array (t ∷ ts)) (after_end_array (u ∷ us)) (ends (t ∷ ts) (u ∷ us) h)

  members_rel : (n m : ℕ) (ts us : List Token) → length ts ≤ n → length us ≤ m → Matches ts us → Rel RM (members p n ts) (members p m us)
  unfolding members Shorter
  members_rel n m [] [] x y h = inl (none_stops _ (empty_members n), none_stops _ (empty_members m))
  members_rel n m [] (u ∷ us) x y h = absurd h
  members_rel n m (t ∷ ts) [] x y h = absurd h
  members_rel zero m (t ∷ ts) (u ∷ us) x y h = absurd (omega arith)
  members_rel (suc n) zero (t ∷ ts) (u ∷ us) x y h = absurd (omega arith)
  members_rel (suc n) (suc m) (t ∷ ts) (u ∷ us) x y h =
      member_turn (members p n) (members p m) (refuses_members p never n) (refuses_members p never m)
      (read_key (t ∷ ts)) (read_key (u ∷ us)) (keys (t ∷ ts) (u ∷ us) h)
      (λ k vs ws a b q r is it j.
      let less = shorter vs q is in let fewer = shorter ws r it in let once = read_key-shorter (t ∷ ts) k vs a in
      let again = read_key-shorter (u ∷ us) k ws b in
      members_rel n m q.1 r.1 (omega (arith, less, once)) (omega (arith, fewer, again)) j)

-- ---- values

module _ (a b : Parse Items) (o e : Parse Members) (lists : (ts us : List Token) → Matches ts us → Rel RI (a ts) (b us))
    (objects : (ts us : List Token) → Matches ts us → Rel RM (o ts) (e us)) where
  value_one : (t : Token) (ts us : List Token) → Matches ts us → Rel RJ (value_with a o (t ∷ ts)) (value_with b e (t ∷ us))
  value_one begin_object ts us h = mapped RM RJ json.object json.object (λ j k r. ap data_object (r no_members)) (o ts) (e us) (objects ts us h)
  value_one end_object ts us h = inl (tt, tt)
  value_one begin_array ts us h = mapped RI RJ json.array json.array (λ j k r. ap data_array r) (a ts) (b us) (lists ts us h)
  value_one end_array ts us h = inl (tt, tt)
  value_one (key s) ts us h = inl (tt, tt)
  value_one (string s) ts us h = inr (refl, h)
  value_one (number s) ts us h = inr (refl, h)
  value_one (boolean v) ts us h = inr (refl, h)
  value_one null ts us h = inr (refl, h)
  value_one bad ts us h = inl (tt, tt)

  value_rel : (ts us : List Token) → Matches ts us → Rel RJ (value_with a o ts) (value_with b e us)
  value_rel [] [] h = inl (tt, tt)
  value_rel [] (u ∷ us) h = absurd h
  value_rel (t ∷ ts) [] h = absurd h
  value_rel (t ∷ ts) (u ∷ us) (inl h) = inl (halted_value a o (t ∷ ts) h.0, halted_value b e (u ∷ us) h.1)
  value_rel (t ∷ ts) (u ∷ us) (inr (inl x, h)) = subst (λ (v : Token). Rel RJ (value_with a o (t ∷ ts)) (value_with b e (v ∷ us))) x (value_one t ts us h)
  value_rel (t ∷ ts) (u ∷ us) (inr (inr r, h)) =
      subst (λ (v : Token). Rel RJ (value_with a o (v ∷ ts)) (value_with b e (u ∷ us))) (sym r.1)
      (subst (λ (v : Token). Rel RJ (Some (json.number r.0, ts)) (value_with b e (v ∷ us))) (sym r.2) (inr (refl, h)))

value_shorter : (d : ℕ) → Shorter (value d)
unfolding Shorter
value_shorter d ts q e = skip_value-shorter d ts q.1 (ap left e)

value_empty : (d : ℕ) → value d [] ≡ None
unfolding value
value_empty zero = refl
value_empty (suc d) = refl

values : (d : ℕ) (ts us : List Token) → Matches ts us → Rel RJ (value d ts) (value d us)
unfolding value
values zero = value_rel (λ ts. None) (λ ts. None) (λ ts. None) (λ ts. None) (λ ts us h. inl (tt, tt)) (λ ts us h. inl (tt, tt))
values (suc d) =
    value_rel (λ ts. items (value d) (length ts) ts) (λ ts. items (value d) (length ts) ts)
    (λ ts. members (value d) (length ts) ts) (λ ts. members (value d) (length ts) ts)
    (λ ts us h. items_rel (value d) (refuses_value d) (value_shorter d) (values d) (length ts) (length us) ts us
    (value_empty d) (omega arith) (omega arith) h)
    (λ ts us h. members_rel (value d) (refuses_value d) (value_shorter d) (values d) (length ts) (length us) ts us
    (omega arith) (omega arith) h)

-- ---- the whole

whole_stops : (o : Option (Json × List Token)) → StopsO o → whole o ≡ None
whole_stops None h = refl
whole_stops (Some (j, [])) h = absurd h
whole_stops (Some (j, t ∷ ts)) h = refl

whole_rel : (o p : Option (Json × List Token)) → Rel RJ o p → option_map data_of (whole o) ≡ option_map data_of (whole p)
whole_rel o p (inl h) = ap (option_map data_of) (whole_stops o h.0 ∙ sym (whole_stops p h.1))
whole_rel None p (inr h) = absurd h
whole_rel (Some q) None (inr h) = absurd h
whole_rel (Some (j, [])) (Some (k, [])) (inr h) = ap Some h.0
whole_rel (Some (j, [])) (Some (k, u ∷ us)) (inr h) = absurd h.1
whole_rel (Some (j, t ∷ ts)) (Some (k, [])) (inr h) = absurd h.1
whole_rel (Some (j, t ∷ ts)) (Some (k, u ∷ us)) (inr h) = refl

pub same_data : (d : ℕ) (ts us : List Token) → Matches ts us → option_map data_of (whole (value d ts)) ≡ option_map data_of (whole (value d us))
same_data d ts us h = whole_rel (value d ts) (value d us) (values d ts us h)
