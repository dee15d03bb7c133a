-- The values of the fields of a name, one field after the other.
use Rattle.std.proofs.Common.{◌≡◌, ◌<◌, ◌+◌, ◌++◌, length, take, get_or, ◌∷◌, ℕ, List, [], Bool, true, false, map, append-nil, refl, sym, ap, ◌∙◌, cond}
use Rattle.std.specs.Prelude.{filter}
use Rattle.std.proofs.lemmas.List.{map-append, take_more}
use Rattle.httparse.specs.declared.borrowed.Header.{Header}
use Rattle.httparse.specs.Borrowed.{header_parts}
use Rattle.std.specs.Str.{str_eq_ignore_ascii_case}
use Rattle.siri_http.specs.Bodies.{Named, values}
use Rattle.siri_http.specs.inner.Found.{Count, count_of, one_more}

counted : (vs : List (List ℕ)) (v : List ℕ) → one_more (count_of vs) v ≡ count_of (vs ++ v ∷ [])
counted [] v = refl
counted (a ∷ []) v = refl
counted (a ∷ b ∷ vs) v = refl

abbrev value_if : (same : Bool) (v : List ℕ) (vs : List (List ℕ)) → List (List ℕ)
value_if same v vs = cond same (v ∷ vs) vs

values_cons : (name : List ℕ) (f : Named) (fs : List Named) → values name (f ∷ fs) ≡ value_if (str_eq_ignore_ascii_case f.0 name) f.1 (values name fs)
unfolding values
values_cons name f fs = choose (str_eq_ignore_ascii_case f.0 name)
  where
    choose : (t : Bool) → map (λ (g : Named). g.1)
        (cond t (f ∷ filter (λ g. str_eq_ignore_ascii_case g.0 name) fs)
        (filter (λ g. str_eq_ignore_ascii_case g.0 name) fs)) ≡ value_if t f.1
        (map (λ g. g.1) (filter (λ g. str_eq_ignore_ascii_case g.0 name) fs))
    choose true = refl
    choose false = refl

values_none : (name : List ℕ) → values name [] ≡ []
unfolding values
values_none name = refl

values_end : (name : List ℕ) (fs : List Named) (f : Named) → values name (fs ++ f ∷ []) ≡ values name fs ++ value_if (str_eq_ignore_ascii_case f.0 name) f.1 []
values_end name [] f = values_cons name f [] ∙ ap (value_if (str_eq_ignore_ascii_case f.0 name) f.1) (values_none name)
    ∙ sym (ap (λ l. l ++ value_if (str_eq_ignore_ascii_case f.0 name) f.1 []) (values_none name))
values_end name (g ∷ fs) f =
    values_cons name g (fs ++ f ∷ []) ∙ ap (value_if (str_eq_ignore_ascii_case g.0 name) g.1) (values_end name fs f)
    ∙ moved (str_eq_ignore_ascii_case g.0 name) ∙ sym
    (ap (λ l. l ++ value_if (str_eq_ignore_ascii_case f.0 name) f.1 []) (values_cons name g fs))
  where
    moved : (t : Bool) → value_if t g.1 (values name fs ++ value_if
        (str_eq_ignore_ascii_case f.0 name) f.1 []) ≡ value_if t g.1 (values name fs)
        ++ value_if (str_eq_ignore_ascii_case f.0 name) f.1 []
    moved true = refl
    moved false = refl

-- a field of that name
pub one_named : (name : List ℕ) (fs : List Named) (f : Named) (found : Count) → found ≡ count_of (values name fs)
    → str_eq_ignore_ascii_case f.0 name ≡ true → one_more found f.1 ≡ count_of (values name (fs ++ f ∷ []))
one_named name fs f found e same =
    ap (λ c. one_more c f.1) e ∙ counted (values name fs) f.1 ∙ sym (ap count_of (values_end name fs f ∙ ap (λ t. values name fs ++ value_if t f.1 []) same))

-- a field of another name
pub other_named : (name : List ℕ) (fs : List Named) (f : Named) (found : Count) → found ≡ count_of (values name fs)
    → str_eq_ignore_ascii_case f.0 name ≡ false → found ≡ count_of (values name (fs ++ f ∷ []))
other_named name fs f found e other =
    e ∙ sym (ap count_of (values_end name fs f ∙ ap (λ t. values name fs ++ value_if t f.1 []) other ∙ append-nil (values name fs)))

-- no field yet
pub none_named : (name : List ℕ) → count_of (values name []) ≡ count_of []
none_named name = ap count_of (values_none name)

-- the same at a place of a list of fields
module _ (name : List ℕ) (headers : List Header) (i : ℕ) (d : Header) (found : Count) (h : i < length headers)
    (e : found ≡ count_of (values name (map header_parts (take i headers)))) where
  next_is : map header_parts (take (i + 1) headers) ≡ map header_parts (take i headers) ++ header_parts (get_or headers i d) ∷ []
  next_is = ap (map header_parts) (take_more headers i d h) ∙ map-append header_parts (take i headers) (get_or headers i d ∷ [])

  pub one_at : str_eq_ignore_ascii_case (get_or headers i d).name.now name ≡ true
      → one_more found (get_or headers i d).value.now ≡ count_of (values name (map header_parts (take (i + 1) headers)))
  one_at same = one_named name (map header_parts (take i headers)) (header_parts (get_or headers i d)) found e same
      ∙ ap (λ l. count_of (values name l)) (sym next_is)

  pub other_at : str_eq_ignore_ascii_case (get_or headers i d).name.now name ≡ false → found ≡ count_of (values name (map header_parts (take (i + 1) headers)))
  other_at other = other_named name (map header_parts (take i headers))
      (header_parts (get_or headers i d)) found e other ∙ ap (λ l. count_of (values name l)) (sym next_is)
