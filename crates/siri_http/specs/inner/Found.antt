-- Inner words: the fields of a name, as far as they are told apart.
use Rattle.std.specs.Prelude.{ℕ, List, [], ◌∷◌}
use Rattle.siri_http.specs.declared.fields.Values.{Values}
use Rattle.siri_http.specs.declared.fields.Values.TheVariants as named

-- none, one with its value, or several
pub data Count : Type 0 where
  none several : Count
  one : List ℕ → Count

-- how many values there are
abbrev pub count_of : List (List ℕ) → Count
count_of [] = none
count_of (value ∷ []) = one value
count_of (first ∷ second ∷ more) = several

-- what was found
abbrev pub values_of : Values → Count
values_of named.Nowhere = none
values_of (named.Once value) = one value.now
values_of named.Twice = several

-- one value more
abbrev pub one_more : Count → List ℕ → Count
one_more none value = one value
one_more several value = several
one_more (one first) value = several
