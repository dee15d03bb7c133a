-- The element of four lists that have one together.
use Rattle.std.proofs.Common.{◌≡◌, ◌+◌, List, [], ◌∷◌, ◌++◌, length, None, refl}
use Rattle.std.proofs.lemmas.List.{length-append}
use Rattle.siri_view.specs.Hearing.{only}

none_only : {A : Type 0} (l : List A) → (length l ≡ 1 → ⊥) → None ≡ only l
none_only [] other = refl
none_only (x ∷ []) other = absurd (other refl)
none_only (x ∷ y ∷ more) other = refl

pub of_four : {A : Type 0} (a b c d : List A) → (length a + length b + length c + length d ≡ 1 → ⊥)
    → None ≡ only (a ++ b ++ c ++ d)
of_four a b c d other =
    none_only (a ++ b ++ c ++ d)
    (λ one. other (rw (length-append (a ++ b ++ c) d, length-append (a ++ b) c, length-append a b) at one))

none : {A : Type 0} (l : List A) → length l ≡ 0 → l ≡ []
none [] is = refl
none (x ∷ l) is = absurd (cc)

alone : {A : Type 0} (l : List A) → only l ≡ only (l ++ [])
alone [] = refl
alone (x ∷ []) = refl
alone (x ∷ y ∷ l) = refl

with_two : {A : Type 0} (l : List A) → only l ≡ only (l ++ [] ++ [])
with_two [] = refl
with_two (x ∷ []) = refl
with_two (x ∷ y ∷ l) = refl

with_three : {A : Type 0} (l : List A) → only l ≡ only (l ++ [] ++ [] ++ [])
with_three [] = refl
with_three (x ∷ []) = refl
with_three (x ∷ y ∷ l) = refl

pub only_first : {A : Type 0} (a b c d : List A) → length b ≡ 0 → length c ≡ 0 → length d ≡ 0
    → only a ≡ only (a ++ b ++ c ++ d)
only_first a b c d is_b is_c is_d = rw (none b is_b, none c is_c, none d is_d) (with_three a)

pub only_second : {A : Type 0} (a b c d : List A) → length a ≡ 0 → length c ≡ 0 → length d ≡ 0
    → only b ≡ only (a ++ b ++ c ++ d)
only_second a b c d is_a is_c is_d = rw (none a is_a, none c is_c, none d is_d) (with_two b)

pub only_third : {A : Type 0} (a b c d : List A) → length a ≡ 0 → length b ≡ 0 → length d ≡ 0
    → only c ≡ only (a ++ b ++ c ++ d)
only_third a b c d is_a is_b is_d = rw (none a is_a, none b is_b, none d is_d) (alone c)

pub only_fourth : {A : Type 0} (a b c d : List A) → length a ≡ 0 → length b ≡ 0 → length c ≡ 0
    → only d ≡ only (a ++ b ++ c ++ d)
only_fourth a b c d is_a is_b is_c = rw (none a is_a, none b is_b, none c is_c) refl
