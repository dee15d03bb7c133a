-- The bytes of UTF-8 fit bytes.
use Rattle.std.proofs.Common.{◌≡◌, ℕ, ◌+◌, ◌/◌, ◌%◌, ◌<◌, Bool, true, false, cond, nat_lt, List, [], ◌∷◌, ◌++◌, All, refl, subst, arith}
use Rattle.std.specs.Prelude.{IsUtf8, ◌&&◌, nat_le}
use Rattle.std.specs.Char.{encode_utf8, IsScalar}
use Rattle.std.specs.List.{AllByRecursion}
use Rattle.std.specs.Str.{all_scalars, encode_utf8_all}
use Rattle.std.proofs.lemmas.Bool.{and_parts, ltb-true}
use Rattle.std.proofs.lemmas.List.Elements.{All-from_recursion}
use Rattle.percent_encoding.proofs.PercentLemmas.{IsByte}

both : (xs ys : List ℕ) → AllByRecursion IsByte xs → AllByRecursion IsByte ys → AllByRecursion IsByte (xs ++ ys)
both [] ys left right = right
both (x ∷ xs) ys left right = (left.0, both xs ys left.1 right)

scalar_small : (c : ℕ) → IsScalar c → c < 1114112
scalar_small c e = at (nat_lt c 55296) refl e
  where
    at : (b : Bool) → nat_lt c 55296 ≡ b → cond b true (nat_le 57344 c && nat_lt c 1114112) ≡ true → c < 1114112
    at true is e = let small = ltb-true c 55296 is in omega (arith, small)
    at false is e = ltb-true c 1114112 (and_parts (nat_le 57344 c) (nat_lt c 1114112) e).1

four_bytes : (c : ℕ) → c < 1114112
    → AllByRecursion IsByte ((240 + c / 262144) ∷ (128 + c / 4096 % 64) ∷ (128 + c / 64 % 64) ∷ (128 + c % 64) ∷ [])
four_bytes c small = (omega (arith, small), (omega arith, (omega arith, (omega arith, tt))))

three_bytes : (c : ℕ) → c < 65536 → AllByRecursion IsByte ((224 + c / 4096) ∷ (128 + c / 64 % 64) ∷ (128 + c % 64) ∷ [])
three_bytes c small = (omega (arith, small), (omega arith, (omega arith, tt)))

two_bytes : (c : ℕ) → c < 2048 → AllByRecursion IsByte ((192 + c / 64) ∷ (128 + c % 64) ∷ [])
two_bytes c small = (omega (arith, small), (omega arith, tt))

one_byte : (c : ℕ) → c < 128 → AllByRecursion IsByte (c ∷ [])
one_byte c small = (omega (arith, small), tt)

chosen : (b : Bool) (xs ys : List ℕ) → (b ≡ true → AllByRecursion IsByte xs) → AllByRecursion IsByte ys → AllByRecursion IsByte (cond b xs ys)
chosen true xs ys first second = first refl
chosen false xs ys first second = second

char_bytes : (c : ℕ) → c < 1114112 → AllByRecursion IsByte (encode_utf8 c)
unfolding encode_utf8
char_bytes c small =
    chosen (nat_lt c 128) _ _ (λ is. one_byte c (ltb-true c 128 is))
    (chosen (nat_lt c 2048) _ _ (λ is. two_bytes c (ltb-true c 2048 is))
    (chosen (nat_lt c 65536) _ _ (λ is. three_bytes c (ltb-true c 65536 is)) (four_bytes c small)))

chars_bytes : (cs : List ℕ) → all_scalars cs ≡ true → AllByRecursion IsByte (encode_utf8_all cs)
chars_bytes [] is = tt
chars_bytes (c ∷ cs) is =
    let parts = and_parts _ (all_scalars cs) is in
    both (encode_utf8 c) (encode_utf8_all cs) (char_bytes c (scalar_small c parts.0)) (chars_bytes cs parts.1)

pub utf8_bytes : (text : List ℕ) → IsUtf8 text → All IsByte text
utf8_bytes text is =
    subst (All IsByte) is.1.1 (All-from_recursion IsByte (encode_utf8_all is.0) (chars_bytes is.0 is.1.0))
