-- Places in 20 digits ascend as their numbers do: looked at once, for all of a table.
use Rattle.std.proofs.Common.{◌≡◌, ◌≤◌, ◌<◌, ℕ, zero, suc, ◌+◌, ◌-◌, Bool, true, false, ◌&&◌, List, [], ◌∷◌, ◌++◌, map, length, refl, sym, ap, ◌∙◌, subst, arith, length-append}
use Rattle.std.specs.Prelude.{◌^◌, replicate}
use Rattle.std.specs.Cmp.Lexicographic.{slice_cmp}
use Rattle.std.specs.Fmt.{decimal}
use Rattle.std.specs.Int.Digits.{digits_of}
use Rattle.std.specs.Char.{is_ascii_digit}
use Rattle.std.specs.List.{AllByRecursion as All, list_all, range_with_len}
use Rattle.std.specs.List.Sorted.{IsStrictlySortedBy}
use Rattle.std.specs.Ordering.{is_lt, nat_cmp}
use Rattle.std.specs.declared.cmp.Ordering.{Ordering}
use Rattle.std.specs.declared.cmp.Ordering.TheVariants.{Less, Equal, Greater}
use Rattle.std.proofs.lemmas.Cmp.{nat_list_cmp_total}
use Rattle.std.proofs.lemmas.Fmt.{decimal-digits_of}
use Rattle.std.proofs.lemmas.List.{length-replicate}
use Rattle.std.proofs.lemmas.List.Folds.{list_all-append}
use Rattle.siri_row_texts.specs.SubscriptionRows.{place_text}
use Rattle.siri_row_texts.proofs.Bounds.{decimal_within}
use Rattle.siri_row_texts.proofs.MomentRows.{decimal_digits}

pub twenty : (place : ℕ) → place < 10 ^ 18 → length (place_text place) ≡ 20
twenty place small =
    let digits = decimal_within place small in
    let byte : ℕ = 48 in
    omega (arith, length-append (replicate (20 - length (decimal place)) 48) (decimal place), length-replicate (20 - length (decimal place)) byte)

zeros : (count : ℕ) → list_all is_ascii_digit (replicate count 48) ≡ true
zeros zero = refl
zeros (suc count) = zeros count

both : (a b : Bool) → a ≡ true → b ≡ true → (a && b) ≡ true
both a b e f = rw (e, f) refl

pub place_digits : (place : ℕ) → place < 10 ^ 18 → list_all is_ascii_digit (place_text place) ≡ true
place_digits place small =
    list_all-append is_ascii_digit (replicate (20 - length (decimal place)) 48) (decimal place)
    ∙ both (list_all is_ascii_digit (replicate (20 - length (decimal place)) 48)) (list_all is_ascii_digit (decimal place))
    (zeros (20 - length (decimal place))) (decimal_digits place (omega arith))

-- the same text by its digits, which compute
abbrev digits : ℕ → List ℕ
digits place = map (λ d. 48 + d) (digits_of 10 place)

abbrev spelled : ℕ → List ℕ
spelled place = replicate (20 - length (digits place)) 48 ++ digits place

spelled_is : (place : ℕ) → 0 < place → place < 2 ^ 64 → spelled place ≡ place_text place
spelled_is place some small = ap (λ text. replicate (20 - length text) 48 ++ text) (sym (decimal-digits_of place some small))

all_spelled : (a count : ℕ) → 0 < a → a + count < 2 ^ 64 → map spelled (range_with_len a count) ≡ map place_text (range_with_len a count)
all_spelled a zero some small = refl
all_spelled a (suc count) some small =
    let first = spelled_is a some (omega arith) in
    let rest = all_spelled (a + 1) count (omega arith) (omega arith) in
    λ i. first i ∷ rest i

-- the places from a number on rise, the first one from a text
abbrev rises : List ℕ → ℕ → ℕ → Bool
rises before a zero = true
rises before a (suc count) = is_lt (slice_cmp nat_cmp before (spelled a)) && rises (spelled a) (a + 1) count

all_rise : rises [] 1 200 ≡ true
all_rise = refl

less_of : (o : Ordering) (b : Bool) → is_lt o && b ≡ true → (o ≡ Less) × (b ≡ true)
less_of Less true rise = (refl, refl)
less_of Less false rise = cc
less_of Equal b rise = cc
less_of Greater b rise = cc

-- fewer rise where more do
fewer_rise : (before : List ℕ) (a few many : ℕ) → few ≤ many → rises before a many ≡ true → rises before a few ≡ true
fewer_rise before a zero many le rise = refl
fewer_rise before a (suc few) zero le rise = absurd (omega arith)
fewer_rise before a (suc few) (suc many) le rise =
    let first = less_of (slice_cmp nat_cmp before (spelled a)) (rises (spelled a) (a + 1) many) rise in
    rw (first.0) (fewer_rise (spelled a) (a + 1) few many (omega arith) first.1)

abbrev IsAbove : List ℕ → List (List ℕ) → Type 0
IsAbove before places = All (λ place. slice_cmp nat_cmp before place ≡ Less) places

above_all : (before first : List ℕ) (places : List (List ℕ)) → slice_cmp nat_cmp before first ≡ Less → IsAbove first places → IsAbove before places
above_all before first [] less above = tt
above_all before first (place ∷ places) less above =
    (nat_list_cmp_total.trans before first place less above.0, above_all before first places less above.1)

sorted_from : (before : List ℕ) (a count : ℕ) → rises before a count ≡ true
    → IsAbove before (map spelled (range_with_len a count)) × IsStrictlySortedBy (slice_cmp nat_cmp) (map spelled (range_with_len a count))
unfolding IsStrictlySortedBy
sorted_from before a zero rise = (tt, tt)
sorted_from before a (suc count) rise =
    let first = less_of (slice_cmp nat_cmp before (spelled a)) (rises (spelled a) (a + 1) count) rise in
    let rest = sorted_from (spelled a) (a + 1) count first.1 in
    ((first.0, above_all before (spelled a) (map spelled (range_with_len (a + 1) count)) first.0 rest.0), rest)

pub places_ascend : (count : ℕ) → count ≤ 200 → IsStrictlySortedBy (slice_cmp nat_cmp) (map place_text (range_with_len 1 count))
places_ascend count le =
    subst (IsStrictlySortedBy (slice_cmp nat_cmp)) (all_spelled 1 count (omega arith) (omega arith))
    (sorted_from [] 1 count (fewer_rise [] 1 count 200 le all_rise)).1
