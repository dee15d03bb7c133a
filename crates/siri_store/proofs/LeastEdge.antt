-- The least of some moments in a range.
use Rattle.std.proofs.Common.{◌≡◌, ℕ, Bool, true, false, ◌&&◌, ◌||◌, List, [], ◌∷◌, map, filter, fold, Some, refl, ap}
use Rattle.std.proofs.Common.{◌∙◌, sym, arith}
use Rattle.std.specs.Prelude.{ℤ, pos, not, nat_eq, nat_lt, min}
use Rattle.std.specs.List.{list_any}
use Rattle.std.specs.Option.{option_map_or}
use Rattle.std.proofs.lemmas.Bool.Decides.{nat_tests}
use Rattle.std.proofs.lemmas.Int.{ints}
use Rattle.std.proofs.lemmas.Map.Views.{any-filter_same}
use Rattle.siri_records.specs.Edges.{is_within}
use Rattle.siri_records.specs.Ends.{earlier, least}
use Rattle.siri_store.specs.Stamped.{has}
use Rattle.siri_store.proofs.LookUps.{by_bool}

equal_numbers : (a b : ℕ) → nat_eq a b ≡ true → a ≡ b
equal_numbers a b h = grind (arith, nat_tests)

-- the least of a moment and of others
next_least : (a y q : ℕ) (h l : Bool)
    → ((nat_eq q a || (nat_eq q y || h)) && not (nat_lt a q || (nat_lt y q || l)))
    ≡ ((nat_eq q (min a y) || h) && not (nat_lt (min a y) q || l))
next_least a y q true true = grind (arith, nat_tests)
next_least a y q true false = grind (arith, nat_tests)
next_least a y q false true = grind (arith, nat_tests)
next_least a y q false false = grind (arith, nat_tests)

one_least : (a q : ℕ) → ((nat_eq q a || false) && not (nat_lt a q || false)) ≡ nat_eq q a
one_least a q = grind (arith, nat_tests)

least_is : (q a : ℕ) (ys : List ℕ)
    → (has q (a ∷ ys) && not (list_any (λ m. nat_lt m q) (a ∷ ys)))
    ≡ nat_eq q (option_map_or (λ edge. edge) (fold earlier (Some a) (map Some ys)) 0)
least_is q a [] = one_least a q
least_is q a (y ∷ ys) = next_least a y q (has q ys) (list_any (λ m. nat_lt m q) ys) ∙ least_is q (min a y) ys

-- a moment is the least of some where it is one of them and none is smaller
found_least : (q : ℕ) (zs : List ℕ)
    → (has q zs && not (list_any (λ m. nat_lt m q) zs))
    ≡ (list_any (λ m. true) zs && nat_eq q (option_map_or (λ edge. edge) (least (map Some zs)) 0))
found_least q [] = refl
found_least q (a ∷ ys) = least_is q a ys

any_kept : (w : ℕ → Bool) (xs : List ℕ) → list_any (λ m. true) (filter w xs) ≡ list_any w xs
any_kept w [] = refl
any_kept w (x ∷ xs) = by_bool (w x) (λ h. rw h refl) (λ h. rw h (any_kept w xs))

any_both : (w t : ℕ → Bool) (xs : List ℕ) → list_any t (filter w xs) ≡ list_any (λ m. w m && t m) xs
any_both w t [] = refl
any_both w t (x ∷ xs) = by_bool (w x) (λ h. rw h (ap (λ b. t x || b) (any_both w t xs))) (λ h. rw h (any_both w t xs))

any_alike : (s t : ℕ → Bool) → ((m : ℕ) → s m ≡ t m) → (xs : List ℕ) → list_any s xs ≡ list_any t xs
any_alike s t alike [] = refl
any_alike s t alike (x ∷ xs) = λ i. alike x i || any_alike s t alike xs i

-- before a moment of the range the range is what begins where it does
before_it : (from to : ℤ) (q m : ℕ) → is_within from to q ≡ true
    → (is_within from to m && nat_lt m q) ≡ is_within from (pos q) m
before_it from to q m h = grind (arith, ints)

false_and : (a b : Bool) → a ≡ false → (a && b) ≡ false
false_and a b h = rw h refl

pub least_in_range : (from to : ℤ) (q : ℕ) (xs : List ℕ)
    → ((is_within from to q && has q xs) && not (list_any (is_within from (pos q)) xs))
    ≡ (list_any (is_within from to) xs
    && nat_eq q (option_map_or (λ edge. edge) (least (map Some (filter (is_within from to) xs))) 0))
least_in_range from to q xs =
    let w = is_within from to in
    let kept : has q (filter w xs) ≡ (w q && has q xs) =
    any-filter_same (nat_eq q) w (w q) (λ k same. ap w (sym (equal_numbers q k same))) xs in
    let least_one : (has q (filter w xs) && not (list_any (λ m. nat_lt m q) (filter w xs))) ≡
    (list_any w xs && nat_eq q (option_map_or (λ edge. edge) (least (map Some (filter w xs))) 0)) =
    found_least q (filter w xs)
    ∙ ap (λ b. b && nat_eq q (option_map_or (λ edge. edge) (least (map Some (filter w xs))) 0)) (any_kept w xs) in
    by_bool (w q)
    (λ h. (λ i. sym kept i && not
    (sym (any_both w (λ m. nat_lt m q) xs
    ∙ any_alike (λ m. w m && nat_lt m q) (is_within from (pos q)) (λ m. before_it from to q m h) xs) i))
    ∙ least_one)
    (λ h. false_and (w q && has q xs) (not (list_any (is_within from (pos q)) xs)) (false_and (w q) (has q xs) h)
    ∙ (sym (false_and (has q (filter w xs)) (not (list_any (λ m. nat_lt m q) (filter w xs)))
    (kept ∙ false_and (w q) (has q xs) h)) ∙ least_one))
