-- Parts as a message carries them.
use Rattle.std.proofs.Common.{◌≡◌, ℕ, zero, suc, ◌+◌, ◌*◌, ◌<◌, ◌≤◌, List, [], ◌∷◌, ◌++◌, length, map, filter, fold, take, drop, Bool, true}
use Rattle.std.proofs.Common.{not, Some, None, slice_get, option_map, refl, ap, sym, ◌∙◌, arith}
use Rattle.std.specs.List.{AllByRecursion, filter_map, flat_map, list_all, range_with_len}
use Rattle.std.specs.Map.{keys_of}
use Rattle.std.proofs.lemmas.Bool.{and_parts, and_from}
use Rattle.std.proofs.lemmas.List.{length-take}
use Rattle.std.proofs.lemmas.Option.{slice_get-map}
use Rattle.siri_records.specs.declared.key.Key.{Key}
use Rattle.siri_records.specs.Keys.{key_of}
use Rattle.siri_records.specs.Keyed.{Items, InOrder, KeyChange, apply}
use Rattle.siri_change.specs.Views.{is_keyed, is_view, is_keyed_change, are_keyed}
use Rattle.siri_change.specs.Parts.{load, base_view, part_after, parts_count, parts_of, has_item, as_sent, apply_parts, carried, changes_in, apply_carried}
use Rattle.siri_change.proofs.Leads.{tied, one_key}
use Rattle.siri_change.proofs.InParts.{applied_append, load_leads, load_few, length_map, some_part}
use Rattle.siri_change.proofs.Viewed.{load_keyed, view_parts}

-- ---- the parts of a list

from_range : (from n place : ℕ) → place < n → slice_get (range_with_len from n) place ≡ Some (from + place)
from_range from zero place lt = absurd (omega (arith, lt))
from_range from (suc n) zero lt = let e : from ≡ from + 0 = omega arith in ap Some e
from_range from (suc n) (suc place) lt =
    let e : (from + 1) + place ≡ from + suc place = omega arith in
    from_range (from + 1) n place (omega (arith, lt)) ∙ ap Some e

pub each_part : {A : Type 0} (list : List A) (place : ℕ) → place < parts_count list → slice_get (parts_of list) place ≡ Some (part_after list place)
each_part list place lt =
    let e : 0 + place ≡ place = omega arith in
    slice_get-map (part_after list) (range_with_len 0 (parts_count list)) place
    ∙ ap (option_map (part_after list)) (from_range 0 (parts_count list) place lt ∙ ap Some e)

pub most_of_part : {A : Type 0} (list : List A) (place : ℕ) → length (part_after list place) ≤ 100
most_of_part list place = omega (arith, length-take 100 (drop (100 * place) list))

-- ---- parts one after the other

pub made_as_one : {P : Type 0} (changes_of : P → List KeyChange) (a : Items) (parts : List P)
    → fold (λ so_far part. apply so_far (changes_of part)) a parts ≡ apply a (flat_map changes_of parts)
made_as_one changes_of a [] = refl
made_as_one changes_of a (p ∷ parts) = made_as_one changes_of (apply a (changes_of p)) parts ∙ sym (applied_append a (changes_of p) (flat_map changes_of parts))

-- ---- what is carried is the part

items_back : (part : List KeyChange) → are_keyed part ≡ true
    → map (λ item. (key_of item, Some item)) (filter_map (λ (c : KeyChange). c.1) part) ≡ filter has_item part
items_back [] keyed = refl
items_back ((k, Some x) ∷ part) keyed =
    let parts = and_parts (tied (key_of x) k) (are_keyed part) keyed in
    λ i. (one_key (key_of x) k parts.0 i, Some x) ∷ items_back part parts.1 i
items_back ((k, None) ∷ part) keyed = items_back part keyed

removals_back : (part : List KeyChange) → map (λ (key : Key). (key, None)) (keys_of (filter (λ c. not (has_item c)) part)) ≡ filter (λ c. not (has_item c)) part
removals_back [] = refl
removals_back ((k, Some x) ∷ part) = removals_back part
removals_back ((k, None) ∷ part) = ap (λ l. (k, None) ∷ l) (removals_back part)

pub carried_part : (part : List KeyChange) → are_keyed part ≡ true → changes_in (carried part) ≡ as_sent part
carried_part part keyed = λ i. items_back part keyed i ++ removals_back part i

-- ---- of all parts

all_dropped : {A : Type 0} (p : A → Bool) (n : ℕ) (xs : List A) → list_all p xs ≡ true → list_all p (drop n xs) ≡ true
all_dropped p zero xs t = t
all_dropped p (suc n) [] t = refl
all_dropped p (suc n) (x ∷ xs) t = all_dropped p n xs ((and_parts (p x) (list_all p xs) t).1)

all_taken : {A : Type 0} (p : A → Bool) (n : ℕ) (xs : List A) → list_all p xs ≡ true → list_all p (take n xs) ≡ true
all_taken p zero xs t = refl
all_taken p (suc n) [] t = refl
all_taken p (suc n) (x ∷ xs) t =
    let parts = and_parts (p x) (list_all p xs) t in
    and_from (p x) (list_all p (take n xs)) parts.0 (all_taken p n xs parts.1)

parts_keyed : (list : List KeyChange) (from n : ℕ) → are_keyed list ≡ true
    → AllByRecursion (λ part. are_keyed part ≡ true) (map (part_after list) (range_with_len from n))
parts_keyed list from zero keyed = tt
parts_keyed list from (suc n) keyed =
    (all_taken is_keyed_change 100 (drop (100 * from) list) (all_dropped is_keyed_change (100 * from) list keyed), parts_keyed list (from + 1) n keyed)

carried_parts : (a : Items) (parts : List (List KeyChange)) → AllByRecursion (λ part. are_keyed part ≡ true) parts
    → apply_carried a (map carried parts) ≡ apply_parts a parts
carried_parts a [] keyed = refl
carried_parts a (p ∷ parts) keyed =
    ap (λ cs. apply_carried (apply a cs) (map carried parts)) (carried_part p keyed.0) ∙ carried_parts (apply a (as_sent p)) parts keyed.1

pub carried_leads : (a t : Items) (incremental : Bool) → InOrder a → InOrder t → is_keyed t ≡ true
    → apply_carried (base_view a incremental) (map carried (parts_of (load a t incremental))) ≡ t
carried_leads a t incremental s r keyed =
    let list = load a t incremental in
    carried_parts (base_view a incremental) (parts_of list) (parts_keyed list 0 (parts_count list) (load_keyed a t incremental keyed))
    ∙ load_leads a t incremental s r

pub carried_views_lead : (a t : Items) (incremental : Bool) → is_view a ≡ true → is_view t ≡ true
    → apply_carried (base_view a incremental) (map carried (parts_of (load a t incremental))) ≡ t
carried_views_lead a t incremental s r =
    let before = view_parts a s in
    let after = view_parts t r in
    carried_leads a t incremental before.ordered after.ordered after.keyed

pub carried_some : (a t : Items) (incremental : Bool) → 0 < length (map carried (parts_of (load a t incremental)))
carried_some a t incremental = omega (arith, length_map carried (parts_of (load a t incremental)), some_part (load a t incremental))

pub carried_few : (a t : Items) (incremental : Bool) → is_view a ≡ true → is_view t ≡ true → length (map carried (parts_of (load a t incremental))) ≤ 400
carried_few a t incremental s r =
    let before = view_parts a s in
    let after = view_parts t r in
    omega (arith, length_map carried (parts_of (load a t incremental)), load_few a t incremental before.small after.small)
