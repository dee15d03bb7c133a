-- Subscriptions at their places, one more each time.
use Rattle.std.proofs.Common.{◌≡◌, ◌≤◌, ◌+◌, ℕ, zero, suc, List, [], ◌∷◌, ◌++◌, length, map, take, flat_map, None, Some, option_map, refl, sym, ap, ◌∙◌, add-one, arith, append_assoc}
use Rattle.std.specs.List.{slice_get, zip}
use Rattle.std.proofs.Math.Seq.{take-length}
use Rattle.std.proofs.lemmas.List.Concat.{flat_map-append}
use Rattle.std.proofs.lemmas.List.FromFn.{length-map-range_with_len, map-range_with_len_more}
use Rattle.siri_subs.specs.declared.entry.Row.{Row}
use Rattle.siri_model.specs.Held.{Held, held_of}
use Rattle.siri_model.specs.Rows.{KeptLife}
use Rattle.siri_row_texts.specs.SubscriptionRows.{place_text}
use Rattle.siri_outside.specs.declared.rows.Put.{Put}
use Rattle.siri_keeping.specs.Keeping.{kept_at, places_to}

places_more : (n : ℕ) → places_to (n + 1) ≡ places_to n ++ place_text (n + 1) ∷ []
places_more n = map-range_with_len_more place_text 1 n (n + 1) (omega arith)

zip_more : {K X : Type 0} (ks : List K) (xs : List X) (k : K) (x : X) → length ks ≡ length xs
    → zip (ks ++ k ∷ []) (xs ++ x ∷ []) ≡ zip ks xs ++ (k, x) ∷ []
zip_more [] [] k x same = refl
zip_more [] (y ∷ xs) k x same = absurd (omega (arith, same))
zip_more (j ∷ ks) [] k x same = absurd (omega (arith, same))
zip_more (j ∷ ks) (y ∷ xs) k x same = ap (λ all. (j, y) ∷ all) (zip_more ks xs k x (omega (arith, same)))

held_next : (table : List (Row KeptLife)) (at : ℕ) (held : Held) → Some held ≡ option_map held_of (slice_get table at)
    → map held_of (take (suc at) table) ≡ map held_of (take at table) ++ held ∷ []
held_next [] at held is = cc
held_next (row ∷ table) zero held is = let same : held_of row ≡ held = cc in ap (λ h. h ∷ []) same
held_next (row ∷ table) (suc at) held is = ap (λ all. held_of row ∷ all) (held_next table at held is)

held_more : (table : List (Row KeptLife)) (at : ℕ) (held : Held) → Some held ≡ option_map held_of (slice_get table at)
    → map held_of (take (at + 1) table) ≡ map held_of (take at table) ++ held ∷ []
held_more table at held is = ap (λ n. map held_of (take n table)) (add-one at) ∙ held_next table at held is

held_long : (table : List (Row KeptLife)) (at : ℕ) (held : Held) → Some held ≡ option_map held_of (slice_get table at)
    → length (map held_of (take at table)) ≡ at
held_long [] at held is = cc
held_long (row ∷ table) zero held is = refl
held_long (row ∷ table) (suc at) held is = ap suc (held_long table at held is)

-- where there is none at a place there is none from there on
pub no_more : (table : List (Row KeptLife)) (at : ℕ) → None ≡ option_map held_of (slice_get table at) → length table ≤ at
no_more [] at is = omega arith
no_more (row ∷ table) zero is = cc
no_more (row ∷ table) (suc at) is = let rest = no_more table at is in omega (arith, rest)

-- the places that were given, one more each time
pub places_step : (places now : List (List ℕ)) (at : ℕ) (place : List ℕ) → places ≡ places_to at → place ≡ place_text (at + 1)
    → now ≡ places ++ place ∷ [] → now ≡ places_to (at + 1)
places_step places now at place before text is =
    is ∙ ap (λ all. all ++ place ∷ []) before ∙ ap (λ one. places_to at ++ one ∷ []) text ∙ sym (places_more at)

-- the puts of those before a place
abbrev pub puts_before : ℕ → List (Row KeptLife) → List Put
puts_before at table = flat_map kept_at (zip (places_to at) (map held_of (take at table)))

puts_more : (table : List (Row KeptLife)) (at : ℕ) (held : Held) → Some held ≡ option_map held_of (slice_get table at)
    → puts_before (at + 1) table ≡ puts_before at table ++ kept_at (place_text (at + 1), held)
puts_more table at held is =
    ap (λ places. flat_map kept_at (zip places (map held_of (take (at + 1) table)))) (places_more at)
    ∙ ap (λ helds. flat_map kept_at (zip (places_to at ++ place_text (at + 1) ∷ []) helds)) (held_more table at held is)
    ∙ ap (flat_map kept_at) (zip_more (places_to at) (map held_of (take at table)) (place_text (at + 1)) held
    (length-map-range_with_len place_text 1 at ∙ sym (held_long table at held is)))
    ∙ flat_map-append kept_at (zip (places_to at) (map held_of (take at table))) ((place_text (at + 1), held) ∷ [])

pub puts_step : (into before now : List Put) (table : List (Row KeptLife)) (at : ℕ) (held : Held) (place : List ℕ)
    → Some held ≡ option_map held_of (slice_get table at) → place ≡ place_text (at + 1)
    → before ≡ into ++ puts_before at table → now ≡ before ++ kept_at (place, held) → now ≡ into ++ puts_before (at + 1) table
puts_step into before now table at held place there text so_far is =
    is ∙ ap (λ all. all ++ kept_at (place, held)) so_far
    ∙ ap (λ one. (into ++ puts_before at table) ++ kept_at (one, held)) text
    ∙ append_assoc into (puts_before at table) (kept_at (place_text (at + 1), held))
    ∙ ap (λ all. into ++ all) (sym (puts_more table at held there))

-- the puts of all
pub puts_whole : (into now : List Put) (table : List (Row KeptLife)) (at : ℕ) → at ≡ length table → now ≡ into ++ puts_before at table
    → now ≡ into ++ flat_map kept_at (zip (places_to (length table)) (map held_of table))
puts_whole into now table at end is =
    is ∙ ap (λ n. into ++ puts_before n table) end
    ∙ ap (λ rows. into ++ flat_map kept_at (zip (places_to (length table)) (map held_of rows))) (take-length table)
