-- Consumers that are kept each under its name.
use Rattle.std.proofs.Common.{◌≡◌, ℕ, suc, zero, ◌+◌, List, [], ◌∷◌, ◌++◌, length, get_or, cond, not, Some, None, refl, ap, sym, ◌∙◌}
use Rattle.std.specs.Prelude.{slice_get, position, nat_lt, string_bytes, Result, Ok, Err, OnOk, OnErr}
use Rattle.std.specs.List.{slice_set, position_or_len}
use Rattle.std.specs.Map.{keys_of, lookup, values_of}
use Rattle.std.specs.Str.{bytes_eq}
use Rattle.std.specs.Prelude.{String}
use Rattle.std.specs.String.{string_eq}
use Rattle.std.proofs.lemmas.Cmp.{nat_list_eq_equiv}
use Rattle.indexmap.specs.IndexMap.{IndexMap, get, insert_entry, values}
use Rattle.indexmap.specs.Layout.{set_value_at}
use Rattle.indexmap.proofs.CallerLemmas.{insert_entry-new}
use Rattle.siri_life.specs.Named.{Name}
use Rattle.siri_view.specs.Consuming.{Consuming}
use Rattle.siri_world_model.specs.Consumers.{consumer_of, is_named}
use Rattle.siri_world.specs.Named.{AreNamed}

module _ {A : Type 0} where
  -- a key is looked up as a consumer of its name
  same_test : (q : Name) (entry : String A × Consuming) → string_bytes entry.0 ≡ entry.1.name → bytes_eq q (string_bytes entry.0) ≡ is_named q entry.1
  same_test q entry named = ap (bytes_eq q) named ∙ nat_list_eq_equiv.symm q entry.1.name

  pub found_named : (q : Name) (entries : List (String A × Consuming)) → AreNamed entries
      → lookup (λ k. bytes_eq q (string_bytes k)) entries ≡ consumer_of q (values_of entries)
  found_named q [] named = refl
  found_named q (entry ∷ entries) named = λ i. cond (same_test q entry named.0 i) (Some entry.1) (found_named q entries named.1 i)

  pub length_values : (entries : List (String A × Consuming)) → length (values_of entries) ≡ length entries
  length_values [] = refl
  length_values (entry ∷ entries) = ap suc (length_values entries)

  length_keys : (entries : List (String A × Consuming)) → length (keys_of entries) ≡ length (values_of entries)
  length_keys [] = refl
  length_keys (entry ∷ entries) = ap suc (length_keys entries)

  first_named : (q : Name) (entries : List (String A × Consuming)) → AreNamed entries
      → position_or_len (λ k. bytes_eq q (string_bytes k)) (keys_of entries) ≡ position_or_len (is_named q)
      (values_of entries)
  first_named q [] named = refl
  first_named q (entry ∷ entries) named = λ i. cond (not (same_test q entry named.0 i)) (1 + first_named q entries named.1 i) 0

  -- it stands where the first consumer of its name does
  pub placed_named : (q : Name) (entries : List (String A × Consuming)) → AreNamed entries
      → position (λ k. bytes_eq q (string_bytes k)) (keys_of entries) ≡ position (is_named q) (values_of entries)
  placed_named q entries named = λ i. cond (nat_lt (first_named q entries named i) (length_keys entries i)) (Some (first_named q entries named i)) None

  -- a write at a place
  pub values_set : (entries : List (String A × Consuming)) (place : ℕ) (c : Consuming)
      → values_of (set_value_at entries place c) ≡ slice_set (values_of entries) place c
  values_set [] place c = refl
  values_set (entry ∷ entries) zero c = refl
  values_set (entry ∷ entries) (suc place) c = ap (λ l. entry.1 ∷ l) (values_set entries place c)

  pub named_set : (entries : List (String A × Consuming)) (place : ℕ) (before c : Consuming)
      → slice_get (values_of entries) place ≡ Some before → c.name ≡ before.name → AreNamed entries
      → AreNamed (set_value_at entries place c)
  named_set [] place before c at same named = tt
  named_set (entry ∷ entries) zero before c at same named =
      let there : entry.1 ≡ before = cc at in
      (named.0 ∙ ap (λ (d : Consuming). d.name) there ∙ sym same, named.1)
  named_set (entry ∷ entries) (suc place) before c at same named = (named.0, named_set entries place before c at same named.1)

  -- one more
  pub named_more : (entries : List (String A × Consuming)) (key : String A) (c : Consuming) → AreNamed entries
      → string_bytes key ≡ c.name → AreNamed (entries ++ (key, c) ∷ [])
  named_more [] key c named same = (same, tt)
  named_more (entry ∷ entries) key c named same = (named.0, named_more entries key c named.1 same)

  pub values_more : (entries : List (String A × Consuming)) (key : String A) (c : Consuming)
      → values_of (entries ++ (key, c) ∷ []) ≡ values_of entries ++ c ∷ []
  values_more [] key c = refl
  values_more (entry ∷ entries) key c = ap (λ l. entry.1 ∷ l) (values_more entries key c)

-- what stands at a place
pub value_there : (cs : List Consuming) (place : ℕ) (c : Consuming) → slice_get cs place ≡ Some c → c ≡ get_or cs place c
value_there [] place c at = absurd (cc at)
value_there (d ∷ cs) zero c at = let same : d ≡ c = cc at in sym same
value_there (d ∷ cs) (suc place) c at = value_there cs place c at

-- a consumer keeps its name, whatever came of a call
pub name_kept : {T E : Type 0} (r : Result T E) (before new after : Consuming) → after.name ≡ before.name
    → OnOk r (new ≡ after) → OnErr r (new ≡ before) → new.name ≡ before.name
name_kept (Ok x) before new after same ok err = ap (λ (c : Consuming). c.name) ok ∙ same
name_kept (Err e) before new after same ok err = ap (λ (c : Consuming). c.name) err

-- a consumer of a new name is the last
module _ {A S : Type 0} (map : IndexMap (String A) Consuming S) (key : String A) (c : Consuming) (name : Name) where
  absent : AreNamed map.entries → string_bytes key ≡ name → consumer_of name (values map) ≡ None → get string_eq map key ≡ None
  absent named bytes none = found_named (string_bytes key) map.entries named ∙ ap (λ q. consumer_of q (values map)) bytes ∙ none

  pub inserted_last : (after : List (String A × Consuming)) → AreNamed map.entries → string_bytes key ≡ name
      → consumer_of name (values map) ≡ None → after ≡ insert_entry string_eq map.entries key c
      → after ≡ map.entries ++ (key, c) ∷ []
  inserted_last after named bytes none is = is ∙ insert_entry-new string_eq map key c (absent named bytes none)
